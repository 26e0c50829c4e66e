use Rattle.std.proofs.Common.{◌≡◌, ℕ, take}
use Rattle.tm_base.specs.Lists.{any}
use Rattle.tm_world.specs.Writers.{is_store_to}
use Rattle.tm_plane.specs.Plane.{in_plane}
use Rattle.tm_race_walk.proofs.stores.words_plane.Given as goal

abbrev pub invariant-loop-word : goal.invariant-loop-word
invariant-loop-word l = (b : ℕ) → in_plane l.plane b ≡ any (is_store_to b) (take l.word-index l.words)
