use Rattle.std.proofs.Common.{◌≡◌, ℕ, ◌&&◌, not, ◌==◌}
use Rattle.std.specs.Prelude.{slice_get}
use Rattle.tm_base.specs.Lists.{any, count_from}
use Rattle.tm_world.specs.Writers.{some_store_to}
use Rattle.tm_plane.specs.Plane.{in_plane}
use Rattle.tm_race.proofs.planes.others_of.Given as goal

abbrev pub invariant-loop-g : goal.invariant-loop-g
invariant-loop-g l = (b : ℕ) → in_plane l.out b
    ≡ any (λ g. not (g == l.fn.h) && some_store_to b (slice_get l.fn.case.streams g)) (count_from 0 l.g)
