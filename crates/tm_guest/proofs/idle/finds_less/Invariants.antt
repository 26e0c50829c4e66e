use Rattle.std.proofs.Common.{◌≡◌, ℕ, ◌<◌, false, ◌&&◌, ◌==◌, not}
use Rattle.tm_plan_map.specs.Map.{flag_at}
use Rattle.tm_world.specs.Work.{gets_less}
use Rattle.tm_guest.proofs.idle.finds_less.Given as goal

abbrev pub invariant-loop-g : goal.invariant-loop-g
invariant-loop-g l = (g : ℕ) → g < l.g → (not (g == l.h) && gets_less (flag_at g) l.most l.access) ≡ false
