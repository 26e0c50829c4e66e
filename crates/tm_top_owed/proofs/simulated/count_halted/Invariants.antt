use Rattle.std.proofs.Common.{◌≡◌, ◌≤◌, ℕ, ◌==◌}
use Rattle.std.specs.List.{count_by}
use Rattle.tm_base.specs.Lists.{count_from}
use Rattle.tm_world.specs.Place.{halt_of}
use Rattle.tm_guest.specs.Guested.{state}
use Rattle.tm_top_owed.proofs.simulated.count_halted.Given as goal

abbrev pub invariant-loop-h : goal.invariant-loop-h
invariant-loop-h l =
    (l.halted ≤ l.h)
    × (l.halted ≡ count_by (λ (h : ℕ). (state l.guest h).pc == halt_of l.guest.program h) (count_from 0 l.h))
