-- Which hart waits.
use Rattle.std.proofs.Common.{◌≡◌, ℕ, ◌+◌, Bool, true, ◌&&◌, ◌==◌, not}
use Rattle.std.proofs.Common.{sym, ap, ◌∙◌, subst}
use Rattle.std.specs.Prelude.{◌↔◌, IsTrue}
use Rattle.tm_base.specs.Lists.{any, count_from}
use Rattle.tm_table.specs.declared.state.Access.{Access}
use Rattle.tm_plan_map.specs.Map.{flag_at}
use Rattle.tm_plan_cases.specs.declared.event.Event.{Event}
use Rattle.tm_world.specs.Place.{harts, exit_of}
use Rattle.tm_world.specs.Run.{own, phase}
use Rattle.tm_world.specs.Course.{signals, this_phase}
use Rattle.tm_world.specs.Work.{gets_less, is_idle_read}
use Rattle.tm_world.specs.Replay.{stepped}
use Rattle.tm_guest.specs.Guested.{Guested, steps, IsHalted}
use Rattle.tm_guest.specs.Turns.{IsNextEvent}
use Rattle.tm_guest.specs.Waiting.{IsIdle, Waits}
use Rattle.tm_guest.proofs.Unique.{one-next}

-- The access reads the flag of one of n harts but h, and finds less than most.
abbrev pub finds_low : ℕ → ℕ → ℕ → Access → Bool
finds_low h n most access = any (λ g. not (g == h) && gets_less (flag_at g) most access) (count_from 0 n)

-- A hart that isn't at halt and has signalled waits exactly where its next event's access finds too little.
pub waits-by : (g : Guested) (h n most : ℕ) (e : Event) (access : Access) (found : Bool) → (¬ IsHalted g h)
    → IsNextEvent g h e → e.access ≡ access
    → any (signals h) (this_phase g.program h (own h (steps g))) ≡ true
    → n ≡ harts g.program → most ≡ phase (exit_of g.program h) (own h (steps g)) + 1
    → found ≡ finds_low h n most access → IsTrue found ↔ Waits g h
waits-by g h n most e access found off next same signalled all count is = (
  λ t. (off, (e, next, subst IsTrue (sym idle) t)),
  λ (w : Waits g h).
      let (o, (d, m, i)) = w in
      subst IsTrue idle (subst (IsIdle g h) (one-next g h d e m next) i),
)
  where
    least : ℕ
    least = phase (exit_of g.program h) (own h (steps g)) + 1

    idle : is_idle_read g.program h (own h (steps g)) (stepped g.program g.faults (steps g) e) ≡ found
    idle =
        ap (λ (b : Bool). b && finds_low h (harts g.program) least e.access) signalled
        ∙ (ap (finds_low h (harts g.program) least) same
        ∙ (ap (λ (k : ℕ). finds_low h k least access) (sym all)
        ∙ (ap (λ (k : ℕ). finds_low h n k access) (sym count) ∙ sym is)))
