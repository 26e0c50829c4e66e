-- No idle read comes into a journal by a turn that isn't held back.
use Rattle.std.proofs.Common.{◌≡◌, ℕ, List, [], Bool, true, false, refl, sym, subst}
use Rattle.std.specs.Prelude.{IsTrue, IsFalse}
use Rattle.tm_plan_cases.specs.declared.event.Event.{Event}
use Rattle.tm_world.specs.Run.{Always, hart_of, own}
use Rattle.tm_world.specs.Work.{is_idle_read}
use Rattle.tm_guest.specs.declared.turn.Turn.{Turn}
use Rattle.tm_guest.specs.declared.turn.Turn.TheVariants.{Stepped, Halted, Full}
use Rattle.tm_guest.specs.Guested.{Guested, steps, with_event}
use Rattle.tm_world.specs.Replay.{stepped, steps_of}
use Rattle.tm_guest.specs.Turns.{Answers, Makes}
use Rattle.tm_guest.specs.Waiting.{IsIdle}
use Rattle.tm_world.proofs.Replaying.{steps-more}
use Rattle.tm_harts.specs.Idle.{NoIdle}
use Rattle.tm_harts.specs.Turns.{HoldsBack}

-- A guest before its first step has made no read.
pub no_idle-fresh : (g : Guested) → g.journal ≡ [] → NoIdle g
unfolding steps_of
no_idle-fresh g e =
    subst (λ (events : List Event). NoIdle (record g { journal = events })) (sym e) tt

false_where : (b : Bool) → ¬ IsTrue b → IsFalse b
false_where true n = absurd (n refl)
false_where false n = refl

not_idle : (g : Guested) (h : ℕ) (e : Event) → e.hart ≡ h → ¬ IsIdle g h e
    → let s = stepped g.program g.faults (steps g) e in
    IsFalse (is_idle_read g.program (hart_of s) (own (hart_of s) (steps g)) s)
not_idle g h e is n =
    let s = stepped g.program g.faults (steps g) e in
    subst (λ (k : ℕ). IsFalse (is_idle_read g.program k (own k (steps g)) s)) (sym is)
    (false_where (is_idle_read g.program h (own h (steps g)) s) n)

made : (g after : Guested) (h place : ℕ) (e : Event) → ¬ HoldsBack g h → Makes g h place e after → NoIdle g
    → NoIdle after
made g after h place e n m ok =
    let idle = λ (i : IsIdle g h e). n ((m.off_halt, (e, m.next, i)), m.room) in
    let more : NoIdle (with_event g e) =
    subst (Always (λ past s. IsFalse (is_idle_read g.program (hart_of s) (own (hart_of s) past) s)))
    (sym (steps-more g.program g.faults g.journal e)) (not_idle g h e m.next.hart idle, ok) in
    subst NoIdle (sym m.longer) more

-- The turn of a hart that doesn't hold back makes no idle read.
pub no_idle-after : (g after : Guested) (h : ℕ) (turn : Turn) → ¬ HoldsBack g h → Answers g h turn after → NoIdle g
    → NoIdle after
no_idle-after g after h Halted n a ok = subst NoIdle (sym a.1) ok
no_idle-after g after h Full n a ok = subst NoIdle (sym a.2) ok
no_idle-after g after h (Stepped place e) n a ok = made g after h place e n a ok
