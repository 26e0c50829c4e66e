-- A run in round order of a guest within its budget ends with all harts at halt.
use Rattle.std.proofs.Common.{◌≡◌, ℕ, suc, ◌≤◌, ◌<◌, List, [], ◌∷◌, refl, sym, ap, subst, arith}
use Rattle.tm_plan_cases.specs.declared.program.Program.{Program}
use Rattle.tm_plan_cases.specs.declared.event.Event.{Event}
use Rattle.tm_plan_script.specs.declared.faults.FaultLine.{FaultLine}
use Rattle.tm_world.specs.Place.{harts, halt_of}
use Rattle.tm_world.specs.Run.{Step}
use Rattle.tm_world.specs.Script.{FaultedRun}
use Rattle.tm_rounds.specs.Turns.{Turns}
use Rattle.tm_rounds.specs.Turns as turns
use Rattle.tm_rounds.proofs.Budget.{round-budget}
use Rattle.tm_guest.specs.declared.turn.RoundEnd.{RoundEnd}
use Rattle.tm_guest.specs.declared.turn.RoundEnd.TheVariants as ends
use Rattle.tm_world.specs.Replay.{opening, state_after, stepped, steps_of, run_of}
use Rattle.tm_guest.specs.Guested.{Guested, IsHalted, run, steps}
use Rattle.tm_guest.specs.Rounds.{Goes, Begins, Steps, Skips, Wraps, IsSame, EndsAs}
use Rattle.tm_guest.specs.Budget.{HasBudget}
use Rattle.tm_guest.specs.Laws.{SoundHasBudget}
use Rattle.tm_plan_cases.specs.declared.cases.Cases.{Cases}
use Rattle.tm_plan_cases.specs.Collected.{budget_of}
use Rattle.tm_plan_script.specs.Accepted.{AreAccepted}
use Rattle.tm_world.specs.Sound.{Sound}
use Rattle.tm_pace.specs.Laws.{NoIdleRead}
use Rattle.tm_world.proofs.Replaying.{steps-more, length-steps}

-- hart h at its halt mark after these events
abbrev At : Program → List FaultLine → List Event → ℕ → Type 0
At p lines events h = (state_after (steps_of p lines events) h).pc ≡ halt_of p h

-- turns that lead to these events
abbrev Leads : Guested → ℕ → List Event → Type 0
Leads from h events =
    Turns from.program opening (steps from) h (steps_of from.program from.faults events)

-- the guest of the same program and script, and these events
abbrev same-guest : (from x : Guested) → Guested
same-guest from x = record {
  program = from.program;
  faults = from.faults;
  limit = from.limit;
  journal = x.journal;
}

is-same : (from x : Guested) → IsSame from x → x ≡ same-guest from x
is-same from x s = λ i. record {
  program = s.program i;
  faults = s.faults i;
  limit = s.limit i;
  journal = x.journal;
}

-- a step of the hart whose turn it is
one-turn : (p : Program) (from past : List Step) (s : Step) (h : ℕ) → s.event.hart ≡ h
    → Turns p opening from h past → h < harts p → ((state_after past h).pc ≡ halt_of p h → ⊥)
    → Turns p opening from (suc h) (s ∷ past)
one-turn p from past s h e b l off =
    subst (λ (k : ℕ). Turns p opening from (suc k) (s ∷ past)) e
    (turns.Steps s (subst (λ (k : ℕ). Turns p opening from k past) (sym e) b)
    (subst (λ (k : ℕ). k < harts p) (sym e) l)
    (subst (λ (k : ℕ). (state_after past k).pc ≡ halt_of p k → ⊥) (sym e) off))

-- Turns of guests are turns of their steps.
leads : (from : Guested) (h : ℕ) (t : Guested) → Goes from h t → IsSame from t × Leads from h t.journal
leads from h t Begins = (record { program = refl; faults = refl; limit = refl }, turns.Begins)
leads from h t (Steps {h = k} {g = x} e b l off next) =
    let (same, before) = leads from k x b in
    let go = one-turn from.program (steps from) (steps_of from.program from.faults x.journal)
    (stepped from.program from.faults (steps_of from.program from.faults x.journal) e) k next.hart before l
    (subst (λ (y : Guested). IsHalted y k → ⊥) (is-same from x same) off) in (
      record { program = same.program; faults = same.faults; limit = same.limit },
      subst (Turns from.program opening (steps from) (suc k))
          (sym (steps-more from.program from.faults x.journal e)) go,
    )
leads from h t (Skips {h = k} {g = x} b l halted) =
    let (same, before) = leads from k x b in
    (same, turns.Skips before l (subst (λ (y : Guested). IsHalted y k) (is-same from x same) halted))
leads from h t (Wraps {g = x} b) =
    let (same, before) = leads from (harts from.program) x b in
    (same, turns.Wraps before)

-- So it doesn't end full.
pub in-budget : (g t : Guested) (h : ℕ) (end : RoundEnd) → HasBudget g → FaultedRun t.program t.faults (run t)
    → Goes g h t → EndsAs end t → end ≡ ends.Done
in-budget g t h ends.Done budget faulted goes ended = refl
in-budget g t h ends.Full budget faulted goes ended =
    let p = g.program in
    let (same, order) = leads g h t goes in
    let is = is-same g t same in
    let its : FaultedRun p g.faults (run_of p g.faults t.journal) =
    subst (λ (y : Guested). FaultedRun y.program y.faults (run y)) is faulted in
    let off : (k : ℕ) × (k < harts p) × (¬ IsHalted (same-guest g t) k) =
    subst (λ (y : Guested). (k : ℕ) × (k < harts y.program) × (¬ IsHalted y k)) is ended.1 in
    let few = round-budget p budget.program budget.typed budget.course budget.bound g.faults budget.script
    (run_of p g.faults t.journal) its (steps g) budget.no_idle h order off in
    absurd (omega (arith, length-steps p g.faults t.journal, budget.room, same.limit, ended.0))

-- A guest before its first step has no step.
pub none-idle : (g : Guested) → g.journal ≡ [] → steps g ≡ []
unfolding steps_of
none-idle g none = subst (λ (es : List Event). steps_of g.program g.faults es ≡ []) (sym none) refl

fresh-quiet : (g : Guested) → g.journal ≡ [] → NoIdleRead g.program (steps g)
fresh-quiet g none = subst (NoIdleRead g.program) (sym (none-idle g none)) tt

sound-guest : (p : Program) → Sound p → (g : Guested) → g.program ≡ p → AreAccepted p.cases g.faults
    → NoIdleRead g.program (steps g) → budget_of p.cases ≤ g.limit → HasBudget g
sound-guest p sound g its script quiet room =
    let at : Guested = record { program = p; faults = g.faults; limit = g.limit; journal = g.journal } in
    let is : g ≡ at = ap (λ (q : Program). record {
      program = q;
      faults = g.faults;
      limit = g.limit;
      journal = g.journal;
    }) its in
    subst HasBudget (sym is) (record {
      program = sound.program;
      typed = sound.typed;
      course = sound.course;
      bound = sound.bound;
      script = script;
      no_idle = subst (λ (x : Guested). NoIdleRead x.program (steps x)) is quiet;
      room = room;
    })

none-accepted : (cases : Cases) → AreAccepted cases []
none-accepted cases = record {
  each = λ k d few. absurd (omega (arith, few));
  once = λ i j d l few. absurd (omega (arith, few));
}

pub sound-budget : (p : Program) → SoundHasBudget p
sound-budget p = record { guest = sound-guest p; fresh = fresh-quiet; none = none-accepted p.cases }
