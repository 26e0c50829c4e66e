-- Simulations under a script, and how they have ended.
use Rattle.std.proofs.Common.{◌≡◌, ℕ, ◌≤◌, List, [], length, ◌⊎◌, inl, inr, sym, ap, ap₂, subst, ◌∙◌, arith}
use Rattle.tm_plan_cases.specs.declared.program.Program.{Program}
use Rattle.tm_plan_cases.specs.declared.event.Event.{Event}
use Rattle.tm_plan_script.specs.declared.faults.FaultLine.{FaultLine}
use Rattle.tm_plan_script.specs.Accepted.{AreAccepted}
use Rattle.tm_world.specs.Kinds.{Plain}
use Rattle.tm_world.specs.Sound.{Sound}
use Rattle.tm_world.specs.Script.{FaultedRun}
use Rattle.tm_world.specs.Replay.{run_of}
use Rattle.tm_world.specs.Work.{NeverStuck}
use Rattle.tm_pace.specs.Laws.{NoIdleRead}
use Rattle.tm_guest.specs.declared.turn.RoundEnd.{RoundEnd}
use Rattle.tm_guest.specs.declared.turn.RoundEnd.TheVariants as ends
use Rattle.tm_guest.specs.Guested.{Guested, fresh, run, steps}
use Rattle.tm_guest.specs.Rounds.{IsSame, EndsAs, AllHalted}
use Rattle.tm_guest.specs.Budget.{HasBudget}
use Rattle.tm_guest.proofs.Budgeted.{sound-budget}
use Rattle.tm_top_owed.specs.Runs.{guest_of, IsOver, IsRunUnder, IsFull}

-- ---- before the run

-- no hart of a sound program gets stuck under an accepted script
pub never_stuck : (p : Program) (lines : List FaultLine) → Sound p → AreAccepted p.cases lines → NeverStuck p lines
never_stuck p lines sound accepted = λ r is h l. (sound.bound h l).faulted_next lines accepted r is

-- ---- the end of the run

-- turns that have ended, from a guest without an idle read on
pub over_from : (p : Program) (g t : Guested) (end : RoundEnd) → Sound p → AreAccepted p.cases g.faults
    → g.program ≡ p → NoIdleRead g.program (steps g) → IsSame g t → EndsAs end t
    → (HasBudget g → end ≡ ends.Done) → IsOver p t
over_from p g t end sound accepted its quiet same ended bounded = record {
  its_program = same.program ∙ its;
  ended = by end ended;
  ends = λ room.
      let budget = (sound-budget p).guest sound g its accepted quiet (omega (arith, room, same.limit)) in
      subst (λ (e : RoundEnd). EndsAs e t) (bounded budget) ended;
}
  where
    by : (e : RoundEnd) → EndsAs e t → AllHalted t ⊎ (length t.journal ≡ t.limit)
    by ends.Done all = inl all
    by ends.Full (full, one) = inr full

-- and from a fresh one on
pub over : (p : Program) (lines : List FaultLine) (limit : ℕ) (g t : Guested) (end : RoundEnd) → Sound p
    → AreAccepted p.cases lines → g ≡ fresh p lines limit → IsSame g t → EndsAs end t
    → (HasBudget g → end ≡ ends.Done) → IsOver p t
over p lines limit g t end sound accepted is same ended bounded =
    over_from p g t end sound (subst (λ (x : Guested). AreAccepted p.cases x.faults) (sym is) accepted)
    (ap (λ (x : Guested). x.program) is)
    ((sound-budget p).fresh g (ap (λ (x : Guested). x.journal) is)) same ended bounded

-- a guest under a script is that of its program, its lines, its limit and its journal
pub as_guest : (p : Program) (g : Guested) → IsOver p g → g ≡ guest_of p g.faults g.limit g.journal
as_guest p g over = ap (λ (q : Program). guest_of q g.faults g.limit g.journal) over.its_program

-- where some hart isn't at halt, the journal is full
pub full_of : (p : Program) (g : Guested) → IsOver p g → (AllHalted g → ⊥) → IsFull g
full_of p g over running = (by over.ended, running)
  where
    by : AllHalted g ⊎ (length g.journal ≡ g.limit) → length g.journal ≡ g.limit
    by (inl done) = absurd (running done)
    by (inr is) = is

-- ---- what is kept of it

-- Its events are those of a simulation, by what the guest tells of its journal: that it holds a run that the script
-- has changed, which is plain where that has no lines, within the limit.
pub simulated : (p : Program) (g : Guested) (events : List Event) → Sound p → AreAccepted p.cases g.faults
    → IsOver p g → events ≡ g.journal → FaultedRun g.program g.faults (run g)
    → (g.faults ≡ [] → Plain g.program (run g)) → length g.journal ≤ g.limit → IsRunUnder p g.faults g.limit events
simulated p g events sound accepted over is faulted plain few =
    let whole = as_guest p g over in
    let its_run = subst (λ (x : Guested). FaultedRun x.program x.faults (run x)) whole faulted in
    subst (IsRunUnder p g.faults g.limit) (sym is) (record {
      few = few;
      faulted = its_run;
      half = sound.faulted g.faults accepted (run_of p g.faults g.journal) its_run;
      plain = λ none. plain_run none;
      legal = λ none. sound.plain (run_of p g.faults g.journal) (plain_run none);
    })
  where
    plain_run : g.faults ≡ [] → Plain p (run_of p g.faults g.journal)
    plain_run none = subst (λ (x : Guested). Plain x.program (run x)) (as_guest p g over) (plain none)
