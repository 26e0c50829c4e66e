-- What is judged of the journals of runs.
use Rattle.std.proofs.Common.{◌≡◌, ℕ, List, [], ◌∷◌, refl, sym, ap, ap₂, ◌∙◌, subst}
use Rattle.std.specs.Prelude.{reverse}
use Rattle.tm_plan_cases.specs.declared.program.Program.{Program}
use Rattle.tm_plan_cases.specs.declared.event.Event.{Event}
use Rattle.tm_world.specs.Run.{Step}
use Rattle.tm_world.specs.Kinds.{Plain}
use Rattle.tm_world.specs.Sound.{Sound}
use Rattle.tm_world.specs.Script.{FaultedRun}
use Rattle.tm_world.specs.Replay.{replay, steps_of as replayed_steps, run_of as replayed}
use Rattle.tm_memory.proofs.Keeping.{no-lines}
use Rattle.tm_memory.proofs.NoLines.{stepped-row}
use Rattle.tm_judge.specs.declared.answers.Answer.{Answer}
use Rattle.tm_judge.specs.declared.answers.Answer.TheVariants.{Yes, No}
use Rattle.tm_judge.specs.declared.answers.Judgement.{Judgement}
use Rattle.tm_judge.specs.Causes.{Question, OfPath, OfPlain, OfLegal, IsOne}
use Rattle.tm_judge.specs.Recorded.{step_of, recorded, steps_of, opened, run_of}
use Rattle.tm_judge.specs.Judged.{Answered, Judged}
use Rattle.tm_judge.specs.Laws.{YesIsExact, JournalsAreJudged}

-- a script without lines leaves the recorded steps
replay-recorded : (p : Program) (events : List Event) → replay p [] events ≡ recorded events
replay-recorded p [] = refl
replay-recorded p (e ∷ past) =
    let same = replay-recorded p past in
    ap₂ (λ (s : Step) (steps : List Step). s ∷ steps) (stepped-row p (replay p [] past) e e.hart refl
    ∙ ap (λ (steps : List Step). step_of steps e) same) same

replayed-recorded : (p : Program) (events : List Event) → replayed_steps p [] events ≡ steps_of events
unfolding replayed_steps steps_of
replayed-recorded p events = replay-recorded p (reverse events)

pub yes-exact : (p : Program) → YesIsExact p
yes-exact p q events Yes a one = refl
yes-exact p q events (No place why) a one = absurd (a.whole one)

pub journals-judged : (p : Program) → JournalsAreJudged p
journals-judged p sound events j faulted judged =
    let run : Plain p (run_of events) =
    subst (λ (steps : List Step). Plain p (opened steps)) (replayed-recorded p events)
    ((no-lines p).plain (replayed p [] events) faulted) in (
      yes-exact p OfPath events j.path judged.path run.paths,
      yes-exact p OfPlain events j.plain judged.plain run,
      yes-exact p OfLegal events j.legal judged.legal (sound.plain (run_of events) run),
    )
