-- Laws of judgements (this project's own).
use Rattle.std.specs.Prelude.{◌≡◌, ℕ, List, []}
use Rattle.tm_plan_cases.specs.declared.program.Program.{Program}
use Rattle.tm_plan_cases.specs.declared.event.Event.{Event}
use Rattle.tm_world.specs.Sound.{Sound}
use Rattle.tm_world.specs.Script.{FaultedRun}
use Rattle.tm_world.specs.Replay.{run_of as replayed}
use Rattle.tm_judge.specs.declared.answers.Answer.{Answer}
use Rattle.tm_judge.specs.declared.answers.Answer.TheVariants.{Yes}
use Rattle.tm_judge.specs.declared.answers.Judgement.{Judgement}
use Rattle.tm_judge.specs.Causes.{Question, IsOne}
use Rattle.tm_judge.specs.Recorded.{run_of}
use Rattle.tm_judge.specs.Judged.{Answered, Judged}

-- An answer is Yes exactly where the recorded run is what was asked.
abbrev pub YesIsExact : Program → Type 0
YesIsExact p = (q : Question) (events : List Event) (a : Answer) → Answered q p events a → IsOne q p (run_of events)
    → a ≡ Yes

-- Of a sound program the journal of each run without a script is judged Yes three times.
abbrev pub JournalsAreJudged : Program → Type 0
JournalsAreJudged p = Sound p → (events : List Event) (j : Judgement) → FaultedRun p [] (replayed p [] events)
    → Judged p events j → (j.path ≡ Yes) × (j.plain ≡ Yes) × (j.legal ≡ Yes)

-- To each question about a recorded run there is one true answer at most.
abbrev pub OneAnswer : Program → Type 0
OneAnswer p = (q : Question) (events : List Event) (a b : Answer) → Answered q p events a → Answered q p events b
    → a ≡ b
