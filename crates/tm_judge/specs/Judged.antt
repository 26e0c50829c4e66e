-- What a judge answers of a recorded run (this project's own).
use Rattle.std.specs.Prelude.{◌≡◌, ◌≢◌, ℕ, ◌+◌, ◌<◌, List, Option, Some, None, Result, Ok, Err, slice_get, take}
use Rattle.tm_plan_cases.specs.declared.event.Event.{Event}
use Rattle.tm_plan_cases.specs.declared.program.Program.{Program}
use Rattle.tm_trace.specs.declared.trace.Trace.{Trace}
use Rattle.tm_world.specs.Place.{harts}
use Rattle.tm_judge.specs.declared.answers.Why.{Why}
use Rattle.tm_judge.specs.declared.answers.Answer.{Answer}
use Rattle.tm_judge.specs.declared.answers.Answer.TheVariants.{Yes, No}
use Rattle.tm_judge.specs.declared.answers.Judgement.{Judgement}
use Rattle.tm_judge.specs.declared.answers.JudgeFault.{JudgeFault}
use Rattle.tm_judge.specs.declared.answers.JudgeFault.TheVariants.{Harts, NoMemory}
use Rattle.tm_judge.specs.Recorded.{run_of, steps_of}
use Rattle.tm_judge.specs.Causes.{Question, OfPath, OfPlain, OfLegal, IsOne, IsFirst}

-- The recorded run isn't one, and the place is the least such that the events up to and with it aren't one; and the
-- first cause that holds there.
pub record Breaks (q : Question) (p : Program) (events : List Event) (place : ℕ) (why : Why) : Type 0 where
  pub least : (k : ℕ) → k < place → IsOne q p (run_of (take (k + 1) events))
  pub breaks : ¬ IsOne q p (run_of (take (place + 1) events))
  pub whole : ¬ IsOne q p (run_of events)
  pub event : Event
  pub stands : slice_get events place ≡ Some event
  pub cause : IsFirst q p (steps_of (take place events)) event why

-- the true answer to a question
abbrev pub Answered : Question → Program → List Event → Answer → Type 0
Answered q p events Yes = IsOne q p (run_of events)
Answered q p events (No place why) = Breaks q p events place why

-- the three true answers
pub record Judged (p : Program) (events : List Event) (j : Judgement) : Type 0 where
  pub path : Answered OfPath p events j.path
  pub plain : Answered OfPlain p events j.plain
  pub legal : Answered OfLegal p events j.legal

-- What `judge` answers: another number of harts than the program's is refused, and only that.
abbrev pub Judges : Program → Trace → Result Judgement JudgeFault → Type 0
Judges p trace (Ok j) = (trace.harts ≡ harts p) × Judged p trace.events.events j
Judges p trace (Err (Harts n)) = (trace.harts ≢ harts p) × (n ≡ trace.harts)
Judges p trace (Err NoMemory) = Unit {0}

-- an answer after one event more, of which this fault was found
abbrev pub answer_with : Answer → ℕ → Option Why → Answer
answer_with (No before why) place fault = No before why
answer_with Yes place None = Yes
answer_with Yes place (Some why) = No place why
