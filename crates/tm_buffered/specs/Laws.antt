-- Laws of buffered runs (this project's own).
use Rattle.std.specs.Prelude.{◌≡◌, ℕ, ◌<◌, List}
use Rattle.tm_plan_cases.specs.declared.program.Program.{Program}
use Rattle.tm_world.specs.Place.{harts}
use Rattle.tm_world.specs.Run.{Run}
use Rattle.tm_world.specs.Kinds.{Legal, Half, Plain}
use Rattle.tm_world.specs.Course.{OnHalf}
use Rattle.tm_world.specs.Work.{GoesOn, GoOn}
use Rattle.tm_world.specs.Reported.{NotReported}
use Rattle.tm_world.specs.Sound.{Sound}
use Rattle.tm_memory.specs.Meet.{AllMeet}
use Rattle.tm_buffered.specs.Moments.{Moment, Moments, Buffered, opened_with, run_of, steps_of}

-- Each plain run is a buffered run: its steps are those of one whose writes drain at once.
abbrev pub PlainIsBuffered : Program → Type 0
PlainIsBuffered p = (r : Run) → Plain p r
    → (list : List Moment) × (steps_of list ≡ r.steps) × Buffered p (opened_with r.opening list)

-- The steps of each buffered run are a half run,
abbrev pub BufferedIsHalf : Program → Type 0
BufferedIsHalf p = AllMeet p → (m : Moments) → Buffered p m → Half p (run_of m)

-- and a legal run, whatever the opening, the interleaving, and when writes drain.
abbrev pub BufferedIsLegal : Program → Type 0
BufferedIsLegal p = AllMeet p → (m : Moments) → Buffered p m → Legal p (run_of m)

-- No hart gets stuck on a buffered run: where it isn't at halt it has a next step.
abbrev pub BufferedGoesOn : Program → Type 0
BufferedGoesOn p = AllMeet p → ((h : ℕ) → h < harts p → OnHalf p h (GoesOn p h)) → (m : Moments) → Buffered p m
    → GoOn p (run_of m)

-- what a sound program keeps on a buffered run
pub record BufferedKeeps (p : Program) (m : Moments) : Type 0 where
  pub legal : Legal p (run_of m)
  pub half : Half p (run_of m)
  pub silent : NotReported p (run_of m)
  pub unstuck : GoOn p (run_of m)

-- Each buffered run of a sound program is legal; so it is a half run, and no round case is reported; and no hart gets
-- stuck.
abbrev pub SoundBuffered : Program → Type 0
SoundBuffered p = Sound p → (m : Moments) → Buffered p m → BufferedKeeps p m
