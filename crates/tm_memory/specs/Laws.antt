-- Laws of runs of one memory (this project's own).
use Rattle.std.specs.Prelude.{ℕ, ◌^◌, ◌<◌, List, []}
use Rattle.tm_plan_cases.specs.declared.program.Program.{Program}
use Rattle.tm_plan_script.specs.declared.faults.FaultLine.{FaultLine}
use Rattle.tm_plan_script.specs.Laws.{AreSmall}
use Rattle.tm_world.specs.Place.{harts}
use Rattle.tm_world.specs.Run.{Run}
use Rattle.tm_world.specs.Kinds.{Legal, Half, Plain}
use Rattle.tm_world.specs.Course.{OnHalf, KeepsOrder, EntersFresh, KeepsWrites, HartCourse}
use Rattle.tm_world.specs.Whole.{WritesRight}
use Rattle.tm_world.specs.Work.{GoesOn, GoesOnAlways, GoOn, NeverStuck}
use Rattle.tm_world.specs.Script.{FaultedRun}
use Rattle.tm_world.specs.Sound.{Sound}
use Rattle.tm_legal.specs.Tame.{Formed}
use Rattle.tm_memory.specs.Meet.{AllMeet}
use Rattle.tm_memory.specs.Memory.{OneMemory}
use Rattle.tm_world.specs.Faulted.{Change, Faulted, nothing}

-- Harts that keep the course meet.
abbrev pub CourseMeets : Program → Type 0
CourseMeets p = Formed p → ((h : ℕ) → h < harts p → HartCourse p h) → AllMeet p

-- Each run of one memory is a half run, where outside streams each hart writes only what it may on half runs.
abbrev pub MemoryIsHalf : Program → Type 0
MemoryIsHalf p = Formed p → ((h : ℕ) → h < harts p → OnHalf p h (KeepsWrites p h)) → (r : Run) → OneMemory p r
    → Half p r

-- Each plain run is a run of one memory.
abbrev pub PlainIsMemory : Program → Type 0
PlainIsMemory p = AllMeet p → (r : Run) → Plain p r → OneMemory p r

-- Each plain run is a half run.
abbrev pub PlainIsHalf : Program → Type 0
PlainIsHalf p = AllMeet p → (r : Run) → Plain p r → Half p r

-- Each run in which steps of streams are changed, with numbers of 64 bits xored to results, is a run of one memory.
abbrev pub FaultedIsMemory : Program → Type 0
FaultedIsMemory p = AllMeet p → (change : ℕ → ℕ → ℕ → Change) → ((h q pc : ℕ) → (change h q pc).result < 2 ^ 64)
    → (r : Run) → Faulted p change r → OneMemory p r

-- So it is a half run.
abbrev pub FaultedIsHalf : Program → Type 0
FaultedIsHalf p = AllMeet p → (change : ℕ → ℕ → ℕ → Change) → ((h q pc : ℕ) → (change h q pc).result < 2 ^ 64)
    → (r : Run) → Faulted p change r → Half p r

-- Where nothing is changed it is a plain run, and each plain run is one.
pub record NothingIsPlain (p : Program) : Type 0 where
  pub plain : (r : Run) → Faulted p (λ _ _ _. nothing) r → Plain p r
  pub faulted : (r : Run) → Plain p r → Faulted p (λ _ _ _. nothing) r

-- On legal runs all writes are of bytes that may be written.
abbrev pub LegalWritesRight : Program → Type 0
LegalWritesRight p = AllMeet p → (r : Run) → Legal p r → WritesRight p r

-- On half runs no hart gets stuck that doesn't outside streams: where it isn't at halt it has a next step, inside its
-- streams too.
abbrev pub NoneStuck : Program → Type 0
NoneStuck p = Formed p → (h : ℕ) → h < harts p → OnHalf p h (KeepsOrder p h) → OnHalf p h (EntersFresh p h)
    → OnHalf p h (GoesOn p h) → OnHalf p h (GoesOnAlways p h)

-- So on legal runs, on plain runs, on all runs of one memory, and on runs in which steps of streams are changed.
pub record Unstuck (p : Program) : Type 0 where
  pub legal : (r : Run) → Legal p r → GoOn p r
  pub plain : (r : Run) → Plain p r → GoOn p r
  pub memory : (r : Run) → OneMemory p r → GoOn p r
  pub faulted : (change : ℕ → ℕ → ℕ → Change) → ((h q pc : ℕ) → (change h q pc).result < 2 ^ 64) → (r : Run)
      → Faulted p change r → GoOn p r

-- where harts meet, and on half runs don't get stuck outside streams
abbrev pub AllUnstuck : Program → Type 0
AllUnstuck p = AllMeet p → ((h : ℕ) → h < harts p → OnHalf p h (GoesOn p h)) → Unstuck p

-- ---- scripts

-- A run that no line has changed is a plain run, and each plain run is one.
pub record NoLinesArePlain (p : Program) : Type 0 where
  pub plain : (r : Run) → FaultedRun p [] r → Plain p r
  pub faulted : (r : Run) → Plain p r → FaultedRun p [] r

-- Each run that the script has changed is a half run, and on none a hart gets stuck.
pub record HalfAndUnstuck (p : Program) (lines : List FaultLine) : Type 0 where
  pub half : (r : Run) → FaultedRun p lines r → Half p r
  pub unstuck : NeverStuck p lines

-- So it is for a formed program whose harts keep the course, and on half runs don't get stuck outside streams,
abbrev pub CourseKeeps : Program → Type 0
CourseKeeps p = Formed p → ((h : ℕ) → h < harts p → HartCourse p h) → ((h : ℕ) → h < harts p → OnHalf p h (GoesOn p h))
    → (lines : List FaultLine) → AreSmall lines → HalfAndUnstuck p lines

-- and for a sound program, whether the script is accepted or not.
abbrev pub SoundKeeps : Program → Type 0
SoundKeeps p = Sound p → (lines : List FaultLine) → AreSmall lines → HalfAndUnstuck p lines
