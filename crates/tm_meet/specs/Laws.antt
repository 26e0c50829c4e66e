-- Laws of runs in which harts meet (this project's own).
use Rattle.std.specs.Prelude.{◌≡◌, ◌≢◌, ℕ, suc, ◌+◌, ◌<◌, ◌≤◌, Some, IsTrue, unwrap_or, if◌then◌else◌}
use Rattle.tm_plan_cases.specs.declared.program.Program.{Program}
use Rattle.tm_plan_map.specs.Map.{flag_at}
use Rattle.tm_base.specs.Lists.{any}
use Rattle.tm_world.specs.Place.{harts, image_byte, byte_of}
use Rattle.tm_world.specs.Run.{Run, Always, hart_of, own, last_write}
use Rattle.tm_world.specs.Writers.{settled}
use Rattle.tm_world.specs.Kinds.{Legal, Half, Plain, phase_of, flag_writes}
use Rattle.tm_world.specs.Course.{OnHalf, HartCourse, signals, this_phase, last_phase}
use Rattle.tm_world.specs.Whole.{SettlesFirst, Course}
use Rattle.tm_world.specs.Work.{is_idle_read}
use Rattle.tm_legal.specs.Tame.{Formed}
use Rattle.tm_memory.specs.Meet.{AllMeet}
use Rattle.tm_meet.specs.First.{SetsBeforeSignal, SetsFirst}
use Rattle.tm_stays.specs.First.{SetsDwords}
use Rattle.tm_memory.specs.Memory.{OneMemory}
use Rattle.tm_meet.specs.Waits.{Waits, IsHalted}

-- Each plain run is legal, whatever the opening and the interleaving.
abbrev pub PlainIsLegal : Program → Type 0
PlainIsLegal p = AllMeet p → (r : Run) → Plain p r → Legal p r

-- In each state of a run of one memory each flag holds how often its hart has written it: once in each phase that the
-- hart has left, and once more where it has signalled in the phase that it is in.
abbrev pub FlagsCount : Program → Type 0
FlagsCount p = AllMeet p → (r : Run) → OneMemory p r → (g : ℕ) → g < harts p
    → ((i : ℕ) → i < 8 → unwrap_or (last_write (flag_at g + i) r.steps) (image_byte p (flag_at g + i))
    ≡ byte_of (flag_writes g (own g r.steps)) i)
    × (flag_writes g (own g r.steps)
    ≡ phase_of p r.steps g + (if any (signals g) (this_phase p g (own g r.steps)) then 1 else 0))

-- In each state of a run of one memory no hart is in a later phase than all others have signalled: it leaves no
-- barrier before they have arrived.
abbrev pub NoneAhead : Program → Type 0
NoneAhead p = AllMeet p → (r : Run) → OneMemory p r → (h g : ℕ) → h < harts p → g < harts p → g ≢ h
    → (phase_of p r.steps h ≤ flag_writes g (own g r.steps)) × (phase_of p r.steps h ≤ phase_of p r.steps g + 1)

-- An idle read is made by a hart that waits.
abbrev pub IdleWaits : Program → Type 0
IdleWaits p = AllMeet p → (r : Run) → OneMemory p r
    → Always (λ past s. IsTrue (is_idle_read p (hart_of s) (own (hart_of s) past) s) → Waits p past (hart_of s)) r.steps

-- On half runs a hart at halt is in the last phase.
abbrev pub HaltIsLast : Program → Type 0
HaltIsLast p = AllMeet p → (r : Run) → Half p r → (h : ℕ) → h < harts p → IsHalted p r h
    → phase_of p r.steps h ≡ last_phase p

-- Harts never wait for each other all at once: in each state of a run of one memory, where some hart isn't at halt,
-- some such hart doesn't wait.
abbrev pub SomeGoesOn : Program → Type 0
SomeGoesOn p = AllMeet p → (r : Run) → OneMemory p r → (h : ℕ) → h < harts p → (IsHalted p r h → ⊥)
    → (g : ℕ) × (g < harts p) × (IsHalted p r g → ⊥) × (Waits p r.steps g → ⊥)

-- In each state of a plain run in which no hart is past phase q, a byte that has settled by the end of phase q is the
-- one written last.
abbrev pub SettledIsLast : Program → Type 0
SettledIsLast p = AllMeet p → (r : Run) → Plain p r → (q b v : ℕ) → ((g : ℕ) → g < harts p → phase_of p r.steps g ≤ q)
    → settled p r.steps (suc q) b ≡ Some v → v ≡ unwrap_or (last_write b r.steps) (image_byte p b)

-- Where a hart comes into a stream on a legal run, shared memory has settled to the case's first bytes.
abbrev pub FirstBytesSettle : Program → Type 0
FirstBytesSettle p = AllMeet p → ((h : ℕ) → h < harts p → SetsFirst p h) → (r : Run) → Legal p r → SettlesFirst p r

-- Who sets the dwords that it collects sets their bytes.
abbrev pub DwordsSet : Program → Type 0
DwordsSet p = Formed p → (h : ℕ) → OnHalf p h (SetsDwords p h) → OnHalf p h (SetsBeforeSignal p h)

-- So a program keeps the course where each of its harts does, and sets first bytes.
abbrev pub CourseKept : Program → Type 0
CourseKept p = Formed p → ((h : ℕ) → h < harts p → HartCourse p h) → ((h : ℕ) → h < harts p → SetsFirst p h) → Course p
