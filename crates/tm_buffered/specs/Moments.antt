-- Buffered runs: the writes of each hart wait in a buffer of its own, and drain to memory at free moments (this
-- project's own).
use Rattle.std.specs.Prelude.{◌≡◌, ℕ, ◌+◌, ◌<◌, Bool, true, false, ◌&&◌, not, nat_lt, ◌==◌, List, [], ◌∷◌, ◌++◌}
use Rattle.std.specs.Prelude.{length, Option, Some, None, unwrap_or, if◌then◌else◌, IsTrue, IsFalse, All, Contains}
use Rattle.tm_table.specs.declared.instr.Op.{Op}
use Rattle.tm_table.specs.declared.instr.Op.TheVariants.{Fence}
use Rattle.tm_table.specs.declared.instr.Instr.{Instr}
use Rattle.tm_table.specs.declared.state.Access.{Access}
use Rattle.tm_table.specs.declared.state.Access.TheVariants.{Quiet, Read, Write}
use Rattle.tm_plan_cases.specs.declared.program.Program.{Program}
use Rattle.tm_plan_map.specs.Slots.{instr_of}
use Rattle.tm_base.specs.Lists.{any}
use Rattle.tm_world.specs.Lists.{those, or_else}
use Rattle.tm_world.specs.Place.{image_byte}
use Rattle.tm_world.specs.Run.{Step, Run, hart_of, access_of, written, Reads}
use Rattle.tm_world.specs.Kinds.{Paths}
use Rattle.tm_world.specs.Course.{is_write}

-- ---- moments

-- A moment: a hart makes a step, or write w of hart h drains, where w is the number of steps before the write's own.
pub data Moment : Type 0 where
  Makes : (s : Step) → Moment
  Drains : (h w : ℕ) → Moment

-- the steps among the moments, where the newest stand first
abbrev pub steps_of : List Moment → List Step
steps_of [] = []
steps_of (Makes s ∷ before) = s ∷ steps_of before
steps_of (Drains h w ∷ before) = steps_of before

-- it is the draining of write w of hart h
abbrev pub is_drain : ℕ → ℕ → Moment → Bool
is_drain h w (Makes s) = false
is_drain h w (Drains g v) = (g == h) && (v == w)

-- write w of hart h has drained
abbrev pub has_drained : ℕ → ℕ → List Moment → Bool
has_drained h w moments = any (is_drain h w) moments

-- ---- writes

-- A write: its number, which tells how many steps were made before it; its step; and those steps.
pub record Entry : Type 0 where
  pub number : ℕ
  pub step : Step
  pub past : List Step

-- the step is a write of hart h
abbrev pub writes_by : ℕ → Step → Bool
writes_by h s = (hart_of s == h) && is_write (access_of s)

-- hart h's writes, the newest first
abbrev pub writes_of : ℕ → List Step → List Entry
writes_of h [] = []
writes_of h (s ∷ past) =
    if writes_by h s
    then record { number = length past; step = s; past = past } ∷ writes_of h past
    else writes_of h past

-- hart h's buffer: its writes that haven't drained, the newest first
abbrev pub waiting : ℕ → List Moment → List Entry
waiting h moments = those (λ e. not (has_drained h e.number moments)) (writes_of h (steps_of moments))

-- memory: the writes that have drained, the one that drained last first
abbrev pub memory : List Moment → List Entry
memory [] = []
memory (Makes s ∷ before) = memory before
memory (Drains h w ∷ before) = those (λ e. e.number == w) (writes_of h (steps_of before)) ++ memory before

-- the byte that the first of these writes that covers b leaves there
abbrev pub left_at : ℕ → List Entry → Option ℕ
left_at b [] = None
left_at b (e ∷ more) = or_else (written (access_of e.step) b) (left_at b more)

-- two writes have a byte in common
abbrev pub share : Access → Access → Bool
share (Write a n v) (Write b m w) = nat_lt a (b + m) && nat_lt b (a + n)
share (Write a n v) Quiet = false
share (Write a n v) (Read b m w) = false
share Quiet other = false
share (Read a n v) other = false

-- ---- what a moment owes

-- Write w of hart h may drain: it was made, and hasn't drained; and each earlier write of h with a byte in common with
-- it has.
pub record MayDrain (h w : ℕ) (before : List Moment) : Type 0 where
  pub write : Entry
  pub waits : Contains (waiting h before) write
  pub number : write.number ≡ w
  pub first : All (λ e. e.number < w → IsFalse (share (access_of e.step) (access_of write.step))) (waiting h before)

-- a FENCE
abbrev pub is_fence_op : Op → Bool
is_fence_op Fence = true
is_fence_op _ = false

-- a word of a FENCE, if it is one of a row
abbrev pub is_fence_instr : Option Instr → Bool
is_fence_instr None = false
is_fence_instr (Some i) = is_fence_op i.op

-- the step is a FENCE, of whatever fields
abbrev pub fences : Step → Bool
fences s = is_fence_instr (instr_of s.event.word)

-- What hart h finds at b: the last write of it in its buffer; else the write that drained last of those that cover it;
-- else the image's byte.
abbrev pub found : Program → ℕ → List Moment → ℕ → ℕ
found p h before b = unwrap_or (or_else (left_at b (waiting h before)) (left_at b (memory before))) (image_byte p b)

-- what hart h's read of b owes
abbrev pub buffered_owed : Program → ℕ → List Moment → ℕ → Option ℕ
buffered_owed p h before b = Some (found p h before b)

-- A step reads what its hart finds; where it is a FENCE, all earlier writes of its hart have drained. A write drains
-- where it may.
abbrev pub IsMoment : Program → List Moment → Moment → Type 0
IsMoment p before (Makes s) =
    (IsTrue (fences s) → waiting (hart_of s) before ≡ []) × Reads (buffered_owed p (hart_of s) before) (access_of s)
IsMoment p before (Drains h w) = MayDrain h w before

-- P holds of each moment and of those before it.
abbrev pub AtEach : (List Moment → Moment → Type 0) → List Moment → Type 0
AtEach P [] = Unit {0}
AtEach P (m ∷ before) = P before m × AtEach P before

-- ---- buffered runs

-- The registers with which each hart opens, and the moments, the newest first.
pub record Moments : Type 0 where
  pub opening : ℕ → List ℕ
  pub list : List Moment

-- these moments, with this opening
abbrev pub opened_with : (ℕ → List ℕ) → List Moment → Moments
opened_with opening list = record { opening = opening; list = list }

-- the run of its steps, in order
abbrev pub run_of : Moments → Run
run_of m = record { opening = m.opening; steps = steps_of m.list }

-- A buffered run: its steps are paths, and each moment is as said.
pub record Buffered (p : Program) (m : Moments) : Type 0 where
  pub paths : Paths p (run_of m)
  pub moments : AtEach (IsMoment p) m.list
