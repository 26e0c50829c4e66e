-- The kinds of run: paths, legal runs, plain runs and half runs (this project's own).
use Rattle.std.specs.Prelude.{◌≡◌, ◌≢◌, ℕ, ◌+◌, ◌%◌, ◌^◌, ◌<◌, ◌≤◌, Bool, false, ◌&&◌, ◌||◌, not, nat_lt, ◌==◌, List}
use Rattle.std.specs.Prelude.{length, slice_index, Option, Some, None, IsTrue, if◌then◌else◌, unwrap_or}
use Rattle.tm_table.specs.declared.state.Access.{Access}
use Rattle.tm_table.specs.declared.state.Access.TheVariants.{Quiet, Read, Write}
use Rattle.tm_table.specs.State.{Hart}
use Rattle.tm_table.specs.Row.{row_word}
use Rattle.tm_plan_cases.specs.declared.program.Program.{Program}
use Rattle.tm_plan_map.specs.Map.{guest_base, guest_end, flag_at}
use Rattle.tm_base.specs.Lists.{any, count_from}
use Rattle.tm_world.specs.Lists.{count, first_of, or_else}
use Rattle.tm_world.specs.Place.{harts, case_count, start_of, end_of, exit_of, halt_of, inside, is_text, is_table}
use Rattle.tm_world.specs.Place.{is_private, is_window, image_byte, word_at}
use Rattle.tm_world.specs.Run.{Step, Run, hart_of, pc_of, access_of, own, Always, now, first_state, last_write, Reads}
use Rattle.tm_world.specs.Run.{Writes, read_value, HasShape, phase}
use Rattle.tm_world.specs.Writers.{writers, settled, wrote}

-- ---- paths

-- aligned, and inside the guest's memory (RV64I 2.1, and this project's profile: aligned accesses alone)
abbrev pub IsReachable : ℕ → ℕ → Type 0
IsReachable addr width = (addr % width ≡ 0) × (guest_base ≤ addr) × (addr + width ≤ guest_end)

-- the access of a next step, if it has one, can be made
abbrev pub IsPossible : Access → Type 0
IsPossible Quiet = Unit {0}
IsPossible (Read addr width value) = IsReachable addr width
IsPossible (Write addr width value) = IsReachable addr width

-- The step follows the table: it is the hart's next step, at its program counter, which isn't the halt mark, with the
-- text's word there, and with the access and the result of the word's row, where a read may hold any value of its
-- width.
pub record Follows (p : Program) (h : ℕ) (before : Hart) (s : Step) : Type 0 where
  pub place : pc_of s ≡ before.pc
  pub goes : before.pc ≢ halt_of p h
  pub word : word_at p before.pc ≡ Some s.event.word
  pub row : row_word before s.event.word (read_value (access_of s)) ≡ Some (s.after, access_of s)
  pub possible : IsPossible (access_of s)
  pub shape : HasShape (access_of s)

-- Hart h's own steps are a path.
abbrev pub Path : Program → ℕ → Hart → List Step → Type 0
Path p h first = Always (λ past s. Follows p h (now first past) s)

-- ---- runs of each kind

-- Registers with which hart h may open: x0 is 0, x10 is the hart's number, the others are arbitrary.
pub record IsOpening (h : ℕ) (x : List ℕ) : Type 0 where
  pub count : length x ≡ 32
  pub fits : (r : ℕ) → slice_index x r < 2 ^ 64
  pub zero : slice_index x 0 ≡ 0
  pub number : slice_index x 10 ≡ h

-- hart h's state before its steps in a run
abbrev pub first_of_hart : Run → ℕ → Hart
first_of_hart r h = first_state (r.opening h)

-- Each hart keeps P, of its first state and its own steps, and there are steps of harts below N alone.
pub record EachHart (p : Program) (P : ℕ → Hart → List Step → Type 0) (r : Run) : Type 0 where
  pub opening : (h : ℕ) → h < harts p → IsOpening h (r.opening h)
  pub only : Always (λ past s. hart_of s < harts p) r.steps
  pub each : (h : ℕ) → h < harts p → P h (first_of_hart r h) (own h r.steps)

-- Each hart's steps are a path.
abbrev pub Paths : Program → Run → Type 0
Paths p = EachHart p (Path p)

-- ---- legal runs

-- an access that writes a byte of hart h's flag
abbrev pub writes_flag : ℕ → Access → Bool
writes_flag h (Write addr width value) = nat_lt addr (flag_at h + 8) && nat_lt (flag_at h) (addr + width)
writes_flag h Quiet = false
writes_flag h (Read addr width value) = false

-- how often hart h has written its own flag
abbrev pub flag_writes : ℕ → List Step → ℕ
flag_writes h own = count (λ s. writes_flag h (access_of s)) own

-- the phase that hart h is in after these steps of all harts
abbrev pub phase_of : Program → List Step → ℕ → ℕ
phase_of p past h = phase (exit_of p h) (own h past)

-- A step in phase q stands after every other hart's q-th write to that other hart's own flag.
abbrev pub Met : Program → List Step → Step → Type 0
Met p past s = (g : ℕ) → g < harts p → g ≢ hart_of s → phase_of p past (hart_of s) ≤ flag_writes g (own g past)

-- Some hart but h is in the list.
abbrev pub another : ℕ → List ℕ → Bool
another h hs = any (λ g. not (g == h)) hs

-- What a legal run owes hart h, in phase q, at b: nothing where another hart may write b; else h's last write of it
-- in this phase; else what it has settled to, where that isn't open.
abbrev pub legal_owed : Program → List Step → ℕ → ℕ → ℕ → Option ℕ
legal_owed p past h q b = if another h (writers p q b) then None else or_else (wrote p past q b h) (settled p past q b)

-- A legal run.
pub record Legal (p : Program) (r : Run) : Type 0 where
  pub paths : Paths p r
  pub met : Always (Met p) r.steps
  pub reads : Always (λ past s. Reads (legal_owed p past (hart_of s) (phase_of p past (hart_of s))) (access_of s))
      r.steps

-- ---- plain runs

-- the last write of b by anybody, else the image's byte
abbrev pub plain_owed : Program → List Step → ℕ → Option ℕ
plain_owed p past b = Some (unwrap_or (last_write b past) (image_byte p b))

-- A plain run: one memory, one step after another.
pub record Plain (p : Program) (r : Run) : Type 0 where
  pub paths : Paths p r
  pub reads : Always (λ past s. Reads (plain_owed p past) (access_of s)) r.steps

-- ---- half runs

-- the case in whose stream a hart with this program counter is
abbrev pub stream_at : Program → ℕ → ℕ → Option ℕ
stream_at p h pc = first_of (λ c. inside p h c pc) (count_from 0 (case_count p))

-- hart h's state in a run, after these steps of all harts
abbrev pub state_of : Run → ℕ → List Step → Hart
state_of r h past = now (first_of_hart r h) (own h past)

-- the case of the stream that it is in then
abbrev pub stream_of : Program → Run → ℕ → List Step → Option ℕ
stream_of p r h past = stream_at p h (state_of r h past).pc

-- Outside streams hart h reads its private area back, 0 where it wrote nothing yet; text and tables as in the image;
-- and anything elsewhere.
abbrev pub half_owed : Program → ℕ → List Step → ℕ → Option ℕ
half_owed p h own b =
    if is_private h b then Some (unwrap_or (last_write b own) 0)
    else (if is_text p b || is_table p b then Some (image_byte p b) else None)

-- A step inside stream (h, c): any word and any access, but it writes bytes of the windows alone, leaves x0 and x28
-- to x31 as they are, and leaves the program counter at a multiple of 4 inside the stream or at its end.
pub record Free (p : Program) (h c : ℕ) (before : Hart) (s : Step) : Type 0 where
  pub place : pc_of s ≡ before.pc
  pub shape : HasShape (access_of s)
  pub stores : Writes (λ b. IsTrue (is_window b)) (access_of s)
  pub count : length s.after.x ≡ 32
  pub fits : (r : ℕ) → slice_index s.after.x r < 2 ^ 64
  pub zero : slice_index s.after.x 0 ≡ slice_index before.x 0
  pub bases : (r : ℕ) → 28 ≤ r → slice_index s.after.x r ≡ slice_index before.x r
  pub aligned : s.after.pc % 4 ≡ 0
  pub lands : (start_of p h c ≤ s.after.pc) × (s.after.pc ≤ end_of p h c)
  pub counter : s.after.pc < 2 ^ 64

-- outside streams a step follows the table and reads what it is owed; inside stream (h, c) it is free
abbrev pub HalfStep : Program → ℕ → Option ℕ → Hart → List Step → Step → Type 0
HalfStep p h None before past s = Follows p h before s × Reads (half_owed p h past) (access_of s)
HalfStep p h (Some c) before past s = Free p h c before s

-- Hart h's own steps are those of a half run.
abbrev pub HalfPath : Program → ℕ → Hart → List Step → Type 0
HalfPath p h first = Always (λ past s. HalfStep p h (stream_at p h (now first past).pc) (now first past) past s)

-- A half run: the support code follows the table, and what a stream computes is free.
abbrev pub Half : Program → Run → Type 0
Half p = EachHart p (HalfPath p)
