-- What each hart of a program does on its own steps, on every half run (this project's own).
use Rattle.std.specs.Prelude.{◌≡◌, ◌≢◌, ℕ, zero, suc, ◌+◌, ◌-◌, ◌*◌, ◌%◌, ◌<◌, ◌≤◌, Bool, true, false, ◌&&◌, ◌||◌}
use Rattle.std.specs.Prelude.{nat_lt, nat_le, ◌==◌, List, ◌∷◌, slice_index, Option, Some, None, IsTrue, IsFalse}
use Rattle.std.specs.Prelude.{IfSome, All}
use Rattle.tm_table.specs.declared.state.Access.{Access}
use Rattle.tm_table.specs.declared.state.Access.TheVariants.{Quiet, Read, Write}
use Rattle.tm_table.specs.State.{Hart}
use Rattle.tm_plan_cases.specs.declared.program.Program.{Program}
use Rattle.tm_plan_cases.specs.declared.cases.Stream.{Stream}
use Rattle.tm_plan_map.specs.Map.{flag_at, verdict_at, window_at}
use Rattle.tm_plan_cases.specs.Collected.{is_declared, owned}
use Rattle.tm_base.specs.Lists.{any, count_from}
use Rattle.tm_world.specs.Lists.{front_to, IsFront}
use Rattle.tm_world.specs.Place.{harts, round_count, case_of_round, first_registers, passes, end_of, exit_of, halt_of}
use Rattle.tm_world.specs.Place.{is_flag, is_private}
use Rattle.tm_world.specs.Run.{Step, Run, own, Always, now, pc_of, access_of, phase, in_phase, Writes}
use Rattle.tm_world.specs.Writers.{may_write, run_phase, case_of_phase, round_of_phase}
use Rattle.tm_plan_cases.specs.Streams.{stream_in}
use Rattle.tm_world.specs.Kinds.{Half, first_of_hart, stream_at, writes_flag}
use Rattle.tm_world.specs.Marks.{Enter, comes_to, visited, whole_way}

-- On each half run P holds of hart h's first state and its own steps.
abbrev pub OnHalf : Program → ℕ → (Hart → List Step → Type 0) → Type 0
OnHalf p h P = (r : Run) → Half p r → P (first_of_hart r h) (own h r.steps)

-- ---- the order of the marks

-- The hart comes to its marks in order, and to no other place of its streams.
abbrev pub KeepsOrder : Program → ℕ → Hart → List Step → Type 0
KeepsOrder p h first own = IsFront (visited p h first own) (whole_way p)

-- ---- the first registers

-- x1 to x31 are these registers
abbrev pub IsFresh : List ℕ → Hart → Type 0
IsFresh regs hart = (r : ℕ) → 1 ≤ r → r < 32 → slice_index hart.x r ≡ slice_index regs r

-- The hart comes into each of its streams with its first registers there.
abbrev pub EntersFresh : Program → ℕ → Hart → List Step → Type 0
EntersFresh p h first = Always (λ past s. (e : ℕ) (stream : Stream)
    → stream_in p.cases (case_of_round p e) h ≡ Some stream
    → IsTrue (comes_to p h (Enter (case_of_round p e)) (now first past).pc s.after.pc)
    → IsFresh (first_registers p e stream) s.after)

-- ---- tests of one step

-- it writes one of the n bytes from a
abbrev pub writes_in : ℕ → ℕ → Access → Bool
writes_in a n (Write addr width value) = nat_lt addr (a + n) && nat_lt a (addr + width)
writes_in a n Quiet = false
writes_in a n (Read addr width value) = false

-- it reads one of the n bytes from a
abbrev pub reads_in : ℕ → ℕ → Access → Bool
reads_in a n (Read addr width value) = nat_lt addr (a + n) && nat_lt a (addr + width)
reads_in a n Quiet = false
reads_in a n (Write addr width value) = false

-- it writes
abbrev pub is_write : Access → Bool
is_write (Write addr width value) = true
is_write Quiet = false
is_write (Read addr width value) = false

-- its word is `fence rw, rw`
abbrev pub is_fence : Step → Bool
is_fence s = s.event.word == 0x0330000F

-- it writes hart h's flag
abbrev pub signals : ℕ → Step → Bool
signals h s = writes_flag h (access_of s)

-- it reads the 8 bytes at a, and gets at least least
abbrev pub gets : ℕ → ℕ → Access → Bool
gets a least (Read addr width value) = (addr == a) && ((width == 8) && nat_le least value)
gets a least Quiet = false
gets a least (Write addr width value) = false

-- It writes nothing, and reads flags and hart h's private area alone.
abbrev pub IsStill : Program → ℕ → Access → Type 0
IsStill p h (Read addr width value) = (i : ℕ) → i < width
    → IsTrue (is_private h (addr + i) || any (λ g. is_flag g (addr + i)) (count_from 0 (harts p)))
IsStill p h Quiet = Unit {0}
IsStill p h (Write addr width value) = ⊥

-- ---- phases

-- the last phase, after all passes
abbrev pub last_phase : Program → ℕ
last_phase p = 2 * (round_count p * passes p)

-- the hart's steps in the phase that it is in
abbrev pub this_phase : Program → ℕ → List Step → List Step
this_phase p h past = in_phase (exit_of p h) (phase (exit_of p h) past) past

-- ---- writes

abbrev pub writes_shared : Program → Access → Bool
writes_shared p access = any (λ w. writes_in (window_at w.number) (w.lines * p.cases.line) access) p.cases.windows

-- a write of phase q outside streams
abbrev pub OutsideWrites : Program → ℕ → Option ℕ → ℕ → Step → Type 0
OutsideWrites p h None q s = Writes (λ b. IsTrue (may_write p q h b)
    × (q % 2 ≡ 1 → IsFalse (is_declared p.cases b))) (access_of s)
OutsideWrites p h (Some c) q s = Unit {0}

-- Outside streams a hart writes only what it may, and no shared byte in an odd phase.
abbrev pub KeepsWrites : Program → ℕ → Hart → List Step → Type 0
KeepsWrites p h first =
    Always (λ past s. OutsideWrites p h (stream_at p h (now first past).pc) (phase (exit_of p h) past) s)

-- ---- the barrier

-- Hart h's write of its flag in phase q: with width 8 and value q + 1; at most once in the phase; behind a fence that
-- stands after the last write before it, if there is one; in a run phase after the end of the phase's stream; and not
-- in the last phase.
pub record Signal (p : Program) (h q : ℕ) (past : List Step) (s : Step) : Type 0 where
  pub value : access_of s ≡ Write (flag_at h) 8 (q + 1)
  pub once : IsFalse (any (signals h) (this_phase p h past))
  pub fence : IsTrue (any (λ t. is_write (access_of t)) past)
      → IsTrue (any is_fence (front_to (λ t. is_write (access_of t)) past))
  pub ended : IfSome (case_of_phase p q) (λ c. IsTrue (any (λ t. t.after.pc == end_of p h c) (this_phase p h past)))
  pub more : q ≢ last_phase p

-- It leaves phase q: it has signalled in it, and has since got at least q + 1 from each other hart's flag.
pub record Leaves (p : Program) (h q : ℕ) (past : List Step) : Type 0 where
  pub signalled : IsTrue (any (signals h) (this_phase p h past))
  pub met : (g : ℕ) → g < harts p → g ≢ h
      → IsTrue (any (λ t. gets (flag_at g) (q + 1) (access_of t)) (front_to (signals h) past))

-- A step in phase q. From the signal to the step at the exit mark the hart is still.
pub record Barrier (p : Program) (h q : ℕ) (past : List Step) (s : Step) : Type 0 where
  pub signal : IsTrue (signals h s) → Signal p h q past s
  pub still : IsTrue (any (signals h) (this_phase p h past)) → IsStill p h (access_of s)
  pub leave : pc_of s ≡ exit_of p h → Leaves p h q past

-- The hart keeps the barrier at each step.
abbrev pub KeepsBarrier : Program → ℕ → Hart → List Step → Type 0
KeepsBarrier p h first = Always (λ past s. Barrier p h (phase (exit_of p h) past) past s)

-- ---- collecting

-- Hart h has read each dword that it collects among its steps of phase q.
abbrev pub HasCollected : Program → ℕ → ℕ → List Step → Type 0
HasCollected p h q steps = All (λ a. IsTrue (any (λ t. reads_in a 8 (access_of t)) (in_phase (exit_of p h) q steps)))
    (owned p.cases h)

-- A step of a phase q that follows a run phase: it reads each dword that the hart collects with width 8 and at most
-- once in the phase; and all of them are read before it writes a shared byte, and before it leaves the phase.
pub record Collects (p : Program) (h q : ℕ) (past : List Step) (s : Step) : Type 0 where
  pub once : All (λ a. IsTrue (reads_in a 8 (access_of s))
      → ((v : ℕ) × (access_of s ≡ Read a 8 v))
      × IsFalse (any (λ t. reads_in a 8 (access_of t)) (in_phase (exit_of p h) q past))) (owned p.cases h)
  pub before_writes : IsTrue (writes_shared p (access_of s)) → HasCollected p h q past
  pub before_exit : pc_of s ≡ exit_of p h → HasCollected p h q past

-- the round case of the run phase before phase q
abbrev pub round_before : Program → ℕ → Option ℕ
round_before p zero = None
round_before p (suc q) = round_of_phase p q

-- In each phase that follows a run phase the hart collects as said.
abbrev pub KeepsCollecting : Program → ℕ → Hart → List Step → Type 0
KeepsCollecting p h first = Always (λ past s. let q = phase (exit_of p h) past in
    IfSome (round_before p q) (λ e. Collects p h q past s))

-- Where the hart comes to halt in a phase that follows a run phase, it has read all that it collects in it. The phase
-- is the one in which it is after the step, so that a step at the exit mark that lands on halt counts too.
abbrev pub CollectsBeforeHalt : Program → ℕ → Hart → List Step → Type 0
CollectsBeforeHalt p h first = Always (λ past s. s.after.pc ≡ halt_of p h
    → let q = phase (exit_of p h) (s ∷ past) in IfSome (round_before p q) (λ e. HasCollected p h q (s ∷ past)))

-- ---- verdict cells

-- Hart h's write of its verdict on round case e, in whatever phase it stands: with width 8, once, behind the run
-- phase of the last pass, and behind all reads by which it collects in the phase after each of the run phases.
pub record WritesVerdict (p : Program) (h e : ℕ) (past : List Step) (s : Step) : Type 0 where
  pub value : (v : ℕ) × (access_of s ≡ Write (verdict_at e h) 8 v)
  pub once : IsFalse (any (λ t. writes_in (verdict_at e h) 8 (access_of t)) past)
  pub late : run_phase p e (passes p - 1) < phase (exit_of p h) past
  pub collected : (k : ℕ) → k < passes p → HasCollected p h (run_phase p e k + 1) past

-- A verdict cell (e, g) is written by hart g alone, so.
abbrev pub KeepsVerdicts : Program → ℕ → Hart → List Step → Type 0
KeepsVerdicts p h first = Always (λ past s. (e g : ℕ) → e < round_count p → g < harts p
    → IsTrue (writes_in (verdict_at e g) 8 (access_of s)) → (g ≡ h) × WritesVerdict p h e past s)

-- A hart at halt has written all its verdict cells.
abbrev pub HasAllVerdicts : Program → ℕ → Hart → List Step → Type 0
HasAllVerdicts p h first own = (now first own).pc ≡ halt_of p h
    → (e : ℕ) → e < round_count p → IsTrue (any (λ s. writes_in (verdict_at e h) 8 (access_of s)) own)

-- ---- all of it

-- The parts of the course that speak of hart h alone.
pub record HartCourse (p : Program) (h : ℕ) : Type 0 where
  pub order : OnHalf p h (KeepsOrder p h)
  pub fresh : OnHalf p h (EntersFresh p h)
  pub verdicts : OnHalf p h (KeepsVerdicts p h)
  pub all_verdicts : OnHalf p h (HasAllVerdicts p h)
  pub writes : OnHalf p h (KeepsWrites p h)
  pub barrier : OnHalf p h (KeepsBarrier p h)
  pub collecting : OnHalf p h (KeepsCollecting p h)
  pub collected : OnHalf p h (CollectsBeforeHalt p h)
