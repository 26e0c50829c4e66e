-- The parts of a hart's program, as their runs are seen by the way that they make up (this project's own).
--
--   begin        through the gates, to the first case
--   for each case c, from head c on
--     reset      the pass counter is 0
--     for each pass k, from set c on
--       first    the first bytes
--       meet     the barrier, called at call c, back at load c
--       load     the first registers, into the stream
--       stay     the stream
--       save     the registers
--       meet     the barrier, called at recall c, back at collect c
--       collect  the end state goes to the save area
--       turn     the counter goes up; to set c, or behind the last pass to compare c
--     compare    the verdict, and on to head (c + 1), which behind the last case is the halt mark
use Rattle.std.specs.Prelude.{◌≡◌, ◌≢◌, ℕ, suc, ◌+◌, ◌-◌, ◌*◌, ◌^◌, ◌<◌, ◌≤◌, false, true, ◌==◌, List, [], ◌∷◌, ◌++◌}
use Rattle.std.specs.Prelude.{length, slice_get, slice_index, Some, IsTrue, IfSome, flat_map, if◌then◌else◌}
use Rattle.tm_plan_cases.specs.declared.masks.CaseMask.{CaseMask}
use Rattle.tm_plan_cases.specs.declared.program.Program.{Program}
use Rattle.tm_plan_map.specs.Map.{text_base, private_at, save_at}
use Rattle.tm_plan_cases.specs.Collected.{owned}
use Rattle.tm_base.specs.Lists.{any, count_from}
use Rattle.tm_world.specs.Lists.{or_else}
use Rattle.tm_world.specs.Place.{case_count, passes, start_of, end_of, exit_of, byte_of}
use Rattle.tm_world.specs.Marks.{Mark, Exit, Enter, End, Halt, pass_way, arrivals}
use Rattle.tm_world.specs.Verdict.{Register, Byte, saved, is_checked}
use Rattle.tm_world.specs.Writers.{run_phase}
use Rattle.tm_runs.specs.Machine.{State, Entry, Table, get}
use Rattle.tm_runs.specs.Runs.{KeepsUntil}
use Rattle.tm_runs.specs.World.{world_of, is_fixed_dword, image_dword}
use Rattle.tm_runs.specs.Course.{trail}
use Rattle.tm_pass_way.specs.Logs.{left_in, read_in, reports, work_in}
use Rattle.tm_runs.specs.Phases.{phase_in, now_in, signals_in}
use Rattle.tm_pass_way.specs.Facts.{Told, Gathered}
use Rattle.tm_world.specs.Course.{round_before}

-- Where the parts of each case begin.
pub record Places : Type 0 where
  pub head : ℕ → ℕ
  pub set : ℕ → ℕ
  pub call : ℕ → ℕ
  pub load : ℕ → ℕ
  pub recall : ℕ → ℕ
  pub collect : ℕ → ℕ
  pub turn : ℕ → ℕ
  pub compare : ℕ → ℕ

-- How many steps each part may work, outside the stream.
pub record Costs : Type 0 where
  pub begin : ℕ
  pub reset : ℕ
  pub first : ℕ
  pub meet : ℕ
  pub load : ℕ
  pub save : ℕ
  pub collect : ℕ
  pub turn : ℕ
  pub compare : ℕ

-- ---- numbers of passes and phases

-- how many passes stand before pass k of case c
abbrev pub turns : Program → (c k : ℕ) → ℕ
turns p c k = c * passes p + k

-- the phase in which pass k of case c is set up; its run phase is the next, and that in which it is collected the one
-- after
abbrev pub phase_at : Program → (c k : ℕ) → ℕ
phase_at p c k = 2 * turns p c k

-- the marks of a case's first k passes
abbrev pub few_passes : (c k : ℕ) → List Mark
few_passes c k = flat_map (λ j. pass_way c) (count_from 0 k)

-- the marks of the first c cases, and of k passes of case c
abbrev pub way_to : Program → (c k : ℕ) → List Mark
way_to p c k = flat_map (λ d. few_passes d (passes p)) (count_from 0 c) ++ few_passes c k

-- ---- what holds between two parts

-- The hart stands at a place, in phase q, with these marks behind it, and at most `work` work steps in this phase;
-- verdicts were written on the first c cases and on no other; x31 is the private area, in which the count of exits
-- stands at 256.
pub record Hold (p : Program) (h place q c work : ℕ) (ms : List Mark) (t : State) : Type 0 where
  pub pc : t.pc ≡ place
  pub base : get t.regs 31 ≡ private_at h
  pub exits : t.mem (private_at h + 256) ≡ q
  pub fixed : (a : ℕ) → IsTrue (is_fixed_dword p a) → t.mem a ≡ image_dword p a
  pub regs : (r : ℕ) → get t.regs r < 2 ^ 64
  pub mem : (a : ℕ) → IsTrue ((world_of p h).own a) → t.mem a < 2 ^ 64
  pub phase : phase_in (exit_of p h) t.log ≡ q
  pub way : trail (arrivals p h) t.log ≡ ms
  pub silent : any (signals_in h) (now_in (exit_of p h) t.log) ≡ false
  pub judged : (d : ℕ) → d < c → any (reports d h) t.log ≡ true
  pub unjudged : (d : ℕ) → c ≤ d → d < case_count p → any (reports d h) t.log ≡ false
  pub few : work_in p h q t.log ≤ work

-- Where the phase stands behind a run phase, the hart has collected in it.
pub record Ready (p : Program) (h place q c work : ℕ) (ms : List Mark) (t : State) : Type 0 where
  pub hold : Hold p h place q c work ms t
  pub gathered : IfSome (round_before p q) (λ d. Gathered p h (now_in (exit_of p h) t.log))

-- ---- what a part leaves as it was

-- The private dwords that parts hand on to others are as they were: the registers, the pass counter, and the save
-- areas.
pub record Memos (p : Program) (h : ℕ) (s t : State) : Type 0 where
  pub registers : (i : ℕ) → i < 30 → t.mem (private_at h + 8 * i) ≡ s.mem (private_at h + 8 * i)
  pub counter : t.mem (private_at h + 264) ≡ s.mem (private_at h + 264)
  pub area : (k i : ℕ) → k < passes p → i < saved p h → t.mem (save_at h k + 8 * i) ≡ s.mem (save_at h k + 8 * i)

-- From s to t the end values that the log tells are the same, and so are these dwords.
pub record Same (p : Program) (h : ℕ) (s t : State) : Type 0 where
  pub left : (c q : ℕ) → c < case_count p → left_in p h c q t.log ≡ left_in p h c q s.log
  pub read : (q j i : ℕ) → j < length (owned p.cases h) → i < 8
      → read_in p h q (slice_index (owned p.cases h) j + i) t.log
      ≡ read_in p h q (slice_index (owned p.cases h) j + i) s.log
  pub memos : Memos p h s t

-- the same but for the pass counter, which is k
pub record Counts (p : Program) (h k : ℕ) (s t : State) : Type 0 where
  pub left : (c q : ℕ) → c < case_count p → left_in p h c q t.log ≡ left_in p h c q s.log
  pub read : (q j i : ℕ) → j < length (owned p.cases h) → i < 8
      → read_in p h q (slice_index (owned p.cases h) j + i) t.log
      ≡ read_in p h q (slice_index (owned p.cases h) j + i) s.log
  pub area : (j i : ℕ) → j < passes p → i < saved p h → t.mem (save_at h j + 8 * i) ≡ s.mem (save_at h j + 8 * i)
  pub counter : t.mem (private_at h + 264) ≡ k

-- a stay in stream c in phase q: of other phases nothing changes, and the hart has left it with its registers
pub record Stayed (p : Program) (h c q : ℕ) (s t : State) : Type 0 where
  pub others : (d j : ℕ) → d < case_count p → j ≢ q → left_in p h d j t.log ≡ left_in p h d j s.log
  pub read : (j b : ℕ) → j ≢ q → read_in p h j b t.log ≡ read_in p h j b s.log
  pub memos : Memos p h s t
  pub registers : Table
  pub are : (r : ℕ) → registers r ≡ get t.regs r
  pub ended : any (λ (e : Entry). e.next == end_of p h c) (now_in (exit_of p h) t.log) ≡ true
  pub left : left_in p h c q t.log ≡ or_else (left_in p h c q s.log) (Some registers)

-- the registers are in the first dwords of the private area
pub record Saves (p : Program) (h : ℕ) (s t : State) : Type 0 where
  pub left : (c q : ℕ) → c < case_count p → left_in p h c q t.log ≡ left_in p h c q s.log
  pub read : (q j i : ℕ) → j < length (owned p.cases h) → i < 8
      → read_in p h q (slice_index (owned p.cases h) j + i) t.log
      ≡ read_in p h q (slice_index (owned p.cases h) j + i) s.log
  pub area : (j i : ℕ) → j < passes p → i < saved p h → t.mem (save_at h j + 8 * i) ≡ s.mem (save_at h j + 8 * i)
  pub counter : t.mem (private_at h + 264) ≡ s.mem (private_at h + 264)
  pub saved : (i : ℕ) → i < 30 → t.mem (private_at h + 8 * i) ≡ get s.regs (i + 1)

-- The end state, with what the first reads in phase q returned, is in the save area of pass k; other areas are as
-- they were.
pub record CollectsTo (p : Program) (h k q : ℕ) (s t : State) : Type 0 where
  pub left : (c j : ℕ) → c < case_count p → left_in p h c j t.log ≡ left_in p h c j s.log
  pub others : (r b : ℕ) → r ≢ q → read_in p h r b t.log ≡ read_in p h r b s.log
  pub read : (j i : ℕ) → j < length (owned p.cases h) → i < 8
      → read_in p h q (slice_index (owned p.cases h) j + i) t.log
      ≡ or_else (read_in p h q (slice_index (owned p.cases h) j + i) s.log)
      (Some (byte_of (t.mem (save_at h k + 8 * (30 + j))) i))
  pub dwords : (i : ℕ) → i < 30 → t.mem (save_at h k + 8 * i) ≡ s.mem (private_at h + 8 * i)
  pub area : (j i : ℕ) → j < k → i < saved p h → t.mem (save_at h j + 8 * i) ≡ s.mem (save_at h j + 8 * i)
  pub counter : t.mem (private_at h + 264) ≡ s.mem (private_at h + 264)

-- ---- what is told and saved

-- The end state of pass k of case c: the log tells it, and the pass's save area has it.
pub record PassTold (p : Program) (h c k : ℕ) (log : List Entry) (mem : Table) : Type 0 where
  pub registers : Table
  pub told : left_in p h c (run_phase p c k) log ≡ Some registers
  pub saved : (i : ℕ) → i < 30 → mem (save_at h k + 8 * i) ≡ registers (i + 1)
  pub read : (j i : ℕ) → j < length (owned p.cases h) → i < 8
      → read_in p h (run_phase p c k + 1) (slice_index (owned p.cases h) j + i) log
      ≡ Some (byte_of (mem (save_at h k + 8 * (30 + j))) i)

-- the same of the registers of the pass that goes on, in the first dwords of the private area
pub record RegistersTold (p : Program) (h c k : ℕ) (log : List Entry) (mem : Table) : Type 0 where
  pub registers : Table
  pub told : left_in p h c (run_phase p c k) log ≡ Some registers
  pub saved : (i : ℕ) → i < 30 → mem (private_at h + 8 * i) ≡ registers (i + 1)

-- The pass counter is k, and the end states of the first k passes of case c are told and saved.
pub record Passes (p : Program) (h c k : ℕ) (t : State) : Type 0 where
  pub counter : t.mem (private_at h + 264) ≡ k
  pub each : (j : ℕ) → j < k → PassTold p h c j t.log t.mem

-- ---- the verdict as a function of the saved lists

-- dword i has the same checked parts in the save areas of pass k and of pass 0
pub record Alike (p : Program) (m : CaseMask) (h : ℕ) (mem : Table) (k i : ℕ) : Type 0 where
  pub register : i < 30 → IsTrue (is_checked m h (Register (i + 1)))
      → mem (save_at h k + 8 * i) ≡ mem (save_at h 0 + 8 * i)
  pub bytes : 30 ≤ i → (j : ℕ) → j < 8 → IsTrue (is_checked m h (Byte (slice_index (owned p.cases h) (i - 30) + j)))
      → byte_of (mem (save_at h k + 8 * i)) j ≡ byte_of (mem (save_at h 0 + 8 * i)) j

-- what a comparison writes: 0, or the least pass that differs and in it the least dword
pub data IsFound (p : Program) (m : CaseMask) (h : ℕ) (mem : Table) : ℕ → Type 0 where
  alike : ((k i : ℕ) → k < passes p → i < saved p h → Alike p m h mem k i) → IsFound p m h mem 0
  found : (k i : ℕ) → k < passes p → i < saved p h
      → (Alike p m h mem k i → ⊥)
      → ((k' i' : ℕ) → k' < k → i' < saved p h → Alike p m h mem k' i')
      → ((i' : ℕ) → i' < i → Alike p m h mem k i')
      → IsFound p m h mem (k * 2 ^ 32 + i + 1)

-- ---- the parts

-- from a state with P, each run's log tells what it should until it comes to one with Q
abbrev pub Leads : Program → ℕ → (ℕ → ℕ) → State → (State → Type 0) → Type 0
Leads p h limit s Q = KeepsUntil (world_of p h) (λ t. Told p h limit t.log) Q s

-- the state in which a hart begins
pub record Opens (p : Program) (h : ℕ) (s : State) : Type 0 where
  pub pc : s.pc ≡ text_base
  pub number : get s.regs 10 ≡ h
  pub regs : (r : ℕ) → get s.regs r < 2 ^ 64
  pub mem : (a : ℕ) → s.mem a ≡ image_dword p a
  pub log : s.log ≡ []
  pub told : s.mem (private_at h + 256) ≡ 0

-- What the runs of the parts do. Each is to be proved from the run law of its block, and from where its words lie. A
-- premise `work + n ≤ limit q` says that the phase has room for them. `Told` of the state before is given, so that
-- each part shows it of its own entries alone.
pub record Turns (p : Program) (h : ℕ) (at : Places) (cost : Costs) (limit : ℕ → ℕ) : Type 0 where
  pub begin : (s : State) → Opens p h s → cost.begin ≤ limit 0
      → Leads p h limit s (λ t. Ready p h (at.head 0) 0 0 cost.begin [] t × Told p h limit t.log)
  pub reset : (c o : ℕ) (s : State) → c < case_count p → o + cost.reset ≤ limit (phase_at p c 0)
      → Ready p h (at.head c) (phase_at p c 0) c o (way_to p c 0) s → Told p h limit s.log
      → Leads p h limit s (λ t. Ready p h (at.set c) (phase_at p c 0) c (o + cost.reset) (way_to p c 0) t
      × Counts p h 0 s t × Told p h limit t.log)
  pub first : (c k o : ℕ) (s : State) → c < case_count p → k < passes p
      → o + cost.first + cost.meet ≤ limit (phase_at p c k)
      → Ready p h (at.set c) (phase_at p c k) c o (way_to p c k) s → Told p h limit s.log
      → Leads p h limit s (λ t. Hold p h (at.load c) (phase_at p c k + 1) c 0 (way_to p c k ++ Exit ∷ []) t
      × Same p h s t × (now_in (exit_of p h) t.log ≡ []) × Told p h limit t.log)
  pub load : (c k : ℕ) (s : State) → c < case_count p → k < passes p → cost.load ≤ limit (phase_at p c k + 1)
      → Hold p h (at.load c) (phase_at p c k + 1) c 0 (way_to p c k ++ Exit ∷ []) s → Told p h limit s.log
      → Leads p h limit s (λ t. Hold p h (start_of p h c) (phase_at p c k + 1) c cost.load (way_to p c k ++ Exit
      ∷ Enter c ∷ []) t × Same p h s t × Told p h limit t.log)
  pub stay : (c k o : ℕ) (s : State) → c < case_count p → k < passes p → o ≤ limit (phase_at p c k + 1)
      → Hold p h (start_of p h c) (phase_at p c k + 1) c o (way_to p c k ++ Exit ∷ Enter c ∷ []) s
      → Told p h limit s.log
      → Leads p h limit s (λ t. Hold p h (end_of p h c) (phase_at p c k + 1) c o (way_to p c k ++ Exit ∷ Enter c
      ∷ End c ∷ []) t × Stayed p h c (phase_at p c k + 1) s t × Told p h limit t.log)
  pub save : (c k o : ℕ) (s : State) → c < case_count p → k < passes p
      → o + cost.save + cost.meet ≤ limit (phase_at p c k + 1)
      → Hold p h (end_of p h c) (phase_at p c k + 1) c o (way_to p c k ++ Exit ∷ Enter c ∷ End c ∷ []) s
      → any (λ (e : Entry). e.next == end_of p h c) (now_in (exit_of p h) s.log) ≡ true → Told p h limit s.log
      → Leads p h limit s (λ t. Hold p h (at.collect c) (phase_at p c (suc k)) c 0 (way_to p c k ++ pass_way c) t
      × Saves p h s t × (now_in (exit_of p h) t.log ≡ []) × Told p h limit t.log)
  pub collect : (c k : ℕ) (s : State) → c < case_count p → k < passes p → cost.collect ≤ limit (phase_at p c (suc k))
      → Hold p h (at.collect c) (phase_at p c (suc k)) c 0 (way_to p c (suc k)) s → s.mem (private_at h + 264) ≡ k
      → now_in (exit_of p h) s.log ≡ [] → Told p h limit s.log
      → Leads p h limit s (λ t. Ready p h (at.turn c) (phase_at p c (suc k)) c cost.collect (way_to p c (suc k)) t
      × CollectsTo p h k (phase_at p c (suc k)) s t × Told p h limit t.log)
  pub turn : (c k o : ℕ) (s : State) → c < case_count p → k < passes p → o + cost.turn ≤ limit (phase_at p c (suc k))
      → Ready p h (at.turn c) (phase_at p c (suc k)) c o (way_to p c (suc k)) s → s.mem (private_at h + 264) ≡ k
      → Told p h limit s.log
      → Leads p h limit s (λ t. Ready p h (if suc k == passes p then at.compare c
      else at.set c) (phase_at p c (suc k)) c (o + cost.turn) (way_to p c (suc k)) t × Counts p h (suc k) s t
      × Told p h limit t.log)
  pub compare : (c o : ℕ) (m : CaseMask) (s : State) → c < case_count p → slice_get p.masks.cases c ≡ Some m
      → o + cost.compare ≤ limit (phase_at p (suc c) 0)
      → Ready p h (at.compare c) (phase_at p (suc c) 0) c o (way_to p (suc c) 0) s → Passes p h c (passes p) s
      → Told p h limit s.log
      → Leads p h limit s (λ t. Ready p h (at.head (suc c)) (phase_at p (suc c) 0) (suc c) (o + cost.compare)
      (way_to p (suc c) 0 ++ (if suc c == case_count p then Halt ∷ [] else [])) t × Told p h limit t.log)

-- The limits have room for the parts of each phase.
pub record Rooms (p : Program) (cost : Costs) (limit : ℕ → ℕ) : Type 0 where
  pub opening : cost.begin + cost.reset + cost.first + cost.meet ≤ limit 0
  pub run : (c k : ℕ) → c < case_count p → k < passes p → cost.load + cost.save + cost.meet ≤ limit (phase_at p c k + 1)
  pub between : (c k : ℕ) → c < case_count p → suc k < passes p
      → cost.collect + cost.turn + cost.first + cost.meet ≤ limit (phase_at p c (suc k))
  pub next : (c : ℕ) → suc c < case_count p
      → cost.collect + cost.turn + cost.compare + cost.reset + cost.first + cost.meet ≤ limit (phase_at p (suc c) 0)
  pub last : (c : ℕ) → suc c ≡ case_count p → cost.collect + cost.turn + cost.compare ≤ limit (phase_at p (suc c) 0)

-- ---- between cases and passes

-- The hart is at the first word of case c, or, behind the last case, at halt.
pub record AtHead (p : Program) (h : ℕ) (at : Places) (cost : Costs) (limit : ℕ → ℕ) (c : ℕ) (t : State) : Type 0 where
  pub work : ℕ
  pub ready : Ready p h (at.head c) (phase_at p c 0) c work (way_to p c 0
      ++ (if c == case_count p then Halt ∷ [] else [])) t
  pub told : Told p h limit t.log
  pub room : c < case_count p → work + cost.reset + cost.first + cost.meet ≤ limit (phase_at p c 0)

-- It is where pass k of case c begins.
pub record AtSet (p : Program) (h : ℕ) (at : Places) (cost : Costs) (limit : ℕ → ℕ) (c k : ℕ) (t : State) : Type 0 where
  pub work : ℕ
  pub ready : Ready p h (at.set c) (phase_at p c k) c work (way_to p c k) t
  pub passes : Passes p h c k t
  pub told : Told p h limit t.log
  pub room : work + cost.first + cost.meet ≤ limit (phase_at p c k)

-- It has collected pass k of case c.
pub record AtTurn (p : Program) (h : ℕ) (at : Places) (cost : Costs) (limit : ℕ
    → ℕ) (c k : ℕ) (t : State) : Type 0 where
  pub ready : Ready p h (at.turn c) (phase_at p c (suc k)) c cost.collect (way_to p c (suc k)) t
  pub counter : t.mem (private_at h + 264) ≡ k
  pub each : (j : ℕ) → j < suc k → PassTold p h c j t.log t.mem
  pub told : Told p h limit t.log

-- It comes to compare the passes of case c.
pub record AtCompare (p : Program) (h : ℕ) (at : Places) (cost : Costs) (limit : ℕ
    → ℕ) (c : ℕ) (t : State) : Type 0 where
  pub ready : Ready p h (at.compare c) (phase_at p (suc c) 0) c (cost.collect + cost.turn) (way_to p (suc c) 0) t
  pub passes : Passes p h c (passes p) t
  pub told : Told p h limit t.log
