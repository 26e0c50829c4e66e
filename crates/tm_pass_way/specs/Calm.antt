-- Parts of support code that come to no mark and use the private area and the tables alone (this project's own).
use Rattle.std.specs.Prelude.{◌≡◌, ◌≢◌, ◌⊎◌, ℕ, ◌+◌, ◌-◌, ◌<◌, ◌≤◌, true, false, List, ◌∷◌, ◌++◌, Some, length}
use Rattle.std.specs.Prelude.{slice_index, IsTrue}
use Rattle.tm_plan_cases.specs.declared.program.Program.{Program}
use Rattle.tm_plan_map.specs.Map.{verdict_at, private_at, private_size, windows_base}
use Rattle.tm_base.specs.Lists.{any}
use Rattle.tm_world.specs.Place.{case_count, start_of, end_of, exit_of, halt_of}
use Rattle.tm_world.specs.Marks.{Mark, arrivals}
use Rattle.tm_plan_cases.specs.Collected.{owned}
use Rattle.tm_runs.specs.Machine.{State, Entry, get}
use Rattle.tm_runs.specs.World.{is_fixed_dword}
use Rattle.tm_runs.specs.Runs.{Does, Each}
use Rattle.tm_blocks_base.specs.Laws.{Uses}
use Rattle.tm_plan_cases.specs.declared.cases.Stream.{Stream}
use Rattle.tm_plan_cases.specs.Streams.{stream_in}
use Rattle.tm_table.specs.declared.state.Access.TheVariants.{Write}
use Rattle.tm_plan_cases.specs.declared.masks.CaseMask.{CaseMask}
use Rattle.tm_pass_way.specs.Parts.{Memos, IsFound}
use Rattle.tm_runs.specs.Course.{trail}
use Rattle.tm_pass_way.specs.Logs.{left_in, read_in, reports, work_in}
use Rattle.tm_runs.specs.Phases.{phase_in, now_in, signals_in}
use Rattle.tm_pass_way.specs.Facts.{Told}

-- The words from lo to hi lie in no stream, and neither behind the first of them nor behind the last is a mark.
pub record Clear (p : Program) (h lo hi : ℕ) : Type 0 where
  pub streams : (c : ℕ) → c < case_count p → (hi < start_of p h c) ⊎ (end_of p h c ≤ lo)
  pub some : (c : ℕ) → c < case_count p → start_of p h c ≤ end_of p h c
  pub exit : (hi < exit_of p h) ⊎ (exit_of p h < lo)
  pub halt : (hi < halt_of p h) ⊎ (halt_of p h < lo)

-- a dword that a calm part may read: it lies below the windows
abbrev pub IsBelow : ℕ → Type 0
IsBelow a = a + 8 ≤ windows_base

-- a dword that it may write: it lies in the private area
abbrev pub IsOwn : (h a : ℕ) → Type 0
IsOwn h a = (private_at h ≤ a) × (a + 8 ≤ private_at h + private_size)

-- What a log tells between two parts of phase q.
pub record Steady (p : Program) (h : ℕ) (limit : ℕ
    → ℕ) (q c work : ℕ) (ms : List Mark) (log : List Entry) : Type 0 where
  pub phase : phase_in (exit_of p h) log ≡ q
  pub way : trail (arrivals p h) log ≡ ms
  pub silent : any (signals_in h) (now_in (exit_of p h) log) ≡ false
  pub judged : (d : ℕ) → d < c → any (reports d h) log ≡ true
  pub unjudged : (d : ℕ) → c ≤ d → d < case_count p → any (reports d h) log ≡ false
  pub few : work_in p h q log ≤ work
  pub told : Told p h limit log

-- What a calm block says of the state behind it: where it is, and that x31, the count of exits and the fixed dwords
-- are as they were.
pub record LeavesTo (p : Program) (h place : ℕ) (s t : State) : Type 0 where
  pub pc : t.pc ≡ place
  pub base : get t.regs 31 ≡ get s.regs 31
  pub exits : t.mem (private_at h + 256) ≡ s.mem (private_at h + 256)
  pub fixed : (a : ℕ) → IsTrue (is_fixed_dword p a) → t.mem a ≡ s.mem a

-- From s to t the log tells the same of end values.
pub record Recalls (p : Program) (h : ℕ) (s t : State) : Type 0 where
  pub left : (c q : ℕ) → c < case_count p → left_in p h c q t.log ≡ left_in p h c q s.log
  pub read : (q j i : ℕ) → j < length (owned p.cases h) → i < 8
      → read_in p h q (slice_index (owned p.cases h) j + i) t.log
      ≡ read_in p h q (slice_index (owned p.cases h) j + i) s.log

-- Stream c of the hart has words, and the hart's other streams, its exit mark and its halt mark lie before or behind
-- it.
pub record StreamClear (p : Program) (h c : ℕ) : Type 0 where
  pub some : start_of p h c < end_of p h c
  pub others : (d : ℕ) → d < case_count p → d ≢ c → (end_of p h c < start_of p h d) ⊎ (end_of p h d < start_of p h c)
  pub rising : (d : ℕ) → d < case_count p → start_of p h d ≤ end_of p h d
  pub exit : (exit_of p h < start_of p h c) ⊎ (end_of p h c < exit_of p h)
  pub halt : (halt_of p h < start_of p h c) ⊎ (end_of p h c < halt_of p h)

-- What the block of the first registers does, told at its end: all its steps but the last are calm, and the last
-- comes to the stream's start with fresh registers.
pub record LoadsInto (p : Program) (h c lo : ℕ) (s t : State) : Type 0 where
  pub entries : List Entry
  pub last : Entry
  pub log : t.log ≡ last ∷ (entries ++ s.log)
  pub each : Each (Does lo (start_of p h c - 4) (Uses IsBelow (IsOwn h))) entries
  pub from : last.pc ≡ start_of p h c - 4
  pub to : last.next ≡ start_of p h c
  pub access : Uses IsBelow (IsOwn h) last.access
  pub fresh : (stream : Stream) → stream_in p.cases c h ≡ Some stream → (r : ℕ) → 1 ≤ r → r < 32
      → last.regs r ≡ slice_index stream.regs r
  pub leaves : LeavesTo p h (start_of p h c) s t
  pub memos : Memos p h s t

-- What the block that compares does, told at its end: all its steps but the last are calm, and the last writes what
-- is found in the save areas to the verdict cell.
pub record ComparesTo (p : Program) (h c : ℕ) (m : CaseMask) (lo hi place : ℕ) (s t : State) : Type 0 where
  pub entries : List Entry
  pub last : Entry
  pub log : t.log ≡ last ∷ (entries ++ s.log)
  pub each : Each (Does lo hi (Uses IsBelow (IsOwn h))) entries
  pub from : last.pc ≡ hi
  pub to : last.next ≡ place
  pub value : ℕ
  pub access : last.access ≡ Write (verdict_at c h) 8 value
  pub found : IsFound p m h s.mem value
  pub leaves : LeavesTo p h place s t

-- What a calm block does whose last step leads elsewhere, told at its end: back to the first bytes, on to the
-- comparison, or to the barrier.
pub record HopsTo (p : Program) (h lo hi place : ℕ) (s t : State) : Type 0 where
  pub entries : List Entry
  pub last : Entry
  pub log : t.log ≡ last ∷ (entries ++ s.log)
  pub each : Each (Does lo hi (Uses IsBelow (IsOwn h))) entries
  pub from : last.pc ≡ hi
  pub to : last.next ≡ place
  pub access : Uses IsBelow (IsOwn h) last.access
  pub leaves : LeavesTo p h place s t
