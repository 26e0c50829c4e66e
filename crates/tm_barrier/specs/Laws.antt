-- What every run of a barrier's words does, over all values that the flags return (this project's own).
use Rattle.std.specs.Prelude.{◌≡◌, ◌≢◌, ℕ, zero, suc, ◌+◌, ◌*◌, ◌%◌, ◌^◌, ◌<◌, ◌≤◌, ◌⊎◌, List, [], ◌∷◌, ◌++◌, length}
use Rattle.std.specs.Prelude.{Bool, true, false, ◌||◌, if◌then◌else◌, IsTrue}
use Rattle.tm_table.specs.declared.state.Access.{Access}
use Rattle.tm_table.specs.declared.state.Access.TheVariants.{Quiet, Read, Write}
use Rattle.tm_plan_map.specs.Map.{flag_at}
use Rattle.tm_base.specs.Lists.{any}
use Rattle.tm_world.specs.Lists.{front_to}
use Rattle.tm_world.specs.Course.{is_write, gets}
use Rattle.tm_runs.specs.Machine.{Entry, State, World, put, get, moved}
use Rattle.tm_runs.specs.Runs.{Takes, KeepsUntil, At, Each, Does}
use Rattle.tm_runs.specs.Course.{Story}
use Rattle.tm_runs.specs.Phases.{signals_in, is_fence_in, idles_in}
use Rattle.tm_blocks_base.specs.Laws.{Uses, EachAccess, accesses, RegistersFit}
use Rattle.tm_blocks_base.specs.Instrs.{fence, go_to}
use Rattle.tm_barrier.specs.Words.{meet}

-- ---- accesses

-- the flag of a hart below n that isn't h
pub record IsOtherFlag (h n a : ℕ) : Type 0 where
  pub hart : ℕ
  pub below : hart < n
  pub other : hart ≢ h
  pub is : a ≡ flag_at hart

-- The count at c is read and written, hart h's flag written, and the others' flags read.
abbrev pub MeetUses : (h n c : ℕ) → Access → Type 0
MeetUses h n c = Uses (λ a. (a ≡ c) ⊎ IsOtherFlag h n a) (λ a. (a ≡ c) ⊎ (a ≡ flag_at h))

-- no access, or a read of another hart's flag
abbrev pub Looks : (h n : ℕ) → Access → Type 0
Looks h n = Uses (IsOtherFlag h n) (λ a. ⊥)

-- ---- work among entries

-- one of the k newest passes the test
abbrev pub lately : (Entry → Bool) → ℕ → List Entry → Bool
lately test zero es = false
lately test (suc k) [] = false
lately test (suc k) (e ∷ es) = test e || lately test k es

-- how many are work: neither one that passes the test, nor one of the three next after such a one
abbrev pub worked : (Entry → Bool) → List Entry → ℕ
worked test [] = 0
worked test (e ∷ es) = if lately test 4 (e ∷ es) then worked test es else suc (worked test es)

-- ---- what each step of a barrier keeps

-- An entry of a barrier in which hart h of n signals m, and those before it in the same barrier. Its signal writes m
-- to the flag with width 8, for the first time, and behind a fence that stands after all writes; behind the signal it
-- only looks at other flags, and it waits for them only there.
pub record KeepsInStep (h n m : ℕ) (before : List Entry) (e : Entry) : Type 0 where
  pub value : IsTrue (signals_in h e) → e.access ≡ Write (flag_at h) 8 m
  pub once : IsTrue (signals_in h e) → any (signals_in h) before ≡ false
  pub fence : IsTrue (signals_in h e) → any is_fence_in (front_to (λ t. is_write t.access) before) ≡ true
  pub still : any (signals_in h) before ≡ true → Looks h n e.access
  pub waits : idles_in h n m e ≡ true → any (signals_in h) before ≡ true

-- What a barrier has done since s, in words from lo to hi: its entries, each in step, of which few are work.
pub record Barred (lo hi h n c m : ℕ) (s t : State) : Type 0 where
  pub entries : List Entry
  pub log : t.log ≡ entries ++ s.log
  pub each : Each (Does lo hi (MeetUses h n c)) entries
  pub story : Story (KeepsInStep h n m) entries
  pub work : worked (idles_in h n m) entries ≤ 7 + 2 * n

-- ---- the law

-- What a barrier takes of a world, where hart h of n keeps its count at c.
pub record Meeting (w : World) (h n c : ℕ) : Type 0 where
  pub mine : h < n
  pub few : n ≤ 16
  pub low : c < 2 ^ 64
  pub above : flag_at 16 ≤ c
  pub aligned : c % 8 ≡ 0
  pub own : IsTrue (w.own c)
  pub free : w.fixed c ≡ false
  pub count : IsTrue (w.guest c)
  pub flags : (g : ℕ) → g < n → IsTrue (w.guest (flag_at g))
  pub writable : w.fixed (flag_at h) ≡ false

-- The hart has signalled m, and has got at least m from each other hart's flag since.
pub record HasMet (lo hi h n c m : ℕ) (s t : State) : Type 0 where
  pub pc : t.pc ≡ hi
  pub regs : (r : ℕ) → r ≢ 2 → r ≢ 3 → r ≢ 4 → get t.regs r ≡ get s.regs r
  pub mem : t.mem ≡ put (put s.mem c m) (flag_at h) m
  pub fits : RegistersFit s → RegistersFit t
  pub barred : Barred lo hi h n c m s t
  pub signalled : any (signals_in h) barred.entries ≡ true
  pub met : (g : ℕ) → g < n → g ≢ h
      → any (λ e. gets (flag_at g) m e.access) (front_to (signals_in h) barred.entries) ≡ true
  pub looks : List Access
  pub only : EachAccess (Looks h n) looks
  pub accesses : accesses t.log ≡ looks ++ Write (flag_at h) 8 m ∷ Write c 8 m ∷ Read c 8 (s.mem c) ∷ accesses s.log

-- From the first word to the last fence, if the others ever signal.
abbrev pub MeetRuns : (h n : ℕ) → Type 0
MeetRuns h n = (w : World) (s : State) (c : ℕ) → Meeting w h n c → get s.regs 31 + 256 ≡ c → s.mem c + 1 < 2 ^ 64
    → At w.text s.pc (meet h n)
    → KeepsUntil w (Barred s.pc (s.pc + 4 * length (meet h n)) h n c (s.mem c + 1) s)
    (HasMet s.pc (s.pc + 4 * length (meet h n)) h n c (s.mem c + 1) s) s

-- the state after a step that only goes on
abbrev pub after_fence : State → State
after_fence s = moved fence s Quiet (s.pc + 4) s.regs s.mem

-- the last fence, to the exit mark
abbrev pub FenceRuns : Type 0
FenceRuns = (w : World) (s : State) → At w.text s.pc (fence ∷ [])
    → Takes w (λ t. t ≡ after_fence s) (λ t. t ≡ after_fence s) 1 s

-- the state after the way back
abbrev pub after_return : ℕ → State → State
after_return link s = moved (go_to 1) s Quiet link (put s.regs 0 (s.pc + 4)) s.mem

-- from the exit mark to the address in x1
abbrev pub ReturnRuns : Type 0
ReturnRuns = (w : World) (s : State) (link : ℕ) → At w.text s.pc (go_to 1 ∷ []) → get s.regs 1 ≡ link → link % 2 ≡ 0
    → link < 2 ^ 64
    → Takes w (λ t. t ≡ after_return link s) (λ t. t ≡ after_return link s) 1 s
