-- What every run from a state does (this project's own).
use Rattle.std.specs.Prelude.{◌≡◌, ℕ, zero, suc, ◌+◌, ◌<◌, ◌≤◌, List, [], ◌∷◌, ◌++◌, Option, None, Some}
use Rattle.tm_table.specs.declared.instr.Instr.{Instr}
use Rattle.tm_table.specs.declared.state.Access.{Access}
use Rattle.tm_table.specs.declared.state.Access.TheVariants.{Quiet}
use Rattle.tm_runs.specs.Machine.{World, State, Entry, Strays, after, May, Reads, IsNarrow, effect_in}

-- Every run from s comes to a state with Q in at most n steps. Until then there is a next step, and G holds of the
-- state after each.
pub data Takes (w : World) (G Q : State → Type 0) : ℕ → State → Type 0 where
  Now : {n : ℕ} {s : State} → Q s → Takes w G Q n s
  Step : {n : ℕ} {s : State} (i : Instr) → w.text s.pc ≡ Some i → May w i s
      → ((v : ℕ) → Reads w i s v → G (after w i v s)) → ((v : ℕ) → Reads w i s v → Takes w G Q n (after w i v s))
      → Takes w G Q (suc n) s

-- The same, of the first n steps of every run alone, which need not come to Q, and may lead through streams.
pub data Upto (w : World) (G Q : State → Type 0) : ℕ → State → Type 0 where
  Unwatched : {s : State} → Upto w G Q zero s
  Came : {n : ℕ} {s : State} → Q s → Upto w G Q n s
  Went : {n : ℕ} {s : State} (i : Instr) → w.text s.pc ≡ Some i → May w i s
      → ((v : ℕ) → Reads w i s v → G (after w i v s)) → ((v : ℕ) → Reads w i s v → Upto w G Q n (after w i v s))
      → Upto w G Q (suc n) s
  Strayed : {n : ℕ} {s : State} (lo hi : ℕ) → w.stream s.pc ≡ Some (lo, hi)
      → ((t : State) → Strays w lo hi s t → G t) → ((t : State) → Strays w lo hi s t → Upto w G Q n t)
      → Upto w G Q (suc n) s

-- Every run from s has G after each step and never lacks a next step, until it comes to Q, if ever.
pub record KeepsUntil (w : World) (G Q : State → Type 0) (s : State) : Type 0 where
  pub upto : (n : ℕ) → Upto w G Q n s

-- these instructions stand in the text from this address on
abbrev pub At : (ℕ → Option Instr) → ℕ → List Instr → Type 0
At text a [] = Unit {0}
At text a (i ∷ is) = (text a ≡ Some i) × At text (a + 4) is

-- E holds of the newest entry
abbrev pub Newest : (Entry → Type 0) → List Entry → Type 0
Newest E [] = Unit {0}
Newest E (e ∷ es) = E e

-- E holds of each entry
abbrev pub Each : (Entry → Type 0) → List Entry → Type 0
Each E [] = Unit {0}
Each E (e ∷ es) = E e × Each E es

-- a step from one of these words to one of them but the first, or to the address behind the last, with an access that
-- A allows
pub record Does (lo hi : ℕ) (A : Access → Type 0) (e : Entry) : Type 0 where
  pub from : lo ≤ e.pc
  pub below : e.pc < hi
  pub least : lo < e.next
  pub most : e.next ≤ hi
  pub access : A e.access

-- the newest entry goes from one of these words to one of them but the first, or behind the last, with an access that
-- A allows
abbrev pub Within : ℕ → ℕ → (Access → Type 0) → State → Type 0
Within lo hi A t = Newest (Does lo hi A) t.log

-- no access
abbrev pub IsQuiet : Access → Type 0
IsQuiet a = a ≡ Quiet

-- what was done since s
pub record Since (E : Entry → Type 0) (s t : State) : Type 0 where
  pub entries : List Entry
  pub log : t.log ≡ entries ++ s.log
  pub each : Each E entries

-- one step of a hart, by the table or inside a stream; of what an access of less than a dword leaves nothing is said
pub data Next (w : World) (s : State) : State → Type 0 where
  ByTable : (i : Instr) (v : ℕ) → w.text s.pc ≡ Some i → May w i s → Reads w i s v → Next w s (after w i v s)
  InStream : {t : State} (lo hi : ℕ) → w.stream s.pc ≡ Some (lo, hi) → Strays w lo hi s t → Next w s t
  Narrow : {t : State} (i : Instr) → w.text s.pc ≡ Some i → IsNarrow (effect_in i s) → Next w s t

-- no address has both
abbrev pub Apart : World → Type 0
Apart w = (a lo hi : ℕ) (i : Instr) → w.text a ≡ Some i → w.stream a ≡ Some (lo, hi) → ⊥

-- a run of k steps
abbrev pub Run : World → ℕ → State → State → Type 0
Run w zero s t = t ≡ s
Run w (suc k) s t = (u : State) × Next w s u × Run w k u t

-- a next step by the table exists
pub record CanStep (w : World) (s : State) : Type 0 where
  pub instr : Instr
  pub fetched : w.text s.pc ≡ Some instr
  pub may : May w instr s

-- a state from which a run goes on
pub data Goes (w : World) (t : State) : Type 0 where
  Runs : CanStep w t → Goes w t
  Strolls : (lo hi : ℕ) → w.stream t.pc ≡ Some (lo, hi) → Goes w t

-- no step is made from t
abbrev pub Stopped : World → State → Type 0
Stopped w t = (w.text t.pc ≡ None) × (w.stream t.pc ≡ None)

-- A run of k steps that has come to Q on its way.
pub record Passed (w : World) (Q : State → Type 0) (k : ℕ) (s t : State) : Type 0 where
  pub first : ℕ
  pub second : ℕ
  pub mid : State
  pub before : Run w first s mid
  pub there : Q mid
  pub behind : Run w second mid t
  pub sum : first + second ≡ k
