-- The one-hart machine with an add: what a hart of a half cell run does to its registers, to the dwords that it reads
-- back, and to its log (this project's own).
use Rattle.std.specs.Prelude.{◌≡◌, ℕ, zero, suc, ◌+◌, ◌^◌, ◌<◌, ◌++◌, List, ◌∷◌, Option, None, Some}
use Rattle.tm_table.specs.declared.instr.Instr.{Instr}
use Rattle.tm_table.specs.declared.state.Access.TheVariants.{Write}
use Rattle.tm_table.specs.Words.{word_of}
use Rattle.tm_table.specs.Row.{word64}
use Rattle.tm_table.specs.declared.add.Add.{Add}
use Rattle.tm_table.specs.Adds.{add_of, add_word}
use Rattle.tm_plan_cases.specs.declared.program.Program.{Program}
use Rattle.tm_world.specs.Place.{word_at}
use Rattle.tm_runs.specs.Machine.{World, State, Entry, put, get, stored, after, May, MayAccess, Reads}
use Rattle.tm_runs.specs.Runs.{Next, Each}

-- the add at a place, if its word is one's
abbrev pub adds_in : Option ℕ → Option Add
adds_in None = None
adds_in (Some w) = add_of w

unfoldable pub adds_at : Program → ℕ → Option Add
adds_at p pc = adds_in (word_at p pc)

-- the state after an add that reads v
abbrev pub added : World → Add → ℕ → State → State
added w a v s =
    let addr = get s.regs a.rs1 in
    let sum = word64 (get s.regs a.rs2 + v) in
    record {
      pc = s.pc + 4;
      regs = put s.regs a.rd v;
      mem = stored w s.mem addr sum;
      log = record {
        pc = s.pc;
        next = s.pc + 4;
        word = add_word a;
        access = Write addr 8 sum;
        regs = get (put s.regs a.rd v);
      } ∷ s.log;
    }

-- one step: by the table, or of an add, which may read anything
pub data Moves (w : World) (adds : ℕ → Option Add) (s : State) : State → Type 0 where
  ByRow : {t : State} → Next w s t → Moves w adds s t
  ByAdd : (a : Add) (v : ℕ) → adds s.pc ≡ Some a → MayAccess w (get s.regs a.rs1) → v < 2 ^ 64
      → Moves w adds s (added w a v s)

-- a run of k steps
abbrev pub Ran : World → (ℕ → Option Add) → ℕ → State → State → Type 0
Ran w adds zero s t = t ≡ s
Ran w adds (suc k) s t = (u : State) × Moves w adds s u × Ran w adds k u t

-- What the first n steps of every run from s do: G holds of the state after each, and there is a next step, until the
-- run comes to Q, if ever.
pub data During (w : World) (adds : ℕ → Option Add) (G Q : State → Type 0) : ℕ → State → Type 0 where
  Unseen : {s : State} → During w adds G Q zero s
  There : {n : ℕ} {s : State} → Q s → During w adds G Q n s
  Rows : {n : ℕ} {s : State} (i : Instr) → w.text s.pc ≡ Some i → May w i s
      → ((v : ℕ) → Reads w i s v → G (after w i v s)) → ((v : ℕ) → Reads w i s v → During w adds G Q n (after w i v s))
      → During w adds G Q (suc n) s
  Adds : {n : ℕ} {s : State} (a : Add) → adds s.pc ≡ Some a → MayAccess w (get s.regs a.rs1)
      → ((v : ℕ) → v < 2 ^ 64 → G (added w a v s)) → ((v : ℕ) → v < 2 ^ 64 → During w adds G Q n (added w a v s))
      → During w adds G Q (suc n) s

-- The same of all steps.
pub record Holds (w : World) (adds : ℕ → Option Add) (G Q : State → Type 0) (s : State) : Type 0 where
  pub during : (n : ℕ) → During w adds G Q n s

-- an entry with the word of the support code's instruction at its place
pub record Fetched (w : World) (e : Entry) : Type 0 where
  pub instr : Instr
  pub at : w.text e.pc ≡ Some instr
  pub word : e.word ≡ word_of instr

-- what was done between two states, by the table alone
pub record ByRows (w : World) (s t : State) : Type 0 where
  pub entries : List Entry
  pub log : t.log ≡ entries ++ s.log
  pub each : Each (Fetched w) entries
