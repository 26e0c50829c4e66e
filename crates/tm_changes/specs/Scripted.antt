-- A program under a script, and the tables by which the steps are found that the script changes (this project's own).
use Rattle.std.specs.Prelude.{◌≡◌, ℕ, suc, ◌+◌, ◌-◌, ◌*◌, ◌/◌, ◌^◌, ◌<◌, ◌≤◌, List, length, slice_get, slice_index}
use Rattle.std.specs.Prelude.{Some}
use Rattle.tm_plan_cases.specs.declared.program.Program.{Program}
use Rattle.tm_plan_cases.specs.Shaped.{IsProgram}
use Rattle.tm_plan_map.specs.Map.{text_base}
use Rattle.tm_plan_script.specs.declared.faults.FaultLine.{FaultLine}
use Rattle.tm_world.specs.Place.{start_of}

-- a program, and the lines of a script
pub record Scripted : Type 0 where
  pub program : Program
  pub lines : List FaultLine

-- where the slot stands of which a line speaks
abbrev pub slot_of_line : Program → FaultLine → ℕ
slot_of_line p line = start_of p line.hart line.case + 4 * line.slot

-- the place in the text of the word at an address
abbrev pub place_of : ℕ → ℕ
place_of pc = (pc - text_base) / 4

-- A line is at a place of the text: its slot is an address of 64 bits in the word there.
abbrev pub IsAt : Program → FaultLine → ℕ → Type 0
IsAt p line place =
    (slot_of_line p line < 2 ^ 64) × (text_base ≤ slot_of_line p line) × (place_of (slot_of_line p line) ≡ place)

-- The last line at a place, of the first n lines, is the one of this number, counted from 1; none is, where it is 0.
pub record IsLast (p : Program) (lines : List FaultLine) (place n number : ℕ) : Type 0 where
  pub within : number ≤ n
  pub at : (k : ℕ) (line : FaultLine) → number ≡ suc k → slice_get lines k ≡ Some line → IsAt p line place
  pub none_later : (k : ℕ) (line : FaultLine) → number ≤ k → k < n → slice_get lines k ≡ Some line
      → ¬ IsAt p line place

-- The first n lines are chained: for each word there is the number of its last line, and for each line at such a word
-- the number of the last one before it.
pub record AreChained (p : Program) (lines : List FaultLine) (lasts befores : List ℕ) (n : ℕ) : Type 0 where
  pub last : (place : ℕ) → place < length lasts → IsLast p lines place n (slice_index lasts place)
  pub before : (k place : ℕ) (line : FaultLine) → k < n → place < length lasts → slice_get lines k ≡ Some line
      → IsAt p line place → IsLast p lines place k (slice_index befores k)

-- What is kept of the tables: one number for each word of the text, one for each line, and all lines are chained.
pub record KeepsChains (p : Program) (lines : List FaultLine) (lasts befores : List ℕ) : Type 0 where
  pub program : IsProgram p
  pub words : length lasts ≡ length p.text
  pub count : length befores ≡ length lines
  pub chained : AreChained p lines lasts befores (length lines)
