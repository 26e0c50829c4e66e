-- How a judge keeps the text (this project's own).
use Rattle.std.specs.Prelude.{◌≡◌, ℕ, ◌<◌, List, length, slice_index, slice_index_or, Option, Some, None, IfSome}
use Rattle.tm_table.specs.Words.{Fits}
use Rattle.tm_plan_map.specs.Slots.{instr_of}
use Rattle.tm_plan_cases.specs.declared.program.Program.{Program}
use Rattle.tm_world.specs.Place.{word_at}
use Rattle.tm_judge.specs.declared.text.Row.{Row}

-- a word, and its instruction where it has one
pub record IsRow (w : ℕ) (row : Row) : Type 0 where
  pub word : row.word ≡ w
  pub instr : row.instr ≡ instr_of w
  pub fits : IfSome row.instr Fits

-- the text's words, one row each
pub record AreRows (text : List ℕ) (rows : List Row) : Type 0 where
  pub count : length rows ≡ length text
  pub each : (k : ℕ) (d : Row) → k < length text → IsRow (slice_index text k) (slice_index_or rows k d)

-- the row of the text's word at an address, if a word stands there
abbrev pub Stands : Program → ℕ → Option Row → Type 0
Stands p pc None = None ≡ word_at p pc
Stands p pc (Some row) = (Some row.word ≡ word_at p pc) × IsRow row.word row
