-- The instruction table with one row more: the add, which reads and writes its dword in one step (RISC-V unprivileged
-- specification, A 2.1, AMOADD.D). Its event has the access Write, with the dword that it leaves; what it read is that
-- dword less the register that it adds, modulo 2 ^ 64.
use Rattle.std.specs.Prelude.{◌≡◌, ◌≢◌, ℕ, ◌+◌, ◌-◌, ◌^◌, List, [], ◌∷◌, Option, Some, None, slice_index, ◌==◌}
use Rattle.std.specs.Prelude.{if◌then◌else◌}
use Rattle.tm_table.specs.declared.state.Access.{Access}
use Rattle.tm_table.specs.declared.state.Access.TheVariants.{Quiet, Read, Write}
use Rattle.tm_table.specs.State.{Hart}
use Rattle.tm_table.specs.Row.{word64, row_word}
use Rattle.tm_table.specs.declared.add.Add.{Add}
use Rattle.tm_table.specs.Adds.{add_of, sum_after, hart_after}
use Rattle.tm_plan_cases.specs.declared.program.Program.{Program}
use Rattle.tm_world.specs.Place.{halt_of, word_at}
use Rattle.tm_world.specs.Run.{Step, pc_of, access_of, read_value, HasShape}
use Rattle.tm_world.specs.Kinds.{IsPossible}

-- ---- one row

-- the step of an add that reads old
abbrev pub add_row : Hart → Add → ℕ → Hart × Access
add_row hart a old = (hart_after hart a old, Write (slice_index hart.x a.rs1) 8 (sum_after hart a old))

-- the step of a word, by whether it is an add's
abbrev pub row_as : Option Add → Hart → (word read : ℕ) → Option (Hart × Access)
row_as None hart word read = row_word hart word read
row_as (Some a) hart word read = Some (add_row hart a read)

-- the step of a word in the table with one row more: none where no row has it
abbrev pub cell_row : Hart → (word read : ℕ) → Option (Hart × Access)
cell_row hart word read = row_as (add_of word) hart word read

-- ---- what a step reads

-- the value that an access leaves, 0 where it writes nothing
abbrev pub written_value : Access → ℕ
written_value (Write addr width value) = value
written_value Quiet = 0
written_value (Read addr width value) = 0

-- what an add read that left this dword
abbrev pub old_of : Hart → Add → Step → ℕ
old_of before a s = word64 (written_value (access_of s) + (2 ^ 64 - slice_index before.x a.rs2))

-- what a step read, by whether its word is an add's
abbrev pub read_as : Option Add → Hart → Step → ℕ
read_as None before s = read_value (access_of s)
read_as (Some a) before s = old_of before a s

-- What a step reads in memory: its access, and of an add the dword at its address.
abbrev pub reading_as : Option Add → Hart → Step → Access
reading_as None before s = access_of s
reading_as (Some a) before s = Read (slice_index before.x a.rs1) 8 (old_of before a s)

abbrev pub reading : Hart → Step → Access
reading before s = reading_as (add_of s.event.word) before s

-- ---- a step

-- The step follows the table with one row more: it is the hart's next step, at its program counter, which isn't the
-- halt mark, with the text's word there, and with the access and the result of the word's row, where a read, an add's
-- too, may hold any value of its width.
pub record CellFollows (p : Program) (h : ℕ) (before : Hart) (s : Step) : Type 0 where
  pub place : pc_of s ≡ before.pc
  pub goes : before.pc ≢ halt_of p h
  pub word : word_at p before.pc ≡ Some s.event.word
  pub row : cell_row before s.event.word (read_as (add_of s.event.word) before s) ≡ Some (s.after, access_of s)
  pub possible : IsPossible (access_of s)
  pub shape : HasShape (access_of s)

-- A hart in this state has a next step, whatever a read returns.
abbrev pub CellHasNext : Program → Hart → Type 0
CellHasNext p hart = (word : ℕ) × (word_at p hart.pc ≡ Some word)
    × ((read : ℕ) → (after : Hart) × (access : Access) × (cell_row hart word read ≡ Some (after, access))
    × IsPossible access)

-- ---- adds

-- an add that was made: to which address, and how much
pub record Addition : Type 0 where
  pub to : ℕ
  pub amount : ℕ

-- the add that a step makes, if its word is an add's
abbrev pub additions_as : Option Add → Hart → List Addition
additions_as None before = []
additions_as (Some a) before = record { to = slice_index before.x a.rs1; amount = slice_index before.x a.rs2 } ∷ []

abbrev pub additions : Hart → Step → List Addition
additions before s = additions_as (add_of s.event.word) before

-- how much of it goes to an address
abbrev pub amount_to : ℕ → Addition → ℕ
amount_to a x = if x.to == a then x.amount else 0

-- how much was added at an address
abbrev pub total : ℕ → List Addition → ℕ
total a [] = 0
total a (x ∷ xs) = amount_to a x + total a xs
