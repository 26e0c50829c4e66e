-- AMOADD.D of the A extension (RISC-V unprivileged specification, A 2.1), with aq and rl zero.
use Rattle.std.specs.Prelude.{ℕ, ◌+◌, ◌*◌, ◌/◌, ◌%◌, ◌^◌, ◌<◌, Bool, ◌&&◌, ◌==◌, Option, Some, None, slice_index}
use Rattle.std.specs.Prelude.{if◌then◌else◌}
use Rattle.tm_table.specs.State.{Hart}
use Rattle.tm_table.specs.Row.{put, word64}
use Rattle.tm_table.specs.declared.add.Add.{Add}

-- a word is an add's: opcode 0x2F, funct3 3, and zeros in bits 31 to 25
abbrev pub is_add : ℕ → Bool
is_add w = (w % 2 ^ 7 == 0x2F) && ((w / 2 ^ 12 % 2 ^ 3 == 3) && (w / 2 ^ 25 == 0))

-- the add of a word, if it is one's
unfoldable pub add_of : ℕ → Option Add
add_of w = if is_add w then Some (record { rd = w / 2 ^ 7 % 2 ^ 5; rs1 = w / 2 ^ 15 % 2 ^ 5; rs2 = w / 2 ^ 20 % 2 ^ 5 })
    else None

-- the word of an add
unfoldable pub add_word : Add → ℕ
add_word a = 0x302F + a.rd * 2 ^ 7 + a.rs1 * 2 ^ 15 + a.rs2 * 2 ^ 20

-- the registers are there
pub record FitsAdd (a : Add) : Type 0 where
  pub rd : a.rd < 32
  pub rs1 : a.rs1 < 32
  pub rs2 : a.rs2 < 32

-- what an add leaves in memory, where it reads old
abbrev pub sum_after : Hart → Add → ℕ → ℕ
sum_after hart a old = word64 (slice_index hart.x a.rs2 + old)

-- the hart after an add that reads old
abbrev pub hart_after : Hart → Add → ℕ → Hart
hart_after hart a old = record { pc = word64 (hart.pc + 4); x = put hart.x a.rd old }
