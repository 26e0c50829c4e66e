-- What one step does, with the change that a script makes to it (this project's own).
use Rattle.std.specs.Prelude.{◌≡◌, ℕ, ◌+◌, ◌*◌, ◌^◌, ◌<◌, ◌==◌, bit_xor, slice_index, if◌then◌else◌}
use Rattle.tm_table.specs.declared.instr.Instr.{Instr}
use Rattle.tm_table.specs.declared.instr.Op.{Op}
use Rattle.tm_table.specs.declared.state.Access.{Access}
use Rattle.tm_table.specs.State.{Hart}
use Rattle.tm_table.specs.Words.{low}
use Rattle.tm_table.specs.Row.{row, put, word64}
use Rattle.tm_plan_map.specs.Slots.{load_width, store_width}
use Rattle.tm_ram.specs.Region.{Region}
use Rattle.tm_world.specs.Run.{Reads, read_value, HasShape}
use Rattle.tm_world.specs.Faulted.{Change, access_by, unloaded, pc_by, state_by}
use Rattle.tm_guest.specs.Memory.{owed_of}

-- What a change xors to what an op loads and stores has at most its bits.
pub record FitsOp (ch : Change) (op : Op) : Type 0 where
  pub loaded : ch.loaded < 2 ^ (8 * load_width op)
  pub stored : ch.stored < 2 ^ (8 * store_width op)

-- A step of an instruction at a hart, where memory is this region, with a change: the row goes on with what memory
-- gave and the change xored, and the rest of the change is made to what the row says.
pub record IsMade (ch : Change) (before : Hart) (i : Instr) (r : Region) (does : Access) (left : Hart) : Type 0 where
  pub clean : Access
  pub next : Hart
  pub made : row before i (read_value clean) ≡ (next, clean)
  pub shape : HasShape clean
  pub reads : Reads (owed_of r) (unloaded ch clean)
  pub access : does ≡ access_by ch clean
  pub state : left ≡ state_by ch i before next

-- a hart after a step from an address, as a change leaves it
abbrev pub IsStateBy : Change → Instr → (from : ℕ) → Hart → Hart → Type 0
IsStateBy ch i from clean after = after ≡ record {
  pc = pc_by ch i from clean.pc;
  x = put clean.x i.rd (bit_xor (slice_index clean.x i.rd) ch.result);
}

-- a hart whose branch from an address goes the other way
abbrev pub HasTurned : Instr → (from : ℕ) → Hart → Hart → Type 0
HasTurned i from clean after = after ≡ record {
  pc = if clean.pc == word64 (from + 4) then word64 (from + low 64 i.imm) else word64 (from + 4);
  x = clean.x;
}

-- a hart with a number xored to a register
abbrev pub xored : Hart → ℕ → ℕ → Hart
xored hart rd number = record { pc = hart.pc; x = put hart.x rd (bit_xor (slice_index hart.x rd) number) }
