-- The world in which a hart of a program runs its support code, and the state in which it starts (this project's own).
use Rattle.std.specs.Prelude.{ℕ, zero, suc, ◌+◌, ◌*◌, ◌^◌, ◌<◌, ◌≤◌, Bool, true, false, ◌&&◌, ◌||◌, nat_le, ◌==◌}
use Rattle.std.specs.Prelude.{List, [], length, slice_index, Option, None, Some}
use Rattle.tm_table.specs.declared.instr.Instr.{Instr}
use Rattle.tm_plan_cases.specs.declared.program.Program.{Program}
use Rattle.tm_plan_map.specs.Map.{guest_base, guest_end, text_base, tables_base, private_at, private_size}
use Rattle.tm_plan_map.specs.Slots.{instr_of}
use Rattle.tm_world.specs.Place.{harts, start_of, end_of, halt_of, is_window, image_byte, word_at}
use Rattle.tm_world.specs.Kinds.{stream_at}
use Rattle.tm_runs.specs.Machine.{World, State}

-- the 8 bytes from a lie among the n bytes from base
abbrev pub holds : ℕ → ℕ → ℕ → Bool
holds base n a = nat_le base a && nat_le (a + 8) (base + n)

-- the 8 bytes from a lie in the text or in the tables, which read as in the image whatever was written there
unfoldable pub is_fixed_dword : Program → ℕ → Bool
is_fixed_dword p a = holds text_base (4 * length p.text) a || holds tables_base (length p.tables) a

-- the 8 bytes from a lie in hart h's private area
unfoldable pub is_private_dword : ℕ → ℕ → Bool
is_private_dword h a = holds (private_at h) private_size a

-- the 8 bytes from a lie in the guest's memory
unfoldable pub is_guest_dword : ℕ → Bool
is_guest_dword a = nat_le guest_base a && nat_le (a + 8) guest_end

-- the instruction at a place of support code: none in a stream, at the halt mark, or where no word or no row is
abbrev pub support : (stream : Option ℕ) → (halts : Bool) → (word : Option ℕ) → Option Instr
support (Some c) halts word = None
support None true word = None
support None false None = None
support None false (Some w) = instr_of w

-- the instruction at a program counter outside hart h's streams and its halt mark
unfoldable pub support_at : Program → ℕ → ℕ → Option Instr
support_at p h pc = support (stream_at p h pc) (pc == halt_of p h) (word_at p pc)

-- the start and the end of hart h's stream in a case
abbrev pub bounds : Program → ℕ → Option ℕ → Option (ℕ × ℕ)
bounds p h None = None
bounds p h (Some c) = Some (start_of p h c, end_of p h c)

-- the start and the end of hart h's stream that holds this program counter
unfoldable pub bounds_at : Program → ℕ → ℕ → Option (ℕ × ℕ)
bounds_at p h pc = bounds p h (stream_at p h pc)

-- The world of hart h: outside its streams the text's instructions, and in them what a stream may do.
abbrev pub world_of : Program → ℕ → World
world_of p h = record {
  text = support_at p h;
  own = λ a. is_private_dword h a || is_fixed_dword p a;
  fixed = is_fixed_dword p;
  guest = is_guest_dword;
  stream = bounds_at p h;
  window = is_window;
}

-- the number that n bytes are, the lowest first
abbrev pub joined : (ℕ → ℕ) → ℕ → ℕ
joined byte zero = 0
joined byte (suc n) = byte 0 + 256 * joined (λ i. byte (suc i)) n

-- the dword that the image holds at a
unfoldable pub image_dword : Program → ℕ → ℕ
image_dword p a = joined (λ i. image_byte p (a + i)) 8

-- a hart that opens with these registers
abbrev pub start : Program → List ℕ → State
start p x = record { pc = text_base; regs = λ r. slice_index x r; mem = image_dword p; log = [] }

-- The sizes of a program's parts, and that its words have 32 bits and its tables' bytes 8.
pub record Sizes (p : Program) : Type 0 where
  pub harts : harts p ≤ 16
  pub text : length p.text ≤ 2097152
  pub tables : length p.tables ≤ 4194304
  pub words : (k : ℕ) → slice_index p.text k < 2 ^ 32
  pub bytes : (k : ℕ) → slice_index p.tables k < 256
