-- Worked lines, by computing.
use Rattle.std.proofs.Common.{◌≡◌, ◌++◌, refl, ℕ, List, [], ◌∷◌, codes, replicate}
use Rattle.std.specs.Fmt.{digits}
use Rattle.tm_base.specs.Numbers.{hex_text}
use Rattle.tm_table.specs.Words.{decoded}
use Rattle.tm_asm_line.specs.Shapes.{name_of, shape_of, pieces_of}
use Rattle.tm_asm_line.specs.Printing.{operand_text, mark_text, pieces_text, printed}
use Rattle.tm_plan_map.specs.declared.windows.Kind2.TheVariants.{True}
use Rattle.tm_plan_cases.specs.declared.cases.Stream.{Stream}
use Rattle.tm_plan_cases.specs.declared.program.Program.{Program}
use Rattle.tm_plan_map.specs.Map.{windows_base, window_at}
use Rattle.tm_plan_map.specs.Slots.{instr_of}
use Rattle.tm_plan_cases.specs.Collected.{is_declared, window_dwords}
use Rattle.tm_report.specs.Listing.{listing, head_line, case_lines, hart_lines, bytes_line, is_listed, slot_line}
use Rattle.tm_report.specs.Listing.{is_unchecked, saved_registers, register_entry, unchecked_line, dword_bits}
use Rattle.tm_report.specs.Listing.{dword_entry}

a_slot : slot_line 0 0x00128313 ≡ codes "0 00128313 addi x6, x5, 1\n"
unfolding slot_line hex_text instr_of decoded printed name_of shape_of pieces_of pieces_text operand_text mark_text
    digits
a_slot = refl

two_registers : unchecked_line 0x7FFFFF3E ≡ codes "unchecked x6 x7\n"
unfolding unchecked_line saved_registers is_unchecked register_entry digits
two_registers = refl

-- bits 0 and 31 say nothing
no_register : unchecked_line 0x7FFFFFFE ≡ codes "unchecked none\n"
unfolding unchecked_line saved_registers is_unchecked register_entry
no_register = refl

-- byte 3 alone
byte_3 : dword_entry (255 ∷ 255 ∷ 255 ∷ 0 ∷ 255 ∷ 255 ∷ 255 ∷ 255 ∷ 0 ∷ []) 0x80E80000 ≡ codes " 0x80e80000:08"
unfolding dword_entry dword_bits windows_base hex_text
byte_3 = refl

abbrev stream : List ℕ → Stream
stream words = record { words = words; regs = [] }

-- two harts in one case; windows 1 and 0 are declared in this order, and of window 1 the second byte isn't checked
abbrev two_harts : Program
two_harts = record {
  cases = record {
    name = codes "t";
    harts = 2;
    line = 64;
    passes = 2;
    windows = record { number = 1; kind = True; lines = 1 } ∷ record { number = 0; kind = True; lines = 1 } ∷ [];
    cases = record {
      name = codes "a";
      streams = stream (0x005E3023 ∷ []) ∷ stream (0x000E3303 ∷ 0x006343B3 ∷ []) ∷ [];
      first = [];
    } ∷ [];
  };
  masks = record {
    cases = record { regs = 0x7FFFFFFE ∷ 0x7FFFFF3E ∷ []; bytes = replicate 8 255 ++ 0 ∷ replicate 2040 255 ++ 0 ∷ [] }
        ∷ [];
  };
  marks = record { starts = []; ends = []; exits = []; halts = [] };
  text = [];
  tables = [];
}

a_listing : listing two_harts 1 ≡ codes
    "template t seed 1 harts 2 passes 2 cases 1\ncase 0 a\nhart 0 slots 1\n0 005e3023 sd x5, 0(x28)\nunchecked none\nhart 1 slots 2\n0 000e3303 ld x6, 0(x28)\n1 006343b3 xor x7, x6, x6\nunchecked x6 x7\nbytes 0x80e80008:01 0x80e80800:02\n"
unfolding listing head_line case_lines hart_lines bytes_line is_listed window_dwords is_declared window_at slot_line
    hex_text instr_of decoded printed name_of shape_of pieces_of pieces_text operand_text mark_text digits
    unchecked_line saved_registers is_unchecked register_entry dword_bits dword_entry windows_base
a_listing = refl
