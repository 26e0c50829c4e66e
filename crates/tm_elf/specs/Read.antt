-- A file, read.
use Rattle.std.specs.Prelude.{ℕ, zero, suc, List, [], ◌∷◌, ◌+◌, ◌-◌, ◌/◌, ◌^◌, ◌<◌, Option, Some, None, Result, Ok}
use Rattle.std.specs.Prelude.{Err, if◌then◌else◌, All}
use Rattle.tm_elf_write.specs.declared.parts.Parts.{Parts}
use Rattle.tm_elf_write.specs.declared.parts.Symbol.{Symbol}
use Rattle.tm_elf_write.specs.Elf.{elf_file}
use Rattle.tm_refusals.specs.declared.elf.ElfFault.{ElfFault}
use Rattle.tm_refusals.specs.declared.elf.ElfFault.TheVariants.{BadSegment, NoPlan, BadSymbol, Differs}
use Rattle.tm_elf_head.specs.Differences.{first_difference}
use Rattle.tm_elf_head.specs.HeaderFaults.{header_fault}
use Rattle.tm_elf_head.specs.Numbers.{word_at}
use Rattle.tm_elf_head.specs.PartFaults.{bad_segment, has_plan, has_symbols, plan_of}
use Rattle.tm_elf_head.specs.Spans.{segment, section, bytes_in}
use Rattle.tm_elf.specs.SymbolTable.{symbols_from}

-- so many words from a place on (RISC-V Volume I 1.5)
unfoldable pub words_from : (bytes : List ℕ) (count at : ℕ) → List ℕ
words_from bytes zero at = []
words_from bytes (suc count) at = word_at bytes at ∷ words_from bytes count (at + 4)

-- the symbols behind the entry of zeros (this project)
unfoldable pub symbols_in : List ℕ → Result (List Symbol) ElfFault
symbols_in bytes = symbols_from (bytes_in (section bytes 5) bytes) (bytes_in (section bytes 6) bytes)
    ((section bytes 5).len / 24 - 1) 1

-- the parts of a file with these symbols, each from where the headers say (this project)
unfoldable pub parts_in : (bytes : List ℕ) (symbols : List Symbol) → Parts
parts_in bytes symbols = record {
  text = words_from (bytes_in (segment bytes 0) bytes) ((segment bytes 0).len / 4) 0;
  tables = bytes_in (segment bytes 1) bytes;
  plan = plan_of (bytes_in (section bytes 4) bytes);
  symbols = symbols;
}

-- a fault where there is one (this project)
abbrev pub unless_fault : {A : Type 0} → Option ElfFault → Result A ElfFault → Result A ElfFault
unless_fault None r = r
unless_fault (Some e) r = Err e

-- a fault of a program header (this project)
abbrev pub segment_fault : Option ℕ → Option ElfFault
segment_fault None = None
segment_fault (Some index) = Some (BadSegment index)

-- parts, or the place at which something else stands (this project)
abbrev pub unless_differs : Parts → Option ℕ → Result Parts ElfFault
unless_differs parts None = Ok parts
unless_differs parts (Some at) = Err (Differs at)

-- parts whose file these bytes are, or where the two differ (this project)
unfoldable pub compared : Parts → List ℕ → Result Parts ElfFault
compared parts bytes = unless_differs parts (first_difference (elf_file parts) bytes)

-- parts with symbols, or the fault of the symbols (this project)
unfoldable pub with_symbols : List ℕ → Result (List Symbol) ElfFault → Result Parts ElfFault
with_symbols bytes (Ok symbols) = compared (parts_in bytes symbols) bytes
with_symbols bytes (Err e) = Err e

-- What a file is read as: its parts, or the first fault in this order: the file header, the program headers, the
-- plan, the ranges of the symbol table and of its strings, the entries, and last any other byte (this project).
unfoldable pub elf_of : List ℕ → Result Parts ElfFault
elf_of bytes =
    unless_fault (header_fault bytes) (
    unless_fault (segment_fault (bad_segment bytes)) (
    if has_plan bytes then (if has_symbols bytes then with_symbols bytes (symbols_in bytes) else Err (BadSymbol 0))
    else Err NoPlan))

-- parts whose numbers are in the ranges of their types (this project)
pub record InRange (p : Parts) : Type 0 where
  pub text : All (λ w. w < 2 ^ 32) p.text
  pub seed : p.plan.seed < 2 ^ 64
  pub symbols : All (λ s. s.addr < 2 ^ 64) p.symbols
