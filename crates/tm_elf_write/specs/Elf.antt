-- The file of an image: an ELF-64 file for RISC-V with three segments and eight sections. Numbers are little-endian,
-- padding bytes are zero.
use Rattle.std.specs.Prelude.{ℕ, List, ◌++◌, ◌+◌, ◌-◌, ◌*◌, ◌≤◌, ◌<◌, length, map, All}
use Rattle.tm_base.specs.declared.limits.TheConstants.{TEXT_WORDS, TABLES_BYTES, TOPOLOGY_BYTES, TEMPLATE_BYTES}
use Rattle.tm_elf_write.specs.declared.fields.Field.TheVariants.{Word}
use Rattle.tm_elf_write.specs.declared.parts.Parts.{Parts}
use Rattle.tm_elf_write.specs.Fields.{bytes_of, zeros}
use Rattle.tm_elf_write.specs.Places.{places}
use Rattle.tm_elf_write.specs.Header.{header}
use Rattle.tm_elf_write.specs.Segments.{segments, segments_bytes}
use Rattle.tm_elf_write.specs.Sections.{sections, sections_bytes, section_names}
use Rattle.tm_elf_write.specs.Plan.{plan_bytes}
use Rattle.tm_elf_write.specs.Symbols.{symbol_bytes, string_bytes, IsName}
use Rattle.tm_elf_write.specs.declared.parts.TheConstants.{MOST_SYMBOLS}

-- the text's words, the lowest byte first (RISC-V Volume I 1.5)
unfoldable pub text_bytes : List ℕ → List ℕ
text_bytes words = bytes_of (map Word words)

-- The parts in their order, filled with zeros up to each one's place (this project): the file header, the program
-- headers, text, tables, plan, symbol table, strings, section names, and the section headers, with which the file
-- ends.
unfoldable pub file : (text tables plan symbols strings : List ℕ) → List ℕ
file text tables plan symbols strings =
    let at = places (length text) (length tables) (length plan) (length symbols) (length strings) in
    bytes_of (header at.sections)
    ++ segments_bytes (segments (length text) (length tables) at)
    ++ zeros (4096 - (64 + 3 * 56))
    ++ text
    ++ zeros (at.tables - (4096 + length text))
    ++ tables
    ++ zeros (at.plan - (at.tables + length tables))
    ++ plan
    ++ zeros (at.symbols - (at.plan + length plan))
    ++ symbols
    ++ strings
    ++ section_names
    ++ zeros (at.sections - (at.names + 55))
    ++ sections_bytes (sections (length text) (length tables) (length plan) (length symbols) (length strings) at)

-- the file of the parts of an image (this project)
abbrev pub elf_file : Parts → List ℕ
elf_file p = file (text_bytes p.text) p.tables (plan_bytes p.plan) (symbol_bytes p.symbols) (string_bytes p.symbols)

-- the parts that have a file, with lengths in words, bytes and symbols (this project)
pub record IsWritable (p : Parts) : Type 0 where
  pub text : (0 < length p.text) × (length p.text ≤ TEXT_WORDS)
  pub tables : length p.tables ≤ TABLES_BYTES
  pub topo : length p.plan.topo ≤ TOPOLOGY_BYTES
  pub template : length p.plan.template ≤ TEMPLATE_BYTES
  pub symbols : length p.symbols ≤ MOST_SYMBOLS
  pub names : All (λ s. IsName s.name) p.symbols
