-- What stands where in a file.
use Rattle.std.specs.Prelude.{ℕ, List, ◌≡◌, ◌+◌, ◌-◌, ◌*◌, length, take, drop}
use Rattle.std.specs.Int.{to_le_bytes, w64}
use Rattle.tm_elf_write.specs.declared.parts.Parts.{Parts}
use Rattle.tm_elf_write.specs.declared.places.Places.{Places}
use Rattle.tm_elf_write.specs.Elf.{text_bytes}
use Rattle.tm_elf_write.specs.Fields.{bytes_of}
use Rattle.tm_elf_write.specs.Header.{first_bytes, header}
use Rattle.tm_elf_write.specs.Places.{places}
use Rattle.tm_elf_write.specs.Plan.{plan_bytes}
use Rattle.tm_elf_write.specs.Segments.{segments, segments_bytes}
use Rattle.tm_elf_write.specs.Sections.{section_names, sections, sections_bytes}
use Rattle.tm_elf_write.specs.Symbols.{symbol_bytes, string_bytes}

-- a part stands in bytes from this place on (this project)
abbrev pub StandsAt : (place : ℕ) (part bytes : List ℕ) → Type 0
StandsAt place part bytes = take (length part) (drop place bytes) ≡ part

-- the places of the parts of an image (this project)
unfoldable pub places_in : Parts → Places
places_in p = places (length (text_bytes p.text)) (length p.tables) (length (plan_bytes p.plan))
    (length (symbol_bytes p.symbols)) (length (string_bytes p.symbols))

-- What a reader finds in the file of an image (this project). Each part stands where the program headers and section
-- headers say, and the file ends with its eight section headers.
pub record ReadsAs (p : Parts) (bytes : List ℕ) : Type 0 where
  -- e_ident, e_type, e_machine, e_version, e_entry and e_phoff, whatever the parts
  pub begins : take 40 bytes ≡ first_bytes
  -- e_shoff: the section headers are the last 512 bytes
  pub shoff : take 8 (drop 40 bytes) ≡ to_le_bytes w64 (length bytes - 512)
  pub file_header : StandsAt 0 (bytes_of (header (places_in p).sections)) bytes
  pub program_headers : StandsAt 64 (segments_bytes
      (segments (length (text_bytes p.text)) (length p.tables) (places_in p))) bytes
  pub text : StandsAt 4096 (text_bytes p.text) bytes
  pub tables : StandsAt (places_in p).tables p.tables bytes
  pub plan : StandsAt (places_in p).plan (plan_bytes p.plan) bytes
  pub symbols : StandsAt (places_in p).symbols (symbol_bytes p.symbols) bytes
  pub strings : StandsAt (places_in p).strings (string_bytes p.symbols) bytes
  pub names : StandsAt (places_in p).names section_names bytes
  pub section_headers : StandsAt (places_in p).sections
      (sections_bytes (sections (length (text_bytes p.text)) (length p.tables) (length (plan_bytes p.plan))
      (length (symbol_bytes p.symbols)) (length (string_bytes p.symbols)) (places_in p))) bytes
  pub whole : length bytes ≡ (places_in p).sections + 8 * 64
