-- Numbers in fields, the lowest byte first (ELF gABI, "Data Representation", ELFDATA2LSB).
use Rattle.std.specs.Prelude.{ℕ, List, [], ◌∷◌, ◌+◌, ◌-◌, ◌*◌, ◌/◌, replicate}
use Rattle.std.specs.List.{flat_map}
use Rattle.std.specs.Int.{to_le_bytes, w16, w32, w64}
use Rattle.tm_elf_write.specs.declared.fields.Field.{Field}
use Rattle.tm_elf_write.specs.declared.fields.Field.TheVariants.{Byte, Half, Word, Long}

-- the 1, 2, 4 or 8 bytes of a field: unsigned char, Elf64_Half, Elf64_Word, and Elf64_Xword, Elf64_Addr or Elf64_Off
-- (ELF gABI)
unfoldable pub field_bytes : Field → List ℕ
field_bytes (Byte n) = n ∷ []
field_bytes (Half n) = to_le_bytes w16 n
field_bytes (Word n) = to_le_bytes w32 n
field_bytes (Long n) = to_le_bytes w64 n

-- fields one after the other, with nothing between them (ELF gABI)
abbrev pub bytes_of : List Field → List ℕ
bytes_of fields = flat_map field_bytes fields

-- padding (this project)
abbrev pub zeros : ℕ → List ℕ
zeros n = replicate n 0

-- the next multiple of a step: n itself where it is one (this project)
abbrev pub next_multiple : (step n : ℕ) → ℕ
next_multiple step n = (n + (step - 1)) / step * step
