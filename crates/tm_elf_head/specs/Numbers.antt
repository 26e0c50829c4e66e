-- Numbers in a file, the lowest byte first (ELF gABI, "Data Representation", ELFDATA2LSB).
use Rattle.std.specs.Prelude.{ℕ, List, take, drop}
use Rattle.std.specs.Int.{from_le_bytes, w16, w32, w64}

-- so many bytes from a place on, as far as there are (this project)
abbrev pub part_at : (at len : ℕ) (bytes : List ℕ) → List ℕ
part_at at len bytes = take len (drop at bytes)

-- Elf64_Half at a place (ELF gABI)
unfoldable pub half_at : (bytes : List ℕ) (at : ℕ) → ℕ
half_at bytes at = from_le_bytes w16 (take 2 (drop at bytes))

-- Elf64_Word at a place (ELF gABI)
unfoldable pub word_at : (bytes : List ℕ) (at : ℕ) → ℕ
word_at bytes at = from_le_bytes w32 (take 4 (drop at bytes))

-- Elf64_Xword, Elf64_Addr or Elf64_Off at a place (ELF gABI)
unfoldable pub long_at : (bytes : List ℕ) (at : ℕ) → ℕ
long_at bytes at = from_le_bytes w64 (take 8 (drop at bytes))
