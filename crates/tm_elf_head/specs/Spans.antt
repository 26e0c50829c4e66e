-- The ranges to which a file's headers point.
use Rattle.std.specs.Prelude.{ℕ, List, Bool, ◌+◌, ◌-◌, ◌*◌, length, nat_le}
use Rattle.tm_elf_head.specs.declared.spans.Span.{Span}
use Rattle.tm_elf_head.specs.Numbers.{long_at, part_at}

-- where the section headers stand: the last 512 bytes of the file (this project)
abbrev pub headers_at : List ℕ → ℕ
headers_at bytes = length bytes - 512

-- p_offset and p_filesz of a program header (ELF gABI, "Program Header"), of 56 bytes each from offset 64
unfoldable pub segment : (bytes : List ℕ) (index : ℕ) → Span
segment bytes index = record { at = long_at bytes (56 * index + 72); len = long_at bytes (56 * index + 96) }

-- sh_offset and sh_size of a section header (ELF gABI, "Sections"), of 64 bytes each
unfoldable pub section : (bytes : List ℕ) (index : ℕ) → Span
section bytes index = record {
  at = long_at bytes (headers_at bytes + (64 * index + 24));
  len = long_at bytes (headers_at bytes + (64 * index + 32));
}

-- whether a range ends by a place (this project)
unfoldable pub ends_by : (limit : ℕ) → Span → Bool
ends_by limit span = nat_le (span.at + span.len) limit

-- the bytes of a range (this project)
abbrev pub bytes_in : Span → List ℕ → List ℕ
bytes_in span bytes = part_at span.at span.len bytes
