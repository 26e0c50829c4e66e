-- The program headers, Elf64_Phdr: three of 56 bytes from offset 64.
use Rattle.std.specs.Prelude.{ℕ, List, [], ◌∷◌}
use Rattle.std.specs.List.{flat_map}
use Rattle.tm_plan_map.specs.declared.addresses.TheConstants.{TEXT_ADDRESS, TABLES_ADDRESS}
use Rattle.tm_elf_write.specs.declared.fields.Field.{Field}
use Rattle.tm_elf_write.specs.declared.fields.Field.TheVariants.{Word, Long}
use Rattle.tm_elf_write.specs.declared.places.Places.{Places}
use Rattle.tm_elf_write.specs.declared.places.TheConstants.{WORK_ADDRESS, WORK_LEN}
use Rattle.tm_elf_write.specs.declared.segments.Segment.{Segment}
use Rattle.tm_elf_write.specs.Fields.{bytes_of}

-- one program header (ELF gABI, "Program Header"): all are loaded, and stand at one address, virtual and physical
-- (this project)
unfoldable pub segment_fields : Segment → List Field
segment_fields s =
    Word 1  -- 0 p_type: PT_LOAD
    ∷ Word s.flags  -- 4 p_flags: 4 is PF_R, 2 is PF_W, 1 is PF_X
    ∷ Long s.offset  -- 8 p_offset
    ∷ Long s.address  -- 16 p_vaddr
    ∷ Long s.address  -- 24 p_paddr
    ∷ Long s.filesz  -- 32 p_filesz
    ∷ Long s.memsz  -- 40 p_memsz
    ∷ Long 4096  -- 48 p_align
    ∷ []

-- a row of the table: flags, offset, address, bytes in the file, bytes in memory (this project)
abbrev pub segment : (flags offset address filesz memsz : ℕ) → Segment
segment flags offset address filesz memsz = record {
  flags = flags;
  offset = offset;
  address = address;
  filesz = filesz;
  memsz = memsz;
}

-- The rows: text (read and executed), tables (read) and work (read and written, filled with zeros by the loader)
-- (this project).
unfoldable pub segments : (text tables : ℕ) → Places → List Segment
segments text tables at =
    segment 5 4096 TEXT_ADDRESS text text
    ∷ segment 4 at.tables TABLES_ADDRESS tables tables
    ∷ segment 6 0 WORK_ADDRESS 0 WORK_LEN
    ∷ []

-- program headers one after the other (ELF gABI)
abbrev pub segments_bytes : List Segment → List ℕ
segments_bytes rows = flat_map (λ s. bytes_of (segment_fields s)) rows
