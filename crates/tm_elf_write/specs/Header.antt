-- The file header, Elf64_Ehdr: 64 bytes at offset 0.
use Rattle.std.specs.Prelude.{ℕ, List, [], ◌∷◌}
use Rattle.tm_plan_map.specs.declared.addresses.TheConstants.{TEXT_ADDRESS}
use Rattle.tm_elf_write.specs.declared.fields.Field.{Field}
use Rattle.tm_elf_write.specs.declared.fields.Field.TheVariants.{Byte, Half, Word, Long}

-- The header of a file whose section headers stand at this offset. The fields are those of ELF gABI, "ELF Header";
-- e_machine and e_flags are given by RISC-V psABI, the entry and the numbers of headers by this project.
unfoldable pub header : ℕ → List Field
header sections =
    Byte 0x7F ∷ Byte 0x45 ∷ Byte 0x4C ∷ Byte 0x46  -- e_ident 0 to 3: 0x7F and "ELF"
    ∷ Byte 2  -- e_ident 4: EI_CLASS, ELFCLASS64
    ∷ Byte 1  -- e_ident 5: EI_DATA, ELFDATA2LSB
    ∷ Byte 1  -- e_ident 6: EI_VERSION, EV_CURRENT
    ∷ Byte 0  -- e_ident 7: EI_OSABI, none
    ∷ Long 0  -- e_ident 8 to 15: EI_ABIVERSION 0 and the padding
    ∷ Half 2  -- 16 e_type: ET_EXEC
    ∷ Half 243  -- 18 e_machine: EM_RISCV
    ∷ Word 1  -- 20 e_version: EV_CURRENT
    ∷ Long TEXT_ADDRESS  -- 24 e_entry: the text's first word
    ∷ Long 64  -- 32 e_phoff: right after this header
    ∷ Long sections  -- 40 e_shoff
    ∷ Word 0  -- 48 e_flags: no compressed words, soft float
    ∷ Half 64  -- 52 e_ehsize
    ∷ Half 56  -- 54 e_phentsize
    ∷ Half 3  -- 56 e_phnum
    ∷ Half 64  -- 58 e_shentsize
    ∷ Half 8  -- 60 e_shnum
    ∷ Half 7  -- 62 e_shstrndx: `.shstrtab`
    ∷ []

-- What the first 40 bytes of each file are (this project): e_ident; e_type, e_machine and e_version; e_entry; e_phoff.
unfoldable pub first_bytes : List ℕ
first_bytes =
    0x7F ∷ 0x45 ∷ 0x4C ∷ 0x46 ∷ 0x02 ∷ 0x01 ∷ 0x01 ∷ 0x00 ∷ 0x00 ∷ 0x00 ∷ 0x00 ∷ 0x00 ∷ 0x00 ∷ 0x00 ∷ 0x00 ∷ 0x00
    ∷ 0x02 ∷ 0x00 ∷ 0xF3 ∷ 0x00 ∷ 0x01 ∷ 0x00 ∷ 0x00 ∷ 0x00
    ∷ 0x00 ∷ 0x00 ∷ 0x00 ∷ 0x80 ∷ 0x00 ∷ 0x00 ∷ 0x00 ∷ 0x00
    ∷ 0x40 ∷ 0x00 ∷ 0x00 ∷ 0x00 ∷ 0x00 ∷ 0x00 ∷ 0x00 ∷ 0x00
    ∷ []
