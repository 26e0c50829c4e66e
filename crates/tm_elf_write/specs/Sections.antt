-- The section headers, Elf64_Shdr: eight of 64 bytes at the file's end; and the sections' names.
use Rattle.std.specs.Prelude.{ℕ, List, [], ◌∷◌, ◌++◌, codes}
use Rattle.std.specs.List.{flat_map}
use Rattle.tm_plan_map.specs.declared.addresses.TheConstants.{TEXT_ADDRESS, TABLES_ADDRESS}
use Rattle.tm_elf_write.specs.declared.fields.Field.{Field}
use Rattle.tm_elf_write.specs.declared.fields.Field.TheVariants.{Word, Long}
use Rattle.tm_elf_write.specs.declared.places.Places.{Places}
use Rattle.tm_elf_write.specs.declared.places.TheConstants.{WORK_ADDRESS, WORK_LEN}
use Rattle.tm_elf_write.specs.declared.sections.Section.{Section}
use Rattle.tm_elf_write.specs.Fields.{bytes_of}

-- one section header (ELF gABI, "Sections")
unfoldable pub section_fields : Section → List Field
section_fields s =
    Word s.name  -- 0 sh_name: where the name begins in `.shstrtab`
    ∷ Word s.kind  -- 4 sh_type: 0 SHT_NULL, 1 SHT_PROGBITS, 2 SHT_SYMTAB, 3 SHT_STRTAB, 8 SHT_NOBITS
    ∷ Long s.flags  -- 8 sh_flags: 1 is SHF_WRITE, 2 is SHF_ALLOC, 4 is SHF_EXECINSTR
    ∷ Long s.address  -- 16 sh_addr
    ∷ Long s.offset  -- 24 sh_offset
    ∷ Long s.size  -- 32 sh_size
    ∷ Word s.link  -- 40 sh_link: of a symbol table the section of its strings
    ∷ Word s.info  -- 44 sh_info: of a symbol table the first global symbol
    ∷ Long s.align  -- 48 sh_addralign
    ∷ Long s.entry  -- 56 sh_entsize
    ∷ []

-- a row of the table: name, type, flags, address, offset, size, link, info, align, entry size (this project)
abbrev pub section : (name kind flags address offset size link info align entry : ℕ) → Section
section name kind flags address offset size link info align entry =
    record {
      name = name;
      kind = kind;
      flags = flags;
      address = address;
      offset = offset;
      size = size;
      link = link;
      info = info;
      align = align;
      entry = entry;
    }

-- The rows: none (ELF gABI), `.text`, `.tables`, `.work`, `.tmplan`, `.symtab`, `.strtab`, `.shstrtab` (this project).
unfoldable pub sections : (text tables plan symbols strings : ℕ) → Places → List Section
sections text tables plan symbols strings at =
    section 0 0 0 0 0 0 0 0 0 0
    ∷ section 1 1 6 TEXT_ADDRESS 4096 text 0 0 4096 0
    ∷ section 7 1 2 TABLES_ADDRESS at.tables tables 0 0 4096 0
    ∷ section 15 8 3 WORK_ADDRESS 0 WORK_LEN 0 0 4096 0
    ∷ section 21 1 0 0 at.plan plan 0 0 8 0
    ∷ section 29 2 0 0 at.symbols symbols 6 1 8 24
    ∷ section 37 3 0 0 at.strings strings 0 0 1 0
    ∷ section 45 3 0 0 at.names 55 0 0 1 0
    ∷ []

-- section headers one after the other (ELF gABI)
abbrev pub sections_bytes : List Section → List ℕ
sections_bytes rows = flat_map (λ s. bytes_of (section_fields s)) rows

-- a zero byte, and then each name with a zero byte (ELF gABI, "String Table"): 55 bytes
unfoldable pub section_names : List ℕ
section_names =
    0 ∷ flat_map (λ name. name ++ 0 ∷ [])
    (codes ".text" ∷ codes ".tables" ∷ codes ".work" ∷ codes ".tmplan" ∷ codes ".symtab" ∷ codes ".strtab"
    ∷ codes ".shstrtab" ∷ [])
