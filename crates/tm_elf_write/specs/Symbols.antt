-- The section `.symtab` with entries of 24 bytes, Elf64_Sym, and its strings, `.strtab`.
use Rattle.std.specs.Prelude.{ℕ, List, [], ◌∷◌, ◌++◌, ◌+◌, ◌≤◌, ◌<◌, length, IsTrue, ◌&&◌, nat_lt}
use Rattle.std.specs.List.{flat_map, list_all}
use Rattle.tm_elf_write.specs.declared.fields.Field.{Field}
use Rattle.tm_elf_write.specs.declared.fields.Field.TheVariants.{Byte, Half, Word, Long}
use Rattle.tm_elf_write.specs.declared.parts.Symbol.{Symbol}
use Rattle.tm_elf_write.specs.Fields.{bytes_of, zeros}
use Rattle.tm_elf_write.specs.declared.parts.TheConstants.{SYMBOL_NAME_BYTES}

-- a name of 1 to 32 ASCII bytes, none of them zero (this project)
pub record IsName (name : List ℕ) : Type 0 where
  pub some : 0 < length name
  pub short : length name ≤ SYMBOL_NAME_BYTES
  pub ascii : IsTrue (list_all (λ b. nat_lt 0 b && nat_lt b 128) name)

-- a zero byte, and then each symbol's name with a zero byte (ELF gABI, "String Table")
unfoldable pub string_bytes : List Symbol → List ℕ
string_bytes symbols = 0 ∷ flat_map (λ s. s.name ++ 0 ∷ []) symbols

-- one entry (ELF gABI, "Symbol Table"), of a symbol whose name begins at this offset of the strings
unfoldable pub entry : (name addr : ℕ) → List Field
entry name addr =
    Word name  -- 0 st_name
    ∷ Byte 0x10  -- 4 st_info: STB_GLOBAL, STT_NOTYPE
    ∷ Byte 0  -- 5 st_other: STV_DEFAULT
    ∷ Half 1  -- 6 st_shndx: `.text`
    ∷ Long addr  -- 8 st_value
    ∷ Long 0  -- 16 st_size: none
    ∷ []

-- the entries of symbols, in order, whose names stand in the strings from this offset on, each with its zero byte
-- (this project)
unfoldable pub entries : ℕ → List Symbol → List ℕ
entries name [] = []
entries name (s ∷ ss) = bytes_of (entry name s.addr) ++ entries (name + length s.name + 1) ss

-- the undefined symbol, 24 zeros (ELF gABI), and the entries: the first name stands behind the zero byte of the strings
unfoldable pub symbol_bytes : List Symbol → List ℕ
symbol_bytes symbols = zeros 24 ++ entries 1 symbols
