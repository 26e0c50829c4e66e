-- Symbols read from a symbol table and its strings.
use Rattle.std.specs.Prelude.{ℕ, zero, suc, List, [], ◌∷◌, ◌+◌, ◌*◌, ◌==◌, ◌&&◌, Bool, Option, Some, None, option_map}
use Rattle.std.specs.Prelude.{Result, Ok, Err, not, nat_lt, nat_le, if◌then◌else◌, length, take}
use Rattle.std.specs.List.{prefix_len, list_all}
use Rattle.tm_elf_write.specs.declared.parts.Symbol.{Symbol}
use Rattle.tm_elf_write.specs.declared.parts.TheConstants.{SYMBOL_NAME_BYTES}
use Rattle.tm_refusals.specs.declared.elf.ElfFault.{ElfFault}
use Rattle.tm_refusals.specs.declared.elf.ElfFault.TheVariants.{BadSymbol}
use Rattle.tm_elf_head.specs.Numbers.{word_at, long_at, part_at}

-- whether bytes are 1 to 32 of ASCII, none of them zero (this project)
unfoldable pub is_name : List ℕ → Bool
is_name bytes =
    nat_lt 0 (length bytes) && (nat_le (length bytes) SYMBOL_NAME_BYTES
    && list_all (λ b. nat_lt 0 b && nat_lt b 128) bytes)

-- the length of the name with which bytes begin, if they begin with one that a zero byte ends (ELF gABI, "String
-- Table")
unfoldable pub name_len : List ℕ → Option ℕ
name_len bytes = let n = prefix_len (λ b. not (b == 0)) bytes in if nat_lt n (length bytes) && is_name (take n bytes)
    then Some n else None

-- the symbol of an entry (ELF gABI, "Symbol Table"), if its name stands in the strings: a name and its zero byte take
-- at most 33 bytes
unfoldable pub symbol_at : (table strings : List ℕ) (index : ℕ) → Option Symbol
symbol_at table strings index =
    let named = part_at (word_at table (24 * index)) (SYMBOL_NAME_BYTES + 1) strings in
    option_map (λ n. record { name = take n named; addr = long_at table (24 * index + 8) }) (name_len named)

-- a symbol before others, or the fault that comes first (this project)
abbrev pub then_symbols : ℕ → Option Symbol → Result (List Symbol) ElfFault → Result (List Symbol) ElfFault
then_symbols index None rest = Err (BadSymbol index)
then_symbols index (Some s) (Ok ss) = Ok (s ∷ ss)
then_symbols index (Some s) (Err e) = Err e

-- the symbols of so many entries from an index on, or the first entry without a name (this project)
unfoldable pub symbols_from : (table strings : List ℕ) (count index : ℕ) → Result (List Symbol) ElfFault
symbols_from table strings zero index = Ok []
symbols_from table strings (suc count) index =
    then_symbols index (symbol_at table strings index) (symbols_from table strings count (index + 1))
