-- Symbols, read back.
use Rattle.std.proofs.Common.{◌≡◌, ℕ, zero, suc, ◌+◌, ◌*◌, ◌^◌, ◌<◌, ◌≤◌, ◌==◌, ◌&&◌, true, false, not, nat_lt}
use Rattle.std.proofs.Common.{nat_le, Option, Some, Result, Ok, List, [], ◌∷◌, ◌++◌, All, length, take, drop, refl}
use Rattle.std.proofs.Common.{ap, ◌∙◌, sym, arith, length-append}
use Rattle.std.specs.Int.{from_le_bytes, to_le_bytes, w32, w64}
use Rattle.std.specs.List.{flat_map, list_all, prefix_len}
use Rattle.std.proofs.lemmas.Bool.Decides.{nat_tests}
use Rattle.std.proofs.lemmas.List.{take-take, take_at, drop_at, drop-drop, length-take, append_assoc}
use Rattle.std.proofs.lemmas.List.Elements.{All-head, All-tail}
use Rattle.std.proofs.lemmas.Nat.{from_le_bytes-to_le_bytes_4, from_le_bytes-to_le_bytes_8}
use Rattle.std.proofs.lemmas.Bool.{and_parts}
use Rattle.tm_elf_write.specs.declared.parts.Symbol.{Symbol}
use Rattle.tm_elf_write.specs.Fields.{field_bytes, bytes_of}
use Rattle.tm_elf_write.specs.Symbols.{IsName, entry, entries, string_bytes, symbol_bytes}
use Rattle.tm_elf_write.specs.declared.parts.TheConstants.{MOST_SYMBOLS, SYMBOL_NAME_BYTES}
use Rattle.tm_refusals.specs.declared.elf.ElfFault.{ElfFault}
use Rattle.tm_elf_head.specs.Numbers.{word_at, long_at}
use Rattle.tm_elf.specs.SymbolTable.{is_name, name_len, symbol_at, symbols_from, then_symbols}

some_byte : (b : ℕ) → nat_lt 0 b ≡ true → (b == 0) ≡ false
some_byte b h = grind (arith, nat_tests)

front_of_name : (name rest : List ℕ) (m : ℕ) → length name < m → list_all (λ b. nat_lt 0 b && nat_lt b 128) name ≡ true
    → prefix_len (λ b. not (b == 0)) (take m (name ++ 0 ∷ rest)) ≡ length name
front_of_name name rest zero less ascii = absurd (omega (arith, less))
front_of_name [] rest (suc m) less ascii = refl
front_of_name (b ∷ bs) rest (suc m) less ascii =
    let a = and_parts (nat_lt 0 b && nat_lt b 128) (list_all (λ b. nat_lt 0 b && nat_lt b 128) bs) ascii in
    let c = and_parts (nat_lt 0 b) (nat_lt b 128) a.0 in
    let some : (b == 0) ≡ false = some_byte b c.0 in
    let more = front_of_name bs rest m (omega (arith, less)) a.1 in
    rw (some, more) (omega arith)

name_is : (name : List ℕ) → IsName name → is_name name ≡ true
unfolding is_name
name_is name is =
    let some = is.some in
    let short = is.short in
    let a : nat_lt 0 (length name) ≡ true = grind (arith, nat_tests) in
    let b : nat_le (length name) SYMBOL_NAME_BYTES ≡ true = grind (arith, nat_tests) in
    rw (a, b) is.ascii

-- so many bytes hold a name and the zero byte behind it
abbrev room : ℕ
room = SYMBOL_NAME_BYTES + 1

front_is : (name rest : List ℕ) → length name ≤ SYMBOL_NAME_BYTES
    → take (length name) (take room (name ++ 0 ∷ rest)) ≡ name
front_is name rest short = take-take (length name) room (name ++ 0 ∷ rest) (omega (arith, short)) ∙ take_at name (0
    ∷ rest) (length name) refl

name_back : (name rest : List ℕ) → IsName name → name_len (take room (name ++ 0 ∷ rest)) ≡ Some (length name)
unfolding name_len
name_back name rest is =
    let short = is.short in
    let n : prefix_len (λ b. not (b == 0)) (take room (name ++ 0 ∷ rest)) ≡ length name =
    front_of_name name rest room (omega (arith, short)) is.ascii in
    let l : length name < length (take room (name ++ 0 ∷ rest)) =
    omega (arith, length-take room (name ++ 0 ∷ rest), length-append name (0 ∷ rest)) in
    let within : nat_lt (length name) (length (take room (name ++ 0 ∷ rest))) ≡ true = grind (arith, nat_tests) in
    let front : is_name (take (length name) (take room (name ++ 0 ∷ rest))) ≡ true =
    ap is_name (front_is name rest short) ∙ name_is name is in
    rw (n, within, front) refl

entry_word : (name addr : ℕ) (rest : List ℕ) → take 4 (bytes_of (entry name addr) ++ rest) ≡ to_le_bytes w32 name
unfolding entry field_bytes
entry_word name addr rest = refl

entry_addr : (name addr : ℕ) (rest : List ℕ) → take 8 (drop 8 (bytes_of (entry name addr) ++ rest))
    ≡ to_le_bytes w64 addr
unfolding entry field_bytes
entry_addr name addr rest = refl

entry_end : (name addr : ℕ) (rest : List ℕ) → drop 24 (bytes_of (entry name addr) ++ rest) ≡ rest
unfolding entry field_bytes
entry_end name addr rest = refl

abbrev name_bytes : List Symbol → List ℕ
name_bytes ss = flat_map (λ (s : Symbol). s.name ++ 0 ∷ []) ss

symbol_back : (table strings rest more : List ℕ) (index name : ℕ) (s : Symbol) → IsName s.name → s.addr < 2 ^ 64
    → name < 2 ^ 32
    → drop (24 * index) table ≡ bytes_of (entry name s.addr) ++ rest → drop name strings ≡ s.name ++ 0 ∷ more
    → symbol_at table strings index ≡ Some s
unfolding symbol_at word_at long_at
symbol_back table strings rest more index name s is addr fits e f =
    let w : from_le_bytes w32 (take 4 (drop (24 * index) table)) ≡ name =
    ap (λ b. from_le_bytes w32 (take 4 b)) e ∙ ap (from_le_bytes w32) (entry_word name s.addr rest) ∙
    from_le_bytes-to_le_bytes_4 name fits in
    let a : from_le_bytes w64 (take 8 (drop (24 * index + 8) table)) ≡ s.addr =
    ap (λ b. from_le_bytes w64 (take 8 b)) (sym (drop-drop 8 (24 * index) table) ∙ ap (drop 8) e) ∙ ap
    (from_le_bytes w64) (entry_addr name s.addr rest) ∙ from_le_bytes-to_le_bytes_8 s.addr addr in
    rw (w, f, name_back s.name more is) (rw (a, front_is s.name more is.short) refl)

then_back : (index : ℕ) (o : Option Symbol) (r : Result (List Symbol) ElfFault) (s : Symbol) (ss : List Symbol)
    → o ≡ Some s → r ≡ Ok ss → then_symbols index o r ≡ Ok (s ∷ ss)
then_back index o r s ss e f = rw (e, f) refl

entries_back : (ss : List Symbol) (table strings : List ℕ) (index name : ℕ) → All (λ s. IsName s.name) ss
    → All (λ s. s.addr < 2 ^ 64) ss → name + 33 * length ss < 2 ^ 32
    → drop (24 * index) table ≡ entries name ss → drop name strings ≡ name_bytes ss
    → symbols_from table strings (length ss) index ≡ Ok ss
unfolding entries symbols_from
entries_back [] table strings index name names addrs fits e f = refl
entries_back (s ∷ ss) table strings index name names addrs fits e f =
    let is = All-head (λ (s : Symbol). IsName s.name) s ss names in
    let short = is.short in
    let named : drop name strings ≡ s.name ++ 0 ∷ name_bytes ss = f ∙ append_assoc s.name (0 ∷ []) (name_bytes ss) in
    let here = symbol_back table strings (entries (name + length s.name + 1) ss) (name_bytes ss) index name s is
    (All-head (λ (s : Symbol). s.addr < 2 ^ 64) s ss addrs) (omega (arith, fits)) e named in
    let step : 24 * (index + 1) ≡ 24 * index + 24 = omega arith in
    let next : drop (24 * (index + 1)) table ≡ entries (name + length s.name + 1) ss =
    ap (λ n. drop n table) step ∙ sym (drop-drop 24 (24 * index) table) ∙ ap (drop 24) e ∙ entry_end name s.addr
    (entries (name + length s.name + 1) ss) in
    let behind : drop (name + length s.name + 1) strings ≡ name_bytes ss =
    sym (drop-drop 1 (name + length s.name) strings) ∙ ap (drop 1)
    (sym (drop-drop (length s.name) name strings) ∙ ap (drop (length s.name)) named ∙ drop_at s.name (0
    ∷ name_bytes ss) (length s.name) refl) in
    let rest = entries_back ss table strings (index + 1) (name + length s.name + 1)
    (All-tail (λ (s : Symbol). IsName s.name) s ss names) (All-tail (λ (s : Symbol). s.addr < 2 ^ 64) s ss addrs)
    (omega (arith, fits, short)) next behind in
    then_back index _ _ s ss here rest

pub symbols_back : (ss : List Symbol) → length ss ≤ MOST_SYMBOLS → All (λ s. IsName s.name) ss
    → All (λ s. s.addr < 2 ^ 64) ss → symbols_from (symbol_bytes ss) (string_bytes ss) (length ss) 1 ≡ Ok ss
unfolding symbol_bytes string_bytes
symbols_back ss few names addrs = entries_back ss _ _ 1 1 names addrs (omega (arith, few)) refl refl

pub strings_short : (ss : List Symbol) → All (λ s. IsName s.name) ss → length (string_bytes ss) ≤ 33 * length ss + 1
unfolding string_bytes
strings_short [] names = omega arith
strings_short (s ∷ ss) names =
    let short = (All-head (λ (s : Symbol). IsName s.name) s ss names).short in
    omega (
      arith,
      short,
      strings_short ss (All-tail (λ (s : Symbol). IsName s.name) s ss names),
      length-append (s.name ++ 0 ∷ []) (name_bytes ss),
      length-append s.name (0 ∷ []),
    )
