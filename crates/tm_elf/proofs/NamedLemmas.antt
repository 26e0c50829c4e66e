-- What is read has names, and is writable.
use Rattle.std.proofs.Common.{◌≡◌, ℕ, zero, suc, ◌+◌, ◌-◌, ◌*◌, ◌/◌, Bool, true, false, cond, Option, Some, None}
use Rattle.std.proofs.Common.{option_map, Result, Ok, Err, List, [], ◌∷◌, All, length, take, drop, refl, ap, ◌∙◌, sym}
use Rattle.std.proofs.Common.{subst, arith}
use Rattle.std.proofs.lemmas.List.{length-take}
use Rattle.std.proofs.lemmas.List.Elements.{All-cons}
use Rattle.std.proofs.lemmas.Bool.{and_parts, leb-true, ltb-true}
use Rattle.tm_elf_write.specs.declared.parts.Symbol.{Symbol}
use Rattle.tm_elf_write.specs.Elf.{IsWritable}
use Rattle.tm_elf_write.specs.Symbols.{IsName}
use Rattle.tm_elf_write.specs.declared.parts.TheConstants.{SYMBOL_NAME_BYTES}
use Rattle.tm_refusals.specs.declared.elf.ElfFault.{ElfFault}
use Rattle.tm_elf_head.specs.Numbers.{word_at, long_at, part_at}
use Rattle.tm_elf_head.specs.PartFaults.{bad_segment, has_plan, has_symbols}
use Rattle.tm_elf.specs.Read.{parts_in, symbols_in, words_from}
use Rattle.tm_elf_head.specs.Spans.{segment, section, bytes_in}
use Rattle.tm_elf.specs.SymbolTable.{is_name, name_len, symbol_at, symbols_from, then_symbols}
use Rattle.tm_elf.proofs.WordLemmas.{length_words}
use Rattle.tm_elf_head.proofs.FitLemmas.{text_fits, plan_fits, plan_lengths, symbols_fit}

name_holds : (name : List ℕ) → is_name name ≡ true → IsName name
unfolding is_name
name_holds name h =
    let a = and_parts _ _ h in
    let b = and_parts _ _ a.1 in
    record { some = ltb-true _ _ a.0; short = leb-true _ _ b.0; ascii = b.1 }

chosen : (t : Bool) (n m : ℕ) → cond t (Some n) None ≡ Some m → (t ≡ true) × (n ≡ m)
chosen true n m h = (refl, cc)
chosen false n m h = cc

named : (bytes : List ℕ) (n : ℕ) → name_len bytes ≡ Some n → is_name (take n bytes) ≡ true
unfolding name_len
named bytes n h =
    let c = chosen _ _ n h in
    let b = and_parts _ _ c.0 in
    ap (λ k. is_name (take k bytes)) (sym c.1) ∙ b.1

mapped : {A B : Type 0} (f : A → B) (o : Option A) (b : B) → option_map f o ≡ Some b → (a : A) × (o ≡ Some a)
    × (f a ≡ b)
mapped f None b h = cc
mapped f (Some a) b h = (a, refl, cc)

symbol_named : (table strings : List ℕ) (index : ℕ) (s : Symbol) → symbol_at table strings index ≡ Some s
    → IsName s.name
unfolding symbol_at
symbol_named table strings index s h =
    let named_bytes = part_at (word_at table (24 * index)) (SYMBOL_NAME_BYTES + 1) strings in
    let m = mapped (λ (n : ℕ). let t : Symbol = record {
      name = take n named_bytes;
      addr = long_at table (24 * index + 8);
    } in t) (name_len named_bytes) s h in
    let same : take m.0 named_bytes ≡ s.name = ap (λ (t : Symbol). t.name) m.2 in
    subst IsName same (name_holds (take m.0 named_bytes) (named named_bytes m.0 m.1))

record Split (index : ℕ) (o : Option Symbol) (r : Result (List Symbol) ElfFault) (ss : List Symbol) : Type 0 where
  first : Symbol
  rest : List Symbol
  is_first : o ≡ Some first
  is_rest : r ≡ Ok rest
  whole : first ∷ rest ≡ ss

split : (index : ℕ) (o : Option Symbol) (r : Result (List Symbol) ElfFault) (ss : List Symbol) → then_symbols index o r
    ≡ Ok ss → Split index o r ss
split index None r ss h = cc
split index (Some s) (Ok rest) ss h = record { first = s; rest = rest; is_first = refl; is_rest = refl; whole = cc }
split index (Some s) (Err e) ss h = cc

record Listed (count : ℕ) (ss : List Symbol) : Type 0 where
  number : length ss ≡ count
  names : All (λ s. IsName s.name) ss

listed : (table strings : List ℕ) (count index : ℕ) (ss : List Symbol) → symbols_from table strings count index ≡ Ok ss
    → Listed count ss
unfolding symbols_from
listed table strings zero index ss h =
    let e : [] ≡ ss = cc in
    subst (λ l. Listed 0 l) e (record { number = refl; names = λ k d h. absurd (omega (arith, h)) })
listed table strings (suc count) index ss h =
    let s = split index (symbol_at table strings index) (symbols_from table strings count (index + 1)) ss h in
    let l = listed table strings count (index + 1) s.rest s.is_rest in
    subst (λ l. Listed (suc count) l) s.whole (record {
      number = ap suc l.number;
      names = All-cons (λ (s : Symbol). IsName s.name) s.first s.rest
          (symbol_named table strings index s.first s.is_first) l.names;
    })

pub writable : (bytes : List ℕ) (symbols : List Symbol) → bad_segment bytes ≡ None → has_plan bytes ≡ true
    → has_symbols bytes ≡ true → symbols_in bytes ≡ Ok symbols
    → IsWritable (parts_in bytes symbols)
unfolding parts_in symbols_in
writable bytes symbols segments plan has h =
    let t = text_fits bytes segments in
    let p = plan_lengths (bytes_in (section bytes 4) bytes) (plan_fits bytes plan) in
    let f = symbols_fit bytes has in
    let l = listed (bytes_in (section bytes 5) bytes) (bytes_in (section bytes 6) bytes)
    ((section bytes 5).len / 24 - 1) 1 symbols h in
    let n : length (words_from (bytes_in (segment bytes 0) bytes) ((segment bytes 0).len / 4) 0)
    ≡ (segment bytes 0).len / 4 = length_words (bytes_in (segment bytes 0) bytes) ((segment bytes 0).len / 4) 0 in
    record {
      text = (omega arith, omega arith);
      tables = omega (arith, length-take (segment bytes 1).len (drop (segment bytes 1).at bytes));
      topo = p.topo;
      template = p.template;
      symbols = omega arith;
      names = l.names;
    }
