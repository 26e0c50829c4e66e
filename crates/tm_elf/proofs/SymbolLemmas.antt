-- Symbols read one by one.
use Rattle.std.proofs.Common.{◌≡◌, ℕ, suc, ◌+◌, ◌-◌, ◌<◌, ◌≤◌, List, [], ◌∷◌, ◌++◌, Some, None, Result, Ok, Err, refl}
use Rattle.std.proofs.Common.{ap, ◌∙◌, sym, arith}
use Rattle.std.proofs.lemmas.List.{append-nil, append_assoc}
use Rattle.tm_elf_write.specs.declared.parts.Symbol.{Symbol}
use Rattle.tm_refusals.specs.declared.elf.ElfFault.{ElfFault}
use Rattle.tm_refusals.specs.declared.elf.ElfFault.TheVariants.{BadSymbol}
use Rattle.tm_elf.specs.SymbolTable.{symbol_at, symbols_from, then_symbols}

-- symbols already read, before those that are still to come
abbrev pub prepend : List Symbol → Result (List Symbol) ElfFault → Result (List Symbol) ElfFault
prepend out (Ok ss) = Ok (out ++ ss)
prepend out (Err e) = Err e

pub prepend_start : (r : Result (List Symbol) ElfFault) → prepend [] r ≡ r
prepend_start (Ok ss) = refl
prepend_start (Err e) = refl

one_more : (index : ℕ) (out : List Symbol) (s : Symbol) (rest : Result (List Symbol) ElfFault)
    → prepend (out ++ s ∷ []) rest ≡ prepend out (then_symbols index (Some s) rest)
one_more index out s (Ok ss) = ap Ok (append_assoc out (s ∷ []) ss)
one_more index out s (Err e) = refl

pub prepend_more : (table strings : List ℕ) (count index : ℕ) (out : List Symbol) (s : Symbol)
    (r : Result (List Symbol) ElfFault)
    → index < count → symbol_at table strings index ≡ Some s
    → prepend out (symbols_from table strings (count - index) index) ≡ r
    → prepend (out ++ s ∷ []) (symbols_from table strings (count - (index + 1)) (index + 1)) ≡ r
unfolding symbols_from
prepend_more table strings count index out s r less found h =
    let e : count - index ≡ suc (count - (index + 1)) = omega arith in
    one_more index out s (symbols_from table strings (count - (index + 1)) (index + 1)) ∙ (rw (e, found) at h)

pub prepend_stop : (table strings : List ℕ) (count index : ℕ) (out : List Symbol) (r : Result (List Symbol) ElfFault)
    → index < count → symbol_at table strings index ≡ None
    → prepend out (symbols_from table strings (count - index) index) ≡ r → r ≡ Err (BadSymbol index)
unfolding symbols_from
prepend_stop table strings count index out r less none h =
    let e : count - index ≡ suc (count - (index + 1)) = omega arith in
    sym (rw (e, none) at h)

pub prepend_end : (table strings : List ℕ) (count index : ℕ) (out : List Symbol) (r : Result (List Symbol) ElfFault)
    → count ≤ index → prepend out (symbols_from table strings (count - index) index) ≡ r → r ≡ Ok out
unfolding symbols_from
prepend_end table strings count index out r past h =
    let e : count - index ≡ 0 = omega arith in
    sym (rw e at h) ∙ ap Ok (append-nil out)
