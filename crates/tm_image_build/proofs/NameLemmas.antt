-- The parts of a program's file can be written: how many symbols there are, and what their names are.
use Rattle.std.proofs.Common.{◌≡◌, ◌≤◌, ◌<◌, ℕ, zero, suc, ◌+◌, ◌*◌, ◌^◌, Bool, true, ◌&&◌, List, [], ◌∷◌, ◌++◌}
use Rattle.std.proofs.Common.{length, refl, ap₂, ◌∙◌, arith, lit≤, lit<, length-append, codes}
use Rattle.std.specs.Prelude.{flat_map, nat_lt}
use Rattle.std.specs.List.{list_all}
use Rattle.std.specs.Fmt.{decimal}
use Rattle.std.specs.Str.Parse.{AllDigits}
use Rattle.std.proofs.lemmas.Bool.Decides.{nat_tests}
use Rattle.std.proofs.lemmas.Str.Parse.{digit_from_value}
use Rattle.std.proofs.lemmas.List.Elements.{All-from_recursion}
use Rattle.std.proofs.lemmas.Fmt.{decimal_is_IsNumeral, length-decimal-le}
use Rattle.std.proofs.lemmas.List.Folds.{list_all-append}
use Rattle.tm_base.specs.Lists.{count_from}
use Rattle.tm_base.specs.declared.limits.TheConstants.{TEMPLATE_BYTES, TOPOLOGY_BYTES}
use Rattle.tm_plan_cases.specs.declared.program.Program.{Program}
use Rattle.tm_plan_cases.specs.Shaped.{IsProgram}
use Rattle.tm_elf_write.specs.declared.parts.Parts.{Parts}
use Rattle.tm_elf_write.specs.declared.parts.Symbol.{Symbol}
use Rattle.tm_elf_write.specs.Elf.{IsWritable}
use Rattle.tm_elf_write.specs.Symbols.{IsName}
use Rattle.tm_image_build.specs.Symbols.{stream_name, stream_symbols, streams_symbols, hart_marks, hart_symbols}
use Rattle.tm_image_build.specs.Symbols.{symbols_of}
use Rattle.tm_image_build.specs.Built.{parts_of}

-- ---- bytes of names

-- an ASCII byte that isn't zero
abbrev is_plain : ℕ → Bool
is_plain b = nat_lt 0 b && nat_lt b 128

digits-plain : (ds : List ℕ) → AllDigits 10 ds → list_all is_plain ds ≡ true
digits-plain [] h = refl
digits-plain (d ∷ ds) h =
    let range = digit_from_value d h.0 in
    let here : is_plain d ≡ true = grind (arith, nat_tests, range) in
    ap₂ (λ (x y : Bool). x && y) here (digits-plain ds h.1)

decimal-plain : (n : ℕ) → n < 2 ^ 64 → list_all is_plain (decimal n) ≡ true
decimal-plain n small = digits-plain (decimal n) (decimal_is_IsNumeral n small).0.1

decimal-short : (n : ℕ) → n < 100 → length (decimal n) ≤ 2
decimal-short n few = length-decimal-le 2 n (lit< tt) few (omega arith)

plain-append : (xs ys : List ℕ) → list_all is_plain xs ≡ true → list_all is_plain ys ≡ true
    → list_all is_plain (xs ++ ys) ≡ true
plain-append xs ys h g = list_all-append is_plain xs ys ∙ ap₂ (λ (x y : Bool). x && y) h g

-- ---- names

mark-named : (front : List ℕ) (h : ℕ) → 0 < length front → length front ≤ 8 → list_all is_plain front ≡ true → h < 100
    → IsName (front ++ decimal h)
mark-named front h some short plain few = record {
  some = omega (arith, length-append front (decimal h));
  short = omega (arith, length-append front (decimal h), decimal-short h few);
  ascii = plain-append front (decimal h) plain (decimal-plain h (omega arith));
}

stream-named : (front : List ℕ) (h c : ℕ) → 0 < length front → length front ≤ 8 → list_all is_plain front ≡ true
    → h < 100 → c < 100 → IsName (stream_name front h c)
stream-named front h c some short plain few_h few_c =
    let mark = mark-named front h some short plain few_h in
    let dash : List ℕ = codes "_" in
    let one : length dash ≤ 1 = lit≤ tt in
    record {
      some = omega (
        arith,
        mark.some,
        length-append ((front ++ decimal h) ++ dash) (decimal c),
        length-append (front ++ decimal h) dash,
      );
      short = omega (
        arith,
        length-append ((front ++ decimal h) ++ dash) (decimal c),
        length-append (front ++ decimal h) dash,
        length-append front (decimal h),
        decimal-short h few_h,
        decimal-short c few_c,
      );
      ascii = plain-append ((front ++ decimal h) ++ dash) (decimal c)
          (plain-append (front ++ decimal h) dash mark.ascii refl) (decimal-plain c (omega arith));
    }

-- ---- all symbols

-- P holds of each symbol
abbrev pub EachSymbol : (Symbol → Type 0) → List Symbol → Type 0
EachSymbol P [] = Unit {0}
EachSymbol P (s ∷ ss) = P s × EachSymbol P ss

pub each-append : (P : Symbol → Type 0) (xs ys : List Symbol) → EachSymbol P xs → EachSymbol P ys
    → EachSymbol P (xs ++ ys)
each-append P [] ys h g = g
each-append P (x ∷ xs) ys h g = (h.0, each-append P xs ys h.1 g)

pub each-row : (P : Symbol → Type 0) (f : ℕ → List Symbol) (a n : ℕ) → ((k : ℕ) → k < a + n → EachSymbol P (f k))
    → EachSymbol P (flat_map f (count_from a n))
each-row P f a zero each = tt
each-row P f a (suc n) each = each-append P (f a) (flat_map f (count_from (suc a) n)) (each a (omega arith))
    (each-row P f (suc a) n (λ k l. each k (omega arith)))

-- what holds of a program's symbols, by what holds of those of a stream and of a hart's own two
pub each-of : (P : Symbol → Type 0) (p : Program) → ((h c : ℕ) → h < p.cases.harts → c < length p.cases.cases
    → EachSymbol P (stream_symbols p h c))
    → ((h : ℕ) → h < p.cases.harts → EachSymbol P (hart_marks p h)) → EachSymbol P (symbols_of p)
unfolding symbols_of
each-of P p streams marks =
    each-row P (hart_symbols p) 0 p.cases.harts (λ h l.
    let own : h < p.cases.harts = omega arith in
    each-append P (streams_symbols p h) (hart_marks p h)
    (each-row P (stream_symbols p h) 0 (length p.cases.cases) (λ c m. streams h c own (omega arith))) (marks h own))

-- the symbol has a name
abbrev Named : Symbol → Type 0
Named s = IsName s.name

stream-symbols-named : (p : Program) (h c : ℕ) → h < 100 → c < 100 → EachSymbol Named (stream_symbols p h c)
stream-symbols-named p h c few_h few_c =
    let first = stream-named (codes "tm_s_") h c (lit< tt) (lit≤ tt) refl few_h few_c in
    let second = stream-named (codes "tm_e_") h c (lit< tt) (lit≤ tt) refl few_h few_c in
    (first, (second, tt))

hart-marks-named : (p : Program) (h : ℕ) → h < 100 → EachSymbol Named (hart_marks p h)
hart-marks-named p h few = (
  mark-named (codes "tm_x_") h (lit< tt) (lit≤ tt) refl few,
  (mark-named (codes "tm_halt_") h (lit< tt) (lit≤ tt) refl few, tt),
)

symbols-named : (p : Program) → p.cases.harts ≤ 100 → length p.cases.cases ≤ 100 → EachSymbol Named (symbols_of p)
symbols-named p harts cases =
    each-of Named p (λ h c l m. stream-symbols-named p h c (omega arith) (omega arith))
    (λ h l. hart-marks-named p h (omega arith))

-- ---- how many

count-each : (f : ℕ → List Symbol) (a n most : ℕ) → ((k : ℕ) → length (f k) ≤ most)
    → length (flat_map f (count_from a n)) ≤ n * most
count-each f a zero most each = omega arith
count-each f a (suc n) most each =
    let more = count-each f (suc a) n most each in
    let product : suc n * most ≡ n * most + most = omega arith in
    omega (arith, length-append (f a) (flat_map f (count_from (suc a) n)), each a, more, product)

hart-symbols-count : (p : Program) (h : ℕ) → length p.cases.cases ≤ 100 → length (hart_symbols p h) ≤ 202
hart-symbols-count p h few =
    let streams : length (streams_symbols p h) ≤ length p.cases.cases * 2 =
    count-each (stream_symbols p h) 0 (length p.cases.cases) 2 (λ c. lit≤ tt) in
    omega (arith, length-append (streams_symbols p h) (hart_marks p h), streams)

symbols-count : (p : Program) → p.cases.harts ≤ 100 → length p.cases.cases ≤ 100 → length (symbols_of p) ≤ 65535
unfolding symbols_of
symbols-count p few_harts few =
    let all : length (flat_map (hart_symbols p) (count_from 0 p.cases.harts)) ≤ p.cases.harts * 202 =
    count-each (hart_symbols p) 0 p.cases.harts 202 (λ h. hart-symbols-count p h few) in
    omega (arith, all)

-- ---- the parts of a program's file

pub writable : (p : Program) (topo template : List ℕ) (seed : ℕ) (parts : Parts) → parts ≡ parts_of p topo template seed
    → IsProgram p
    → length topo ≤ TOPOLOGY_BYTES → length template ≤ TEMPLATE_BYTES → IsWritable parts
unfolding parts_of
writable p topo template seed parts made program topo_short template_short =
    let harts : p.cases.harts ≤ 100 = omega (arith, program.cases.harts.1) in
    let cases : length p.cases.cases ≤ 100 = omega (arith, program.cases.count.1) in
    rw made (record {
      text = (omega (arith, program.text.0), program.text.1);
      tables = program.tables;
      topo = topo_short;
      template = template_short;
      symbols = symbols-count p harts cases;
      names = All-from_recursion Named (symbols_of p) (symbols-named p harts cases);
    })

parts-made : (p : Program) (topo template : List ℕ) (seed : ℕ) (first second : List ℕ) (symbols : List Symbol)
    → first ≡ topo → second ≡ template
    → symbols ≡ symbols_of p
    → record {
      text = p.text;
      tables = p.tables;
      plan = record { seed = seed; topo = first; template = second };
      symbols = symbols;
    } ≡ parts_of p topo template seed
unfolding parts_of
parts-made p topo template seed first second symbols e f g = rw (e, f, g) refl

-- so can parts that are made one by one
pub parts-writable : (p : Program) (topo template : List ℕ) (seed : ℕ) (first second : List ℕ) (symbols : List Symbol)
    → first ≡ topo → second ≡ template
    → symbols ≡ symbols_of p → IsProgram p → length topo ≤ TOPOLOGY_BYTES → length template ≤ TEMPLATE_BYTES
    → IsWritable (record {
      text = p.text;
      tables = p.tables;
      plan = record { seed = seed; topo = first; template = second };
      symbols = symbols;
    })
parts-writable p topo template seed first second symbols is_topo is_template are program topo_short template_short =
    writable p topo template seed _ (parts-made p topo template seed first second symbols is_topo is_template are)
    program topo_short template_short
