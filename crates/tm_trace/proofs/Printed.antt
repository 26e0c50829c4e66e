-- What is printed is read back, field by field.
use Rattle.std.proofs.Common.{◌≡◌, ◌≢◌, ◌∙◌, ◌≤◌, ◌<◌, ◌+◌, ◌-◌, ◌*◌, ◌/◌, ◌%◌, ◌^◌, ◌==◌, ◌&&◌, not, ℕ, zero, suc}
use Rattle.std.proofs.Common.{Bool, true}
use Rattle.std.proofs.Common.{false, refl, sym, ap, subst, arith, List, [], ◌∷◌, ◌++◌, length, take, drop, Some}
use Rattle.std.proofs.Common.{inl, inr, ◌⊎◌}
use Rattle.std.proofs.Common.{append_assoc, length-append, true≢false, nat_lt, nat_le}
use Rattle.std.specs.Fmt.{decimal}
use Rattle.std.specs.Char.{digit_char, digit_value}
use Rattle.std.specs.List.{list_all, prefix_len}
use Rattle.std.proofs.lemmas.Bool.Decides.{nat_tests}
use Rattle.std.proofs.Math.Nat.{pow-suc, pow-zero, one-le-pow, mul-le-mul_left, div-add-mod, mod-lt, mod-eq_of_lt}
use Rattle.std.proofs.lemmas.Nat.{mod-mul-add}
use Rattle.tm_base.specs.Numbers.{hex_text}
use Rattle.tm_base.proofs.PrintLemmas.{rest_digits, rest_digits-start, rest_digits-more, rest_digits-last}
use Rattle.tm_base.proofs.PrintLemmas.{digit_less, decimal_reads_back}
use Rattle.tm_trace.specs.declared.fields.TheConstants.{DECIMAL_END}
use Rattle.tm_trace.specs.Fields.{is_decimal, are_plain, decimal_field, is_hex, hex_from, hex_field}
use Rattle.std.proofs.lemmas.Bool.{and_parts}
use Rattle.std.proofs.Math.Seq.{take-append_seam, drop-append_seam}

-- ---- lists

all_both : (p : ℕ → Bool) (xs ys : List ℕ) → list_all p xs ≡ true → list_all p ys ≡ true → list_all p (xs ++ ys) ≡ true
all_both p [] ys a b = b
all_both p (x ∷ xs) ys a b =
    let parts = and_parts (p x) (list_all p xs) a in
    ap (λ t. t && list_all p (xs ++ ys)) parts.0 ∙ all_both p xs ys parts.1 b

all_prefix : (p : ℕ → Bool) (xs : List ℕ) (c : ℕ) (ys : List ℕ) → list_all p xs ≡ true → p c ≡ false
    → prefix_len p (xs ++ c ∷ ys) ≡ length xs
all_prefix p [] c ys a stop = rw stop refl
all_prefix p (x ∷ xs) c ys a stop =
    let parts = and_parts (p x) (list_all p xs) a in
    let rest = all_prefix p xs c ys parts.1 stop in
    rw parts.0 (omega (arith, rest))

-- ---- decimal numbers

-- the first digit isn't 0
abbrev leads : List ℕ → Bool
leads [] = false
leads (d ∷ ds) = not (d == 48)

leads_on : (xs ys : List ℕ) → leads xs ≡ true → leads (xs ++ ys) ≡ true
leads_on [] ys e = absurd (true≢false (sym e))
leads_on (x ∷ xs) ys e = e

leads_plain : (ds : List ℕ) → leads ds ≡ true → are_plain ds ≡ true
leads_plain [] e = absurd (true≢false (sym e))
leads_plain (d ∷ []) e = refl
leads_plain (d ∷ e ∷ ds) lead = lead

-- the digits of a number: no zero before others
record Printed (n : ℕ) (ds : List ℕ) : Type 0 where
  pub all : list_all is_decimal ds ≡ true
  pub plain : are_plain ds ≡ true
  pub lead : n ≢ 0 → leads ds ≡ true

glyph_decimal : (d : ℕ) → d < 10 → is_decimal (48 + d) ≡ true
glyph_decimal d low = grind (arith, nat_tests)

glyph_leads : (d : ℕ) → d ≢ 0 → not (48 + d == 48) ≡ true
glyph_leads d some = grind (arith, nat_tests)

printed_last : (n : ℕ) → n / 10 ≡ 0 → Printed n ((48 + n % 10) ∷ [])
printed_last n none =
    let low : n % 10 < 10 = omega arith in record {
      all = rw (glyph_decimal (n % 10) low) refl;
      plain = refl;
      lead = λ some. glyph_leads (n % 10) (λ e. some (omega (arith, e, none)));
    }

printed_more : (n : ℕ) (ds : List ℕ) → n / 10 ≢ 0 → Printed (n / 10) ds → Printed n (ds ++ (48 + n % 10) ∷ [])
printed_more n ds more p =
    let low : n % 10 < 10 = omega arith in
    let lead = leads_on ds ((48 + n % 10) ∷ []) (p.lead more) in record {
      all = all_both is_decimal ds ((48 + n % 10) ∷ []) p.all (rw (glyph_decimal (n % 10) low) refl);
      plain = leads_plain (ds ++ (48 + n % 10) ∷ []) lead;
      lead = λ some. lead;
    }

zero_or_more : (n : ℕ) → (n ≡ 0) ⊎ (n ≢ 0)
zero_or_more zero = inl refl
zero_or_more (suc n) = inr (λ e. omega arith)

rest_printed : (k n : ℕ) (acc : List ℕ) → 1 ≤ k → n < 10 ^ k
    → (ds : List ℕ) × Printed n ds × (rest_digits k n acc ≡ ds ++ acc)
rest_printed zero n acc some low = absurd (omega arith)
rest_printed (suc k) n acc some low = elim (zero_or_more (n / 10)) [
  | inl none ↦ ((48 + n % 10) ∷ [], printed_last n none, rest_digits-last k n acc none)
  | inr more ↦
      let one : suc k - 1 ≡ k = omega arith in
      let less : n / 10 < 10 ^ k =
      subst (λ (m : ℕ). n / 10 < 10 ^ m) one (digit_less n (suc k) (omega arith) low) in
      let next : 1 ≤ k = some_left k (n / 10) more less in
      let p = rest_printed k (n / 10) ((48 + n % 10) ∷ acc) next less in (
        p.0 ++ (48 + n % 10) ∷ [],
        printed_more n p.0 more p.1,
        rest_digits-more k n acc more ∙ (p.2 ∙ sym (append_assoc p.0 ((48 + n % 10) ∷ []) acc)),
      )
]
  where
    some_left : (k m : ℕ) → m ≢ 0 → m < 10 ^ k → 1 ≤ k
    some_left zero m more less = absurd (omega (arith, more, less, pow-zero 10))
    some_left (suc k) m more less = omega arith

decimal_printed : (n : ℕ) → n < 10 ^ 64 → Printed n (decimal n)
decimal_printed n low =
    let p = rest_printed 64 n [] (omega arith) low in
    let same : decimal n ≡ p.0 = sym (rest_digits-start n) ∙ (p.2 ∙ append_nil p.0) in
    rw same p.1
  where
    append_nil : (xs : List ℕ) → xs ++ [] ≡ xs
    append_nil [] = refl
    append_nil (x ∷ xs) = ap (λ t. x ∷ t) (append_nil xs)

-- a decimal number before a byte that is no digit
pub decimal_back : (n c : ℕ) (rest : List ℕ) → n < DECIMAL_END → is_decimal c ≡ false
    → decimal_field (decimal n ++ c ∷ rest) ≡ Some (n, c ∷ rest)
unfolding decimal_field
decimal_back n c rest low stop =
    let p = decimal_printed n (omega (arith, low)) in
    let len = all_prefix is_decimal (decimal n) c rest p.all stop in
    let test : nat_lt n DECIMAL_END ≡ true = grind (arith, nat_tests, low) in
    rw (
      len,
      take-append_seam (decimal n) (c ∷ rest),
      drop-append_seam (decimal n) (c ∷ rest),
      p.plain,
      decimal_reads_back n (omega (arith, low)),
      test,
    ) refl

-- ---- hexadecimal numbers

hex_long : (k v : ℕ) → length (hex_text k v) ≡ k
unfolding hex_text
hex_long zero v = refl
hex_long (suc k) v = let rest = hex_long k v in omega (arith, rest)

digit_hex : (d : ℕ) → d < 16 → is_hex (digit_char d) ≡ true
digit_hex d low = grind (arith, nat_tests)

digit_back : (d : ℕ) → d < 16 → digit_value (digit_char d) ≡ d
digit_back d low = grind (arith, nat_tests)

hex_all : (k v : ℕ) → list_all is_hex (hex_text k v) ≡ true
unfolding hex_text
hex_all zero v = refl
hex_all (suc k) v =
    let low : v / 16 ^ k % 16 < 16 = omega arith in
    rw (digit_hex (v / 16 ^ k % 16) low) (hex_all k v)

cut : (p a d r : ℕ) → p * (16 * a + d) + r ≡ a * (p * 16) + (p * d + r)
cut p a d r = omega arith

below_cut : (p d r : ℕ) → d < 16 → r < p → p * d + r < p * 16
below_cut p d r low less =
    let step : p * suc d ≤ p * 16 = mul-le-mul_left p (omega (arith, low)) in
    let one : p * suc d ≡ p * d + p = omega arith in
    omega (arith, step, one, less)

-- the digits of a number up to one more
mod_more : (v p : ℕ) → 0 < p → v % (p * 16) ≡ v / p % 16 * p + v % p
mod_more v p some =
    let whole : v ≡ p * (v / p) + v % p = sym (div-add-mod v p) in
    let high : v / p ≡ 16 * (v / p / 16) + v / p % 16 = sym (div-add-mod (v / p) 16) in
    let less : v % p < p = mod-lt v some in
    let low : v / p % 16 < 16 = omega arith in
    let b = below_cut p (v / p % 16) (v % p) low less in
    let same : v ≡ v / p / 16 * (p * 16) + (p * (v / p % 16) + v % p) =
    whole ∙ (ap (λ (q : ℕ). p * q + v % p) high ∙ cut p (v / p / 16) (v / p % 16) (v % p)) in
    ap (λ (n : ℕ). n % (p * 16)) same
    ∙ (mod-mul-add (v / p / 16) (p * 16) (p * (v / p % 16) + v % p) b ∙ turn p (v / p % 16) (v % p))
  where
    turn : (p d r : ℕ) → p * d + r ≡ d * p + r
    turn p d r = omega arith

hex_step : (acc d p r : ℕ) → (acc * 16 + d) * p + r ≡ acc * (p * 16) + (d * p + r)
hex_step acc d p r = omega arith

hex_from-text : (k acc v : ℕ) → hex_from acc (hex_text k v) ≡ acc * 16 ^ k + v % 16 ^ k
unfolding hex_text
hex_from-text zero acc v = let one = pow-zero 16 in omega (arith, one)
hex_from-text (suc k) acc v =
    let low : v / 16 ^ k % 16 < 16 = omega arith in
    let some : 0 < 16 ^ k = one-le-pow k 16 (omega arith) in
    ap (λ (d : ℕ). hex_from (acc * 16 + d) (hex_text k v)) (digit_back (v / 16 ^ k % 16) low)
    ∙ (hex_from-text k (acc * 16 + v / 16 ^ k % 16) v
    ∙ (hex_step acc (v / 16 ^ k % 16) (16 ^ k) (v % 16 ^ k)
    ∙ rw (pow-suc 16 k) (ap (λ (m : ℕ). acc * (16 ^ k * 16) + m) (sym (mod_more v (16 ^ k) some)))))

none_before : (p r : ℕ) → 0 * p + r ≡ r
none_before p r = omega arith

-- a hexadecimal number of so many digits
pub hex_back : (k v : ℕ) (rest : List ℕ) → v < 16 ^ k → hex_field k (hex_text k v ++ rest) ≡ Some (v, rest)
unfolding hex_field
hex_back k v rest low =
    let long = hex_long k v in
    let front : take k (hex_text k v ++ rest) ≡ hex_text k v =
    ap (λ (n : ℕ). take n (hex_text k v ++ rest)) (sym long) ∙ take-append_seam (hex_text k v) rest in
    let behind : drop k (hex_text k v ++ rest) ≡ rest =
    ap (λ (n : ℕ). drop n (hex_text k v ++ rest)) (sym long) ∙ drop-append_seam (hex_text k v) rest in
    let sum = length-append (hex_text k v) rest in
    let room : nat_le k (length (hex_text k v ++ rest)) ≡ true = grind (arith, nat_tests, sum, long) in
    let value : hex_from 0 (hex_text k v) ≡ v =
    hex_from-text k 0 v ∙ (none_before (16 ^ k) (v % 16 ^ k) ∙ mod-eq_of_lt low) in
    rw (room, front, behind, hex_all k v, value) refl
