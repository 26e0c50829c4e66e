-- Of texts, of truth values and of lists of kinds of errors.
use Rattle.std.proofs.Common.{◌≡◌, ◌≢◌, ◌∙◌, ◌==◌, ◌&&◌, ◌||◌, not, ℕ, Bool, true, false, zero, suc}
use Rattle.std.proofs.Common.{refl, sym, ap, arith, List, [], ◌∷◌, true≢false, inl}
use Rattle.std.proofs.Common.{inr, ◌⊎◌}
use Rattle.std.specs.Str.{bytes_eq}
use Rattle.std.specs.List.{list_any}
use Rattle.std.proofs.lemmas.Slice.Eq.{bytes_eq-Decides}
use Rattle.std.proofs.lemmas.Bool.Decides.{nat_tests}
use Rattle.clap.specs.Kinds.{Kinds, or_else}
use Rattle.clap.proofs.CutLemmas.{Lacks}
use Rattle.std.proofs.lemmas.Bool.{and_parts}

-- ---- truth values

pub and-false : (b : Bool) → (b && false) ≡ false
and-false true = refl
and-false false = refl

pub or-false : (b : Bool) → (b || false) ≡ b
or-false true = refl
or-false false = refl

pub not_false : (b : Bool) → not b ≡ true → b ≡ false
not_false true e = absurd (true≢false (sym e))
not_false false e = refl

pub false_or_true : (b : Bool) → (b ≡ true) ⊎ (b ≡ false)
false_or_true true = inl refl
false_or_true false = inr refl

-- ---- texts

pub same_text : (a b : List ℕ) → bytes_eq a b ≡ true → a ≡ b
same_text a b e = (bytes_eq-Decides a b).0 e

pub text_is : (a : List ℕ) → bytes_eq a a ≡ true
text_is a = (bytes_eq-Decides a a).1 refl

pub differ : (a b c : List ℕ) → bytes_eq a b ≡ true → bytes_eq a c ≡ false → bytes_eq b c ≡ false
differ a b c same other = ap (λ t. bytes_eq t c) (sym (same_text a b same)) ∙ other

pub swapped : (a b : List ℕ) → bytes_eq a b ≡ false → bytes_eq b a ≡ false
swapped a b e = go (bytes_eq b a) refl
  where
    go : (t : Bool) → bytes_eq b a ≡ t → t ≡ false
    go true is = absurd (true≢false (sym (ap (bytes_eq a) (same_text b a is) ∙ text_is a) ∙ e))
    go false is = refl

-- a text without a byte
pub lacks : (c : ℕ) (xs : List ℕ) → list_any (λ x. x == c) xs ≡ false → Lacks c xs
lacks c [] e i lt = absurd (omega arith)
lacks c (x ∷ xs) e zero lt = first (x == c) refl e
  where
    first : (t : Bool) → (x == c) ≡ t → (t || list_any (λ y. y == c) xs) ≡ false → x ≢ c
    first true is none = absurd (true≢false none)
    first false is none = λ same. let hit : (x == c) ≡ true = grind (arith, nat_tests) in true≢false (sym hit ∙ is)
lacks c (x ∷ xs) e (suc i) lt = lacks c xs (rest (x == c) e) i (omega arith)
  where
    rest : (t : Bool) → (t || list_any (λ y. y == c) xs) ≡ false → list_any (λ y. y == c) xs ≡ false
    rest true none = absurd (true≢false none)
    rest false none = none

-- ---- kinds

abbrev pub is_nil : Kinds → Bool
is_nil [] = true
is_nil (k ∷ ks) = false

pub nil_is : (ks : Kinds) → is_nil ks ≡ true → ks ≡ []
nil_is [] e = refl
nil_is (k ∷ ks) e = absurd (true≢false (sym e))

pub or_else-nil : (a : Kinds) → or_else a [] ≡ a
or_else-nil [] = refl
or_else-nil (k ∷ ks) = refl

pub or_else-assoc : (a b c : Kinds) → or_else (or_else a b) c ≡ or_else a (or_else b c)
or_else-assoc [] b c = refl
or_else-assoc (k ∷ ks) b c = refl

pub nil-or_else : (a b : Kinds) → is_nil (or_else a b) ≡ (is_nil a && is_nil b)
nil-or_else [] b = refl
nil-or_else (k ∷ ks) b = refl

pub both_nil : (a b : Kinds) → is_nil (or_else a b) ≡ true → (is_nil a ≡ true) × (is_nil b ≡ true)
both_nil a b e = and_parts (is_nil a) (is_nil b) (sym (nil-or_else a b) ∙ e)
