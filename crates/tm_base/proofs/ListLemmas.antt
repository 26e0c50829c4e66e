-- Lists, tests of them, and numbers that are counted up.
use Rattle.std.proofs.Common.{◌≡◌, ◌⊎◌, inl, inr, ℕ, zero, suc, ◌+◌, ◌<◌, ◌≤◌, Bool, true, false, true≢false, ◌||◌}
use Rattle.std.proofs.Common.{List, [], ◌∷◌, ◌++◌, length, map, get_or, None, Some, refl, sym, ap, ap₂, ◌∙◌, subst}
use Rattle.std.proofs.Common.{arith}
use Rattle.std.specs.Prelude.{slice_get, slice_index, filter, All, if◌then◌else◌}
use Rattle.std.proofs.lemmas.Bool.{cases_lt, or_left, or_right}
use Rattle.std.proofs.Common.{Option, Result, Ok, Err}
use Rattle.std.specs.Result.{is_err, OnOk}
use Rattle.std.proofs.lemmas.Option.{slice_get_within, slice_get_cases, get_or_from_slice_get, same_Some, none-some}
use Rattle.tm_base.specs.Lists.{any, count_from}

-- a test gives one answer
pub no : {A : Type 0} {b : Bool} → b ≡ false → b ≡ true → A
no e f = absurd (true≢false (sym f ∙ e))

-- an option has one value
pub same-value : {A : Type 0} (o : Option A) (x y : A) → o ≡ Some x → o ≡ Some y → x ≡ y
same-value o x y p q = same_Some x y (sym p ∙ q)

pub no-value : {A : Type 0} (o : Option A) (x : A) → o ≡ None → o ≡ Some x → ⊥
no-value o x p q = none-some x (sym p ∙ q)

-- a call that didn't fail
pub was-ok : {T E : Type 0} (r : Result T E) (P : Type 0) → is_err r ≡ false → OnOk r P → P
was-ok (Ok x) P fine h = h
was-ok (Err e) P fine h = absurd (true≢false fine)

-- ---- elements

-- there is an element at each index
pub get-some : {A : Type 0} (xs : List A) (k : ℕ) → k < length xs → (x : A) × (slice_get xs k ≡ Some x)
get-some [] k l = absurd (omega arith)
get-some (x ∷ xs) zero l = (x, refl)
get-some (x ∷ xs) (suc k) l = get-some xs k (omega arith)

pub none-past : {A : Type 0} (xs : List A) (k : ℕ) → k < length xs → slice_get xs k ≡ None → ⊥
none-past {A = A} xs k l e = by (slice_get_cases xs k)
  where
    by : (slice_get xs k ≡ slice_get xs k)
        × (((x : A) × (k < length xs) × (slice_get xs k ≡ Some x) × (get_or xs k x ≡ x))
        ⊎ ((length xs ≤ k) × (slice_get xs k ≡ None))) → ⊥
    by (q, inl r) = let f = r.2 in cc
    by (q, inr r) = omega (arith, r.0)

-- what all elements have, one has
pub all-at : {A : Type 0} (P : A → Type 0) (xs : List A) (k : ℕ) (x : A) → All P xs → slice_get xs k ≡ Some x → P x
all-at P xs k x a e = subst P (get_or_from_slice_get xs k x x e) (a k x (slice_get_within xs k x e))

-- a filter leaves no more than there are
pub length-filter-le : (test : ℕ → Bool) (xs : List ℕ) → length (filter test xs) ≤ length xs
length-filter-le test [] = omega arith
length-filter-le test (x ∷ xs) = by (test x) (length-filter-le test xs)
  where
    by : (b : Bool) → length (filter test xs) ≤ length xs → length (if b then x ∷ filter test xs else filter test xs)
        ≤ suc (length xs)
    by true l = omega arith
    by false l = omega arith

-- ---- numbers that are counted up

pub count_from-suc : (a n : ℕ) → count_from a (suc n) ≡ count_from a n ++ (a + n) ∷ []
count_from-suc a zero = ap (λ (k : ℕ). k ∷ []) (omega arith)
count_from-suc a (suc n) =
    let e : suc a + n ≡ a + suc n = omega arith in
    ap (λ (l : List ℕ). a ∷ l) (count_from-suc (suc a) n ∙ ap (λ (k : ℕ). count_from (suc a) n ++ k ∷ []) e)

pub length-count_from : (a n : ℕ) → length (count_from a n) ≡ n
length-count_from a zero = refl
length-count_from a (suc n) = ap suc (length-count_from (suc a) n)

pub length-counted : (f : ℕ → ℕ) (n a : ℕ) → length (map f (count_from a n)) ≡ n
length-counted f zero a = refl
length-counted f (suc n) a = ap suc (length-counted f n (suc a))

-- the image of one of them
pub index-counted : (g : ℕ → ℕ) (n j i : ℕ) → i < n → slice_index (map g (count_from j n)) i ≡ g (j + i)
index-counted g zero j i l = absurd (omega arith)
index-counted g (suc n) j zero l = let e : j ≡ j + 0 = omega arith in ap g e
index-counted g (suc n) j (suc i) l = let e : suc j + i ≡ j + suc i = omega arith in
    index-counted g n (suc j) i (omega arith) ∙ ap g e

-- one of them passes a test
pub any-number : (test : ℕ → Bool) (n a g : ℕ) → a ≤ g → g < a + n → test g ≡ true → any test (count_from a n) ≡ true
any-number test zero a g x y e = absurd (omega arith)
any-number test (suc n) a g x y e = by (cases_lt a g) (λ l. any-number test n (suc a) g l (omega arith) e)
  where
    by : (a < g) ⊎ (g ≤ a) → (suc a ≤ g → any test (count_from (suc a) n) ≡ true) → any test (count_from a (suc n))
        ≡ true
    by (inl l) f = or_right (test a) (any test (count_from (suc a) n)) (f (omega arith))
    by (inr l) f = let same : g ≡ a = omega arith in
        or_left (test a) (any test (count_from (suc a) n)) (subst (λ (x : ℕ). test x ≡ true) same e)

-- none of them does
pub any-no-number : (test : ℕ → Bool) (n a : ℕ) → ((g : ℕ) → a ≤ g → g < a + n → test g ≡ false)
    → any test (count_from a n) ≡ false
any-no-number test zero a h = refl
any-no-number test (suc n) a h = ap₂ (λ (b c : Bool). b || c) (h a (omega arith) (omega arith))
    (any-no-number test n (suc a) (λ g x y. h g (omega arith) (omega arith)))
