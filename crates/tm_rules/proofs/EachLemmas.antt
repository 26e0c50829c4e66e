-- What holds of each image of a list's elements, and of each two.
use Rattle.std.proofs.Common.{◌≡◌, ◌+◌, ◌<◌, ◌⊎◌, ℕ, zero, suc, Bool, true, false, List, [], ◌∷◌, ◌++◌, map}
use Rattle.std.proofs.Common.{replicate, length, get_or, take, Some, slice_get, subst, arith, inl, inr}
use Rattle.std.specs.Prelude.{All, AllPairs}
use Rattle.std.specs.List.{list_any}
use Rattle.std.proofs.lemmas.Bool.{cases_Bool}
use Rattle.std.proofs.lemmas.Option.{slice_get-get_or}
use Rattle.tm_base.specs.Lists.{count_from}
use Rattle.tm_rules_first.proofs.SoundLemmas.{mapped-at}

pub all-images : {A B : Type 0} (f : A → B) (P : B → Type 0) (xs : List A)
    → ((k : ℕ) (x : A) → slice_get xs k ≡ Some x → P (f x)) → All P (map f xs)
all-images f P xs each k d within =
    let found = mapped-at f xs k (get_or (map f xs) k d) (slice_get-get_or (map f xs) k d within) in
    subst P found.2 (each k found.0 found.1)

pub pair-images : {A B : Type 0} (f : A → B) (R : B → B → Type 0) (xs : List A)
    → ((j : ℕ) (y : A) → slice_get xs j ≡ Some y → (i : ℕ) (x : A) → i < j → slice_get xs i ≡ Some x → R (f x) (f y))
    → AllPairs R (map f xs)
pair-images f R xs each i j d before within =
    let here = mapped-at f xs i (get_or (map f xs) i d) (slice_get-get_or (map f xs) i d (omega arith)) in
    let there = mapped-at f xs j (get_or (map f xs) j d) (slice_get-get_or (map f xs) j d within) in
    subst (λ y. R (get_or (map f xs) i d) y) there.2
    (subst (λ x. R x (f there.0)) here.2 (each j there.0 there.1 i here.0 before here.1))

-- where none of the elements before a place passes, each of them fails
pub any-fails : {A : Type 0} (p : A → Bool) (xs : List A) (j : ℕ) → list_any p (take j xs) ≡ false → (i : ℕ) (x : A)
    → i < j → slice_get xs i ≡ Some x → p x ≡ false
any-fails p [] j none i x before at = cc
any-fails p (y ∷ xs) zero none i x before at = absurd (omega arith)
any-fails p (y ∷ xs) (suc j) none zero x before at =
    elim (cases_Bool (p y)) [
      | inl passes ↦ let bad : true ≡ false = rw passes at none in cc
      | inr fails ↦ let same : y ≡ x = cc in rw same at fails
    ]
any-fails p (y ∷ xs) (suc j) none (suc i) x before at =
    elim (cases_Bool (p y)) [
      | inl passes ↦ let bad : true ≡ false = rw passes at none in cc
      | inr fails ↦ let later : list_any p (take j xs) ≡ false = rw fails at none in
          any-fails p xs j later i x (omega arith) at
    ]

-- an element of two lists joined is one of the first, or one of the second
pub joined-at : {A : Type 0} (xs ys : List A) (n : ℕ) (x : A) → slice_get (xs ++ ys) n ≡ Some x
    → (slice_get xs n ≡ Some x) ⊎ ((m : ℕ) × (n ≡ length xs + m) × (slice_get ys m ≡ Some x))
joined-at [] ys n x at = inr (n, omega arith, at)
joined-at (y ∷ xs) ys zero x at = inl at
joined-at (y ∷ xs) ys (suc n) x at =
    elim (joined-at xs ys n x at) [ inl here ↦ inl here | inr later ↦ inr (later.0, omega (arith, later.1), later.2) ]

pub replicated-at : {A : Type 0} (count n : ℕ) (y x : A) → slice_get (replicate count y) n ≡ Some x → y ≡ x
replicated-at zero n y x at = cc
replicated-at (suc count) zero y x at = cc
replicated-at (suc count) (suc n) y x at = replicated-at count n y x at

-- ---- numbers that count up

pub counted-at : (a n k x : ℕ) → slice_get (count_from a n) k ≡ Some x → (x ≡ a + k) × (k < n)
counted-at a zero k x at = cc
counted-at a (suc n) zero x at = let same : a ≡ x = cc in (omega arith, omega arith)
counted-at a (suc n) (suc k) x at = let later = counted-at (suc a) n k x at in
    (omega (arith, later.0), omega (arith, later.1))
