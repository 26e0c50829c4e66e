-- The first element that passes a test, as a walk finds it.
use Rattle.std.proofs.Common.{◌≡◌, ◌+◌, ◌<◌, ◌≤◌, ℕ, zero, suc, Bool, true, false, List, [], ◌∷◌, map, length, get_or}
use Rattle.std.proofs.Common.{take, Some, None, option_map, slice_get, refl, add-one, arith, inl, inr}
use Rattle.std.specs.Prelude.{find}
use Rattle.std.proofs.lemmas.Bool.{cases_Bool}
use Rattle.std.proofs.lemmas.List.{take_all}

pub found-at : {A : Type 0} (p : A → Bool) (xs : List A) (k : ℕ) (d : A) → k < length xs → find p (take k xs) ≡ None
    → p (get_or xs k d) ≡ true → find p xs ≡ Some (get_or xs k d)
found-at p [] k d within none passes = absurd (omega arith)
found-at p (x ∷ xs) zero d within none passes = rw passes refl
found-at p (x ∷ xs) (suc k) d within none passes =
    elim (cases_Bool (p x)) [
      | inl here ↦ let bad : Some x ≡ None = rw here at none in cc
      | inr other ↦ let later : find p (take k xs) ≡ None = rw other at none in
          rw other (found-at p xs k d (omega arith) later passes)
    ]

none-suc : {A : Type 0} (p : A → Bool) (xs : List A) (k : ℕ) (d : A) → k < length xs → find p (take k xs) ≡ None
    → p (get_or xs k d) ≡ false → find p (take (suc k) xs) ≡ None
none-suc p [] k d within none fails = absurd (omega arith)
none-suc p (x ∷ xs) zero d within none fails = rw fails refl
none-suc p (x ∷ xs) (suc k) d within none fails =
    elim (cases_Bool (p x)) [
      | inl here ↦ let bad : Some x ≡ None = rw here at none in cc
      | inr other ↦ let later : find p (take k xs) ≡ None = rw other at none in
          rw other (none-suc p xs k d (omega arith) later fails)
    ]

pub none-more : {A : Type 0} (p : A → Bool) (xs : List A) (k : ℕ) (d : A) → k < length xs → find p (take k xs) ≡ None
    → p (get_or xs k d) ≡ false → find p (take (k + 1) xs) ≡ None
none-more p xs k d within none fails = rw add-one (none-suc p xs k d within none fails)

pub none-all : {A : Type 0} (p : A → Bool) (xs : List A) (k : ℕ) → length xs ≤ k → find p (take k xs) ≡ None
    → find p xs ≡ None
none-all p xs k over none = rw (take_all k xs over) at none

-- the first of images
pub find-map : {A B : Type 0} (p : B → Bool) (f : A → B) (xs : List A)
    → find p (map f xs) ≡ option_map f (find (λ x. p (f x)) xs)
find-map p f [] = refl
find-map p f (x ∷ xs) = elim (cases_Bool (p (f x))) [ inl here ↦ rw here refl | inr other ↦ rw other (find-map p f xs) ]

pub found-in : {A : Type 0} (p : A → Bool) (xs : List A) (x : A) → find p xs ≡ Some x → (p x ≡ true)
    × ((k : ℕ) × (slice_get xs k ≡ Some x))
found-in p [] x found = cc
found-in p (y ∷ xs) x found =
    elim (cases_Bool (p y)) [
      | inl here ↦ let same : y ≡ x = (let e : Some y ≡ Some x = rw here at found in cc) in
          (rw same at here, (0, rw same refl))
      | inr other ↦ let later = found-in p xs x (rw other at found) in (later.0, (suc later.1.0, later.1.1))
    ]
