-- Where lists differ.
use Rattle.std.proofs.Common.{◌≡◌, ◌≢◌, ℕ, ◌+◌, ◌<◌, ◌≤◌, ◌==◌, true, false, cond, Option, Some, None, List, [], ◌∷◌}
use Rattle.std.proofs.Common.{length, get_or, drop, refl, arith, ⊎_elim}
use Rattle.std.proofs.lemmas.List.{drop_more, drop_all}
use Rattle.std.proofs.lemmas.Bool.{cases_eq}
use Rattle.std.proofs.lemmas.Bool.Decides.{nat_tests}
use Rattle.tm_elf_head.specs.Differences.{difference_from}

pub ends_here : (i : ℕ) (a b : List ℕ) (r : Option ℕ) → i < length a → length b ≤ i
    → difference_from i (drop i a) (drop i b) ≡ r → Some i ≡ r
unfolding difference_from
ends_here i a b r more less same = rw (drop_more a i 0 more, drop_all i b less) at same

pub left_ends : (i : ℕ) (a b : List ℕ) (r : Option ℕ) → length a ≤ i → i < length b
    → difference_from i (drop i a) (drop i b) ≡ r → Some i ≡ r
unfolding difference_from
left_ends i a b r less more same = rw (drop_all i a less, drop_more b i 0 more) at same

other : (x y : ℕ) → x ≢ y → (x == y) ≡ false
other x y ne = grind (arith, nat_tests)

pub differs_here : (i : ℕ) (a b : List ℕ) (r : Option ℕ) → i < length a → i < length b → get_or a i 0 ≢ get_or b i 0
    → difference_from i (drop i a) (drop i b) ≡ r → Some i ≡ r
unfolding difference_from
differs_here i a b r left right ne same = rw (
  drop_more a i 0 left,
  drop_more b i 0 right,
  other (get_or a i 0) (get_or b i 0) ne,
) at same

same_number : (x : ℕ) → (x == x) ≡ true
same_number x = grind (arith, nat_tests)

pub no_difference : (at : ℕ) (xs : List ℕ) → difference_from at xs xs ≡ None
unfolding difference_from
no_difference at [] = refl
no_difference at (x ∷ xs) = rw (same_number x) (no_difference (at + 1) xs)

equal_heads : (x y at : ℕ) (r : Option ℕ) → cond (x == y) r (Some at) ≡ None → (x ≡ y) × (r ≡ None)
equal_heads x y at r h = ⊎_elim (λ (e : x ≡ y). let t : (x == y) ≡ true = grind (arith, nat_tests) in
    (e, rw t at h)) (λ (ne : x ≢ y). let none : Some at ≡ None = rw (other x y ne) at h in cc) (cases_eq x y)

pub same_lists : (at : ℕ) (xs ys : List ℕ) → difference_from at xs ys ≡ None → xs ≡ ys
unfolding difference_from
same_lists at [] [] h = refl
same_lists at [] (y ∷ ys) h = cc
same_lists at (x ∷ xs) [] h = cc
same_lists at (x ∷ xs) (y ∷ ys) h =
    let e = equal_heads x y at (difference_from (at + 1) xs ys) h in
    let heads : x ≡ y = e.0 in
    let tails : xs ≡ ys = same_lists (at + 1) xs ys e.1 in
    cc
