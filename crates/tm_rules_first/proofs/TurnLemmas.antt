-- Checks in turn, as a walk over the statements meets them.
use Rattle.std.proofs.Common.{◌≡◌, ◌+◌, ◌<◌, ◌≤◌, ℕ, zero, suc, List, [], ◌∷◌, ◌++◌, Option, Some, None, length}
use Rattle.std.proofs.Common.{get_or, take, drop, slice_get, refl, sym, ap, ◌∙◌, add-one, append-nil, append_assoc}
use Rattle.std.proofs.Math.Seq.{drop-cons}
use Rattle.std.proofs.Math.ListN.{drop_of_length-le}
use Rattle.std.proofs.lemmas.List.{take_more}
use Rattle.tm_refusals.specs.declared.rule.RuleAt.{RuleAt}
use Rattle.tm_rules_first.specs.Rules.{Check, first_of, in_turn}
use Rattle.tm_rules_first.proofs.FirstLemmas.{first-passes, first-stops, first-both}

-- the first broken check from the k-th statement on
unfoldable pub rest_of : {A : Type 0} → (List A → A → List Check) → List A → ℕ → Option RuleAt
rest_of checks xs k = first_of (in_turn checks (take k xs) (drop k xs))

pub rest-none : {A : Type 0} (checks : List A → A → List Check) (xs : List A) → first_of (in_turn checks [] xs)
    ≡ rest_of checks xs 0
unfolding rest_of
rest-none checks xs = refl

-- what stands behind a statement
turn-at : {A : Type 0} (checks : List A → A → List Check) (xs : List A) (k : ℕ) (d x : A) → k < length xs
    → x ≡ get_or xs k d
    → in_turn checks (take k xs) (drop k xs) ≡ checks (take k xs) x
    ++ in_turn checks (take (k + 1) xs) (drop (k + 1) xs)
unfolding in_turn
turn-at checks xs k d x within is =
    let cut : drop k xs ≡ x ∷ drop (k + 1) xs = rw (drop-cons xs k d, ← is, add-one) refl in
    let more : take (k + 1) xs ≡ take k xs ++ x ∷ [] =
    take_more xs k d within ∙ ap (λ y. take k xs ++ y ∷ []) (sym is) in
    rw (cut, more) refl

pub rest-more : {A : Type 0} (checks : List A → A → List Check) (xs : List A) (k : ℕ) (d x : A) → k < length xs
    → x ≡ get_or xs k d
    → first_of (checks (take k xs) x) ≡ None → rest_of checks xs k ≡ rest_of checks xs (k + 1)
unfolding rest_of
rest-more checks xs k d x within is none = rw (turn-at checks xs k d x within is) (first-passes _ _ none)

pub rest-broken : {A : Type 0} (checks : List A → A → List Check) (xs : List A) (k : ℕ) (d x : A) → k < length xs
    → x ≡ get_or xs k d
    → (r : RuleAt) → first_of (checks (take k xs) x) ≡ Some r → rest_of checks xs k ≡ Some r
unfolding rest_of
rest-broken checks xs k d x within is r some = rw (turn-at checks xs k d x within is) (first-stops _ _ r some)

pub rest-all : {A : Type 0} (checks : List A → A → List Check) (xs : List A) (k : ℕ) → length xs ≤ k
    → rest_of checks xs k ≡ None
unfolding rest_of in_turn first_of
rest-all checks xs k over = rw (drop_of_length-le xs over) refl

-- where no statement breaks a rule, each one alone breaks none
pub turn-each : {A : Type 0} (checks : List A → A → List Check) (before xs : List A)
    → first_of (in_turn checks before xs) ≡ None
    → (k : ℕ) (x : A) → slice_get xs k ≡ Some x → first_of (checks (before ++ take k xs) x) ≡ None
unfolding in_turn
turn-each checks before [] none k x at = cc
turn-each checks before (y ∷ xs) none zero x at =
    let here : first_of (checks before y) ≡ None = (first-both _ _ none).0 in
    let same : y ≡ x = cc in
    rw (append-nil, ← same) here
turn-each checks before (y ∷ xs) none (suc k) x at =
    let later = turn-each checks (before ++ y ∷ []) xs (first-both _ _ none).1 k x at in
    rw append_assoc at later
