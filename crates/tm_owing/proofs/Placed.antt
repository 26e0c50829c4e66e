-- The last write of a byte, by its place in an area or in a map.
use Rattle.std.proofs.Common.{◌≡◌, ◌≢◌, ℕ, ◌-◌, ◌<◌, ◌≤◌, List, Bool, true, false, ◌&&◌, ◌==◌, nat_le, nat_lt}
use Rattle.std.proofs.Common.{Option, None}
use Rattle.std.proofs.Common.{Some, ◌⊎◌, inl, inr, refl, sym, ap, ap₂, ◌∙◌, subst, length, get_or, set, arith}
use Rattle.std.proofs.Common.{get_or-set_same}
use Rattle.std.proofs.Common.{get_or-set_other, eq-eqb, ne_eqb}
use Rattle.std.specs.Prelude.{if◌then◌else◌}
use Rattle.std.proofs.Math.ListN.{length-set}
use Rattle.std.proofs.lemmas.Bool.{cases_eq, cases_lt}
use Rattle.std.proofs.lemmas.Bool.Decides.{nat_tests}
use Rattle.std.proofs.lemmas.List.{get_or_default}
use Rattle.std.proofs.Common.{Result, Ok, Err, OnOk}
use Rattle.tm_owing.specs.declared.writes.Latest.{Latest}
use Rattle.tm_owing.specs.Writes.{HasNothing, place_of, at_place}

-- a byte lies in an area, or it doesn't
abbrev IsIn : (from n b : ℕ) → Type 0
IsIn from n b = (from ≤ b) × (b - from < n) × (place_of from n b ≡ Some (b - from))

below : (from n b : ℕ) → b < from → (nat_le from b && nat_lt (b - from) n) ≡ false
below from n b l = grind (arith, nat_tests)

behind : (from n b : ℕ) → n ≤ b - from → (nat_le from b && nat_lt (b - from) n) ≡ false
behind from n b l = grind (arith, nat_tests)

inside : (from n b : ℕ) → from ≤ b → b - from < n → (nat_le from b && nat_lt (b - from) n) ≡ true
inside from n b l m = grind (arith, nat_tests)

is_in : (from n b : ℕ) → IsIn from n b ⊎ (place_of from n b ≡ None)
unfolding place_of
is_in from n b = by (cases_lt b from) (cases_lt (b - from) n)
  where
    by : (b < from) ⊎ (from ≤ b) → (b - from < n) ⊎ (n ≤ b - from) → IsIn from n b ⊎ (place_of from n b ≡ None)
    by (inl l) m = inr (ap (λ (t : Bool). if t then Some (b - from) else None) (below from n b l))
    by (inr l) (inr m) = inr (ap (λ (t : Bool). if t then Some (b - from) else None) (behind from n b m))
    by (inr l) (inl m) =
        inl (l, m, ap (λ (t : Bool). if t then Some (b - from) else None) (inside from n b l m))

some-none : {A : Type 0} (o : Option ℕ) (i : ℕ) → o ≡ Some i → o ≡ None → A
some-none o i e f = let apart : ◌≡◌ {A = Option ℕ} (Some i) None = sym e ∙ f in cc

some-same : (o : Option ℕ) (i j : ℕ) → o ≡ Some i → o ≡ Some j → i ≡ j
some-same o i j e f = let same : ◌≡◌ {A = Option ℕ} (Some i) (Some j) = sym e ∙ f in cc

-- what is kept of a byte, where another one's write was kept
if-other : {A : Type 0} (k b : ℕ) (x y : A) → k ≢ b → (if k == b then x else y) ≡ y
if-other k b x y n = ap (λ (t : Bool). if t then x else y) (ne_eqb k b n)

if-same : {A : Type 0} (k b : ℕ) (x y : A) → k ≡ b → (if k == b then x else y) ≡ x
if-same k b x y e = ap (λ (t : Bool). if t then x else y) (eq-eqb k b e)

module _ (from b : ℕ) (near : List (Option Latest)) (far : ℕ → Option Latest) (w : Latest) where
  abbrev n : ℕ
  n = length near

  -- in the area
  pub put-near : (i : ℕ) → place_of from n b ≡ Some i → (k : ℕ)
      → at_place (set near i (Some w)) (far k) (place_of from (length (set near i (Some w))) k)
      ≡ (if k == b then Some w else at_place near (far k) (place_of from n k))
  put-near i at k =
      ap (λ (m : ℕ). at_place (set near i (Some w)) (far k) (place_of from m k)) (length-set near i (Some w))
      ∙ by (is_in from n b) (is_in from n k)
    where
      by : IsIn from n b ⊎ (place_of from n b ≡ None) → IsIn from n k ⊎ (place_of from n k ≡ None)
          → at_place (set near i (Some w)) (far k) (place_of from n k)
          ≡ (if k == b then Some w else at_place near (far k) (place_of from n k))
      by (inr none) other = some-none (place_of from n b) i at none
      by (inl (l, m, e)) (inr none) =
          ap (at_place (set near i (Some w)) (far k)) none
          ∙ sym (if-other k b (Some w) (at_place near (far k) (place_of from n k))
          (λ z. some-none (place_of from n b) i at (ap (place_of from n) (sym z) ∙ none))
          ∙ ap (at_place near (far k)) none)
      by (inl (l, m, e)) (inl (x, y, f)) =
          let same : i ≡ b - from = some-same (place_of from n b) i (b - from) at e in
          ap (at_place (set near i (Some w)) (far k)) f ∙ here same (cases_eq k b)
        where
          here : i ≡ b - from → (k ≡ b) ⊎ (k ≡ b → ⊥) → get_or (set near i (Some w)) (k - from) None
              ≡ (if k == b then Some w else at_place near (far k) (place_of from n k))
          here same (inl z) =
              let place : k - from ≡ i = omega (arith, same, z) in
              ap (λ (j : ℕ). get_or (set near i (Some w)) j None) place
              ∙ (get_or-set_same near i (Some w) None (omega (arith, same, m))
              ∙ sym (if-same k b (Some w) (at_place near (far k) (place_of from n k)) z))
          here same (inr z) =
              get_or-set_other near i (k - from) (Some w) None (λ p. z (omega (arith, p, same, l, x)))
              ∙ sym (if-other k b (Some w) (at_place near (far k) (place_of from n k)) z
              ∙ ap (at_place near (far k)) f)

  -- in the map
  pub put-away : (news : ℕ → Option Latest) → place_of from n b ≡ None
      → ((k : ℕ) → news k ≡ (if k == b then Some w else far k)) → (k : ℕ)
      → at_place near (news k) (place_of from n k)
      ≡ (if k == b then Some w else at_place near (far k) (place_of from n k))
  put-away news none put k = by (is_in from n k)
    where
      by : IsIn from n k ⊎ (place_of from n k ≡ None) → at_place near (news k) (place_of from n k)
          ≡ (if k == b then Some w else at_place near (far k) (place_of from n k))
      by (inr f) =
          ap (at_place near (news k)) f
          ∙ (put k ∙ ap (λ (o : Option Latest). if k == b then Some w else o) (sym (ap (at_place near (far k)) f)))
      by (inl (x, y, f)) =
          ap (at_place near (news k)) f
          ∙ sym (if-other k b (Some w) (at_place near (far k) (place_of from n k))
          (λ z. some-none (place_of from n k) (k - from) f (ap (place_of from n) z ∙ none))
          ∙ ap (at_place near (far k)) f)

-- ---- no write

pub nothing-at : (near : List (Option Latest)) (far : Option Latest) (o : Option ℕ) → HasNothing near → far ≡ None
    → at_place near far o ≡ None
nothing-at near far None h e = e
nothing-at near far (Some i) h e = h i

-- ---- what is found

pub found-near : (from b : ℕ) (near : List (Option Latest)) (far : Option Latest) (n i : ℕ) (x : Option Latest)
    → n ≡ length near → place_of from n b ≡ Some i → i < n → x ≡ get_or near i x
    → x ≡ at_place near far (place_of from (length near) b)
found-near from b near far n i x long at l is =
    let place : place_of from (length near) b ≡ Some i = ap (λ (m : ℕ). place_of from m b) (sym long) ∙ at in
    is ∙ get_or_default near i x None (omega (arith, long, l)) ∙ sym (ap (at_place near far) place)

pub found-away : (from b : ℕ) (near : List (Option Latest)) (far : Option Latest) (n : ℕ) (x : Option Latest)
    → n ≡ length near → place_of from n b ≡ None → x ≡ far → x ≡ at_place near far (place_of from (length near) b)
found-away from b near far n x long none is =
    let place : place_of from (length near) b ≡ None = ap (λ (m : ℕ). place_of from m b) (sym long) ∙ none in
    is ∙ sym (ap (at_place near far) place)

-- the place, by the list's length
pub placed : (from b : ℕ) (near : List (Option Latest)) (n : ℕ) (o : Option ℕ) → n ≡ length near
    → place_of from n b ≡ o → place_of from (length near) b ≡ o
placed from b near n o long at = ap (λ (m : ℕ). place_of from m b) (sym long) ∙ at

-- what follows where a result is there
pub on-ok : {X E : Type 0} (P Q : Type 0) (r : Result X E) → (P → Q) → OnOk r P → OnOk r Q
on-ok P Q (Ok x) f h = f h
on-ok P Q (Err e) f h = tt
