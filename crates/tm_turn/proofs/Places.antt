-- Elements of lists by their places.
use Rattle.std.proofs.Common.{◌≡◌, ◌≢◌, ◌⊎◌, ℕ, zero, suc, ◌<◌, ◌≤◌, List, [], ◌∷◌, ◌++◌, length, take, drop, get_or}
use Rattle.std.proofs.Common.{Bool, true, false, refl, sym, ap, ◌∙◌, inl, inr, ⊎_elim, arith, Some, None, slice_get}
use Rattle.std.specs.List.{remove}
use mathlib.Core.Option.{some, some-injective, some-ne-none}
use lib.ListN.{get_elem?}

pub one_value : {A : Type 0} {a b : A} → Some a ≡ Some b → a ≡ b
one_value e = cc

pub none_some : {A : Type 0} {x : A} → None ≡ Some x → ⊥
none_some e = absurd cc

pub untrue : (b : Bool) → (b ≡ true → ⊥) → b ≡ false
untrue true h = absurd (h refl)
untrue false h = refl

pub positive : (j : ℕ) → j ≢ 0 → 0 < j
positive zero h = absurd (h refl)
positive (suc j) h = omega arith

-- views, read by `get_elem?`
module _ {A : Type 0} where
  pub within : (l : List A) (i : ℕ) (a : A) → get_elem? l i ≡ some a → i < length l
  within [] i a e = absurd (some-ne-none a (sym e))
  within (x ∷ xs) zero a e = omega arith
  within (x ∷ xs) (suc i) a e = let r = within xs i a e in omega arith

  pub before_last : (l : List A) (a b : A) (i : ℕ) → i < length l → get_elem? (l ++ a ∷ []) i ≡ some b
      → get_elem? l i ≡ some b
  before_last [] a b i h e = absurd (omega arith)
  before_last (x ∷ xs) a b zero h e = e
  before_last (x ∷ xs) a b (suc i) h e = before_last xs a b i (omega arith) e

  -- an element of a list with one more at its end
  pub snoc_cases : (l : List A) (a b : A) (i : ℕ) → get_elem? (l ++ a ∷ []) i ≡ some b
      → (get_elem? l i ≡ some b) ⊎ ((i ≡ length l) × (a ≡ b))
  snoc_cases [] a b zero e = inr (refl, some-injective a b e)
  snoc_cases [] a b (suc i) e = absurd (some-ne-none b (sym e))
  snoc_cases (x ∷ xs) a b zero e = inl e
  snoc_cases (x ∷ xs) a b (suc i) e = ⊎_elim (λ t. inl t) (λ t. inr (ap suc t.0, t.1)) (snoc_cases xs a b i e)

-- seats, read by `slice_get`
module _ {A : Type 0} where
  pub last_cases : (l : List A) (a b : A) (i : ℕ) → slice_get (l ++ a ∷ []) i ≡ Some b
      → (slice_get l i ≡ Some b) ⊎ ((i ≡ length l) × (a ≡ b))
  last_cases [] a b zero e = inr (refl, one_value e)
  last_cases [] a b (suc i) e = absurd cc
  last_cases (x ∷ xs) a b zero e = inl e
  last_cases (x ∷ xs) a b (suc i) e = ⊎_elim (λ t. inl t) (λ t. inr (ap suc t.0, t.1)) (last_cases xs a b i e)

  pub got_last : (l : List A) (a : A) → slice_get (l ++ a ∷ []) (length l) ≡ Some a
  got_last [] a = refl
  got_last (x ∷ xs) a = got_last xs a

  pub got_before : (l m : List A) (i : ℕ) (a : A) → slice_get l i ≡ Some a → slice_get (l ++ m) i ≡ Some a
  got_before [] m i a e = absurd (none_some e)
  got_before (x ∷ xs) m zero a e = e
  got_before (x ∷ xs) m (suc i) a e = got_before xs m i a e

  pub got_within : (l : List A) (i : ℕ) → i < length l → (a : A) × (slice_get l i ≡ Some a)
  got_within [] i h = absurd (omega arith)
  got_within (x ∷ xs) zero h = (x, refl)
  got_within (x ∷ xs) (suc i) h = got_within xs i (omega arith)

  pub in_bounds : (l : List A) (i : ℕ) (a : A) → slice_get l i ≡ Some a → i < length l
  in_bounds [] i a e = absurd (none_some e)
  in_bounds (x ∷ xs) zero a e = omega arith
  in_bounds (x ∷ xs) (suc i) a e = let r = in_bounds xs i a e in omega arith

  pub past_end : (l : List A) (i : ℕ) (a : A) → slice_get l i ≡ Some a → length l ≤ i → ⊥
  past_end l i a e low = let h = in_bounds l i a e in absurd (omega arith)

  pub got_index : (l : List A) (i : ℕ) (a d : A) → slice_get l i ≡ Some a → get_or l i d ≡ a
  got_index [] i a d e = absurd (none_some e)
  got_index (x ∷ xs) zero a d e = one_value e
  got_index (x ∷ xs) (suc i) a d e = got_index xs i a d e

  pub get_index : (l : List A) (i : ℕ) (a : A) → i < length l → a ≡ get_or l i a → slice_get l i ≡ Some a
  get_index [] i a h e = absurd (omega arith)
  get_index (x ∷ xs) zero a h e = ap (λ (y : A). Some y) (sym e)
  get_index (x ∷ xs) (suc i) a h e = get_index xs i a (omega arith) e

  -- what is left after one element was removed
  pub was_there : (l : List A) (p k : ℕ) (a : A) → slice_get (remove l p) k ≡ Some a
      → (i : ℕ) × (slice_get l i ≡ Some a)
  was_there [] zero k a e = (k, e)
  was_there [] (suc p) k a e = (k, e)
  was_there (x ∷ xs) zero k a e = (suc k, e)
  was_there (x ∷ xs) (suc p) zero a e = (0, e)
  was_there (x ∷ xs) (suc p) (suc k) a e = let r = was_there xs p k a e in (suc r.0, r.1)

  pub still_there : (l : List A) (p k : ℕ) (a : A) → k ≢ p → slice_get l k ≡ Some a
      → (i : ℕ) × (slice_get (remove l p) i ≡ Some a)
  still_there [] zero k a ne e = (k, e)
  still_there [] (suc p) k a ne e = (k, e)
  still_there (x ∷ xs) zero zero a ne e = absurd (ne refl)
  still_there (x ∷ xs) zero (suc k) a ne e = (k, e)
  still_there (x ∷ xs) (suc p) zero a ne e = (0, e)
  still_there (x ∷ xs) (suc p) (suc k) a ne e =
      let r = still_there xs p k a (λ z. ne (ap suc z)) e in (suc r.0, r.1)

  pub after_seen : (seen rest : List A) → drop (length seen) (seen ++ rest) ≡ rest
  after_seen [] rest = refl
  after_seen (x ∷ xs) rest = after_seen xs rest

  take_front : (l m : List A) → take (length l) (l ++ m) ≡ l
  take_front [] m = refl
  take_front (x ∷ xs) m = ap (λ (l : List A). x ∷ l) (take_front xs m)

  -- a list of n elements that was lent and came back
  pub written_back : (n : ℕ) (new old : List A) → n ≡ length new → take n (new ++ drop (length new) old) ≡ new
  written_back n new old is =
      ap (λ (k : ℕ). take k (new ++ drop (length new) old)) is ∙ take_front new (drop (length new) old)
