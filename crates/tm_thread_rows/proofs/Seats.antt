-- All seats of a mill, of which one has changed.
use Rattle.std.proofs.Common.{◌≡◌, ℕ, zero, suc, ◌⊎◌, List, [], ◌∷◌, slice_get, slice_set, Some}
use Rattle.std.proofs.Common.{refl, sym, ap, subst, ◌∙◌, inl, inr, ⊎_elim}
use Rattle.tm_plan_cases.specs.declared.event.Event.{Event}
use Rattle.tm_turn.specs.Seats.{SeatState, HasNumber}
use Rattle.tm_turn.proofs.Places.{one_value, none_some}
use Rattle.tm_harts.specs.declared.held.Setup.{Setup}
use Rattle.tm_harts.specs.Mills.{Milled, IsOf, AreAllOf}

module _ {A : Type 0} where
  -- an element of a list in which one was set: this one, or one that stood there
  got_of_set : (l : List A) (i k : ℕ) (a b : A) → slice_get (slice_set l i a) k ≡ Some b
      → (b ≡ a) ⊎ (slice_get l k ≡ Some b)
  got_of_set [] i k a b e = inr e
  got_of_set (x ∷ xs) zero zero a b e = inl (sym (one_value e))
  got_of_set (x ∷ xs) zero (suc k) a b e = inr e
  got_of_set (x ∷ xs) (suc i) zero a b e = inr e
  got_of_set (x ∷ xs) (suc i) (suc k) a b e = got_of_set xs i k a b e

  -- the element that was set
  got_set : (l : List A) (i : ℕ) (a b : A) → slice_get l i ≡ Some b → slice_get (slice_set l i a) i ≡ Some a
  got_set [] i a b e = absurd (none_some e)
  got_set (x ∷ xs) zero a b e = refl
  got_set (x ∷ xs) (suc i) a b e = got_set xs i a b e

  -- another element
  got_beside : (l : List A) (i k : ℕ) (a b : A) → slice_get l k ≡ Some b
      → (i ≡ k) ⊎ (slice_get (slice_set l i a) k ≡ Some b)
  got_beside [] i k a b e = absurd (none_some e)
  got_beside (x ∷ xs) zero zero a b e = inl refl
  got_beside (x ∷ xs) zero (suc k) a b e = inr e
  got_beside (x ∷ xs) (suc i) zero a b e = inr e
  got_beside (x ∷ xs) (suc i) (suc k) a b e = ⊎_elim (λ is. inl (ap suc is)) (λ at. inr at) (got_beside xs i k a b e)

-- They are all the mill's seats, where they were before, and the one that changed is still of the mill, with its
-- number.
pub all_set : (m : Milled) (seats : List (SeatState Event Setup)) (i : ℕ) (old new : SeatState Event Setup)
    → slice_get seats i ≡ Some old → IsOf m new → new.number ≡ old.number → AreAllOf m seats
    → AreAllOf m (slice_set seats i new)
all_set m seats i old new at stays same a = record {
  each = λ k s got. ⊎_elim (λ is. subst (IsOf m) (sym is) stays) (λ was. a.each k s was)
      (got_of_set seats i k new s got);
  all = λ h l. found h (a.all h l);
}
  where
    found : (h : ℕ) → HasNumber h seats → HasNumber h (slice_set seats i new)
    found h (k, s, was, number) =
        ⊎_elim (λ (is : i ≡ k). (i, new, got_set seats i new old at, same ∙ (this k s was is ∙ number)))
        (λ got. (k, s, got, number)) (got_beside seats i k new s was)
      where
        this : (k : ℕ) (s : SeatState Event Setup) → slice_get seats k ≡ Some s → i ≡ k → old.number ≡ s.number
        this k s was is =
            ap (λ (x : SeatState Event Setup). x.number)
            (one_value (sym at ∙ (ap (slice_get seats) is ∙ was)))
