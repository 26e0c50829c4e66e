-- Entries of histories, by who made them, and a history with one entry more.
use Rattle.std.proofs.Common.{◌≡◌, ◌≢◌, ℕ, List, [], ◌∷◌, ◌++◌, length, drop, Bool, cond, eq-eqb, ne_eqb}
use Rattle.std.proofs.Common.{refl, sym, ap, ◌∙◌, subst, inl, inr, append-nil}
use mathlib.Core.Logic.{dite}
use native.Mathlib.Decide.{ℕ_discrete}
use Rattle.tm_turn.specs.History.{made_by, AddsAtMostOne}
use Rattle.tm_turn.proofs.Places.{after_seen}

module _ {E : Type 0} (maker : E → ℕ) where
  pub made_by-append : (k : ℕ) (xs ys : List E) → made_by maker k (xs ++ ys) ≡ made_by maker k xs ++ made_by maker k ys
  made_by-append k [] ys = refl
  made_by-append k (x ∷ xs) ys =
      let all = made_by maker k (xs ++ ys) in
      let left = made_by maker k xs in
      let right = made_by maker k ys in
      let P = λ (b : Bool). cond b (x ∷ all) all ≡ cond b (x ∷ left) left ++ right in
      dite (ℕ_discrete (maker x) k)
      (λ e. subst P (sym (eq-eqb (maker x) k e)) (ap (λ l. x ∷ l) (made_by-append k xs ys)))
      (λ n. subst P (sym (ne_eqb (maker x) k n)) (made_by-append k xs ys))

  pub made_by-own : (k : ℕ) (e : E) → maker e ≡ k → made_by maker k (e ∷ []) ≡ e ∷ []
  made_by-own k e is = subst (λ (b : Bool). cond b (e ∷ []) [] ≡ e ∷ []) (sym (eq-eqb (maker e) k is)) refl

  pub made_by-other : (k : ℕ) (e : E) → maker e ≢ k → made_by maker k (e ∷ []) ≡ []
  made_by-other k e other = subst (λ (b : Bool). cond b (e ∷ []) [] ≡ []) (sym (ne_eqb (maker e) k other)) refl

  -- where nothing was added, nothing is new
  nothing_new : (seen log : List E) → log ≡ seen → drop (length seen) log ≡ []
  nothing_new seen log same = ap (drop (length seen)) (same ∙ sym (append-nil seen)) ∙ after_seen seen []

  -- what was seen, and then what is new
  pub seen_and_news : (k : ℕ) (seen log : List E) → AddsAtMostOne maker k seen log
      → log ≡ seen ++ drop (length seen) log
  seen_and_news k seen log (inl same) =
      same ∙ (sym (append-nil seen) ∙ ap (λ l. seen ++ l) (sym (nothing_new seen log same)))
  seen_and_news k seen log (inr more) =
      more.1 ∙ ap (λ l. seen ++ l) (sym (ap (drop (length seen)) more.1 ∙ after_seen seen (more.0 ∷ [])))

  -- what is new is the seat's own
  pub made_by-news : (k : ℕ) (seen log : List E) → AddsAtMostOne maker k seen log
      → made_by maker k (drop (length seen) log) ≡ drop (length seen) log
  made_by-news k seen log (inl same) =
      let none = nothing_new seen log same in ap (made_by maker k) none ∙ sym none
  made_by-news k seen log (inr more) =
      let one = ap (drop (length seen)) more.1 ∙ after_seen seen (more.0 ∷ []) in
      ap (made_by maker k) one ∙ (made_by-own k more.0 more.2 ∙ sym one)
