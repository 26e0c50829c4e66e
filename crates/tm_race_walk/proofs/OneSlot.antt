-- One slot of the walk.
use Rattle.std.proofs.Common.{◌≡◌, ℕ, zero, suc, ◌+◌, ◌<◌, ◌≤◌, ◌↔◌, ◌⊎◌, inl, inr, Option, None, Some, max, refl}
use Rattle.std.proofs.Common.{sym, subst, ◌∙◌, add-one, arith}
use Rattle.std.proofs.lemmas.Bool.{cases_lt}
use Rattle.tm_world.specs.Slots.{Slot, Jumps, Covers, SurelyOverwrites}
use Rattle.tm_world.specs.Trails.{At, Steered, Follows, Derived, RaceDependent}
use Rattle.tm_world.proofs.Trails.{one-more}
use Rattle.tm_race_walk.specs.Forward.{IsSteered, IsReach, Stands, HeldAfter, Raised, Turns}
use Rattle.tm_race_walk.proofs.Trails.{derived-rule}

lt_or_eq : (k j : ℕ) → k < suc j → (k < j) ⊎ (k ≡ j)
lt_or_eq k j h = grind arith

-- the reach tells which slots are covered
pub covered_below : (stream : ℕ → Slot) (P : ℕ → Type 0) (i reach : ℕ) → IsReach stream P i reach → (k : ℕ) → P k
    → Covers stream k i → i < reach
covered_below s P i reach h k p c = let le : c.0 ≤ reach = h.above k c.0 c.2 p c.1 in omega arith

pub below_covered : (stream : ℕ → Slot) (P : ℕ → Type 0) (i reach : ℕ) → IsReach stream P i reach → i < reach → (k : ℕ)
    × P k × Covers stream k i
below_covered s P i reach h lt = go h.met
  where
    go : (reach ≡ 0) ⊎ ((k : ℕ) × (k < i) × P k × Jumps s k reach) → (k : ℕ) × P k × Covers s k i
    go (inl e) = absurd (omega arith)
    go (inr m) = (m.0, m.2, (reach, m.3, m.1, lt))

pub reach_zero : (stream : ℕ → Slot) (P : ℕ → Type 0) → IsReach stream P 0 0
reach_zero s P = record { above = λ k t lt p j. absurd (omega arith); met = inl refl }

reach_none : (stream : ℕ → Slot) (P : ℕ → Type 0) (j old : ℕ) → ((t : ℕ) → P j → Jumps stream j t → ⊥)
    → IsReach stream P j old → IsReach stream P (suc j) old
reach_none s P j old n h = record { above = λ k t lt p jk. above k t p jk (lt_or_eq k j lt); met = met h.met }
  where
    above : (k t : ℕ) → P k → Jumps s k t → (k < j) ⊎ (k ≡ j) → t ≤ old
    above k t p jk (inl lt) = h.above k t lt p jk
    above k t p jk (inr e) = absurd (n t (subst P e p) (subst (λ i. Jumps s i t) e jk))

    met : (old ≡ 0) ⊎ ((k : ℕ) × (k < j) × P k × Jumps s k old) → (old ≡ 0)
        ⊎ ((k : ℕ) × (k < suc j) × P k × Jumps s k old)
    met (inl e) = inl e
    met (inr m) = inr (m.0, omega (arith, m.1), m.2, m.3)

max_cases : (a b : ℕ) → ((b ≤ a) × (max a b ≡ a)) ⊎ ((a ≤ b) × (max a b ≡ b))
max_cases a b = grind arith

reach_some : (stream : ℕ → Slot) (P : ℕ → Type 0) (j old u : ℕ) → P j → Jumps stream j u → IsReach stream P j old
    → IsReach stream P (suc j) (max old u)
reach_some s P j old u pj ju h = record {
  above = λ k t lt p jk. above k t p jk (lt_or_eq k j lt);
  met = met (max_cases old u) h.met;
}
  where
    above : (k t : ℕ) → P k → Jumps s k t → (k < j) ⊎ (k ≡ j) → t ≤ max old u
    above k t p jk (inl lt) = let le : t ≤ old = h.above k t lt p jk in omega arith
    above k t p jk (inr e) = let jt : Jumps s j t = subst (λ i. Jumps s i t) e jk in let same : t ≡ u = cc (jt, ju) in
        omega arith

    met : ((u ≤ old) × (max old u ≡ old)) ⊎ ((old ≤ u) × (max old u ≡ u)) → (old ≡ 0)
        ⊎ ((k : ℕ) × (k < j) × P k × Jumps s k old) → (max old u ≡ 0)
        ⊎ ((k : ℕ) × (k < suc j) × P k × Jumps s k (max old u))
    met (inl m) (inl e) = inl (m.1 ∙ e)
    met (inl m) (inr q) = inr (q.0, omega (arith, q.1), q.2, subst (Jumps s q.0) (sym m.1) q.3)
    met (inr m) q = inr (j, omega arith, pj, subst (Jumps s j) (sym m.1) ju)

pub reach_one : (stream : ℕ → Slot) (P : ℕ → Type 0) (j old new : ℕ) (target : Option ℕ) → (stream j).target ≡ target
    → IsReach stream P j old → Raised (P j) target old new → IsReach stream P (suc j) new
reach_one s P j old new None e h r =
    subst (IsReach s P (suc j)) (sym r) (reach_none s P j old (λ t p jt. absurd (cc (e, jt))) h)
reach_one s P j old new (Some t) e h (inl r) = subst (IsReach s P (suc j)) (sym r.1) (reach_some s P j old t r.0 e h)
reach_one s P j old new (Some t) e h (inr r) =
    subst (IsReach s P (suc j)) (sym r.1) (reach_none s P j old (λ u p ju. r.0 p) h)

module _ (stream : ℕ → Slot) (j : ℕ) (Held : ℕ → Type 0) (reach cover : ℕ) (stands : Stands stream j Held reach cover)
  where
    -- what is held after the slot has a trail
    pub after_derived : (r : ℕ) → HeldAfter (stream j) j Held reach cover r → RaceDependent stream r (suc j)
    after_derived r (inl (w, inl a)) = one-more stream _ (Follows.raced j r a w)
    after_derived r (inl (w, inr (inl (s, a, h)))) = one-more stream _ (Follows.passed j r s ((stands.held s).0 h) a w)
    after_derived r (inl (w, inr (inr lt))) =
        let c = below_covered stream (IsSteered stream) j reach stands.steered lt in
        one-more stream _ (Follows.missed j r c.0 c.1 c.2 w)
    after_derived r (inr (h, inl n)) = one-more stream _ (Follows.kept j r ((stands.held r).0 h) (λ o. n o.0))
    after_derived r (inr (h, inr lt)) =
        let c = below_covered stream (λ k. Unit {0}) j cover stands.covered lt in
        one-more stream _ (Follows.kept j r ((stands.held r).0 h) (λ o. o.1 c.0 c.2))

    uncovered : cover ≤ j → (k : ℕ) → Covers stream k j → ⊥
    uncovered le k c = let lt : j < cover = covered_below stream (λ k. Unit {0}) j cover stands.covered k tt c in
        omega arith

    kept_after : (r : ℕ) → Held r → (SurelyOverwrites stream j r → ⊥) → (j < cover) ⊎ (cover ≤ j)
        → HeldAfter (stream j) j Held reach cover r
    kept_after r h n (inl lt) = inr (h, inr lt)
    kept_after r h n (inr le) = inr (h, inl (λ w. n (w, uncovered le)))

    -- what has a trail is held after the slot
    pub follows_after : (r : ℕ) → Follows stream (Derived stream) (At r (suc j))
        → HeldAfter (stream j) j Held reach cover r
    follows_after r (Follows.raced i x a w) = inl (w, inl a)
    follows_after r (Follows.passed i x s d a w) = inl (w, inr (inl (s, a, (stands.held s).1 d)))
    follows_after r (Follows.missed i x k d c w) =
        inl (w, inr (inr (covered_below stream (IsSteered stream) j reach stands.steered k d c)))
    follows_after r (Follows.kept i x d n) = kept_after r ((stands.held r).1 d) n (cases_lt j cover)

    pub after_is : (r : ℕ) → HeldAfter (stream j) j Held reach cover r ↔ RaceDependent stream r (suc j)
    after_is r = (after_derived r, λ d. follows_after r (derived-rule stream _ d))

    -- slot j is steered where it jumps, and decides by what is held or is covered by a steered slot
    pub steered_derived : (t : ℕ) → Jumps stream j t → Turns (stream j) j Held reach → IsSteered stream j
    steered_derived t jt (inl (d, (s, a, h))) = one-more stream _ (Follows.turned j s ((stands.held s).0 h) d a)
    steered_derived t jt (inr lt) =
        let c = below_covered stream (IsSteered stream) j reach stands.steered lt in
        one-more stream _ (Follows.nested j c.0 t c.1 c.2 jt)

    pub steered_follows : Follows stream (Derived stream) (Steered j) → Turns (stream j) j Held reach
    steered_follows (Follows.turned i s d b a) = inl (b, (s, a, (stands.held s).1 d))
    steered_follows (Follows.nested i k t d c jt) =
        inr (covered_below stream (IsSteered stream) j reach stands.steered k d c)

    steered_raised : (target : Option ℕ) → (stream j).target ≡ target → (new : ℕ)
        → Raised (Turns (stream j) j Held reach) target reach new → Raised (IsSteered stream j) target reach new
    steered_raised None e new r = r
    steered_raised (Some t) e new (inl r) = inl (steered_derived t e r.0, r.1)
    steered_raised (Some t) e new (inr r) = inr (λ d. r.0 (steered_follows (derived-rule stream _ d)), r.1)

    -- The one lemma that each representation of the held resources uses.
    pub forward : (Next : ℕ → Type 0) (reach_next cover_next : ℕ)
        → ((r : ℕ) → Next r ↔ HeldAfter (stream j) j Held reach cover r)
        → Raised (Turns (stream j) j Held reach) (stream j).target reach reach_next
        → Raised (Unit {0}) (stream j).target cover cover_next
        → Stands stream (suc j) Next reach_next cover_next
    forward Next reach_next cover_next next up out = record {
      held = λ r. (λ h. (after_is r).0 ((next r).0 h), λ d. (next r).1 ((after_is r).1 d));
      steered = reach_one stream (IsSteered stream) j reach reach_next (stream j).target refl stands.steered
          (steered_raised (stream j).target refl reach_next up);
      covered = reach_one stream (λ k. Unit {0}) j cover cover_next (stream j).target refl stands.covered out;
    }

-- nothing holds before the first slot
none_at_zero : (stream : ℕ → Slot) (r : ℕ) → Follows stream (Derived stream) (At r zero) → ⊥
none_at_zero stream r f = elim f [ ]

pub stands_zero : (stream : ℕ → Slot) → Stands stream 0 (λ r. ⊥) 0 0
stands_zero s = record {
  held = λ r. (λ b. absurd b, λ d. none_at_zero s r (derived-rule s _ d));
  steered = reach_zero s (IsSteered s);
  covered = reach_zero s (λ k. Unit {0});
}

pub raised_as : (P Q : Type 0) (target : Option ℕ) (old new : ℕ) → P ↔ Q → Raised P target old new
    → Raised Q target old new
raised_as P Q None old new e r = r
raised_as P Q (Some t) old new e (inl r) = inl (e.0 r.0, r.1)
raised_as P Q (Some t) old new e (inr r) = inr (λ q. r.0 (e.1 q), r.1)

-- the same, where the slot and the resources are told in other words
pub forward_as : (stream : ℕ → Slot) (j : ℕ) (slot : Slot) → stream j ≡ slot → (Held : ℕ → Type 0) (reach cover : ℕ)
    → Stands stream j Held reach cover
    → (Next : ℕ → Type 0) (reach_next cover_next : ℕ) (P Q : Type 0)
    → ((r : ℕ) → Next r ↔ HeldAfter slot j Held reach cover r)
    → P ↔ Turns slot j Held reach → Raised P slot.target reach reach_next
    → Q → Raised Q slot.target cover cover_next
    → Stands stream (j + 1) Next reach_next cover_next
forward_as stream j slot e Held reach cover stands Next reach_next cover_next P Q next p up q out =
    let raised : Raised (Turns slot j Held reach) slot.target reach reach_next =
    raised_as P (Turns slot j Held reach) slot.target reach reach_next p up in
    let covered : Raised (Unit {0}) slot.target cover cover_next =
    raised_as Q (Unit {0}) slot.target cover cover_next (λ x. tt, λ x. q) out in
    subst (λ k. Stands stream k Next reach_next cover_next) (sym (add-one j))
    (forward stream j Held reach cover stands Next reach_next cover_next
    (subst (λ s. (r : ℕ) → Next r ↔ HeldAfter s j Held reach cover r) (sym e) next)
    (subst (λ s. Raised (Turns s j Held reach) s.target reach reach_next) (sym e) raised)
    (subst (λ s. Raised (Unit {0}) s.target cover cover_next) (sym e) covered))

pub stands_as : (stream : ℕ → Slot) (j : ℕ) (Held Next : ℕ → Type 0) (reach cover : ℕ) → ((r : ℕ) → Next r ↔ Held r)
    → Stands stream j Held reach cover → Stands stream j Next reach cover
stands_as stream j Held Next reach cover e s =
    record {
      held = λ r. (λ n. (s.held r).0 ((e r).0 n), λ d. (e r).1 ((s.held r).1 d));
      steered = s.steered;
      covered = s.covered;
    }
