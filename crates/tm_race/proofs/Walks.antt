-- The walk by tests knows what is race-dependent.
use Rattle.std.proofs.Common.{◌≡◌, ℕ, zero, suc, inl, inr, List, Contains, length, get_or, Bool, true, false, ◌==◌}
use Rattle.std.proofs.Common.{IsTrue, Option, None, Some, refl, ap, subst, eqb-true, eq-eqb}
use Rattle.std.specs.Bool.{Decides}
use Rattle.std.proofs.lemmas.Bool.{false≢true}
use Rattle.std.proofs.lemmas.Bool.Decides.{Decides-at, Decides-not, Decides-and, Decides-or, Decides-ltb, Decides-by_or}
use Rattle.std.proofs.lemmas.List.Elements.{Contains-get_or}
use Rattle.tm_plan_cases.specs.declared.cases.Cases.{Cases}
use Rattle.tm_plan_cases.specs.declared.cases.Stream.{Stream}
use Rattle.tm_plan_cases.specs.Collected.{slots_of}
use Rattle.tm_base.specs.Lists.{any}
use Rattle.tm_plan_cases.specs.Streams.{stream_in}
use Rattle.tm_world.specs.Slots.{Slot, slots_in}
use Rattle.tm_world.specs.Trails.{RaceDependent}
use Rattle.tm_race_walk.specs.Forward.{Stands, ReadsHeld, HeldAfter, Raised, Turns}
use Rattle.tm_race_walk.proofs.OneSlot.{forward, stands_as, stands_zero}
use Rattle.tm_race_walk.proofs.Shaping.{any-contains}
use Rattle.tm_race.specs.Exact.{Walk, is_written, reads_held, is_held_after, is_steered, reach_with, walk_over}
use Rattle.tm_race.specs.Exact.{walk_to, is_held}

-- ---- what the tests tell

itself : (t : Bool) → Decides t (t ≡ true)
itself t = ((λ e. e), (λ e. e))

any-decides : (test : ℕ → Bool) (xs : List ℕ) → Decides (any test xs) ((x : ℕ) × Contains xs x × (test x ≡ true))
any-decides test xs = (
  (λ t.
      let d = Decides-by_or test (λ x. test x ≡ true) (any test) (λ x. itself (test x)) refl (λ _ _. refl) xs in
      let q = d.0 t in
      (get_or xs q.0 0, Contains-get_or xs q.0 0 q.1, q.2 0)),
  (λ p. any-contains test xs p.0 p.1 p.2),
)

written-decides : (slot : Slot) (r : ℕ) → Decides (is_written slot r) (Contains slot.writes r)
written-decides slot r = (
  (λ t.
      let q = (any-decides (λ s. s == r) slot.writes).0 t in
      subst (λ (s : ℕ). Contains slot.writes s) (eqb-true q.0 r q.2) q.1),
  (λ c. any-contains (λ s. s == r) slot.writes r c (eq-eqb r r refl)),
)

reach-told : (P : Type 0) (counts : Bool) (target : Option ℕ) (old : ℕ) → Decides counts P
    → Raised P target old (reach_with target counts old)
reach-told P counts None old d = refl
reach-told P true (Some t) old d = inl (d.0 refl, refl)
reach-told P false (Some t) old d = inr ((λ p. false≢true (d.1 p)), refl)

-- ---- one slot

-- the resources that a walk holds
abbrev Held : Walk → ℕ → Type 0
Held walk r = IsTrue (walk.held r)

module _ (slot : Slot) (i : ℕ) (walk : Walk) where
  reads-decides : Decides (reads_held slot walk) (ReadsHeld slot (Held walk))
  reads-decides = any-decides walk.held slot.reads

  steered-decides : Decides (is_steered slot i walk) (Turns slot i (Held walk) walk.steered)
  steered-decides = Decides-or _ _ (Decides-and _ _ (itself slot.decides) reads-decides) (Decides-ltb i walk.steered)

  held-decides : (r : ℕ)
      → Decides (is_held_after slot i walk r) (HeldAfter slot i (Held walk) walk.steered walk.covered r)
  held-decides r =
      let written = written-decides slot r in
      let depends = Decides-or _ _ (itself slot.races) (Decides-or _ _ reads-decides (Decides-ltb i walk.steered)) in
      let stays = Decides-or _ _ (Decides-not _ written) (Decides-ltb i walk.covered) in
      Decides-or _ _ (Decides-and _ _ written depends) (Decides-and _ _ (itself (walk.held r)) stays)

-- ---- the walk

pub walk-stands : (stream : ℕ → Slot) (j : ℕ)
    → Stands stream j (Held (walk_to stream j)) (walk_to stream j).steered (walk_to stream j).covered
unfolding walk_to
walk-stands stream zero =
    stands_as stream 0 (λ r. ⊥) (λ r. false ≡ true) 0 0 (λ r. (false≢true, (λ b. absurd b))) (stands_zero stream)
walk-stands stream (suc j) =
    let walk = walk_to stream j in
    let slot = stream j in
    forward stream j (Held walk) walk.steered walk.covered (walk-stands stream j)
    (Held (walk_over slot j walk)) _ _ (held-decides slot j walk)
    (reach-told _ (is_steered slot j walk) slot.target walk.steered (steered-decides slot j walk))
    (reach-told (Unit {0}) true slot.target walk.covered ((λ _. tt), (λ _. refl)))

pub held-told : (cases : Cases) (c h r : ℕ) (stream : Stream) → stream_in cases c h ≡ Some stream
    → Decides (is_held cases c h r) (RaceDependent (slots_in cases c h) r (length stream.words))
unfolding is_held
held-told cases c h r stream e =
    let same = ap (λ (s : Option Stream). (walk_to (slots_in cases c h) (slots_of s)).held r) e in
    Decides-at _ _ same ((walk-stands (slots_in cases c h) (length stream.words)).held r)
