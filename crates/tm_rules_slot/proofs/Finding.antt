-- The least hart of a team that a test finds.
use Rattle.std.proofs.Common.{◌≡◌, ◌≤◌, ◌<◌, ℕ, zero, suc, ◌+◌, Bool, true, false, ◌&&◌, cond, List, [], ◌∷◌, filter}
use Rattle.std.proofs.Common.{find, Some, None, refl, sym, ◌∙◌, ap, inl, inr, arith}
use Rattle.std.proofs.lemmas.Bool.{cases_Bool, cases_eq, and_from}
use Rattle.tm_topo.specs.declared.system.Topology.{Topology}
use Rattle.tm_tmpl_types.specs.declared.template.Selector.{Selector}
use Rattle.tm_base.specs.Lists.{count_from}
use Rattle.tm_rules_slot.specs.Teams.{harts_of, in_team, team}

-- a test among those that another test takes
pub find-filter : (p q : ℕ → Bool) (xs : List ℕ) → find p (filter q xs) ≡ find (λ x. q x && p x) xs
find-filter p q [] = refl
find-filter p q (x ∷ xs) = elim (cases_Bool (q x)) [
  | inl e ↦ rw e (ap (λ o. cond (p x) (Some x) o) (find-filter p q xs))
  | inr e ↦ rw e (find-filter p q xs)
]

-- no number passes
pub find_from-none : (p : ℕ → Bool) (a n : ℕ) → ((k : ℕ) → a ≤ k → k < a + n → p k ≡ false) → find p (count_from a n)
    ≡ None
find_from-none p a zero none = refl
find_from-none p a (suc n) none = let here = none a (omega arith) (omega arith) in
    rw here (find_from-none p (suc a) n (λ k low high. none k (omega arith) (omega arith)))

-- the least number that passes
pub find_from-some : (p : ℕ → Bool) (a n h : ℕ) → a ≤ h → h < a + n → ((k : ℕ) → a ≤ k → k < h → p k ≡ false)
    → p h ≡ true → find p (count_from a n) ≡ Some h
find_from-some p a zero h low high none here = absurd (omega arith)
find_from-some p a (suc n) h low high none here = elim (cases_eq a h) [
  | inl e ↦ let now : p a ≡ true = rw e here in rw now (rw e refl)
  | inr ne ↦
      let before = none a (omega arith) (omega arith) in
      rw before (find_from-some p (suc a) n h (omega arith) (omega arith) (λ k low high. none k (omega arith) high)
      here)
]

-- where nothing is found, no number passes
pub none-passes : (p : ℕ → Bool) (a n : ℕ) → find p (count_from a n) ≡ None → (k : ℕ) → a ≤ k → k < a + n → p k ≡ false
none-passes p a zero none k low high = absurd (omega arith)
none-passes p a (suc n) none k low high = elim (cases_Bool (p a)) [
  | inl e ↦ let wrong : Some a ≡ None = rw e at none in cc
  | inr e ↦ elim (cases_eq a k) [
    | inl same ↦ rw (← same) e
    | inr ne ↦ let rest = rw e at none in none-passes p (suc a) n rest k (omega arith) (omega arith)
  ]
]

-- ---- a team

pub team-some : (topo : Topology) (whom : Selector) (test : ℕ → Bool) (h : ℕ) → h < harts_of topo
    → ((k : ℕ) → k < h → in_team topo whom k && test k ≡ false)
    → in_team topo whom h ≡ true → test h ≡ true → Some h ≡ find test (team topo whom)
unfolding team
team-some topo whom test h low before among here =
    let both = and_from (in_team topo whom h) (test h) among here in
    sym (find-filter test (in_team topo whom) (count_from 0 (harts_of topo))
    ∙ find_from-some (λ x. in_team topo whom x && test x) 0 (harts_of topo) h (omega arith) (omega arith)
    (λ k some less. before k less) both)

pub team-none : (topo : Topology) (whom : Selector) (test : ℕ → Bool)
    → ((k : ℕ) → k < harts_of topo → in_team topo whom k && test k ≡ false) → None ≡ find test (team topo whom)
unfolding team
team-none topo whom test none =
    sym (find-filter test (in_team topo whom) (count_from 0 (harts_of topo))
    ∙ find_from-none (λ x. in_team topo whom x && test x) 0 (harts_of topo) (λ k some less. none k (omega arith)))

-- where a team has no hart that passes, none of its harts passes
pub team-fails : (topo : Topology) (whom : Selector) (test : ℕ → Bool) → find test (team topo whom) ≡ None → (h : ℕ)
    → h < harts_of topo → in_team topo whom h ≡ true → test h ≡ false
unfolding team
team-fails topo whom test none h low among =
    let merged = sym (find-filter test (in_team topo whom) (count_from 0 (harts_of topo))) ∙ none in
    let fails = none-passes (λ x. in_team topo whom x && test x) 0 (harts_of topo) merged h (omega arith) (omega arith)
    in
    rw among at fails
