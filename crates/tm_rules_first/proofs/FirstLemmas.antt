-- What the first broken check of a list is.
use Rattle.std.proofs.Common.{◌≡◌, ◌≢◌, ◌<◌, ℕ, zero, suc, List, [], ◌∷◌, ◌++◌, Option, Some, None, slice_get, refl}
use Rattle.std.proofs.Common.{ap, arith}
use Rattle.tm_base.specs.declared.Pos.{Pos}
use Rattle.tm_refusals.specs.declared.rule.RuleFault.{RuleFault}
use Rattle.tm_rules_slot.specs.Slots.{first}
use Rattle.tm_refusals.specs.declared.rule.RuleAt.{RuleAt}
use Rattle.tm_rules_first.specs.Rules.{Check, put_at, or_later, first_of, broken, NoneBroken, IsFirst}

-- a fault at a place
abbrev pub at_place : Pos → RuleFault → RuleAt
at_place p fault = record { pos = p; fault = fault }

-- ---- lists joined

pub first-passes : (xs ys : List Check) → first_of xs ≡ None → first_of (xs ++ ys) ≡ first_of ys
unfolding first_of
first-passes [] ys none = refl
first-passes ((p, None) ∷ xs) ys none = first-passes xs ys none
first-passes ((p, Some f) ∷ xs) ys none = cc

pub first-stops : (xs ys : List Check) (r : RuleAt) → first_of xs ≡ Some r → first_of (xs ++ ys) ≡ Some r
unfolding first_of
first-stops [] ys r some = cc
first-stops ((p, None) ∷ xs) ys r some = first-stops xs ys r some
first-stops ((p, Some f) ∷ xs) ys r some = some

pub first-both : (xs ys : List Check) → first_of (xs ++ ys) ≡ None → (first_of xs ≡ None) × (first_of ys ≡ None)
unfolding first_of
first-both [] ys none = (refl, none)
first-both ((p, None) ∷ xs) ys none = first-both xs ys none
first-both ((p, Some f) ∷ xs) ys none = cc

-- ---- the rules of a statement

pub put-passes : (p : Pos) (rules : List (Option RuleFault)) → first rules ≡ None → first_of (put_at p rules) ≡ None
unfolding first_of
put-passes p [] none = refl
put-passes p (None ∷ rules) none = put-passes p rules none
put-passes p (Some f ∷ rules) none = cc

pub put-stops : (p : Pos) (rules : List (Option RuleFault)) (f : RuleFault) → first rules ≡ Some f
    → first_of (put_at p rules) ≡ Some (at_place p f)
unfolding first_of
put-stops p [] f some = cc
put-stops p (None ∷ rules) f some = put-stops p rules f some
put-stops p (Some g ∷ rules) f some = let same : g ≡ f = cc in rw same refl

pub put-none : (p : Pos) (rules : List (Option RuleFault)) → first_of (put_at p rules) ≡ None → first rules ≡ None
unfolding first_of
put-none p [] none = refl
put-none p (None ∷ rules) none = put-none p rules none
put-none p (Some f ∷ rules) none = cc

-- ---- in the words of the law

fault_in : Option Check → Option RuleFault
fault_in None = None
fault_in (Some check) = check.1

rule_in : Option Check → Option RuleAt
rule_in None = None
rule_in (Some check) = or_later check.0 check.1 None

-- a rule that holds is not broken
holds : (p : Pos) (r : RuleAt) → Some (p, None) ≡ Some (broken r) → ⊥
unfolding fault_in
holds p r e = let bad : None ≡ Some r.fault = ap fault_in e in cc

before-more : (p : Pos) (checks : List Check) (place : ℕ)
    → ((k : ℕ) (s : RuleAt) → k < place → slice_get checks k ≢ Some (broken s))
    → (k : ℕ) (s : RuleAt) → k < suc place → slice_get ((p, None) ∷ checks) k ≢ Some (broken s)
before-more p checks place before zero s under e = holds p s e
before-more p checks place before (suc k) s under e = before k s (omega arith) e

pub is-first : (checks : List Check) (r : RuleAt) → first_of checks ≡ Some r → IsFirst checks r
unfolding first_of
is-first [] r some = cc
is-first ((p, None) ∷ checks) r some =
    let more = is-first checks r some in
    record { place = suc more.place; here = more.here; before = before-more p checks more.place more.before }
is-first ((p, Some f) ∷ checks) r some =
    let same : at_place p f ≡ r = cc in
    record { place = 0; here = rw (← same) refl; before = λ k s under. absurd (omega arith) }

first-is-at : (checks : List Check) (r : RuleAt) (place : ℕ) → slice_get checks place ≡ Some (broken r)
    → ((k : ℕ) (s : RuleAt) → k < place → slice_get checks k ≢ Some (broken s)) → first_of checks ≡ Some r
unfolding first_of rule_in
first-is-at [] r place here before = cc
first-is-at ((p, None) ∷ checks) r zero here before = absurd (holds p r here)
first-is-at ((p, None) ∷ checks) r (suc place) here before =
    first-is-at checks r place here (λ k s under. before (suc k) s (omega arith))
first-is-at ((p, Some f) ∷ checks) r zero here before = ap rule_in here
first-is-at ((p, Some f) ∷ checks) r (suc place) here before = absurd (before 0 (at_place p f) (omega arith) refl)

pub first-is : (checks : List Check) (r : RuleAt) → IsFirst checks r → first_of checks ≡ Some r
first-is checks r is = first-is-at checks r is.place is.here is.before

pub none-broken : (checks : List Check) → first_of checks ≡ None → NoneBroken checks
unfolding first_of
none-broken [] none k r e = cc
none-broken ((p, None) ∷ checks) none zero r e = holds p r e
none-broken ((p, None) ∷ checks) none (suc k) r e = none-broken checks none k r e
none-broken ((p, Some f) ∷ checks) none k r e = cc

pub first-none : (checks : List Check) → NoneBroken checks → first_of checks ≡ None
unfolding first_of
first-none [] none = refl
first-none ((p, None) ∷ checks) none = first-none checks (λ k r. none (suc k) r)
first-none ((p, Some f) ∷ checks) none = absurd (none 0 (at_place p f) refl)
