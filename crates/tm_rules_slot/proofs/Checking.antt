-- Checks: the first that is broken.
use Rattle.std.proofs.Common.{◌≡◌, Bool, true, false, List, [], ◌∷◌, ◌++◌, Option, Some, None, refl, sym, ◌∙◌}
use Rattle.tm_refusals.specs.declared.rule.RuleFault.{RuleFault}
use Rattle.tm_rules_slot.specs.Slots.{first, broken}

-- checks that pass have no part in what is broken first
pub first-passed : (xs ys : List (Option RuleFault)) → first xs ≡ None → first (xs ++ ys) ≡ first ys
first-passed [] ys e = refl
first-passed (None ∷ xs) ys e = first-passed xs ys e
first-passed (Some f ∷ xs) ys e = cc

-- what is broken first stays so, whatever follows
pub first-stops : (xs ys : List (Option RuleFault)) (f : RuleFault) → first xs ≡ Some f → first (xs ++ ys) ≡ Some f
first-stops [] ys f e = cc
first-stops (None ∷ xs) ys f e = first-stops xs ys f e
first-stops (Some g ∷ xs) ys f e = e

-- where nothing is broken, the first rule isn't, and none of the rest
pub first-none : (c : Option RuleFault) (cs : List (Option RuleFault)) → first (c ∷ cs) ≡ None → (c ≡ None)
    × (first cs ≡ None)
first-none None cs e = (refl, e)
first-none (Some f) cs e = cc

pub unbroken : (b : Bool) (f : RuleFault) → broken b f ≡ None → b ≡ false
unbroken true f e = cc
unbroken false f e = refl

-- ---- four groups of checks, of which the first has one

pub stops-second : (c : Option RuleFault) (rs xs ts : List (Option RuleFault)) (f : RuleFault) → c ≡ None
    → first rs ≡ Some f → Some f ≡ first ((c ∷ []) ++ rs ++ xs ++ ts)
stops-second c rs xs ts f e g = rw e (sym (first-stops (rs ++ xs) ts f (first-stops rs xs f g)))

pub stops-third : (c : Option RuleFault) (rs xs ts : List (Option RuleFault)) (f : RuleFault) → c ≡ None
    → first rs ≡ None → first xs ≡ Some f → Some f ≡ first ((c ∷ []) ++ rs ++ xs ++ ts)
stops-third c rs xs ts f e g h = rw e (sym (first-stops (rs ++ xs) ts f (first-passed rs xs g ∙ h)))

pub comes-last : (c : Option RuleFault) (rs xs ts : List (Option RuleFault)) → c ≡ None → first rs ≡ None
    → first xs ≡ None → first ts ≡ first ((c ∷ []) ++ rs ++ xs ++ ts)
comes-last c rs xs ts e g h = rw e (sym (first-passed (rs ++ xs) ts (first-passed rs xs g ∙ h)))

pub only-check : (c : Option RuleFault) → c ≡ first (c ∷ [])
only-check None = refl
only-check (Some f) = refl
