-- A text that is put behind another.
use Rattle.std.proofs.Common.{◌≡◌, ℕ, List, ◌++◌, Result, Ok, Err, OnOk, append_assoc, ◌∙◌, ap}

-- what is put behind a front is put behind the whole
pub joined : {A E : Type 0} (r : Result A E) (old mid new front text : List ℕ) → mid ≡ old ++ front
    → OnOk r (new ≡ mid ++ text) → OnOk r (new ≡ old ++ (front ++ text))
joined (Ok a) old mid new front text first h =
    h ∙ (ap (λ (xs : List ℕ). xs ++ text) first ∙ append_assoc old front text)
joined (Err e) old mid new front text first h = tt
