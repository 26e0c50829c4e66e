-- Inputs and their limits.
use Rattle.std.proofs.Common.{◌≡◌, ◌≤◌, ◌<◌, refl, ℕ, List, Option, None, Some, length}
use Rattle.std.specs.Prelude.{IsSomeAnd}
use Rattle.std.proofs.lemmas.Bool.{le-ltb, lt-ltb}
use Rattle.tm_desk.specs.declared.desk.DeskError.TheVariants.{TooLong}
use Rattle.tm_top_line.specs.declared.fault.AnyFault.{AnyFault}
use Rattle.tm_top_line.specs.declared.fault.AnyFault.TheVariants.{Desk}
use Rattle.tm_top_owed.specs.Inputs.{fault_of_input}

-- an input that is longer than its limit
pub long : (max : ℕ) (refusal : List ℕ → Option AnyFault) (file : Option (List ℕ))
    → IsSomeAnd file (λ text. max < length text)
    → fault_of_input max refusal file ≡ Some (Desk (TooLong max))
long max refusal None h = absurd h
long max refusal (Some text) h = rw (lt-ltb max (length text) h) refl

-- an input within its limit
pub short : (max : ℕ) (refusal : List ℕ → Option AnyFault) (text : List ℕ) → length text ≤ max
    → fault_of_input max refusal (Some text) ≡ refusal text
short max refusal text h = rw (le-ltb max (length text) h) refl
