-- What follows from facts of trails is a fact of a trail.
use Rattle.std.proofs.Common.{ℕ, List, [], ◌∷◌, refl, arith}
use Rattle.std.specs.Prelude.{Contains}
use Rattle.tm_world.specs.Slots.{Slot}
use Rattle.tm_world.specs.Trails.{Fact, Follows, Derived}

contains_first : {X : Type 0} (x : X) (xs : List X) → Contains (x ∷ xs) x
contains_first x xs = (0, omega arith, refl)

-- what follows from a fact of a trail is a fact of the longer trail
pub one-more : (stream : ℕ → Slot) (f : Fact) → Follows stream (Derived stream) f → Derived stream f
one-more s f (Follows.raced i r a w) = (f ∷ [], (Follows.raced i r a w, tt), contains_first f [])
one-more s f (Follows.passed i r t d a w) = (f ∷ d.0, (Follows.passed i r t d.2 a w, d.1), contains_first f d.0)
one-more s f (Follows.missed i r k d c w) = (f ∷ d.0, (Follows.missed i r k d.2 c w, d.1), contains_first f d.0)
one-more s f (Follows.kept i r d n) = (f ∷ d.0, (Follows.kept i r d.2 n, d.1), contains_first f d.0)
one-more s f (Follows.turned i t d j a) = (f ∷ d.0, (Follows.turned i t d.2 j a, d.1), contains_first f d.0)
one-more s f (Follows.nested i k t d c j) = (f ∷ d.0, (Follows.nested i k t d.2 c j, d.1), contains_first f d.0)
