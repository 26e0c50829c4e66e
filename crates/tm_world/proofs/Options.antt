-- The first of two options that is there.
use Rattle.std.proofs.Common.{◌≡◌, ℕ, Option, None, Some, refl}
use Rattle.std.specs.Prelude.{unwrap_or}
use Rattle.tm_world.specs.Lists.{or_else}

pub or_else-none : {A : Type 0} (o : Option A) → or_else o None ≡ o
or_else-none None = refl
or_else-none (Some x) = refl

pub or_else-assoc : {A : Type 0} (a b c : Option A) → or_else (or_else a b) c ≡ or_else a (or_else b c)
or_else-assoc None b c = refl
or_else-assoc (Some x) b c = refl

-- there is neither
pub or_else-neither : {A : Type 0} (u v : Option A) → or_else u v ≡ None → (u ≡ None) × (v ≡ None)
or_else-neither (Some x) v e = cc
or_else-neither None v e = (refl, e)

pub unwrap_or-or_else : (a b : Option ℕ) (d : ℕ) → unwrap_or (or_else a b) d ≡ unwrap_or a (unwrap_or b d)
unwrap_or-or_else None b d = refl
unwrap_or-or_else (Some x) b d = refl
