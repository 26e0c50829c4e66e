-- Numbers that are counted up.
use Rattle.std.proofs.Common.{◌≡◌, ◌+◌, ℕ, zero, suc, [], ◌∷◌, ◌++◌, map, refl, ap, ◌∙◌, add-one, arith}
use Rattle.std.proofs.lemmas.List.{map-append}
use Rattle.tm_base.specs.Lists.{count_from}

-- one number more
pub counted : (a k x : ℕ) → x ≡ a + k → count_from a (suc k) ≡ count_from a k ++ x ∷ []
counted a zero x is = let same : a ≡ x = omega arith in rw same refl
counted a (suc k) x is = ap (λ xs. a ∷ xs) (counted (suc a) k x (omega arith))

-- one image more of a number
pub counted-more : {B : Type 0} (f : ℕ → B) (k : ℕ) → map f (count_from 0 (k + 1)) ≡ map f (count_from 0 k) ++ f k ∷ []
counted-more f k =
    let more : count_from 0 (k + 1) ≡ count_from 0 k ++ k ∷ [] = rw add-one (counted 0 k k (omega arith)) in
    ap (map f) more ∙ map-append f (count_from 0 k) (k ∷ [])
