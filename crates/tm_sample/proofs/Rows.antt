-- Rows of parts that are put one after another.
use Rattle.std.proofs.Common.{◌≡◌, ℕ, suc, ◌+◌, List, [], ◌∷◌, ◌++◌, sym, ap, ◌∙◌, append_assoc, append-nil, arith}
use Rattle.std.specs.Prelude.{flat_map}
use Rattle.std.proofs.lemmas.Grind.{flat_map-append}
use Rattle.tm_base.specs.Lists.{count_from}
use Rattle.tm_plan_cases.proofs.Counted.{counted}

-- the next part was put
pub row-more : (f : ℕ → List ℕ) (k : ℕ) (start old new : List ℕ) → old ≡ start ++ flat_map f (count_from 0 k)
    → new ≡ old ++ f k
    → new ≡ start ++ flat_map f (count_from 0 (k + 1))
row-more f k start old new e more =
    let last : flat_map f (count_from 0 k ++ k ∷ [])
    ≡ flat_map f (count_from 0 k) ++ (f k ++ []) = flat_map-append f (count_from 0 k) (k ∷ []) in
    let part : f k ++ [] ≡ f k = append-nil (f k) in
    let upto : count_from 0 (k + 1) ≡ count_from 0 k ++ k ∷ [] = (let next : k + 1
    ≡ suc k = omega arith in ap (count_from 0) next) ∙ counted 0 k k (omega arith) in
    more ∙ ap (λ (l : List ℕ). l ++ f k) e ∙ append_assoc start (flat_map f (count_from 0 k)) (f k)
    ∙ ap (λ (l : List ℕ). start ++ l) (ap (λ (l : List ℕ). flat_map f (count_from 0 k) ++ l) (sym part)
    ∙ sym last ∙ ap (flat_map f) (sym upto))
