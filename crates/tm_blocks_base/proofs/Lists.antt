-- Accesses of lists of entries.
use Rattle.std.proofs.Common.{◌≡◌, List, [], ◌∷◌, ◌++◌, refl, ap}
use Rattle.tm_table.specs.declared.state.Access.{Access}
use Rattle.tm_table.specs.declared.state.Access.TheVariants.{Quiet, Read, Write}
use Rattle.tm_runs.specs.Machine.{Entry}
use Rattle.tm_blocks_base.specs.Laws.{with_access, accesses}

-- accesses of one list and then of another
pub accesses-append : (xs ys : List Entry) → accesses (xs ++ ys) ≡ accesses xs ++ accesses ys
accesses-append [] ys = refl
accesses-append (x ∷ xs) ys = by x.access (accesses-append xs ys)
  where
    by : (a : Access) → accesses (xs ++ ys) ≡ accesses xs ++ accesses ys → with_access a (accesses (xs ++ ys))
        ≡ with_access a (accesses xs) ++ accesses ys
    by Quiet e = e
    by (Read a n v) e = ap (λ (l : List Access). Read a n v ∷ l) e
    by (Write a n v) e = ap (λ (l : List Access). Write a n v ∷ l) e
