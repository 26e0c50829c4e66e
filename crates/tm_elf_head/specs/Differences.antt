-- Where two lists of bytes differ.
use Rattle.std.specs.Prelude.{ℕ, List, [], ◌∷◌, ◌+◌, ◌==◌, Bool, Option, Some, None, is_some, if◌then◌else◌}

-- The first place at which two lists differ, or the shorter length where one begins with the other, counted from this
-- number on; none where they are the same (this project).
unfoldable pub difference_from : ℕ → List ℕ → List ℕ → Option ℕ
difference_from at [] [] = None
difference_from at [] (y ∷ ys) = Some at
difference_from at (x ∷ xs) [] = Some at
difference_from at (x ∷ xs) (y ∷ ys) = if x == y then difference_from (at + 1) xs ys else Some at

-- the same, counted from the lists' begin (this project)
abbrev pub first_difference : List ℕ → List ℕ → Option ℕ
first_difference xs ys = difference_from 0 xs ys

-- whether two lists differ (this project)
abbrev pub differ : List ℕ → List ℕ → Bool
differ xs ys = is_some (first_difference xs ys)
