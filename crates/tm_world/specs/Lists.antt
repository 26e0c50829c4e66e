-- Words on lists that the definitions of runs use. They are recursions of their own, so that they compute one step
-- after another.
use Rattle.std.specs.Prelude.{◌≡◌, ℕ, suc, Bool, List, [], ◌∷◌, ◌++◌, Option, Some, None, if◌then◌else◌}

-- how many elements pass the test
abbrev pub count : {A : Type 0} → (A → Bool) → List A → ℕ
count test [] = 0
count test (x ∷ xs) = if test x then suc (count test xs) else count test xs

-- the elements that pass the test, in order
abbrev pub those : {A : Type 0} → (A → Bool) → List A → List A
those test [] = []
those test (x ∷ xs) = if test x then x ∷ those test xs else those test xs

-- the elements before the first that passes the test
abbrev pub front_to : {A : Type 0} → (A → Bool) → List A → List A
front_to test [] = []
front_to test (x ∷ xs) = if test x then [] else x ∷ front_to test xs

-- the first element that passes the test
abbrev pub first_of : {A : Type 0} → (A → Bool) → List A → Option A
first_of test [] = None
first_of test (x ∷ xs) = if test x then Some x else first_of test xs

-- the first value where there is one, else the second
abbrev pub or_else : {A : Type 0} → Option A → Option A → Option A
or_else (Some x) other = Some x
or_else None other = other

-- xs is what ys begins with
abbrev pub IsFront : {A : Type 0} → List A → List A → Type 0
IsFront {A} xs ys = (rest : List A) × (ys ≡ xs ++ rest)
