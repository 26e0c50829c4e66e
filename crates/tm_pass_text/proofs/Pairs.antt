-- Lists that are put together of rising parts: what holds of each element, and of each pair.
use Rattle.std.proofs.Common.{ℕ, zero, suc, ◌+◌, ◌<◌, ◌≤◌, List, [], ◌∷◌, ◌++◌, arith}
use Rattle.std.specs.Prelude.{AllPairs, All, flat_map}
use Rattle.tm_base.specs.Lists.{count_from}

-- P holds of each element
abbrev pub Each : {A : Type 0} → (A → Type 0) → List A → Type 0
Each P [] = Unit {0}
Each P (x ∷ xs) = P x × Each P xs

-- R holds of each element and each later one
abbrev pub Pairs : {A : Type 0} → (A → A → Type 0) → List A → Type 0
Pairs R [] = Unit {0}
Pairs R (x ∷ xs) = Each (R x) xs × Pairs R xs

pub each-all : {A : Type 0} (P : A → Type 0) (xs : List A) → Each P xs → All P xs
each-all P [] e k d l = absurd (omega arith)
each-all P (x ∷ xs) e zero d l = e.0
each-all P (x ∷ xs) e (suc k) d l = each-all P xs e.1 k d (omega arith)

pub pairs-all : {A : Type 0} (R : A → A → Type 0) (xs : List A) → Pairs R xs → AllPairs R xs
pairs-all R [] e i j d l m = absurd (omega arith)
pairs-all R (x ∷ xs) e zero zero d l m = absurd (omega arith)
pairs-all R (x ∷ xs) e zero (suc j) d l m = each-all (R x) xs e.0 j d (omega arith)
pairs-all R (x ∷ xs) e (suc i) zero d l m = absurd (omega arith)
pairs-all R (x ∷ xs) e (suc i) (suc j) d l m = pairs-all R xs e.1 i j d (omega arith) (omega arith)

pub each-map : {A : Type 0} {P Q : A → Type 0} → ((x : A) → P x → Q x) → (xs : List A) → Each P xs → Each Q xs
each-map f [] e = tt
each-map f (x ∷ xs) e = (f x e.0, each-map f xs e.1)

pub each-append : {A : Type 0} (P : A → Type 0) (xs ys : List A) → Each P xs → Each P ys → Each P (xs ++ ys)
each-append P [] ys a b = b
each-append P (x ∷ xs) ys a b = (a.0, each-append P xs ys a.1 b)

pairs-append : {A : Type 0} (R : A → A → Type 0) (xs ys : List A) → Each (λ x. Each (R x) ys) xs → Pairs R xs
    → Pairs R ys → Pairs R (xs ++ ys)
pairs-append R [] ys c a b = b
pairs-append R (x ∷ xs) ys c a b = (each-append (R x) xs ys a.0 c.0, pairs-append R xs ys c.1 a.1 b)

pub each-flat : {A : Type 0} (P : A → Type 0) (f : ℕ → List A) (n a : ℕ) → ((c : ℕ) → a ≤ c → c < a + n → Each P (f c))
    → Each P (flat_map f (count_from a n))
each-flat P f zero a e = tt
each-flat P f (suc n) a e = each-append P (f a) (flat_map f (count_from (suc a) n)) (e a (omega arith) (omega arith))
    (each-flat P f n (suc a) (λ c l m. e c (omega arith) (omega arith)))

-- Each part has its own kind of element, and elements of different parts are related by their kinds.
pub pairs-flat : {A : Type 0} (R : A → A → Type 0) (In : ℕ → A → Type 0) (f : ℕ → List A) (n a : ℕ)
    → ((c d : ℕ) (x y : A) → a ≤ c → c < d → d < a + n → In c x → In d y → R x y)
    → ((c : ℕ) → a ≤ c → c < a + n → Each (In c) (f c)) → ((c : ℕ) → a ≤ c → c < a + n → Pairs R (f c))
    → Pairs R (flat_map f (count_from a n))
pairs-flat R In f zero a cross e q = tt
pairs-flat {A = A} R In f (suc n) a cross e q =
    pairs-append R (f a) (flat_map f (count_from (suc a) n))
    (each-map {Q = λ x. Each (R x) (flat_map f (count_from (suc a) n))}
    (λ x i. each-flat (R x) f n (suc a) (λ c l m. each-map (λ y j. cross a c x y (omega arith) l (omega arith) i j)
    (f c) (e c (omega arith) (omega arith)))) (f a) (e a (omega arith) (omega arith)))
    (q a (omega arith) (omega arith))
    (pairs-flat R In f n (suc a) (λ c d x y l m k. cross c d x y (omega arith) m (omega arith))
    (λ c l m. e c (omega arith) (omega arith)) (λ c l m. q c (omega arith) (omega arith)))
