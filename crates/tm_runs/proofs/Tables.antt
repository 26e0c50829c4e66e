-- Laws of registers, memory and places.
use Rattle.std.proofs.Common.{◌≡◌, ◌≢◌, ℕ, zero, suc, ◌+◌, ◌*◌, ◌^◌, ◌<◌, List, [], ◌∷◌, ◌++◌, length, Option, Bool}
use Rattle.std.proofs.Common.{true, false, refl, sym, ap, ◌∙◌, subst, arith, eq-eqb, ne_eqb}
use Rattle.std.specs.Prelude.{nat_eq, if◌then◌else◌}
use mathlib.Core.Path.{fun_ext}
use Rattle.tm_table.specs.declared.instr.Instr.{Instr}
use Rattle.tm_runs.specs.Machine.{Table, put, get}
use Rattle.tm_runs.specs.Runs.{At}

pub put_same : (f : Table) (r v : ℕ) → put f r v r ≡ v
put_same f r v = ap (λ b. if b then v else f r) (eq-eqb r r refl)

pub put_other : (f : Table) (r v x : ℕ) → x ≢ r → put f r v x ≡ f x
put_other f r v x h = ap (λ b. if b then v else f x) (ne_eqb x r h)

pub get_put : (f : Table) (r v : ℕ) → 0 < r → get (put f r v) r ≡ v
get_put f zero v h = absurd (omega arith)
get_put f (suc r) v h = put_same f (suc r) v

pub get_put_other : (f : Table) (r v x : ℕ) → x ≢ r → get (put f r v) x ≡ get f x
get_put_other f r v zero h = refl
get_put_other f r v (suc x) h = put_other f r v (suc x) h

-- what was put into x0 is lost
pub get_put_zero : (f : Table) (v x : ℕ) → get (put f 0 v) x ≡ get f x
get_put_zero f v zero = refl
get_put_zero f v (suc x) = put_other f 0 v (suc x) (λ e. omega arith)

-- every register has 64 bits after a value of 64 bits was put into one
pub get_put_fits : (f : Table) (r v : ℕ) → ((x : ℕ) → get f x < 2 ^ 64) → v < 2 ^ 64 → (x : ℕ)
    → get (put f r v) x < 2 ^ 64
get_put_fits f r v h small zero = h 0
get_put_fits f r v h small (suc x) = by (nat_eq (suc x) r) (h (suc x))
  where
    by : (b : Bool) → f (suc x) < 2 ^ 64 → (if b then v else f (suc x)) < 2 ^ 64
    by true q = small
    by false q = q

pick : (b : Bool) (x y z : ℕ) → (if b then x else (if b then y else z)) ≡ (if b then x else z)
pick true x y z = refl
pick false x y z = refl

pub put_put : (f : Table) (r u v : ℕ) → put (put f r u) r v ≡ put f r v
put_put f r u v = fun_ext (λ x. pick (nat_eq x r) v u (f x))

pub at_front : (t : ℕ → Option Instr) (a : ℕ) (xs ys : List Instr) → At t a (xs ++ ys) → At t a xs
at_front t a [] ys h = tt
at_front t a (x ∷ xs) ys h = (h.0, at_front t (a + 4) xs ys h.1)

pub at_back : (t : ℕ → Option Instr) (a : ℕ) (xs ys : List Instr) → At t a (xs ++ ys) → At t (a + 4 * length xs) ys
at_back t a [] ys h = let e : a ≡ a + 4 * 0 = omega arith in subst (λ (b : ℕ). At t b ys) e h
at_back t a (x ∷ xs) ys h =
    let e : a + 4 + 4 * length xs ≡ a + 4 * suc (length xs) = omega arith in
    subst (λ (b : ℕ). At t b ys) e (at_back t (a + 4) xs ys h.1)

-- the words after a block, where the run is after it
pub at_next : (t : ℕ → Option Instr) (a b : ℕ) (xs ys : List Instr) (n : ℕ) → length xs ≡ n → b ≡ a + 4 * n
    → At t a (xs ++ ys) → At t b ys
at_next t a b xs ys n len e h = subst (λ (x : ℕ). At t x ys) (ap (λ (k : ℕ). a + 4 * k) len ∙ sym e)
    (at_back t a xs ys h)
