-- What is kept of writes to verdict cells.
use Rattle.std.proofs.Common.{◌≡◌, ◌≢◌, ℕ, zero, suc, replicate, ◌+◌, ◌*◌, ◌<◌, ◌≤◌, List, [], ◌∷◌, ◌++◌, length}
use Rattle.std.proofs.Common.{take, get_or, Bool, true, false, ◌==◌, ◌&&◌, Option, None, Some, inl, inr, refl, sym}
use Rattle.std.proofs.Common.{ap, ap₂, ◌∙◌, arith, eqb-true, get_or-set_same, get_or-set_other, eq-eqb}
use Rattle.std.specs.Prelude.{slice_index, slice_set, unwrap_or, if◌then◌else◌}
use Rattle.std.proofs.lemmas.Bool.{cases_lt, true≢false}
use Rattle.std.proofs.lemmas.List.{take_more}
use Rattle.std.proofs.Math.Nat.{mul-le-mul_left}
use Rattle.tm_table.specs.declared.state.Access.{Access}
use Rattle.tm_table.specs.declared.state.Access.TheVariants.{Write}
use Rattle.tm_plan_map.specs.Map.{verdict_at}
use Rattle.tm_plan_cases.specs.declared.event.Event.{Event}
use Rattle.tm_world.specs.Lists.{or_else}
use Rattle.tm_world.proofs.Options.{unwrap_or-or_else, or_else-assoc}
use Rattle.tm_report_run.specs.Verdicts.{put_at, latest, verdict_from, verdict_in}

-- ---- options

or-none : {B : Type 0} → (o : Option B) → or_else None o ≡ or_else o None
or-none None = refl
or-none (Some x) = refl

-- ---- one write

-- numbers in rows of n
same-row : (n c h e g : ℕ) → h < n → g < n → c * n + h ≡ e * n + g → c ≤ e → e ≤ c
same-row n c h e g l m is low = elim (cases_lt c e) [
  | inl less ↦ let more = mul-le-mul_left {m = c + 1} {n = e} n (omega arith) in absurd (omega (arith, more))
  | inr z ↦ z
]

same-place : (n c h e g : ℕ) → h < n → g < n → c * n + h ≡ e * n + g → (c ≡ e) × (h ≡ g)
same-place n c h e g l m is =
    let both : c ≡ e = elim (cases_lt e c) [
      | inl less ↦ let z = same-row n e g c h m l (sym is) (omega arith) in omega arith
      | inr z ↦ let w = same-row n c h e g l m is z in omega arith
    ] in
    let rows : c * n ≡ e * n = ap (λ (k : ℕ). k * n) both in
    (both, omega arith)

in-table : (count n e g : ℕ) → e < count → g < n → e * n + g < count * n
in-table count n e g l m = let most = mul-le-mul_left {m = e + 1} {n = count} n (omega arith) in omega (arith, most)

-- what the table has after a write of a value at the cell of case e and hart g
kept-here : (count n : ℕ) (table : List ℕ) (addr cell value : ℕ) → length table ≡ count * n → n ≤ 16 → (e g : ℕ)
    → e < count → g < n → verdict_at e g ≡ addr → cell ≡ e * n + g
    → (c h : ℕ) → c < count → h < n
    → slice_index (slice_set table cell value) (c * n + h)
    ≡ unwrap_or (put_at (verdict_at c h) (Write addr 8 value)) (slice_index table (c * n + h))
unfolding verdict_at
kept-here count n table addr cell value long few e g el gl at is c h cl hl =
    by (addr == 0x80C01000 + 8 * (16 * c + h)) refl
  where
    by : (b : Bool) → (addr == 0x80C01000 + 8 * (16 * c + h)) ≡ b
        → slice_index (slice_set table cell value) (c * n + h)
        ≡ unwrap_or (if b && (8 == 8) then Some value else None) (slice_index table (c * n + h))
    by true q =
        let here : addr ≡ 0x80C01000 + 8 * (16 * c + h) = eqb-true addr (0x80C01000 + 8 * (16 * c + h)) q in
        let case : c ≡ e = omega arith in
        let hart : h ≡ g = omega arith in
        let place : c * n + h ≡ cell = ap₂ (λ (k j : ℕ). k * n + j) case hart ∙ sym is in
        let inside = in-table count n e g el gl in
        rw place (get_or-set_same table cell value 0 (omega arith))
    by false q =
        let other : c * n + h ≢ cell = λ z.
        let same = same-place n c h e g hl gl (z ∙ is) in
        true≢false (sym (eq-eqb addr (0x80C01000 + 8 * (16 * c + h)) (omega (arith, same))) ∙ q) in
        get_or-set_other table cell (c * n + h) value 0 other

-- the same of an access that is such a write
pub kept : (count n : ℕ) (table : List ℕ) (access : Access) (addr width cell value : ℕ)
    → access ≡ Write addr width value
    → width ≡ 8 → length table ≡ count * n → n ≤ 16 → (e g : ℕ) → e < count → g < n → verdict_at e g ≡ addr
    → cell ≡ e * n + g → (c h : ℕ) → c < count → h < n
    → slice_index (slice_set table cell value) (c * n + h)
    ≡ unwrap_or (put_at (verdict_at c h) access) (slice_index table (c * n + h))
kept count n table access addr width cell value is wide long few e g el gl at place c h cl hl =
    let same : Write addr 8 value ≡ access = sym (is ∙ ap (λ (w : ℕ). Write addr w value) wide) in
    kept-here count n table addr cell value long few e g el gl at place c h cl hl
    ∙ ap (λ (a : Access). unwrap_or (put_at (verdict_at c h) a) (slice_index table (c * n + h))) same

-- ---- one event more

latest-more : {A B : Type 0} → (f : A → Option B) (xs : List A) (x : A)
    → latest f (xs ++ x ∷ []) ≡ or_else (f x) (latest f xs)
latest-more f [] x = or-none (f x)
latest-more f (y ∷ ys) x = ap (λ z. or_else z (f y)) (latest-more f ys x) ∙ or_else-assoc (f x) (latest f ys) (f y)

-- what is kept after one event more
pub more-kept : (other : ℕ) (events : List Event) (place : ℕ) (e : Event) (c h : ℕ) → place < length events
    → verdict_from other (take (place + 1) events) c h
    ≡ unwrap_or (put_at (verdict_at c h) (get_or events place e).access) (verdict_from other (take place events) c h)
more-kept other events place e c h l =
    let before = take place events in
    let x = get_or events place e in
    let f = λ (x : Event). put_at (verdict_at c h) x.access in
    ap (λ (xs : List Event). verdict_from other xs c h) (take_more events place e l)
    ∙ (ap (λ (o : Option ℕ). unwrap_or o other) (latest-more f before x)
    ∙ unwrap_or-or_else (f x) (latest f before) other)

-- ---- before all writes

zero-at : (n k : ℕ) → slice_index (replicate n 0) k ≡ 0
zero-at zero k = refl
zero-at (suc n) zero = refl
zero-at (suc n) (suc k) = zero-at n k

-- what is kept in a table that had zeros alone is the verdict
pub from-zeros : (n k : ℕ) (table : List ℕ) (events : List Event) (c h : ℕ) → table ≡ replicate n 0
    → verdict_from (slice_index table k) events c h ≡ verdict_in events c h
unfolding verdict_in
from-zeros n k table events c h is =
    ap (λ (v : ℕ). verdict_from v events c h) (ap (λ (t : List ℕ). slice_index t k) is ∙ zero-at n k)
