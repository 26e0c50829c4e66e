-- Where each verdict stands in the list of all.
use Rattle.std.proofs.Common.{◌≡◌, ℕ, zero, suc, ◌+◌, ◌*◌, ◌/◌, ◌%◌, ◌<◌, ◌≤◌, List, length, map, sym, ap, ap₂}
use Rattle.std.proofs.Common.{◌∙◌, arith}
use Rattle.std.specs.Prelude.{slice_index, flat_map}
use Rattle.std.proofs.lemmas.List.{get_or_append_left, get_or-append-add, length-append, length-map}
use Rattle.std.proofs.lemmas.Nat.{div-add-mod'}
use Rattle.std.proofs.lemmas.Grind.{same_number_lists}
use Rattle.std.proofs.Math.Nat.{mod-lt, div-lt_iff_lt-mul}
use Rattle.tm_plan_cases.specs.declared.event.Event.{Event}
use Rattle.tm_plan_cases.specs.declared.cases.Cases.{Cases}
use Rattle.tm_base.specs.Lists.{count_from}
use Rattle.tm_base.proofs.ListLemmas.{index-counted, length-count_from}
use Rattle.tm_report_run.specs.Verdicts.{verdict_in, verdicts_of}

-- ---- rows

-- so many rows of n numbers, from row a on
abbrev rows : (ℕ → ℕ → ℕ) → (n m a : ℕ) → List ℕ
rows f n m a = flat_map (λ c. map (f c) (count_from 0 n)) (count_from a m)

row-long : (f : ℕ → ℕ) (n : ℕ) → length (map f (count_from 0 n)) ≡ n
row-long f n = length-map (count_from 0 n) f ∙ length-count_from 0 n

rows-long : (f : ℕ → ℕ → ℕ) (n m a : ℕ) → length (rows f n m a) ≡ m * n
rows-long f n zero a = omega arith
rows-long f n (suc m) a =
    let all : n + m * n ≡ suc m * n = omega arith in
    length-append (map (f a) (count_from 0 n)) (rows f n m (suc a))
    ∙ (ap₂ (λ (x y : ℕ). x + y) (row-long (f a) n) (rows-long f n m (suc a)) ∙ all)

row-at : (f : ℕ → ℕ → ℕ) (n m a c h : ℕ) → c < m → h < n → slice_index (rows f n m a) (c * n + h) ≡ f (a + c) h
row-at f n zero a c h l k = absurd (omega arith)
row-at f n (suc m) a zero h l k =
    let place : 0 * n + h ≡ h = omega arith in
    let long = row-long (f a) n in
    ap (slice_index (rows f n (suc m) a)) place
    ∙ (get_or_append_left (map (f a) (count_from 0 n)) (rows f n m (suc a)) 0 h (omega arith)
    ∙ (index-counted (f a) n 0 h k ∙ ap₂ f (let e : a ≡ a + 0 = omega arith in e)
    (let e : 0 + h ≡ h = omega arith in e)))
row-at f n (suc m) a (suc c) h l k =
    let place : suc c * n + h ≡ n + (c * n + h) = omega arith in
    let row = map (f a) (count_from 0 n) in
    let long : n ≡ length row = sym (row-long (f a) n) in
    let behind : n + (c * n + h) ≡ length row + (c * n + h) = ap (λ (x : ℕ). x + (c * n + h)) long in
    let next : suc a + c ≡ a + suc c = omega arith in
    ap (slice_index (rows f n (suc m) a)) (place ∙ behind)
    ∙ (get_or-append-add row (rows f n m (suc a)) (c * n + h) 0
    ∙ (row-at f n m (suc a) c h (omega arith) k ∙ ap (λ (x : ℕ). f x h) next))

-- A list whose numbers are those of the rows is all of them.
all-rows : (f : ℕ → ℕ → ℕ) (n m : ℕ) (v : List ℕ) → 1 ≤ n → length v ≡ m * n
    → ((c h : ℕ) → c < m → h < n → slice_index v (c * n + h) ≡ f c h) → v ≡ rows f n m 0
all-rows f n m v some long each = same_number_lists v (rows f n m 0) (long ∙ sym (rows-long f n m 0)) same
  where
    same : (k : ℕ) → k < length v → slice_index v k ≡ slice_index (rows f n m 0) k
    same k l =
        let few : k < m * n = omega (arith, long) in
        let c : k / n < m = (div-lt_iff_lt-mul some).1 few in
        let h : k % n < n = mod-lt k some in
        let place : k / n * n + k % n ≡ k = div-add-mod' k n in
        let first : 0 + k / n ≡ k / n = omega arith in
        ap (slice_index v) (sym place)
        ∙ (each (k / n) (k % n) c h
        ∙ (sym (row-at f n m 0 (k / n) (k % n) c h ∙ ap (λ (x : ℕ). f x (k % n)) first)
        ∙ ap (slice_index (rows f n m 0)) place))

-- A list with the verdict of each case and hart in its place is the list of all verdicts.
pub all-verdicts : (cases : Cases) (events : List Event) (v : List ℕ) → 1 ≤ cases.harts
    → length v ≡ length cases.cases * cases.harts
    → ((c h : ℕ) → c < length cases.cases → h < cases.harts
    → slice_index v (c * cases.harts + h) ≡ verdict_in events c h) → v ≡ verdicts_of cases events
unfolding verdicts_of
all-verdicts cases events v some long each =
    all-rows (verdict_in events) cases.harts (length cases.cases) v some long each
