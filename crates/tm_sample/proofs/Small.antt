-- What a sample asks for has a budget below the events of its simulation.
use Rattle.std.proofs.Common.{ℕ, zero, suc, ◌+◌, ◌-◌, ◌*◌, ◌/◌, ◌%◌, ◌<◌, ◌≤◌, List, [], ◌∷◌, ◌++◌, length}
use Rattle.std.proofs.Common.{inl, inr, ap, arith, length-append, mul-le-mul}
use Rattle.std.proofs.Math.Nat.{mul-le-mul_left, mod-add-div}
use Rattle.std.proofs.lemmas.Bool.{cases_lt}
use Rattle.tm_base.specs.Lists.{count_from}
use Rattle.tm_plan_map.specs.Map.{windows_base}
use Rattle.tm_plan_cases.specs.declared.cases.Cases.{Cases}
use Rattle.tm_plan_cases.specs.declared.cases.Case.{Case}
use Rattle.tm_plan_cases.specs.Collected.{owned, pass_work, work_in, work_of, sum_of, budget_of}
use Rattle.tm_plan_cases.specs.Shaped.{AreShaped}
use Rattle.tm_plan_owned.specs.Lines.{lines_of, first_line, line_count, line_place, own_dwords, FewSlots}
use Rattle.tm_plan_owned.proofs.Windows.{lines_are_owned}
use Rattle.tm_plan_owned.proofs.Reach.{length-lines, line_most}
use Rattle.tm_plan_owned.proofs.Places.{few-slots}
use Rattle.tm_sample.specs.Small.{AreSmall, SmallBudget}

-- ---- the dwords that a hart collects

count-le : (N d c : ℕ) → 1 ≤ N → N * c ≤ d + N - 1 → c ≤ d
count-le N d c some few = elim (cases_lt d c) [
  | inr le ↦ le
  | inl less ↦
      let a : N * (d + 1) ≤ N * c = mul-le-mul_left N (omega arith) in
      let b : 1 * d ≤ N * d = mul-le-mul some (omega arith) in
      absurd (omega arith)
]

line-le : (cases : Cases) (h v : ℕ) → AreShaped cases → line_count cases h v ≤ lines_of v cases.windows
unfolding first_line line_count
line-le cases h v s =
    let N = cases.harts in
    let x = (h + N - 2048 * v / cases.line % N) % N in
    let d = lines_of v cases.windows in
    let c = (d + N - 1 - x) / N in
    let turn : N * c ≤ d + N - 1 = omega (arith, mod-add-div (d + N - 1 - x) N) in
    count-le N d c s.harts.0 turn

own-le : (cases : Cases) (h v : ℕ) → AreShaped cases → length (own_dwords cases h v) ≤ lines_of v cases.windows * 16
own-le cases h v s =
    let most = line_most cases s in
    let eight : cases.line / 8 ≤ 16 = omega arith in
    let a : line_count cases h v * (cases.line / 8) ≤ lines_of v cases.windows * 16 =
    mul-le-mul (line-le cases h v s) eight in
    let e = length-lines (windows_base + line_place cases h v) (cases.line / 8) (cases.line * cases.harts)
    (line_count cases h v) in
    omega arith

owned-le : (cases : Cases) (h : ℕ) → AreShaped cases → h < cases.harts
    → length (owned cases h)
    ≤ 16 * (lines_of 0 cases.windows + lines_of 1 cases.windows + lines_of 2 cases.windows)
owned-le cases h s l =
    let own = own_dwords cases h in
    let e = ap length (lines_are_owned cases h s l) in
    let a = length-append (own 0) (own 1 ++ (own 2 ++ [])) in
    let b = length-append (own 1) (own 2 ++ []) in
    let c = length-append (own 2) [] in
    omega (arith, own-le cases h 0 s, own-le cases h 1 s, own-le cases h 2 s)

-- ---- the work

work-in : (cases : Cases) (h : ℕ) (list : List Case) → AreShaped cases → AreSmall cases → h < cases.harts
    → FewSlots h list
    → work_in cases h list ≤ length list * 31040
work-in cases h [] shaped small l few = omega arith
work-in cases h (case ∷ more) shaped small l few =
    let rest = work-in cases h more shaped small l few.1 in
    let own = owned-le cases h shaped l in
    let lines = small.lines in
    let dwords : length (owned cases h) ≤ 192 = omega arith in
    let a : pass_work cases h case ≤ 7744 = omega (arith, few.0, small.harts) in
    let b : cases.passes * pass_work cases h case ≤ 4 * 7744 = mul-le-mul small.passes a in
    omega arith

work-le : (cases : Cases) (h : ℕ) → AreShaped cases → AreSmall cases → h < cases.harts → work_of cases h ≤ 248384
unfolding work_of
work-le cases h shaped small l =
    let a = work-in cases h cases.cases shaped small l (few-slots cases h shaped) in
    let b = ap (λ (n : ℕ). n * 31040) small.count in
    omega arith

sum-most : (f : ℕ → ℕ) (c a n : ℕ) → ((q : ℕ) → a ≤ q → q < a + n → f q ≤ c) → sum_of f (count_from a n) ≤ n * c
sum-most f c a zero h = omega arith
sum-most f c a (suc n) h =
    let x = h a (omega arith) (omega arith) in
    let y = sum-most f c (suc a) n (λ q l m. h q (omega arith) (omega arith)) in
    omega arith

pub small-budget : (cases : Cases) → SmallBudget cases
unfolding budget_of
small-budget cases shaped small =
    let a : sum_of (work_of cases) (count_from 0 cases.harts) ≤ cases.harts * 248384 =
    sum-most (work_of cases) 248384 0 cases.harts (λ q _ l. work-le cases q shaped small (omega arith)) in
    let eight : length cases.cases ≤ 8 = omega (arith, small.count) in
    let b : length cases.cases * cases.passes ≤ 8 * 4 = mul-le-mul eight small.passes in
    let c : sum_of (work_of cases) (count_from 0 cases.harts) + 16 * (length cases.cases * cases.passes) ≤ 994048 =
    omega (arith, small.harts) in
    let d : cases.harts * (sum_of (work_of cases) (count_from 0 cases.harts) + 16 * (length cases.cases * cases.passes))
    ≤ 4 * 994048 = mul-le-mul small.harts c in
    omega arith
