-- How far the lines of a hart reach, and how many dwords they have.
use Rattle.std.proofs.Common.{◌≡◌, ℕ, zero, suc, ◌+◌, ◌-◌, ◌*◌, ◌/◌, ◌%◌, ◌<◌, ◌≤◌, [], ◌++◌, length, map, refl, sym}
use Rattle.std.proofs.Common.{ap, ◌∙◌, arith, append-nil, length-append}
use Rattle.std.proofs.Math.Nat.{mul-le-mul_left, mod-add-div}
use Rattle.tm_plan_cases.specs.declared.cases.Cases.{Cases}
use Rattle.tm_plan_map.specs.Map.{windows_base}
use Rattle.tm_plan_cases.specs.Shaped.{AreShaped, IsShapedWindow}
use Rattle.tm_plan_cases.specs.Collected.{owned}
use Rattle.tm_base.specs.Lists.{count_from}
use Rattle.tm_plan_owned.specs.Lines.{lines_of, first_line, line_count, line_place, line_dwords, lines_dwords}
use Rattle.tm_plan_owned.specs.Lines.{own_dwords}
use Rattle.tm_plan_owned.proofs.Strides.{each-window}
use Rattle.tm_plan_owned.proofs.Windows.{IsLine, line-of, lines-few, lines_are_owned}

-- ---- sizes

pub harts_most : (cases : Cases) → AreShaped cases → cases.harts ≤ 16
harts_most cases s = omega (arith, s.harts)

pub line_most : (cases : Cases) → AreShaped cases → cases.line ≤ 128
line_most cases s = let size = line-of cases.line s.line in size.2.most

pub stride_most : (cases : Cases) → AreShaped cases → cases.line * cases.harts ≤ 2048
stride_most cases s = let e = mul-le-mul_left cases.line (harts_most cases s) in omega (arith, line_most cases s)

pub lines-most : (cases : Cases) (v : ℕ) → AreShaped cases → lines_of v cases.windows ≤ 64
lines-most cases v s =
    let size = line-of cases.line s.line in
    omega (
      arith,
      lines-few cases.line v size.1 cases.windows
          (each-window (IsShapedWindow cases.line) cases.windows s.windows) size.2.few,
      size.2.small,
    )

-- ---- how far lines reach

pub record Reach (cases : Cases) (h v : ℕ) : Type 0 where
  pub place : line_place cases h v ≤ 8192
  pub all : cases.line * cases.harts * line_count cases h v ≤ 4096
  pub line : cases.line * line_count cases h v ≤ 4096
  pub count : line_count cases h v < 2048

-- the bounds of one window, by numbers
bounds : (line n L N d x c v : ℕ) → IsLine line n L → (1 ≤ N) × (N ≤ 16) → d ≤ L → x < N → v < 3 → N * c ≤ d + N - 1 - x
    → (2048 * v + line * x ≤ 8192) × (line * N * c ≤ 4096) × (line * c ≤ 4096) × (c < 2048)
bounds line n L N d x c v size some few below low turn =
    let whole : line * L ≡ 2048 = ap (λ (l : ℕ). l * L) (sym size.eight) ∙ omega (arith, size.all) in
    let a = mul-le-mul_left line few in
    let b : line * N ≤ line * 16 = mul-le-mul_left line some.1 in
    let e : line * (N * c) ≤ line * (d + N - 1 - x) = mul-le-mul_left line turn in
    let y : d + N - 1 - x ≤ d + N = omega arith in
    let f : line * (d + N - 1 - x) ≤ line * (d + N) = mul-le-mul_left line y in
    let g : c * 1 ≤ c * N = mul-le-mul_left c some.0 in
    let i : c ≤ d + N - 1 - x = omega arith in
    let j : line * c ≤ line * (d + N - 1 - x) = mul-le-mul_left line i in
    let k : x ≤ 16 = omega arith in
    let m : line * x ≤ line * 16 = mul-le-mul_left line k in
    let most = size.most in
    let small = size.small in
    (omega arith, omega arith, omega arith, omega arith)

pub reach : (cases : Cases) (h v : ℕ) → AreShaped cases → v < 3 → Reach cases h v
unfolding first_line line_count line_place
reach cases h v s low =
    let size = line-of cases.line s.line in
    let N = cases.harts in
    let x = (h + N - 2048 * v / cases.line % N) % N in
    let d = lines_of v cases.windows in
    let c = (d + N - 1 - x) / N in
    let few : d ≤ size.1 = lines-few cases.line v size.1 cases.windows
    (each-window (IsShapedWindow cases.line) cases.windows s.windows) size.2.few in
    let turn : N * c ≤ d + N - 1 - x = omega (arith, mod-add-div (d + N - 1 - x) N) in
    let next : x < N = omega (arith, s.harts) in
    let all = bounds cases.line size.0 size.1 N d x c v size.2 (s.harts.0, harts_most cases s) few next low turn in
    record { place = all.0; all = all.1; line = all.2; count = all.3 }

-- ---- how many dwords

pub few-dwords : (cases : Cases) (h v : ℕ) → AreShaped cases → v < 3 → line_count cases h v * (cases.line / 8) ≤ 512
few-dwords cases h v s low =
    let size = line-of cases.line s.line in
    let far = reach cases h v s low in
    let c = line_count cases h v in
    let eight : cases.line ≡ 8 * (cases.line / 8) = omega (arith, size.2.eight, size.2.dwords) in
    let e : cases.line * c ≡ 8 * (cases.line / 8) * c = ap (λ (l : ℕ). l * c) eight in
    omega (arith, e, far.line)

pub length-line : (f : ℕ → ℕ) (j n : ℕ) → length (map f (count_from j n)) ≡ n
length-line f j zero = refl
length-line f j (suc n) = ap suc (length-line f (suc j) n)

pub length-lines : (p n a k : ℕ) → length (lines_dwords p n a k) ≡ k * n
length-lines p n a zero = omega arith
length-lines p n a (suc k) = length-append (line_dwords p n) (lines_dwords (p + a) n a k) ∙ omega (
  arith,
  length-line (λ i. p + 8 * i) 0 n,
  length-lines (p + a) n a k,
)

module _ (cases : Cases) (h : ℕ) (s : AreShaped cases) (mine : h < cases.harts) where
  abbrev n : ℕ
  n = cases.line / 8

  abbrev a : ℕ
  a = cases.line * cases.harts

  pub owned-length : length (owned cases h) ≡ line_count cases h 0 * n
      + (line_count cases h 1 * n + line_count cases h 2 * n)
  owned-length =
      let o = own_dwords cases h in
      let p : ℕ → ℕ = λ v. windows_base + line_place cases h v in
      ap length (lines_are_owned cases h s mine)
      ∙ omega (
        arith,
        length-append (o 0) (o 1 ++ (o 2 ++ [])),
        length-append (o 1) (o 2 ++ []),
        ap length (append-nil (o 2)),
        length-lines (p 0) n a (line_count cases h 0),
        length-lines (p 1) n a (line_count cases h 1),
        length-lines (p 2) n a (line_count cases h 2),
      )
