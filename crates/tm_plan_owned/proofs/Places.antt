-- Where the dwords stand that a hart collects.
use Rattle.std.proofs.Common.{◌≡◌, ℕ, zero, suc, ◌+◌, ◌-◌, ◌*◌, ◌/◌, ◌%◌, ◌<◌, ◌≤◌, List, [], ◌∷◌, ◌++◌, ◌⊎◌, inl}
use Rattle.std.proofs.Common.{inr, length, map, refl, sym, ap, ◌∙◌, arith, append-nil, length-append, Option, Some}
use Rattle.std.proofs.Common.{None}
use Rattle.std.specs.Prelude.{slice_index, slice_get, All}
use Rattle.std.proofs.lemmas.Bool.{cases_lt}
use Rattle.std.proofs.Math.Nat.{add-div_right, add-mod_right, div-eq_of_lt, mod-eq_of_lt}
use Rattle.tm_plan_cases.specs.declared.cases.Cases.{Cases}
use Rattle.tm_plan_cases.specs.declared.cases.Case.{Case}
use Rattle.tm_plan_cases.specs.declared.cases.Stream.{Stream}
use Rattle.tm_plan_map.specs.Map.{windows_base}
use Rattle.tm_plan_cases.specs.Shaped.{AreShaped, IsShapedCase}
use Rattle.tm_plan_cases.specs.Collected.{owned, slots_of}
use Rattle.tm_base.specs.Lists.{count_from}
use Rattle.tm_plan_owned.specs.Lines.{line_count, line_place, line_dwords, lines_dwords, own_dwords, FewSlots}
use Rattle.tm_plan_owned.proofs.Windows.{line-of, lines_are_owned}
use Rattle.tm_plan_owned.proofs.Reach.{length-line, length-lines, few-dwords}

left-at : (xs ys : List ℕ) (j : ℕ) → j < length xs → slice_index (xs ++ ys) j ≡ slice_index xs j
left-at [] ys j l = absurd (omega arith)
left-at (x ∷ xs) ys zero l = refl
left-at (x ∷ xs) ys (suc j) l = left-at xs ys j (omega arith)

right-at : (xs ys : List ℕ) (i j : ℕ) → j ≡ length xs + i → slice_index (xs ++ ys) j ≡ slice_index ys i
right-at [] ys i j e = ap (slice_index ys) (e ∙ omega arith)
right-at (x ∷ xs) ys i zero e = absurd (omega arith)
right-at (x ∷ xs) ys i (suc j) e = right-at xs ys i j (omega arith)

line-at : (p c n j : ℕ) → j < n → slice_index (map (λ i. p + 8 * i) (count_from c n)) j ≡ p + 8 * (c + j)
line-at p c zero j l = absurd (omega arith)
line-at p c (suc n) zero l = omega arith
line-at p c (suc n) (suc j) l = line-at p (suc c) n j (omega arith) ∙ omega arith

-- dword j of k lines of n dwords
pub lines-at : (n a k p j : ℕ) → 1 ≤ n → j < k * n → slice_index (lines_dwords p n a k) j
    ≡ p + a * (j / n) + 8 * (j % n)
lines-at n a zero p j some l = absurd (omega arith)
lines-at n a (suc k) p j some l = by (cases_lt j n) (λ i few. lines-at n a k (p + a) i some few)
  where
    len : length (line_dwords p n) ≡ n
    len = length-line (λ i. p + 8 * i) 0 n

    by : (j < n) ⊎ (n ≤ j) → ((i : ℕ) → i < k * n → slice_index (lines_dwords (p + a) n a k) i
        ≡ p + a + a * (i / n) + 8 * (i % n)) → slice_index (lines_dwords p n a (suc k)) j
        ≡ p + a * (j / n) + 8 * (j % n)
    by (inl b) rest =
        let none : a * (j / n) ≡ a * 0 = ap (λ (x : ℕ). a * x) (div-eq_of_lt b) in
        left-at (line_dwords p n) (lines_dwords (p + a) n a k) j (omega (arith, len))
        ∙ line-at p 0 n j b
        ∙ omega (arith, none, mod-eq_of_lt b)
    by (inr b) rest =
        let i = j - n in
        let is : j ≡ i + n = omega arith in
        let few : i < k * n = omega (arith, l) in
        let quotient : j / n ≡ i / n + 1 = ap (λ (x : ℕ). x / n) is ∙ add-div_right i some in
        let left : j % n ≡ i % n = ap (λ (x : ℕ). x % n) is ∙ add-mod_right i n in
        let on : a * (j / n) ≡ a * (i / n) + a = ap (λ (x : ℕ). a * x) quotient ∙ omega arith in
        right-at (line_dwords p n) (lines_dwords (p + a) n a k) i j (omega (arith, len))
        ∙ rest i few
        ∙ omega (arith, on, left)

-- the same of a hart's lines, by numbers
pub addr-at : (cases : Cases) (h v j p a n : ℕ) → AreShaped cases → j < length (own_dwords cases h v)
    → p ≡ windows_base + line_place cases h v → a ≡ cases.line * cases.harts → n ≡ cases.line / 8
    → p + a * (j / n) + 8 * (j % n) ≡ slice_index (own_dwords cases h v) j
addr-at cases h v j p a n s l pe ae ne =
    let size = line-of cases.line s.line in
    let some : 1 ≤ cases.line / 8 = omega (arith, size.2.some, size.2.dwords) in
    let few : j < line_count cases h v * (cases.line / 8) =
    omega (
      arith,
      length-lines (windows_base + line_place cases h v) (cases.line / 8) (cases.line * cases.harts)
          (line_count cases h v),
      l,
    ) in
    rw (pe, ae, ne) (sym (lines-at (cases.line / 8) (cases.line * cases.harts) (line_count cases h v)
    (windows_base + line_place cases h v) j some few))

pub own-few : (cases : Cases) (h v : ℕ) → AreShaped cases → v < 3 → length (own_dwords cases h v) ≤ 512
own-few cases h v s low =
    omega (
      arith,
      few-dwords cases h v s low,
      length-lines (windows_base + line_place cases h v) (cases.line / 8)
          (cases.line * cases.harts) (line_count cases h v),
    )

-- ---- all windows

module _ (cases : Cases) (h : ℕ) (s : AreShaped cases) (mine : h < cases.harts) where
  abbrev o : ℕ → List ℕ
  o = own_dwords cases h

  all : owned cases h ≡ o 0 ++ (o 1 ++ (o 2 ++ []))
  all = lines_are_owned cases h s mine

  pub owned-parts : length (owned cases h) ≡ length (o 0) + (length (o 1) + length (o 2))
  owned-parts = ap length all ∙ omega (
    arith,
    length-append (o 0) (o 1 ++ (o 2 ++ [])),
    length-append (o 1) (o 2 ++ []),
    ap length (append-nil (o 2)),
  )

  pub first-at : (j : ℕ) → j < length (o 0) → slice_index (o 0) j ≡ slice_index (owned cases h) j
  first-at j l = sym (ap (λ (d : List ℕ). slice_index d j) all ∙ left-at (o 0) (o 1 ++ (o 2 ++ [])) j l)

  pub next-at : (i j : ℕ) → j ≡ length (o 0) + i → i < length (o 1)
      → slice_index (o 1) i ≡ slice_index (owned cases h) j
  next-at i j e l =
      sym (ap (λ (d : List ℕ). slice_index d j) all ∙
      (right-at (o 0) (o 1 ++ (o 2 ++ [])) i j e ∙ left-at (o 1) (o 2 ++ []) i l))

  pub last-at : (i j : ℕ) → j ≡ length (o 0) + (length (o 1) + i) → i < length (o 2)
      → slice_index (o 2) i ≡ slice_index (owned cases h) j
  last-at i j e l =
      sym (ap (λ (d : List ℕ). slice_index d j) all
      ∙ (right-at (o 0) (o 1 ++ (o 2 ++ [])) (length (o 1) + i) j e ∙
      (right-at (o 1) (o 2 ++ []) i (length (o 1) + i) refl ∙ left-at (o 2) [] i l)))

-- ---- slots

slots-few : (all : Cases) (case : Case) (h : ℕ) → IsShapedCase all case → slots_of (slice_get case.streams h) ≤ 256
slots-few all case h s = by (slice_get case.streams h) refl
  where
    by : (o : Option Stream) → slice_get case.streams h ≡ o → slots_of o ≤ 256
    by None e = omega arith
    by (Some x) e = let it = s.each h x e in it.few

few-in : (all : Cases) (h : ℕ) (list : List Case) → All (IsShapedCase all) list → FewSlots h list
few-in all h [] s = tt
few-in all h (case ∷ more) s = (
  slots-few all case h (s 0 case (omega arith)),
  few-in all h more (λ k d l. s (suc k) d (omega arith)),
)

pub few-slots : (cases : Cases) (h : ℕ) → AreShaped cases → FewSlots h cases.cases
few-slots cases h s = few-in cases h cases.cases s.each
