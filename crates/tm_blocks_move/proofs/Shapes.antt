-- The moves of lines are those of their dwords.
use Rattle.std.proofs.Common.{◌≡◌, ℕ, zero, suc, ◌+◌, ◌-◌, ◌*◌, List, [], ◌∷◌, ◌++◌, length, map, refl, sym, ap, ap₂}
use Rattle.std.proofs.Common.{◌∙◌, arith}
use Rattle.std.proofs.lemmas.List.{map-append}
use Rattle.tm_plan_map.specs.Map.{windows_base}
use Rattle.tm_base.specs.Lists.{count_from}
use Rattle.tm_plan_owned.specs.Lines.{line_dwords, lines_dwords}
use Rattle.tm_plan_owned.proofs.Reach.{length-line}
use Rattle.tm_blocks_move.specs.Laws.{Move, lines_moves}
use Rattle.tm_blocks_move.specs.Lines.{set_moves, collect_moves}

-- ---- setting

set-line : (from d n j : ℕ) → map (λ i. (from + d + 8 * i, windows_base + d + 8 * i)) (count_from j n)
    ≡ set_moves from (map (λ i. windows_base + d + 8 * i) (count_from j n))
set-line from d zero j = refl
set-line from d (suc n) j =
    let e : from + d + 8 * j ≡ from + (windows_base + d + 8 * j - windows_base) = omega arith in
    ap₂ (λ (x : ℕ) (l : List Move). (x, windows_base + d + 8 * j) ∷ l) e (set-line from d n (suc j))

pub set-lines : (from n a k d : ℕ) → lines_moves (from + d) (windows_base + d) n a a k
    ≡ set_moves from (lines_dwords (windows_base + d) n a k)
set-lines from n a zero d = refl
set-lines from n a (suc k) d =
    let e : from + d + a ≡ from + (d + a) = omega arith in
    let f : windows_base + d + a ≡ windows_base + (d + a) = omega arith in
    let later : lines_moves (from + d + a) (windows_base + d + a) n a a k
    ≡ set_moves from (lines_dwords (windows_base + d + a) n a k) =
    ap₂ (λ (p q : ℕ). lines_moves p q n a a k) e f ∙
    (set-lines from n a k (d + a) ∙ ap (λ (p : ℕ). set_moves from (lines_dwords p n a k)) (sym f)) in
    ap₂ (λ (x y : List Move). x ++ y) (set-line from d n 0) later
    ∙ sym (map-append (λ (x : ℕ). (from + (x - windows_base), x)) (line_dwords (windows_base + d) n)
    (lines_dwords (windows_base + d + a) n a k))

-- ---- collecting

pub collect-append : (xs ys : List ℕ) (q : ℕ) → collect_moves (xs ++ ys) q
    ≡ collect_moves xs q ++ collect_moves ys (q + 8 * length xs)
collect-append [] ys q = ap (collect_moves ys) (omega arith)
collect-append (x ∷ xs) ys q =
    let e : q + 8 + 8 * length xs ≡ q + 8 * suc (length xs) = omega arith in
    ap (λ (l : List Move). (x, q) ∷ l) (collect-append xs ys (q + 8) ∙ ap (λ (r : ℕ). collect_moves xs (q + 8)
    ++ collect_moves ys r) e)

collect-line : (p q n j r : ℕ) → r ≡ q + 8 * j → map (λ i. (p + 8 * i, q + 8 * i)) (count_from j n)
    ≡ collect_moves (map (λ i. p + 8 * i) (count_from j n)) r
collect-line p q zero j r e = refl
collect-line p q (suc n) j r e = ap₂ (λ (x : ℕ) (l : List Move). (p + 8 * j, x) ∷ l) (sym e)
    (collect-line p q n (suc j) (r + 8) (omega arith))

pub collect-lines : (n a b k p q : ℕ) → b ≡ 8 * n → lines_moves p q n a b k ≡ collect_moves (lines_dwords p n a k) q
collect-lines n a b zero p q e = refl
collect-lines n a b (suc k) p q e =
    let f : q + b ≡ q + 8 * length (line_dwords p n) = omega (arith, e, length-line (λ i. p + 8 * i) 0 n) in
    ap₂ (λ (x y : List Move). x ++ y) (collect-line p q n 0 q (omega arith))
    (collect-lines n a b k (p + a) (q + b) e ∙ ap (collect_moves (lines_dwords (p + a) n a k)) f)
    ∙ sym (collect-append (line_dwords p n) (lines_dwords (p + a) n a k) q)
