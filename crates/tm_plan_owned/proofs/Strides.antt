-- The declared dwords that a hart collects are those of its lines.
use Rattle.std.proofs.Common.{◌≡◌, ◌≢◌, ℕ, zero, suc, ◌+◌, ◌-◌, ◌*◌, ◌/◌, ◌<◌, ◌≤◌, List, [], ◌∷◌, ◌++◌, map, Bool}
use Rattle.std.proofs.Common.{true, false, ◌||◌, ◌==◌, ◌⊎◌, inl, inr, refl, sym, ap, ap₂, ◌∙◌, subst, arith, eqb-true}
use Rattle.std.specs.Prelude.{filter, cond, if◌then◌else◌, All, AllPairs}
use Rattle.std.proofs.lemmas.Bool.{cases_lt, eqb-false, or_right}
use Rattle.std.proofs.lemmas.List.Elements.{filter-append}
use Rattle.std.proofs.Math.Nat.{mul-le-mul_left, div-eq_of_lt, add-div_right}
use Rattle.tm_plan_map.specs.declared.windows.Window.{Window}
use Rattle.tm_plan_map.specs.Map.{windows_base, window_at}
use Rattle.tm_plan_cases.specs.Shaped.{IsShapedWindow}
use Rattle.tm_plan_cases.specs.Collected.{declares}
use Rattle.tm_base.specs.Lists.{count_from, any}
use Rattle.tm_plan_map.proofs.Within.{within-true, within-false}
use Rattle.tm_plan_owned.specs.Lines.{lines_of, line_dwords, lines_dwords}

-- ---- every N-th line

-- how many of d lines, when the x-th is the next
abbrev pub how_many : (N d x : ℕ) → ℕ
how_many N d x = (d + N - 1 - x) / N

pick-all : (test : ℕ → Bool) (p j n : ℕ) → ((i : ℕ) → i < j + n → test (p + 8 * i) ≡ true)
    → filter test (map (λ i. p + 8 * i) (count_from j n)) ≡ map (λ i. p + 8 * i) (count_from j n)
pick-all test p j zero h = refl
pick-all test p j (suc n) h =
    ap (λ (b : Bool). cond b ((p + 8 * j) ∷ filter test (map (λ i. p + 8 * i) (count_from (suc j) n)))
    (filter test (map (λ i. p + 8 * i) (count_from (suc j) n)))) (h j (omega arith))
    ∙ ap (λ (l : List ℕ). (p + 8 * j) ∷ l) (pick-all test p (suc j) n (λ i l. h i (omega arith)))

pick-none : (test : ℕ → Bool) (p j n : ℕ) → ((i : ℕ) → i < j + n → test (p + 8 * i) ≡ false)
    → filter test (map (λ i. p + 8 * i) (count_from j n)) ≡ []
pick-none test p j zero h = refl
pick-none test p j (suc n) h =
    ap (λ (b : Bool). cond b ((p + 8 * j) ∷ filter test (map (λ i. p + 8 * i) (count_from (suc j) n)))
    (filter test (map (λ i. p + 8 * i) (count_from (suc j) n)))) (h j (omega arith))
    ∙ pick-none test p (suc j) n (λ i l. h i (omega arith))

-- line m is hart h's
abbrev pub Mine : (N h m : ℕ) → Type 0
Mine N h m = (q : ℕ) × (m ≡ h + N * q)

-- of the lines from one that is the hart's, the next N - 1 are not
apart : (N h m x : ℕ) → Mine N h (m + suc x) → suc x < N → Mine N h m → ⊥
apart N h m x a l b = by (cases_lt b.0 a.0)
  where
    by : (b.0 < a.0) ⊎ (a.0 ≤ b.0) → ⊥
    by (inl k) = let e = mul-le-mul_left N k in omega (arith, e, a.1, b.1)
    by (inr k) = let e = mul-le-mul_left N k in omega (arith, e, a.1, b.1)

-- What is said of a test of dwords: of line j of those from line m on, d of which are declared.
pub record Tells (test : ℕ → Bool) (N h line n p m d L : ℕ) : Type 0 where
  pub own : (j i : ℕ) → j < L → i < n → j < d → Mine N h (m + j) → test (p + line * j + 8 * i) ≡ true
  pub other : (j i : ℕ) → j < L → i < n → (Mine N h (m + j) → ⊥) → test (p + line * j + 8 * i) ≡ false
  pub far : (j i : ℕ) → j < L → i < n → d ≤ j → test (p + line * j + 8 * i) ≡ false

module _ (test : ℕ → Bool) (M h line n : ℕ) where
  abbrev pub N : ℕ
  N = suc M

  tells-next : (p m d L e : ℕ) → e ≡ d - 1 → Tells test N h line n p m d (suc L)
      → Tells test N h line n (p + line) (suc m) e L
  tells-next p m d L e is t = record {
    own = λ j i l k b o. subst (λ (x : ℕ). test x ≡ true) (at j i) (t.own (suc j) i (omega arith) k (omega arith) (
      o.0,
      omega (arith, o.1),
    ));
    other = λ j i l k o. subst (λ (x : ℕ). test x ≡ false) (at j i)
        (t.other (suc j) i (omega arith) k (λ q. o (q.0, omega (arith, q.1))));
    far = λ j i l k b. subst (λ (x : ℕ). test x ≡ false) (at j i) (t.far (suc j) i (omega arith) k (omega arith));
  }
    where
      at : (j i : ℕ) → p + line * suc j + 8 * i ≡ p + line + line * j + 8 * i
      at j i = omega arith

  first-at : (b : Bool) (p i : ℕ) → test (p + line * 0 + 8 * i) ≡ b → test (p + 8 * i) ≡ b
  first-at b p i e = let same : p + line * 0 + 8 * i ≡ p + 8 * i = omega arith in subst (λ (x : ℕ). test x ≡ b) same e

  -- where no line is left
  none-left : (L p m : ℕ) → Tells test N h line n p m 0 L → filter test (lines_dwords p n line L) ≡ []
  none-left zero p m t = refl
  none-left (suc L) p m t =
      filter-append test (line_dwords p n) (lines_dwords (p + line) n line L)
      ∙ ap₂ (λ (x y : List ℕ). x ++ y) (pick-none test p 0 n
      (λ i l. first-at false p i (t.far 0 i (omega arith) (omega arith) (omega arith))))
      (none-left L (p + line) (suc m) (tells-next p m 0 L 0 (omega arith) t))

  -- a line that isn't the hart's, and one that is
  skip : (p L : ℕ) (rest : List ℕ) → ((i : ℕ) → i < n → test (p + line * 0 + 8 * i) ≡ false)
      → filter test (lines_dwords (p + line) n line L) ≡ rest → filter test (lines_dwords p n line (suc L)) ≡ rest
  skip p L rest f e =
      filter-append test (line_dwords p n) (lines_dwords (p + line) n line L)
      ∙ ap₂ (λ (x y : List ℕ). x ++ y) (pick-none test p 0 n (λ i l. first-at false p i (f i (omega arith)))) e

  take : (p L : ℕ) (rest : List ℕ) → ((i : ℕ) → i < n → test (p + line * 0 + 8 * i) ≡ true)
      → filter test (lines_dwords (p + line) n line L) ≡ rest → filter test (lines_dwords p n line (suc L))
      ≡ line_dwords p n ++ rest
  take p L rest f e =
      filter-append test (line_dwords p n) (lines_dwords (p + line) n line L)
      ∙ ap₂ (λ (x y : List ℕ). x ++ y) (pick-all test p 0 n (λ i l. first-at true p i (f i (omega arith)))) e

  no-more : (x : ℕ) → x < N → how_many N 0 x ≡ 0
  no-more x l = let small : 0 + N - 1 - x < N = omega arith in div-eq_of_lt small

  one-more : (d : ℕ) → how_many N (suc d) 0 ≡ suc (how_many N d M)
  one-more d =
      let a : suc d + N - 1 - 0 ≡ d + N = omega arith in
      let b : d + N - 1 - M ≡ d = omega arith in
      ap (λ (k : ℕ). k / N) a ∙ (add-div_right d (omega arith) ∙ (omega arith ∙ ap (λ (k : ℕ). suc (k / N)) (sym b)))

  same-more : (d x : ℕ) → suc x < N → how_many N (suc d) (suc x) ≡ how_many N d x
  same-more d x l = let a : suc d + N - 1 - suc x ≡ d + N - 1 - x = omega arith in ap (λ (k : ℕ). k / N) a

  abbrev pub Strided : (p m d x L : ℕ) → Type 0
  Strided p m d x L = filter test (lines_dwords p n line L) ≡ lines_dwords (p + line * x) n (line * N) (how_many N d x)

  pub strided : (L p m d x : ℕ) → d ≤ L → x < N → Mine N h (m + x) → Tells test N h line n p m d L → Strided p m d x L
  strided zero p m d x few below mine t =
      let none : how_many N 0 x ≡ how_many N d x = ap (λ (k : ℕ). how_many N k x) (let e : 0 ≡ d = omega arith in e) in
      ap (lines_dwords (p + line * x) n (line * N)) (sym (no-more x below) ∙ none)
  strided (suc L) p m zero x few below mine t = none-left (suc L) p m t ∙ ap (lines_dwords (p + line * x) n (line * N))
      (sym (no-more x below))
  strided (suc L) p m (suc d) zero few below mine t =
      let q = mine.0 in
      let first : Mine N h (m + 0) = mine in
      let next : Mine N h (suc m + M) = (suc q, omega (arith, mine.1)) in
      let later = strided L (p + line) (suc m) d M (omega arith) (omega arith) next
      (tells-next p m (suc d) L d (omega arith) t) in
      let at : p ≡ p + line * 0 = omega arith in
      let on : p + line + line * M ≡ p + line * 0 + line * N = omega arith in
      take p L _ (λ i l. t.own 0 i (omega arith) l (omega arith) first) later
      ∙ (ap₂ (λ (x y : ℕ). line_dwords x n ++ lines_dwords y n (line * N) (how_many N d M)) at on
      ∙ ap (lines_dwords (p + line * 0) n (line * N)) (sym (one-more d)))
  strided (suc L) p m (suc d) (suc x) few below mine t =
      let next : Mine N h (suc m + x) = (mine.0, omega (arith, mine.1)) in
      let later = strided L (p + line) (suc m) d x (omega arith) (omega arith) next
      (tells-next p m (suc d) L d (omega arith) t) in
      let on : p + line + line * x ≡ p + line * suc x = omega arith in
      skip p L _ (λ i l. t.other 0 i (omega arith) l (λ o. apart N h m x mine below (o.0, omega (arith, o.1)))) later
      ∙ ap₂ (λ (y k : ℕ). lines_dwords y n (line * N) k) on (sym (same-more d x below))

-- ---- windows

abbrev pub EachWindow : (Window → Type 0) → List Window → Type 0
EachWindow P [] = Unit {0}
EachWindow P (w ∷ ws) = P w × EachWindow P ws

-- no two have the same number
abbrev pub Differ : List Window → Type 0
Differ [] = Unit {0}
Differ (w ∷ ws) = EachWindow (λ u. w.number ≢ u.number) ws × Differ ws

pub each-window : (P : Window → Type 0) (ws : List Window) → All P ws → EachWindow P ws
each-window P [] h = tt
each-window P (w ∷ ws) h = (h 0 w (omega arith), each-window P ws (λ k d l. h (suc k) d (omega arith)))

pub differ : (ws : List Window) → AllPairs (λ v w. v.number ≢ w.number) ws → Differ ws
differ [] h = tt
differ (w ∷ ws) h = (
  each-window (λ u. w.number ≢ u.number) ws (λ k d l. h 0 (suc k) d (omega arith) (omega arith)),
  differ ws (λ i j d x y. h (suc i) (suc j) d (omega arith) (omega arith)),
)

-- Byte r of line j of window v, of which a byte's place is told.
module _ (line v j r a : ℕ) (low : v < 3) (small : r < line) (within_window : line * j + r < 2048) (at : a
    ≡ windows_base + (2048 * v + (line * j + r))) where
  in-line : (k : ℕ) → j < k → line * j + r < k * line
  in-line k l = let e = mul-le-mul_left line l in omega arith

  out-line : (k : ℕ) → k ≤ j → k * line ≤ line * j + r
  out-line k l = let e = mul-le-mul_left line l in omega arith

  declares-yes : (w : Window) → w.number ≡ v → j < w.lines → declares line a w ≡ true
  unfolding window_at
  declares-yes w is l = let e = in-line w.lines l in
      within-true (window_at w.number) (w.lines * line) a (omega arith) (omega arith)

  declares-no : (w : Window) → w.number ≡ v → w.lines ≤ j → declares line a w ≡ false
  unfolding window_at
  declares-no w is l = let e = out-line w.lines l in
      within-false (window_at w.number) (w.lines * line) a (inr (omega arith))

  declares-other : (w : Window) → IsShapedWindow line w → w.number ≢ v → declares line a w ≡ false
  unfolding window_at
  declares-other w s ne = within-false (window_at w.number) (w.lines * line) a (by (cases_lt w.number v))
    where
      by : (w.number < v) ⊎ (v ≤ w.number) → (a < window_at w.number) ⊎ (window_at w.number + w.lines * line ≤ a)
      by (inl l) = inr (omega (arith, s.few))
      by (inr l) = inl (omega arith)

  pub declared-yes : (ws : List Window) → EachWindow (IsShapedWindow line) ws → j < lines_of v ws
      → any (declares line a) ws ≡ true
  declared-yes [] s l = absurd (omega arith)
  declared-yes (w ∷ ws) s l = by (w.number == v) refl l (declared-yes ws s.1)
    where
      by : (b : Bool) → (w.number == v) ≡ b → j < (if b then w.lines else lines_of v ws)
          → (j < lines_of v ws → any (declares line a) ws ≡ true) → (declares line a w || any (declares line a) ws)
          ≡ true
      by true e k f = ap (λ (b : Bool). b || any (declares line a) ws) (declares-yes w (eqb-true w.number v e) k)
      by false e k f = or_right (declares line a w) _ (f k)

  none-declares : (ws : List Window) → EachWindow (IsShapedWindow line) ws → (u : ℕ) → u ≡ v
      → EachWindow (λ w. u ≢ w.number) ws → any (declares line a) ws ≡ false
  none-declares [] s u e d = refl
  none-declares (w ∷ ws) s u e d = ap₂ (λ (x y : Bool). x || y) (declares-other w s.0 (λ q. d.0 (e ∙ sym q)))
      (none-declares ws s.1 u e d.1)

  pub declared-no : (ws : List Window) → EachWindow (IsShapedWindow line) ws → Differ ws → lines_of v ws ≤ j
      → any (declares line a) ws ≡ false
  declared-no [] s d l = refl
  declared-no (w ∷ ws) s d l = by (w.number == v) refl l (declared-no ws s.1 d.1)
    where
      by : (b : Bool) → (w.number == v) ≡ b → (if b then w.lines else lines_of v ws) ≤ j
          → (lines_of v ws ≤ j → any (declares line a) ws ≡ false) → (declares line a w || any (declares line a) ws)
          ≡ false
      by true e k f = let same = eqb-true w.number v e in
          ap₂ (λ (x y : Bool). x || y) (declares-no w same k) (none-declares ws s.1 w.number same d.0)
      by false e k f = ap₂ (λ (x y : Bool). x || y) (declares-other w s.0 (eqb-false w.number v e)) (f k)
