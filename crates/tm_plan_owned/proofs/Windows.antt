-- All declared dwords of a hart, window by window.
use Rattle.std.proofs.Common.{◌≡◌, ◌≢◌, ℕ, zero, suc, ◌+◌, ◌-◌, ◌*◌, ◌/◌, ◌%◌, ◌<◌, ◌≤◌, List, [], ◌∷◌, ◌++◌, map}
use Rattle.std.proofs.Common.{flat_map, Bool, true, false, ◌&&◌, ◌==◌, ◌⊎◌, inl, inr, refl, sym, ap, ap₂, ◌∙◌, subst}
use Rattle.std.proofs.Common.{arith, append-nil, eq-eqb, ne_eqb}
use Rattle.std.specs.Prelude.{filter, if◌then◌else◌}
use Rattle.std.proofs.lemmas.List.{map-append}
use Rattle.std.proofs.lemmas.List.Elements.{filter-append}
use Rattle.std.proofs.Math.Nat.{add-mul-mod_self_left, mod-eq_of_lt, mod-add-div}
use Rattle.tm_plan_cases.specs.declared.cases.Cases.{Cases}
use Rattle.tm_plan_map.specs.declared.windows.Window.{Window}
use Rattle.tm_plan_map.specs.Map.{windows_base}
use Rattle.tm_plan_cases.specs.Shaped.{IsShapedWindow}
use Rattle.tm_plan_cases.specs.Collected.{is_declared, collector, window_dwords, owned}
use Rattle.tm_base.specs.Lists.{count_from}
use Rattle.tm_plan_owned.specs.Lines.{lines_of, first_line, line_count, line_place, line_dwords, lines_dwords}
use Rattle.tm_plan_owned.specs.Lines.{own_dwords, three, LinesAreOwned}
use Rattle.tm_plan_owned.proofs.Strides.{how_many, Mine, Tells, strided, EachWindow, Differ, each-window, differ}
use Rattle.tm_plan_owned.proofs.Strides.{declared-yes, declared-no}

-- ---- lists

count-append : (n m c : ℕ) → count_from c (n + m) ≡ count_from c n ++ count_from (c + n) m
count-append zero m c = ap₂ count_from (let e : c ≡ c + 0 = omega arith in e) (let e : 0 + m ≡ m = omega arith in e)
count-append (suc n) m c =
    let e : suc n + m ≡ suc (n + m) = omega arith in
    let f : suc c + n ≡ c + suc n = omega arith in
    ap (count_from c) e ∙ ap (λ (l : List ℕ). c ∷ l)
    (count-append n m (suc c) ∙ ap (λ (k : ℕ). count_from (suc c) n ++ count_from k m) f)

shifted : (b c n j : ℕ) → map (λ i. b + 8 * c + 8 * i) (count_from j n) ≡ map (λ q. b + 8 * q) (count_from (c + j) n)
shifted b c zero j = refl
shifted b c (suc n) j =
    let e : b + 8 * c + 8 * j ≡ b + 8 * (c + j) = omega arith in
    let f : c + suc j ≡ suc (c + j) = omega arith in
    ap₂ (λ (x : ℕ) (l : List ℕ). x ∷ l) e (shifted b c n (suc j) ∙ ap (λ (k : ℕ). map (λ q. b + 8 * q) (count_from k n))
    f)

-- L lines of n dwords, side by side
blocks : (b n L c : ℕ) → lines_dwords (b + 8 * c) n (8 * n) L ≡ map (λ q. b + 8 * q) (count_from c (L * n))
blocks b n zero c = ap (λ (k : ℕ). map (λ q. b + 8 * q) (count_from c k)) (let e : 0 ≡ 0 * n = omega arith in e)
blocks b n (suc L) c =
    let first : line_dwords (b + 8 * c) n ≡ map (λ q. b + 8 * q) (count_from c n) =
    shifted b c n 0 ∙ ap (λ (k : ℕ). map (λ q. b + 8 * q) (count_from k n)) (let e : c + 0 ≡ c = omega arith in
    e) in
    let on : b + 8 * c + 8 * n ≡ b + 8 * (c + n) = omega arith in
    let all : n + L * n ≡ suc L * n = omega arith in
    ap₂ (λ (x y : List ℕ). x ++ y) first (ap (λ (x : ℕ). lines_dwords x n (8 * n) L) on ∙ blocks b n L (c + n))
    ∙ (sym (map-append (λ q. b + 8 * q) (count_from c n) (count_from (c + n) (L * n)))
    ∙ (ap (map (λ q. b + 8 * q)) (sym (count-append n (L * n) c)) ∙ ap
    (λ (k : ℕ). map (λ q. b + 8 * q) (count_from c k)) all))

-- ---- numbers

-- a line size, in dwords and in lines of a window
pub record IsLine (line n L : ℕ) : Type 0 where
  pub eight : 8 * n ≡ line
  pub all : L * n ≡ 256
  pub place : (v j r : ℕ) → r < line → (2048 * v + (line * j + r)) / line ≡ 2048 * v / line + j
  pub few : (k : ℕ) → k * line ≤ 2048 → k ≤ L
  pub bytes : (j r : ℕ) → j < L → r < line → line * j + r < 2048
  pub dwords : line / 8 ≡ n
  pub small : L ≤ 64
  pub most : line ≤ 128
  pub short : n ≤ 16
  pub some : 4 ≤ n

pub line-of : (line : ℕ) → (line ≡ 32) ⊎ ((line ≡ 64) ⊎ (line ≡ 128)) → (n : ℕ) × (L : ℕ) × IsLine line n L
line-of line (inl e) = (
  4,
  64,
  subst (λ (l : ℕ). IsLine l 4 64) (sym e) (record {
    eight = refl;
    all = refl;
    place = λ v j r l. omega arith;
    few = λ k l. omega arith;
    bytes = λ j r a b. omega arith;
    dwords = refl;
    small = omega arith;
    most =
        omega arith;
    short = omega arith;
    some = omega arith;
  }),
)
line-of line (inr (inl e)) = (
  8,
  32,
  subst (λ (l : ℕ). IsLine l 8 32) (sym e) (record {
    eight = refl;
    all = refl;
    place = λ v j r l. omega arith;
    few = λ k l. omega arith;
    bytes = λ j r a b. omega arith;
    dwords = refl;
    small = omega arith;
    most =
        omega arith;
    short = omega arith;
    some = omega arith;
  }),
)
line-of line (inr (inr e)) = (
  16,
  16,
  subst (λ (l : ℕ). IsLine l 16 16) (sym e)
      (record {
        eight = refl;
        all = refl;
        place = λ v j r l. omega arith;
        few = λ k l. omega arith;
        bytes = λ j r a b. omega arith;
        dwords = refl;
        small = omega arith;
        most = omega arith;
        short = omega arith;
        some =
            omega arith;
      }),
)

-- the next line from m on that is hart h's
next-mine : (N h m : ℕ) → h < N → Mine N h (m + (h + N - m % N) % N)
next-mine N h m l = by (y / N) (mod-add-div y N)
  where
    y : ℕ
    y = h + N - m % N

    by : (t : ℕ) → y % N + N * t ≡ y → Mine N h (m + y % N)
    by zero e = (suc (m / N), omega (arith, mod-add-div m N))
    by (suc zero) e = (m / N, omega (arith, mod-add-div m N))
    by (suc (suc t)) e = absurd (omega arith)

pub lines-few : (line v L : ℕ) (ws : List Window) → EachWindow (IsShapedWindow line) ws
    → ((k : ℕ) → k * line ≤ 2048 → k ≤ L) → lines_of v ws ≤ L
lines-few line v L [] s f = omega arith
lines-few line v L (w ∷ ws) s f = by (w.number == v) (lines-few line v L ws s.1 f)
  where
    by : (b : Bool) → lines_of v ws ≤ L → (if b then w.lines else lines_of v ws) ≤ L
    by true g = f w.lines s.0.few
    by false g = g

-- ---- the test of a hart's dwords

module _ (cases : Cases) (h v n L : ℕ) (mine : h < cases.harts) (low : v < 3) (size : IsLine cases.line n L)
    (shaped : EachWindow (IsShapedWindow cases.line) cases.windows) (differs : Differ cases.windows) where
  abbrev test : ℕ → Bool
  test a = is_declared cases a && (collector cases a == h)

  abbrev from : ℕ
  from = windows_base + 2048 * v

  abbrev at : (j i : ℕ) → ℕ
  at j i = from + cases.line * j + 8 * i

  -- byte 8 * i of line j
  within-line : (i : ℕ) → i < n → 8 * i < cases.line
  within-line i l = omega (arith, size.eight)

  at-is : (j i : ℕ) → at j i ≡ windows_base + (2048 * v + (cases.line * j + 8 * i))
  at-is j i = omega arith

  line-number : (j i : ℕ) → i < n → (at j i - windows_base) / cases.line ≡ 2048 * v / cases.line + j
  line-number j i l =
      let e : at j i - windows_base ≡ 2048 * v + (cases.line * j + 8 * i) = omega arith in
      ap (λ (x : ℕ). x / cases.line) e ∙ size.place v j (8 * i) (within-line i l)

  is-mine : (j i : ℕ) → i < n → Mine cases.harts h (2048 * v / cases.line + j) → collector cases (at j i) ≡ h
  unfolding collector
  is-mine j i l q =
      ap (λ (x : ℕ). x % cases.harts) (line-number j i l ∙ q.1) ∙
      (add-mul-mod_self_left h cases.harts q.0 ∙ mod-eq_of_lt mine)

  not-mine : (j i : ℕ) → i < n → (Mine cases.harts h (2048 * v / cases.line + j) → ⊥) → collector cases (at j i) ≢ h
  unfolding collector
  not-mine j i l other e =
      let m = 2048 * v / cases.line + j in
      let f : m % cases.harts ≡ h = ap (λ (x : ℕ). x % cases.harts) (sym (line-number j i l)) ∙ e in
      other (m / cases.harts, omega (arith, mod-add-div m cases.harts, f))

  is-declared : (j i : ℕ) → j < L → i < n → j < lines_of v cases.windows → is_declared cases (at j i) ≡ true
  unfolding is_declared
  is-declared j i a b d = declared-yes cases.line v j (8 * i) (at j i) low (within-line i b)
      (size.bytes j (8 * i) a (within-line i b)) (at-is j i) cases.windows shaped d

  not-declared : (j i : ℕ) → j < L → i < n → lines_of v cases.windows ≤ j → is_declared cases (at j i) ≡ false
  unfolding is_declared
  not-declared j i a b d = declared-no cases.line v j (8 * i) (at j i) low (within-line i b)
      (size.bytes j (8 * i) a (within-line i b)) (at-is j i) cases.windows shaped differs d

  and-false : (b : Bool) → (b && false) ≡ false
  and-false true = refl
  and-false false = refl

  tells : Tells test cases.harts h cases.line n from (2048 * v / cases.line) (lines_of v cases.windows) L
  tells = record {
    own = λ j i a b d q. ap₂ (λ (x y : Bool). x && y) (is-declared j i a b d)
        (eq-eqb (collector cases (at j i)) h (is-mine j i b q));
    other = λ j i a b out. ap (λ (y : Bool). is_declared cases (at j i) && y)
        (ne_eqb (collector cases (at j i)) h (not-mine j i b out)) ∙ and-false (is_declared cases (at j i));
    far = λ j i a b d. ap (λ (x : Bool). x && (collector cases (at j i) == h)) (not-declared j i a b d);
  }

  strides : (N M : ℕ) → N ≡ suc M → (p m d x : ℕ) → d ≤ L → x < N → Mine N h (m + x)
      → Tells test N h cases.line n p m d L → filter test (lines_dwords p n cases.line L)
      ≡ lines_dwords (p + cases.line * x) n (cases.line * N) (how_many N d x)
  strides N M is p m d x few =
      let F : ℕ → Type 0 = λ k. x < k → Mine k h (m + x) → Tells test k h cases.line n p m d L
      → filter test (lines_dwords p n cases.line L)
      ≡ lines_dwords (p + cases.line * x) n (cases.line * k) (how_many k d x) in
      subst F (sym is) (λ a b c. strided test M h cases.line n L p m d x few a b c)

  -- the dwords of window v that are hart h's
  pub window-owned : (M : ℕ) → cases.harts ≡ suc M
      → filter test (map (λ q. windows_base + 8 * q) (count_from (256 * v) (L * n))) ≡ own_dwords cases h v
  unfolding first_line line_count line_place
  window-owned M is =
      let m = 2048 * v / cases.line in
      let x = (h + cases.harts - m % cases.harts) % cases.harts in
      let d = lines_of v cases.windows in
      let start : windows_base + 8 * (256 * v) ≡ from = omega arith in
      let all : map (λ q. windows_base + 8 * q) (count_from (256 * v) (L * n)) ≡ lines_dwords from n cases.line L =
      sym (blocks windows_base n L (256 * v)) ∙ ap₂ (λ (p l : ℕ). lines_dwords p n l L) start size.eight in
      let below : x < cases.harts = omega arith in
      let end : from + cases.line * x ≡ windows_base + (2048 * v + cases.line * x) = omega arith in
      ap (filter test) all
      ∙ (strides cases.harts M is from m d x (lines-few cases.line v L cases.windows shaped size.few) below
      (next-mine cases.harts h m mine) tells
      ∙ ap₂ (λ (p k : ℕ). lines_dwords p k (cases.line * cases.harts) (how_many cases.harts d x)) end (sym size.dwords))

-- all windows
three-parts : (test : ℕ → Bool) (g : ℕ → ℕ) (k : ℕ) (parts : ℕ → List ℕ)
    → ((v : ℕ) → v < 3 → filter test (map g (count_from (k * v) k)) ≡ parts v)
    → filter test (map g (count_from 0 (k + (k + k)))) ≡ flat_map parts three
three-parts test g k parts f =
    let one : count_from 0 (k + (k + k)) ≡ count_from (k * 0) k ++ (count_from (k * 1) k ++ count_from (k * 2) k) =
    count-append k (k + k) 0
    ∙ ap₂ (λ (x y : List ℕ). x ++ y) (ap (λ (c : ℕ). count_from c k) (let e : 0 ≡ k * 0 = omega arith in e))
    (count-append k k (0 + k) ∙ ap₂ (λ (c d : ℕ). count_from c k ++ count_from d k) (let e : 0 + k
    ≡ k * 1 = omega arith in e) (let e : 0 + k + k ≡ k * 2 = omega arith in e)) in
    let part : ℕ → List ℕ = λ v. map g (count_from (k * v) k) in
    let two : map g (count_from 0 (k + (k + k))) ≡ part 0 ++ (part 1 ++ part 2) =
    ap (map g) one ∙ (map-append g (count_from (k * 0) k) (count_from (k * 1) k ++ count_from (k * 2) k) ∙ ap
    (λ (l : List ℕ). part 0 ++ l) (map-append g (count_from (k * 1) k) (count_from (k * 2) k))) in
    ap (filter test) two
    ∙ (filter-append test (part 0) (part 1 ++ part 2)
    ∙ ap₂ (λ (x y : List ℕ). x ++ y) (f 0 (omega arith))
    (filter-append test (part 1) (part 2) ∙ ap₂ (λ (x y : List ℕ). x ++ y) (f 1 (omega arith))
    (f 2 (omega arith) ∙ sym (append-nil (parts 2)))))

all-dwords : (k : ℕ) → 256 ≡ k → window_dwords ≡ map (λ q. windows_base + 8 * q) (count_from 0 (k + (k + k)))
unfolding window_dwords
all-dwords k is = ap (λ (m : ℕ). map (λ q. windows_base + 8 * q) (count_from 0 m)) (let e : 768
    ≡ k + (k + k) = omega arith in e)

pub lines_are_owned : (cases : Cases) (h : ℕ) → LinesAreOwned cases h
unfolding owned
lines_are_owned cases h s mine =
    let size = line-of cases.line s.line in
    let n = size.0 in
    let L = size.1 in
    let shaped = each-window (IsShapedWindow cases.line) cases.windows s.windows in
    let differs = differ cases.windows s.apart in
    let M = cases.harts - 1 in
    let is : cases.harts ≡ suc M = omega (arith, mine) in
    let t : ℕ → Bool = λ a. is_declared cases a && (collector cases a == h) in
    let k : 256 ≡ L * n = sym size.2.all in
    ap (filter t) (all-dwords (L * n) k)
    ∙ three-parts t (λ q. windows_base + 8 * q) (L * n) (own_dwords cases h)
    (λ v low. ap (λ (c : ℕ). filter t (map (λ q. windows_base + 8 * q) (count_from (c * v) (L * n)))) (sym k) ∙
    window-owned cases h v n L mine low size.2 shaped differs M is)
