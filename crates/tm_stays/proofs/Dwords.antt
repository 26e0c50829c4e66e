-- The shared dword that holds a shared byte is one of those that the one hart collects.
use Rattle.std.proofs.Common.{◌≡◌, ℕ, zero, suc, ◌+◌, ◌-◌, ◌*◌, ◌/◌, ◌<◌, ◌≤◌, List, [], ◌∷◌, Bool, true, false, ◌&&◌}
use Rattle.std.proofs.Common.{◌||◌, ◌==◌, ◌⊎◌, inl, inr, refl, sym, ap, ◌∙◌, subst, arith, eq-eqb}
use Rattle.std.specs.Prelude.{IsTrue, All, Contains, filter, map, if◌then◌else◌}
use Rattle.std.specs.List.{AllByRecursion as Each}
use Rattle.std.proofs.lemmas.Bool.{cases_eq, and_from, false≢true}
use Rattle.std.proofs.lemmas.List.Elements.{recursion_from_All}
use Rattle.tm_plan_cases.specs.declared.cases.Cases.{Cases}
use Rattle.tm_plan_map.specs.declared.windows.Window.{Window}
use Rattle.tm_plan_map.specs.Map.{window_at, windows_base}
use Rattle.tm_plan_cases.specs.Collected.{declares, is_declared, collector, window_dwords, owned}
use Rattle.tm_base.specs.Lists.{any, count_from}
use Rattle.tm_plan_cases.specs.Shaped.{IsShapedWindow, AreShaped}
use Rattle.tm_plan_map.proofs.Within.{within-parts}
use Rattle.tm_plan_map.proofs.Within.{within-true}
use Rattle.tm_legal.proofs.Streams.{window-declared}

-- the window of a shared byte
pub record Lies (cases : Cases) (b : ℕ) : Type 0 where
  pub window : Window
  pub among : Contains cases.windows window
  pub shaped : IsShapedWindow cases.line window
  pub holds : declares cases.line b window ≡ true

some-window : (line b : ℕ) (ws : List Window) → Each (IsShapedWindow line) ws → any (declares line b) ws ≡ true
    → (w : Window) × Contains ws w × IsShapedWindow line w × (declares line b w ≡ true)
some-window line b [] s e = absurd (false≢true e)
some-window line b (w ∷ ws) s e = by (declares line b w) refl e (some-window line b ws s.1)
  where
    by : (t : Bool) → declares line b w ≡ t → (t || any (declares line b) ws) ≡ true
        → (any (declares line b) ws ≡ true → (v : Window) × Contains ws v × IsShapedWindow line v
        × (declares line b v ≡ true)) → (v : Window) × Contains (w ∷ ws) v × IsShapedWindow line v
        × (declares line b v ≡ true)
    by true t f later = (w, (0, omega arith, refl), s.0, t)
    by false t f later = let (v, c, sh, d) = later f in (v, (suc c.0, omega (arith, c.1), c.2), sh, d)

pub lies : (cases : Cases) (b : ℕ) → AreShaped cases → IsTrue (is_declared cases b) → Lies cases b
unfolding is_declared
lies cases b a e =
    let (w, c, s, d) =
    some-window cases.line b cases.windows (recursion_from_All (IsShapedWindow cases.line) cases.windows a.windows)
    e in
    record { window = w; among = c; shaped = s; holds = d }

-- the dword that holds a byte of the windows
abbrev pub dword_of : ℕ → ℕ
dword_of b = windows_base + 8 * ((b - windows_base) / 8)

pub dword-place : (cases : Cases) (b : ℕ) → Lies cases b → (dword_of b ≤ b) × (b < dword_of b + 8)
    × ((b - windows_base) / 8 < 768) × (is_declared cases (dword_of b) ≡ true)
unfolding window_at windows_base
dword-place cases b l =
    let n = l.window.number in
    let q = within-parts (window_at n) (l.window.lines * cases.line) b l.holds in
    let low = l.shaped.number in
    let few = l.shaped.few in
    let a = dword_of b in
    let d : declares cases.line a l.window ≡ true =
    within-true (window_at n) (l.window.lines * cases.line) a (omega arith) (omega arith) in
    (omega arith, omega arith, omega arith, window-declared cases a l.window l.among d)

-- ---- what holds of each dword that is collected

pick : (P : ℕ → Type 0) (test : ℕ → Bool) (f : ℕ → ℕ) (n a j : ℕ) → a ≤ j → j < a + n → test (f j) ≡ true
    → Each P (filter test (map f (count_from a n))) → P (f j)
pick P test f zero a j l m t h = absurd (omega arith)
pick P test f (suc n) a j l m t h =
    by (test (f a)) refl (cases_eq a j) h (λ k g. pick P test f n (suc a) j k (omega arith) t g)
  where
    rest : List ℕ
    rest = filter test (map f (count_from (suc a) n))

    by : (b : Bool) → test (f a) ≡ b → (a ≡ j) ⊎ (a ≡ j → ⊥) → Each P (if b then f a ∷ rest else rest)
        → (suc a ≤ j → Each P rest → P (f j)) → P (f j)
    by true e (inl s) g later = subst (λ (z : ℕ). P (f z)) s g.0
    by true e (inr d) g later = later (omega arith) g.1
    by false e (inl s) g later = absurd (false≢true (sym e ∙ (ap (λ (z : ℕ). test (f z)) s ∙ t)))
    by false e (inr d) g later = later (omega arith) g

pub of-owned : (P : ℕ → Type 0) (cases : Cases) (h b : ℕ) → (b - windows_base) / 8 < 768
    → is_declared cases (dword_of b) ≡ true → collector cases (dword_of b) ≡ h → All P (owned cases h) → P (dword_of b)
unfolding owned window_dwords
of-owned P cases h b l d c all =
    pick P (λ a. is_declared cases a && (collector cases a == h)) (λ q. windows_base + 8 * q) 768 0
    ((b - windows_base) / 8) (omega arith) (omega arith)
    (and_from (is_declared cases (dword_of b)) (collector cases (dword_of b) == h) d
    (eq-eqb (collector cases (dword_of b)) h c))
    (recursion_from_All P (owned cases h) all)
