-- Who may write flags, private areas and the windows: each such byte has one owner.
use Rattle.std.proofs.Common.{◌≡◌, ◌≢◌, ℕ, zero, suc, ◌+◌, ◌-◌, ◌*◌, ◌/◌, ◌%◌, ◌<◌, ◌≤◌, List, [], ◌∷◌, length, Bool}
use Rattle.std.proofs.Common.{true, false, ◌&&◌, ◌||◌, ◌==◌, ◌⊎◌, inl, inr, refl, sym, ap, ◌∙◌, subst, arith, eq-eqb}
use Rattle.std.proofs.Common.{ne_eqb}
use Rattle.std.specs.Prelude.{IsTrue, if◌then◌else◌, slice_index}
use Rattle.std.specs.List.{AllByRecursion as Each}
use Rattle.std.proofs.lemmas.Bool.{cond-true, cond-false, cases_Bool, cases_eq, cases_lt, true≢false, false≢true}
use Rattle.std.proofs.lemmas.Bool.{or_from, or_left, or_cases}
use Rattle.std.proofs.lemmas.List.Elements.{recursion_from_All}
use Rattle.tm_plan_cases.specs.declared.program.Program.{Program}
use Rattle.tm_plan_map.specs.declared.windows.Window.{Window}
use Rattle.tm_plan_map.specs.Map.{text_base, tables_base, flag_at, verdict_at, private_at, private_size, windows_base}
use Rattle.tm_plan_map.specs.Map.{windows_size, within}
use Rattle.tm_plan_cases.specs.Collected.{is_declared, declares, collector}
use Rattle.tm_base.specs.Lists.{any, count_from}
use Rattle.tm_base.proofs.ListLemmas.{any-no-number}
use Rattle.tm_plan_cases.specs.Shaped.{IsShapedWindow}
use Rattle.tm_world.specs.Lists.{those}
use Rattle.tm_world.specs.Place.{harts, case_count, is_flag, is_verdict, is_private, is_window, is_text, is_table}
use Rattle.tm_world.specs.Place.{image_byte, byte_of}
use Rattle.tm_world.specs.Writers.{may_write, may_write_window, may_write_running, case_of_phase, writers}
use Rattle.tm_plan_map.proofs.Within.{within-parts, within-false}
use Rattle.tm_legal.specs.Tame.{Formed}
use Rattle.tm_legal.proofs.Streams.{declared-window}
use Rattle.tm_legal.proofs.Areas.{those-one, private-writers, may-spares, image-place, even-may, image-zero}
use Rattle.tm_legal.proofs.Formed.{formed-sizes}

-- ---- lists of harts

-- n is in the list
abbrev pub Among : ℕ → List ℕ → Type 0
Among n [] = ⊥
Among n (x ∷ xs) = (n ≡ x) ⊎ Among n xs

pub among-count : (n a m : ℕ) → a ≤ n → n < a + m → Among n (count_from a m)
among-count n a zero l k = absurd (omega arith)
among-count n a (suc m) l k = elim (cases_eq n a) [
  | inl e ↦ inl e
  | inr d ↦ inr (among-count n (suc a) m (omega arith) (omega arith))
]

pub among-least : (n a m : ℕ) → Among n (count_from a m) → n < a + m
among-least n a zero h = absurd h
among-least n a (suc m) (inl e) = omega arith
among-least n a (suc m) (inr h) = let l = among-least n (suc a) m h in omega arith

among-those : (test : ℕ → Bool) (n : ℕ) (xs : List ℕ) → test n ≡ true → Among n xs → Among n (those test xs)
among-those test n [] t h = h
among-those test n (x ∷ xs) t (inl e) =
    subst (Among n) (sym (cond-true (test x) (x ∷ those test xs) (those test xs) (ap test (sym e) ∙ t))) (inl e)
among-those test n (x ∷ xs) t (inr h) = elim (cases_Bool (test x)) [
  | inl y ↦ subst (Among n) (sym (cond-true (test x) (x ∷ those test xs) (those test xs) y))
      (inr (among-those test n xs t h))
  | inr y ↦ subst (Among n) (sym (cond-false (test x) (x ∷ those test xs) (those test xs) y))
      (among-those test n xs t h)
]

-- who may write a byte is among its writers
pub among-writers : (p : Program) (q b h : ℕ) → h < harts p → may_write p q h b ≡ true → Among h (writers p q b)
among-writers p q b h l t = among-those (λ g. may_write p q g b) h (count_from 0 (harts p)) t
    (among-count h 0 (harts p) (omega arith) (omega arith))

-- all elements are n or more, and each is less than the later ones
abbrev Above : ℕ → List ℕ → Type 0
Above n [] = Unit {0}
Above n (x ∷ xs) = (n ≤ x) × Above n xs

abbrev Rises : List ℕ → Type 0
Rises [] = Unit {0}
Rises (x ∷ xs) = Above (suc x) xs × Rises xs

above-those : (test : ℕ → Bool) (n a m : ℕ) → n ≤ a → Above n (those test (count_from a m))
above-those test n a zero l = tt
above-those test n a (suc m) l = elim (cases_Bool (test a)) [
  | inl y ↦ subst (Above n)
      (sym (cond-true (test a) (a ∷ those test (count_from (suc a) m)) (those test (count_from (suc a) m)) y)) (
        l,
        above-those test n (suc a) m (omega arith),
      )
  | inr y ↦ subst (Above n) (sym (cond-false (test a) (a ∷ those test (count_from (suc a) m))
      (those test (count_from (suc a) m)) y)) (above-those test n (suc a) m (omega arith))
]

rises-those : (test : ℕ → Bool) (a m : ℕ) → Rises (those test (count_from a m))
rises-those test a zero = tt
rises-those test a (suc m) = elim (cases_Bool (test a)) [
  | inl y ↦ subst Rises
      (sym (cond-true (test a) (a ∷ those test (count_from (suc a) m)) (those test (count_from (suc a) m)) y))
      (above-those test (suc a) (suc a) m (omega arith), rises-those test (suc a) m)
  | inr y ↦ subst Rises (sym (cond-false (test a) (a ∷ those test (count_from (suc a) m))
      (those test (count_from (suc a) m)) y)) (rises-those test (suc a) m)
]

-- Of two writers the first is less than the second.
pub writers-rise : (p : Program) (q b g k : ℕ) (ws : List ℕ) → writers p q b ≡ g ∷ k ∷ ws → g < k
writers-rise p q b g k ws e =
    let r : Rises (g ∷ k ∷ ws) = subst Rises e (rises-those (λ h. may_write p q h b) 0 (harts p)) in
    let l : suc g ≤ k = r.0.0 in
    omega arith

window-place : (b : ℕ) → is_window b ≡ true → 0x80E80000 ≤ b
unfolding windows_base windows_size
window-place b e = let q = within-parts windows_base windows_size b e in omega (arith, q)

-- ---- flags

flag-place : (h b : ℕ) → h < 8 → is_flag h b ≡ true → (0x80C00000 + 128 * h ≤ b) × (b < 0x80C00000 + 128 * h + 8)
unfolding flag_at
flag-place h b l e = let q = within-parts (flag_at h) 8 b e in (omega (arith, q), omega (arith, q))

flag-others : (p : Program) (q h g b : ℕ) → h < 8 → g < 8 → g ≢ h → is_flag h b ≡ true → may_write p q g b ≡ false
unfolding flag_at verdict_at private_at windows_base
flag-others p q h g b l m n e =
    let place = flag-place h b l e in
    or_from (is_flag g b) _ (within-false (flag_at g) 8 b (apart place))
    (or_from (is_verdict p g b) _ (any-no-number (λ c. within (verdict_at c g) 8 b) (case_count p) 0
    (λ c _ _. within-false (verdict_at c g) 8 b (inl (omega (arith, place)))))
    (or_from (is_private g b) _ (within-false (private_at g) private_size b (inl (omega (arith, place))))
    (ap (λ (t : Bool). t && may_write_window p q g b)
    (within-false windows_base windows_size b (inl (omega (arith, place)))))))
  where
    apart : (0x80C00000 + 128 * h ≤ b) × (b < 0x80C00000 + 128 * h + 8) → (b < flag_at g) ⊎ (flag_at g + 8 ≤ b)
    apart place = elim (cases_lt g h) [
      | inl k ↦ inr (omega (arith, place))
      | inr k ↦ inl (omega (arith, place))
    ]

-- A byte of a flag is written by its hart alone.
pub flag-owner : (p : Program) (q h g b : ℕ) → Formed p → h < harts p → g < harts p → is_flag h b ≡ true
    → may_write p q g b ≡ true → g ≡ h
flag-owner p q h g b formed l m e t = elim (cases_eq g h) [
  | inl s ↦ s
  | inr n ↦
      let limit = (formed-sizes formed).harts in
      absurd (true≢false (sym t ∙ flag-others p q h g b (omega arith) (omega arith) n e))
]

pub flag-mine : (p : Program) (q h b : ℕ) → is_flag h b ≡ true → may_write p q h b ≡ true
flag-mine p q h b e = or_left (is_flag h b) _ e

pub flag-zero : (p : Program) (h b : ℕ) → Formed p → h < harts p → is_flag h b ≡ true → image_byte p b ≡ 0
unfolding flag_at
flag-zero p h b formed l e =
    let limit = (formed-sizes formed).harts in
    let place = flag-place h b (omega arith) e in
    image-zero p b formed (omega (arith, place))

-- ---- private areas

-- A private byte is written by its hart alone.
pub private-owner : (p : Program) (q h g b : ℕ) → Formed p → h < harts p → g < harts p → is_private h b ≡ true
    → may_write p q g b ≡ true → g ≡ h
private-owner p q h g b formed l m e t =
    by (subst (Among g) (private-writers p q h b formed l e) (among-writers p q b g m t))
  where
    by : Among g (h ∷ []) → g ≡ h
    by (inl s) = s
    by (inr z) = absurd z

-- ---- shared bytes

some-window : (line b : ℕ) (ws : List Window) → Each (IsShapedWindow line) ws → any (declares line b) ws ≡ true
    → is_window b ≡ true
some-window line b [] s e = absurd (false≢true e)
some-window line b (w ∷ ws) s e = elim (or_cases (declares line b w) (any (declares line b) ws) e) [
  | inl t ↦ declared-window line b w s.0 t
  | inr t ↦ some-window line b ws s.1 t
]

-- a shared byte is a byte of the windows
pub shared-window : (p : Program) (b : ℕ) → Formed p → IsTrue (is_declared p.cases b) → is_window b ≡ true
unfolding is_declared
shared-window p b formed e = some-window p.cases.line b p.cases.windows
    (recursion_from_All (IsShapedWindow p.cases.line) p.cases.windows formed.program.cases.windows) e

-- no byte of the windows is a byte of a flag
pub window-flag : (h b : ℕ) → h < 8 → is_window b ≡ true → is_flag h b ≡ false
unfolding flag_at
window-flag h b l e = let place = window-place b e in within-false (flag_at h) 8 b (inr (omega arith))

-- nor of a private area
window-private : (h b : ℕ) → h < 8 → is_window b ≡ true → is_private h b ≡ false
unfolding private_at private_size
window-private h b l e = let place = window-place b e in within-false (private_at h) private_size b (inr (omega arith))

-- ---- what each write keeps to

-- a byte that hart h may write in phase q, or one of the windows
abbrev pub MayKeep : Program → ℕ → ℕ → ℕ → Type 0
MayKeep p q h b = IsTrue (may_write p q h b) ⊎ IsTrue (is_window b)

-- of a private area it is its hart's alone
pub private-keeper : (p : Program) (q h g b : ℕ) → Formed p → h < harts p → g < harts p → is_private h b ≡ true
    → MayKeep p q g b → g ≡ h
private-keeper p q h g b formed l m e (inl t) = private-owner p q h g b formed l m e t
private-keeper p q h g b formed l m e (inr w) = let limit = (formed-sizes formed).harts in
    absurd (true≢false (sym e ∙ window-private h b (omega arith) w))

-- so of a flag
pub flag-keeper : (p : Program) (q h g b : ℕ) → Formed p → h < harts p → g < harts p → is_flag h b ≡ true
    → MayKeep p q g b → g ≡ h
flag-keeper p q h g b formed l m e (inl t) = flag-owner p q h g b formed l m e t
flag-keeper p q h g b formed l m e (inr w) = let limit = (formed-sizes formed).harts in
    absurd (true≢false (sym e ∙ window-flag h b (omega arith) w))

-- and none is of text or tables
pub keeps-image : (p : Program) (q h b : ℕ) → Formed p → (is_text p b || is_table p b) ≡ true → MayKeep p q h b → ⊥
keeps-image p q h b formed e (inl t) = true≢false (sym e ∙ may-spares p q h b (formed-sizes formed) t)
keeps-image p q h b formed e (inr w) = let l = image-place p b (formed-sizes formed) e in let place =
    window-place b w in omega arith

-- ---- who writes a shared byte

-- what a byte of the windows may be written by
window-may : (p : Program) (q h b : ℕ) → Formed p → h < 8 → is_window b ≡ true
    → may_write p q h b ≡ may_write_window p q h b
unfolding verdict_at
window-may p q h b formed l e =
    let place = window-place b e in
    let few = formed.program.cases.count in
    let a : is_flag h b ≡ false = window-flag h b l e in
    let v : is_verdict p h b ≡ false = any-no-number (λ c. within (verdict_at c h) 8 b) (case_count p) 0
    (λ c _ m. within-false (verdict_at c h) 8 b (inr (omega (arith, few)))) in
    let w : is_private h b ≡ false = window-private h b l e in
    ap (λ (t : Bool). t || (is_verdict p h b || (is_private h b || (is_window b && may_write_window p q h b)))) a
    ∙ (ap (λ (t : Bool). t || (is_private h b || (is_window b && may_write_window p q h b))) v
    ∙ (ap (λ (t : Bool). t || (is_window b && may_write_window p q h b)) w
    ∙ ap (λ (t : Bool). t && may_write_window p q h b) e))

pub collector-less : (p : Program) (b : ℕ) → Formed p → collector p.cases b < harts p
unfolding collector
collector-less p b formed = let some = formed.program.cases.harts in omega arith

-- In an even phase a shared byte is written by its collector alone.
pub shared-writers : (p : Program) (q b : ℕ) → Formed p → q % 2 ≡ 0 → IsTrue (is_declared p.cases b)
    → writers p q b ≡ collector p.cases b ∷ []
shared-writers p q b formed even e =
    let limit = (formed-sizes formed).harts in
    let g = collector p.cases b in
    let w = shared-window p b formed e in
    let less = collector-less p b formed in
    let may : (h : ℕ) → h < harts p → may_write p q h b ≡ (g == h) =
    λ h l. window-may p q h b formed (omega arith) w ∙ even-may p q h b even in
    those-one (λ h. may_write p q h b) (harts p) 0 g (omega arith) (omega arith) (may g less ∙ eq-eqb g g refl)
    (λ h _ l n. may h (omega arith) ∙ ne_eqb g h (λ z. n (sym z)))
