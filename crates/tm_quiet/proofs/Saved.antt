-- The parts that a hart saves are parts by which passes are compared.
use Rattle.std.proofs.Common.{◌≡◌, ℕ, zero, suc, ◌+◌, ◌-◌, ◌*◌, ◌/◌, ◌%◌, ◌<◌, List, [], ◌∷◌, Bool, true, false, ◌&&◌}
use Rattle.std.proofs.Common.{nat_lt, ◌==◌, ◌⊎◌, inl, inr, refl, sym, ap, ◌∙◌, arith, eqb-true}
use Rattle.std.specs.Prelude.{All, slice_index, filter, map, if◌then◌else◌}
use Rattle.std.specs.List.{AllByRecursion as Each}
use Rattle.std.proofs.lemmas.Bool.{and_parts, ltb-true, ltb-false}
use Rattle.std.proofs.lemmas.List.Elements.{All-from_recursion, All-get_or}
use Rattle.tm_plan_cases.specs.declared.program.Program.{Program}
use Rattle.tm_plan_cases.specs.declared.cases.Cases.{Cases}
use Rattle.tm_plan_map.specs.Map.{window_at, windows_base}
use Rattle.tm_plan_cases.specs.Collected.{is_declared, collector, window_dwords, owned}
use Rattle.tm_base.specs.Lists.{count_from}
use Rattle.tm_plan_cases.specs.Shaped.{AreShaped}
use Rattle.tm_world.specs.Verdict.{Part, Register, Byte, saved, parts}
use Rattle.tm_plan_map.proofs.Within.{within-parts}
use Rattle.tm_plan_map.proofs.Within.{within-true}
use Rattle.tm_legal.proofs.Streams.{window-declared}
use Rattle.tm_stays.proofs.Dwords.{lies}
use Rattle.tm_quiet.specs.Laws.{IsCompared}

-- hart h collects all bytes of a dword, and they are shared
abbrev Whole : Cases → ℕ → ℕ → Type 0
Whole cases h d = (j : ℕ) → j < 8 → (is_declared cases (d + j) ≡ true) × (collector cases (d + j) ≡ h)

-- a line is some dwords
pub eight : (lines line : ℕ) → (line ≡ 32) ⊎ ((line ≡ 64) ⊎ (line ≡ 128)) → (t : ℕ) × (lines * line ≡ 8 * t)
eight lines line (inl e) =
    (lines * 4, ap (λ (n : ℕ). lines * n) e ∙ (let z : lines * 32 ≡ 8 * (lines * 4) = omega arith in z))
eight lines line (inr (inl e)) =
    (lines * 8, ap (λ (n : ℕ). lines * n) e ∙ (let z : lines * 64 ≡ 8 * (lines * 8) = omega arith in z))
eight lines line (inr (inr e)) =
    (lines * 16, ap (λ (n : ℕ). lines * n) e ∙ (let z : lines * 128 ≡ 8 * (lines * 16) = omega arith in z))

-- its bytes are of one line
one-line : (line q j : ℕ) → (line ≡ 32) ⊎ ((line ≡ 64) ⊎ (line ≡ 128)) → j < 8 → (8 * q + j) / line ≡ 8 * q / line
one-line line q j (inl e) l = ap (λ (k : ℕ). (8 * q + j) / k) e ∙ (let z : (8 * q + j) / 32
    ≡ 8 * q / 32 = omega arith in z ∙ sym (ap (λ (k : ℕ). 8 * q / k) e))
one-line line q j (inr (inl e)) l = ap (λ (k : ℕ). (8 * q + j) / k) e ∙ (let z : (8 * q + j) / 64
    ≡ 8 * q / 64 = omega arith in z ∙ sym (ap (λ (k : ℕ). 8 * q / k) e))
one-line line q j (inr (inr e)) l = ap (λ (k : ℕ). (8 * q + j) / k) e ∙ (let z : (8 * q + j) / 128
    ≡ 8 * q / 128 = omega arith in z ∙ sym (ap (λ (k : ℕ). 8 * q / k) e))

dword-shared : (cases : Cases) (q : ℕ) → AreShaped cases → is_declared cases (windows_base + 8 * q) ≡ true → (j : ℕ)
    → j < 8 → is_declared cases (windows_base + 8 * q + j) ≡ true
unfolding windows_base window_at
dword-shared cases q a e j l =
    let d = windows_base + 8 * q in
    let s = lies cases d a e in
    let n = s.window.number in
    let m = within-parts (window_at n) (s.window.lines * cases.line) d s.holds in
    let (t, z) = eight s.window.lines cases.line a.line in
    window-declared cases (d + j) s.window s.among
    (within-true (window_at n) (s.window.lines * cases.line) (d + j) (omega arith) (omega arith))

dword-collected : (cases : Cases) (q j : ℕ) → AreShaped cases → j < 8 → collector cases (windows_base + 8 * q + j)
    ≡ collector cases (windows_base + 8 * q)
unfolding collector
dword-collected cases q j a l =
    let base = windows_base in
    let x : base + 8 * q + j - base ≡ 8 * q + j = omega arith in
    let y : base + 8 * q - base ≡ 8 * q = omega arith in
    ap (λ (n : ℕ). n / cases.line % cases.harts) x ∙ (ap (λ (n : ℕ). n % cases.harts) (one-line cases.line q j a.line l)
    ∙ ap (λ (n : ℕ). n / cases.line % cases.harts) (sym y))

-- what holds of each dword that passes a test holds of all that are collected
pub collected-each : (P : ℕ → Type 0) (test : ℕ → Bool) (f : ℕ → ℕ) (n a : ℕ) → ((q : ℕ) → test (f q) ≡ true → P (f q))
    → Each P (filter test (map f (count_from a n)))
collected-each P test f zero a h = tt
collected-each P test f (suc n) a h = by (test (f a)) refl (collected-each P test f n (suc a) h)
  where
    rest : List ℕ
    rest = filter test (map f (count_from (suc a) n))

    by : (b : Bool) → test (f a) ≡ b → Each P rest → Each P (if b then f a ∷ rest else rest)
    by true e r = (h a e, r)
    by false e r = r

owned-whole : (cases : Cases) (h : ℕ) → AreShaped cases → All (Whole cases h) (owned cases h)
unfolding owned window_dwords
owned-whole cases h a =
    All-from_recursion (Whole cases h) _
    (collected-each (Whole cases h) (λ d. is_declared cases d && (collector cases d == h)) (λ q. windows_base + 8 * q)
    768 0 (λ q t j l.
    let z = and_parts (is_declared cases (windows_base + 8 * q)) (collector cases (windows_base + 8 * q) == h) t in (
      dword-shared cases q a z.0 j l,
      dword-collected cases q j a l ∙ eqb-true (collector cases (windows_base + 8 * q)) h
          z.1,
    )))

pub map-each : (P : Part → Type 0) (f : ℕ → Part) (n a : ℕ) → ((j : ℕ) → j < a + n → P (f j))
    → Each P (map f (count_from a n))
map-each P f zero a h = tt
map-each P f (suc n) a h = (h a (omega arith), map-each P f n (suc a) (λ j l. h j (omega arith)))

-- each saved part is compared
pub saved-compared : (p : Program) (h i : ℕ) → AreShaped p.cases → i < saved p h → Each (IsCompared p h) (parts p h i)
saved-compared p h i a l = by (nat_lt i 30) refl
  where
    dword : ℕ
    dword = slice_index (owned p.cases h) (i - 30)

    by : (t : Bool) → nat_lt i 30 ≡ t → Each (IsCompared p h) (if t then Register (i + 1) ∷ []
        else map (λ j. Byte (dword + j)) (count_from 0 8))
    by true e = (let k = ltb-true i 30 e in omega arith, tt)
    by false e =
        let k = ltb-false i 30 e in
        let w = All-get_or (Whole p.cases h) (owned p.cases h) (i - 30) 0 (omega arith) (owned-whole p.cases h a) in
        map-each (IsCompared p h) (λ j. Byte (dword + j)) 8 0 (λ j m. w j (omega arith))
