-- The dwords that a hart collects are few, and have addresses of 8 hexadecimal digits; so verdicts tell their dwords.
use Rattle.std.proofs.Common.{ℕ, zero, suc, ◌+◌, ◌*◌, ◌%◌, ◌^◌, ◌<◌, ◌≤◌, List, ◌∷◌, length, map, filter, Bool, true}
use Rattle.std.proofs.Common.{false, inl, inr, cond, arith}
use Rattle.std.specs.Prelude.{All, slice_index, ◌&&◌, ◌==◌}
use Rattle.std.proofs.lemmas.List.Elements.{All-nil, All-cons}
use Rattle.tm_plan_cases.specs.declared.cases.Cases.{Cases}
use Rattle.tm_plan_map.specs.Map.{windows_base}
use Rattle.tm_plan_cases.specs.Collected.{is_declared, collector, window_dwords, owned}
use Rattle.tm_base.specs.Lists.{count_from}
use Rattle.tm_report_run.specs.Report.{IsVerdictOf, dword_in}

-- those of n dwords of the windows, from number a on, that pass a test
abbrev some_dwords : (ℕ → Bool) → (n a : ℕ) → List ℕ
some_dwords test n a = filter test (map (λ q. windows_base + 8 * q) (count_from a n))

few : (test : ℕ → Bool) (n a : ℕ) → length (some_dwords test n a) ≤ n
few test zero a = omega arith
few test (suc n) a = by (test (windows_base + 8 * a)) (few test n (suc a))
  where
    by : (b : Bool) → length (some_dwords test n (suc a)) ≤ n
        → length (cond b ((windows_base + 8 * a) ∷ some_dwords test n (suc a)) (some_dwords test n (suc a))) ≤ suc n
    by true l = omega arith
    by false l = omega arith

abbrev IsShort : ℕ → Type 0
IsShort a = a < 2 ^ 32

short : (test : ℕ → Bool) (n a : ℕ) → a + n ≤ 768 → All IsShort (some_dwords test n a)
unfolding windows_base
short test zero a l = All-nil IsShort
short test (suc n) a l = by (test (windows_base + 8 * a)) (short test n (suc a) (omega arith))
  where
    by : (b : Bool) → All IsShort (some_dwords test n (suc a))
        → All IsShort (cond b ((windows_base + 8 * a) ∷ some_dwords test n (suc a)) (some_dwords test n (suc a)))
    by true s = All-cons IsShort (windows_base + 8 * a) (some_dwords test n (suc a)) (omega arith) s
    by false s = s

owned-few : (cases : Cases) (h : ℕ) → length (owned cases h) ≤ 768
unfolding owned window_dwords
owned-few cases h = few (λ a. is_declared cases a && (collector cases a == h)) 768 0

pub owned-short : (cases : Cases) (h j : ℕ) → j < length (owned cases h) → slice_index (owned cases h) j < 2 ^ 32
unfolding owned window_dwords
owned-short cases h j l = short (λ a. is_declared cases a && (collector cases a == h)) 768 0 (omega arith) j 0 l

-- the dword that a verdict names
pub dword-named : (cases : Cases) (h v : ℕ) → IsVerdictOf cases h v → 0 < v
    → (1 ≤ v % 2 ^ 32) × (dword_in v < 30 + length (owned cases h))
dword-named cases h v (inl e) some = absurd (omega arith)
dword-named cases h v (inr (k, i, first, last, saved, is)) some =
    let most = owned-few cases h in (omega arith, omega arith)
