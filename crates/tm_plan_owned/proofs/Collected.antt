-- The dwords that a hart collects are aligned dwords of the windows.
use Rattle.std.proofs.Common.{◌≡◌, ℕ, zero, suc, ◌+◌, ◌*◌, ◌%◌, ◌&&◌, ◌==◌, ◌≤◌, List, [], ◌∷◌, length, map, Bool, true}
use Rattle.std.proofs.Common.{false, arith}
use Rattle.std.specs.Prelude.{All, filter, cond}
use Rattle.std.proofs.lemmas.List.Elements.{All-filter, All-map}
use Rattle.tm_base.specs.Lists.{count_from}
use Rattle.tm_base.proofs.ListLemmas.{length-counted, length-filter-le}
use Rattle.tm_plan_cases.specs.declared.program.Program.{Program}
use Rattle.tm_plan_map.specs.Map.{windows_base}
use Rattle.tm_plan_cases.specs.Collected.{is_declared, collector, window_dwords, owned}

-- a dword of the windows
pub record IsDword (a : ℕ) : Type 0 where
  pub low : 2162688000 ≤ a
  pub high : a + 8 ≤ 2162694144
  pub aligned : a % 8 ≡ 0

abbrev pub Dwords : List ℕ → Type 0
Dwords [] = Unit {0}
Dwords (a ∷ rest) = IsDword a × Dwords rest

dwords-filter : (test : ℕ → Bool) (xs : List ℕ) → Dwords xs → Dwords (filter test xs)
dwords-filter test [] h = tt
dwords-filter test (x ∷ xs) h = by (test x) (dwords-filter test xs h.1)
  where
    by : (b : Bool) → Dwords (filter test xs) → Dwords (cond b (x ∷ filter test xs) (filter test xs))
    by true r = (h.0, r)
    by false r = r

dwords-from : (n a : ℕ) → a + n ≤ 768 → Dwords (map (λ q. windows_base + 8 * q) (count_from a n))
unfolding windows_base
dwords-from zero a l = tt
dwords-from (suc n) a l = (
  record { low = omega arith; high = omega arith; aligned = omega arith },
  dwords-from n (suc a) (omega arith),
)

pub owned-dwords : (p : Program) (h : ℕ) → Dwords (owned p.cases h)
unfolding owned window_dwords
owned-dwords p h = dwords-filter (λ a. is_declared p.cases a && (collector p.cases a == h))
    (map (λ q. windows_base + 8 * q) (count_from 0 768)) (dwords-from 768 0 (omega arith))

pub owned-short : (p : Program) (h : ℕ) → length (owned p.cases h) ≤ 768
unfolding owned window_dwords
owned-short p h =
    omega (
      arith,
      length-filter-le (λ a. is_declared p.cases a && (collector p.cases a == h))
          (map (λ q. windows_base + 8 * q) (count_from 0 768)),
      length-counted (λ q. windows_base + 8 * q) 768 0,
    )

pub owned-above : (p : Program) (h : ℕ) → All (λ a. windows_base ≤ a) (owned p.cases h)
unfolding owned window_dwords
owned-above p h = All-filter (λ a. is_declared p.cases a && (collector p.cases a == h)) (λ a. windows_base ≤ a)
    (map (λ q. windows_base + 8 * q) (count_from 0 768))
    (All-map (λ a. windows_base ≤ a) (λ q. windows_base + 8 * q) (count_from 0 768) (λ k d l. omega arith))

-- the collected dwords stand at multiples of 8
pub owned-even : (p : Program) (h : ℕ) → All (λ a. a % 8 ≡ 0) (owned p.cases h)
unfolding owned window_dwords windows_base
owned-even p h = All-filter (λ a. is_declared p.cases a && (collector p.cases a == h)) (λ a. a % 8
    ≡ 0) (map (λ q. windows_base + 8 * q) (count_from 0 768))
    (All-map (λ a. a % 8 ≡ 0) (λ q. windows_base + 8 * q) (count_from 0 768) (λ k d l. omega arith))
