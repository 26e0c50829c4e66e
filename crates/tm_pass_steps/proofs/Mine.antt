-- The dwords that a hart collects, and memory's last bytes by accesses.
use Rattle.std.proofs.Common.{◌≡◌, ◌≢◌, ◌⊎◌, inl, inr, ℕ, zero, suc, ◌+◌, ◌-◌, ◌*◌, ◌/◌, ◌%◌, ◌<◌, ◌≤◌, Bool, true}
use Rattle.std.proofs.Common.{◌&&◌, ◌==◌, eqb-true, List, [], ◌∷◌, ◌++◌, length, map, Option, None}
use Rattle.std.proofs.Common.{Some, refl, sym, ap, ◌∙◌, arith}
use Rattle.std.specs.Prelude.{All, slice_index_or, filter, if◌then◌else◌}
use Rattle.std.proofs.lemmas.Bool.{cases_lt, and_parts}
use Rattle.std.proofs.lemmas.List.Elements.{All-filter, All-map, filter_passes}
use Rattle.tm_table.specs.declared.state.Access.{Access}
use Rattle.tm_table.specs.declared.state.Access.TheVariants.{Quiet, Read, Write}
use Rattle.tm_plan_cases.specs.declared.cases.Cases.{Cases}
use Rattle.tm_plan_map.specs.Map.{windows_base, windows_size}
use Rattle.tm_plan_cases.specs.Collected.{is_declared, collector, window_dwords, owned}
use Rattle.tm_base.specs.Lists.{count_from}
use Rattle.tm_plan_cases.specs.Shaped.{AreShaped}
use Rattle.tm_world.specs.Lists.{or_else}
use Rattle.tm_world.specs.Place.{is_window, byte_of}
use Rattle.tm_world.specs.Run.{written}
use Rattle.tm_world.proofs.Options.{or_else-assoc}
use Rattle.tm_runs.specs.Machine.{Entry}
use Rattle.tm_plan_map.proofs.Within.{within-true, within-false}
use Rattle.tm_blocks_base.specs.Laws.{with_access, accesses}
use Rattle.tm_pass_way.specs.Facts.{last_in}

-- a dword of the windows that hart h collects
pub record Mine (cases : Cases) (h a : ℕ) : Type 0 where
  pub low : windows_base ≤ a
  pub high : a + 8 ≤ windows_base + 6144
  pub even : a % 8 ≡ 0
  pub collects : collector cases a ≡ h

all-count : (n a : ℕ) → All (λ q. q < a + n) (count_from a n)
all-count zero a k d l = absurd (omega arith)
all-count (suc n) a zero d l = omega arith
all-count (suc n) a (suc k) d l = let r = all-count n (suc a) k d (let e : length (count_from a (suc n))
    ≡ suc (length (count_from (suc a) n)) = refl in omega arith) in omega arith

placed : (n : ℕ) → n ≡ 768 → All (λ a. (windows_base ≤ a) × (a + 8 ≤ windows_base + 6144)
    × (a % 8 ≡ 0)) (map (λ q. windows_base + 8 * q) (count_from 0 n))
unfolding windows_base
placed n e = All-map (λ a. (windows_base ≤ a) × (a + 8 ≤ windows_base + 6144) × (a % 8 ≡ 0)) (λ q. windows_base + 8 * q)
    (count_from 0 n) (λ k d l. let r = all-count n 0 k d l in (omega arith, omega arith, omega arith))

pub mine : (cases : Cases) (h : ℕ) → All (λ a. Mine cases h a) (owned cases h)
unfolding owned window_dwords
mine cases h k d l =
    let test : ℕ → Bool = λ a. is_declared cases a && (collector cases a == h) in
    let dwords : List ℕ = map (λ q. windows_base + 8 * q) (count_from 0 768) in
    let a = All-filter test (λ a. (windows_base ≤ a) × (a + 8 ≤ windows_base + 6144)
    × (a % 8 ≡ 0)) dwords (placed 768 refl) k d l in
    let b = filter_passes test dwords k d l in
    record {
      low = a.0;
      high = a.1;
      even = a.2;
      collects = eqb-true _ h ((and_parts (is_declared cases (slice_index_or (filter test dwords) k d)) _ b).1);
    }

pub mine-window : (cases : Cases) (h a i : ℕ) → Mine cases h a → i < 8 → is_window (a + i) ≡ true
unfolding windows_size
mine-window cases h a i m l = within-true windows_base windows_size (a + i) (omega (arith, m.low))
    (omega (arith, m.high))

pub mine-bytes : (cases : Cases) (h a i : ℕ) → AreShaped cases → Mine cases h a → i < 8 → collector cases (a + i) ≡ h
unfolding collector windows_base
mine-bytes cases h a i shaped m l = ap (λ (x : ℕ). x % cases.harts) (by shaped.line) ∙ m.collects
  where
    by : (cases.line ≡ 32) ⊎ ((cases.line ≡ 64) ⊎ (cases.line ≡ 128)) → (a + i - 2162688000) / cases.line
        ≡ (a - 2162688000) / cases.line
    by (inl e) = ap (λ (x : ℕ). (a + i - 2162688000) / x) e ∙ (let r : (a + i - 2162688000) / 32
        ≡ (a - 2162688000) / 32 = omega (arith, m.low, m.even) in r ∙ ap (λ (x : ℕ). (a - 2162688000) / x) (sym e))
    by (inr (inl e)) = ap (λ (x : ℕ). (a + i - 2162688000) / x) e ∙ (let r : (a + i - 2162688000) / 64
        ≡ (a - 2162688000) / 64 = omega (arith, m.low, m.even) in r ∙ ap (λ (x : ℕ). (a - 2162688000) / x) (sym e))
    by (inr (inr e)) = ap (λ (x : ℕ). (a + i - 2162688000) / x) e ∙ (let r : (a + i - 2162688000) / 128
        ≡ (a - 2162688000) / 128 = omega (arith, m.low, m.even) in r ∙ ap (λ (x : ℕ). (a - 2162688000) / x) (sym e))

-- ---- the last write of a byte, by accesses

abbrev pub last_access : ℕ → List Access → Option ℕ
last_access b [] = None
last_access b (x ∷ xs) = or_else (written x b) (last_access b xs)

pub last-by-access : (b : ℕ) (es : List Entry) → last_in b es ≡ last_access b (accesses es)
last-by-access b [] = refl
last-by-access b (e ∷ es) = by e.access (last-by-access b es)
  where
    by : (x : Access) → last_in b es ≡ last_access b (accesses es) → or_else (written x b) (last_in b es)
        ≡ last_access b (with_access x (accesses es))
    by Quiet r = r
    by (Read a n v) r = r
    by (Write a n v) r = ap (or_else (written (Write a n v) b)) r

pub last-append : (b : ℕ) (xs ys : List Access) → last_access b (xs ++ ys)
    ≡ or_else (last_access b xs) (last_access b ys)
last-append b [] ys = refl
last-append b (x ∷ xs) ys = ap (or_else (written x b)) (last-append b xs ys) ∙ sym
    (or_else-assoc (written x b) (last_access b xs) (last_access b ys))

pub written-here : (a v i : ℕ) → i < 8 → written (Write a 8 v) (a + i) ≡ Some (byte_of v i)
written-here a v i l = ap (λ (t : Bool). if t then Some (byte_of v (a + i - a))
    else None) (within-true a 8 (a + i) (omega arith) (omega arith)) ∙ ap (λ (k : ℕ). Some (byte_of v k)) (omega arith)

pub written-off : (a b v i : ℕ) → a % 8 ≡ 0 → b % 8 ≡ 0 → i < 8 → a ≢ b → written (Write b 8 v) (a + i) ≡ None
written-off a b v i e f l n = ap (λ (t : Bool). if t then Some (byte_of v (a + i - b))
    else None) (within-false b 8 (a + i) (by (cases_lt a b)))
  where
    by : (a < b) ⊎ (b ≤ a) → (a + i < b) ⊎ (b + 8 ≤ a + i)
    by (inl x) = inl (omega arith)
    by (inr x) = inr (omega arith)
