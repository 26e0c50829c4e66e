-- What a comparison takes stands in the hart's private area and in the tables.
use Rattle.std.proofs.Common.{◌≡◌, ℕ, zero, suc, ◌+◌, ◌-◌, ◌*◌, ◌%◌, ◌<◌, ◌≤◌, List, [], ◌∷◌, length, map, Bool}
use Rattle.std.proofs.Common.{◌||◌, ap, arith}
use Rattle.std.specs.Prelude.{slice_index}
use Rattle.std.proofs.Math.Nat.{mul-le-mul_left}
use Rattle.std.proofs.lemmas.Bool.{or_right}
use Rattle.tm_plan_cases.specs.declared.program.Program.{Program}
use Rattle.tm_plan_map.specs.Map.{guest_base, guest_end, text_base, tables_base, windows_base, private_at}
use Rattle.tm_plan_map.specs.Map.{private_size, save_at, table_at}
use Rattle.tm_plan_cases.specs.Collected.{owned}
use Rattle.tm_runs.specs.World.{world_of, holds, is_fixed_dword, is_private_dword}
use Rattle.tm_runs.proofs.Places.{guest-true}
use Rattle.tm_runs.proofs.Worlds.{holds-is}
use Rattle.tm_plan_owned.proofs.Collected.{IsDword, Dwords, owned-dwords, owned-short}
use Rattle.tm_blocks_compare.specs.Words.{case_masks, case_bytes}
use Rattle.tm_blocks_compare.specs.Runs.{IsKept, ComparingIn}

module _ (p : Program) (h : ℕ) (low : h < 16) where
  kept-private : (a : ℕ) → a % 8 ≡ 0 → private_at h ≤ a → a + 8 ≤ private_at h + private_size → IsKept (world_of p h) a
  unfolding is_private_dword private_at private_size guest_base guest_end
  kept-private a al x y = record {
    may = (al, guest-true a (omega arith) (omega arith));
    low = omega arith;
    own = ap (λ (b : Bool). b || is_fixed_dword p a) (holds-is (private_at h) private_size a x y);
  }

  kept-table : (a : ℕ) → length p.tables ≤ 4194304 → a % 8 ≡ 0 → tables_base ≤ a → a + 8 ≤ tables_base + length p.tables
      → IsKept (world_of p h) a
  unfolding is_fixed_dword tables_base guest_base guest_end
  kept-table a few al x y = record {
    may = (al, guest-true a (omega arith) (omega arith));
    low = omega arith;
    own = or_right (is_private_dword h a) _ (or_right (holds text_base (4 * length p.text) a) _
        (holds-is tables_base (length p.tables) a x y));
  }

-- the masks of dwords of the windows
masks-at : (P : ℕ → Type 0) (bytes : ℕ) → ((a : ℕ) → IsDword a → P (bytes + (a - windows_base))) → (xs : List ℕ)
    → Dwords xs → (j : ℕ) → j < length xs → P (slice_index (map (λ a. bytes + (a - windows_base)) xs) j)
masks-at P bytes f [] d j l = absurd (omega arith)
masks-at P bytes f (a ∷ xs) d zero l = f a d.0
masks-at P bytes f (a ∷ xs) d (suc j) l = masks-at P bytes f xs d.1 j (omega arith)

pub comparing_in : (p : Program) (h c : ℕ) → ComparingIn p h c
unfolding case_masks case_bytes table_at tables_base save_at private_at private_size windows_base
comparing_in p h c s shaped mine below tables =
    let N = p.cases.harts in
    let X = 256 * N + 12288 in
    let C = length p.cases.cases in
    let few = s.harts in
    let many = s.tables in
    let last : X * suc c ≤ X * C = mul-le-mul_left X below in
    let start : c * X + X ≤ C * X = omega arith in
    let low : h < 16 = omega arith in
    let n = owned-short p h in
    let passes = shaped.passes in
    let al : c * X % 8 ≡ 0 = aligned c N in
    record {
      saved = λ k j kl jl. kept-private p h low (save_at h 0 + 8192 * k + 8 * j) (omega arith) (omega arith)
          (omega arith);
      mask = kept-table p h low (tables_base + c * X + 256 * h + 248) many (omega arith) (omega arith) (omega arith);
      each = masks-at (IsKept (world_of p h)) (tables_base + c * X + 256 * N + 6144)
          (λ a d. let lo = d.low in let up = d.high in let ev = d.aligned in
          kept-table p h low (tables_base + c * X + 256 * N + 6144 + (a - windows_base)) many (omega arith)
          (omega arith) (omega arith))
          (owned p.cases h) (owned-dwords p h);
      near = omega arith;
      far = omega arith;
    }
  where
    aligned : (c N : ℕ) → c * (256 * N + 12288) % 8 ≡ 0
    aligned c N = omega arith
