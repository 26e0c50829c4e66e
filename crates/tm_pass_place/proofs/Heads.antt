-- Where the cases and the harts of a text begin, one behind another.
use Rattle.std.proofs.Common.{◌≡◌, ℕ, zero, suc, ◌+◌, ◌-◌, ◌*◌, ◌%◌, ◌<◌, ◌≤◌, List, [], length, refl, ap, ◌∙◌, arith}
use Rattle.std.specs.Prelude.{slice_index_or}
use Rattle.tm_plan_cases.specs.declared.cases.Cases.{Cases}
use Rattle.tm_plan_cases.specs.Shaped.{AreShaped}
use Rattle.tm_plan_map.specs.Map.{text_base}
use Rattle.tm_pass_text.specs.Words.{Blocks, base_of, case_size, hart_size, skip, streams_of}
use Rattle.tm_pass_text.proofs.Laying.{skip-next}
use Rattle.tm_pass_text.specs.Hart.{blocks_of}
use Rattle.tm_pass_place.specs.Built.{head_at, end_at, halt_at}
use Rattle.tm_pass_place.proofs.Sizes.{count, stream-size, short-case, short-hart}

module _ (cases : Cases) (shaped : AreShaped cases) where
  abbrev C : ℕ
  C = length cases.cases

  abbrev B : ℕ → Blocks
  B = blocks_of cases

  abbrev ss : ℕ → List (List ℕ)
  ss h = streams_of cases h

  -- ---- the cases of a hart

  module _ (h : ℕ) (number : h < cases.harts) where
    abbrev pub stream : ℕ → List ℕ
    stream c = slice_index_or (ss h) c []

    abbrev size : ℕ → ℕ
    size c = case_size (B h) c (length (stream c))

    pub few-words : (c : ℕ) → c < C → length (stream c) ≤ 256
    few-words c few = (stream-size cases shaped h c number few).1

    pub case-few : (c : ℕ) → c < C → size c ≤ 1024
    case-few c few = short-case cases shaped h c number few (length (stream c)) (few-words c few)

    skip-on : (c : ℕ) → c < C → skip (B h) 0 (ss h) (suc c) ≡ skip (B h) 0 (ss h) c + size c
    skip-on c few =
        let z : 0 + c ≡ c = omega arith in
        skip-next (B h) 0 (ss h) c (omega (arith, count cases shaped h)) ∙ ap
        (λ (d : ℕ). skip (B h) 0 (ss h) c + case_size (B h) d (length (stream c))) z

    pub head-next : (base c n : ℕ) → n ≡ suc c → c < C → head_at cases h base n ≡ head_at cases h base c + 4 * size c
    head-next base c n e few = let f = ap (head_at cases h base) e in omega (arith, skip-on c few, f)

    -- the cases stand close together
    pub heads-low : (base c : ℕ) → c ≤ C → head_at cases h base c ≤ base + 56 + 4096 * c
    heads-low base zero l = omega arith
    heads-low base (suc c) l = omega (
      arith,
      head-next base c (suc c) refl (omega arith),
      case-few c (omega arith),
      heads-low base c (omega arith),
    )

    -- and none behind the halt mark
    heads-rise : (base k c : ℕ) → c + k ≡ C → head_at cases h base c ≤ halt_at cases h base
    heads-rise base zero c e = let same : c ≡ C = omega arith in omega (arith, ap (head_at cases h base) same)
    heads-rise base (suc k) c e = omega (
      arith,
      head-next base c (suc c) refl (omega arith),
      heads-rise base k (suc c) (omega arith),
    )

    -- a stream ends before the halt mark
    pub ends-low : (base c : ℕ) → c < C → end_at cases h base c ≤ halt_at cases h base
    ends-low base c l = omega (
      arith,
      head-next base c (suc c) refl l,
      heads-rise base (C - suc c) (suc c) (omega arith),
    )

  -- ---- the harts

  -- where the next hart's text begins
  pub base-on : (n m : ℕ) → m ≡ suc n → base_of B cases m ≡ base_of B cases n + 4 * hart_size (B n) (ss n)
  base-on n m e = let f = ap (base_of B cases) e in omega (arith, f)

  pub base-low : (n : ℕ) → n ≤ cases.harts → base_of B cases n ≤ text_base + 135168 * n
  base-low zero l = omega arith
  base-low (suc n) l = omega (arith, base-low n (omega arith), short-hart cases shaped n (omega arith))

  pub base-aligned : (n : ℕ) → base_of B cases n % 4 ≡ 0
  unfolding text_base
  base-aligned n = omega arith
