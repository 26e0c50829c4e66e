-- How many words each part of a hart's program has, and that all of them fit.
use Rattle.std.proofs.Common.{◌≡◌, ℕ, ◌+◌, ◌-◌, ◌*◌, ◌%◌, ◌^◌, ◌<◌, ◌≤◌, List, []}
use Rattle.std.proofs.Common.{◌++◌, length, ap, arith}
use Rattle.std.specs.Prelude.{slice_get, slice_index_or}
use Rattle.std.proofs.lemmas.List.{length-map}
use Rattle.std.proofs.Math.Nat.{mul-le-mul_left}
use Rattle.tm_world.proofs.Streams.{shaped-stream, stream-of}
use Rattle.tm_plan_cases.specs.declared.cases.Case.{Case}
use Rattle.tm_plan_cases.specs.declared.cases.Cases.{Cases}
use Rattle.tm_plan_cases.specs.Shaped.{AreShaped}
use Rattle.tm_plan_map.specs.Map.{tables_base, table_at, private_at, save_at, verdict_at}
use Rattle.tm_blocks_base.specs.Blocks.{constant}
use Rattle.tm_blocks_base.proofs.Lengths.{length-load_registers, length-save_registers}
use Rattle.tm_blocks_move.proofs.Sizes.{length-first, length-collect}
use Rattle.tm_blocks_compare.specs.Words.{case_masks, case_bytes}
use Rattle.tm_barrier.specs.Words.{barrier}
use Rattle.tm_barrier.proofs.Meet.{length-barrier}
use Rattle.tm_pass_text.specs.Words.{Blocks, gate, case_size, case_before, case_behind, back_words, hart_size}
use Rattle.tm_pass_text.specs.Words.{words_at, streams_of}
use Rattle.tm_pass_text.proofs.Laying.{stream-words}
use Rattle.tm_pass_text.proofs.Room.{hart-fits}
use Rattle.tm_pass_text.specs.Hart.{registers_at, first_at, blocks_of}
use Rattle.tm_pass_place.proofs.Fits.{Fitting, fit-append, fit-constant, fit-loads, fit-saves, fit-first, fit-collect}
use Rattle.tm_pass_place.proofs.Fits.{fit-barrier, fit-call, fit-reset, fit-aim, fit-pass, fit-gate}
use Rattle.tm_pass_place.proofs.Comparing.{fit-compare, compare-short}

module _ (cases : Cases) (shaped : AreShaped cases) where
  abbrev C : ℕ
  C = length cases.cases

  abbrev N : ℕ
  N = cases.harts

  abbrev B : ℕ → Blocks
  B = blocks_of cases

  abbrev ss : ℕ → List (List ℕ)
  ss h = streams_of cases h

  abbrev stream : (h c : ℕ) → List ℕ
  stream h c = slice_index_or (ss h) c []

  pub count : (h : ℕ) → length (ss h) ≡ C
  count h = length-map cases.cases (λ (case : Case). words_at (slice_get case.streams h))

  pub stream-size : (h c : ℕ) → h < N → c < C → (1 ≤ length (stream h c)) × (length (stream h c) ≤ 256)
  stream-size h c l m =
      let s = stream-of cases c h shaped m l in
      let w = stream-words cases c h s.0 s.1 in
      let f = shaped-stream cases c h s.0 shaped s.1 in
      (omega (arith, ap length w, f.some), omega (arith, ap length w, f.few))

  -- ---- addresses

  pub table-low : (c : ℕ) → c < C → table_at N c ≤ tables_base + 458752
  unfolding table_at
  table-low c l =
      let a = shaped.harts in
      let b = shaped.count in
      let m : 256 * N + 12288 ≤ 14336 = omega arith in
      let n : c * (256 * N + 12288) ≤ c * 14336 = mul-le-mul_left c m in
      omega arith

  module _ (h c : ℕ) (number : h < N) (few : c < C) where
    registers-low : registers_at cases h c < 2 ^ 62
    unfolding tables_base
    registers-low = let a = shaped.harts in omega (arith, table-low c few)

    first-low : first_at cases c < 2 ^ 62
    unfolding tables_base
    first-low = let a = shaped.harts in omega (arith, table-low c few)

    masks-low : case_masks cases h c < 2 ^ 62
    unfolding tables_base case_masks
    masks-low = let a = shaped.harts in omega (arith, table-low c few)

    bytes-low : case_bytes cases c < 2 ^ 62
    unfolding tables_base case_bytes
    bytes-low = let a = shaped.harts in omega (arith, table-low c few)

    area-low : save_at h 0 < 2 ^ 62
    unfolding save_at private_at
    area-low = let a = shaped.harts in omega arith

    cell-low : verdict_at c h < 2 ^ 62
    unfolding verdict_at
    cell-low = let a = shaped.harts in let b = shaped.count in omega arith

    -- ---- one case

    pub fits-first : Fitting ((B h).first c)
    fits-first = fit-first cases h shaped (first_at cases c) (omega (arith, first-low))

    pub fits-load : Fitting ((B h).load c)
    fits-load = fit-loads (registers_at cases h c) (omega (arith, registers-low))

    pub fits-compare : Fitting ((B h).compare c)
    fits-compare = fit-compare cases h shaped (save_at h 0) (case_masks cases h c) (case_bytes cases c) (verdict_at c h)
        area-low masks-low bytes-low cell-low

    short-compare : length ((B h).compare c) ≤ 143
    short-compare = compare-short cases h shaped (save_at h 0) (case_masks cases h c) (case_bytes cases c)
        (verdict_at c h) area-low masks-low bytes-low cell-low

    pub short-case : (n : ℕ) → n ≤ 256 → case_size (B h) c n ≤ 1024
    short-case n l = omega (
      arith,
      length-first cases h (first_at cases c) shaped,
      length-load_registers (registers_at cases h c),
      length-save_registers,
      length-collect cases h shaped,
      short-compare,
    )

    pub fits-before : (d : ℕ) → d % 2 ≡ 0 → d ≤ 1048574 → Fitting (case_before (B h) c d)
    unfolding case_before
    fits-before d e l = fit-append fit-reset (fit-append fits-first (fit-append (fit-call d e l) fits-load))

    pub fits-behind : (n d : ℕ) → n ≤ 256 → d % 2 ≡ 0 → d ≤ 1048574
        → Fitting (case_behind (B h) cases.passes c (4 * back_words (B h) c n) d)
    unfolding case_behind
    fits-behind n d m e l =
        let k = shaped.passes in
        let big = short-case n m in
        fit-append fit-saves (fit-append (fit-call d e l)
        (fit-append fit-aim (fit-append (fit-collect cases h shaped)
        (fit-append (fit-pass cases.passes (4 * back_words (B h) c n) (omega arith) (omega arith) (omega arith)
        (omega arith)) fits-compare))))

  -- ---- a hart

  pub short-hart : (h : ℕ) → h < N → 4 * hart_size (B h) (ss h) ≤ 135168
  short-hart h l =
      let a = shaped.harts in
      let b = shaped.count in
      let whole = hart-fits (B h) (ss h) (omega (arith, length-barrier h N))
      (λ d s m e. let few : d < C = omega (arith, count h) in
      short-case h d l few (length s) (omega (arith, ap length e, (stream-size h d l few).1))) in
      omega (arith, count h)

  pub fits-opening : (h : ℕ) → h < N → Fitting (gate h (4 * (hart_size (B h) (ss h) - 2)) ++ constant 31 (private_at h))
  unfolding private_at
  fits-opening h l =
      let a = shaped.harts in
      fit-append (fit-gate h (4 * (hart_size (B h) (ss h) - 2)) (omega arith) (omega arith)
      (omega (arith, short-hart h l))) (fit-constant 31 (private_at h) (omega arith) (omega arith))

  pub fits-barrier : (h : ℕ) → h < N → Fitting ((B h).barrier)
  fits-barrier h l = let a = shaped.harts in fit-barrier h N l (omega arith)
