-- The instructions that compare passes fit into their words, and how many there are.
use Rattle.std.proofs.Common.{◌≡◌, ℕ, ◌+◌, ◌-◌, ◌*◌, ◌/◌, ◌^◌, ◌<◌, ◌≤◌, Bool, true, false, ◌==◌, List, [], ◌∷◌, ◌++◌}
use Rattle.std.proofs.Common.{length, arith, length-append}
use Rattle.std.specs.Prelude.{if◌then◌else◌}
use Rattle.std.proofs.Math.Nat.{mul-le-mul_left}
use Rattle.tm_table.specs.declared.instr.Instr.{Instr}
use Rattle.tm_plan_cases.specs.declared.cases.Cases.{Cases}
use Rattle.tm_plan_cases.specs.Shaped.{AreShaped}
use Rattle.tm_blocks_base.specs.Instrs.{addi, ld, sd}
use Rattle.tm_blocks_base.specs.Blocks.{constant}
use Rattle.tm_blocks_base.proofs.Lengths.{length-constant}
use Rattle.tm_blocks_base.proofs.Fitting.{addi_fits, slli_fits, add_fits, xor_fits, and_fits, ld_fits, sd_fits}
use Rattle.tm_blocks_base.proofs.Fitting.{beq_fits, bne_fits, jump_fits, subi_fits, bne_back_fits}
use Rattle.tm_plan_owned.specs.Lines.{line_count, line_place}
use Rattle.tm_plan_owned.proofs.Reach.{reach, line_most}
use Rattle.tm_blocks_compare.specs.Words.{register_loop, line_turn, window_check, own_check, last_check, next_check}
use Rattle.tm_blocks_compare.specs.Words.{first_check, pass_head, pass_body, pass_tail, one_pass, all_passes, closing}
use Rattle.tm_blocks_compare.specs.Words.{compare_all_but_last, compare_all}
use Rattle.tm_blocks_compare.proofs.Lengths.{own-short, pass-short}
use Rattle.tm_pass_place.proofs.Fits.{Fitting, Nil, Fit, fit-append, fit-constant}

fit-registers : (far : ℕ) → far ≤ 200 → Fitting (register_loop far)
unfolding register_loop
fit-registers far l = Fit (addi_fits 10 0 2 (omega arith) (omega arith) (omega arith))
    (Fit (addi_fits 4 0 30 (omega arith) (omega arith) (omega arith))
    (Fit (addi_fits 8 8 1 (omega arith) (omega arith) (omega arith))
    (Fit (and_fits 6 10 5 (omega arith) (omega arith) (omega arith))
    (Fit (beq_fits 6 0 16 (omega arith) (omega arith) (omega arith) (omega arith))
    (Fit (ld_fits 6 0 1 (omega arith) (omega arith) (omega arith))
    (Fit (ld_fits 7 0 2 (omega arith) (omega arith) (omega arith))
    (Fit (bne_fits 6 7 (4 * (6 + far)) (omega arith) (omega arith) (omega arith) (omega arith))
    (Fit (addi_fits 1 1 8 (omega arith) (omega arith) (omega arith))
    (Fit (addi_fits 2 2 8 (omega arith) (omega arith) (omega arith))
    (Fit (add_fits 10 10 10 (omega arith) (omega arith) (omega arith))
    (Fit (subi_fits 4 4 1 (omega arith) (omega arith) (omega arith) (omega arith))
    (Fit (bne_back_fits 4 0 40 (omega arith) (omega arith) (omega arith) (omega arith) (omega arith)) Nil))))))))))))

fit-line : (n b far : ℕ) → n ≤ 16 → b < 2048 → far ≤ 200 → Fitting (line_turn n b far)
fit-line n b far l k m = Fit (addi_fits 10 0 n (omega arith) (omega arith) (omega arith))
    (Fit (addi_fits 8 8 1 (omega arith) (omega arith) (omega arith))
    (Fit (ld_fits 6 0 1 (omega arith) (omega arith) (omega arith))
    (Fit (ld_fits 7 0 2 (omega arith) (omega arith) (omega arith))
    (Fit (xor_fits 6 6 7 (omega arith) (omega arith) (omega arith))
    (Fit (ld_fits 7 0 3 (omega arith) (omega arith) (omega arith))
    (Fit (and_fits 6 6 7 (omega arith) (omega arith) (omega arith))
    (Fit (bne_fits 6 0 (4 * (9 + far)) (omega arith) (omega arith) (omega arith) (omega arith))
    (Fit (addi_fits 1 1 8 (omega arith) (omega arith) (omega arith))
    (Fit (addi_fits 2 2 8 (omega arith) (omega arith) (omega arith))
    (Fit (addi_fits 3 3 8 (omega arith) (omega arith) (omega arith))
    (Fit (subi_fits 10 10 1 (omega arith) (omega arith) (omega arith) (omega arith))
    (Fit (bne_back_fits 10 0 44 (omega arith) (omega arith) (omega arith) (omega arith) (omega arith))
    (Fit (addi_fits 3 3 b (omega arith) (omega arith) k)
    (Fit (subi_fits 4 4 1 (omega arith) (omega arith) (omega arith) (omega arith))
    (Fit (bne_back_fits 4 0 60 (omega arith) (omega arith) (omega arith) (omega arith) (omega arith)) Nil)))))))))))))))

fit-check : (masks lines n b far : ℕ) → masks < 2 ^ 64 → lines < 2048 → n ≤ 16 → b < 2048 → far ≤ 200
    → Fitting (window_check masks lines n b far)
unfolding window_check
fit-check masks lines n b far f c l k m = by (lines == 0)
  where
    by : (t : Bool) → Fitting (if t then [] else constant 3 masks ++ (addi 4 0 lines ∷ []) ++ line_turn n b far)
    by true = Nil
    by false = fit-append (fit-append (fit-constant 3 masks (omega arith) f)
        (Fit (addi_fits 4 0 lines (omega arith) (omega arith) c) Nil)) (fit-line n b far l k m)

module _ (cases : Cases) (h : ℕ) (s : AreShaped cases) (first masks bytes cell : ℕ) (a : first < 2 ^ 62) (b : masks
    < 2 ^ 62) (c : bytes < 2 ^ 62) (d : cell < 2 ^ 62) where
  stride : cases.line * cases.harts - cases.line < 2048
  stride = let m = line_most cases s in let k = mul-le-mul_left cases.line s.harts.1 in omega arith

  fit-own : (v far : ℕ) → v < 3 → far ≤ 200 → Fitting (own_check cases h bytes v far)
  fit-own v far l m =
      let e = reach cases h v s l in
      fit-check (bytes + line_place cases h v) (line_count cases h v) (cases.line / 8)
      (cases.line * cases.harts - cases.line) far (omega (arith, e.place)) e.count
      (omega (arith, line_most cases s)) stride m

  last-short : length (last_check cases h bytes) ≤ 28
  last-short = own-short cases h bytes 2 5

  next-short : length (next_check cases h bytes) ≤ 28
  next-short = own-short cases h bytes 1 (5 + length (last_check cases h bytes))

  first-short : length (first_check cases h bytes) ≤ 28
  first-short = own-short cases h bytes 0 (5 + length (last_check cases h bytes) + length (next_check cases h bytes))

  fit-head : Fitting (pass_head first)
  unfolding pass_head
  fit-head = fit-append (fit-constant 1 first (omega arith) (omega arith))
      (Fit (slli_fits 2 9 13 (omega arith) (omega arith) (omega arith))
      (Fit (add_fits 2 2 1 (omega arith) (omega arith) (omega arith))
      (Fit (addi_fits 8 0 0 (omega arith) (omega arith) (omega arith)) Nil)))

  fit-body : Fitting (pass_body cases h bytes)
  unfolding pass_body
  fit-body =
      fit-append (fit-append (fit-append
      (fit-registers (5 + length (last_check cases h bytes) + length (next_check cases h bytes)
      + length (first_check cases h bytes)) (omega (arith, last-short, next-short, first-short)))
      (fit-own 0 (5 + length (last_check cases h bytes) + length (next_check cases h bytes)) (omega arith)
      (omega (arith, last-short, next-short))))
      (fit-own 1 (5 + length (last_check cases h bytes)) (omega arith) (omega (arith, last-short))))
      (fit-own 2 5 (omega arith) (omega arith))

  fit-tail : Fitting (pass_tail cases.passes (length (one_pass cases h first bytes)))
  fit-tail =
      let k = s.passes in
      let n = pass-short cases h bytes first in
      Fit (addi_fits 9 9 1 (omega arith) (omega arith) (omega arith))
      (Fit (addi_fits 10 0 cases.passes (omega arith) (omega arith) (omega arith))
      (Fit (bne_back_fits 9 10 (4 * (length (one_pass cases h first bytes) + 2)) (omega arith) (omega arith)
      (omega arith) (omega arith) (omega arith)) Nil))

  fit-passes : Fitting (all_passes cases h first bytes)
  unfolding all_passes
  fit-passes = fit-append (fit-append fit-head fit-body) fit-tail

  fit-closing : Fitting closing
  fit-closing = Fit (addi_fits 8 0 0 (omega arith) (omega arith) (omega arith))
      (Fit (jump_fits 12 (omega arith) (omega arith))
      (Fit (slli_fits 9 9 32 (omega arith) (omega arith) (omega arith))
      (Fit (add_fits 8 8 9 (omega arith) (omega arith) (omega arith)) Nil)))

  fit-but-last : Fitting (compare_all_but_last cases h first masks bytes cell)
  unfolding compare_all_but_last
  fit-but-last =
      fit-append (fit-append (fit-append (fit-append
      (fit-constant 4 masks (omega arith) (omega arith))
      (Fit (ld_fits 5 0 4 (omega arith) (omega arith) (omega arith))
      (Fit (addi_fits 9 0 1 (omega arith) (omega arith) (omega arith)) Nil)))
      fit-passes) fit-closing) (fit-constant 7 cell (omega arith) (omega arith))

  pub fit-compare : Fitting (compare_all cases h first masks bytes cell)
  unfolding compare_all
  fit-compare = fit-append fit-but-last (Fit (sd_fits 8 0 7 (omega arith) (omega arith) (omega arith)) Nil)

  length-passes : length (all_passes cases h first bytes) ≤ 114
  unfolding all_passes
  length-passes =
      omega (
        arith,
        length-append (one_pass cases h first bytes)
            (pass_tail cases.passes (length (one_pass cases h first bytes))),
        pass-short cases h bytes first,
      )

  length-but-last : length (compare_all_but_last cases h first masks bytes cell) ≤ 142
  unfolding compare_all_but_last
  length-but-last =
      let x : List Instr = ld 5 0 4 ∷ addi 9 0 1 ∷ [] in
      let y = all_passes cases h first bytes in
      omega (
        arith,
        length-append (constant 4 masks ++ x ++ y ++ closing) (constant 7 cell),
        length-append (constant 4 masks ++ x ++ y) closing,
        length-append (constant 4 masks ++ x) y,
        length-append (constant 4 masks) x,
        length-constant 4 masks,
        length-constant 7 cell,
        length-passes,
      )

  pub length-compared : length (compare_all cases h first masks bytes cell)
      ≡ length (compare_all_but_last cases h first masks bytes cell) + 1
  unfolding compare_all
  length-compared = length-append (compare_all_but_last cases h first masks bytes cell) (sd 8 0 7 ∷ [])

  pub compare-short : length (compare_all cases h first masks bytes cell) ≤ 143
  compare-short = omega (arith, length-compared, length-but-last)
