use Rattle.std.proofs.Common.{ℕ, List, [], ◌∷◌, ◌++◌, ap, ap₂, ◌∙◌}
use Rattle.std.proofs.lemmas.Result.{on_ok_weaker}
use Rattle.tm_table.specs.declared.instr.Instr.{Instr}
use Rattle.tm_plan_map.specs.Map.{save_at, verdict_at}
use Rattle.tm_asm.specs.Sheet.{puts}
use Rattle.tm_blocks_base.specs.Instrs.{addi, ld, sd}
use Rattle.tm_blocks_base.specs.Blocks.{constant}
use Rattle.tm_blocks_code.proofs.Puts.{and_then}
use Rattle.tm_blocks_base.proofs.Stored.{last_store_runs}
use Rattle.tm_blocks_compare.specs.Words.{all_passes, closing, compare_all_but_last, compare_all, case_masks}
use Rattle.tm_blocks_compare.specs.Words.{case_bytes}
use Rattle.tm_blocks_compare.proofs.Whole.{compare_all_runs, compare-all-short}
use Rattle.tm_blocks_compare.proofs.Least.{names_least_of_all}
use Rattle.tm_blocks_compare.proofs.words.put_compare.Goals as goal

pub returns-clause-words : goal.returns-clause-words
unfolding compare_all compare_all_but_last
returns-clause-words c =
    let cases = c.args.cases.now in
    let h = c.args.h in
    let masks = case_masks cases h c.args.c in
    let bytes = case_bytes cases c.args.c in
    let first = save_at h 0 in
    let cell = verdict_at c.args.c h in
    let l1 = constant 4 masks in
    let l2 : List Instr = ld 5 0 4 ∷ addi 9 0 1 ∷ [] in
    let l3 = all_passes cases h first bytes in
    let l5 = constant 7 cell in
    let w1 = c.in_ok-put_constant.ensures.words ∙ ap (λ (x : ℕ). puts c.args.code.now (constant 4 x)) c.masks_of.ensures
    in
    let w2 = c.in_ok-put_opening.ensures in
    let w3 = c.in_ok-put_all_passes.ensures ∙ ap₂ (λ (x y : ℕ). puts c.put_opening.new.code (all_passes cases h x y))
    c.save_addr.ensures c.bytes_at.ensures.is in
    let w5 = c.in_ok-put_constant-2.ensures.words ∙ ap (λ (x : ℕ). puts c.put_closing.new.code (constant 7 x))
    c.verdict_addr.ensures in
    let two = and_then l1 l2 _ _ _ w1 w2 in
    let three = and_then (l1 ++ l2) l3 _ _ _ two w3 in
    let four = and_then (l1 ++ l2 ++ l3) closing _ _ _ three c.in_ok-put_closing.ensures in
    let five = and_then (l1 ++ l2 ++ l3 ++ closing) l5 _ _ _ four w5 in
    on_ok_weaker c.put_store.result (λ x. and_then (compare_all_but_last cases h first masks bytes cell) (sd 8 0 7 ∷ [])
    _ _ _ five x) c.put_store.ensures

pub returns-clause-short : goal.returns-clause-short
returns-clause-short c =
    on_ok_weaker c.put_store.result (λ x. compare-all-short c.args.cases.now c.args.h (save_at c.args.h 0)
    (case_masks c.args.cases.now c.args.h c.args.c) (case_bytes c.args.cases.now c.args.c)
    (verdict_at c.args.c c.args.h)) c.put_store.ensures

pub returns-clause-runs : goal.returns-clause-runs
returns-clause-runs c =
    on_ok_weaker c.put_store.result (λ x. compare_all_runs c.args.cases.now c.args.h (save_at c.args.h 0)
    (case_masks c.args.cases.now c.args.h c.args.c) (case_bytes c.args.cases.now c.args.c)
    (verdict_at c.args.c c.args.h)) c.put_store.ensures

pub returns-clause-last : goal.returns-clause-last
returns-clause-last c = on_ok_weaker c.put_store.result (λ x. last_store_runs (verdict_at c.args.c c.args.h))
    c.put_store.ensures

pub returns-clause-least : goal.returns-clause-least
returns-clause-least c =
    on_ok_weaker c.put_store.result (λ x. names_least_of_all c.args.cases.now c.args.h (save_at c.args.h 0)
    (case_masks c.args.cases.now c.args.h c.args.c) (case_bytes c.args.cases.now c.args.c)) c.put_store.ensures
