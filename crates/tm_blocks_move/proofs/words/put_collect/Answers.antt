use Rattle.std.proofs.Common.{List, [], ◌∷◌, ◌++◌}
use Rattle.std.proofs.lemmas.Result.{on_ok_weaker}
use Rattle.tm_table.specs.declared.instr.Instr.{Instr}
use Rattle.tm_blocks_base.specs.Instrs.{addi}
use Rattle.tm_blocks_base.specs.Blocks.{copy_dwords}
use Rattle.tm_blocks_code.proofs.Puts.{and_then}
use Rattle.tm_blocks_move.specs.Lines.{collect_windows, collect_all}
use Rattle.tm_blocks_move.proofs.Collecting.{collect_all_runs}
use Rattle.tm_blocks_move.proofs.Once.{collected_once}
use Rattle.tm_blocks_move.proofs.Sizes.{length-collect}
use Rattle.tm_blocks_move.proofs.words.put_collect.Goals as goal

pub returns-clause-words : goal.returns-clause-words
unfolding collect_all
returns-clause-words c =
    let line = copy_dwords 31 0 9 0 30 in
    let on : List Instr = addi 2 9 240 ∷ [] in
    let two = and_then line on _ _ _ c.in_ok-put_line.ensures c.in_ok-put_target.ensures in
    on_ok_weaker c.put_collect_windows.result (λ h. and_then (line ++ on) (collect_windows c.args.cases.now c.args.h) _
    _ _ two h) c.put_collect_windows.ensures

pub returns-clause-short : goal.returns-clause-short
returns-clause-short c =
    on_ok_weaker c.put_collect_windows.result (λ h. length-collect c.args.cases.now c.args.h c.requires.shaped)
    c.put_collect_windows.ensures

pub returns-clause-runs : goal.returns-clause-runs
returns-clause-runs c = on_ok_weaker c.put_collect_windows.result (λ h. collect_all_runs c.args.cases.now c.args.h)
    c.put_collect_windows.ensures

pub returns-clause-once : goal.returns-clause-once
returns-clause-once c = on_ok_weaker c.put_collect_windows.result (λ h. collected_once c.args.cases.now c.args.h)
    c.put_collect_windows.ensures
