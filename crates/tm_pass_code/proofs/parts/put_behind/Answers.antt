use Rattle.std.proofs.Common.{ℕ, [], ◌∷◌, ◌++◌, ap, ◌∙◌}
use Rattle.tm_asm.specs.Sheet.{puts}
use Rattle.tm_blocks_base.specs.Blocks.{save_registers}
use Rattle.tm_blocks_code.proofs.Puts.{and_then}
use Rattle.tm_blocks_move.specs.Lines.{collect_all}
use Rattle.tm_blocks_compare.specs.Words.{compare_case}
use Rattle.tm_pass_text.specs.Words.{call, aim, turn, case_behind}
use Rattle.tm_pass_code.proofs.parts.put_behind.Goals as goal

pub returns : goal.returns
unfolding case_behind
returns c =
    let cases = c.args.cases.now in
    let h = c.args.h in
    let collect = collect_all cases h in
    let compare = compare_case cases c.args.c h in
    let again = turn cases.passes c.args.back in
    let w5 = c.in_ok-put_turn.ensures ∙ ap (λ (x : ℕ). puts c.put_collect.new.code (turn x c.args.back))
    c.passes_of.ensures.is in
    let five = and_then again compare _ _ _ w5 c.in_ok-put_compare.ensures.words in
    let four = and_then collect (again ++ compare) _ _ _ c.in_ok-put_collect.ensures.words five in
    let three = and_then aim (collect ++ (again ++ compare)) _ _ _ c.in_ok-put_aim.ensures four in
    let two = and_then (call c.args.d ∷ []) (aim ++ (collect ++ (again ++ compare))) _ _ _ c.in_ok-put_call.ensures
    three in
    and_then save_registers (call c.args.d ∷ (aim ++ (collect ++ (again ++ compare)))) _ _ _
    c.in_ok-put_save_registers.ensures.words two
