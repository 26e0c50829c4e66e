use Rattle.std.proofs.Common.{◌≡◌, Bool, List, [], ◌∷◌, ◌++◌, ap, ◌∙◌, sym, ne_eqb}
use Rattle.std.specs.Prelude.{if◌then◌else◌}
use Rattle.std.proofs.lemmas.Result.{on_ok_weaker}
use Rattle.tm_table.specs.declared.instr.Instr.{Instr}
use Rattle.tm_asm.specs.Sheet.{puts}
use Rattle.tm_blocks_base.specs.Instrs.{addi}
use Rattle.tm_blocks_base.specs.Blocks.{constant}
use Rattle.tm_blocks_code.proofs.Puts.{and_then}
use Rattle.tm_blocks_compare.specs.Words.{line_turn, window_check}
use Rattle.tm_blocks_compare.proofs.Lengths.{no-check}
use Rattle.tm_blocks_compare.proofs.checks.put_window_check.Goals as goal

pub returns-then-lines-eq0 : goal.returns-then-lines-eq0
returns-then-lines-eq0 c = no-check c.args.masks c.args.lines c.args.n c.args.b c.args.far c.args.code.now
    c.if-lines-eq0.true

pub returns : goal.returns
unfolding window_check
returns c =
    let front = constant 3 c.args.masks in
    let count : List Instr = addi 4 0 c.args.lines ∷ [] in
    let turn = line_turn c.args.n c.args.b c.args.far in
    let two = and_then front count _ _ _ c.in_ok-put_constant.ensures.words c.in_ok-put_count.ensures in
    let is : window_check c.args.masks c.args.lines c.args.n c.args.b c.args.far ≡ front ++ count ++ turn =
    ap (λ (b : Bool). if b then [] else front ++ count ++ turn) (ne_eqb c.args.lines 0 c.if-lines-eq0.false) in
    on_ok_weaker c.put_line_turn.result (λ h. and_then (front ++ count) turn _ _ _ two h ∙ ap (puts c.args.code.now)
    (sym is)) c.put_line_turn.ensures
