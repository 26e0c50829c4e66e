use Rattle.std.proofs.Common.{◌≡◌, Bool, List, [], ◌∷◌, ◌++◌, ap, ◌∙◌, sym, ne_eqb}
use Rattle.std.specs.Prelude.{if◌then◌else◌}
use Rattle.std.proofs.lemmas.Result.{on_ok_weaker}
use Rattle.tm_table.specs.declared.instr.Instr.{Instr}
use Rattle.tm_asm.specs.Sheet.{puts}
use Rattle.tm_blocks_base.specs.Instrs.{addi}
use Rattle.tm_blocks_base.specs.Blocks.{constant}
use Rattle.tm_blocks_code.proofs.Puts.{and_then}
use Rattle.tm_blocks_move.specs.Words.{lines_loop, move_lines}
use Rattle.tm_blocks_move.proofs.Sizes.{no-lines}
use Rattle.tm_blocks_move.proofs.words.put_move_lines.Goals as goal

pub returns-then-lines-eq0 : goal.returns-then-lines-eq0
returns-then-lines-eq0 c = no-lines c.args.from c.args.lines c.args.n c.args.a c.args.b c.args.code.now
    c.if-lines-eq0.true

pub returns : goal.returns
unfolding move_lines
returns c =
    let front = constant 1 c.args.from in
    let count : List Instr = addi 4 0 c.args.lines ∷ [] in
    let loop = lines_loop c.args.n c.args.a c.args.b in
    let two = and_then front count _ _ _ c.in_ok-put_constant.ensures.words c.in_ok-put_count.ensures in
    let is : move_lines c.args.from c.args.lines c.args.n c.args.a c.args.b ≡ front ++ count ++ loop =
    ap (λ (b : Bool). if b then [] else front ++ count ++ loop) (ne_eqb c.args.lines 0 c.if-lines-eq0.false) in
    on_ok_weaker c.put_lines_loop.result (λ h. and_then (front ++ count) loop _ _ _ two h ∙ ap (puts c.args.code.now)
    (sym is)) c.put_lines_loop.ensures
