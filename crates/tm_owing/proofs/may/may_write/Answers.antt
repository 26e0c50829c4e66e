use Rattle.std.proofs.Common.{sym, ◌∙◌, arith}
use Rattle.tm_owing.proofs.Late.{window-may}
use Rattle.tm_owing.proofs.may.may_write.Goals as goal

pub returns-then-is_window : goal.returns-then-is_window
returns-then-is_window c =
    let limit = c.requires.program.cases.harts in
    c.may_write_window.ensures
    ∙ sym (window-may c.args.program.now c.args.q c.args.h c.args.b c.requires.program
    (omega (arith, c.requires.hart, limit))
    (sym c.is_window.ensures ∙ c.if-is_window.true))
