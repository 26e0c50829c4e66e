use Rattle.std.proofs.Common.{sym, ◌∙◌}
use Rattle.std.proofs.lemmas.Bool.{true≢false}
use Rattle.tm_top_run.proofs.Telling.{told-cut}
use Rattle.tm_top_run.proofs.tell.ending.Goals as goal

pub returns : goal.returns
returns c =
    told-cut c.args.program.now c.args.guest.now c.in_ok-text.text c.requires.over
    (λ all. true≢false (sym (c.all_halted.ensures.1 all) ∙ c.if-all_halted.false)) c.in_ok-text.ensures
