use Rattle.tm_top_run.proofs.Telling.{told-of}
use Rattle.tm_top_run.proofs.tell.told.Goals as goal

pub returns-clause-told : goal.returns-clause-told
returns-clause-told c =
    let kept = c.of.result in
    told-of c.args.program.now c.args.guest kept.journal.events kept.text c.in_ok-text.text kept.status
    c.in_ok-text.status c.requires.over c.of.ensures.simulated c.of.ensures.journal c.of.ensures.text
    c.of.ensures.status c.in_ok-text.ensures
