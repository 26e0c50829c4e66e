use Rattle.std.proofs.Common.{ℕ, List, subst}
use Rattle.tm_top_owed.proofs.Simulations.{simulated}
use Rattle.tm_top_run.specs.Steps.{IsStatusOf}
use Rattle.tm_top_run.proofs.Telling.{are-verdicts, told-reported}
use Rattle.tm_top_run.proofs.tell.reported.Goals as goal

pub report_text-requires-clause-verdicts : goal.report_text-requires-clause-verdicts
report_text-requires-clause-verdicts c =
    let its = c.journal-journal.ensures in
    are-verdicts c.args.program.now c.args.guest.now c.in_ok-found.found c.journal-journal.result.now.events
    c.requires.sound
    (simulated c.args.program.now c.args.guest.now c.journal-journal.result.now.events c.requires.sound
    c.requires.accepted c.requires.over its.events its.faulted its.plain its.few)
    c.in_ok-found.ensures.each

pub returns : goal.returns
returns c =
    let its = c.journal-journal.ensures in
    let events = c.journal-journal.result.now.events in
    told-reported c.args.program.now c.args.guest.now c.in_ok-found.found c.in_ok-text.text c.status_of.result
    c.len.result events c.requires.sound c.requires.over
    (simulated c.args.program.now c.args.guest.now events c.requires.sound c.requires.accepted c.requires.over
    its.events its.faulted its.plain its.few)
    c.requires.halted its.events c.in_ok-found.ensures.is c.len.ensures c.in_ok-text.ensures
    (subst (λ (v : List ℕ). IsStatusOf v c.status_of.result) c.as_slice.ensures c.status_of.ensures)
