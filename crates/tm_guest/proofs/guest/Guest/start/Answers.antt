use Rattle.std.proofs.Common.{ℕ, List, subst, sym}
use Rattle.tm_plan_journal.specs.Journaled.{Journaled}
use Rattle.tm_plan_script.specs.declared.faults.FaultLine.{FaultLine}
use Rattle.tm_plan_script.specs.Accepted.{AreAccepted}
use Rattle.tm_world.specs.Work.{NeverStuck}
use Rattle.tm_guest.specs.Fields.{AreDecoded, KeepsReplay}
use Rattle.tm_guest.proofs.Opening.{keeps-fresh}
use Rattle.tm_guest.proofs.guest.Guest.start.Goals as goal

pub invariant_of-result : goal.invariant_of-result
invariant_of-result c =
    let p = c.args.program.now in
    let changes = c.in_ok-changes.changes in
    let made = c.in_ok-changes.ensures in
    let decodes = c.in_ok-decodes.decodes.items in
    let harts = c.in_ok-harts.harts.items in
    let ram = c.in_ok-ram.ram in
    let asked = c.requires in
    let rows = subst (λ (ws : List ℕ). AreDecoded ws decodes) c.as_slice.ensures c.in_ok-decodes.ensures in
    let accepted = subst (λ (ls : List FaultLine). AreAccepted p.cases ls) (sym made.lines) asked.accepted in
    let unstuck = subst (λ (ls : List FaultLine). NeverStuck p ls) (sym made.lines) asked.unstuck in
    subst (λ (j : Journaled). KeepsReplay p changes c.args.limit decodes harts ram j) (sym c.in_ok-journal.ensures)
    (keeps-fresh p changes c.args.limit decodes harts ram asked.program made.program asked.laid accepted unstuck
    asked.few rows c.in_ok-harts.ensures c.in_ok-ram.ensures)
