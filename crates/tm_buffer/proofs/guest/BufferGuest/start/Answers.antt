use Rattle.std.proofs.Common.{ℕ, List, [], subst, sym}
use Rattle.tm_plan_journal.specs.Journaled.{Journaled}
use Rattle.tm_guest.specs.Fields.{AreDecoded}
use Rattle.tm_buffer.specs.Listed.{Stored}
use Rattle.tm_buffer.specs.Fields.{KeepsStored}
use Rattle.tm_buffer.proofs.Opening.{keeps-fresh}
use Rattle.tm_buffer.proofs.guest.BufferGuest.start.Goals as goal

pub invariant_of-result : goal.invariant_of-result
invariant_of-result c =
    let p = c.args.program.now in
    let decodes = c.in_ok-decodes.decodes.items in
    let harts = c.in_ok-harts.harts.items in
    let ram = c.in_ok-ram.ram in
    let asked = c.requires in
    let rows = subst (λ (ws : List ℕ). AreDecoded ws decodes) c.as_slice.ensures c.in_ok-decodes.ensures in
    subst (λ (j : Journaled). KeepsStored p c.args.limit decodes harts ram j c.in_ok-drains.drains)
    (sym c.in_ok-journal.ensures)
    (subst (λ (d : Stored). KeepsStored p c.args.limit decodes harts ram (record {
      events = [];
      room = c.args.limit;
    }) d) (sym c.in_ok-drains.ensures)
    (record {
      keeps = keeps-fresh p c.args.limit decodes harts ram asked.program asked.unstuck asked.few rows
          c.in_ok-harts.ensures c.in_ok-ram.ensures;
      made = tt;
    }))
