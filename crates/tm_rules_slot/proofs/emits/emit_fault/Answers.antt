use Rattle.std.proofs.Common.{sym, ◌∙◌}
use Rattle.tm_place.specs.Placed.{sharing_of}
use Rattle.tm_place.proofs.AllowedLemmas.{shown-of}
use Rattle.tm_rules_slot.proofs.Ruling.{instr-ruled, no-product}
use Rattle.tm_rules_slot.proofs.Reading.{line-fits}
use Rattle.tm_rules_slot.proofs.emits.emit_fault.Goals as goal

pub returns-in-Ok-clause-ruled : goal.returns-in-Ok-clause-ruled
returns-in-Ok-clause-ruled c = λ e.
    let read = sym c.parse_line.ensures ∙ c.in-Ok.is in
    record {
      instr = c.in-Ok.i;
      read = read;
      allowed = no-product (sharing_of c.args.p.now).line (sharing_of c.args.p.now).part c.args.p.now.shape
          c.args.topo.now c.args.whom c.args.slot c.args.slots c.in-Ok.i (sym c.instr_fault.ensures ∙ e);
      each = instr-ruled (sharing_of c.args.p.now) c.args.p.now.shape c.args.topo.now c.args.whom c.args.slot
          c.args.slots c.in-Ok.i (shown-of c.args.p.now) c.requires.harts
          (line-fits c.args.line.now c.in-Ok.i read) (sym c.instr_fault.ensures ∙ e);
    }
