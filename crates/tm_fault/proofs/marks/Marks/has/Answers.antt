use Rattle.tm_fault.proofs.Entries.{repeats_at}
use Rattle.tm_fault.proofs.marks.Marks.has.Goals as goal

pub returns : goal.returns
returns c = λ lines are. repeats_at lines c.self.inside.entries.items c.args.self.now c.place_of.result
    c.index.result.now c.args.line c.bits_of.result c.self.view_is c.place_of.ensures c.index.ensures are c.requires
    c.bits_of.ensures c.bits_of.type_inv
