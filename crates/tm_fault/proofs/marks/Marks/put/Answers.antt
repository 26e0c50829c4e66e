use Rattle.tm_fault.proofs.Entries.{one_more_at}
use Rattle.tm_fault.proofs.marks.Marks.put.Goals as goal

pub returns-clause-marks : goal.returns-clause-marks
returns-clause-marks c = λ lines are. one_more_at lines c.self.inside.entries.items c.args.self.now c.place_of.result
    c.index_mut.result.now c.args.line c.bits_of.result c.self.view_is c.place_of.ensures c.index_mut.ensures.value are
    c.requires c.bits_of.ensures
