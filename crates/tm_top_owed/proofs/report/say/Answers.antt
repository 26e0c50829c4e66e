use Rattle.std.proofs.Common.{refl}
use Rattle.tm_top_owed.specs.Changes.{sink_change}
use Rattle.tm_top_owed.specs.Steps.Told.{told_whole}
use Rattle.tm_top_owed.proofs.Reports.{said_whole}
use Rattle.tm_top_owed.proofs.report.say.Goals as goal

pub returns-in-Ok : goal.returns-in-Ok
returns-in-Ok g c =
    told_whole refl (said_whole (sink_change g.E.Sink.tells g.E.Sink.taken g.E.Sink.faults c.args.err.now
    c.put_all.new.sink) c.args.text.now c.in-Ok.ensures.all)
