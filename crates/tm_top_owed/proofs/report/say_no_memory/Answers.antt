use Rattle.tm_top_owed.specs.Texts.{no_memory}
use Rattle.tm_top_owed.specs.Changes.{sink_change}
use Rattle.tm_top_owed.proofs.Reports.{put_front}
use Rattle.tm_top_owed.proofs.report.say_no_memory.Goals as goal

pub returns : goal.returns
unfolding no_memory
returns g c =
    put_front c.put_all.result (sink_change g.E.Sink.tells g.E.Sink.taken g.E.Sink.faults c.args.err.now
    c.put_all.new.sink) no_memory
    c.put_all.ensures.all c.put_all.ensures.prefix
