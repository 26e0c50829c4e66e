use Rattle.std.proofs.Common.{arith}
use Rattle.std.proofs.Math.ListN.{length-set}
use Rattle.tm_place.proofs.DrawLemmas.{stepped, drawn-more, drawn-all}
use Rattle.tm_place.proofs.drawing.Draws.of.Goals as goal

pub loop-d-preserved : goal.loop-d-preserved
loop-d-preserved c =
    let next = stepped c.args.seed c.args.c c.args.h c.args.i c.loop-d.d c.next_word.result c.loop-d.rng
    c.next_word.new.self c.loop-d.invariant.place c.next_word.ensures c.requires.slot c.loop-d-test.true in
    record {
      room = simp length-set c.loop-d.invariant.room;
      place = next.1;
      drawn = drawn-more c.args.seed c.args.c c.args.h c.args.i c.loop-d.d c.next_word.result c.loop-d.words
          (omega arith) next.0 c.loop-d.invariant.drawn;
    }

pub returns : goal.returns
returns c = drawn-all c.args.seed c.args.c c.args.h c.args.i c.loop-d.d c.loop-d.words c.loop-d.invariant.room
    (omega arith) c.loop-d.invariant.drawn
