use Rattle.std.proofs.Common.{arith}
use Rattle.tm_desk.proofs.HeldLemmas.{file_of-take_more, differ}
use Rattle.tm_desk.proofs.files.place_of.Goals as goal

pub loop-place-preserved : goal.loop-place-preserved
loop-place-preserved c = record {
  within = omega (arith, c.loop-place-test.true);
  earlier =
      file_of-take_more c.args.files.now c.loop-place.place c.index-files-place.result c.args.name.now
      c.loop-place-test.true c.loop-place.invariant.earlier
      (differ c.as_slice.result.now c.args.name.now _ c.as_slice.ensures c.if-ne.ensures);
}
