use Rattle.std.proofs.Common.{◌++◌, take, drop, ◌∙◌, ap, arith, append_assoc, length-drop, sym}
use Rattle.std.proofs.Math.Seq.{take-add}
use Rattle.std.proofs.lemmas.List.{take_rest}
use Rattle.tm_desk.proofs.sink.put_all.Goals as goal

pub loop-at-preserved : goal.loop-at-preserved
loop-at-preserved g c =
    let at = c.loop-at.at in
    let n = c.in_ok-count.count in
    let bytes = c.args.bytes.now in
    let before = g.S.Sink.taken c.args.sink.now in
    record {
      within = omega (arith, length-drop at bytes, c.in_ok-count.ensures.within);
      taken = λ told.
          (rw (take_rest bytes at) at (c.in_ok-count.ensures.taken told))
          ∙ ap (λ front. front ++ take n (drop at bytes)) (c.loop-at.invariant.taken told)
          ∙ append_assoc before (take at bytes) (take n (drop at bytes))
          ∙ ap (λ more. before ++ more) (sym (take-add at n bytes));
      quiet = c.in_ok-count.ensures.quiet ∙ c.loop-at.invariant.quiet;
    }
