use Rattle.std.proofs.Common.{◌∙◌, sym, arith, ◌∷◌, []}
use Rattle.tm_tmpl_read.specs.Grammar.{windows}
use Rattle.tm_tmpl_read.specs.Steps.{follows, window_at, windows_at}
use Rattle.tm_tmpl_read.proofs.StepLemmas.{one-more, windows-more}
use Rattle.tm_tmpl_read.proofs.read.read_windows.Goals as goal
use Rattle.tm_base.proofs.ListLemmas.{was-ok}

pub loop-windows-preserved : goal.loop-windows-preserved
loop-windows-preserved c =
    let next = rw c.in-Some.is at c.in_ok-window.ensures.next in
    let left = rw c.in-Some.is at c.in_ok-window.ensures.left in
    let pushed = was-ok c.push.result _ (sym c.is_err.ensures.value ∙ c.if-is_err.false) c.push.ensures.ok in
    record {
      same = one-more (follows c.args.text.now c.args.tokens.now windows) (λ w. window_at w ∷ []) windows_at
          windows-more c.loop-windows.windows c.push.new.self c.in-Some.window _ _ c.loop-windows.invariant.same next
          pushed;
      spans = left.0;
      less = omega (arith, left.1, c.loop-windows.invariant.less);
    }
