use Rattle.std.proofs.Common.{◌∷◌, [], refl}
use Rattle.tm_tmpl_read.specs.Steps.{window_at, windows_at}
use Rattle.tm_tmpl_read.proofs.StepLemmas.{windows-more}
use Rattle.tm_tmpl.proofs.PrintLemmas.{lines-none, lines-one, printed-more}
use Rattle.tm_tmpl.proofs.print.put_windows.Goals as goal

pub loop-window-init : goal.loop-window-init
loop-window-init c = lines-none c.args.out.now

pub loop-window-preserved : goal.loop-window-preserved
loop-window-preserved c =
    printed-more (λ w. window_at w ∷ []) windows_at windows-more c.args.windows.now c.loop-window.window-index _ _
    c.loop-window-test.true refl
    c.args.out.now c.loop-window.out c.put_window.new.out c.loop-window.invariant
    (lines-one _ c.loop-window.out c.put_window.new.out c.in_ok-put_window.ensures)
