use Rattle.std.proofs.Common.{◌≡◌, ◌++◌, take}
use Rattle.tm_tmpl.specs.Printed.{lines_of}
use Rattle.tm_tmpl_read.specs.Steps.{windows_at}
use Rattle.tm_tmpl.proofs.print.put_windows.Given as goal

abbrev pub invariant-loop-window : goal.invariant-loop-window
invariant-loop-window l = l.out ≡ l.initial.out ++ lines_of (windows_at (take l.window-index l.windows))
