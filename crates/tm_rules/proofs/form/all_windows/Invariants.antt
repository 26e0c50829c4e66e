use Rattle.std.proofs.Common.{◌≡◌, take}
use Rattle.tm_rules_first.specs.Windows.{windows_of}
use Rattle.tm_rules.proofs.form.all_windows.Given as goal

abbrev pub invariant-loop-window : goal.invariant-loop-window
invariant-loop-window l = l.all ≡ windows_of (take l.window-index l.windows)
