use Rattle.std.proofs.Common.{◌≡◌, ◌==◌, None, take}
use Rattle.std.specs.Prelude.{find}
use Rattle.tm_rules_first.proofs.place.numbered.Given as goal

abbrev pub invariant-loop-window : goal.invariant-loop-window
invariant-loop-window l = find (λ w. w.number == l.number) (take l.window-index l.windows) ≡ None
