use Rattle.std.proofs.Common.{◌∙◌, ◌==◌, Some, option_map, sym, ap}
use Rattle.std.proofs.lemmas.Bool.{eq-eqb, ne_eqb}
use Rattle.tm_rules_first.specs.Windows.{window_of}
use Rattle.tm_rules_first.proofs.FindLemmas.{found-at, none-more, none-all, find-map}
use Rattle.tm_rules_first.proofs.place.numbered.Goals as goal

pub returns-then-window-number : goal.returns-then-window-number
returns-then-window-number c =
    let same = eq-eqb _ _ c.if-window-number.true in
    ap Some c.window_of.ensures ∙ sym (find-map (λ w. w.number == c.args.number) window_of c.args.windows.now
    ∙ ap (option_map window_of) (found-at (λ w. w.number == c.args.number) c.args.windows.now c.loop-window.window-index
    _ c.loop-window-test.true c.loop-window.invariant same))

pub loop-window-preserved : goal.loop-window-preserved
loop-window-preserved c =
    let other = ne_eqb _ _ c.if-window-number.false in
    none-more (λ w. w.number == c.args.number) c.args.windows.now c.loop-window.window-index _ c.loop-window-test.true
    c.loop-window.invariant other

pub returns : goal.returns
returns c =
    let none = none-all (λ w. w.number == c.args.number) c.args.windows.now c.loop-window.window-index
    c.loop-window-test.false c.loop-window.invariant in
    sym (find-map (λ w. w.number == c.args.number) window_of c.args.windows.now ∙ ap (option_map window_of) none)
