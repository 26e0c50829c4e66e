use Rattle.std.proofs.Common.{◌≡◌, None, sym}
use Rattle.std.proofs.lemmas.Bool.{eqb-true, eqb-false}
use Rattle.tm_rules_first.specs.Rules.{first_of}
use Rattle.tm_rules_first.proofs.TemplateLemmas.{in_windows, in_cases, passes-stop, windows-stop, cases-stop}
use Rattle.tm_rules_first.proofs.TemplateLemmas.{end-stops, nothing-stops}
use Rattle.tm_rules_first.proofs.walk.first_broken.Goals as goal

pub returns-then-not-are_passes : goal.returns-then-not-are_passes
returns-then-not-are_passes c = sym (passes-stop c.args.topo.now c.args.t.now (sym c.if-not-are_passes.ensures))

pub returns-in-Some : goal.returns-in-Some
returns-in-Some c =
    sym (windows-stop c.args.topo.now c.args.t.now c.in-Some.broken (sym c.if-not-are_passes.ensures)
    (sym (rw c.as_slice-windows.ensures at c.in-Some.ensures)))

pub returns-in-Some-cases_broken : goal.returns-in-Some-cases_broken
returns-in-Some-cases_broken c =
    let silent : first_of (in_windows c.args.topo.now c.args.t.now) ≡ None =
    sym (rw c.as_slice-windows.ensures at c.in_default.ensures) in
    let shape = rw c.as_slice-windows.ensures at c.placement-p.ensures.shape in
    sym (cases-stop c.args.topo.now c.args.t.now c.in-Some-cases_broken.broken (sym c.if-not-are_passes.ensures) silent
    (sym (rw (shape, c.as_slice-cases.ensures) at c.in-Some-cases_broken.ensures)))

pub returns-then-is_empty : goal.returns-then-is_empty
returns-then-is_empty c =
    let silent : first_of (in_windows c.args.topo.now c.args.t.now) ≡ None =
    sym (rw c.as_slice-windows.ensures at c.in_default.ensures) in
    let shape = rw c.as_slice-windows.ensures at c.placement-p.ensures.shape in
    let quiet : first_of (in_cases c.args.topo.now c.args.t.now) ≡ None =
    sym (rw (shape, c.as_slice-cases.ensures) at c.in_default-cases_broken.ensures) in
    sym (end-stops c.args.topo.now c.args.t.now (sym c.if-not-are_passes.ensures) silent quiet
    (eqb-true _ _ (sym (rw c.as_slice-cases.ensures at c.if-is_empty.ensures))))

pub returns : goal.returns
returns c =
    let silent : first_of (in_windows c.args.topo.now c.args.t.now) ≡ None =
    sym (rw c.as_slice-windows.ensures at c.in_default.ensures) in
    let shape = rw c.as_slice-windows.ensures at c.placement-p.ensures.shape in
    let quiet : first_of (in_cases c.args.topo.now c.args.t.now) ≡ None =
    sym (rw (shape, c.as_slice-cases.ensures) at c.in_default-cases_broken.ensures) in
    sym (nothing-stops c.args.topo.now c.args.t.now (sym c.if-not-are_passes.ensures) silent quiet
    (eqb-false _ _ (sym (rw c.as_slice-cases.ensures at c.if-is_empty.ensures))))
