use Rattle.std.proofs.Common.{◌≡◌, ℕ, ◌+◌, ◌-◌, ◌/◌, ◌<◌, arith, ap, ap₂, ◌∙◌, subst, sym}
use Rattle.tm_plan_owned.specs.Lines.{lines_of, first_line, line_count}
use Rattle.tm_plan_owned.proofs.Reach.{reach}
use Rattle.tm_plan_owned.proofs.Reach.{lines-most}
use Rattle.tm_plan_owned.proofs.lines.line_count.Goals as goal

pub overflow_add-result : goal.overflow_add-result
overflow_add-result c =
    let is : c.lines_of.result ≡ lines_of c.args.v c.args.cases.now.windows =
    c.lines_of.ensures ∙ ap (lines_of c.args.v) c.as_slice.ensures in
    omega (arith, lines-most c.args.cases.now c.args.v c.requires.shaped, c.requires.shaped.harts, is)

pub returns-clause-few : goal.returns-clause-few
unfolding line_count
returns-clause-few c =
    let cases = c.args.cases.now in
    let far = reach cases c.args.h c.args.v c.requires.shaped c.requires.window in
    let is : (c.lines_of.result + cases.harts - 1 - c.first_line.result) / cases.harts
    ≡ (lines_of c.args.v cases.windows + cases.harts - 1 - first_line cases c.args.h c.args.v) / cases.harts =
    ap₂ (λ (x y : ℕ). (x + cases.harts - 1 - y) / cases.harts)
    (c.lines_of.ensures ∙ ap (lines_of c.args.v) c.as_slice.ensures) c.first_line.ensures.is in
    subst (λ (x : ℕ). x < 2048) (sym is) far.count
