use Rattle.std.proofs.Common.{◌≡◌, ℕ, ◌+◌, ◌*◌, ◌/◌, ap₂, ◌∙◌, sym, arith}
use Rattle.tm_plan_map.specs.Map.{windows_base}
use Rattle.tm_plan_owned.specs.Lines.{line_count, line_place}
use Rattle.tm_plan_owned.proofs.Reach.{length-lines, few-dwords}
use Rattle.tm_plan_owned.proofs.dwords.owned_in.Goals as goal

pub returns-clause-is : goal.returns-clause-is
returns-clause-is c =
    let cases = c.args.cases.now in
    let x : c.from.result ≡ line_count cases c.args.h c.args.v = omega (arith, c.line_count.ensures.is) in
    let y : c.from-2.result ≡ cases.line / 8 = omega (arith, c.dwords_of.ensures.is) in
    ap₂ (λ (u v : ℕ). u * v) x y ∙ sym (length-lines (windows_base + line_place cases c.args.h c.args.v)
    (cases.line / 8) (cases.line * cases.harts) (line_count cases c.args.h c.args.v))

pub returns-clause-few : goal.returns-clause-few
returns-clause-few c =
    let cases = c.args.cases.now in
    let x : c.from.result ≡ line_count cases c.args.h c.args.v = omega (arith, c.line_count.ensures.is) in
    let y : c.from-2.result ≡ cases.line / 8 = omega (arith, c.dwords_of.ensures.is) in
    let is = ap₂ (λ (u v : ℕ). u * v) x y in
    omega (arith, is, few-dwords cases c.args.h c.args.v c.requires.shaped c.requires.window)
