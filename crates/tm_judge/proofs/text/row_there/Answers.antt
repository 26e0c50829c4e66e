use Rattle.std.proofs.Common.{◌≡◌, ◌<◌, ◌≤◌, ◌+◌, ◌-◌, ◌*◌, ◌/◌, ◌%◌, ℕ, List, Option, Some, length, get_or, inl}
use Rattle.std.proofs.Common.{inr, ap, ◌∙◌}
use Rattle.std.proofs.Common.{sym, subst, arith}
use Rattle.tm_plan_map.specs.declared.addresses.TheConstants.{TEXT_ADDRESS}
use Rattle.tm_plan_map.specs.Map.{text_base}
use Rattle.tm_plan_map.proofs.Within.{within-false, within-true}
use Rattle.tm_judge.specs.declared.text.Row.{Row}
use Rattle.tm_judge.specs.Text.{IsRow}
use Rattle.tm_judge.proofs.Words.{none-there, some-there}
use Rattle.tm_judge.proofs.text.row_there.Goals as goal

pub returns-then-pc-lt-TEXT_ADDRESS : goal.returns-then-pc-lt-TEXT_ADDRESS
unfolding text_base
returns-then-pc-lt-TEXT_ADDRESS c = λ p are.
    none-there p c.args.pc
    (within-false TEXT_ADDRESS (4 * length p.text) c.args.pc (inl (omega (arith, c.if-pc-lt-TEXT_ADDRESS.true))))

pub returns-then-place-len : goal.returns-then-place-len
unfolding text_base
returns-then-place-len c = λ p are.
    none-there p c.args.pc
    (within-false TEXT_ADDRESS (4 * length p.text) c.args.pc
    (inr (omega (arith, are.count, c.if-pc-lt-TEXT_ADDRESS.false, c.if-place-len.true))))

pub returns : goal.returns
unfolding text_base
returns c = λ p are.
    let pc = c.args.pc in
    let k = (pc - TEXT_ADDRESS) / 4 in
    let few : k < length p.text = omega (arith, are.count, c.if-place-len.false) in
    let inside =
    within-true TEXT_ADDRESS (4 * length p.text) pc (omega (arith, c.if-pc-lt-TEXT_ADDRESS.false))
    (omega (arith, few, c.if-pc-lt-TEXT_ADDRESS.false)) in
    let r = c.index.result.now in
    let is : IsRow (get_or p.text k 0) r = subst (IsRow (get_or p.text k 0)) (sym c.index.ensures) (are.each k r few)
    in (
      ap (λ (w : ℕ). Some w) is.word ∙ some-there p pc (omega (arith, c.if-pc-ne0.false)) inside few,
      subst (λ (w : ℕ). IsRow w r) (sym is.word) is,
    )
