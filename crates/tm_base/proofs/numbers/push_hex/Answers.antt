use Rattle.std.proofs.Common.{◌≡◌, ◌+◌, ◌-◌, ◌*◌, arith, ◌∙◌, append-nil}
use Rattle.std.proofs.Math.ListN.{length-set}
use Rattle.tm_base.specs.Numbers.{hex_text}
use Rattle.tm_base.proofs.PrintLemmas.{hex_put, sixteens}
use Rattle.tm_base.proofs.numbers.push_hex.Goals as goal

pub loop-i-preserved : goal.loop-i-preserved
loop-i-preserved c =
    let place : 4 * (c.args.digits - 1 - c.loop-i.i) ≡ 4 * (c.args.digits - (c.loop-i.i + 1)) = omega arith in
    record {
      same = hex_put c.loop-i.text c.loop-i.i c.args.digits c.args.value c.hex_digit.result (omega arith)
          (omega (arith, c.loop-i.invariant.size, c.requires.few)) (c.hex_digit.ensures ∙ rw (place, sixteens))
          c.loop-i.invariant.same;
      size = simp length-set c.loop-i.invariant.size;
    }

pub returns-clause-ok : goal.returns-clause-ok
unfolding hex_text
returns-clause-ok c =
    let end : c.loop-i.i ≡ c.args.digits = omega arith in
    let none : c.args.digits - c.args.digits ≡ 0 = omega arith in
    let whole = rw (end, none) at c.loop-i.invariant.same in
    rw (← whole) (simp append-nil c.append.ensures.ok)
