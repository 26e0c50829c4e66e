use Rattle.std.proofs.Common.{◌≡◌, ◌≢◌, ◌+◌, ◌-◌, ◌/◌, ◌%◌, length, set, arith, refl}
use Rattle.std.proofs.Math.ListN.{length-set}
use Rattle.std.specs.Fmt.{decimal}
use Rattle.tm_base.proofs.PrintLemmas.{rest_digits-start, digit_put, digit_last, digit_less, digits_left, drop_whole}
use Rattle.tm_base.proofs.PrintLemmas.{decimal_reads_back}
use Rattle.tm_base.proofs.numbers.push_decimal.Goals as goal

pub loop-left-init : goal.loop-left-init
loop-left-init c = record {
  same = rest_digits-start c.args.value;
  room = omega (arith, c.ranges.value);
  some = omega arith;
  within = omega arith;
  size = refl;
}

pub loop-left-preserved : goal.loop-left-preserved
loop-left-preserved c =
    let i = c.loop-left.invariant in
    let more : c.loop-left.left / 10 ≢ 0 = c.if-left-eq0.false in
    let room = digit_less c.loop-left.left c.loop-left.at i.some i.room in
    record {
      same = digit_put c.loop-left.digits c.loop-left.at 44 c.loop-left.left (decimal c.args.value) i.some
          (omega (arith, i.size, i.within)) i.same more;
      room = room;
      some = digits_left (c.loop-left.left / 10) (c.loop-left.at - 1) more room;
      within = omega arith;
      size = simp length-set i.size;
    }

pub returns-clause-ok : goal.returns-clause-ok
returns-clause-ok c =
    let i = c.loop-left.invariant in
    let last = digit_last c.loop-left.digits c.loop-left.at 44 c.loop-left.left (decimal c.args.value) i.some
    (omega (arith, i.size, i.within)) i.same c.if-left-eq0.true in
    let size : length (set c.loop-left.digits (c.loop-left.at - 1) (48 + c.loop-left.left % 10)) ≡ 20 =
    simp length-set i.size in
    rw (← last, ← drop_whole _ (c.loop-left.at - 1) 20 size) c.append.ensures.ok

pub returns-clause-reads_back : goal.returns-clause-reads_back
returns-clause-reads_back c = decimal_reads_back c.args.value (omega (arith, c.ranges.value))
