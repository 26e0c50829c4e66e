use Rattle.std.proofs.Common.{◌≡◌, ◌<◌, ◌+◌, ◌*◌, ◌^◌, arith, rules, ◌∙◌, ap}
use Rattle.std.proofs.lemmas.List.{take_all}
use Rattle.tm_base.specs.Numbers.{place_value}
use Rattle.tm_base.proofs.NumberLemmas.{place_value-prefix, next_value, next_fits}
use Rattle.tm_base.proofs.numbers.digits_value.Goals as goal

pub loop-byte-init : goal.loop-byte-init
unfolding place_value
loop-byte-init c = search rules

fits : (c : goal.After-from-in-loop-byte-3) → c.from-in-loop-byte.result * c.from-in-loop-byte-2.result
    + c.from-in-loop-byte-3.result < 2 ^ 128
fits c =
    next_fits _ _ _ (omega (arith, c.from-in-loop-byte.ensures, c.loop-byte.invariant.fits))
    (omega (arith, c.from-in-loop-byte-2.ensures, c.requires.base_high))
    (omega (arith, c.from-in-loop-byte-3.ensures, c.unwrap_or-digit.type_inv))

pub overflow_mul-next : goal.overflow_mul-next
overflow_mul-next c =
    let whole = next_fits c.from-in-loop-byte.result c.from-in-loop-byte-2.result 0
    (omega (arith, c.from-in-loop-byte.ensures, c.loop-byte.invariant.fits))
    (omega (arith, c.from-in-loop-byte-2.ensures, c.requires.base_high)) (omega arith) in
    let below : c.from-in-loop-byte.result * c.from-in-loop-byte-2.result < 2 ^ 128 = omega (arith, whole) in
    search rules

pub overflow_add-next : goal.overflow_add-next
overflow_add-next c = let below = fits c in search rules

pub returns-then-next-from : goal.returns-then-next-from
returns-then-next-from c below =
    let more = next_value c.args.base c.args.digits.now c.loop-byte.byte-index c.loop-byte.value
    c.unwrap_or-digit.result _ _ _ c.to_digit.result
    (omega arith) c.loop-byte.invariant.value c.unwrap_or-digit.ensures (rw (← c.from.ensures) c.to_digit.ensures.value)
    (c.requires.digits _ (omega arith))
    c.from-in-loop-byte.ensures c.from-in-loop-byte-2.ensures c.from-in-loop-byte-3.ensures in
    let prefix = place_value-prefix c.args.base c.args.digits.now (c.loop-byte.byte-index + 1)
    (omega (arith, c.requires.base_low)) in
    absurd (omega (arith, more, prefix, c.if-next-from.true, c.from-in-loop-byte-4.ensures))

pub loop-byte-preserved : goal.loop-byte-preserved
loop-byte-preserved c = record {
  value = next_value c.args.base c.args.digits.now c.loop-byte.byte-index c.loop-byte.value c.unwrap_or-digit.result _ _
      _ c.to_digit.result
      (omega arith) c.loop-byte.invariant.value c.unwrap_or-digit.ensures
      (rw (← c.from.ensures) c.to_digit.ensures.value) (c.requires.digits _ (omega arith))
      c.from-in-loop-byte.ensures c.from-in-loop-byte-2.ensures c.from-in-loop-byte-3.ensures;
  fits = omega (arith, c.if-next-from.false, c.from-in-loop-byte-4.ensures);
}

pub returns : goal.returns
returns c =
    let value : c.loop-byte.value ≡ place_value c.args.base c.args.digits.now =
    c.loop-byte.invariant.value ∙ ap (place_value c.args.base) (take_all _ _ c.loop-byte-test.false) in
    (omega (arith, value, c.loop-byte.invariant.fits), value)
