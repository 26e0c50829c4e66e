use Rattle.std.proofs.Common.{◌≡◌, arith, refl, to_z, of_z, w64}
use Rattle.std.proofs.lemmas.Int.{to_z-of_z, ints}
use mir.Syntax.{w128}
use Rattle.tm_asm_line.proofs.read.with_number.Goals as goal

pub overflow_cast-result : goal.overflow_cast-result
overflow_cast-result c =
    let same = to_z-of_z w128 c.args.value c.ranges.value in
    let small = c.if-is_in.ensures.small refl in
    rw same (omega (arith, ints, small))

pub returns-then-is_in : goal.returns-then-is_in
returns-then-is_in c =
    let same = to_z-of_z w128 c.args.value c.ranges.value in
    let small = c.if-is_in.ensures.small refl in
    let kept : to_z w64 (of_z w64 c.args.value) ≡ c.args.value =
    to_z-of_z w64 c.args.value (omega (arith, ints, small)) in
    let test = rw same at c.if-is_in.ensures.test in
    rw (same, kept, ← test)
