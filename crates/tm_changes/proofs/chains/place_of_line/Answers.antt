use Rattle.std.proofs.Common.{◌≡◌, ap, arith}
use Rattle.tm_plan_map.specs.Map.{text_base}
use Rattle.tm_changes.specs.Scripted.{slot_of_line, place_of}
use Rattle.tm_changes.proofs.chains.place_of_line.Goals as goal

pub returns-then-at-lt-TEXT_ADDRESS : goal.returns-then-at-lt-TEXT_ADDRESS
unfolding text_base
returns-then-at-lt-TEXT_ADDRESS c = λ k few at.
    absurd (omega (arith, at.1, c.start_at-start.ensures, c.in-Some.ensures, c.if-at-lt-TEXT_ADDRESS.true))

pub returns-then-place-count : goal.returns-then-place-count
unfolding text_base
returns-then-place-count c = λ k few at.
    absurd (omega (arith, few, at.2, c.start_at-start.ensures, c.in-Some.ensures, c.if-place-count.true))

pub returns : goal.returns
unfolding text_base
returns c =
    let is : slot_of_line c.args.program.now c.args.line.now ≡ c.in-Some.at =
    omega (arith, c.start_at-start.ensures, c.in-Some.ensures) in (
      omega (arith, c.if-place-count.false),
      (
        omega (arith, is, c.in-Some.ensures),
        omega (arith, is, c.if-at-lt-TEXT_ADDRESS.false),
        ap place_of is,
      ),
    )
