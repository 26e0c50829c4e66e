use Rattle.std.proofs.Common.{◌≡◌, nat_le, true, false, ◌*◌, arith}
use Rattle.std.proofs.lemmas.Bool.Decides.{nat_tests}
use Rattle.std.proofs.lemmas.Result.{err_from_is_err_and}
use Rattle.tm_base.specs.Limits.{image_version, most_harts}
use Rattle.tm_topo.specs.Reading.{numbers_in}
use Rattle.tm_topo.proofs.read.numbers_in.Goals as goal

pub returns-in_err-cores : goal.returns-in_err-cores
unfolding numbers_in
returns-in_err-cores c =
    let p = err_from_is_err_and c.from_residual.result c.from_residual.ensures.1 in
    rw (p.1, p.2) (rw (← c.in_err-cores.ensures.number))

pub returns-in_err-threads : goal.returns-in_err-threads
unfolding numbers_in
returns-in_err-threads c =
    let p = err_from_is_err_and c.from_residual-in_err-threads.result c.from_residual-in_err-threads.ensures.1 in
    rw (p.1, p.2) (rw (← c.in_ok-cores.ensures.number, ← c.in_err-threads.ensures.number))

pub returns-in_err-line : goal.returns-in_err-line
unfolding numbers_in
returns-in_err-line c =
    let p = err_from_is_err_and c.from_residual-in_err-line.result c.from_residual-in_err-line.ensures.1 in
    rw (p.1, p.2)
    (rw (← c.in_ok-cores.ensures.number, ← c.in_ok-threads.ensures.number, ← c.in_err-line.ensures.number))

pub returns-in_err-bias : goal.returns-in_err-bias
unfolding numbers_in
returns-in_err-bias c =
    let p = err_from_is_err_and c.from_residual-in_err-bias.result c.from_residual-in_err-bias.ensures.1 in
    rw (p.1, p.2)
    (rw (
      ← c.in_ok-cores.ensures.number,
      ← c.in_ok-threads.ensures.number,
      ← c.in_ok-line.ensures.number,
      ← c.in_err-bias.ensures.number,
    ))

pub returns-then-product-most_harts : goal.returns-then-product-most_harts
unfolding numbers_in
returns-then-product-most_harts c =
    let test : nat_le (c.in_ok-cores.cores * c.in_ok-threads.threads) (most_harts image_version) ≡ false =
    grind (arith, nat_tests) in
    rw (
      ← c.in_ok-cores.ensures.number,
      ← c.in_ok-threads.ensures.number,
      ← c.in_ok-line.ensures.number,
      ← c.in_ok-bias.ensures.number,
      test,
    )

pub returns : goal.returns
unfolding numbers_in
returns c =
    let test : nat_le (c.in_ok-cores.cores * c.in_ok-threads.threads) (most_harts image_version) ≡ true =
    grind (arith, nat_tests) in
    rw (
      ← c.in_ok-cores.ensures.number,
      ← c.in_ok-threads.ensures.number,
      ← c.in_ok-line.ensures.number,
      ← c.in_ok-bias.ensures.number,
      test,
    )
