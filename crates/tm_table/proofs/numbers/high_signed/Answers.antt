use Rattle.tm_table.proofs.High.{high-product}
use Rattle.tm_table.proofs.numbers.high_signed.Goals as goal

pub returns : goal.returns
returns c =
    high-product c.cast_unsigned.result c.args.a c.args.b c.cast_signed.result c.cast_signed-2.result c.from.result
    c.from-2.result c.ranges.a.fits c.ranges.b.fits c.cast_signed.type_inv c.cast_signed-2.type_inv
    c.cast_signed.ensures c.cast_signed-2.ensures c.from.ensures c.from-2.ensures c.cast_unsigned.ensures
