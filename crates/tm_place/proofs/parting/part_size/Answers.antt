use Rattle.std.proofs.Common.{◌≤◌, ◌^◌, arith, sym, ◌∙◌}
use Rattle.std.proofs.Math.Nat.{div-le_self}
use Rattle.tm_place.proofs.PartLemmas.{line_size-le, shifted, part_size-is, part_size-part}
use Rattle.tm_place.proofs.parting.part_size.Goals as goal

fits : (c : goal.After-ilog2) → 2 ^ c.ilog2.result ≤ 128
fits c = omega (arith, line_size-le c.args.line c.requires.size, div-le_self c.args.line c.args.harts)

pub returns-clause-value : goal.returns-clause-value
returns-clause-value c =
    shifted c.ilog2.result (fits c)
    ∙ sym (part_size-is c.args.line c.args.harts c.ilog2.result (line_size-le c.args.line c.requires.size)
    c.ilog2.ensures.power_le c.ilog2.ensures.next_power_gt)

pub returns-clause-greatest : goal.returns-clause-greatest
returns-clause-greatest c =
    rw (shifted c.ilog2.result (fits c)) (part_size-part c.args.line c.args.harts c.ilog2.result
    c.ilog2.ensures.power_le c.ilog2.ensures.next_power_gt)
