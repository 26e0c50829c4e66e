use Rattle.std.proofs.Common.{◌^◌, ◌/◌, ◌%◌, arith, ap, ◌∙◌}
use Rattle.tm_ram.proofs.Numbers.{byte-number}
use Rattle.tm_ram.proofs.bytes.number.Goals as goal

pub returns-clause-bytes : goal.returns-clause-bytes
returns-clause-bytes c = λ i l.
    ap (λ x. x / 256 ^ i % 256) c.number_of.ensures.value
    ∙ byte-number c.args.s.now c.args.at c.args.width i (λ k. omega (arith, c.type_inv.s k)) l
