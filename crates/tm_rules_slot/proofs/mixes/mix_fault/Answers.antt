use Rattle.std.proofs.Common.{◌+◌, arith, sym, ◌∙◌}
use Rattle.tm_rules_slot.proofs.Ruling.{mix-passed, mix-ruled}
use Rattle.tm_rules_slot.proofs.mixes.mix_fault.Goals as goal

pub returns-clause-ruled : goal.returns-clause-ruled
returns-clause-ruled c = λ e.
    mix-ruled c.args.p.now.shape c.args.alu c.args.load c.args.store c.args.branch
    (mix-passed c.args.p.now.shape c.args.alu c.args.load c.args.store c.args.branch
    (c.from-3.result + (c.from.result + c.from-2.result) + c.from-4.result) (c.from.result + c.from-2.result)
    (sym c.weight_fault.ensures ∙ c.in_default.is) (sym c.any_window_fault.ensures ∙ e)
    (omega arith) (omega arith))
