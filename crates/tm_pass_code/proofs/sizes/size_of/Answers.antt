use Rattle.std.proofs.Common.{arith}
use Rattle.tm_blocks_base.proofs.Lengths.{length-load_registers, length-save_registers}
use Rattle.tm_pass_text.specs.Hart.{registers_at}
use Rattle.tm_pass_code.proofs.sizes.size_of.Goals as goal

pub returns-clause-before : goal.returns-clause-before
returns-clause-before c =
    let load = length-load_registers (registers_at c.args.cases.now c.args.h c.args.c) in
    omega (arith, c.in_ok-first.ensures.is, load)

pub returns-clause-behind : goal.returns-clause-behind
returns-clause-behind c =
    let save = length-save_registers in
    omega (arith, save, c.in_ok-collect.ensures.is, c.in_ok-compare.ensures.is)
