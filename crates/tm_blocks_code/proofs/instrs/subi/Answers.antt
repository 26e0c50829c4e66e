use Rattle.std.proofs.Common.{◌≡◌, ◌-◌, ◌-ℤ◌, ℤ, pos, negsuc, to_z, of_z, w64, sym, ap, subst, arith}
use Rattle.std.proofs.lemmas.Int.{ints}
use Rattle.tm_table.specs.declared.instr.Op.TheVariants.{Addi}
use Rattle.tm_table.specs.Words.{Fits}
use Rattle.tm_table.specs.declared.instr.Instr.{Instr}
use Rattle.tm_blocks_base.proofs.Fitting.{subi_fits}
use Rattle.tm_blocks_code.proofs.instrs.subi.Goals as goal

pub returns-clause-is : goal.returns-clause-is
returns-clause-is c =
    let e : negsuc (c.args.n - 1) ≡ to_z w64 (of_z w64 (pos 0 -ℤ to_z w64 (of_z w64 c.from.result))) =
    omega (arith, ints) in
    let make : ℤ → Instr = λ z. record { op = Addi; rd = c.args.rd; rs1 = c.args.rs1; rs2 = 0; imm = z } in
    ap make (sym e)

pub returns-clause-fits : goal.returns-clause-fits
returns-clause-fits c =
    let e : negsuc (c.args.n - 1) ≡ to_z w64 (of_z w64 (pos 0 -ℤ to_z w64 (of_z w64 c.from.result))) =
    omega (arith, ints) in
    subst (λ (z : ℤ). Fits (record { op = Addi; rd = c.args.rd; rs1 = c.args.rs1; rs2 = 0; imm = z })) e
    (subi_fits c.args.rd c.args.rs1 c.args.n c.requires.registers.0 c.requires.registers.1 c.requires.some
    c.requires.number)
