use Rattle.std.proofs.Common.{ℕ, ◌≡◌, ◌-◌, ◌*◌, List, [], ◌∷◌, ◌∙◌, ap, arith}
use Rattle.tm_table.specs.declared.instr.Instr.{Instr}
use Rattle.tm_asm.specs.Sheet.{puts}
use Rattle.tm_blocks_base.specs.Instrs.{sd}
use Rattle.tm_blocks_base.specs.Blocks.{save_registers}
use Rattle.tm_blocks_base.proofs.Registers.{save_registers_runs}
use Rattle.tm_blocks_code.proofs.Puts.{none_yet, one_more, all_single}
use Rattle.tm_blocks_code.proofs.blocks.put_save_registers.Goals as goal

abbrev saved : ℕ → List Instr
saved r = sd r (8 * (r - 1)) 31 ∷ []

pub loop-register-init : goal.loop-register-init
loop-register-init c = none_yet saved 1 0 c.args.code.now (omega arith)

pub loop-register-preserved : goal.loop-register-preserved
loop-register-preserved c =
    let place : c.from.result ≡ c.loop-register.register - 1 = omega arith in
    let call : c.put_all.new.code ≡ puts c.loop-register.code (saved c.loop-register.register) =
    c.in_ok-put_all.ensures ∙ ap (λ (i : Instr). puts c.loop-register.code (i ∷ []))
    (c.sd.ensures.is ∙ ap (λ (p : ℕ). sd c.loop-register.register (8 * p) 31) place) in
    one_more saved 1 c.loop-register.register _ _ _ _ _ (omega arith) (omega arith) c.loop-register.invariant call

pub returns-clause-words : goal.returns-clause-words
unfolding save_registers
returns-clause-words c = all_single (λ r. sd r (8 * (r - 1)) 31) 1 (c.loop-register.register - 1) 30 _ _ (omega arith)
    c.loop-register.invariant

pub returns-clause-runs : goal.returns-clause-runs
returns-clause-runs c = save_registers_runs
