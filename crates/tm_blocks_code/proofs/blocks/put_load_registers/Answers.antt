use Rattle.std.proofs.Common.{ℕ, ◌≡◌, ◌-◌, ◌*◌, List, [], ◌∷◌, ◌∙◌, ap, map, arith}
use Rattle.tm_table.specs.declared.instr.Instr.{Instr}
use Rattle.tm_base.specs.Lists.{count_from}
use Rattle.tm_asm.specs.Sheet.{puts}
use Rattle.tm_blocks_base.specs.Instrs.{ld}
use Rattle.tm_blocks_base.specs.Blocks.{constant, load_registers}
use Rattle.tm_blocks_base.proofs.Registers.{load_registers_runs, load_all_but_last_runs, last_load_runs}
use Rattle.tm_blocks_code.proofs.Puts.{none_yet, one_more, all_single, and_then}
use Rattle.tm_blocks_code.proofs.blocks.put_load_registers.Goals as goal

abbrev loaded : ℕ → List Instr
loaded r = ld r (8 * (r - 1)) 31 ∷ []

pub loop-register-init : goal.loop-register-init
loop-register-init c = none_yet loaded 1 0 c.put_constant.new.code (omega arith)

pub loop-register-preserved : goal.loop-register-preserved
loop-register-preserved c =
    let place : c.from.result ≡ c.loop-register.register - 1 = omega arith in
    let call : c.put_all.new.code ≡ puts c.loop-register.code (loaded c.loop-register.register) =
    c.in_ok-put_all.ensures ∙ ap (λ (i : Instr). puts c.loop-register.code (i ∷ []))
    (c.ld.ensures.is ∙ ap (λ (p : ℕ). ld c.loop-register.register (8 * p) 31) place) in
    one_more loaded 1 c.loop-register.register _ _ _ _ _ (omega arith) (omega arith) c.loop-register.invariant call

pub returns-clause-words : goal.returns-clause-words
unfolding load_registers
returns-clause-words c =
    let one : ℕ → Instr = λ r. ld r (8 * (r - 1)) 31 in
    and_then (constant 31 c.args.table) (map one (count_from 1 31)) _ _ _ c.in_ok-put_constant.ensures.words
    (all_single one 1 (c.loop-register.register - 1) 31 _ _ (omega arith) c.loop-register.invariant)

pub returns-clause-runs : goal.returns-clause-runs
returns-clause-runs c = load_registers_runs c.args.table

pub returns-clause-runs_but_last : goal.returns-clause-runs_but_last
returns-clause-runs_but_last c = load_all_but_last_runs c.args.table

pub returns-clause-runs_last : goal.returns-clause-runs_last
returns-clause-runs_last c = last_load_runs c.args.table
