use Rattle.tm_blocks_base.proofs.Registers.{load_registers_runs, load_all_but_last_runs, last_load_runs}
use Rattle.tm_blocks_base.proofs.Registers.{save_registers_runs}
use Rattle.tm_blocks_base.proofs.laws.registers.Goals as goal

pub returns-clause-load : goal.returns-clause-load
returns-clause-load c = load_registers_runs c.args.table

pub returns-clause-all_but_last : goal.returns-clause-all_but_last
returns-clause-all_but_last c = load_all_but_last_runs c.args.table

pub returns-clause-last : goal.returns-clause-last
returns-clause-last c = last_load_runs c.args.table

pub returns-clause-save : goal.returns-clause-save
returns-clause-save c = save_registers_runs
