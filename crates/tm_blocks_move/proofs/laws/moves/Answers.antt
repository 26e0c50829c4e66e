use Rattle.tm_blocks_move.proofs.Blocks.{first_bytes_runs}
use Rattle.tm_blocks_move.proofs.Collecting.{collect_all_runs}
use Rattle.tm_blocks_move.proofs.Once.{collected_once}
use Rattle.tm_blocks_move.proofs.laws.moves.Goals as goal

pub returns-clause-first : goal.returns-clause-first
returns-clause-first c = λ h from. first_bytes_runs c.args.cases.now h from

pub returns-clause-collect : goal.returns-clause-collect
returns-clause-collect c = λ h. collect_all_runs c.args.cases.now h

pub returns-clause-once : goal.returns-clause-once
returns-clause-once c = λ h. collected_once c.args.cases.now h
