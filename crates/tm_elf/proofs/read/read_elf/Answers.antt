use Rattle.tm_elf.proofs.BackLemmas.{only_reads}
use Rattle.tm_elf.proofs.read.read_elf.Goals as goal

pub returns-clause-only : goal.returns-clause-only
returns-clause-only c = only_reads c.args.bytes.now _ c.read.ensures.ok c.read.ensures.err
