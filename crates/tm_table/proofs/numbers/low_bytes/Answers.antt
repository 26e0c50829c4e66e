use Rattle.std.proofs.lemmas.Nat.{and_mask}
use Rattle.tm_table.proofs.numbers.low_bytes.Goals as goal

pub returns-in-1 : goal.returns-in-1
returns-in-1 c = rw c.in-1.is (and_mask c.args.value 8)

pub returns-in-2 : goal.returns-in-2
returns-in-2 c = rw c.in-2.is (and_mask c.args.value 16)

pub returns-in-4 : goal.returns-in-4
returns-in-4 c = rw c.in-4.is (and_mask c.args.value 32)
