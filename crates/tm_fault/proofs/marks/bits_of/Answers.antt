use Rattle.tm_fault.proofs.Entries.{one_bit, all_bits}
use Rattle.tm_fault.proofs.marks.bits_of.Goals as goal

pub returns-in-Some : goal.returns-in-Some
returns-in-Some c = rw c.in-Some.is (λ k low. one_bit c.in-Some.k k (rw c.in-Some.is at c.requires))

pub returns-in-None : goal.returns-in-None
returns-in-None c = rw c.in-None.is (λ k low. all_bits k low)
