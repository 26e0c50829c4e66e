use Rattle.std.proofs.Common.{length}
use Rattle.tm_report.proofs.dwords.+unchecked_bits.Given as goal

abbrev pub decreases-unchecked_bits : goal.decreases-unchecked_bits
decreases-unchecked_bits l = length l.bytes.now
