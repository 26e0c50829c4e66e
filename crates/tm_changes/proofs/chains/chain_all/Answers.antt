use Rattle.std.proofs.Common.{refl}
use Rattle.tm_changes.proofs.Chained.{none-chained}
use Rattle.tm_changes.proofs.chains.chain_all.Goals as goal

pub loop-i-init : goal.loop-i-init
loop-i-init c = record {
  words = refl;
  long = refl;
  chained = none-chained c.args.program.now c.args.lines.now c.args.lasts.now c.args.befores.now c.requires.none;
}
