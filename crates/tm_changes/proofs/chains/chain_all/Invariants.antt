use Rattle.std.proofs.Common.{◌≡◌, length}
use Rattle.tm_changes.specs.Scripted.{AreChained}
use Rattle.tm_changes.proofs.chains.chain_all.Given as goal

abbrev pub invariant-loop-i : goal.invariant-loop-i
invariant-loop-i l = record {
  words : length l.lasts ≡ length l.fn.lasts;
  long : length l.befores ≡ length l.fn.befores;
  chained : AreChained l.program l.lines l.lasts l.befores l.i;
}
