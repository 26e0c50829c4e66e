use Rattle.std.proofs.Common.{◌≡◌, ℕ, ◌<◌, true, take, Some}
use Rattle.std.specs.Prelude.{slice_get}
use Rattle.tm_asm.specs.declared.code.Item.{Item}
use Rattle.tm_asm.specs.Sheet.{words_in, reaches}
use Rattle.tm_asm.proofs.code.Code.finish.Given as goal

abbrev pub invariant-loop-at : goal.invariant-loop-at
invariant-loop-at l = record {
  words : l.words ≡ words_in l.fn.self.places 0 (take l.at l.item-items);
  near : (k : ℕ) (x : Item) → k < l.at → slice_get l.item-items k ≡ Some x → reaches l.fn.self.places k x ≡ true;
}
