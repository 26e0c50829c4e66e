use Rattle.std.specs.Prelude.{is_ok}
use Rattle.tm_asm.specs.declared.code.Item.TheVariants.{Word}
use Rattle.tm_asm.proofs.Words.{good_push}
use Rattle.tm_asm.proofs.code.Code.put_word.Goals as goal

pub invariant_of-self : goal.invariant_of-self
invariant_of-self c =
    rw c.push.ensures.items (good_push (is_ok c.push.result) c.self.inside.items.items (Word c.args.word)
    c.self.invariant tt)
