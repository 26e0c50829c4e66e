use Rattle.std.specs.Prelude.{is_ok}
use Rattle.tm_asm.specs.declared.code.Item.TheVariants.{Branch}
use Rattle.tm_asm.proofs.Words.{good_push}
use Rattle.tm_asm.proofs.code.Code.branch.Goals as goal

pub invariant_of-self : goal.invariant_of-self
invariant_of-self c =
    rw c.push.ensures.items (good_push (is_ok c.push.result) c.self.inside.items.items
    (Branch c.args.op c.args.rs1 c.args.rs2 c.args.to.number) c.self.invariant (
      c.requires.branch,
      c.requires.rs1,
      c.requires.rs2,
    ))
