use Rattle.std.proofs.Common.{arith}
use Rattle.std.proofs.lemmas.Result.{on_ok_weaker}
use Rattle.tm_blocks_base.specs.Blocks.{constant}
use Rattle.tm_blocks_base.proofs.Constant.{constant_runs}
use Rattle.tm_blocks_code.proofs.blocks.put_constant.Goals as goal

pub returns-clause-words : goal.returns-clause-words
unfolding constant
returns-clause-words c =
    on_ok_weaker c.put_all.result (λ h. rw (
      c.addi.ensures.is,
      c.slli.ensures.is,
      c.addi-2.ensures.is,
      c.addi-3.ensures.is,
      c.addi-4.ensures.is,
      c.addi-5.ensures.is,
      c.addi-6.ensures.is,
      c.slli-2.ensures.is,
      c.slli-3.ensures.is,
      c.slli-4.ensures.is,
      c.slli-5.ensures.is,
      c.part.ensures.is,
      c.part-2.ensures.is,
      c.part-3.ensures.is,
      c.part-4.ensures.is,
      c.part-5.ensures.is,
    ) at h) c.put_all.ensures

pub returns-clause-runs : goal.returns-clause-runs
returns-clause-runs c =
    on_ok_weaker c.put_all.result (λ h. constant_runs c.args.rd c.args.value c.requires.0 (omega arith))
    c.put_all.ensures
