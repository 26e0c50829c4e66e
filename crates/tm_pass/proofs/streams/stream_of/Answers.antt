use Rattle.std.proofs.Common.{length, ap, ◌∙◌, arith}
use Rattle.tm_pass_place.proofs.Heads.{few-words}
use Rattle.tm_pass.proofs.CaseLemmas.{stream-read}
use Rattle.tm_pass.proofs.streams.stream_of.Goals as goal

pub returns-clause-is : goal.returns-clause-is
returns-clause-is c = c.as_slice-3.ensures ∙ stream-read c.args.cases.now c.requires.shaped c.args.h c.requires.mine
    c.args.c _ _ _ _ c.requires.case c.as_slice.ensures c.index-as_slice-c.is c.as_slice-2.ensures c.index-as_slice-h.is

pub returns-clause-few : goal.returns-clause-few
returns-clause-few c = omega (
  arith,
  ap length (returns-clause-is c),
  few-words c.args.cases.now c.requires.shaped c.args.h c.requires.mine c.args.c c.requires.case,
)
