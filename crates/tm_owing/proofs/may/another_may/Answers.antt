use Rattle.std.proofs.Common.{sym, ◌∙◌}
use Rattle.tm_owing.proofs.Apart.{another-low, another-private}
use Rattle.tm_owing.proofs.may.another_may.Goals as goal

pub returns-then-b-lt-FLAGS_ADDRESS : goal.returns-then-b-lt-FLAGS_ADDRESS
returns-then-b-lt-FLAGS_ADDRESS c =
    sym (another-low c.args.program.now c.args.q c.args.h c.args.b c.if-b-lt-FLAGS_ADDRESS.true)

pub returns-then-is_private : goal.returns-then-is_private
returns-then-is_private c =
    sym (another-private c.args.program.now c.args.q c.args.h c.args.b c.requires.program c.requires.hart
    (sym c.is_private.ensures ∙ c.if-is_private.true))
