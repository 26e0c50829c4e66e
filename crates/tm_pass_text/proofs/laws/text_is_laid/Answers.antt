use Rattle.tm_pass_text.proofs.Laying.{text-laid}
use Rattle.tm_pass_text.proofs.laws.text_is_laid.Goals as goal

pub returns : goal.returns
returns c = text-laid c.args.program.now
