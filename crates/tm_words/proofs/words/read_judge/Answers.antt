use Rattle.std.proofs.Common.{map}
use Rattle.std.specs.String.{string_bytes}
use Rattle.tm_words.specs.declared.command.Verb.TheVariants as verb
use Rattle.tm_words.proofs.Verbs.{said_ok, said_refused, none_read}
use Rattle.tm_words.proofs.words.read_judge.Goals as goal

pub returns-in-Ok-clause-ok : goal.returns-in-Ok-clause-ok
returns-in-Ok-clause-ok c =
    said_ok verb.Judge (map string_bytes c.args.words.now) _ c.judge_said.result c.in-Ok.ensures.ok c.judge_said.ensures

pub returns-in-Ok-clause-refused : goal.returns-in-Ok-clause-refused
returns-in-Ok-clause-refused c =
    said_refused verb.Judge (map string_bytes c.args.words.now) _ c.judge_said.result c.in-Ok.ensures.ok
    c.judge_said.ensures

pub returns-in-Err-clause-refused : goal.returns-in-Err-clause-refused
returns-in-Err-clause-refused c = λ other.
    none_read verb.Judge (map string_bytes c.args.words.now) (c.in-Err.ensures.refused other)
