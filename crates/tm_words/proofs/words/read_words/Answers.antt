use Rattle.std.proofs.Common.{Err}
use Rattle.tm_words.specs.Words.{bytes_of_words}
use Rattle.tm_words.proofs.Verbs.{asked_ok, asked_refused, none_asked, asked_only}
use Rattle.tm_words.proofs.Ranges.{in_range, still}
use Rattle.tm_words.proofs.words.read_words.Goals as goal

pub returns-in-Ok-clause-asked : goal.returns-in-Ok-clause-asked
returns-in-Ok-clause-asked c =
    asked_ok c.args.round_alone (bytes_of_words c.args.words.now) c.in-Ok.command c.if_asked.result c.if_asked.ensures
    c.in-Ok.ensures.ok

pub returns-in-Ok-clause-refused : goal.returns-in-Ok-clause-refused
returns-in-Ok-clause-refused c =
    asked_refused c.args.round_alone (bytes_of_words c.args.words.now) c.in-Ok.command c.if_asked.result
    c.if_asked.ensures c.in-Ok.ensures.ok

pub returns-in-Ok-clause-only : goal.returns-in-Ok-clause-only
returns-in-Ok-clause-only c =
    asked_only c.args.round_alone (bytes_of_words c.args.words.now) c.if_asked.result (returns-in-Ok-clause-asked c)
    (returns-in-Ok-clause-refused c)

pub returns-in-Err-clause-refused : goal.returns-in-Err-clause-refused
returns-in-Err-clause-refused c =
    λ other. none_asked c.args.round_alone (bytes_of_words c.args.words.now) (c.in-Err.ensures.refused other)

pub returns-in-Err-clause-only : goal.returns-in-Err-clause-only
returns-in-Err-clause-only c =
    asked_only c.args.round_alone (bytes_of_words c.args.words.now) (Err c.in-Err.fault) tt
    (returns-in-Err-clause-refused c)

pub returns-in-Ok-clause-in_range : goal.returns-in-Ok-clause-in_range
returns-in-Ok-clause-in_range c =
    in_range c.args.round_alone (bytes_of_words c.args.words.now) c.if_asked.result (returns-in-Ok-clause-asked c)

pub returns-in-Ok-clause-still : goal.returns-in-Ok-clause-still
returns-in-Ok-clause-still c = λ round.
    still c.args.round_alone round (bytes_of_words c.args.words.now) c.if_asked.result (returns-in-Ok-clause-asked c)
