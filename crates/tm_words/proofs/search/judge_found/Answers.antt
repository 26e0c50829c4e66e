use Rattle.std.proofs.Common.{map}
use Rattle.std.specs.String.{string_bytes}
use Rattle.tm_words.specs.declared.command.Verb.TheVariants as verb
use Rattle.tm_words.proofs.Verbs.{found_in, unspelled_in}
use Rattle.tm_words.proofs.search.judge_found.Goals as goal

pub returns-clause-ok : goal.returns-clause-ok
returns-clause-ok c =
    found_in verb.Judge _ (map string_bytes c.args.words.now) c.parsed.result (c.in_ok-command.ensures.ok)
    c.parsed.ensures.fit
    c.parsed.ensures.faultless c.parsed.ensures.matches

pub returns-clause-refused : goal.returns-clause-refused
returns-clause-refused c =
    unspelled_in verb.Judge _ (map string_bytes c.args.words.now) c.parsed.result (c.in_ok-command.ensures.ok)
    c.parsed.ensures.refused
