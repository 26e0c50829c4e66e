use Rattle.std.proofs.Common.{◌∙◌, sym, map}
use Rattle.std.specs.String.{string_bytes}
use Rattle.tm_words.proofs.Verbs.{form_ok, form_refused, form_none}
use Rattle.tm_words.proofs.words.read_from.Goals as goal

pub returns-in-Some-clause-ok : goal.returns-in-Some-clause-ok
returns-in-Some-clause-ok c =
    form_ok c.args.word.now (map string_bytes c.args.words.now) c.in-Some.verb c.read_behind.result
    (sym c.verb_of.ensures ∙ c.in-Some.is) c.read_behind.ensures.ok

pub returns-in-Some-clause-refused : goal.returns-in-Some-clause-refused
returns-in-Some-clause-refused c =
    form_refused c.args.word.now (map string_bytes c.args.words.now) c.in-Some.verb c.read_behind.result
    (sym c.verb_of.ensures ∙ c.in-Some.is) c.read_behind.ensures.refused

pub returns-in-None-clause-refused : goal.returns-in-None-clause-refused
returns-in-None-clause-refused c =
    λ other. form_none c.args.word.now (map string_bytes c.args.words.now) (sym c.verb_of.ensures ∙ c.in-None.is)
