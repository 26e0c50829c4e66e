use Rattle.tm_words.specs.Words.{bytes_of_words}
use Rattle.tm_words.proofs.Verbs.{told, one_asked}
use Rattle.tm_words.proofs.laws.words_ask.Goals as goal

pub returns-clause-told : goal.returns-clause-told
returns-clause-told c = told c.args.round_alone (bytes_of_words c.args.words.now)

pub returns-clause-one : goal.returns-clause-one
returns-clause-one c = one_asked c.args.round_alone (bytes_of_words c.args.words.now)
