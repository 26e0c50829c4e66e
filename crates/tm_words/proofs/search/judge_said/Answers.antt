use Rattle.std.proofs.Common.{ap}
use Rattle.clap.specs.Words.{found_of}
use Rattle.tm_words.specs.Words.{judge_asked}
use Rattle.tm_words.proofs.Verbs.{names_some, names_none, asked_as}
use Rattle.tm_words.proofs.search.judge_said.Goals as goal

pub returns-in-Some : goal.returns-in-Some
returns-in-Some c =
    asked_as c.judge_asked.result _ _ (ap judge_asked (names_some (found_of c.args.found.now) _ (rw c.in-Some.is at
    c.get_raw.ensures))) c.judge_asked.ensures

pub returns-in-None : goal.returns-in-None
returns-in-None c =
    ap (λ ns. judge_asked ns) (names_none (found_of c.args.found.now) (rw c.in-None.is at c.get_raw.ensures))
