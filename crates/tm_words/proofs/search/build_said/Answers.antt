use Rattle.std.proofs.Common.{ap, ap₂, codes}
use Rattle.clap.specs.Words.{rows_of, found_of, first_of}
use Rattle.tm_words.specs.Words.{build_asked}
use Rattle.tm_words.proofs.Verbs.{names_some, names_none, asked_as}
use Rattle.tm_words.proofs.search.build_said.Goals as goal

pub returns-in-Some : goal.returns-in-Some
returns-in-Some c =
    asked_as c.build_asked.result _ _ (ap₂ build_asked (names_some (found_of c.args.found.now) _ (rw c.in-Some.is at
    c.get_raw.ensures)) c.value_of-seed.ensures) c.build_asked.ensures

pub returns-in-None : goal.returns-in-None
returns-in-None c =
    ap (λ ns. build_asked ns (first_of (codes "seed") (rows_of (found_of c.args.found.now)))) (names_none (found_of
    c.args.found.now) (rw c.in-None.is at c.get_raw.ensures))
