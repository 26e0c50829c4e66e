use Rattle.std.proofs.Common.{ap, codes}
use Rattle.clap.specs.Words.{rows_of, found_of, first_of}
use Rattle.tm_words.specs.Words.{run_asked}
use Rattle.tm_words.proofs.Verbs.{names_some, names_none, asked_as, run_same}
use Rattle.tm_words.proofs.search.run_said.Goals as goal

pub returns-in-Some : goal.returns-in-Some
returns-in-Some c =
    asked_as c.run_asked.result _ _ (run_same _ _ _ _ _ _ _ _ _ _ (names_some (found_of c.args.found.now) _ (rw
    c.in-Some.is at c.get_raw.ensures)) c.value_of-events.ensures c.value_of-order.ensures c.value_of-faults.ensures
    c.value_of-trace.ensures) c.run_asked.ensures

pub returns-in-None : goal.returns-in-None
returns-in-None c =
    ap (λ ns. run_asked ns (first_of (codes "events") (rows_of (found_of c.args.found.now))) (first_of (codes "order")
    (rows_of (found_of c.args.found.now))) (first_of (codes "faults") (rows_of (found_of c.args.found.now))) (first_of
    (codes "trace") (rows_of (found_of c.args.found.now)))) (names_none (found_of c.args.found.now) (rw c.in-None.is at
    c.get_raw.ensures))
