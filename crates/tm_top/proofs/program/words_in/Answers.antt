use Rattle.std.proofs.Common.{◌∙◌, ap, Ok}
use Rattle.std.specs.Vec.Iter.{into_iter_items, into_iter_len}
use Rattle.std.proofs.lemmas.Iterator.{items_from_collect}
use Rattle.std.proofs.lemmas.Iterator.Adapters.{YieldsList-from_vec, YieldsList-from_skip}
use Rattle.tm_top.proofs.program.words_in.Goals as goal

pub returns-in-Ok-collect-clause-words : goal.returns-in-Ok-collect-clause-words
returns-in-Ok-collect-clause-words c =
    let all = c.in-Ok.args in
    let same = c.skip.ensures.source in
    rw c.in-Ok.is (items_from_collect {E = Unit {0}} (Ok c.in-Ok-collect.words) c.in-Ok-collect.ensures.ran
    (YieldsList-from_skip 1
    (YieldsList-from_vec (into_iter_items all) (ap into_iter_items same) (ap into_iter_len same ∙ all.rest.ok.0))
    c.skip.ensures.count))
