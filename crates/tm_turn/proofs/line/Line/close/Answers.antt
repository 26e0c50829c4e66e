use Rattle.std.proofs.Common.{ap, ◌∙◌}
use Rattle.tm_turn.specs.declared.table.View.{View}
use Rattle.tm_turn.specs.Views.{facts_of}
use Rattle.tm_turn.proofs.Closing.{KnowsAll-told, BearsOutAll-told}
use Rattle.tm_turn.proofs.line.Line.close.Goals as goal

pub gather-requires-clause-rest : goal.gather-requires-clause-rest
gather-requires-clause-rest g c = c.take_first-first.ensures.first.others

pub finish-requires-clause-outside : goal.finish-requires-clause-outside
finish-requires-clause-outside g c =
    let V = View g.row.T-Entry.Denot g.row.T-Fixed.Denot in
    let out = c.take_first-first.ensures.first in
    let e = c.gather.ensures.view in
    (ap (λ (v : V). v.live) e ∙ out.live, ap (λ (v : V). v.inside) e ∙ out.outside)

pub finish-requires-clause-all : goal.finish-requires-clause-all
finish-requires-clause-all g c =
    let V = View g.row.T-Entry.Denot g.row.T-Fixed.Denot in
    let out = c.take_first-first.ensures.first in
    let given = ap (λ (v : V). v.given) c.gather.ensures.view in
    (given ∙ out.given, KnowsAll-told _ _ _ _ c.gather.new.first.me.0 out given c.gather.ensures.told)

pub returns-clause-seats : goal.returns-clause-seats
returns-clause-seats g c =
    let V = View g.row.T-Entry.Denot g.row.T-Fixed.Denot in
    BearsOutAll-told g.T.Kept.maker (g.T.Kept.history c.finish.result) _ _ _ _ c.gather.new.first.me.0
    c.take_first-first.ensures.first (ap (λ (v : V). facts_of v) c.gather.ensures.view) c.finish.ensures.first
    c.finish.ensures.others c.gather.ensures.told
