use Rattle.std.proofs.Common.{rules, ◌∙◌}
use Rattle.tm_turn.proofs.Recording.{records}
use Rattle.tm_turn.proofs.line.turns.record.Goals as goal

pub fetch_add-requires : goal.fetch_add-requires
fetch_add-requires g c =
    let k = g.T.Kept in
    let r = c.requires in (
      search rules,
      search rules,
      records k.maker k.history k.fixed _ _ _ _ r.one.0 g.J.News.news (r.news ∙ r.one.1) r.inside.0 r.inside.1
          r.one.2 r.room,
    )
