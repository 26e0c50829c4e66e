use Rattle.std.proofs.Common.{◌++◌, List, [], ◌∷◌, Option, Some, ap, ◌∙◌}
use Rattle.tm_turn.proofs.Dealing.{opens}
use Rattle.tm_turn.proofs.line.opening.lay.Goals as goal

pub new-requires : goal.new-requires
new-requires g c =
    let one = c.push_reserved.ensures.items
    ∙ ap (λ (l : List (Option g.row.T.Denot)). l ++ Some c.args.value ∷ []) c.in-Ok.ensures.items in
    opens g.T.Kept.maker g.T.Kept.history g.T.Kept.fixed _ c.args.value _ _ one (ap g.T.Kept.fixed c.of.ensures)
    c.requires.empty
