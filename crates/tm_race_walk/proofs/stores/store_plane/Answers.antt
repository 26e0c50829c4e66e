use Rattle.std.proofs.Common.{List, ℕ, sym, ap, subst, ◌∙◌}
use Rattle.std.specs.Prelude.{All}
use Rattle.tm_world.specs.Writers.{some_store_to}
use Rattle.tm_race_walk.specs.Slots.{IsStoreWord}
use Rattle.tm_race_walk.proofs.Shaping.{store-words}
use Rattle.tm_race_walk.proofs.stores.store_plane.Goals as goal

pub words_plane-requires : goal.words_plane-requires
words_plane-requires c =
    let os = c.requires.case in
    subst (λ (ws : List ℕ). All IsStoreWord ws) (sym c.as_slice.ensures)
    (store-words os.cases os.c c.args.h c.args.case.now c.stream_of.result.now os.shaped os.at c.stream_of.ensures)

pub returns : goal.returns
returns c = λ b. c.words_plane.ensures b c.stream_of.result.now (sym c.as_slice.ensures) ∙ ap (some_store_to b)
    (sym c.stream_of.ensures)
