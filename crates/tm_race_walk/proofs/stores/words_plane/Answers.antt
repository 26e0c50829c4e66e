use Rattle.std.proofs.Common.{◌∙◌, sym, ap}
use Rattle.std.proofs.lemmas.Bool.{false_from_ne_true}
use Rattle.std.proofs.lemmas.List.{take_all}
use Rattle.tm_base.specs.Lists.{any}
use Rattle.tm_world.specs.Writers.{is_store_to}
use Rattle.tm_plane.specs.Plane.{in_plane}
use Rattle.tm_plane.specs.declared.planes.TheConstants.{PLANE_WORDS}
use Rattle.tm_race_walk.proofs.Moving.{any-more, none-zero}
use Rattle.tm_race_walk.proofs.stores.words_plane.Goals as goal

pub loop-word-init : goal.loop-word-init
loop-word-init c = λ b. false_from_ne_true _ (none-zero PLANE_WORDS b)

pub loop-word-preserved : goal.loop-word-preserved
loop-word-preserved c = λ b. any-more (is_store_to b) c.args.words.now c.loop-word.word-index
    (in_plane c.loop-word.plane b) _ c.loop-word-test.true (c.loop-word.invariant b) (c.put_word.ensures b)

pub returns : goal.returns
returns c = λ b s e. c.loop-word.invariant b ∙ (ap (any (is_store_to b))
    (take_all c.loop-word.word-index c.args.words.now c.loop-word-test.false) ∙ ap (any (is_store_to b)) (sym e))
