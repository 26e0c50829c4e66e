use Rattle.std.proofs.Common.{◌∙◌, ℕ, drop, ap, sym, arith, refl, eqb-true}
use Rattle.std.proofs.lemmas.List.{nil_from_length}
use Rattle.tm_plan_map.specs.Map.{text_base}
use Rattle.tm_world.specs.Script.{change_of}
use Rattle.tm_world.specs.Faulted.{nothing}
use Rattle.tm_changes.specs.Scripted.{Scripted}
use Rattle.tm_changes.proofs.Changing.{found-last, from-last, kept-shown, no-lines}
use Rattle.tm_changes.proofs.changes.Changes.at.Goals as goal

pub overflow_sub-pc : goal.overflow_sub-pc
unfolding text_base
overflow_sub-pc c = c.requires.from

pub index-last-requires : goal.index-last-requires
unfolding text_base
index-last-requires c =
    let kept = kept-shown c.args.self.now _ _ c.self.inside.faults _ _ c.self.view_is refl c.self.invariant in
    omega (arith, c.requires.within, kept.words, c.self.inside.lasts.ok)

pub returns-then-is_empty : goal.returns-then-is_empty
returns-then-is_empty c =
    no-lines c.args.self.now.program c.args.self.now.lines c.args.h c.args.phase c.args.pc
    (sym (ap (λ (w : Scripted). w.lines) c.self.view_is) ∙ (sym c.as_slice.ensures
    ∙ nil_from_length c.as_slice.result.now (eqb-true _ 0 (sym c.if-is_empty.ensures))))

pub returns-then-last-eq0 : goal.returns-then-last-eq0
unfolding text_base
returns-then-last-eq0 c =
    let v = c.args.self.now in
    let shown = sym (ap (λ (w : Scripted). w.lines) c.self.view_is) in
    let kept = kept-shown v _ _ v.lines _ _ c.self.view_is shown c.self.invariant in
    let last =
    found-last v.program v.lines _ _ c.args.pc c.index-last.result.now kept c.requires.within c.index-last.ensures in
    from-last v.program v.lines c.args.h c.args.phase c.args.pc _ nothing c.ranges.pc.fits c.requires.from last refl
    ∙ ap (λ (n : ℕ). change_of v.program (drop n v.lines) c.args.h c.args.phase c.args.pc) c.if-last-eq0.true

pub change-requires-clause-last : goal.change-requires-clause-last
unfolding text_base
change-requires-clause-last c =
    let v = c.args.self.now in
    let shown = sym (ap (λ (w : Scripted). w.lines) c.self.view_is) in
    let kept = kept-shown v _ _ v.lines _ _ c.self.view_is shown c.self.invariant in
    found-last v.program v.lines _ _ c.args.pc c.index-last.result.now kept c.requires.within c.index-last.ensures
