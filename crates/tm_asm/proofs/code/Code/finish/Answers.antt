use Rattle.std.proofs.Common.{◌≡◌, pos, false, sym, ap, ◌∙◌, arith}
use Rattle.std.proofs.lemmas.Result.{err_from_is_err_and}
use Rattle.std.proofs.lemmas.Option.{slice_get_within}
use Rattle.std.specs.Prelude.{is_err}
use Rattle.tm_table.specs.declared.instr.Op.TheVariants.{Lui}
use Rattle.tm_asm.specs.declared.code.Item.{Item}
use Rattle.tm_asm.specs.declared.code.Item.TheVariants.{Plain}
use Rattle.tm_asm.specs.Sheet.{Sheet}
use Rattle.tm_asm.proofs.Words.{good_at, placed_at, get_at, words-more, pushed, near_more, far_first}
use Rattle.tm_asm.proofs.code.Code.finish.Goals as goal

-- what stands in for an item where there is none
abbrev nothing : Item
nothing = Plain (record { op = Lui; rd = 0; rs1 = 0; rs2 = 0; imm = pos 0 })

pub word_at-requires-clause-placed : goal.word_at-requires-clause-placed
word_at-requires-clause-placed c =
    let items : c.deref-item-items.result.now ≡ c.args.self.items =
    c.deref-item-items.ensures.value ∙ ap (λ (s : Sheet). s.items) c.self.view_is in
    let places : c.as_slice.result.now ≡ c.args.self.places =
    c.as_slice.ensures.value ∙ ap (λ (s : Sheet). s.places) c.self.view_is in
    rw (items, places) (placed_at c.args.self.places c.args.self.items c.loop-at.at nothing
    (rw items at c.loop-at-test.true) c.requires)

pub returns-in_err-word-clause-far : goal.returns-in_err-word-clause-far
returns-in_err-word-clause-far c =
    let items : c.deref-item-items.result.now ≡ c.args.self.items =
    c.deref-item-items.ensures.value ∙ ap (λ (s : Sheet). s.items) c.self.view_is in
    let places : c.as_slice.result.now ≡ c.args.self.places =
    c.as_slice.ensures.value ∙ ap (λ (s : Sheet). s.places) c.self.view_is in
    let p = err_from_is_err_and c.from_residual.result c.from_residual.ensures.1 in
    let far = rw (items, places) at c.in_err-word.ensures.far in
    let there = get_at c.args.self.items c.loop-at.at nothing (rw items at c.loop-at-test.true) in
    rw (p.1, p.2) (far_first c.args.self c.loop-at.at _ _ there (rw items at c.loop-at.invariant.near) far)

pub word_at-requires-clause-good : goal.word_at-requires-clause-good
word_at-requires-clause-good c =
    let good = good_at c.self.inside.items.items c.loop-at.at nothing
    (rw c.deref-item-items.ensures.value at c.loop-at-test.true) c.self.invariant in
    rw (← c.deref-item-items.ensures.value) at good

pub loop-at-preserved : goal.loop-at-preserved
loop-at-preserved c =
    let places : c.as_slice.result.now ≡ c.args.self.places =
    c.as_slice.ensures.value ∙ ap (λ (s : Sheet). s.places) c.self.view_is in
    let ok : is_err c.push.result ≡ false = sym c.is_err.ensures.value ∙ c.if-is_err.false in
    let put = pushed c.push.result ok c.push.ensures.ok in
    let more = words-more c.args.self.places c.deref-item-items.result.now c.loop-at.at nothing c.loop-at-test.true in
    let value = rw places at c.in_ok-word.ensures.ok in
    record {
      words = rw (put, value, c.loop-at.invariant.words) (sym more);
      near = near_more c.args.self.places c.deref-item-items.result.now c.loop-at.at nothing c.loop-at-test.true
          c.loop-at.invariant.near (rw places at c.in_ok-word.ensures.near);
    }

pub returns-clause-near : goal.returns-clause-near
returns-clause-near c =
    let items : c.deref-item-items.result.now ≡ c.args.self.items =
    c.deref-item-items.ensures.value ∙ ap (λ (s : Sheet). s.items) c.self.view_is in
    let near = rw items at c.loop-at.invariant.near in
    let past = rw items at c.loop-at-test.false in
    λ k x there. near k x (omega (arith, slice_get_within c.args.self.items k x there, past)) there
