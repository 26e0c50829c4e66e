use Rattle.std.proofs.Common.{◌∙◌, ap, subst, rules}
use Rattle.tm_desk.specs.Held.{file_of, IsPlace}
use Rattle.tm_desk.proofs.HeldLemmas.{file_of-set, others-set, file_of-no_place, file_of-push, others-push}
use Rattle.tm_desk.proofs.HeldLemmas.{others-or_empty}
use Rattle.tm_desk.proofs.files.put.Goals as goal

pub returns-then-place-len-clause-ok : goal.returns-then-place-len-clause-ok
returns-then-place-len-clause-ok c =
    let place = subst (λ files. IsPlace files c.args.name.now c.place_of-place.result) c.deref.ensures.value
    c.place_of-place.ensures in
    file_of-set c.args.files.now.items c.args.name.now c.place_of-place.result _ c.args.bytes.now
    place (search rules) c.in_ok-copy_of.ensures c.in_ok-copy_of-2.ensures

pub returns-then-place-len-clause-others : goal.returns-then-place-len-clause-others
returns-then-place-len-clause-others c =
    let place = subst (λ files. IsPlace files c.args.name.now c.place_of-place.result) c.deref.ensures.value
    c.place_of-place.ensures in
    others-set c.args.files.now.items c.args.name.now c.place_of-place.result _
    place (search rules) c.in_ok-copy_of.ensures

pub returns-then-place-len-clause-others_or_empty : goal.returns-then-place-len-clause-others_or_empty
returns-then-place-len-clause-others_or_empty c =
    others-or_empty c.args.files.now.items _ c.args.name.now (returns-then-place-len-clause-others c)

pub returns-clause-ok : goal.returns-clause-ok
returns-clause-ok c =
    let place = subst (λ files. IsPlace files c.args.name.now c.place_of-place.result) c.deref.ensures.value
    c.place_of-place.ensures in
    ap (λ files. file_of files c.args.name.now) (rw c.if-is_err.ensures.negation at c.push.ensures.items)
    ∙ file_of-push c.args.files.now.items c.args.name.now _ c.args.bytes.now
    (file_of-no_place c.args.files.now.items c.args.name.now c.place_of-place.result place (search rules))
    c.in_ok-copy_of.ensures c.in_ok-copy_of-2.ensures

pub returns-clause-others : goal.returns-clause-others
returns-clause-others c other differs =
    ap (λ files. file_of files other) (rw c.if-is_err.ensures.negation at c.push.ensures.items)
    ∙ others-push c.args.files.now.items c.args.name.now _ c.in_ok-copy_of.ensures other differs

pub returns-clause-others_or_empty : goal.returns-clause-others_or_empty
returns-clause-others_or_empty c =
    others-or_empty c.args.files.now.items _ c.args.name.now (returns-clause-others c)
