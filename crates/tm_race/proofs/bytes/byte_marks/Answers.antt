use Rattle.std.proofs.Common.{◌≡◌, ℕ, arith, subst}
use Rattle.tm_plan_map.specs.declared.addresses.TheConstants.{WINDOWS_BYTES}
use Rattle.tm_race.specs.Masks.{EachIs, mark_of}
use Rattle.tm_race.proofs.Growing.{none-yet, one-more}
use Rattle.tm_race.proofs.bytes.byte_marks.Goals as goal

pub loop-q-init : goal.loop-q-init
loop-q-init c = none-yet (λ q mark. mark ≡ mark_of c.args.cases.now c.args.spoil.now q) _ c.new-marks.ensures

pub loop-q-preserved : goal.loop-q-preserved
loop-q-preserved c = one-more (λ q mark. mark ≡ mark_of c.args.cases.now c.args.spoil.now q) c.loop-q.q c.loop-q.marks _
    c.byte_mark.result c.in_ok-push.ensures.ok c.loop-q.invariant c.byte_mark.ensures

pub returns : goal.returns
returns c =
    let end : c.loop-q.q ≡ WINDOWS_BYTES = omega (arith, c.loop-q.auto, c.loop-q-test.false) in
    subst (λ (n : ℕ). EachIs (λ q mark. mark ≡ mark_of c.args.cases.now c.args.spoil.now q) n c.loop-q.marks) end
    c.loop-q.invariant
