use Rattle.std.proofs.Common.{refl}
use Rattle.tm_guest.specs.Rounds.{Begins}
use Rattle.tm_guest.specs.declared.turn.RoundEnd.TheVariants as ends
use Rattle.tm_guest.proofs.Rounding.{goes-then, same-still, same-then}
use Rattle.tm_guest.proofs.Budgeted.{in-budget}
use Rattle.tm_guest.proofs.guest.Guest.run_round.Goals as goal

pub loop-self-init : goal.loop-self-init
loop-self-init c = record { same = same-still c.args.self.now; goes = Begins }

pub returns-then-not-round-clause-same : goal.returns-then-not-round-clause-same
returns-then-not-round-clause-same c =
    same-then c.args.self.now c.loop-self.self c.round.new.self c.loop-self.invariant.same c.if-not-round.ensures.same

pub returns-then-not-round-clause-order : goal.returns-then-not-round-clause-order
returns-then-not-round-clause-order c =
    let known = c.loop-self.invariant in
    let (h, turns) = (c.if-not-round.ensures.part refl).0 in
    (h, goes-then c.args.self.now c.loop-self.self known.same.program known.goes h c.round.new.self turns)

pub returns-then-not-round-clause-bounded : goal.returns-then-not-round-clause-bounded
returns-then-not-round-clause-bounded c = λ budget.
    let (h, turns) = returns-then-not-round-clause-order c in
    in-budget c.args.self.now c.round.new.self h ends.Full budget c.journal.ensures.faulted turns
    (c.if-not-round.ensures.part refl).1

pub loop-self-preserved : goal.loop-self-preserved
loop-self-preserved c =
    let from = c.args.self.now in
    let known = c.loop-self.invariant in
    let g = c.loop-self.self in
    let t = c.round.new.self in
    record {
      same = same-then from g t known.same c.if-not-round.ensures.same;
      goes = goes-then from g known.same.program known.goes 0 t (c.if-not-round.ensures.whole refl);
    }
