use Rattle.std.proofs.Common.{◌≡◌, ◌+◌, List, length, refl, ap, arith}
use Rattle.tm_plan_cases.specs.declared.event.Event.{Event}
use Rattle.tm_guest.specs.declared.turn.RoundEnd.TheVariants as ends
use Rattle.tm_buffer.specs.Rounds.{Begins}
use Rattle.tm_buffer.proofs.Leading.{in-budget, no-drains}
use Rattle.tm_buffer.proofs.Rounding.{goes-then, full-then, same-still, same-both}
use Rattle.tm_buffer.proofs.guest.BufferGuest.run_drawn.Goals as goal

pub loop-self-init : goal.loop-self-init
loop-self-init c = record { same = same-still c.args.self.now; goes = Begins; few = omega arith }

pub returns-then-not-drawn_round-clause-end : goal.returns-then-not-drawn_round-clause-end
returns-then-not-drawn_round-clause-end c =
    let known = c.loop-self.invariant in
    full-then c.args.seed c.loop-self.t c.args.self.now c.loop-self.self c.drawn_round.new.self known.same.program
    known.goes (c.if-not-drawn_round.ensures.part refl)

pub returns-then-not-drawn_round-clause-bounded : goal.returns-then-not-drawn_round-clause-bounded
returns-then-not-drawn_round-clause-bounded c = λ budget.
    let none : length c.args.self.now.drains ≡ 0 =
    let e = ap (λ (es : List Event). length es) c.requires in omega (arith, c.events.ensures.each) in
    in-budget c.args.seed c.args.self.now c.drawn_round.new.self ends.Full budget c.requires
    (no-drains c.args.self.now.drains none) c.events.ensures.run
    (returns-then-not-drawn_round-clause-end c)

pub overflow_add-t : goal.overflow_add-t
overflow_add-t c = omega (arith, c.loop-self.invariant.few, c.drawn_round.ensures.bound)

pub loop-self-preserved : goal.loop-self-preserved
loop-self-preserved c =
    let from = c.args.self.now in
    let known = c.loop-self.invariant in
    let g = c.loop-self.self in
    let x = c.drawn_round.new.self in
    let grows = (c.if-not-drawn_round.ensures.grows refl).0 in
    record {
      same = same-both from g x known.same c.if-not-drawn_round.ensures.same;
      goes = goes-then c.args.seed 0 c.loop-self.t from g known.same.program known.goes (c.loop-self.t + 1) 0 x
          (c.if-not-drawn_round.ensures.whole refl);
      few = omega (arith, known.few, grows);
    }
