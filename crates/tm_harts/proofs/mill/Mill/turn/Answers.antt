use Rattle.tm_harts.proofs.Turns.{stays_small, is_guest_after, IsLeft, may_leave, is_turn, turn_begins}
use Rattle.tm_harts.proofs.mill.Mill.turn.Given.{Over}
use Rattle.tm_harts.proofs.mill.Mill.turn.Goals as goal

pub leave-requires-clause-history : goal.leave-requires-clause-history
leave-requires-clause-history g c = may_leave c.args.seat.now c.enter-held.new.seat c.enter-held.result
    c.turn-answer.new.self c.number.result c.turn-answer.result (record {
      seat = c.enter-held.ensures.seat;
      begins = c.enter-held.ensures.begins;
      number_is = c.number.ensures.number;
      answers = c.turn-answer.ensures.answer;
    })

pub leave-requires-clause-small : goal.leave-requires-clause-small
leave-requires-clause-small g c =
    stays_small c.enter-held.result c.turn-answer.new.self _ _ c.turn-answer.result c.turn-answer.ensures.answer
    c.enter-held.ensures.small c.turn-answer.ensures.limit

is_left : (g : Over) (c : goal.After-leave g) → IsLeft c.args.seat.now c.enter-held.new.seat c.enter-held.result
    c.turn-answer.new.self c.number.result c.turn-answer.result c.args.self.now c.leave.new.seat
is_left g c = record {
  told = record {
    seat = c.enter-held.ensures.seat;
    begins = c.enter-held.ensures.begins;
    number_is = c.number.ensures.number;
    answers = c.turn-answer.ensures.answer;
  };
  guest = is_guest_after c.args.self.now c.self.inside.line c.self.inside.start.value c.enter-held.result
      c.self.view_is c.self.invariant.0 c.enter-held.ensures.fixed;
  left = c.leave.ensures.seat;
}

pub returns-clause-begins : goal.returns-clause-begins
returns-clause-begins g c = turn_begins c.args.seat.now c.enter-held.new.seat c.enter-held.result
    c.turn-answer.new.self c.number.result c.turn-answer.result c.args.self.now c.leave.new.seat (is_left g c)

pub returns-clause-turn : goal.returns-clause-turn
returns-clause-turn g c = is_turn c.args.seat.now c.enter-held.new.seat c.enter-held.result
    c.turn-answer.new.self c.number.result c.turn-answer.result c.args.self.now c.leave.new.seat (is_left g c)
