use Rattle.std.proofs.Common.{◌↔◌, ◌<◌, length, ap, subst, arith}
use Rattle.std.specs.Prelude.{IsTrue}
use Rattle.tm_guest.specs.Guested.{Guested}
use Rattle.tm_harts.specs.Turns.{HoldsBack}
use Rattle.tm_harts.proofs.held.Held.holds_back.Goals as goal

pub returns-then-len-limit-clause-answer : goal.returns-then-len-limit-clause-answer
returns-then-len-limit-clause-answer c =
    let guest = c.self.inside.guest in
    let room : length guest.journal < guest.limit =
    omega (arith, c.if-len-limit.true, c.len.ensures, ap length c.journal.ensures.events, c.limit.ensures) in
    subst (λ (g : Guested). IsTrue c.waits.result ↔ HoldsBack g c.args.hart) c.self.view_is
    (λ t. (c.waits.ensures.0 t, room), λ x. c.waits.ensures.1 x.0)
