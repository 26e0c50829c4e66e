use Rattle.std.proofs.Common.{sym, ◌∙◌, subst}
use Rattle.std.proofs.lemmas.Bool.{false≢true}
use Rattle.tm_guest.specs.Guested.{Guested}
use Rattle.tm_harts.specs.Turns.{HoldsBack}
use Rattle.tm_harts.proofs.Idle.{no_idle-after}
use Rattle.tm_harts.proofs.held.Held.turn.Goals as goal

pub invariant_of-self : goal.invariant_of-self
invariant_of-self c =
    let guest = c.self.inside.guest in
    let goes = λ (x : HoldsBack guest c.args.hart). false≢true (sym c.if-holds_back.false
    ∙ c.holds_back.ensures.answer.1 (subst (λ (g : Guested). HoldsBack g c.args.hart) c.self.view_is x)) in
    no_idle-after guest c.advance.new.self c.args.hart c.advance.result goes c.advance.ensures c.self.invariant
