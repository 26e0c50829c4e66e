use Rattle.std.proofs.Common.{ℕ, ◌+◌, ap, sym}
use Rattle.std.proofs.lemmas.Bool.{false≢true}
use Rattle.tm_world.specs.Place.{harts}
use Rattle.tm_guest.specs.Guested.{Guested, IsHalted}
use Rattle.tm_guest.proofs.Waits.{waits-by}
use Rattle.tm_guest.proofs.guest.Guest.waits.Goals as goal

pub returns : goal.returns
returns c =
    let (e, next, same) = c.next_access.ensures in
    let off : ¬ IsHalted c.args.self.now c.args.h = λ halted. false≢true (c.if-halted.ensures.1 halted) in
    waits-by c.args.self.now c.args.h _ _ e c.next_access.result c.finds_less.result off next same
    (sym c.if-not-has_signalled.ensures) (ap (λ (g : Guested). harts g.program) c.self.view_is)
    (ap (λ (n : ℕ). n + 1) c.phase.ensures.value) c.finds_less.ensures
