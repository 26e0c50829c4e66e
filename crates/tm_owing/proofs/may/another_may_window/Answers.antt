use Rattle.std.proofs.Common.{◌≡◌, ℕ, ◌==◌, not, ap, ap₂, sym, ◌∙◌, subst, ◌<◌}
use Rattle.tm_world.specs.Place.{harts}
use Rattle.tm_owing.proofs.Apart.{another-even}
use Rattle.tm_owing.proofs.may.another_may_window.Goals as goal

pub returns-then-q-eq0 : goal.returns-then-q-eq0
returns-then-q-eq0 c =
    let p = c.args.program.now in
    ap₂ (λ (a b : ℕ). not (a == b)) c.collector.ensures.value c.from.ensures
    ∙ sym (another-even p c.args.q c.args.h c.args.b c.requires.program c.requires.window c.if-q-eq0.true
    (subst (λ (n : ℕ). n < harts p) c.collector.ensures.value c.collector.ensures.hart))
