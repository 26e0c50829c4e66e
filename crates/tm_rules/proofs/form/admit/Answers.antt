use Rattle.std.proofs.Common.{sym, subst}
use Rattle.tm_place.specs.Ruled.{IsRuled}
use Rattle.tm_rules.proofs.RuledLemmas.{admitted-ruled}
use Rattle.tm_rules.proofs.form.admit.Goals as goal

pub returns-in-Ok-clause-ruled : goal.returns-in-Ok-clause-ruled
returns-in-Ok-clause-ruled c =
    subst IsRuled (sym c.in-Ok.ensures) (admitted-ruled c.args.topo.now c.args.t.now c.requires
    (sym c.in_default.ensures))
