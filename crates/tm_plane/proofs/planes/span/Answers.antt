use Rattle.std.proofs.Common.{◌≡◌, ◌+◌, ◌-◌, ◌/◌, ◌%◌, ◌≤◌, ℕ, ap, sym, subst, ◌∙◌, arith}
use Rattle.tm_plan_map.specs.Map.{window_at, windows_base}
use Rattle.tm_plane.proofs.PlaneLemmas.{low-near, spans}
use Rattle.tm_plane.proofs.planes.span.Goals as goal

first : window_at 0 ≡ windows_base
unfolding window_at
first = omega arith

pub run-requires : goal.run-requires
run-requires c =
    let base : c.window_base.result ≡ windows_base = c.window_base.ensures ∙ first in
    subst (λ (a : ℕ). (c.args.addr - a) % 64 + c.args.width ≤ 64) (sym base)
    (low-near c.args.addr c.args.width c.requires)

pub returns : goal.returns
returns c =
    let base : c.window_base.result ≡ windows_base = c.window_base.ensures ∙ first in
    spans c.args.addr c.args.width ((c.args.addr - c.window_base.result) / 64)
    ((c.args.addr - c.window_base.result) % 64) c.run.result c.requires
    (ap (λ (a : ℕ). (c.args.addr - a) / 64) base) (ap (λ (a : ℕ). (c.args.addr - a) % 64) base) c.run.ensures
