-- The harts of a system, and which of these a body is for (this project's own).
use Rattle.std.specs.Prelude.{ℕ, ◌*◌, ◌/◌, ◌%◌, ◌==◌, Bool, true, List, filter}
use Rattle.tm_topo.specs.declared.system.Topology.{Topology}
use Rattle.tm_tmpl_types.specs.declared.template.Selector.{Selector}
use Rattle.tm_tmpl_types.specs.declared.template.Selector.TheVariants.{All, Hart, Core, Thread}
use Rattle.tm_base.specs.Lists.{count_from}

-- the number of harts
abbrev pub harts_of : Topology → ℕ
harts_of t = t.cores * t.threads

-- Whether a body is for hart h: thread u of core c is hart c * threads + u.
unfoldable pub in_team : Topology → Selector → ℕ → Bool
in_team t All h = true
in_team t (Hart n) h = h == n
in_team t (Core n) h = h / t.threads == n
in_team t (Thread n) h = h % t.threads == n

-- the harts that a body is for, from the least on
unfoldable pub team : Topology → Selector → List ℕ
team t whom = filter (in_team t whom) (count_from 0 (harts_of t))
