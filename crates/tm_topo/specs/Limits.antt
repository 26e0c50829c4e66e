-- The limits of a topology's numbers. Source: this project.
use Rattle.std.specs.Prelude.{◌*◌, ◌≤◌, IsTrue}
use Rattle.tm_base.specs.Limits.{image_version, most_harts, is_line_size}
use Rattle.tm_base.specs.declared.limits.TheConstants.{MOST_BIAS}
use Rattle.tm_topo.specs.declared.system.Topology.{Topology}

-- A topology within the limits: 1 to 8 cores of 1 to 8 threads, no more harts than an image may have, lines of 32, 64
-- or 128 bytes, and a bias of 0 to 100.
pub record IsInRange (t : Topology) : Type 0 where
  pub cores : (1 ≤ t.cores) × (t.cores ≤ most_harts image_version)
  pub threads : (1 ≤ t.threads) × (t.threads ≤ most_harts image_version)
  pub line : IsTrue (is_line_size t.line)
  pub bias : t.bias ≤ MOST_BIAS
  pub harts : t.cores * t.threads ≤ most_harts image_version
