-- The harts of each version have room in the memory map.
use Rattle.std.proofs.Common.{◌≤◌, ℕ, arith}
use Rattle.tm_base.specs.Limits.{most_harts}
use Rattle.tm_base.specs.declared.limits.TheConstants.{HART_ROOM}

pub harts-fit : (version : ℕ) → most_harts version ≤ HART_ROOM
harts-fit version = omega arith
