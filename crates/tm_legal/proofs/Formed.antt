-- The parts of a formed program have their sizes.
use Rattle.tm_plan_cases.specs.declared.program.Program.{Program}
use Rattle.tm_runs.specs.World.{Sizes}
use Rattle.tm_runs.proofs.Worlds.{sizes-of}
use Rattle.tm_legal.specs.Tame.{Formed}

pub formed-sizes : {p : Program} → Formed p → Sizes p
formed-sizes {p = p} formed = sizes-of p formed.program formed.typed
