-- The program of a test and a seed (this project's own).
use Rattle.std.specs.Prelude.{ℕ}
use Rattle.tm_plan_map.specs.declared.admitted.Admitted.{Admitted}
use Rattle.tm_plan_cases.specs.declared.program.Program.{Program}
use Rattle.tm_gen.specs.Gen.{gen_of}
use Rattle.tm_race.specs.Exact.{masks_of}
use Rattle.tm_pass_place.specs.Built.{built}

-- The cases are those that the seed draws for the test, the masks are those of what is checked in them, and text,
-- tables and marks are built of both.
unfoldable pub program_for : Admitted → ℕ → Program
program_for a seed = built (gen_of a seed) (masks_of (gen_of a seed))
