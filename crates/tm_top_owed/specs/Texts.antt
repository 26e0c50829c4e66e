-- The texts that go to the sinks (this project's own).
use Rattle.std.specs.Prelude.{ℕ, List, ◌++◌, length, codes}
use Rattle.std.specs.Fmt.{decimal}
use Rattle.tm_plan_cases.specs.declared.program.Program.{Program}

-- what is said of words that are no command
unfoldable pub usage : List ℕ
usage =
    codes "usage: threadmill build TOPO TEMPLATE OUT --seed S\n" ++ codes "       threadmill list IMAGE\n"
    ++ codes "       threadmill run IMAGE [--events N] [--order threads|round] [--faults F] [--trace OUT]\n"
    ++ codes "       threadmill sample N\n" ++ codes "       threadmill judge IMAGE TRACE\n"

-- what is said for want of memory
unfoldable pub no_memory : List ℕ
no_memory = codes "threadmill: no memory\n"

-- the line of an image that was built
unfoldable pub built_line : Program → List ℕ → List ℕ
built_line program file =
    codes "built: harts " ++ decimal program.cases.harts ++ codes ", cases " ++ decimal (length program.cases.cases)
    ++ codes ", bytes " ++ decimal (length file) ++ codes "\n"
