-- What small lines xor to results has 64 bits, and so has what accepted lines do.
use Rattle.std.proofs.Common.{ℕ, ◌^◌, ◌<◌, List, [], ◌∷◌, Bool, true, false, map, lit<}
use Rattle.std.specs.Prelude.{if◌then◌else◌}
use Rattle.std.proofs.lemmas.List.Elements.{All-head, All-tail}
use Rattle.tm_plan_cases.specs.declared.program.Program.{Program}
use Rattle.tm_plan_script.specs.declared.faults.FaultLine.{FaultLine}
use Rattle.tm_plan_script.specs.declared.faults.Action.{Action}
use Rattle.tm_plan_script.specs.declared.faults.Action.TheVariants.{Result, Loaded, Stored, Drop, Turn}
use Rattle.tm_plan_script.specs.Accepted.{AreAccepted}
use Rattle.tm_plan_script.specs.Laws.{AreSmall, number_of}
use Rattle.tm_plan_script.proofs.Numbers.{accepted-small}
use Rattle.tm_world.specs.Lists.{those}
use Rattle.tm_world.specs.Script.{names, for_result, first_number, change_of}

abbrev action_of : FaultLine → Action
action_of line = line.action

small-first : (a : Action) (more : List Action) → number_of a < 2 ^ 64 → first_number for_result more < 2 ^ 64
    → first_number for_result (a ∷ more) < 2 ^ 64
small-first (Result x) more l m = l
small-first (Loaded x) more l m = m
small-first (Stored x) more l m = m
small-first Drop more l m = m
small-first Turn more l m = m

-- the number that is xored to the result by those of the lines that pass a test
abbrev result_by : List FaultLine → ℕ
result_by lines = first_number for_result (map action_of lines)

small-those : (test : FaultLine → Bool) (lines : List FaultLine) → AreSmall lines
    → result_by (those test lines) < 2 ^ 64
small-those test [] s = lit< tt
small-those test (line ∷ lines) s =
    by (test line) (All-head (λ line. number_of line.action < 2 ^ 64) line lines s)
    (small-those test lines (All-tail (λ line. number_of line.action < 2 ^ 64) line lines s))
  where
    by : (b : Bool) → number_of line.action < 2 ^ 64 → result_by (those test lines) < 2 ^ 64
        → result_by (if b then line ∷ those test lines else those test lines) < 2 ^ 64
    by true l m = small-first line.action (map action_of (those test lines)) l m
    by false l m = m

pub small-results : (p : Program) (lines : List FaultLine) → AreSmall lines → (h q pc : ℕ)
    → (change_of p lines h q pc).result < 2 ^ 64
unfolding change_of
small-results p lines s h q pc = small-those (λ line. names p line h q pc) lines s

-- and those of accepted lines
pub accepted-results : (p : Program) (lines : List FaultLine) → AreAccepted p.cases lines → (h q pc : ℕ)
    → (change_of p lines h q pc).result < 2 ^ 64
accepted-results p lines accepted = small-results p lines (accepted-small p.cases lines accepted)
