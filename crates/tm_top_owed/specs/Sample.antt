-- How a sample is summed up (this project's own).
use Rattle.std.specs.Prelude.{ℕ, ◌==◌, not, List, ◌++◌, length, codes}
use Rattle.std.specs.List.{sum_by, count_by}
use Rattle.std.specs.Fmt.{decimal}
use Rattle.tm_plan_cases.specs.declared.cases.Cases.{Cases}
use Rattle.tm_plan_cases.specs.declared.cases.Case.{Case}
use Rattle.tm_plan_cases.specs.declared.cases.Stream.{Stream}

-- how many slots all streams of all cases have
abbrev pub slots_of : Cases → ℕ
slots_of cases = sum_by (λ (case : Case). sum_by (λ (s : Stream). length s.words) case.streams) cases.cases

-- how many verdicts aren't 0
abbrev pub count_reported : List ℕ → ℕ
count_reported verdicts = count_by (λ v. not (v == 0)) verdicts

-- the line of sample n with these cases and verdicts
unfoldable pub summary : ℕ → Cases → List ℕ → List ℕ
summary n cases verdicts =
    codes "sample " ++ decimal n ++ codes ": harts " ++ decimal cases.harts ++ codes ", cases "
    ++ decimal (length cases.cases) ++ codes ", passes " ++ decimal cases.passes ++ codes ", words "
    ++ decimal (slots_of cases) ++ codes ", reported " ++ decimal (count_reported verdicts) ++ codes "\n"
