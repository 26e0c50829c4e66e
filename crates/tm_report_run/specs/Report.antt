-- The report on a run: for each case what differed, or that nothing did. Source: this project.
use Rattle.std.specs.Prelude.{◌≡◌, ◌⊎◌, ℕ, suc, ◌+◌, ◌-◌, ◌*◌, ◌/◌, ◌%◌, ◌^◌, ◌<◌, ◌≤◌, ◌==◌, nat_lt, if◌then◌else◌}
use Rattle.std.specs.Prelude.{List, [], ◌∷◌, ◌++◌, length, take, drop, slice_index, codes}
use Rattle.std.specs.List.{list_all}
use Rattle.std.specs.Fmt.{decimal}
use Rattle.tm_base.specs.Numbers.{hex_text}
use Rattle.tm_plan_cases.specs.declared.cases.Cases.{Cases}
use Rattle.tm_plan_cases.specs.declared.cases.Case.{Case}
use Rattle.tm_plan_cases.specs.Collected.{owned}

-- ---- what a verdict says

-- A verdict of hart h is 0, or names a pass k from 1 and a saved dword i in which it differs from pass 0.
abbrev pub IsVerdictOf : Cases → (h v : ℕ) → Type 0
IsVerdictOf cases h v = (v ≡ 0) ⊎ ((k : ℕ) × (i : ℕ) × (1 ≤ k) × (k < cases.passes)
    × (i < 30 + length (owned cases h)) × (v ≡ k * 2 ^ 32 + i + 1))

-- Each number is a verdict of its hart: that of case c and hart h of N stands at c * N + h.
abbrev pub AreVerdicts : Cases → List ℕ → Type 0
AreVerdicts cases v = (c h : ℕ) → c < length cases.cases → h < cases.harts
    → IsVerdictOf cases h (slice_index v (c * cases.harts + h))

-- the pass that a verdict other than 0 names
abbrev pub pass_in : ℕ → ℕ
pass_in v = v / 2 ^ 32

-- the saved dword that it names
abbrev pub dword_in : ℕ → ℕ
dword_in v = v % 2 ^ 32 - 1

-- ---- lines

-- saved dword i of hart h: a register, x1 to x30, or the address of a dword that the hart collects
unfoldable pub place_text : Cases → (h i : ℕ) → List ℕ
place_text cases h i = if nat_lt i 30 then codes "x" ++ decimal (i + 1)
    else codes "0x" ++ hex_text 8 (slice_index (owned cases h) (i - 30))

-- what the lines of a case begin with
unfoldable pub case_text : ℕ → List ℕ → List ℕ
case_text c name = codes "case " ++ decimal c ++ codes " " ++ name ++ codes ": "

-- what a line says of hart h before the place
unfoldable pub hart_text : ℕ → List ℕ → (h pass : ℕ) → List ℕ
hart_text c name h pass =
    case_text c name ++ codes "hart " ++ decimal h ++ codes " pass " ++ decimal pass ++ codes " "

-- the line of a hart's verdict v, which isn't 0: the pass and the place of the first difference
unfoldable pub difference_line : Cases → ℕ → List ℕ → (h v : ℕ) → List ℕ
difference_line cases c name h v =
    hart_text c name h (pass_in v) ++ place_text cases h (dword_in v) ++ codes "\n"

-- the line of a hart's verdict, and none where it is 0
abbrev pub verdict_lines : Cases → ℕ → List ℕ → (h v : ℕ) → List ℕ
verdict_lines cases c name h v = if v == 0 then [] else difference_line cases c name h v

-- the lines of harts that are numbered from h on, by their verdicts
abbrev pub hart_lines : Cases → ℕ → List ℕ → ℕ → List ℕ → List ℕ
hart_lines cases c name h [] = []
hart_lines cases c name h (v ∷ more) = verdict_lines cases c name h v ++ hart_lines cases c name (suc h) more

-- the lines of a case, by the verdicts of its harts
unfoldable pub case_lines : Cases → ℕ → List ℕ → List ℕ → List ℕ
case_lines cases c name verdicts = if list_all (λ v. v == 0) verdicts then case_text c name ++ codes "ok\n"
    else hart_lines cases c name 0 verdicts

-- the verdicts on case c, out of all
abbrev pub verdicts_at : Cases → List ℕ → ℕ → List ℕ
verdicts_at cases verdicts c = take cases.harts (drop (c * cases.harts) verdicts)

-- the lines of cases that are numbered from c on, by all verdicts
abbrev pub cases_lines : Cases → List ℕ → ℕ → List Case → List ℕ
cases_lines all verdicts c [] = []
cases_lines all verdicts c (case ∷ more) =
    case_lines all c case.name (verdicts_at all verdicts c) ++ cases_lines all verdicts (suc c) more

-- ---- whole texts

-- the report on a run of so many events at whose end all harts are at halt
unfoldable pub report : Cases → List ℕ → ℕ → List ℕ
report cases verdicts events =
    cases_lines cases verdicts 0 cases.cases ++ codes "events " ++ decimal events ++ codes "\n"

-- the line on a run whose room is full, at whose end so many of the harts are at halt
unfoldable pub full_line : (events halted harts : ℕ) → List ℕ
full_line events halted harts =
    codes "full: " ++ decimal events ++ codes " events, " ++ decimal halted ++ codes " of " ++ decimal harts
    ++ codes " harts halted\n"
