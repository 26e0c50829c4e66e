-- Code of plain instructions, without labels (this project's own).
use Rattle.std.specs.Prelude.{◌≡◌, ℕ, List, [], ◌++◌}
use Rattle.tm_table.specs.declared.instr.Instr.{Instr}
use Rattle.tm_asm.specs.Sheet.{Sheet, puts}
use Rattle.tm_table.specs.Words.{words_of}
use Rattle.tm_plan_cases.specs.declared.cases.Cases.{Cases}
use Rattle.tm_pass_text.specs.Words.{case_words}
use Rattle.tm_pass_text.specs.Hart.{blocks_of}

-- code without words and labels
abbrev pub blank : Sheet
blank = record { items = []; places = [] }

-- the code is some instructions alone
abbrev pub IsPlain : Sheet → Type 0
IsPlain s = (block : List Instr) × (s ≡ puts blank block)

-- new is old with the words of the instructions that the code has
abbrev pub AddsWords : Sheet → (old new : List ℕ) → Type 0
AddsWords s old new = (block : List Instr) → s ≡ puts blank block → new ≡ old ++ words_of block

-- the words of case c of hart h round a stream, where they begin at one address, and the barrier stands at another
abbrev pub words_of_case : Cases → (h c : ℕ) → List ℕ → (place barrier : ℕ) → List ℕ
words_of_case cases h c stream place barrier = case_words (blocks_of cases h) cases.passes c stream place barrier
