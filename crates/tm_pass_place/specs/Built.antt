-- The built program of cases and masks (this project's own).
use Rattle.std.specs.Prelude.{ℕ, ◌+◌, ◌*◌, List, [], length, map, flat_map, slice_index_or}
use Rattle.tm_plan_cases.specs.declared.cases.Cases.{Cases}
use Rattle.tm_plan_cases.specs.declared.masks.Masks.{Masks}
use Rattle.tm_plan_cases.specs.declared.program.Program.{Program}
use Rattle.tm_plan_cases.specs.declared.program.Marks.{Marks}
use Rattle.tm_plan_map.specs.Map.{text_base}
use Rattle.tm_plan_cases.specs.Layout.{HaveRegisters}
use Rattle.tm_plan_cases.specs.Shaped.{AreShaped, MasksFit, IsProgram}
use Rattle.tm_plan_cases.specs.Tables.{table_bytes}
use Rattle.tm_base.specs.Lists.{count_from}
use Rattle.tm_pass_text.specs.Words.{before_size, opening_size, skip, streams_of, text_words, base_of}
use Rattle.tm_pass_text.specs.Hart.{blocks_of, IsBuilt}

-- ---- the marks of one hart's text, where it begins at an address

-- where case c begins; behind the last case that is the halt mark
abbrev pub head_at : Cases → (h base c : ℕ) → ℕ
head_at cases h base c = base + 4 * (opening_size + skip (blocks_of cases h) 0 (streams_of cases h) c)

-- where the case's stream begins
abbrev pub start_at : Cases → (h base c : ℕ) → ℕ
start_at cases h base c = head_at cases h base c + 4 * before_size (blocks_of cases h) c

-- and where it ends, behind its last word
abbrev pub end_at : Cases → (h base c : ℕ) → ℕ
end_at cases h base c = start_at cases h base c + 4 * length (slice_index_or (streams_of cases h) c [])

-- the halt mark
abbrev pub halt_at : Cases → (h base : ℕ) → ℕ
halt_at cases h base = head_at cases h base (length cases.cases)

-- and the exit mark, at the last word of the hart's barrier
abbrev pub exit_at : Cases → (h base : ℕ) → ℕ
exit_at cases h base = halt_at cases h base + 4 * length (blocks_of cases h).barrier

-- ---- the same in the text of all harts

-- where stream (h, c) begins
abbrev pub start_in : Cases → (h c : ℕ) → ℕ
start_in cases h c = start_at cases h (base_of (blocks_of cases) cases h) c

-- and where it ends
abbrev pub end_in : Cases → (h c : ℕ) → ℕ
end_in cases h c = end_at cases h (base_of (blocks_of cases) cases h) c

-- hart h's halt mark
abbrev pub halt_in : Cases → ℕ → ℕ
halt_in cases h = halt_at cases h (base_of (blocks_of cases) cases h)

-- and its exit mark
abbrev pub exit_in : Cases → ℕ → ℕ
exit_in cases h = exit_at cases h (base_of (blocks_of cases) cases h)

-- a number for each hart and case, hart by hart
abbrev pub by_case : Cases → (ℕ → ℕ → ℕ) → List ℕ
by_case cases f = flat_map (λ h. map (f h) (count_from 0 (length cases.cases))) (count_from 0 cases.harts)

-- the marks of all harts
unfoldable pub marks_in : Cases → Marks
marks_in cases = record {
  starts = by_case cases (start_in cases);
  ends = by_case cases (end_in cases);
  exits = map (exit_in cases) (count_from 0 cases.harts);
  halts = map (halt_in cases) (count_from 0 cases.harts);
}

-- The text is that of all harts, the tables are those of the format, and the marks are where the text has them.
unfoldable pub built : Cases → Masks → Program
built cases masks = record {
  cases = cases;
  masks = masks;
  marks = marks_in cases;
  text = text_words (blocks_of cases) cases 0 cases.harts text_base;
  tables = table_bytes cases masks;
}

-- For shaped cases and masks that fit them it is a program, and a built one.
abbrev pub CasesAreBuilt : Cases → Masks → Type 0
CasesAreBuilt cases masks = AreShaped cases → MasksFit cases masks → HaveRegisters cases
    → IsProgram (built cases masks) × IsBuilt (built cases masks)
