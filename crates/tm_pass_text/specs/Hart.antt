-- The words of a hart's program, of the blocks of support code (this project's own).
use Rattle.std.specs.Prelude.{ℕ, ◌+◌, ◌*◌, List}
use Rattle.tm_plan_cases.specs.declared.cases.Cases.{Cases}
use Rattle.tm_plan_cases.specs.declared.program.Program.{Program}
use Rattle.tm_plan_map.specs.Map.{table_at, save_at, verdict_at}
use Rattle.tm_blocks_base.specs.Blocks.{load_registers, save_registers}
use Rattle.tm_blocks_move.specs.Lines.{first_bytes, collect_all}
use Rattle.tm_blocks_compare.specs.Words.{compare_all, case_masks, case_bytes}
use Rattle.tm_barrier.specs.Words.{barrier}
use Rattle.tm_pass_text.specs.Words.{Blocks, IsText, hart_words, streams_of}

-- the table of case c has hart h's first registers here
abbrev pub registers_at : Cases → (h c : ℕ) → ℕ
registers_at cases h c = table_at cases.harts c + 256 * h

-- and here the first dwords of the windows
abbrev pub first_at : Cases → ℕ → ℕ
first_at cases c = table_at cases.harts c + 256 * cases.harts

-- the blocks of hart h's program
abbrev pub blocks_of : Cases → ℕ → Blocks
blocks_of cases h = record {
  first = λ c. first_bytes cases h (first_at cases c);
  load = λ c. load_registers (registers_at cases h c);
  save = save_registers;
  collect = collect_all cases h;
  compare = λ c. compare_all cases h (save_at h 0) (case_masks cases h c) (case_bytes cases c) (verdict_at c h);
  barrier = barrier h cases.harts;
}

-- the words of hart h's program, where it begins at an address
unfoldable pub words_of_hart : Cases → (h base : ℕ) → List ℕ
words_of_hart cases h base = hart_words (blocks_of cases h) cases.passes (streams_of cases h) h base

-- The program's text is the programs of all its harts, one after another, and its marks are where they have them.
abbrev pub IsBuilt : Program → Type 0
IsBuilt p = IsText p (blocks_of p.cases)
