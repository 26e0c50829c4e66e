-- The words that set and collect the dwords that a hart collects, and the moves that they make (this project's own).
use Rattle.std.specs.Prelude.{ℕ, ◌+◌, ◌-◌, ◌*◌, ◌/◌, List, [], ◌∷◌, ◌++◌, flat_map, map}
use Rattle.tm_table.specs.declared.instr.Instr.{Instr}
use Rattle.tm_plan_cases.specs.declared.cases.Cases.{Cases}
use Rattle.tm_plan_map.specs.Map.{windows_base}
use Rattle.tm_blocks_base.specs.Instrs.{addi}
use Rattle.tm_blocks_base.specs.Blocks.{constant, copy_dwords}
use Rattle.tm_plan_owned.specs.Lines.{line_count, line_place, three}
use Rattle.tm_blocks_move.specs.Words.{move_lines}
use Rattle.tm_blocks_move.specs.Laws.{Move}

-- ---- words

-- half of the way from a line of a hart to its next
abbrev pub half_stride : Cases → ℕ
half_stride cases = cases.line * cases.harts / 2

-- hart h's lines of window v become those that stand as far from `from` as they from the windows' first byte
abbrev pub first_window : Cases → (h from v : ℕ) → List Instr
first_window cases h from v =
    constant 2 (windows_base + line_place cases h v)
    ++ move_lines (from + line_place cases h v) (line_count cases h v) (cases.line / 8) (half_stride cases)
    (half_stride cases)

-- all declared dwords that hart h collects
unfoldable pub first_bytes : Cases → (h from : ℕ) → List Instr
first_bytes cases h from = flat_map (first_window cases h from) three

-- hart h's lines of window v go to where x2 points
abbrev pub collect_window : Cases → (h v : ℕ) → List Instr
collect_window cases h v =
    move_lines (windows_base + line_place cases h v) (line_count cases h v) (cases.line / 8) (half_stride cases)
    (cases.line / 2)

-- all of them
unfoldable pub collect_windows : Cases → ℕ → List Instr
collect_windows cases h = flat_map (collect_window cases h) three

-- The 30 dwords at x31 go to x9, and all declared dwords that hart h collects to those behind.
unfoldable pub collect_all : Cases → ℕ → List Instr
collect_all cases h = copy_dwords 31 0 9 0 30 ++ (addi 2 9 240 ∷ []) ++ collect_windows cases h

-- ---- moves

-- each of these dwords becomes that which stands as far from `from` as it from the windows' first byte
abbrev pub set_moves : (from : ℕ) → List ℕ → List Move
set_moves from dwords = map (λ a. (from + (a - windows_base), a)) dwords

-- these dwords go to those from q on
abbrev pub collect_moves : List ℕ → (q : ℕ) → List Move
collect_moves [] q = []
collect_moves (a ∷ rest) q = (a, q) ∷ collect_moves rest (q + 8)
