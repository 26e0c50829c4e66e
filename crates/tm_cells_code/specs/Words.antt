-- The words of a test of cells (this project's own). Of each hart, one hart's behind the other's:
--
--   gate      a hart with another number in x10 goes on to the word behind the last one
--   opening   x31 = the private area
--   each add:
--     x6 = what is added; x28 = the cell's address; amoadd.d x5, x6, (x28)
--   x1 = the address behind the barrier
--   the barrier, whose last word stands at the exit mark
--   of hart 0:
--     x28 = the first cell's address; x11 to x18 = the cells
--     x8 = 0, and for each cell from the last to the first: x6 = its sum; where it differs, x8 = its number and 1
--     x7 = the verdict cell's address, which x8 is stored to
--   the halt mark
use Rattle.std.specs.Prelude.{ℕ, zero, suc, ◌+◌, ◌-◌, ◌*◌, List, [], ◌∷◌, ◌++◌, length, map, ◌==◌, if◌then◌else◌}
use Rattle.tm_table.specs.declared.instr.Instr.{Instr}
use Rattle.tm_table.specs.Words.{words_of}
use Rattle.tm_table.specs.declared.add.Add.{Add}
use Rattle.tm_table.specs.Adds.{add_word}
use Rattle.tm_base.specs.Lists.{count_from}
use Rattle.tm_plan_map.specs.Map.{text_base, private_at, verdict_at}
use Rattle.tm_blocks_base.specs.Instrs.{addi, ld, sd, beq}
use Rattle.tm_blocks_base.specs.Blocks.{constant}
use Rattle.tm_barrier.specs.Words.{barrier}
use Rattle.tm_pass_text.specs.Words.{gate}
use Rattle.tm_cells_plan.specs.declared.plan.CellPlan.{CellPlan}
use Rattle.tm_cells_plan.specs.Sums.{addend, cell_of, cell_sum}
use Rattle.tm_cells_world.specs.Kinds.{cell_at}

-- amoadd.d x5, x6, (x28)
abbrev pub the_add : Add
the_add = record { rd = 5; rs1 = 28; rs2 = 6 }

-- ---- adds

-- x6 and x28 of add j
unfoldable pub add_registers : (seed h j : ℕ) → List Instr
add_registers seed h j = constant 6 (addend seed h j) ++ constant 28 (cell_at (cell_of seed h j))

-- the words of add j
unfoldable pub add_words : (seed h j : ℕ) → List ℕ
add_words seed h j = words_of (add_registers seed h j) ++ add_word the_add ∷ []

-- those of n adds from add j on
abbrev pub adds_words : (seed h j n : ℕ) → List ℕ
adds_words seed h j zero = []
adds_words seed h j (suc n) = add_words seed h j ++ adds_words seed h (suc j) n

-- ---- the comparison

-- x11 to x18 become the cells
unfoldable pub loads : List Instr
loads = map (λ q. ld (11 + q) (8 * q) 28) (count_from 0 8)

-- where cell q isn't its sum, x8 is its number and 1
unfoldable pub compare_cell : CellPlan → ℕ → List Instr
compare_cell plan q = constant 6 (cell_sum plan q) ++ (beq (11 + q) 6 8 ∷ addi 8 0 (q + 1) ∷ [])

-- the cells below n, from the last to the first
abbrev pub compare_cells : CellPlan → ℕ → List Instr
compare_cells plan zero = []
compare_cells plan (suc q) = compare_cell plan q ++ compare_cells plan q

-- cells are loaded, compared, and the verdict is stored
unfoldable pub checks : CellPlan → List Instr
checks plan =
    constant 28 (cell_at 0)
    ++ (loads ++ ((addi 8 0 0 ∷ []) ++ (compare_cells plan 8 ++ (constant 7 (verdict_at 0 0) ++ (sd 8 0 7 ∷ [])))))

-- hart 0 alone compares
abbrev pub checks_of : CellPlan → ℕ → List Instr
checks_of plan h = if h == 0 then checks plan else []

-- ---- a hart

-- how many words stand before the barrier
abbrev pub before_size : CellPlan → ℕ
before_size plan = 25 + 23 * plan.adds

abbrev pub barrier_size : CellPlan → ℕ → ℕ
barrier_size plan h = length (barrier h plan.harts)

-- how many words a hart has
abbrev pub hart_size : CellPlan → ℕ → ℕ
hart_size plan h = before_size plan + barrier_size plan h + length (checks_of plan h) + 1

-- the address behind the barrier of a hart whose words begin at base
abbrev pub link_of : CellPlan → (h base : ℕ) → ℕ
link_of plan h base = base + 4 * (before_size plan + barrier_size plan h)

-- the barrier, and what stands behind it
abbrev pub tail_code : CellPlan → ℕ → List Instr
tail_code plan h = barrier h plan.harts ++ checks_of plan h

-- the words of hart h
unfoldable pub hart_words : CellPlan → (h base : ℕ) → List ℕ
hart_words plan h base =
    words_of (gate h (4 * (hart_size plan h - 2)) ++ constant 31 (private_at h))
    ++ (adds_words plan.seed h 0 plan.adds
    ++ (words_of (constant 1 (link_of plan h base) ++ tail_code plan h) ++ (0x0000006F ∷ [])))

-- ---- all harts

-- n harts from hart h on
abbrev pub text_words : CellPlan → (h n base : ℕ) → List ℕ
text_words plan h zero base = []
text_words plan h (suc n) base = hart_words plan h base
    ++ text_words plan (suc h) n (base + 4 * hart_size plan h)

-- how many words stand before hart h's
abbrev pub place_of : CellPlan → ℕ → ℕ
place_of plan zero = 0
place_of plan (suc h) = place_of plan h + hart_size plan h

-- where hart h's words begin
abbrev pub base_of : CellPlan → ℕ → ℕ
base_of plan h = text_base + 4 * place_of plan h

-- the exit mark: the barrier's last word
abbrev pub exit_at : CellPlan → ℕ → ℕ
exit_at plan h = base_of plan h + 4 * (before_size plan + barrier_size plan h - 1)

-- the halt mark
abbrev pub halt_at : CellPlan → ℕ → ℕ
halt_at plan h = base_of plan h + 4 * (hart_size plan h - 1)

-- the text of a test
unfoldable pub cell_text : CellPlan → List ℕ
cell_text plan = text_words plan 0 plan.harts text_base

-- its exit marks and its halt marks
unfoldable pub cell_exits : CellPlan → List ℕ
cell_exits plan = map (exit_at plan) (count_from 0 plan.harts)

unfoldable pub cell_halts : CellPlan → List ℕ
cell_halts plan = map (halt_at plan) (count_from 0 plan.harts)
