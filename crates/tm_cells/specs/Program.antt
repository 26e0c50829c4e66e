-- What a program of cells keeps (this project's own).
use Rattle.std.specs.Prelude.{◌≡◌, ℕ, ◌<◌, ◌≤◌, List, length, IsTrue}
use Rattle.tm_table.specs.declared.state.Access.TheVariants.{Read, Write}
use Rattle.tm_plan_map.specs.Map.{verdict_at}
use Rattle.tm_world.specs.Run.{Run, Always, hart_of, access_of}
use Rattle.tm_world.specs.Course.{reads_in, writes_in}
use Rattle.tm_cells_plan.specs.declared.plan.CellPlan.{CellPlan}
use Rattle.tm_cells_plan.specs.Sums.{IsPlan, cell_sum}
use Rattle.tm_cells_world.specs.Kinds.{CellPlain, CellLegal, OnCellHalf, cell_at}
use Rattle.tm_cells_code.specs.Words.{cell_text, cell_exits, cell_halts}
use Rattle.tm_cells_code.specs.View.{view}
use Rattle.tm_cells_code.specs.Harts.{HartCells}

-- the plan is one, and the words and the marks are those of the plan
pub record IsOfPlan (plan : CellPlan) (text exits halts : List ℕ) : Type 0 where
  pub planned : IsPlan plan
  pub words : text ≡ cell_text plan
  pub exit_marks : exits ≡ cell_exits plan
  pub halt_marks : halts ≡ cell_halts plan

-- The text has 1 to 2,097,152 words, and there is one exit mark and one halt mark for each hart. On each legal cell run
-- what hart 0 reads of cell q is its sum, and no number other than 0 is written to verdict cell (0, 0). On each half
-- cell run each hart does its part. Each plain cell run is legal.
pub record IsCellProgram (plan : CellPlan) (text exits halts : List ℕ) : Type 0 where
  pub planned : IsPlan plan
  pub long : (1 ≤ length text) × (length text ≤ 2097152)
  pub exit_count : length exits ≡ plan.harts
  pub halt_count : length halts ≡ plan.harts
  pub sums : (r : Run) → CellLegal (view plan.harts text exits halts) r
      → Always (λ past s. hart_of s ≡ 0 → (q : ℕ) → q < 8 → IsTrue (reads_in (cell_at q) 8 (access_of s))
      → access_of s ≡ Read (cell_at q) 8 (cell_sum plan q)) r.steps
  pub silent : (r : Run) → CellLegal (view plan.harts text exits halts) r
      → Always (λ past s. IsTrue (writes_in (verdict_at 0 0) 8 (access_of s)) → access_of s ≡ Write (verdict_at 0 0) 8 0)
      r.steps
  pub harts : (h : ℕ) → h < plan.harts
      → OnCellHalf (view plan.harts text exits halts) h (HartCells plan (view plan.harts text exits halts) h)
  pub plain : (r : Run) → CellPlain (view plan.harts text exits halts) r
      → CellLegal (view plan.harts text exits halts) r
