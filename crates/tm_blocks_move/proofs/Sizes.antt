-- How many words set and collect a hart's dwords, and what no words append.
use Rattle.std.proofs.Common.{◌≡◌, ℕ, ◌+◌, ◌*◌, ◌/◌, ◌≤◌, List, [], ◌∷◌, ◌++◌, length, flat_map, sym, ap, ◌∙◌, arith}
use Rattle.std.proofs.Common.{append-nil, length-append}
use Rattle.tm_table.specs.declared.instr.Instr.{Instr}
use Rattle.tm_plan_cases.specs.declared.cases.Cases.{Cases}
use Rattle.tm_plan_map.specs.Map.{windows_base}
use Rattle.tm_plan_cases.specs.Shaped.{AreShaped}
use Rattle.tm_asm.specs.Sheet.{Sheet, puts}
use Rattle.tm_asm.proofs.Append.{puts-none}
use Rattle.tm_blocks_base.specs.Instrs.{addi}
use Rattle.tm_blocks_base.specs.Blocks.{constant, copy_dwords}
use Rattle.tm_blocks_base.proofs.Lengths.{length-constant, length-copy_dwords}
use Rattle.tm_plan_owned.specs.Lines.{line_count, line_place, three}
use Rattle.tm_plan_owned.proofs.Reach.{line_most}
use Rattle.tm_blocks_move.specs.Words.{move_lines}
use Rattle.tm_blocks_move.specs.Lines.{half_stride, first_window, first_bytes, collect_window, collect_windows}
use Rattle.tm_blocks_move.specs.Lines.{collect_all}
use Rattle.tm_blocks_move.proofs.Lengths.{length-piece}

-- no lines, and some
pub no-lines : (from lines n a b : ℕ) (code : Sheet) → lines ≡ 0 → code ≡ puts code (move_lines from lines n a b)
unfolding move_lines
no-lines from lines n a b code e = sym (puts-none code) ∙ ap (λ (k : ℕ). puts code (move_lines from k n a b)) (sym e)

-- ---- how many words

pub length-first : (cases : Cases) (h from : ℕ) → AreShaped cases → length (first_bytes cases h from) ≤ 183
unfolding first_bytes
length-first cases h from s =
    let n = cases.line / 8 in
    let a = half_stride cases in
    let most = line_most cases s in
    let one : (v : ℕ) → length (first_window cases h from v) ≤ 29 + 2 * n =
    λ v. omega (
      arith,
      length-append (constant 2 (windows_base + line_place cases h v))
          (move_lines (from + line_place cases h v) (line_count cases h v) n a a),
      length-constant 2 (windows_base + line_place cases h v),
      length-piece n a a (from + line_place cases h v) (line_count cases h v),
    ) in
    let f = first_window cases h from in
    omega (
      arith,
      one 0,
      one 1,
      one 2,
      length-append (f 0) (f 1 ++ (f 2 ++ [])),
      length-append (f 1) (f 2 ++ []),
      ap length (append-nil (f 2)),
    )

pub length-collect : (cases : Cases) (h : ℕ) → AreShaped cases → length (collect_all cases h) ≤ 211
unfolding collect_all collect_windows
length-collect cases h s =
    let n = cases.line / 8 in
    let a = half_stride cases in
    let most = line_most cases s in
    let one : (v : ℕ) → length (collect_window cases h v) ≤ 18 + 2 * n =
    λ v. omega (
      arith,
      length-piece n a (cases.line / 2) (windows_base + line_place cases h v)
          (line_count cases h v),
    ) in
    let f = collect_window cases h in
    let l1 = copy_dwords 31 0 9 0 30 in
    let l2 : List Instr = addi 2 9 240 ∷ [] in
    omega (
      arith,
      one 0,
      one 1,
      one 2,
      length-append (f 0) (f 1 ++ (f 2 ++ [])),
      length-append (f 1) (f 2 ++ []),
      ap length (append-nil (f 2)),
      length-append (l1 ++ l2) (flat_map f three),
      length-append l1 l2,
      length-copy_dwords 31 0 9 0 30,
    )
