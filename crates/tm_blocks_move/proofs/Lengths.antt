-- How many instructions the words have that move lines.
use Rattle.std.proofs.Common.{◌≡◌, ℕ, ◌+◌, ◌*◌, ◌≤◌, List, [], ◌∷◌, ◌++◌, length, Bool, true, false, ◌==◌, refl, ap}
use Rattle.std.proofs.Common.{◌∙◌, arith, length-append}
use Rattle.std.specs.Prelude.{if◌then◌else◌}
use Rattle.tm_table.specs.declared.instr.Instr.{Instr}
use Rattle.tm_blocks_base.specs.Instrs.{addi}
use Rattle.tm_blocks_base.specs.Blocks.{constant, copy_dwords}
use Rattle.tm_blocks_base.proofs.Lengths.{length-constant, length-copy_dwords}
use Rattle.tm_blocks_move.specs.Words.{line_turn, lines_loop, move_lines}

module _ (n a b : ℕ) where
  pub length-loop : length (lines_loop n a b) ≡ 2 * n + 6
  unfolding lines_loop
  length-loop = length-append (copy_dwords 1 0 2 0 n) (line_turn n a b) ∙ ap (λ (k : ℕ). k + 6)
      (length-copy_dwords 1 0 2 0 n)

  abbrev pub whole : (from lines : ℕ) → List Instr
  whole from lines = constant 1 from ++ (addi 4 0 lines ∷ []) ++ lines_loop n a b

  pub length-whole : (from lines : ℕ) → length (whole from lines) ≡ 2 * n + 18
  length-whole from lines =
      length-append (constant 1 from ++ (addi 4 0 lines ∷ [])) (lines_loop n a b)
      ∙ omega (arith, length-loop, length-append (constant 1 from) (addi 4 0 lines ∷ []), length-constant 1 from)

  -- no line, or some
  pub piece-is : (from lines : ℕ) (c : Bool) → (lines == 0) ≡ c → move_lines from lines n a b
      ≡ (if c then [] else whole from lines)
  unfolding move_lines
  piece-is from lines c e = ap (λ (d : Bool). if d then [] else whole from lines) e

  pub length-piece : (from lines : ℕ) → length (move_lines from lines n a b) ≤ 2 * n + 18
  length-piece from lines = by (lines == 0) refl
    where
      by : (c : Bool) → (lines == 0) ≡ c → length (move_lines from lines n a b) ≤ 2 * n + 18
      by true e = omega (arith, ap length (piece-is from lines true e))
      by false e = omega (arith, ap length (piece-is from lines false e), length-whole from lines)
