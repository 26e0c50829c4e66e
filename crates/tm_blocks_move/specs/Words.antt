-- Words that move dwords line by line (this project's own): x1 points to what is read, x2 to where it is written, x4
-- counts lines down, and x3 carries a dword.
use Rattle.std.specs.Prelude.{ℕ, ◌+◌, ◌*◌, ◌==◌, List, [], ◌∷◌, ◌++◌, if◌then◌else◌}
use Rattle.tm_table.specs.declared.instr.Instr.{Instr}
use Rattle.tm_blocks_base.specs.Instrs.{addi, subi, bne_back}
use Rattle.tm_blocks_base.specs.Blocks.{constant, copy_dwords}

-- x1 and x2 go on by 2 * a and 2 * b bytes, and back to the line's first word where lines are left; a distance of
-- 2048 bytes is more than one addition reaches
abbrev pub line_turn : (n a b : ℕ) → List Instr
line_turn n a b = addi 1 1 a ∷ addi 1 1 a ∷ addi 2 2 b ∷ addi 2 2 b ∷ subi 4 4 1 ∷ bne_back 4 0 (8 * n + 20) ∷ []

-- a line of n dwords is moved, and then x1 and x2 go on, as often as x4 says
unfoldable pub lines_loop : (n a b : ℕ) → List Instr
lines_loop n a b = copy_dwords 1 0 2 0 n ++ line_turn n a b

-- so many lines from an address on, if there are any, go to where x2 points
unfoldable pub move_lines : (from lines n a b : ℕ) → List Instr
move_lines from lines n a b = if lines == 0 then [] else constant 1 from ++ (addi 4 0 lines ∷ []) ++ lines_loop n a b
