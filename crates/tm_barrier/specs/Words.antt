-- The words of a barrier, as a list of instructions (this project's own). A hart comes to the first of them with its
-- private area's address in x31 and the address behind the barrier in x1.
use Rattle.std.specs.Prelude.{ℕ, ◌*◌, ◌==◌, List, [], ◌∷◌, ◌++◌, flat_map, if◌then◌else◌}
use Rattle.tm_table.specs.declared.instr.Instr.{Instr}
use Rattle.tm_base.specs.Lists.{count_from}
use Rattle.tm_blocks_base.specs.Instrs.{addi, slli, ld, sd}
use Rattle.tm_blocks_base.specs.Instrs.{fence, bltu_back, go_to}

-- The count of exits, 256 bytes into the private area, goes up by one into x2, and x3 is the address of the first
-- flag: 515 * 2 ^ 22.
unfoldable pub prepare : List Instr
prepare = ld 2 256 31 ∷ addi 2 2 1 ∷ sd 2 256 31 ∷ addi 3 0 515 ∷ slli 3 3 22 ∷ fence ∷ []

-- hart h's flag becomes the count
abbrev pub signal : ℕ → List Instr
signal h = sd 2 (128 * h) 3 ∷ []

-- hart g's flag is read until it is at least the count
abbrev pub wait : ℕ → List Instr
wait g = ld 4 (128 * g) 3 ∷ bltu_back 4 2 4 ∷ []

-- hart g's flag, if g isn't h
abbrev pub turn : ℕ → ℕ → List Instr
turn h g = if g == h then [] else wait g

-- the flags of these harts but h's
unfoldable pub waits : ℕ → List ℕ → List Instr
waits h gs = flat_map (turn h) gs

-- up to the last flag
unfoldable pub meet : (h harts : ℕ) → List Instr
meet h harts = prepare ++ signal h ++ waits h (count_from 0 harts)

-- Behind the flags stand a fence, from which the hart comes to the exit mark, and there the way back.
unfoldable pub barrier : (h harts : ℕ) → List Instr
barrier h harts = meet h harts ++ (fence ∷ []) ++ (go_to 1 ∷ [])
