-- Words that compare the saved dwords of all passes with those of pass 0 (this project's own). x1 and x2 point to the
-- dwords of pass 0 and of pass k, x3 to the mask bytes, x5 is the mask of the registers, x8 counts dwords, x9 is k;
-- x4 and x10 count down, x6 and x7 hold values.
use Rattle.std.specs.Prelude.{ℕ, ◌+◌, ◌-◌, ◌*◌, ◌/◌, ◌==◌, List, [], ◌∷◌, ◌++◌, length, if◌then◌else◌}
use Rattle.tm_table.specs.declared.instr.Instr.{Instr}
use Rattle.tm_plan_cases.specs.declared.cases.Cases.{Cases}
use Rattle.tm_plan_map.specs.Map.{table_at, save_at, verdict_at}
use Rattle.tm_blocks_base.specs.Instrs.{addi, slli, add, xor, and, ld, sd, beq, bne, jump}
use Rattle.tm_blocks_base.specs.Blocks.{constant}
use Rattle.tm_blocks_base.specs.Instrs.{subi, bne_back}
use Rattle.tm_plan_owned.specs.Lines.{line_count, line_place}

-- The 30 registers, of which x10 has the bit in the mask. A difference leads `far` instructions on from the last of
-- these.
abbrev pub register_look : ℕ → List Instr
register_look far = addi 8 8 1 ∷ and 6 10 5 ∷ beq 6 0 16 ∷ ld 6 0 1 ∷ ld 7 0 2 ∷ bne 6 7 (4 * (6 + far)) ∷ []

-- on to the next register: both pointers, the bit of its mask, and the count
abbrev pub register_on : List Instr
register_on = addi 1 1 8 ∷ addi 2 2 8 ∷ add 10 10 10 ∷ subi 4 4 1 ∷ bne_back 4 0 40 ∷ []

-- one turn: a register is looked at, and on to the next
abbrev pub register_turn : ℕ → List Instr
register_turn far = register_look far ++ register_on

-- the 30 registers, from the bit of x1 on
unfoldable pub register_loop : ℕ → List Instr
register_loop far = addi 10 0 2 ∷ addi 4 0 30 ∷ register_turn far

-- x10 dwords, of which the mask at x3 says what is checked; between the last of these and where a difference leads
-- stand three instructions more and `far`
abbrev pub dword_look : ℕ → List Instr
dword_look far = addi 8 8 1 ∷ ld 6 0 1 ∷ ld 7 0 2 ∷ xor 6 6 7 ∷ ld 7 0 3 ∷ and 6 6 7 ∷ bne 6 0 (4 * (9 + far)) ∷ []

-- on to the next dword: three pointers, and the count
abbrev pub dword_on : List Instr
dword_on = addi 1 1 8 ∷ addi 2 2 8 ∷ addi 3 3 8 ∷ subi 10 10 1 ∷ bne_back 10 0 44 ∷ []

-- one turn: a dword is looked at, and on to the next
abbrev pub dword_turn : ℕ → List Instr
dword_turn far = dword_look far ++ dword_on

-- x4 lines of n dwords, with b bytes between two of them
abbrev pub line_turn : (n b far : ℕ) → List Instr
line_turn n b far = (addi 10 0 n ∷ []) ++ dword_turn far ++ (addi 3 3 b ∷ subi 4 4 1 ∷ bne_back 4 0 60 ∷ [])

-- so many lines, if there are any, with the masks from an address on
unfoldable pub window_check : (masks lines n b far : ℕ) → List Instr
window_check masks lines n b far =
    if lines == 0 then [] else constant 3 masks ++ (addi 4 0 lines ∷ []) ++ line_turn n b far

-- hart h's lines of window v, whose masks stand as far from `bytes` as they from the windows' first byte
abbrev pub own_check : Cases → (h bytes v far : ℕ) → List Instr
own_check cases h bytes v far =
    window_check (bytes + line_place cases h v) (line_count cases h v) (cases.line / 8)
    (cases.line * cases.harts - cases.line) far

-- the lines of window 2
abbrev pub last_check : Cases → (h bytes : ℕ) → List Instr
last_check cases h bytes = own_check cases h bytes 2 5

-- the lines of window 1
abbrev pub next_check : Cases → (h bytes : ℕ) → List Instr
next_check cases h bytes = own_check cases h bytes 1 (5 + length (last_check cases h bytes))

-- the lines of window 0
abbrev pub first_check : Cases → (h bytes : ℕ) → List Instr
first_check cases h bytes =
    own_check cases h bytes 0 (5 + length (last_check cases h bytes) + length (next_check cases h bytes))

-- pass k, which is in x9, against pass 0, whose dwords are at `first`; those of the passes are 8192 bytes apart
unfoldable pub pass_head : ℕ → List Instr
pass_head first = constant 1 first ++ (slli 2 9 13 ∷ add 2 2 1 ∷ addi 8 0 0 ∷ [])

-- the registers and then the windows of one pass
unfoldable pub pass_body : Cases → (h bytes : ℕ) → List Instr
pass_body cases h bytes =
    register_loop (5 + length (last_check cases h bytes) + length (next_check cases h bytes)
    + length (first_check cases h bytes))
    ++ first_check cases h bytes ++ next_check cases h bytes ++ last_check cases h bytes

-- the next pass, if there is one
abbrev pub pass_tail : (passes long : ℕ) → List Instr
pass_tail passes long = addi 9 9 1 ∷ addi 10 0 passes ∷ bne_back 9 10 (4 * (long + 2)) ∷ []

-- one pass, compared with pass 0
abbrev pub one_pass : Cases → (h first bytes : ℕ) → List Instr
one_pass cases h first bytes = pass_head first ++ pass_body cases h bytes

-- all passes from 1 on, with x8 0 or, from the third of these words behind the last pass on, the number of a difference
unfoldable pub all_passes : Cases → (h first bytes : ℕ) → List Instr
all_passes cases h first bytes =
    one_pass cases h first bytes ++ pass_tail cases.passes (length (one_pass cases h first bytes))

-- x8 becomes 0 where no pass differs; a difference leads to the third of these words
abbrev pub closing : List Instr
closing = addi 8 0 0 ∷ jump 12 ∷ slli 9 9 32 ∷ add 8 8 9 ∷ []

-- Compares all passes, and comes with the verdict in x8 to the store that writes it to the cell.
unfoldable pub compare_all_but_last : Cases → (h first masks bytes cell : ℕ) → List Instr
compare_all_but_last cases h first masks bytes cell =
    constant 4 masks ++ (ld 5 0 4 ∷ addi 9 0 1 ∷ []) ++ all_passes cases h first bytes
    ++ closing ++ constant 7 cell

-- the same with the store
unfoldable pub compare_all : Cases → (h first masks bytes cell : ℕ) → List Instr
compare_all cases h first masks bytes cell = compare_all_but_last cases h first masks bytes cell ++ (sd 8 0 7 ∷ [])

-- ---- in the table of case c

-- the dword with the mask of hart h's registers
unfoldable pub case_masks : Cases → (h c : ℕ) → ℕ
case_masks cases h c = table_at cases.harts c + 256 * h + 248

-- the mask bytes of the windows
unfoldable pub case_bytes : Cases → ℕ → ℕ
case_bytes cases c = table_at cases.harts c + 256 * cases.harts + 6144

-- the words that compare the passes of case c and write hart h's verdict
abbrev pub compare_case : Cases → (c h : ℕ) → List Instr
compare_case cases c h =
    compare_all cases h (save_at h 0) (case_masks cases h c) (case_bytes cases c) (verdict_at c h)
