-- The words of each hart's program, and of all harts, put together of their blocks (this project's own). Of each
-- hart, in order:
--
--   gate      a hart with another number in x10 goes on to the word behind the last one
--   opening   x31 = the private area
--   each case:
--     reset     the pass counter, 264 bytes into the private area, is 0
--     first     the first bytes                       (each pass begins here)
--     call      the barrier
--     load      the first registers
--     the stream, from its start mark to its end mark
--     save      the registers
--     call      the barrier
--     aim       x9 = the save area of the pass that the counter says
--     collect   the end state
--     turn      the counter goes up; back to first, if that was not the last pass
--     compare   the passes, and the verdict
--   the halt mark
--   the barrier, whose last word stands at the exit mark
use Rattle.std.specs.Prelude.{◌≡◌, ℕ, zero, suc, ◌+◌, ◌-◌, ◌*◌, ◌<◌, ◌≤◌, List, [], ◌∷◌, ◌++◌, length, map, slice_get}
use Rattle.std.specs.Prelude.{slice_index_or, Option, None, Some, pos}
use Rattle.tm_table.specs.declared.instr.Op.TheVariants.{Jal}
use Rattle.tm_table.specs.declared.instr.Instr.{Instr}
use Rattle.tm_plan_cases.specs.declared.cases.Case.{Case}
use Rattle.tm_plan_cases.specs.declared.cases.Cases.{Cases}
use Rattle.tm_plan_cases.specs.declared.cases.Stream.{Stream}
use Rattle.tm_plan_cases.specs.declared.program.Program.{Program}
use Rattle.tm_plan_map.specs.Map.{text_base, private_at}
use Rattle.tm_world.specs.Place.{harts, case_count, passes, start_of, end_of, exit_of, halt_of}
use Rattle.tm_world.specs.Whole.{Laid}
use Rattle.tm_blocks_base.specs.Instrs.{addi, slli, add, ld, sd, beq, jump, jump_back}
use Rattle.tm_blocks_base.specs.Blocks.{constant}
use Rattle.tm_table.specs.Words.{words_of}

-- ---- the words between blocks

-- n bytes on, with the address behind in x1
abbrev pub call : ℕ → Instr
call n = record { op = Jal; rd = 1; rs1 = 0; rs2 = 0; imm = pos n }

-- a hart with another number in x10 goes n bytes on from the third word
abbrev pub gate : (h n : ℕ) → List Instr
gate h n = addi 1 0 h ∷ beq 1 10 8 ∷ jump n ∷ []

-- the counter of passes becomes 0
abbrev pub reset : Instr
reset = sd 0 264 31

-- x9 becomes the address of the save area of the pass
abbrev pub aim : List Instr
aim = ld 9 264 31 ∷ slli 9 9 13 ∷ add 9 9 31 ∷ addi 1 0 1 ∷ slli 1 1 12 ∷ add 9 9 1 ∷ []

-- n bytes back from the last word, where the counter is not yet the number of passes
abbrev pub turn : (passes n : ℕ) → List Instr
turn passes n = ld 1 264 31 ∷ addi 1 1 1 ∷ sd 1 264 31 ∷ addi 2 0 passes ∷ beq 1 2 8 ∷ jump_back n ∷ []

-- The blocks of one hart, by case where they differ from case to case.
pub record Blocks : Type 0 where
  pub first : ℕ → List Instr
  pub load : ℕ → List Instr
  pub save : List Instr
  pub collect : List Instr
  pub compare : ℕ → List Instr
  pub barrier : List Instr

-- ---- one case

-- how many words stand before the stream and behind it
abbrev pub before_size : Blocks → ℕ → ℕ
before_size b c = 2 + length (b.first c) + length (b.load c)

-- how many words stand behind a case's stream
abbrev pub behind_size : Blocks → ℕ → ℕ
behind_size b c = 13 + length b.save + length b.collect + length (b.compare c)

-- how many words a case has, with a stream of n
abbrev pub case_size : Blocks → (c n : ℕ) → ℕ
case_size b c n = before_size b c + n + behind_size b c

-- d is how far it is from the call to the barrier
unfoldable pub case_before : Blocks → (c d : ℕ) → List Instr
case_before b c d = reset ∷ (b.first c ++ (call d ∷ b.load c))

-- back is how far it is from the jump to the first bytes
unfoldable pub case_behind : Blocks → (passes c back d : ℕ) → List Instr
case_behind b passes c back d = b.save ++ (call d ∷ (aim ++ (b.collect ++ (turn passes back ++ b.compare c))))

-- the jump back, in words behind the first bytes
abbrev pub back_words : Blocks → (c n : ℕ) → ℕ
back_words b c n = before_size b c + n + length b.save + 1 + 6 + length b.collect + 5 - 1

-- the words of a case that begins at an address, where the barrier stands at another
unfoldable pub case_words : Blocks → (passes c : ℕ) → List ℕ → (at barrier : ℕ) → List ℕ
case_words b passes c stream at barrier =
    words_of (case_before b c (barrier - (at + 4 * (1 + length (b.first c)))))
    ++ (stream
    ++ words_of (case_behind b passes c (4 * back_words b c (length stream))
    (barrier - (at + 4 * (before_size b c + length stream + length b.save)))))

-- ---- all cases of a hart

-- from case c on, of which the first begins at an address
abbrev pub cases_words : Blocks → (passes c : ℕ) → List (List ℕ) → (at barrier : ℕ) → List ℕ
cases_words b passes c [] at barrier = []
cases_words b passes c (s ∷ ss) at barrier = case_words b passes c s at barrier
    ++ cases_words b passes (suc c) ss (at + 4 * case_size b c (length s)) barrier

-- how many words the first k of these cases have
abbrev pub skip : Blocks → ℕ → List (List ℕ) → ℕ → ℕ
skip b c ss zero = 0
skip b c [] (suc k) = 0
skip b c (s ∷ ss) (suc k) = case_size b c (length s) + skip b (suc c) ss k

-- ---- a hart

-- the gate and the opening
abbrev pub opening_size : ℕ
opening_size = 14

-- how many words a hart's program has
abbrev pub hart_size : Blocks → List (List ℕ) → ℕ
hart_size b ss = opening_size + skip b 0 ss (length ss) + 1 + length b.barrier

-- the words of hart h's program at an address: its gate and the base of its private area, its cases, the halt mark, and
-- its barrier
unfoldable pub hart_words : Blocks → (passes : ℕ) → List (List ℕ) → (h base : ℕ) → List ℕ
hart_words b passes ss h base =
    words_of (gate h (4 * (hart_size b ss - 2)) ++ constant 31 (private_at h))
    ++ (cases_words b passes 0 ss (base + 4 * opening_size) (base + 4 * (opening_size + skip b 0 ss (length ss) + 1))
    ++ (0x0000006F ∷ words_of b.barrier))

-- ---- all harts

-- the words of hart h's streams, case by case
abbrev pub words_at : Option Stream → List ℕ
words_at None = []
words_at (Some s) = s.words

-- the words of hart h's streams, case by case
abbrev pub streams_of : Cases → ℕ → List (List ℕ)
streams_of cases h = map (λ (case : Case). words_at (slice_get case.streams h)) cases.cases

-- n harts from hart h on
abbrev pub text_words : (ℕ → Blocks) → Cases → (h n base : ℕ) → List ℕ
text_words blocks cases h zero base = []
text_words blocks cases h (suc n) base = hart_words (blocks h) cases.passes (streams_of cases h) h base
    ++ text_words blocks cases (suc h) n (base + 4 * hart_size (blocks h) (streams_of cases h))

-- ---- places

-- how many words stand before hart h's
abbrev pub place_of : (ℕ → Blocks) → Cases → ℕ → ℕ
place_of blocks cases zero = 0
place_of blocks cases (suc h) = place_of blocks cases h + hart_size (blocks h) (streams_of cases h)

-- where hart h's program begins
abbrev pub base_of : (ℕ → Blocks) → Cases → ℕ → ℕ
base_of blocks cases h = text_base + 4 * place_of blocks cases h

-- where case c of hart h begins; behind the last case that is the halt mark
abbrev pub head_of : (ℕ → Blocks) → Cases → (h c : ℕ) → ℕ
head_of blocks cases h c = base_of blocks cases h + 4 * (opening_size + skip (blocks h) 0 (streams_of cases h) c)

-- The program's text is the words of all its harts, one after another, and its marks are where they have them.
pub record IsText (p : Program) (blocks : ℕ → Blocks) : Type 0 where
  pub text : p.text ≡ text_words blocks p.cases 0 (harts p) text_base
  pub some : (h : ℕ) → h < harts p → 1 ≤ length (blocks h).barrier
  pub starts : (h c : ℕ) → h < harts p → c < case_count p
      → start_of p h c ≡ head_of blocks p.cases h c + 4 * before_size (blocks h) c
  pub ends : (h c : ℕ) → h < harts p → c < case_count p
      → end_of p h c ≡ start_of p h c + 4 * length (slice_index_or (streams_of p.cases h) c [])
  pub halts : (h : ℕ) → h < harts p → halt_of p h ≡ head_of blocks p.cases h (case_count p)
  pub exits : (h : ℕ) → h < harts p → exit_of p h ≡ halt_of p h + 4 * length (blocks h).barrier

-- Where all streams have words, the text of a program is laid as the course asks, and no hart's halt mark lies in one
-- of its streams.
abbrev pub TextIsLaid : Program → Type 0
TextIsLaid p = (blocks : ℕ → Blocks) → IsText p blocks
    → ((h c : ℕ) → h < harts p → c < case_count p → 1 ≤ length (slice_index_or (streams_of p.cases h) c [])) → Laid p
