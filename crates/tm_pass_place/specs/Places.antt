-- Where the parts of a hart's program begin in a built text (this project's own).
use Rattle.std.specs.Prelude.{ℕ, ◌+◌, ◌*◌, length}
use Rattle.tm_plan_cases.specs.declared.program.Program.{Program}
use Rattle.tm_world.specs.Place.{end_of}
use Rattle.tm_blocks_move.specs.Lines.{first_bytes, collect_all}
use Rattle.tm_pass_text.specs.Words.{head_of}
use Rattle.tm_pass_way.specs.Parts.{Places}
use Rattle.tm_pass_text.specs.Hart.{blocks_of, first_at}

-- how many bytes the words have that set case c's first dwords
abbrev pub first_long : Program → (h c : ℕ) → ℕ
first_long p h c = 4 * length (first_bytes p.cases h (first_at p.cases c))

-- how many bytes the words have that collect
abbrev pub collect_long : Program → ℕ → ℕ
collect_long p h = 4 * length (collect_all p.cases h)

-- The places of hart h's parts: those before the streams from the case's first word on, those behind from the
-- stream's end on.
abbrev pub places_of : Program → ℕ → Places
places_of p h = record {
  head = λ c. head_of (blocks_of p.cases) p.cases h c;
  set = λ c. head_of (blocks_of p.cases) p.cases h c + 4;
  call = λ c. head_of (blocks_of p.cases) p.cases h c + 4 + first_long p h c;
  load = λ c. head_of (blocks_of p.cases) p.cases h c + 4 + first_long p h c + 4;
  recall = λ c. end_of p h c + 120;
  collect = λ c. end_of p h c + 124;
  turn = λ c. end_of p h c + 148 + collect_long p h;
  compare = λ c. end_of p h c + 172 + collect_long p h;
}
