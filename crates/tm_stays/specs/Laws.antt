-- Laws of what a hart does inside its streams on legal runs (this project's own).
use Rattle.std.specs.Prelude.{◌≡◌, ℕ, ◌+◌, ◌*◌, ◌<◌, ◌≤◌, length, slice_get, Some}
use Rattle.tm_table.specs.declared.instr.Instr.{Instr}
use Rattle.tm_plan_cases.specs.declared.program.Program.{Program}
use Rattle.tm_plan_cases.specs.declared.cases.Stream.{Stream}
use Rattle.tm_plan_map.specs.Slots.{instr_of, load_width}
use Rattle.tm_world.specs.Place.{harts, passes, exit_of}
use Rattle.tm_world.specs.Run.{Run, now, phase}
use Rattle.tm_world.specs.Writers.{case_of_phase}
use Rattle.tm_plan_cases.specs.Streams.{stream_in}
use Rattle.tm_world.specs.Kinds.{Legal, stream_at}
use Rattle.tm_world.specs.Course.{OnHalf, KeepsOrder, KeepsWrites}
use Rattle.tm_world.specs.Whole.{WritesRight}
use Rattle.tm_world.specs.Work.{work_steps}
use Rattle.tm_world.specs.Verdict.{Register, end_value}
use Rattle.tm_legal.specs.Tame.{Formed, Tame}
use Rattle.tm_legal.specs.Laws.{OnLegal}
use Rattle.tm_stays.specs.Stays.{outside_steps, outside_work, inside_steps, stay_steps, words_in}

-- On a legal run each stay of a tame hart in a stream takes at most as many steps as the stream has words.
abbrev pub EachStayShort : Program → Type 0
EachStayShort p = Formed p → (h : ℕ) → h < harts p → Tame p h → (c : ℕ) (stream : Stream)
    → stream_in p.cases c h ≡ Some stream
    → OnLegal p h (λ first own. stay_steps p h c first own ≤ length stream.words)

-- On a legal run all stays of a tame hart take together at most as many steps as its streams have words, for each pass.
abbrev pub StaysShort : Program → Type 0
StaysShort p = Formed p → (h : ℕ) → h < harts p → Tame p h
    → OnLegal p h (λ first own. inside_steps p h first own ≤ passes p * words_in h p.cases.cases)

-- So where its work steps outside streams are at most m on each half run, its work steps are at most so many on each
-- legal run.
abbrev pub WorksLittle : Program → Type 0
WorksLittle p = Formed p → (h : ℕ) → h < harts p → Tame p h → (m : ℕ)
    → OnHalf p h (λ first own. outside_work p h first own ≤ m)
    → OnLegal p h (λ first own. work_steps p h own ≤ m + passes p * words_in h p.cases.cases)

-- And where its steps outside streams are at most m on each half run, all its steps are.
abbrev pub EndsSoon : Program → Type 0
EndsSoon p = Formed p → (h : ℕ) → h < harts p → Tame p h → (m : ℕ)
    → OnHalf p h (λ first own. outside_steps p h first own ≤ m)
    → OnLegal p h (λ first own. (length own ≤ m + passes p * words_in h p.cases.cases)
    × (work_steps p h own ≤ m + passes p * words_in h p.cases.cases))

-- no word of the stream is a load
abbrev pub HasNoLoad : Stream → Type 0
HasNoLoad stream = (n w : ℕ) (i : Instr) → slice_get stream.words n ≡ Some w → instr_of w ≡ Some i → load_width i.op ≡ 0

-- On a legal run a tame hart leaves a stream without loads with the same registers in any two passes in which it
-- leaves it.
abbrev pub PassesAlike : Program → Type 0
PassesAlike p = Formed p → (h : ℕ) → h < harts p → Tame p h → (c : ℕ) (stream : Stream)
    → stream_in p.cases c h ≡ Some stream → HasNoLoad stream
    → OnLegal p h (λ first own. (k k' x v v' : ℕ) → end_value p h c k first own (Register x) ≡ Some v
    → end_value p h c k' first own (Register x) ≡ Some v' → v ≡ v')

-- On each half run a hart that keeps the order of its marks is inside a stream of a case only in the run phase of a
-- pass of that case.
abbrev pub StaysInPhase : Program → Type 0
StaysInPhase p = Formed p → (h : ℕ) → h < harts p → OnHalf p h (KeepsOrder p h)
    → OnHalf p h (λ first own. (c : ℕ) → stream_at p h (now first own).pc ≡ Some c
    → case_of_phase p (phase (exit_of p h) own) ≡ Some c)

-- Where outside streams tame harts write only what they may on half runs, they write only that on legal runs, inside
-- streams too.
abbrev pub LegalWritesAreRight : Program → Type 0
LegalWritesAreRight p = Formed p → ((h : ℕ) → h < harts p → Tame p h)
    → ((h : ℕ) → h < harts p → OnHalf p h (KeepsWrites p h))
    → (r : Run) → Legal p r → WritesRight p r
