-- What accepted lines change: nothing outside streams, and inside what fits the instruction.
use Rattle.std.proofs.Common.{◌≡◌, ℕ, ◌*◌, List, [], ◌∷◌, Bool, true, false, Option, None, Some, refl, sym}
use Rattle.std.proofs.Common.{ap}
use Rattle.std.proofs.Common.{subst, ◌∙◌, ◌+◌, suc}
use Rattle.std.specs.Prelude.{if◌then◌else◌, slice_get}
use Rattle.std.proofs.lemmas.Bool.{false≢true}
use Rattle.std.proofs.lemmas.Nat.{pow_pos}
use Rattle.std.proofs.lemmas.Option.{slice_get_within}
use Rattle.tm_base.proofs.ListLemmas.{all-at}
use Rattle.tm_table.specs.declared.instr.Instr.{Instr}
use Rattle.tm_plan_map.specs.Slots.{instr_of, load_width, store_width}
use Rattle.tm_plan_cases.specs.declared.program.Program.{Program}
use Rattle.tm_plan_cases.specs.declared.cases.Stream.{Stream}
use Rattle.tm_plan_cases.specs.Streams.{stream_in}
use Rattle.tm_plan_script.specs.declared.faults.FaultLine.{FaultLine}
use Rattle.tm_plan_script.specs.declared.faults.Action.{Action}
use Rattle.tm_plan_script.specs.declared.faults.Action.TheVariants.{Result, Loaded, Stored, Drop, Turn}
use Rattle.tm_plan_script.specs.Accepted.{IsAccepted, AreAccepted, Suits, slot_of, slot_in, instr_at}
use Rattle.tm_world.specs.Place.{inside, start_of, word_at}
use Rattle.tm_world.specs.Kinds.{stream_at}
use Rattle.tm_world.specs.Faulted.{Change, nothing}
use Rattle.tm_world.specs.Script.{names, change_of}
use Rattle.tm_world.specs.Whole.{Laid}
use Rattle.tm_legal.proofs.Order.{stream-none}
use Rattle.tm_changes.specs.Made.{with_action}
use Rattle.tm_changes.proofs.Changing.{speaks, line-more, none-changes, none-here}
use Rattle.tm_guest.specs.Making.{FitsOp}

-- ---- outside streams

pub quiet : (p : Program) (lines : List FaultLine) → AreAccepted p.cases lines → (h q pc : ℕ)
    → stream_at p h pc ≡ None → change_of p lines h q pc ≡ nothing
quiet p lines accepted h q pc out =
    none-here p lines h q pc (λ k line found. by k line found (names p line h q pc) refl)
  where
    by : (k : ℕ) (line : FaultLine) → slice_get lines k ≡ Some line → (b : Bool) → names p line h q pc ≡ b → b ≡ false
    by k line found false e = refl
    by k line found true e =
        let said = speaks p line h q pc e in
        let its = all-at (IsAccepted p.cases) lines k line accepted.each found in
        let within : inside p h line.case pc ≡ true =
        subst (λ (g : ℕ). inside p g line.case pc ≡ true) said.its_hart said.within in
        absurd (false≢true (sym (stream-none p h pc line.case out its.case) ∙ within))

-- ---- inside

-- The slot of an accepted line has the instruction of the text's word there.
record Found (p : Program) (line : FaultLine) (i : Instr) : Type 0 where
  stream : Stream
  word : ℕ
  is_stream : stream_in p.cases line.case line.hart ≡ Some stream
  is_word : slice_get stream.words line.slot ≡ Some word
  is_instr : instr_of word ≡ Some i

found : (p : Program) (line : FaultLine) (i : Instr) → slot_of p.cases line ≡ Some i → Found p line i
found p line i e = of (stream_in p.cases line.case line.hart) refl e
  where
    with : (stream : Stream) → stream_in p.cases line.case line.hart ≡ Some stream → (o : Option ℕ)
        → slice_get stream.words line.slot ≡ o → instr_at o ≡ Some i → Found p line i
    with stream s (Some w) q f = record { stream = stream; word = w; is_stream = s; is_word = q; is_instr = f }
    with stream s None q f = cc

    of : (o : Option Stream) → stream_in p.cases line.case line.hart ≡ o → slot_in o line.slot ≡ Some i
        → Found p line i
    of (Some stream) s f = with stream s (slice_get stream.words line.slot) refl f
    of None s f = cc

same-some : {A : Type 0} (o : Option A) (x y : A) → o ≡ Some x → o ≡ Some y → x ≡ y
same-some o x y p q = cc

slot-instr : (p : Program) → Laid p → (line : FaultLine) (its : IsAccepted p.cases line) (pc word : ℕ) (i : Instr)
    → start_of p line.hart line.case + 4 * line.slot ≡ pc → word_at p pc ≡ Some word → instr_of word ≡ Some i
    → its.instr ≡ i
slot-instr p laid line its pc word i place there is =
    let f = found p line its.instr its.slot in
    let few = slice_get_within f.stream.words line.slot f.word f.is_word in
    let at = laid.words line.hart line.case line.slot f.stream its.hart f.is_stream few in
    let same : f.word ≡ word =
    same-some (word_at p pc) f.word word (ap (word_at p) (sym place) ∙ (at ∙ f.is_word)) there in
    same-some (instr_of word) its.instr i (ap instr_of (sym same) ∙ f.is_instr) is

action-fits : (i : Instr) (action : Action) (ch : Change) → Suits i action → FitsOp ch i.op
    → FitsOp (with_action action ch) i.op
action-fits i (Result x) ch s f = record { loaded = f.loaded; stored = f.stored }
action-fits i (Loaded x) ch s f = record { loaded = s.2; stored = f.stored }
action-fits i (Stored x) ch s f = record { loaded = f.loaded; stored = s.2 }
action-fits i Drop ch s f = record { loaded = f.loaded; stored = f.stored }
action-fits i Turn ch s f = record { loaded = f.loaded; stored = f.stored }

nothing-fits : (i : Instr) → FitsOp nothing i.op
nothing-fits i = record { loaded = pow_pos (8 * load_width i.op); stored = pow_pos (8 * store_width i.op) }

-- one line more, of a hart's step at the word of an instruction
line-fits : (p : Program) → Laid p → (line : FaultLine) (more : List FaultLine) (h q pc word : ℕ) (i : Instr)
    → word_at p pc ≡ Some word → instr_of word ≡ Some i → IsAccepted p.cases line
    → FitsOp (change_of p more h q pc) i.op → FitsOp (change_of p (line ∷ more) h q pc) i.op
line-fits p laid line more h q pc word i there is its rest =
    subst (λ (ch : Change). FitsOp ch i.op) (sym (line-more p line more h q pc)) (by (names p line h q pc) refl)
  where
    by : (b : Bool) → names p line h q pc ≡ b
        → FitsOp (if b then with_action line.action (change_of p more h q pc) else change_of p more h q pc) i.op
    by false e = rest
    by true e =
        let said = speaks p line h q pc e in
        let same = slot-instr p laid line its pc word i said.stands there is in
        action-fits i line.action (change_of p more h q pc)
        (subst (λ (j : Instr). Suits j line.action) same its.suits) rest

-- what each accepted line of a list changes fits
lines-fit : (p : Program) → Laid p → (all : List FaultLine) (h q pc word : ℕ) (i : Instr) → word_at p pc ≡ Some word
    → instr_of word ≡ Some i
    → ((k : ℕ) (line : FaultLine) → slice_get all k ≡ Some line → IsAccepted p.cases line)
    → FitsOp (change_of p all h q pc) i.op
lines-fit p laid [] h q pc word i there is each =
    subst (λ (ch : Change). FitsOp ch i.op) (sym (none-changes p h q pc)) (nothing-fits i)
lines-fit p laid (line ∷ more) h q pc word i there is each =
    line-fits p laid line more h q pc word i there is (each 0 line refl)
    (lines-fit p laid more h q pc word i there is (λ k other found. each (suc k) other found))

pub fits : (p : Program) (lines : List FaultLine) → Laid p → AreAccepted p.cases lines → (h q pc word : ℕ) (i : Instr)
    → word_at p pc ≡ Some word → instr_of word ≡ Some i → FitsOp (change_of p lines h q pc) i.op
fits p lines laid accepted h q pc word i there is =
    lines-fit p laid lines h q pc word i there is
    (λ k line found. all-at (IsAccepted p.cases) lines k line accepted.each found)
