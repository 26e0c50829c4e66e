-- A turn of a hart that isn't at halt, over what a guest keeps.
use Rattle.std.proofs.Common.{◌≡◌, ◌≢◌, ℕ, ◌+◌, ◌^◌, ◌<◌, ◌≤◌, List, [], ◌∷◌, ◌++◌, Option, None, Some, refl, sym, ap}
use Rattle.std.proofs.Common.{ap₂}
use Rattle.std.proofs.Common.{◌∙◌, subst, length, get_or, set, arith, length-append}
use Rattle.tm_table.specs.declared.instr.Instr.{Instr}
use Rattle.tm_table.specs.declared.state.Access.{Access}
use Rattle.tm_table.specs.declared.state.Access.TheVariants.{Quiet, Read, Write}
use Rattle.tm_table.specs.State.{Hart, hart_of as hart_in}
use Rattle.tm_table.specs.Row.{row, row_word}
use Rattle.tm_plan_map.specs.Slots.{instr_of}
use Rattle.tm_plan_cases.specs.declared.program.Program.{Program}
use Rattle.tm_plan_cases.specs.declared.event.Event.{Event}
use Rattle.tm_plan_journal.specs.Journaled.{Journaled}
use Rattle.tm_plan_script.specs.declared.faults.FaultLine.{FaultLine}
use Rattle.tm_plan_script.specs.Accepted.{AreAccepted}
use Rattle.tm_ram.specs.Region.{Region}
use Rattle.tm_world.specs.Place.{harts, exit_of, halt_of, word_at}
use Rattle.tm_world.specs.Run.{Step, Reads, read_value, HasShape, own, phase, hart_of, access_of}
use Rattle.tm_world.specs.Kinds.{Follows, IsPossible, Plain, plain_owed, stream_at}
use Rattle.tm_world.specs.Faulted.{Change, Changed, FaultedStep, access_by, unloaded, state_by, nothing}
use Rattle.tm_world.specs.Script.{FaultedRun, change_of}
use Rattle.tm_plan_map.specs.Map.{text_base}
use Rattle.tm_guest.specs.declared.decoded.Decoded.{Decoded}
use Rattle.tm_guest.specs.declared.hart.HartState.{HartState}
use Rattle.tm_world.specs.Replay.{outcome, state_after, steps_of, run_of, stepped, left_by, changed_by, change_next}
use Rattle.tm_changes.specs.Scripted.{Scripted, place_of}
use Rattle.tm_guest.specs.Guested.{Guested, run, steps, state, IsHalted}
use Rattle.tm_guest.specs.Turns.{IsNextEvent}
use Rattle.tm_guest.specs.Waiting.{phase_after, signalled_after}
use Rattle.tm_guest.specs.Memory.{owed_of, IsWritten}
use Rattle.tm_guest.specs.Making.{FitsOp, IsMade}
use Rattle.tm_guest.specs.Fields.{IsRow, IsState, AreStates, IsMemory, KeepsReplay}
use Rattle.tm_memory.proofs.NoLines.{plain-where, opened}
use Rattle.tm_memory.proofs.Nothing.{same-access, same-read, same-state}
use Rattle.tm_world.proofs.Replaying.{steps-more, length-steps}
use Rattle.tm_guest.proofs.Making.{possible-unloaded, read-by}
use Rattle.tm_guest.proofs.Changing.{quiet, fits}
use Rattle.tm_guest.proofs.Memory.{memory-more}
use Rattle.tm_guest.proofs.Harts.{states-more, phase-few}
use Rattle.tm_guest.proofs.Rows.{Finds, finds}

-- reads of the region are owed what was written last
reads-plain : (p : Program) (past : List Step) (r : Region) (a : Access) → IsMemory p past r → IsPossible a
    → Reads (owed_of r) a → Reads (plain_owed p past) a
reads-plain p past r Quiet m q h = tt
reads-plain p past r (Write addr width value) m q h = tt
reads-plain p past r (Read addr width value) m q h =
    λ i l. h i l ∙ m.bytes (addr + i) (omega (arith, q.1)) (omega (arith, q.2, l))

-- What an instruction does at a hart, where memory is this region and a change is made to it: its event, and the
-- hart's state after it.
pub record Acts (ch : Change) (h : ℕ) (before : Hart) (at : Decoded) (r : Region) (e : Event) (after : Hart)
    : Type 0 where
  pub hart : e.hart ≡ h
  pub pc : e.pc ≡ before.pc
  pub word : e.word ≡ at.word
  pub made : IsMade ch before at.instr r e.access after
  pub shape : HasShape e.access

-- What the event leaves of the hart and of memory.
pub record Leaves (p : Program) (h : ℕ) (old : HartState) (r : Region) (e : Event) (new : HartState) (t : Region)
    : Type 0 where
  pub exits : new.phase ≡ phase_after (exit_of p h) e.pc old.phase
  pub flag : new.signalled ≡ signalled_after (exit_of p h) h e old.signalled
  pub memory : IsWritten r e.access t

-- The event of a hart's row is the hart's next step, changed, and leaves what replaying it leaves.
record IsNext (p : Program) (lines : List FaultLine) (h : ℕ) (past : List Step) (e : Event) (next : Hart)
    : Type 0 where
  faulted : FaultedStep p h (change_next p lines past h) (stream_at p h (state_after past h).pc) (state_after past h)
      past (stepped p lines past e)
  is : next ≡ (stepped p lines past e).after

-- the step of an event of hart h
stepped-by : (p : Program) (lines : List FaultLine) (past : List Step) (e : Event) (h : ℕ) (o : Option ℕ) → e.hart ≡ h
    → stream_at p h (state_after past h).pc ≡ o
    → stepped p lines past e
    ≡ record { event = e; after = left_by o (change_next p lines past h) (state_after past h) e }
stepped-by p lines past e h o is inside =
    ap (λ (g : ℕ). (record {
      event = e;
      after = left_by (stream_at p g (state_after past g).pc)
          (change_next p lines past g) (state_after past g) e;
    })) is
    ∙ ap (λ (c : Option ℕ). record { event = e; after = left_by c (change_next p lines past h) (state_after past h) e })
    inside

next-event : (p : Program) (lines : List FaultLine) (h : ℕ) (past : List Step) (at : Decoded) (r : Region) (e : Event)
    (next : Hart) → AreAccepted p.cases lines → (state_after past h).pc ≢ halt_of p h → IsRow p (state_after past h) at
    → IsMemory p past r → Acts (change_next p lines past h) h (state_after past h) at r e next
    → IsNext p lines h past e next
next-event p lines h past at r e next accepted off f m a = by (stream_at p h before.pc) refl
  where
    before : Hart
    before = state_after past h

    ch : Change
    ch = change_next p lines past h

    clean : Access
    clean = a.made.clean

    word : word_at p before.pc ≡ Some e.word
    word = f.word ∙ ap (λ (x : ℕ). Some x) (sym a.word)

    decoded : instr_of e.word ≡ Some at.instr
    decoded = ap instr_of a.word ∙ f.decoded

    row-clean : row_word before e.word (read_value clean) ≡ Some (a.made.next, clean)
    row-clean =
        ap (λ (x : ℕ). row_word before x (read_value clean)) a.word
        ∙ (f.made (read_value clean) ∙ ap (λ (y : Hart × Access). Some y) a.made.made)

    read : read_value e.access ≡ read_value clean
    read = ap read_value a.made.access ∙ read-by ch clean

    row-event : row_word before e.word (read_value e.access) ≡ Some (a.made.next, clean)
    row-event = ap (λ (n : ℕ). row_word before e.word n) read ∙ row-clean

    possible : IsPossible clean
    possible = subst (λ (y : Hart × Access). IsPossible y.1) a.made.made (f.possible (read_value clean))

    -- what replaying the event leaves
    outcome-is : outcome before (row_word before e.word (read_value e.access)) ≡ a.made.next
    outcome-is = ap (outcome before) row-event

    by : (o : Option ℕ) → stream_at p h before.pc ≡ o → IsNext p lines h past e next
    by None out =
        let none : ch ≡ nothing = quiet p lines accepted h (phase (exit_of p h) (own h past)) before.pc out in
        let same : e.access ≡ clean =
        a.made.access ∙ (ap (λ (x : Change). access_by x clean) none ∙ same-access clean) in
        let left : next ≡ a.made.next =
        a.made.state ∙ (ap (λ (x : Change). state_by x at.instr before a.made.next) none
        ∙ same-state at.instr before a.made.next) in
        let s = stepped-by p lines past e h None a.hart out in
        let step : Step = record { event = e; after = outcome before (row_word before e.word (read_value e.access)) } in
        let follows : Follows p h before step = record {
          place = a.pc;
          goes = off;
          word = word;
          row = row-event ∙ ap₂ (λ (y : Hart) (z : Access). Some (y, z)) (sym outcome-is) (sym same);
          possible = subst IsPossible (sym same) possible;
          shape = a.shape;
        } in
        let raw = subst (λ (x : Change). Reads (owed_of r) (unloaded x clean)) none a.made.reads in
        let reads = reads-plain p past r e.access m (subst IsPossible (sym same) possible)
        (subst (Reads (owed_of r)) (same-read clean ∙ sym same) raw) in
        record {
          faulted = subst (λ (c : Option ℕ). FaultedStep p h ch c before past (stepped p lines past e)) (sym out)
              (subst (λ (x : Step). Follows p h before x × Reads (plain_owed p past) (access_of x)) (sym s)
              (follows, reads));
          is = left ∙ (sym outcome-is ∙ sym (ap (λ (x : Step). x.after) s));
        }
    by (Some c) inside-it =
        let s = stepped-by p lines past e h (Some c) a.hart inside-it in
        let left : left_by (Some c) ch before e ≡ state_by ch at.instr before a.made.next =
        ap₂ (λ (i : Option Instr) (y : Hart). changed_by ch before i y) decoded outcome-is in
        let step : Step = record { event = e; after = left_by (Some c) ch before e } in
        let pure : Step = record {
          event = record { hart = e.hart; pc = e.pc; word = e.word; access = clean };
          after = a.made.next;
        } in
        let follows : Follows p h before pure = record {
          place = a.pc;
          goes = off;
          word = word;
          row = row-clean;
          possible = possible;
          shape = a.made.shape;
        } in
        let reads = reads-plain p past r (unloaded ch clean) m (possible-unloaded ch clean possible) a.made.reads in
        let changed : Changed p h ch (plain_owed p past) before step = record {
          clean = pure;
          instr = at.instr;
          follows = follows;
          is = decoded;
          reads = reads;
          place = refl;
          word = refl;
          access = a.made.access;
          shape = a.shape;
          state = left;
        } in
        record {
          faulted = subst (λ (o : Option ℕ). FaultedStep p h ch o before past (stepped p lines past e)) (sym inside-it)
              (subst (Changed p h ch (plain_owed p past) before) (sym s) changed);
          is = a.made.state ∙ (sym left ∙ sym (ap (λ (x : Step). x.after) s));
        }

-- a run with one step more
faulted-more : (p : Program) (lines : List FaultLine) (h : ℕ) (s : Step) (past : List Step) → h < harts p
    → hart_of s ≡ h
    → FaultedStep p h (change_next p lines past h) (stream_at p h (state_after past h).pc) (state_after past h) past s
    → FaultedRun p lines (opened past) → FaultedRun p lines (opened (s ∷ past))
faulted-more p lines h s past l e step goes = record {
  opening = goes.opening;
  only = (subst (λ (g : ℕ). g < harts p) (sym e) l, goes.only);
  steps = (
    subst (λ (g : ℕ). FaultedStep p g (change_next p lines past g) (stream_at p g (state_after past g).pc)
        (state_after past g) past s) (sym e) step,
    goes.steps,
  );
}

-- ---- the script

-- what a guest keeps shows at its value
abbrev pub shown : Program → Scripted → ℕ → Journaled → Guested
shown p changes limit j = record { program = p; faults = changes.lines; limit = limit; journal = j.events }

-- its journal is a plain run
pub plain-shown : (v : Guested) (p : Program) (changes : Scripted) (limit : ℕ) (decodes : List Decoded)
    (states : List HartState) (r : Region) (j : Journaled) → shown p changes limit j ≡ v
    → KeepsReplay p changes limit decodes states r j → v.faults ≡ [] → Plain v.program (run v)
plain-shown v p changes limit decodes states r j is k none =
    plain-where v.program v.faults (run v)
    (subst (λ (g : Guested). FaultedRun g.program g.faults (run g)) is k.goes_on) none

-- the journal with one event more
abbrev pub longer : Journaled → Event → Journaled
longer j e = record { events = j.events ++ e ∷ []; room = j.room }

module _ (p : Program) (changes : Scripted) (limit h : ℕ) (decodes : List Decoded) (states : List HartState)
    (r : Region) (j : Journaled) (k : KeepsReplay p changes limit decodes states r j) (l : h < harts p)
    (off : ¬ IsHalted (shown p changes limit j) h) (at : Decoded) (e : Event) (next : Hart)
    (f : IsRow p (state (shown p changes limit j) h) at)
    (a : Acts (change_next p changes.lines (steps_of p changes.lines j.events) h) h (state (shown p changes limit j) h)
    at r e next) where
  abbrev Past : List Step
  Past = steps_of p changes.lines j.events

  abbrev Newest : Step
  Newest = stepped p changes.lines Past e

  is-next : IsNext p changes.lines h Past e next
  is-next = next-event p changes.lines h Past at r e next k.accepted off f k.memory a

  grown : steps_of p changes.lines (j.events ++ e ∷ []) ≡ Newest ∷ Past
  grown = steps-more p changes.lines j.events e

  goes-on : FaultedRun p changes.lines (run_of p changes.lines (j.events ++ e ∷ []))
  goes-on =
      subst (λ (x : List Step). FaultedRun p changes.lines (opened x)) (sym grown)
      (faulted-more p changes.lines h Newest Past l a.hart is-next.faulted k.goes_on)

  more : (old new : HartState) (t : Region) → length j.events < limit → old ≡ get_or states h old
      → next ≡ hart_in new.cpu → Leaves p h old r e new t
      → KeepsReplay p changes limit decodes (set states h new) t (longer j e)
  more old new t room was is left = record {
    program = k.program;
    its_program = k.its_program;
    laid = k.laid;
    accepted = k.accepted;
    unstuck = k.unstuck;
    few = k.few;
    room = k.room;
    within = omega (arith, length-append j.events (e ∷ []));
    rows = k.rows;
    each_hart = subst (λ (x : List Step). AreStates p x (set states h new)) (sym grown)
        (states-more p h Newest Past states old new l a.hart was
        (record { state = sym is ∙ is-next.is; exits = left.exits; flag = left.flag }) k.each_hart);
    memory = subst (λ (x : List Step). IsMemory p x t) (sym grown)
        (memory-more p Newest Past r t left.memory k.memory);
    goes_on = goes-on;
  }

-- ---- one hart

-- What a guest keeps of a hart is what its journal tells.
pub state-shown : (v : Guested) (p : Program) (changes : Scripted) (limit h : ℕ) (decodes : List Decoded)
    (states : List HartState) (r : Region) (j : Journaled) (old : HartState) → shown p changes limit j ≡ v
    → KeepsReplay p changes limit decodes states r j → h < harts v.program → old ≡ get_or states h old
    → IsState v.program (steps v) h old
state-shown v p changes limit h decodes states r j old is k below was =
    let l : h < harts p = subst (λ (g : Guested). h < harts g.program) (sym is) below in
    subst (λ (g : Guested). IsState g.program (steps g) h old) is
    (subst (IsState p (steps_of p changes.lines j.events) h) (sym was) (k.each_hart.each h old l))

-- Its phase can be counted.
pub phase-shown : (v : Guested) (p : Program) (changes : Scripted) (limit h : ℕ) (decodes : List Decoded)
    (states : List HartState) (r : Region) (j : Journaled) (old : HartState) → shown p changes limit j ≡ v
    → KeepsReplay p changes limit decodes states r j → h < harts v.program → old ≡ get_or states h old
    → old.phase + 1 < 2 ^ 64
phase-shown v p changes limit h decodes states r j old is k below was =
    let l : h < harts p = subst (λ (g : Guested). h < harts g.program) (sym is) below in
    let kept = k.each_hart.each h old l in
    let same : old.phase ≡ (get_or states h old).phase = ap (λ (s : HartState). s.phase) was in
    let few = phase-few (exit_of p h) h (steps_of p changes.lines j.events) in
    omega (arith, same, kept.exits, few, length-steps p changes.lines j.events, k.within, k.few)

-- A hart that isn't at halt finds its row.
pub finds-row : (v : Guested) (p : Program) (changes : Scripted) (limit h : ℕ) (decodes : List Decoded)
    (states : List HartState) (r : Region) (j : Journaled) (old : HartState) → shown p changes limit j ≡ v
    → KeepsReplay p changes limit decodes states r j → h < harts v.program → old ≡ get_or states h old → (¬ IsHalted v
    h)
    → Finds v.program (hart_in old.cpu) decodes
finds-row v p changes limit h decodes states r j old is k below was off =
    let l : h < harts p = subst (λ (g : Guested). h < harts g.program) (sym is) below in
    let o : ¬ IsHalted (shown p changes limit j) h = subst (λ (g : Guested). ¬ IsHalted g h) (sym is) off in
    subst (λ (hart : Hart). Finds v.program hart decodes)
    (sym (state-shown v p changes limit h decodes states r j old is k below was).state)
    (subst (λ (g : Guested). Finds g.program (state g h) decodes) is
    (finds p (state (shown p changes limit j) h) decodes (k.unstuck (run_of p changes.lines j.events) k.goes_on h l o)
    k.rows))

-- What the script changes in its next step fits its row's instruction.
pub change-fits : (v : Guested) (p : Program) (changes : Scripted) (limit h : ℕ) (decodes : List Decoded)
    (states : List HartState) (r : Region) (j : Journaled) (at : Decoded) → shown p changes limit j ≡ v
    → KeepsReplay p changes limit decodes states r j → IsRow v.program (state v h) at
    → FitsOp (change_next v.program v.faults (steps v) h) at.instr.op
change-fits v p changes limit h decodes states r j at is k row =
    subst (λ (g : Guested). FitsOp (change_next g.program g.faults (steps g) h) at.instr.op) is
    (let its : IsRow p (state (shown p changes limit j) h) at =
    subst (λ (g : Guested). IsRow g.program (state g h) at) (sym is) row in
    fits p changes.lines k.laid k.accepted h
    (phase (exit_of p h) (own h (steps_of p changes.lines j.events)))
    (state_after (steps_of p changes.lines j.events) h).pc at.word at.instr its.word its.decoded)

-- It stands in a word of the text.
pub stands-in : (v : Guested) (p : Program) (changes : Scripted) (limit h : ℕ) (decodes : List Decoded)
    (states : List HartState) (r : Region) (j : Journaled) (old : HartState) → shown p changes limit j ≡ v
    → KeepsReplay p changes limit decodes states r j → h < harts v.program → old ≡ get_or states h old → (¬ IsHalted v
    h)
    → (text_base ≤ old.cpu.pc) × (place_of old.cpu.pc < length changes.program.text)
stands-in v p changes limit h decodes states r j old is k below was off =
    let f = finds-row v p changes limit h decodes states r j old is k below was off in (
      f.from,
      subst (λ (q : Program). place_of old.cpu.pc < length q.text) (sym k.its_program)
          (subst (λ (n : ℕ). place_of old.cpu.pc < n) k.rows.count f.few),
    )

-- What its script changes in its next step is what a table of it tells of its place.
pub change-shown : (v : Guested) (p : Program) (changes : Scripted) (limit h : ℕ) (decodes : List Decoded)
    (states : List HartState) (r : Region) (j : Journaled) (old : HartState) (ch : Change) → shown p changes limit j ≡ v
    → KeepsReplay p changes limit decodes states r j → h < harts v.program → old ≡ get_or states h old
    → ch ≡ change_of changes.program changes.lines h old.phase old.cpu.pc
    → ch ≡ change_next v.program v.faults (steps v) h
change-shown v p changes limit h decodes states r j old ch is k below was made =
    let l : h < harts p = subst (λ (g : Guested). h < harts g.program) (sym is) below in
    let kept = subst (IsState p (steps_of p changes.lines j.events) h) (sym was) (k.each_hart.each h old l) in
    subst (λ (g : Guested). ch ≡ change_next g.program g.faults (steps g) h) is
    (made ∙ (ap (λ (q : Program). change_of q changes.lines h old.phase old.cpu.pc) k.its_program
    ∙ ap₂ (λ (q : ℕ) (hart : Hart). change_of p changes.lines h q hart.pc) kept.exits kept.state))

-- ---- one turn

module _ (v : Guested) (p : Program) (changes : Scripted) (limit h : ℕ) (decodes : List Decoded)
    (states : List HartState) (r : Region) (j : Journaled) (is : shown p changes limit j ≡ v)
    (k : KeepsReplay p changes limit decodes states r j) (below : h < harts v.program) (off : ¬ IsHalted v h)
    (at : Decoded) (row : IsRow v.program (state v h) at) (e : Event) (next : Hart)
    (a : Acts (change_next v.program v.faults (steps v) h) h (state v h) at r e next) where
  in-harts : h < harts p
  in-harts = subst (λ (g : Guested). h < harts g.program) (sym is) below

  off-halt : ¬ IsHalted (shown p changes limit j) h
  off-halt = subst (λ (g : Guested). ¬ IsHalted g h) (sym is) off

  is-row : IsRow p (state (shown p changes limit j) h) at
  is-row = subst (λ (g : Guested). IsRow g.program (state g h) at) (sym is) row

  acts : Acts (change_next p changes.lines (steps_of p changes.lines j.events) h) h (state (shown p changes limit j) h)
      at r e next
  acts = subst (λ (g : Guested). Acts (change_next g.program g.faults (steps g) h) h (state g h) at r e next)
      (sym is) a

  -- Its event is its next one.
  pub next-one : IsNextEvent v h e
  next-one =
      subst (λ (g : Guested). IsNextEvent g h e) is (record {
        hart = a.hart;
        goes_on = goes-on p changes limit h decodes states r j k in-harts off-halt at e next is-row acts;
      })

  -- What a guest keeps after it.
  pub turned : (old new : HartState) (t : Region) → length v.journal < v.limit → old ≡ get_or states h old
      → next ≡ hart_in new.cpu → Leaves p h old r e new t
      → KeepsReplay p changes limit decodes (set states h new) t (longer j e)
  turned old new t room was same left =
      more p changes limit h decodes states r j k in-harts off-halt at e next is-row acts old new t
      (subst (λ (g : Guested). length g.journal < g.limit) (sym is) room) was same left
