-- A hart's next event is the only one.
use Rattle.std.proofs.Common.{◌≡◌, ℕ, List, [], ◌∷◌, ◌++◌, Option, None, Some, sym, ap, ◌∙◌, subst}
use Rattle.tm_table.specs.declared.instr.Instr.{Instr}
use Rattle.tm_table.specs.declared.state.Access.{Access}
use Rattle.tm_table.specs.declared.state.Access.TheVariants.{Read}
use Rattle.tm_table.specs.State.{Hart}
use Rattle.tm_table.specs.Words.{low}
use Rattle.tm_table.specs.Row.{Effect, Gives, Loads, Stores, Branches, Jumps, effect_at, after, row, row_word}
use Rattle.tm_plan_map.specs.Slots.{instr_of}
use Rattle.tm_plan_cases.specs.declared.program.Program.{Program}
use Rattle.tm_plan_cases.specs.declared.event.Event.{Event}
use Rattle.tm_plan_script.specs.declared.faults.FaultLine.{FaultLine}
use Rattle.tm_world.specs.Place.{word_at}
use Rattle.tm_world.specs.Run.{Step, Reads, HasShape, read_value, hart_of, pc_of, access_of}
use Rattle.tm_world.specs.Kinds.{stream_at, plain_owed}
use Rattle.tm_runs.proofs.Rows.{row-decoded}
use Rattle.tm_world.specs.Faulted.{Change, access_by, unloaded, nothing, FaultedStep}
use Rattle.tm_world.specs.Script.{FaultedRun}
use Rattle.tm_world.specs.Replay.{state_after, stepped, steps_of, run_of, change_next}
use Rattle.tm_guest.specs.Guested.{Guested}
use Rattle.tm_guest.specs.Turns.{IsNextEvent}
use Rattle.tm_guest.specs.Laws.{OneNextEvent}
use Rattle.tm_guest.proofs.Bytes.{same-xored}
use Rattle.tm_memory.proofs.NoLines.{opened}
use Rattle.tm_memory.proofs.Nothing.{same-access, same-read}
use Rattle.tm_world.proofs.Replaying.{steps-more}
use Rattle.tm_base.proofs.ListLemmas.{same-value}

module _ (p : Program) (past : List Step) where
  -- ---- what an instruction does in memory, by what memory holds

  -- The access is the effect's for what it reads itself, and it reads what memory holds, xored as the change says.
  record IsMade (change : Change) (e : Effect) (hart : Hart) (rd n : ℕ) (a : Access) : Type 0 where
    made : (after e hart rd n (read_value a)).1 ≡ a
    shape : HasShape a
    reads : Reads (plain_owed p past) (unloaded change a)

  same-load : (change : Change) (addr width v u : ℕ) → HasShape (Read addr width v) → HasShape (Read addr width u)
      → Reads (plain_owed p past) (unloaded change (Read addr width v))
      → Reads (plain_owed p past) (unloaded change (Read addr width u)) → v ≡ u
  same-load change addr width v u s t r q = same-xored width change.loaded v u s.1 t.1 (λ i l. r i l ∙ sym (q i l))

  one-access : (change : Change) (e : Effect) (hart : Hart) (rd n : ℕ) (a b : Access)
      → IsMade change e hart rd n a → IsMade change e hart rd n b → a ≡ b
  unfolding after
  one-access change (Gives value) hart rd n a b m k = sym m.made ∙ k.made
  one-access change (Stores addr width value) hart rd n a b m k = sym m.made ∙ k.made
  one-access change (Branches taken) hart rd n a b m k = sym m.made ∙ k.made
  one-access change (Jumps link target) hart rd n a b m k = sym m.made ∙ k.made
  one-access change (Loads addr width with_sign) hart rd n a b m k =
      let v = read_value a in
      let u = read_value b in
      let same =
      same-load change addr width v u (subst HasShape (sym m.made) m.shape) (subst HasShape (sym k.made) k.shape)
      (subst (λ (x : Access). Reads (plain_owed p past) (unloaded change x)) (sym m.made) m.reads)
      (subst (λ (x : Access). Reads (plain_owed p past) (unloaded change x)) (sym k.made) k.reads) in
      sym m.made ∙ (ap (Read addr width) same ∙ k.made)

  -- ---- what is known of a next step, whatever the script

  -- outside streams nothing is changed
  abbrev change_in : Option ℕ → Change → Change
  change_in None change = nothing
  change_in (Some c) change = change

  -- Its access is that of a row, which the change is then made to.
  record Known (change : Change) (before : Hart) (s : Step) : Type 0 where
    place : pc_of s ≡ before.pc
    word : word_at p before.pc ≡ Some s.event.word
    clean : Access
    next : Hart
    made : row_word before s.event.word (read_value clean) ≡ Some (next, clean)
    shape : HasShape clean
    reads : Reads (plain_owed p past) (unloaded change clean)
    is : access_of s ≡ access_by change clean

  known : (h : ℕ) (change : Change) (c : Option ℕ) (before : Hart) (s : Step)
      → FaultedStep p h change c before past s → Known (change_in c change) before s
  known h change None before s f = record {
    place = f.0.place;
    word = f.0.word;
    clean = access_of s;
    next = s.after;
    made = f.0.row;
    shape = f.0.shape;
    reads = subst (Reads (plain_owed p past)) (sym (same-read (access_of s))) f.1;
    is = sym (same-access (access_of s));
  }
  known h change (Some c) before s f =
      let follows = f.follows in
      let word = f.word in
      record {
        place = f.place ∙ follows.place;
        word = follows.word ∙ ap Some (sym word);
        clean = access_of f.clean;
        next = f.clean.after;
        made = ap (λ (w : ℕ). row_word before w (read_value (access_of f.clean))) word ∙ follows.row;
        shape = follows.shape;
        reads = f.reads;
        is = f.access;
      }

  -- ---- one next step

  is-made : (change : Change) (before : Hart) (i : Instr) (a : Access) (next : Hart)
      → row before i (read_value a) ≡ (next, a) → HasShape a → Reads (plain_owed p past) (unloaded change a)
      → IsMade change (effect_at before i) before i.rd (low 64 i.imm) a
  unfolding row
  is-made change before i a next made shape reads = record {
    made = ap (λ (x : Hart × Access). x.1) made;
    shape = shape;
    reads = reads;
  }

  clean-one : (change : Change) (before : Hart) (s t : Step) (k : Known change before s) (l : Known change before t)
      → k.clean ≡ l.clean
  clean-one change before s t k l =
      let word = same-value (word_at p before.pc) s.event.word t.event.word k.word l.word in
      let (i, at, made) = row-decoded before s.event.word (read_value k.clean) k.next k.clean k.made in
      let (j, by, done) = row-decoded before t.event.word (read_value l.clean) l.next l.clean l.made in
      let same = same-value (instr_of t.event.word) i j (ap instr_of (sym word) ∙ at) by in
      one-access change (effect_at before j) before j.rd (low 64 j.imm) k.clean l.clean
      (is-made change before j k.clean k.next (ap (λ (x : Instr). row before x (read_value k.clean)) (sym same) ∙ made)
      k.shape k.reads) (is-made change before j l.clean l.next done l.shape l.reads)

  same-event : (d e : Event) → d.hart ≡ e.hart → d.pc ≡ e.pc → d.word ≡ e.word → d.access ≡ e.access → d ≡ e
  same-event d e hart pc word access = λ i. record { hart = hart i; pc = pc i; word = word i; access = access i }

  one : (h : ℕ) (change : Change) (before : Hart) (s t : Step) → hart_of s ≡ h → hart_of t ≡ h
      → Known change before s → Known change before t → s.event ≡ t.event
  one h change before s t m n k l =
      same-event s.event t.event (m ∙ sym n) (k.place ∙ sym l.place)
      (same-value (word_at p before.pc) s.event.word t.event.word k.word l.word)
      (k.is ∙ (ap (access_by change) (clean-one change before s t k l) ∙ sym l.is))

-- ---- at a guest

-- the change that is made to the next step of hart h
abbrev change_at : Program → List FaultLine → List Step → ℕ → Change
change_at p lines past h =
    change_in p past (stream_at p h (state_after past h).pc) (change_next p lines past h)

-- what a next event is
step-known : (p : Program) (lines : List FaultLine) (events : List Event) (h : ℕ) (e : Event) → e.hart ≡ h
    → FaultedRun p lines (run_of p lines (events ++ e ∷ []))
    → Known p (steps_of p lines events) (change_at p lines (steps_of p lines events) h)
    (state_after (steps_of p lines events) h) (stepped p lines (steps_of p lines events) e)
step-known p lines events h e is goes =
    let past = steps_of p lines events in
    let s = stepped p lines past e in
    let faulted = subst (λ (x : List Step). FaultedRun p lines (opened x)) (steps-more p lines events e) goes in
    let hart = state_after past e.hart in
    subst (λ (g : ℕ). Known p past (change_at p lines past g) (state_after past g) s) is
    (known p past e.hart (change_next p lines past e.hart) (stream_at p e.hart hart.pc) hart s faulted.steps.0)

pub one-next : (g : Guested) (h : ℕ) (d e : Event) → IsNextEvent g h d → IsNextEvent g h e → d ≡ e
one-next g h d e m n =
    let p = g.program in
    let lines = g.faults in
    let past = steps_of p lines g.journal in
    one p past h (change_at p lines past h) (state_after past h) (stepped p lines past d) (stepped p lines past e)
    m.hart n.hart (step-known p lines g.journal h d m.hart m.goes_on)
    (step-known p lines g.journal h e n.hart n.goes_on)

pub one-next-event : (p : Program) → OneNextEvent p
one-next-event p g h d e is m n = one-next g h d e m n
