-- A half cell run is a run of the machine with an add.
use Rattle.std.proofs.Common.{◌≡◌, ℕ, ◌+◌, ◌^◌, ◌<◌, List, [], ◌∷◌, length, Option, None, Some}
use Rattle.std.proofs.Common.{refl, sym, ap, ap₂, ◌∙◌, subst, arith}
use Rattle.std.specs.Prelude.{slice_index}
use mathlib.Core.Path.{fun_ext}
use Rattle.tm_table.specs.declared.state.Access.{Access}
use Rattle.tm_table.specs.declared.state.Access.TheVariants.{Write}
use Rattle.tm_table.specs.State.{Hart}
use Rattle.tm_table.specs.Row.{word64, row_word}
use Rattle.tm_table.specs.declared.add.Add.{Add}
use Rattle.tm_table.specs.Adds.{add_of, add_word, sum_after, hart_after}
use Rattle.tm_table.proofs.AddWords.{add-known}
use Rattle.tm_plan_cases.specs.declared.program.Program.{Program}
use Rattle.tm_world.specs.Place.{word_at}
use Rattle.tm_world.specs.Run.{Step, now, first_state, access_of, Reads, read_value}
use Rattle.tm_world.specs.Kinds.{IsOpening, IsPossible, HalfStep, Follows, stream_at, half_owed}
use Rattle.tm_runs.specs.Machine.{Entry, State, put, get}
use Rattle.tm_runs.specs.World.{Sizes, world_of, start}
use Rattle.tm_runs.specs.Shadow.{entry_of}
use Rattle.tm_runs.proofs.Places.{word-place, guest-true}
use Rattle.tm_runs.proofs.Memory.{owed, memory-start, memory-store}
use Rattle.tm_runs.proofs.Registers.{get-list, put-list, put-length}
use Rattle.tm_runs.proofs.Tables.{get_put_fits}
use Rattle.tm_runs.proofs.Half.{Kept, half-step}
use Rattle.tm_cells_world.specs.Rows.{CellFollows, row_as, read_as, reading_as, add_row, old_of}
use Rattle.tm_cells_world.specs.Kinds.{CellHalfPath, CellHalfStep}
use Rattle.tm_cells_world.specs.Machine.{Moves, ByRow, ByAdd, Ran, adds_at, adds_in, added}
use Rattle.tm_cells_world.specs.Shadow.{NoStreams, CellRunsAreRuns}
use Rattle.tm_cells_world.proofs.Split.{ran-more}

same-entry : (a b : Entry) → a.pc ≡ b.pc → a.next ≡ b.next → a.word ≡ b.word → a.access ≡ b.access → a.regs ≡ b.regs
    → a ≡ b
same-entry a b p q r s t = λ j. record { pc = p j; next = q j; word = r j; access = s j; regs = t j }

-- a state like that after one more step
record AddStepped (p : Program) (h : ℕ) (first : Hart) (past : List Step) (s : Step) (t : State) : Type 0 where
  state : State
  next : Moves (world_of p h) (adds_at p) t state
  kept : Kept p h first (s ∷ past) state

pub adds-word : (p : Program) (pc w : ℕ) (a : Add) → word_at p pc ≡ Some w → add_of w ≡ Some a → adds_at p pc ≡ Some a
unfolding adds_at
adds-word p pc w a e f = ap adds_in e ∙ f

module _ (p : Program) (h : ℕ) (first : Hart) (sizes : Sizes p) (low-number : h < 16) (none : NoStreams p h) where
  -- a step by the table
  by-row : (past : List Step) (s : Step) (t : State) → Kept p h first past t → add_of s.event.word ≡ None
      → CellHalfStep p h (now first past) past s → AddStepped p h first past s t
  by-row past s t k e f =
      let before = now first past in
      let c = f.follows in
      let row : row_word before s.event.word (read_value (access_of s)) ≡ Some (s.after, access_of s) =
      subst (λ (o : Option Add). row_as o before s.event.word (read_as o before s) ≡ Some (s.after, access_of s)) e c.row
      in
      let reads : Reads (half_owed p h past) (access_of s) =
      subst (λ (o : Option Add). Reads (half_owed p h past) (reading_as o before s)) e f.reads in
      let follows : Follows p h before s = record {
        place = c.place;
        goes = c.goes;
        word = c.word;
        row = row;
        possible = c.possible;
        shape = c.shape;
      } in
      let half : HalfStep p h (stream_at p h before.pc) before past s =
      subst (λ (o : Option ℕ). HalfStep p h o before past s) (sym (none before.pc)) (follows, reads) in
      let stepped = half-step p h first sizes low-number past s t k half in
      record { state = stepped.state; next = ByRow stepped.next; kept = stepped.kept }

  -- an add
  by-add : (past : List Step) (s : Step) (t : State) (a : Add) → Kept p h first past t → add_of s.event.word ≡ Some a
      → CellFollows p h (now first past) s → AddStepped p h first past s t
  by-add past s t a k e c =
      let before = now first past in
      let old = old_of before a s in
      let row : Some (add_row before a old) ≡ Some (s.after, access_of s) =
      subst (λ (o : Option Add). row_as o before s.event.word (read_as o before s) ≡ Some (s.after, access_of s)) e c.row
      in
      let same : add_row before a old ≡ (s.after, access_of s) = cc in
      let hart : hart_after before a old ≡ s.after = ap (λ (q : Hart × Access). q.0) same in
      let addr = get t.regs a.rs1 in
      let sum = word64 (get t.regs a.rs2 + old) in
      let here : addr ≡ slice_index before.x a.rs1 = k.regs a.rs1 in
      let much : sum ≡ sum_after before a old = ap (λ (n : ℕ). word64 (n + old)) (k.regs a.rs2) in
      let access : Write addr 8 sum ≡ access_of s =
      ap₂ (λ (x y : ℕ). Write x 8 y) here much ∙ ap (λ (q : Hart × Access). q.1) same in
      let known = add-known s.event.word a e in
      let place = word-place p before.pc s.event.word sizes c.word in
      let possible : IsPossible (Write addr 8 sum) = subst IsPossible (sym access) c.possible in
      let small : old < 2 ^ 64 = omega arith in
      let regs : (r : ℕ) → get (put t.regs a.rd old) r ≡ slice_index s.after.x r =
      λ r. put-list t.regs before.x a.rd old k.regs k.count known.fits.rd r ∙ ap (λ (y : Hart). slice_index y.x r) hart
      in
      let next-pc : t.pc + 4 ≡ s.after.pc =
      (let q = k.pc in omega (arith, place, q)) ∙ ap (λ (y : Hart). y.pc) hart in
      let at : adds_at p t.pc ≡ Some a =
      adds-word p t.pc s.event.word a (ap (word_at p) k.pc ∙ c.word) e in
      record {
        state = added (world_of p h) a old t;
        next = ByAdd a old at (possible.0, guest-true addr possible.1 possible.2) small;
        kept = record {
          pc = next-pc;
          regs = regs;
          fits = get_put_fits t.regs a.rd old k.fits small;
          log = ap₂ (λ (x : Entry) (es : List Entry). x ∷ es)
              (same-entry (record {
                pc = t.pc;
                next = t.pc + 4;
                word = add_word a;
                access = Write addr 8 sum;
                regs = get (put t.regs a.rd old);
              }) (entry_of s) (k.pc ∙ sym c.place) next-pc known.word access (fun_ext regs)) k.log;
          memory = memory-store p h sizes low-number s past t.mem addr sum (sym access) possible.0 (omega arith)
              k.memory;
          count = ap (λ (y : Hart). length y.x) (sym hart) ∙ (put-length before.x a.rd old ∙ k.count);
        };
      }

  one-step : (past : List Step) (s : Step) (t : State) → Kept p h first past t
      → CellHalfStep p h (now first past) past s → AddStepped p h first past s t
  one-step past s t k f = by (add_of s.event.word) refl
    where
      by : (o : Option Add) → add_of s.event.word ≡ o → AddStepped p h first past s t
      by None e = by-row past s t k e f
      by (Some a) e = by-add past s t a k e f.follows

-- a run of the machine that comes to what is known
pub record CellReached (p : Program) (h : ℕ) (x : List ℕ) (own : List Step) : Type 0 where
  pub state : State
  pub run : Ran (world_of p h) (adds_at p) (length own) (start p x) state
  pub kept : Kept p h (first_state x) own state

pub cell-reached : (p : Program) (h : ℕ) → Sizes p → h < 16 → NoStreams p h → (x : List ℕ) → IsOpening h x
    → (own : List Step) → CellHalfPath p h (first_state x) own → CellReached p h x own
cell-reached p h sizes low-number none x o [] path =
    let regs = get-list x o.zero in
    record {
      state = start p x;
      run = refl;
      kept = record {
        pc = refl;
        regs = regs;
        fits = λ r. subst (λ (n : ℕ). n < 2 ^ 64) (sym (regs r)) (o.fits r);
        log = refl;
        memory = memory-start p h sizes low-number;
        count = o.count;
      };
    }
cell-reached p h sizes low-number none x o (s ∷ past) path =
    let before = cell-reached p h sizes low-number none x o past path.1 in
    let step = one-step p h (first_state x) sizes low-number none past s before.state before.kept path.0 in
    record {
      state = step.state;
      run = ran-more (world_of p h) (adds_at p) (length past) (start p x) before.state step.state before.run step.next;
      kept = step.kept;
    }

pub cell-runs : (p : Program) → CellRunsAreRuns p
cell-runs p sizes h l none x o own path =
    let low-number : h < 16 = omega (arith, sizes.harts) in
    let r = cell-reached p h sizes low-number none x o own path in
    record {
      state = r.state;
      run = r.run;
      shadow = record {
        pc = r.kept.pc;
        regs = r.kept.regs;
        fits = r.kept.fits;
        log = r.kept.log;
        dwords = λ a _ _. r.kept.memory.fits a;
        bytes = λ a i own' al b. owed p h sizes low-number own r.state.mem a i r.kept.memory own' al b;
      };
    }
