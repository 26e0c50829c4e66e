-- A half run, told by bytes and lists of registers, is a run of the machine that keeps dwords.
use Rattle.std.proofs.Common.{◌≡◌, ℕ, zero, ◌+◌, ◌-◌, ◌*◌, ◌%◌, ◌^◌, ◌<◌, ◌≤◌, List, [], ◌∷◌, length, Bool}
use Rattle.std.proofs.Common.{true, false, Option, None, Some, ◌⊎◌, inl, inr, refl, sym, ap, ap₂, ◌∙◌}
use Rattle.std.proofs.Common.{subst, arith}
use Rattle.std.specs.Prelude.{IsTrue, IfSome, if◌then◌else◌, slice_index}
use mathlib.Core.Path.{fun_ext}
use Rattle.tm_table.specs.declared.instr.Op.{Op}
use Rattle.tm_table.specs.declared.instr.Op.TheVariants.{Jal, Jalr}
use Rattle.tm_table.specs.declared.instr.Instr.{Instr}
use Rattle.tm_table.specs.declared.state.Access.{Access}
use Rattle.tm_table.specs.declared.state.Access.TheVariants.{Quiet, Read, Write}
use Rattle.tm_table.specs.State.{Hart}
use Rattle.tm_table.specs.Words.{low, word_of}
use Rattle.tm_table.specs.Row.{Effect, Gives, Loads, Stores, Branches, Jumps, effect, word64, row}
use Rattle.tm_table.specs.Row.{put as set_register, after as row_after, loaded as value_of}
use Rattle.tm_table.proofs.Signs.{low-lt}
use Rattle.tm_table.proofs.Bounds.{IsBounded, effect-bounded}
use Rattle.tm_plan_cases.specs.declared.program.Program.{Program}
use Rattle.tm_plan_map.specs.Map.{within}
use Rattle.tm_world.specs.Place.{byte_of, start_of, end_of, is_window}
use Rattle.tm_world.specs.Run.{Step, now, first_state, pc_of, access_of, written, read_value, HasShape}
use Rattle.tm_world.specs.Run.{Writes, Reads as ReadsOwed}
use Rattle.tm_world.specs.Kinds.{IsOpening, IsPossible, HalfPath, HalfStep, Follows, Free, stream_at, half_owed}
use Rattle.tm_runs.specs.Machine.{Entry, State, Table, put, get, target, lands, moved, computes, loaded, stored, act}
use Rattle.tm_runs.specs.Machine.{effect_in, MayAct, IsNarrow, ReadsAs, StreamAccess}
use Rattle.tm_runs.specs.Runs.{Run, Next, ByTable, InStream, Narrow}
use Rattle.tm_runs.specs.World.{Sizes, world_of, start, support_at, bounds_at, is_private_dword}
use Rattle.tm_runs.specs.Shadow.{entry_of, entries_of, HalfRunsAreRuns}
use Rattle.tm_runs.proofs.Split.{run_more}
use Rattle.tm_runs.proofs.Bytes.{same_dword}
use Rattle.tm_runs.proofs.Rows.{InReach, IsPlain, plain, word-reach, row-decoded, target-word64}
use Rattle.tm_runs.proofs.Places.{private-window, word-place, guest-true}
use Rattle.tm_plan_map.proofs.Within.{within-parts}
use Rattle.tm_runs.proofs.Worlds.{fetched, held}
use Rattle.tm_runs.proofs.Memory.{Memory, owed, memory-start, memory-same, told, memory-told, memory-store}
use Rattle.tm_runs.proofs.Registers.{get-list, put-list, put-length, value-fits}
use Rattle.tm_runs.proofs.Tables.{get_put_fits}

-- ---- one step

same-entry : (a b : Entry) → a.pc ≡ b.pc → a.next ≡ b.next → a.word ≡ b.word → a.access ≡ b.access → a.regs ≡ b.regs
    → a ≡ b
same-entry a b p q r s t = λ j. record { pc = p j; next = q j; word = r j; access = s j; regs = t j }

-- what is known of the machine's state after a hart's own steps
pub record Kept (p : Program) (h : ℕ) (first : Hart) (own : List Step) (t : State) : Type 0 where
  pub pc : t.pc ≡ (now first own).pc
  pub regs : (r : ℕ) → get t.regs r ≡ slice_index (now first own).x r
  pub fits : (r : ℕ) → get t.regs r < 2 ^ 64
  pub log : t.log ≡ entries_of own
  pub memory : Memory p h own t.mem
  pub count : length (now first own).x ≡ 32

-- a state like that after one more step
pub record Stepped (p : Program) (h : ℕ) (first : Hart) (past : List Step) (s : Step) (t : State) : Type 0 where
  pub state : State
  pub next : Next (world_of p h) t state
  pub kept : Kept p h first (s ∷ past) state

-- what a step by the table is
record Facts (p : Program) (h : ℕ) (first : Hart) (past : List Step) (s : Step) (t : State) (i : Instr) : Type 0 where
  kept : Kept p h first past t
  reach : InReach i
  word : word_of i ≡ s.event.word
  at : support_at p h t.pc ≡ Some i
  place : t.pc ≡ pc_of s
  least : 2147483648 ≤ t.pc
  most : t.pc < 2155872256
  possible : IsPossible (access_of s)
  shape : HasShape (access_of s)
  reads : ReadsOwed (half_owed p h past) (access_of s)

module _ (p : Program) (h : ℕ) (first : Hart) (sizes : Sizes p) (low-number : h < 16) where
  moved-kept : (past : List Step) (s : Step) (t : State) (i : Instr) (access : Access) (pc : ℕ) (regs mem : Table)
      → Facts p h first past s t i → access ≡ access_of s → pc ≡ s.after.pc
      → ((r : ℕ) → get regs r ≡ slice_index s.after.x r) → ((r : ℕ) → get regs r < 2 ^ 64) → length s.after.x ≡ 32
      → Memory p h (s ∷ past) mem → Kept p h first (s ∷ past) (moved i t access pc regs mem)
  moved-kept past s t i access pc regs mem f a n r small l m = record {
    pc = n;
    regs = r;
    fits = small;
    log = ap₂ (λ (e : Entry) (es : List Entry). e ∷ es)
        (same-entry (record { pc = t.pc; next = pc; word = word_of i; access = access; regs = get regs }) (entry_of s)
        f.place n f.word a (fun_ext r)) f.kept.log;
    memory = m;
    count = l;
  }

  quiet-memory : (past : List Step) (s : Step) (mem : Table) (access : Access) → access ≡ access_of s
      → ((b : ℕ) → written access b ≡ None) → Memory p h past mem → Memory p h (s ∷ past) mem
  quiet-memory past s mem access a none m =
      memory-same p h sizes low-number s past mem (λ c i _ _. ap (λ (x : Access). written x (c + i)) (sym a) ∙ none
      (c + i)) m

  by-row : (t : State) (i : Instr) (v : ℕ) (e : Effect) → support_at p h t.pc ≡ Some i → effect_in i t ≡ e
      → MayAct e (world_of p h) → ReadsAs e (world_of p h) t v → Next (world_of p h) t (act e (world_of p h) i v t)
  by-row t i v e at is =
      subst (λ (x : Effect). MayAct x (world_of p h) → ReadsAs x (world_of p h) t v
      → Next (world_of p h) t (act x (world_of p h) i v t)) is (λ m r. ByTable i v at m r)

  onward : (past : List Step) (t : State) → Kept p h first past t → t.pc < 2155872256
      → t.pc + 4 ≡ word64 ((now first past).pc + 4)
  onward past t k l = let e = k.pc in omega arith

  jump-to : (past : List Step) (s : Step) (t : State) (i : Instr) → Facts p h first past s t i
      → target t.pc i.imm ≡ word64 ((now first past).pc + low 64 i.imm)
  jump-to past s t i f = sym (target-word64 t.pc i.imm (omega (arith, f.least)) (omega (arith, f.most)) f.reach.imm) ∙
      ap (λ (n : ℕ). word64 (n + low 64 i.imm)) f.kept.pc

  by-gives : (past : List Step) (s : Step) (t : State) (i : Instr) (value : ℕ) → Facts p h first past s t i
      → effect_in i t ≡ Gives value → value < 2 ^ 64
      → row_after (Gives value) (now first past) i.rd (low 64 i.imm) (read_value (access_of s)) ≡ (s.after, access_of s)
      → Stepped p h first past s t
  unfolding row_after
  by-gives past s t i value f is small eq =
      let hart : record { pc = word64 ((now first past).pc + 4); x = set_register (now first past).x i.rd value }
      ≡ s.after = ap (λ (q : Hart × Access). q.0) eq in
      let access : Quiet ≡ access_of s = ap (λ (q : Hart × Access). q.1) eq in
      record {
        state = computes i t value;
        next = by-row t i 0 (Gives value) f.at is tt tt;
        kept = moved-kept past s t i Quiet (t.pc + 4) (put t.regs i.rd value) t.mem f access
            (onward past t f.kept f.most ∙ ap (λ (x : Hart). x.pc) hart)
            (λ r. put-list t.regs (now first past).x i.rd value f.kept.regs f.kept.count f.reach.rd r ∙ ap
            (λ (x : Hart). slice_index x.x r) hart)
            (get_put_fits t.regs i.rd value f.kept.fits small)
            (ap (λ (x : Hart). length x.x) (sym hart) ∙ (put-length (now first past).x i.rd value ∙ f.kept.count))
            (quiet-memory past s t.mem Quiet access (λ b. refl) f.kept.memory);
      }

  by-loads : (past : List Step) (s : Step) (t : State) (i : Instr) (addr : ℕ) → Facts p h first past s t i
      → effect_in i t ≡ Loads addr 8 false → row_after (Loads addr 8 false) (now first past) i.rd (low 64 i.imm)
      (read_value (access_of s)) ≡ (s.after, access_of s) → Stepped p h first past s t
  unfolding row_after
  by-loads past s t i addr f is eq =
      let v = read_value (access_of s) in
      let hart : record { pc = word64 ((now first past).pc + 4); x = set_register (now first past).x i.rd v }
      ≡ s.after = ap (λ (q : Hart × Access). q.0) eq in
      let access : Read addr 8 v ≡ access_of s = ap (λ (q : Hart × Access). q.1) eq in
      let possible : IsPossible (Read addr 8 v) = subst IsPossible (sym access) f.possible in
      let shape : HasShape (Read addr 8 v) = subst HasShape (sym access) f.shape in
      let reads : ReadsOwed (half_owed p h past) (Read addr 8 v) =
      subst (ReadsOwed (half_owed p h past)) (sym access) f.reads in
      let small : v < 2 ^ 64 = let b = shape.1 in omega arith in
      let back : IsTrue ((world_of p h).own addr) → v ≡ t.mem addr =
      λ o. same_dword v (t.mem addr) small (f.kept.memory.fits addr)
      (λ j l. subst (λ (x : Option ℕ). IfSome x (λ b. byte_of v j ≡ b))
      (owed p h sizes low-number past t.mem addr j f.kept.memory o possible.0 l) (reads j l)) in
      record {
        state = loaded i addr v t;
        next = by-row t i v (Loads addr 8 false) f.at is (
          refl,
          refl,
          (possible.0, guest-true addr possible.1 possible.2),
        ) (small, back);
        kept = moved-kept past s t i (Read addr 8 v) (t.pc + 4) (put t.regs i.rd v) t.mem f access
            (onward past t f.kept f.most ∙ ap (λ (x : Hart). x.pc) hart)
            (λ r. put-list t.regs (now first past).x i.rd v f.kept.regs f.kept.count f.reach.rd r ∙ ap
            (λ (x : Hart). slice_index x.x r) hart)
            (get_put_fits t.regs i.rd v f.kept.fits small)
            (ap (λ (x : Hart). length x.x) (sym hart) ∙ (put-length (now first past).x i.rd v ∙ f.kept.count))
            (quiet-memory past s t.mem (Read addr 8 v) access (λ b. refl) f.kept.memory);
      }

  by-stores : (past : List Step) (s : Step) (t : State) (i : Instr) (addr value : ℕ) → Facts p h first past s t i
      → effect_in i t ≡ Stores addr 8 value → value < 2 ^ 64
      → row_after (Stores addr 8 value) (now first past) i.rd (low 64 i.imm) (read_value (access_of s))
      ≡ (s.after, access_of s) → Stepped p h first past s t
  unfolding row_after
  by-stores past s t i addr value f is small eq =
      let hart : record { pc = word64 ((now first past).pc + 4); x = (now first past).x } ≡ s.after =
      ap (λ (q : Hart × Access). q.0) eq in
      let same : value ≡ value % 2 ^ 64 = omega arith in
      let access : Write addr 8 value ≡ access_of s =
      ap (λ (n : ℕ). Write addr 8 n) same ∙ ap (λ (q : Hart × Access). q.1) eq in
      let possible : IsPossible (Write addr 8 value) = subst IsPossible (sym access) f.possible in
      record {
        state = moved i t (Write addr 8 value) (t.pc + 4) t.regs (stored (world_of p h) t.mem addr value);
        next = by-row t i 0 (Stores addr 8 value) f.at is (refl, (possible.0, guest-true addr possible.1 possible.2))
            tt;
        kept = moved-kept past s t i (Write addr 8 value) (t.pc + 4) t.regs (stored (world_of p h) t.mem addr value) f
            access
            (onward past t f.kept f.most ∙ ap (λ (x : Hart). x.pc) hart)
            (λ r. f.kept.regs r ∙ ap (λ (x : Hart). slice_index x.x r) hart)
            f.kept.fits
            (ap (λ (x : Hart). length x.x) (sym hart) ∙ f.kept.count)
            (memory-store p h sizes low-number s past t.mem addr value (sym access) possible.0 small f.kept.memory);
      }

  way : (past : List Step) (s : Step) (t : State) (i : Instr) (b : Bool) → Facts p h first past s t i
      → (if b then target t.pc i.imm else t.pc + 4)
      ≡ (if b then word64 ((now first past).pc + low 64 i.imm) else word64 ((now first past).pc + 4))
  way past s t i true f = jump-to past s t i f
  way past s t i false f = onward past t f.kept f.most

  by-branches : (past : List Step) (s : Step) (t : State) (i : Instr) (taken : Bool) → Facts p h first past s t i
      → effect_in i t ≡ Branches taken → row_after (Branches taken) (now first past) i.rd (low 64 i.imm)
      (read_value (access_of s)) ≡ (s.after, access_of s) → Stepped p h first past s t
  unfolding row_after
  by-branches past s t i taken f is eq =
      let hart : record {
        pc = (if taken then word64 ((now first past).pc + low 64 i.imm)
            else word64 ((now first past).pc + 4));
        x = (now first past).x;
      }
      ≡ s.after = ap (λ (q : Hart × Access). q.0) eq in
      let access : Quiet ≡ access_of s = ap (λ (q : Hart × Access). q.1) eq in
      record {
        state = act (Branches taken) (world_of p h) i 0 t;
        next = by-row t i 0 (Branches taken) f.at is tt tt;
        kept = moved-kept past s t i Quiet (if taken then target t.pc i.imm else t.pc + 4) t.regs t.mem f access
            (way past s t i taken f ∙ ap (λ (x : Hart). x.pc) hart)
            (λ r. f.kept.regs r ∙ ap (λ (x : Hart). slice_index x.x r) hart)
            f.kept.fits
            (ap (λ (x : Hart). length x.x) (sym hart) ∙ f.kept.count)
            (quiet-memory past s t.mem Quiet access (λ b. refl) f.kept.memory);
      }

  by-jumps : (past : List Step) (s : Step) (t : State) (i : Instr) (link goes : ℕ) → Facts p h first past s t i
      → effect_in i t ≡ Jumps link goes → link ≡ word64 (t.pc + 4) → lands i.op goes (target t.pc i.imm) ≡ goes
      → row_after (Jumps link goes) (now first past) i.rd (low 64 i.imm) (read_value (access_of s))
      ≡ (s.after, access_of s) → Stepped p h first past s t
  unfolding row_after
  by-jumps past s t i link goes f is l there eq =
      let hart : record { pc = goes; x = set_register (now first past).x i.rd link } ≡ s.after =
      ap (λ (q : Hart × Access). q.0) eq in
      let access : Quiet ≡ access_of s = ap (λ (q : Hart × Access). q.1) eq in
      let same : t.pc + 4 ≡ link = omega (arith, l, f.most) in
      record {
        state = act (Jumps link goes) (world_of p h) i 0 t;
        next = by-row t i 0 (Jumps link goes) f.at is tt tt;
        kept = moved-kept past s t i Quiet (lands i.op goes (target t.pc i.imm)) (put t.regs i.rd (t.pc + 4)) t.mem f
            access
            (there ∙ ap (λ (x : Hart). x.pc) hart)
            (λ r. ap (λ (n : ℕ). get (put t.regs i.rd n) r) same ∙
            (put-list t.regs (now first past).x i.rd link f.kept.regs f.kept.count f.reach.rd r ∙ ap
            (λ (x : Hart). slice_index x.x r) hart))
            (get_put_fits t.regs i.rd (t.pc + 4) f.kept.fits (omega (arith, f.most)))
            (ap (λ (x : Hart). length x.x) (sym hart) ∙ (put-length (now first past).x i.rd link ∙ f.kept.count))
            (quiet-memory past s t.mem Quiet access (λ b. refl) f.kept.memory);
      }

  landed : (past : List Step) (s : Step) (t : State) (i : Instr) (goes : ℕ) → Facts p h first past s t i → (i.op ≡ Jalr)
      ⊎ ((i.op ≡ Jal) × (goes ≡ word64 (t.pc + low 64 i.imm))) → lands i.op goes (target t.pc i.imm) ≡ goes
  landed past s t i goes f (inl o) = ap (λ (op : Op). lands op goes (target t.pc i.imm)) o
  landed past s t i goes f (inr o) =
      ap (λ (op : Op). lands op goes (target t.pc i.imm)) o.0
      ∙ (sym (target-word64 t.pc i.imm (omega (arith, f.least)) (omega (arith, f.most)) f.reach.imm) ∙ sym o.1)

  -- accesses of less than a dword

  by-narrow : (past : List Step) (s : Step) (t : State) (i : Instr) (access : Access) (regs : Table)
      → Facts p h first past s t i → IsNarrow (effect_in i t) → access ≡ access_of s → word64 ((now first past).pc + 4)
      ≡ s.after.pc → ((r : ℕ) → get regs r ≡ slice_index s.after.x r) → ((r : ℕ) → get regs r < 2 ^ 64)
      → length s.after.x ≡ 32 → Stepped p h first past s t
  by-narrow past s t i access regs f n a pc r small count = record {
    state = moved i t access (t.pc + 4) regs (told p h sizes low-number t.mem (s ∷ past));
    next = Narrow i f.at n;
    kept = moved-kept past s t i access (t.pc + 4) regs (told p h sizes low-number t.mem (s ∷ past)) f a
        (onward past t f.kept f.most ∙ pc) r small count (memory-told p h sizes low-number s past t.mem f.kept.memory);
  }

  loads-narrow : (past : List Step) (s : Step) (t : State) (i : Instr) (addr width : ℕ) (with_sign : Bool)
      → Facts p h first past s t i → effect_in i t ≡ Loads addr width with_sign → width < 8
      → row_after (Loads addr width with_sign) (now first past) i.rd (low 64 i.imm) (read_value (access_of s))
      ≡ (s.after, access_of s) → Stepped p h first past s t
  unfolding row_after
  loads-narrow past s t i addr width with_sign f is less eq =
      let v = read_value (access_of s) in
      let x = value_of with_sign width v in
      let hart : record { pc = word64 ((now first past).pc + 4); x = set_register (now first past).x i.rd x }
      ≡ s.after = ap (λ (q : Hart × Access). q.0) eq in
      let access : Read addr width v ≡ access_of s = ap (λ (q : Hart × Access). q.1) eq in
      let shape : HasShape (Read addr width v) = subst HasShape (sym access) f.shape in
      by-narrow past s t i (Read addr width v) (put t.regs i.rd x) f (subst IsNarrow (sym is) less) access
      (ap (λ (y : Hart). y.pc) hart)
      (λ r. put-list t.regs (now first past).x i.rd x f.kept.regs f.kept.count f.reach.rd r ∙ ap
      (λ (y : Hart). slice_index y.x r) hart)
      (get_put_fits t.regs i.rd x f.kept.fits (value-fits with_sign width v shape))
      (ap (λ (y : Hart). length y.x) (sym hart) ∙ (put-length (now first past).x i.rd x ∙ f.kept.count))

  stores-narrow : (past : List Step) (s : Step) (t : State) (i : Instr) (addr width value : ℕ)
      → Facts p h first past s t i → effect_in i t ≡ Stores addr width value → width < 8
      → row_after (Stores addr width value) (now first past) i.rd (low 64 i.imm) (read_value (access_of s))
      ≡ (s.after, access_of s) → Stepped p h first past s t
  unfolding row_after
  stores-narrow past s t i addr width value f is less eq =
      let hart : record { pc = word64 ((now first past).pc + 4); x = (now first past).x } ≡ s.after =
      ap (λ (q : Hart × Access). q.0) eq in
      let access : Write addr width (value % 2 ^ (8 * width)) ≡ access_of s = ap (λ (q : Hart × Access). q.1) eq in
      by-narrow past s t i (Write addr width (value % 2 ^ (8 * width))) t.regs f (subst IsNarrow (sym is) less) access
      (ap (λ (y : Hart). y.pc) hart)
      (λ r. f.kept.regs r ∙ ap (λ (y : Hart). slice_index y.x r) hart)
      f.kept.fits
      (ap (λ (y : Hart). length y.x) (sym hart) ∙ f.kept.count)

  by-effect : (past : List Step) (s : Step) (t : State) (i : Instr) (e : Effect) → Facts p h first past s t i
      → effect_in i t ≡ e → IsPlain i.op t.pc (low 64 i.imm) e → IsBounded e
      → row_after e (now first past) i.rd (low 64 i.imm) (read_value (access_of s)) ≡ (s.after, access_of s)
      → Stepped p h first past s t
  by-effect past s t i (Gives value) f is q b eq = by-gives past s t i value f is b eq
  by-effect past s t i (Loads addr width with_sign) f is (inl q) b eq =
      let e : Loads addr width with_sign ≡ Loads addr 8 false = ap₂ (λ (n : ℕ) (c : Bool). Loads addr n c) q.0 q.1 in
      by-loads past s t i addr f (is ∙ e) (subst (λ (x : Effect). row_after x (now first past) i.rd (low 64 i.imm)
      (read_value (access_of s)) ≡ (s.after, access_of s)) e eq)
  by-effect past s t i (Loads addr width with_sign) f is (inr less) b eq =
      loads-narrow past s t i addr width with_sign f is less eq
  by-effect past s t i (Stores addr width value) f is (inl q) b eq =
      let e : Stores addr width value ≡ Stores addr 8 value = ap (λ (n : ℕ). Stores addr n value) q in
      by-stores past s t i addr value f (is ∙ e) b
      (subst (λ (x : Effect). row_after x (now first past) i.rd (low 64 i.imm) (read_value (access_of s))
      ≡ (s.after, access_of s)) e eq)
  by-effect past s t i (Stores addr width value) f is (inr less) b eq =
      stores-narrow past s t i addr width value f is less eq
  by-effect past s t i (Branches taken) f is q b eq = by-branches past s t i taken f is eq
  by-effect past s t i (Jumps link goes) f is q b eq =
      by-jumps past s t i link goes f is q.0 (landed past s t i goes f q.1) eq

  -- ---- a step by the table

  by-table : (past : List Step) (s : Step) (t : State) → Kept p h first past t → stream_at p h (now first past).pc
      ≡ None → Follows p h (now first past) s → ReadsOwed (half_owed p h past) (access_of s)
      → Stepped p h first past s t
  unfolding row
  by-table past s t k out f reads =
      let (i, is, eq) = row-decoded (now first past) s.event.word (read_value (access_of s)) s.after (access_of s) f.row
      in
      let where' = word-place p (now first past).pc s.event.word sizes f.word in
      let known = word-reach s.event.word i where'.2 is in
      let n = low 64 i.imm in
      let facts : Facts p h first past s t i = record {
        kept = k;
        reach = known.0;
        word = known.1;
        at = subst (λ (x : ℕ). support_at p h x ≡ Some i) (sym k.pc)
            (fetched p h (now first past).pc s.event.word i out f.goes f.word is);
        place = k.pc ∙ sym f.place;
        least = omega (arith, where', k.pc);
        most = omega (arith, where', k.pc);
        possible = f.possible;
        shape = f.shape;
        reads = reads;
      } in
      let first' : effect i.op t.pc (get t.regs i.rs1) (get t.regs i.rs2) n
      ≡ effect i.op (now first past).pc (get t.regs i.rs1) (get t.regs i.rs2) n =
      ap (λ (x : ℕ). effect i.op x (get t.regs i.rs1) (get t.regs i.rs2) n) k.pc in
      let second : effect i.op (now first past).pc (get t.regs i.rs1) (get t.regs i.rs2) n
      ≡ effect i.op (now first past).pc (slice_index (now first past).x i.rs1)
      (slice_index (now first past).x i.rs2) n =
      ap₂ (λ (a b : ℕ). effect i.op (now first past).pc a b n) (k.regs i.rs1) (k.regs i.rs2) in
      by-effect past s t i (effect_in i t) facts refl (plain i.op t.pc (get t.regs i.rs1) (get t.regs i.rs2) n)
      (effect-bounded i.op t.pc (get t.regs i.rs1) (get t.regs i.rs2) n (k.fits i.rs1) (k.fits i.rs2)
      (low-lt 64 i.imm))
      (subst (λ (x : Effect). row_after x (now first past) i.rd n (read_value (access_of s)) ≡ (s.after, access_of s))
      (sym (first' ∙ second)) eq)

  -- ---- a step in a stream

  some-bytes : (width : ℕ) → ((width ≡ 1) ⊎ ((width ≡ 2) ⊎ ((width ≡ 4) ⊎ (width ≡ 8)))) → 1 ≤ width
  some-bytes width (inl e) = omega arith
  some-bytes width (inr (inl e)) = omega arith
  some-bytes width (inr (inr (inl e))) = omega arith
  some-bytes width (inr (inr (inr e))) = omega arith

  stream-access : (a : Access) → HasShape a → Writes (λ b. IsTrue (is_window b)) a → StreamAccess (world_of p h) a
  stream-access Quiet s w = tt
  stream-access (Read addr width value) s w = tt
  stream-access (Write addr width value) s w = (some-bytes width s.0, w)

  stream-bytes : (a : Access) → Writes (λ b. IsTrue (is_window b)) a → (c i : ℕ) → is_private_dword h c ≡ true → i < 8
      → written a (c + i) ≡ None
  stream-bytes Quiet w c i e l = refl
  stream-bytes (Read addr width value) w c i e l = refl
  stream-bytes (Write addr width value) w c i e l = by (within addr width (c + i)) refl
    where
      by : (b : Bool) → within addr width (c + i) ≡ b → (if b then Some (byte_of value (c + i - addr)) else None) ≡ None
      by false q = refl
      by true q =
          let r = within-parts addr width (c + i) q in
          let e' : addr + (c + i - addr) ≡ c + i = omega (arith, r) in
          absurd (private-window h c i low-number e l
          (subst (λ (x : ℕ). is_window x ≡ true) e' (w (c + i - addr) (omega (arith, r)))))

  by-stream : (past : List Step) (s : Step) (t : State) (c : ℕ) → Kept p h first past t
      → stream_at p h (now first past).pc ≡ Some c → Free p h c (now first past) s → Stepped p h first past s t
  by-stream past s t c k within' f =
      let zero' : slice_index s.after.x 0 ≡ 0 = f.zero ∙ sym (k.regs 0) in
      let regs = get-list s.after.x zero' in
      let state : State = record {
        pc = s.after.pc;
        regs = λ r. slice_index s.after.x r;
        mem = t.mem;
        log = entry_of s ∷ t.log;
      } in
      record {
        state = state;
        next = InStream (start_of p h c) (end_of p h c)
            (ap (bounds_at p h) k.pc ∙ held p h c (now first past).pc within')
            (record {
              entry = entry_of s;
              log = refl;
              from = f.place ∙ sym k.pc;
              next = refl;
              access = stream-access (access_of s) f.shape f.stores;
              regs = λ r. sym (regs r);
              fits = λ r. subst (λ (n : ℕ). n < 2 ^ 64) (sym (regs r)) (f.fits r);
              kept = λ r l. regs r ∙ (f.bases r l ∙ sym (k.regs r));
              own = λ a o. refl;
              least = f.lands.0;
              most = f.lands.1;
              aligned = f.aligned;
            });
        kept = record {
          pc = refl;
          regs = regs;
          fits = λ r. subst (λ (n : ℕ). n < 2 ^ 64) (sym (regs r)) (f.fits r);
          log = ap (λ (es : List Entry). entry_of s ∷ es) k.log;
          memory = memory-same p h sizes low-number s past t.mem (stream-bytes (access_of s) f.stores) k.memory;
          count = f.count;
        };
      }

  pub half-step : (past : List Step) (s : Step) (t : State) → Kept p h first past t
      → HalfStep p h (stream_at p h (now first past).pc) (now first past) past s → Stepped p h first past s t
  half-step past s t k f = by (stream_at p h (now first past).pc) refl f
    where
      by : (o : Option ℕ) → stream_at p h (now first past).pc ≡ o → HalfStep p h o (now first past) past s
          → Stepped p h first past s t
      by None e g = by-table past s t k e g.0 g.1
      by (Some c) e g = by-stream past s t c k e g

-- a run of the machine that comes to what is known
pub record Reached (p : Program) (h : ℕ) (x : List ℕ) (own : List Step) : Type 0 where
  pub state : State
  pub run : Run (world_of p h) (length own) (start p x) state
  pub kept : Kept p h (first_state x) own state

pub half-reached : (p : Program) (h : ℕ) → Sizes p → h < 16 → (x : List ℕ) → IsOpening h x → (own : List Step)
    → HalfPath p h (first_state x) own → Reached p h x own
half-reached p h sizes low-number x o [] path =
    let regs = get-list x o.zero in
    record {
      state = start p x;
      run = refl;
      kept = record {
        pc = refl;
        regs = regs;
        fits = λ r. subst (λ (n : ℕ). n < 2 ^ 64) (sym (regs r)) (o.fits r);
        log = refl;
        memory = memory-start p h sizes low-number;
        count = o.count;
      };
    }
half-reached p h sizes low-number x o (s ∷ past) path =
    let before = half-reached p h sizes low-number x o past path.1 in
    let step = half-step p h (first_state x) sizes low-number past s before.state before.kept path.0 in
    record {
      state = step.state;
      run = run_more (world_of p h) (length past) (start p x) before.state step.state
          before.run step.next;
      kept = step.kept;
    }

-- each half run is a run of the machine
pub half-runs : (p : Program) → HalfRunsAreRuns p
half-runs p sizes h l x o own path =
    let low-number : h < 16 = omega (arith, sizes.harts) in
    let r = half-reached p h sizes low-number x o own path in
    record {
      state = r.state;
      run = r.run;
      shadow = record {
        pc = r.kept.pc;
        regs = r.kept.regs;
        fits = r.kept.fits;
        log = r.kept.log;
        dwords = λ a _ _. r.kept.memory.fits a;
        bytes = λ a i own' al b. owed p h sizes low-number own r.state.mem a i r.kept.memory own' al b;
      };
    }
