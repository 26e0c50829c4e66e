-- A run that faults have changed is a run of one memory: a changed step of a stream is still free, reads the windows,
-- and goes forward.
use Rattle.std.proofs.Common.{◌≡◌, ℕ, ◌+◌, ◌^◌, ◌<◌, List, [], ◌∷◌, length, Bool, true, false, ◌&&◌, ◌==◌, Option}
use Rattle.std.proofs.Common.{None, Some, refl, sym, ap, ◌∙◌, subst, arith}
use Rattle.std.specs.Prelude.{IsTrue, slice_index, bit_xor, if◌then◌else◌}
use Rattle.std.proofs.lemmas.Nat.{xor_lt}
use Rattle.std.proofs.lemmas.Bool.{and_parts}
use Rattle.tm_table.specs.declared.instr.Op.{Op}
use Rattle.tm_table.specs.declared.instr.Op.TheVariants.{Jal}
use Rattle.tm_table.specs.declared.instr.Instr.{Instr}
use Rattle.tm_table.specs.declared.state.Access.{Access}
use Rattle.tm_table.specs.declared.state.Access.TheVariants.{Quiet, Read, Write}
use Rattle.tm_table.specs.State.{Hart}
use Rattle.tm_table.specs.Words.{low}
use Rattle.tm_table.specs.Row.{put, word64}
use Rattle.tm_plan_cases.specs.declared.program.Program.{Program}
use Rattle.tm_plan_cases.specs.declared.cases.Stream.{Stream}
use Rattle.tm_plan_map.specs.Slots.{is_branch, is_jump, slot_target}
use Rattle.tm_world.specs.Place.{harts, exit_of, start_of, end_of, is_window}
use Rattle.tm_world.specs.Run.{Step, own, hart_of, access_of, now, first_state, phase, Writes}
use Rattle.tm_world.specs.Kinds.{Half, stream_at, plain_owed}
use Rattle.tm_world.specs.Course.{KeepsOrder, EntersFresh}
use Rattle.tm_world.proofs.Prefix.{earlier}
use Rattle.tm_world.proofs.Streams.{stream-of}
use Rattle.tm_legal.specs.Tame.{Formed}
use Rattle.tm_legal.proofs.Rows.{put-zero, put-other, put-length, put-fits}
use Rattle.tm_legal.proofs.Streams.{Slot, Onward, next, goes-on}
use Rattle.tm_legal.proofs.Inside.{Moves, moves}
use Rattle.tm_legal.proofs.Order.{order-no_stray, based, stream-some}
use Rattle.tm_memory.specs.Meet.{AllMeet}
use Rattle.tm_memory.specs.Memory.{ReadsOf, MemoryStep, OneMemory}
use Rattle.tm_world.specs.Faulted.{Change, access_by, pc_by, state_by, Changed, FaultedStep, Faulted}
use Rattle.tm_memory.specs.Laws.{FaultedIsMemory, FaultedIsHalf}
use Rattle.tm_memory.proofs.Machines.{half-machine}
use Rattle.tm_memory.proofs.Memory.{memory-half}
use Rattle.tm_memory.proofs.PlainMemory.{move-loads}

-- ---- a changed access

writes-by : (P : ℕ → Type 0) (ch : Change) (a : Access) → Writes P a → Writes P (access_by ch a)
writes-by P ch Quiet w = tt
writes-by P ch (Read addr width value) w = tt
writes-by P ch (Write addr width value) w = by ch.drops
  where
    by : (b : Bool) → Writes P (if b then Quiet else Write addr width (bit_xor value ch.stored))
    by true = tt
    by false = w

reads-by : (P : ℕ → Type 0) (ch : Change) (a : Access) → ReadsOf P a → ReadsOf P (access_by ch a)
reads-by P ch Quiet w = tt
reads-by P ch (Read addr width value) w = w
reads-by P ch (Write addr width value) w = by ch.drops
  where
    by : (b : Bool) → ReadsOf P (if b then Quiet else Write addr width (bit_xor value ch.stored))
    by true = tt
    by false = tt

-- ---- a turned branch

branch-jumps : (op : Op) → is_branch op ≡ true → is_jump op ≡ true
branch-jumps Jal e = refl
branch-jumps op e = e

module _ (p : Program) (h c : ℕ) (stream : Stream) (from w : ℕ) (slot : Slot p h c stream from w) where
  abbrev Lands : ℕ → Type 0
  Lands to = Onward from (start_of p h c) (end_of p h c) to

  by-next : Lands (word64 (from + 4))
  by-next = subst (λ (z : ℕ). Onward from (start_of p h c) z (word64 (from + 4))) (sym slot.long)
      (next (start_of p h c) (length stream.words) slot.number from slot.at slot.aligned slot.near slot.few)

  by-jump : is_jump slot.instr.op ≡ true → Lands (word64 (from + low 64 slot.instr.imm))
  unfolding slot_target
  by-jump j =
      let t = slot.shaped.target j in
      subst (λ (z : ℕ). Onward from (start_of p h c) z (word64 (from + low 64 slot.instr.imm))) (sym slot.long)
      (goes-on (start_of p h c) (length stream.words) slot.number from (low 64 slot.instr.imm) slot.at slot.aligned
      slot.near t.0 t.1 t.2)

  lands-by : (ch : Change) (to : ℕ) → Lands to → Lands (pc_by ch slot.instr from to)
  lands-by ch to l = by (ch.turns && is_branch slot.instr.op) refl
    where
      other : (b : Bool) → is_jump slot.instr.op ≡ true
          → Lands (if b then word64 (from + low 64 slot.instr.imm) else word64 (from + 4))
      other true j = by-jump j
      other false j = by-next

      by : (b : Bool) → (ch.turns && is_branch slot.instr.op) ≡ b
          → Lands (if b then (if to == word64 (from + 4) then word64 (from + low 64 slot.instr.imm)
          else word64 (from + 4)) else to)
      by true e = other (to == word64 (from + 4)) (branch-jumps slot.instr.op
          (and_parts ch.turns (is_branch slot.instr.op) e).1)
      by false e = l

-- ---- a changed step

module _ (p : Program) (formed : Formed p) (h c : ℕ) (stream : Stream) (before : Hart) (past : List Step) (s : Step)
    (ch : Change) (small : ch.result < 2 ^ 64) (f : Changed p h ch (plain_owed p past) before s)
    (m : Moves p h c stream before f.clean) (loads : ReadsOf (λ b. IsTrue (is_window b)) (access_of f.clean)) where
  state-is : s.after ≡ state_by ch m.slot.instr before f.clean.after
  state-is = let i = f.is in let j = m.slot.is in let same : f.instr ≡ m.slot.instr = cc in
      f.state ∙ ap (λ (k : Instr). state_by ch k before f.clean.after) same

  on : Onward before.pc (start_of p h c) (end_of p h c) s.after.pc
  on = subst (λ (z : ℕ). Onward before.pc (start_of p h c) (end_of p h c) z) (sym (ap (λ (z : Hart). z.pc) state-is))
      (lands-by p h c stream before.pc f.clean.event.word m.slot ch f.clean.after.pc m.onward)

  changed-step : MemoryStep p h (Some c) before past s
  changed-step =
      let i = m.slot.instr in
      let x = f.clean.after.x in
      let v = bit_xor (slice_index x i.rd) ch.result in
      let regs : s.after.x ≡ put x i.rd v = ap (λ (z : Hart). z.x) state-is in
      let o = on in (
        record {
          place = f.place ∙ f.follows.place;
          shape = f.shape;
          stores = subst (Writes (λ b. IsTrue (is_window b))) (sym f.access)
              (writes-by (λ b. IsTrue (is_window b)) ch (access_of f.clean) m.free.stores);
          count = ap length regs ∙ (put-length x i.rd v ∙ m.free.count);
          fits = λ r. subst (λ (z : List ℕ). slice_index z r < 2 ^ 64) (sym regs)
              (put-fits x i.rd v m.free.fits (xor_lt 64 (slice_index x i.rd) ch.result (m.free.fits i.rd) small) r);
          zero = ap (λ (z : List ℕ). slice_index z 0) regs ∙ (put-zero x i.rd v ∙ m.free.zero);
          bases = λ r l. ap (λ (z : List ℕ). slice_index z r) regs ∙
              (put-other x i.rd v r (λ e. omega (arith, m.slot.shaped.result)) ∙ m.free.bases r l);
          aligned = o.aligned;
          lands = (o.from, o.most);
          counter = omega (arith, o.most, m.slot.near, m.slot.long);
        },
        subst (ReadsOf (λ b. IsTrue (is_window b))) (sym f.access)
            (reads-by (λ b. IsTrue (is_window b)) ch (access_of f.clean) loads),
        o.least,
      )

-- ---- the whole run

module _ (p : Program) (m : AllMeet p) (change : ℕ → ℕ → ℕ → Change) (small : (h q pc : ℕ)
    → (change h q pc).result < 2 ^ 64) (o : ℕ → List ℕ) where
  inside-step : (h : ℕ) → h < harts p → (past : List Step) → Half p (earlier o past) → (s : Step) (ch : Change)
      → ch.result < 2 ^ 64 → (c : ℕ) → stream_at p h (now (first_state (o h)) (own h past)).pc ≡ Some c
      → Changed p h ch (plain_owed p past) (now (first_state (o h)) (own h past)) s
      → MemoryStep p h (Some c) (now (first_state (o h)) (own h past)) past s
  inside-step h l past half s ch less c e f =
      let x = o h in
      let before = now (first_state x) (own h past) in
      let path = half.each h l in
      let order : KeepsOrder p h (first_state x) (own h past) = (m.each h l).order (earlier o past) half in
      let fresh : EntersFresh p h (first_state x) (own h past) = (m.each h l).fresh (earlier o past) half in
      let machine = half-machine p h x (half.opening h l) (own h past) path in
      let (i, few) = stream-some p h before.pc c e in
      let (stream, is) = stream-of p.cases c h m.formed.program.cases few l in
      let bases = based p m.formed h l x (own h past) path (order-no_stray p h (first_state x) (own h past) order) fresh
      c few i in
      let mv = moves p m.formed h c stream l is before f.clean machine bases i f.follows in
      changed-step p m.formed h c stream before past s ch less f mv
      (move-loads p m.formed h c stream before f.clean machine bases f.follows mv)

  one-more : (s : Step) (past : List Step) → hart_of s < harts p → Half p (earlier o past) → (c : Option ℕ)
      → stream_at p (hart_of s) (now (first_state (o (hart_of s))) (own (hart_of s) past)).pc ≡ c
      → FaultedStep p (hart_of s) (change (hart_of s) (phase (exit_of p (hart_of s)) (own (hart_of s) past))
      (now (first_state (o (hart_of s))) (own (hart_of s) past)).pc) c
      (now (first_state (o (hart_of s))) (own (hart_of s) past)) past s
      → MemoryStep p (hart_of s) c (now (first_state (o (hart_of s))) (own (hart_of s) past)) past s
  one-more s past l half None e f = f
  one-more s past l half (Some c) e f =
      inside-step (hart_of s) l past half s (change (hart_of s) (phase (exit_of p (hart_of s)) (own (hart_of s) past))
      (now (first_state (o (hart_of s))) (own (hart_of s) past)).pc) (small (hart_of s) _ _) c e f

  all-memory : (steps : List Step) → Faulted p change (earlier o steps) → OneMemory p (earlier o steps)
  all-memory [] r = record { opening = r.opening; only = tt; steps = tt }
  all-memory (s ∷ past) r =
      let before = all-memory past (record { opening = r.opening; only = r.only.1; steps = r.steps.1 }) in
      let half = memory-half p m.formed (λ h l. (m.each h l).writes) (earlier o past) before in
      record {
        opening = r.opening;
        only = r.only;
        steps = (
          one-more s past r.only.0 half (stream_at p (hart_of s)
              (now (first_state (o (hart_of s))) (own (hart_of s) past)).pc) refl r.steps.0,
          before.steps,
        );
      }

pub faulted-memory : (p : Program) → FaultedIsMemory p
faulted-memory p m change small r faulted = all-memory p m change small r.opening r.steps faulted

pub faulted-half : (p : Program) → FaultedIsHalf p
faulted-half p m change small r faulted =
    memory-half p m.formed (λ h l. (m.each h l).writes) r (faulted-memory p m change small r faulted)
