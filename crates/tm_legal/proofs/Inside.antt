-- A legal step inside a stream writes bytes of the windows alone, leaves x0 and x28 to x31, and goes forward, at most
-- to the end.
use Rattle.std.proofs.Common.{◌≡◌, ℕ, ◌+◌, ◌-◌, ◌*◌, ◌<◌, length, Bool, true, false, Some, refl, sym, ap, ◌∙◌, subst}
use Rattle.std.proofs.Common.{arith}
use Rattle.std.specs.Prelude.{IsTrue, slice_index, if◌then◌else◌}
use Rattle.std.proofs.lemmas.List.Elements.{All-contains}
use Rattle.tm_table.specs.declared.instr.Instr.{Instr}
use Rattle.tm_table.specs.declared.state.Access.{Access}
use Rattle.tm_table.specs.declared.state.Access.TheVariants.{Quiet, Read, Write}
use Rattle.tm_table.specs.State.{Hart}
use Rattle.tm_table.specs.Words.{low}
use Rattle.tm_table.proofs.Signs.{low-lt}
use Rattle.tm_table.specs.Row.{Effect, Gives, Loads, Stores, Branches, Jumps, effect, word64, row, after}
use Rattle.tm_table.proofs.Signs.{low-lt}
use Rattle.tm_plan_cases.specs.declared.program.Program.{Program}
use Rattle.tm_plan_cases.specs.declared.cases.Stream.{Stream}
use Rattle.tm_plan_map.specs.Map.{window_at, within}
use Rattle.tm_plan_map.specs.Slots.{instr_of, load_width, store_width, is_access, is_jump, slot_addr, slot_target}
use Rattle.tm_plan_map.specs.Slots.{stores_to}
use Rattle.tm_plan_cases.specs.Collected.{is_declared}
use Rattle.tm_plan_cases.specs.Shaped.{IsShapedWindow}
use Rattle.tm_world.specs.Place.{harts, start_of, end_of, inside, is_window}
use Rattle.tm_world.specs.Run.{Step, access_of, HasShape, Writes, read_value}
use Rattle.tm_plan_cases.specs.Streams.{stream_in}
use Rattle.tm_world.specs.Kinds.{Follows, Free}
use Rattle.tm_runs.proofs.Rows.{row-decoded}
use Rattle.tm_plan_map.proofs.Within.{within-true}
use Rattle.tm_legal.specs.Tame.{Formed}
use Rattle.tm_legal.proofs.Rows.{IsOfKind, of-kind, IsMachine, after-machine, after-others}
use Rattle.tm_legal.proofs.Streams.{Slot, slot-at, IsBased, Onward, next, goes-on, declared-window, window-declared}

-- a row's step, with the effect by its op's kind
pub record Rowed (hart : Hart) (s : Step) (i : Instr) : Type 0 where
  pub effects : Effect
  pub is : effect i.op hart.pc (slice_index hart.x i.rs1) (slice_index hart.x i.rs2) (low 64 i.imm) ≡ effects
  pub kind : IsOfKind i.op hart.pc (slice_index hart.x i.rs1) (low 64 i.imm) effects
  pub result : after effects hart i.rd (low 64 i.imm) (read_value (access_of s)) ≡ (s.after, access_of s)

pub rowed : (p : Program) (h : ℕ) (hart : Hart) (s : Step) (i : Instr) → IsMachine hart → Follows p h hart s
    → instr_of s.event.word ≡ Some i → Rowed hart s i
unfolding row
rowed p h hart s i m f is =
    let (j, js, eq) = row-decoded hart s.event.word (read_value (access_of s)) s.after (access_of s) f.row in
    let same : j ≡ i = cc in
    let e = effect i.op hart.pc (slice_index hart.x i.rs1) (slice_index hart.x i.rs2) (low 64 i.imm) in
    record {
      effects = e;
      is = refl;
      kind = of-kind i.op hart.pc (slice_index hart.x i.rs1) (slice_index hart.x i.rs2) (low 64 i.imm) (m.fits i.rs1)
          (m.fits i.rs2) (low-lt 64 i.imm);
      result = subst (λ (k : Instr). row hart k (read_value (access_of s)) ≡ (s.after, access_of s)) same eq;
    }

-- Each step by the table leaves a machine state.
pub follows-machine : (p : Program) (h : ℕ) (hart : Hart) (s : Step) → IsMachine hart → Follows p h hart s
    → IsMachine s.after
follows-machine p h hart s m f =
    let (i, is, eq) = row-decoded hart s.event.word (read_value (access_of s)) s.after (access_of s) f.row in
    let r = rowed p h hart s i m f is in
    let access = ap (λ (q : Hart × Access). q.1) r.result in
    subst IsMachine (ap (λ (q : Hart × Access). q.0) r.result)
    (after-machine i.op hart.pc (slice_index hart.x i.rs1) r.effects hart i.rd (low 64 i.imm) (read_value (access_of s))
    r.kind m (subst HasShape (sym access) f.shape))

-- b is a shared byte that the instruction stores to
pub record IsCovered (p : Program) (i : Instr) (b : ℕ) : Type 0 where
  pub store : IsTrue (stores_to b i)
  pub declared : IsTrue (is_declared p.cases b)
  pub window : IsTrue (is_window b)

pub writes-map : (P Q : ℕ → Type 0) (a : Access) → ((b : ℕ) → P b → Q b) → Writes P a → Writes Q a
writes-map P Q Quiet f w = tt
writes-map P Q (Read addr width value) f w = tt
writes-map P Q (Write addr width value) f w = λ i l. f (addr + i) (w i l)

module _ (p : Program) (formed : Formed p) (h c : ℕ) (stream : Stream) (hart : Hart) (w : ℕ)
    (slot : Slot p h c stream hart.pc w) where
  abbrev Lands : ℕ → Type 0
  Lands to = Onward hart.pc (start_of p h c) (start_of p h c + 4 * length stream.words) to

  by-next : Lands (word64 (hart.pc + 4))
  by-next = next (start_of p h c) (length stream.words) slot.number hart.pc slot.at slot.aligned slot.near slot.few

  by-jump : is_jump slot.instr.op ≡ true → Lands (word64 (hart.pc + low 64 slot.instr.imm))
  unfolding slot_target
  by-jump j =
      let t = slot.shaped.target j in
      goes-on (start_of p h c) (length stream.words) slot.number hart.pc (low 64 slot.instr.imm) slot.at slot.aligned
      slot.near t.0 t.1 t.2

  lands : (e : Effect) (a read : ℕ) → IsOfKind slot.instr.op hart.pc a (low 64 slot.instr.imm) e
      → Lands (after e hart slot.instr.rd (low 64 slot.instr.imm) read).0.pc
  unfolding after
  lands (Gives value) a read k = by-next
  lands (Loads addr width with_sign) a read k = by-next
  lands (Stores addr width value) a read k = by-next
  lands (Branches taken) a read k = by taken k
    where
      by : (b : Bool) → (b ≡ true → is_jump slot.instr.op ≡ true)
          → Lands (if b then word64 (hart.pc + low 64 slot.instr.imm) else word64 (hart.pc + 4))
      by true j = by-jump (j refl)
      by false j = by-next
  lands (Jumps link goes) a read k = let q = k.2 slot.shaped.allowed in subst Lands (sym q.1) (by-jump q.0)

  -- the address of an access is that of its slot
  pub address : IsBased hart → is_access slot.instr.op ≡ true
      → word64 (slice_index hart.x slot.instr.rs1 + low 64 slot.instr.imm) ≡ slot_addr slot.instr
  unfolding slot_addr
  address based e =
      let placed = slot.shaped.place e in
      let r = slot.instr.rs1 in
      let sum : 28 + (r - 28) ≡ r = omega (arith, placed.base) in
      let base : slice_index hart.x r ≡ window_at (r - 28) =
      ap (λ (k : ℕ). slice_index hart.x k) (sym sum) ∙ based (r - 28) (omega (arith, placed.base)) in
      ap (λ (b : ℕ). word64 (b + low 64 slot.instr.imm)) base

  covers : IsBased hart → (e : Effect) (read : ℕ) → IsOfKind slot.instr.op hart.pc (slice_index hart.x slot.instr.rs1)
      (low 64 slot.instr.imm) e
      → Writes (IsCovered p slot.instr) (after e hart slot.instr.rd (low 64 slot.instr.imm) read).1
  unfolding after stores_to
  covers based (Gives value) read k = tt
  covers based (Loads addr width with_sign) read k = tt
  covers based (Branches taken) read k = tt
  covers based (Jumps link goes) read k = tt
  covers based (Stores addr width value) read k = λ j l.
      let placed = slot.shaped.place k.3 in
      let (v, among, number, lines) = placed.declared in
      let at : addr ≡ slot_addr slot.instr = k.0 ∙ address based k.3 in
      let b = addr + j in
      let mine : within (slot_addr slot.instr) (store_width slot.instr.op) b ≡ true =
      within-true (slot_addr slot.instr) (store_width slot.instr.op) b (omega (arith, at)) (omega (arith, at, k.1))
      in
      let both : within (slot_addr slot.instr) (load_width slot.instr.op + store_width slot.instr.op) b ≡ true =
      within-true (slot_addr slot.instr) (load_width slot.instr.op + store_width slot.instr.op) b
      (omega (arith, at)) (omega (arith, at, k.1)) in
      record {
        store = mine;
        declared = window-declared p.cases b v among (lines b both);
        window = declared-window p.cases.line b v (All-contains (IsShapedWindow p.cases.line) p.cases.windows v
            formed.program.cases.windows among) (lines b both);
      }

  -- the bytes of a load are shared bytes
  pub loads-shared : IsBased hart → (addr width : ℕ) (with_sign : Bool)
      → IsOfKind slot.instr.op hart.pc (slice_index hart.x slot.instr.rs1) (low 64 slot.instr.imm)
      (Loads addr width with_sign) → (j : ℕ) → j < width → IsTrue (is_declared p.cases (addr + j))
  loads-shared based addr width with_sign k j l =
      let placed = slot.shaped.place k.3 in
      let (v, among, number, lines) = placed.declared in
      let at : addr ≡ slot_addr slot.instr = k.0 ∙ address based k.3 in
      window-declared p.cases (addr + j) v among (lines (addr + j)
      (within-true (slot_addr slot.instr) (load_width slot.instr.op + store_width slot.instr.op) (addr + j)
      (omega (arith, at)) (omega (arith, at, k.1))))

-- what a legal step inside stream (h, c) is
pub record Moves (p : Program) (h c : ℕ) (stream : Stream) (hart : Hart) (s : Step) : Type 0 where
  pub free : Free p h c hart s
  pub onward : Onward hart.pc (start_of p h c) (end_of p h c) s.after.pc
  -- the slot that it makes, and the bytes that it stores to
  pub slot : Slot p h c stream hart.pc s.event.word
  pub covered : Writes (IsCovered p slot.instr) (access_of s)

pub moves : (p : Program) → Formed p → (h c : ℕ) (stream : Stream) → h < harts p → stream_in p.cases c h ≡ Some stream
    → (hart : Hart) (s : Step) → IsMachine hart → IsBased hart → inside p h c hart.pc ≡ true → Follows p h hart s
    → Moves p h c stream hart s
moves p formed h c stream l e hart s m based i f =
    let slot = slot-at p formed h c stream l e hart.pc s.event.word i f.word in
    let r = rowed p h hart s slot.instr m f slot.is in
    let machine = follows-machine p h hart s m f in
    let hart-is = ap (λ (q : Hart × Access). q.0) r.result in
    let access-is = ap (λ (q : Hart × Access). q.1) r.result in
    let n = low 64 slot.instr.imm in
    let read = read_value (access_of s) in
    let on : Onward hart.pc (start_of p h c) (end_of p h c) s.after.pc =
    subst (λ (x : Hart). Onward hart.pc (start_of p h c) (end_of p h c) x.pc) hart-is
    (subst (λ (z : ℕ). Onward hart.pc (start_of p h c) z (after r.effects hart slot.instr.rd n read).0.pc)
    (sym slot.long)
    (lands p formed h c stream hart s.event.word slot r.effects (slice_index hart.x slot.instr.rs1) read r.kind)) in
    let covered : Writes (IsCovered p slot.instr) (access_of s) =
    subst (Writes (IsCovered p slot.instr)) access-is
    (covers p formed h c stream hart s.event.word slot based r.effects read r.kind) in
    record {
      free = record {
        place = f.place;
        shape = f.shape;
        stores = writes-map (IsCovered p slot.instr) (λ b. IsTrue (is_window b)) (access_of s) (λ b q. q.window)
            covered;
        count = machine.count;
        fits = machine.fits;
        zero = machine.zero ∙ sym m.zero;
        bases = λ k g. sym (ap (λ (x : Hart). slice_index x.x k) hart-is) ∙ after-others r.effects hart slot.instr.rd n
            read k (λ z. omega (arith, slot.shaped.result));
        aligned = on.aligned;
        lands = (on.from, on.most);
        counter = machine.counter;
      };
      onward = on;
      slot = slot;
      covered = covered;
    }
