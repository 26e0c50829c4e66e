-- A hart that isn't at halt has a next step on each half run, inside its streams too.
use Rattle.std.proofs.Common.{◌≡◌, ◌≢◌, ℕ, ◌+◌, ◌-◌, ◌*◌, ◌/◌, ◌%◌, ◌<◌, ◌≤◌, List, [], ◌∷◌, length, true, ◌==◌, not}
use Rattle.std.proofs.Common.{Option, None, Some, refl, sym, ap, ◌∙◌, subst, arith, eqb-true, get_or}
use Rattle.std.specs.Prelude.{slice_index}
use Rattle.std.proofs.lemmas.Bool.{false≢true, and_parts, ltb-true}
use Rattle.std.proofs.lemmas.Option.{slice_get-get_or}
use Rattle.std.proofs.lemmas.List.Elements.{All-contains}
use Rattle.tm_table.specs.State.{Hart}
use Rattle.tm_table.specs.Words.{low}
use Rattle.tm_table.specs.Row.{Effect, Gives, Loads, Stores, Branches, Jumps, effect_at, row, after}
use Rattle.tm_table.proofs.Signs.{low-lt}
use Rattle.tm_plan_cases.specs.declared.program.Program.{Program}
use Rattle.tm_plan_cases.specs.declared.cases.Stream.{Stream}
use Rattle.tm_plan_map.specs.Map.{guest_base, guest_end, text_base, windows_base, windows_size}
use Rattle.tm_plan_map.specs.Slots.{load_width, store_width, is_access, slot_addr}
use Rattle.tm_plan_cases.specs.Shaped.{IsShapedWindow}
use Rattle.tm_world.specs.Place.{harts, case_count, start_of, halt_of, inside, is_window, word_at}
use Rattle.tm_world.specs.Run.{Step, own, now, first_state}
use Rattle.tm_world.specs.Kinds.{IsOpening, IsReachable, IsPossible, HalfPath, HalfStep, stream_at}
use Rattle.tm_world.specs.Course.{KeepsOrder, EntersFresh}
use Rattle.tm_world.specs.Work.{HasNext, GoesOn}
use Rattle.tm_world.proofs.Streams.{shaped-stream, stream-of}
use Rattle.tm_plan_map.proofs.Within.{within-true}
use Rattle.tm_plan_map.proofs.Within.{within-parts}
use Rattle.tm_legal.specs.Tame.{Formed}
use Rattle.tm_legal.proofs.Rows.{IsOfKind, of-kind}
use Rattle.tm_legal.proofs.Streams.{inside-parts, word-aligned, Slot, slot-at, IsBased}
use Rattle.tm_legal.proofs.Streams.{declared-window}
use Rattle.tm_legal.proofs.Inside.{address}
use Rattle.tm_legal.proofs.Order.{NoStray, order-no_stray, stream-none, stream-some, entered, based}
use Rattle.tm_legal.proofs.Half.{legal-runs}
use Rattle.tm_memory.specs.Laws.{NoneStuck, AllUnstuck}
use Rattle.tm_memory.proofs.Meets.{tame}
use Rattle.tm_memory.proofs.Memory.{memory-half}
use Rattle.tm_memory.proofs.Faults.{faulted-half}
use Rattle.tm_memory.proofs.PlainMemory.{plain-half}
use Rattle.tm_memory.proofs.Machines.{half-machine}
use Rattle.tm_runs.proofs.Rows.{decoded-row}

-- ---- a row's access can be made

window-reach : (addr width : ℕ) → 1 ≤ width → is_window addr ≡ true → is_window (addr + (width - 1)) ≡ true
    → (guest_base ≤ addr) × (addr + width ≤ guest_end)
unfolding guest_base guest_end windows_base windows_size
window-reach addr width some a b =
    let p = within-parts windows_base windows_size addr a in
    let q = within-parts windows_base windows_size (addr + (width - 1)) b in
    (omega (arith, p), omega (arith, q))

module _ (p : Program) (formed : Formed p) (h c : ℕ) (stream : Stream) (hart : Hart) (w : ℕ)
    (slot : Slot p h c stream hart.pc w) (bases : IsBased hart) where
  reach : (addr width : ℕ) → addr ≡ slot_addr slot.instr → width ≡ load_width slot.instr.op + store_width slot.instr.op
      → is_access slot.instr.op ≡ true → IsReachable addr width
  reach addr width at wide e =
      let placed = slot.shaped.place e in
      let (v, among, number, lines) = placed.declared in
      let some : 0 < load_width slot.instr.op + store_width slot.instr.op = ltb-true _ _ e in
      let shaped = All-contains (IsShapedWindow p.cases.line) p.cases.windows v formed.program.cases.windows among in
      let lies : (j : ℕ) → j < width → is_window (addr + j) ≡ true =
      λ j l. declared-window p.cases.line (addr + j) v shaped
      (lines (addr + j) (within-true (slot_addr slot.instr) (load_width slot.instr.op + store_width slot.instr.op)
      (addr + j) (omega arith) (omega arith))) in
      let first : is_window addr ≡ true = subst (λ (b : ℕ). is_window b ≡ true) (let z : addr + 0
      ≡ addr = omega arith in z) (lies 0 (omega arith)) in
      let bounds = window-reach addr width (omega arith) first (lies (width - 1) (omega arith)) in
      let aligned : addr % width ≡ 0 = subst (λ (n : ℕ). addr % n ≡ 0) (sym wide)
      (subst (λ (n : ℕ). n % (load_width slot.instr.op + store_width slot.instr.op) ≡ 0) (sym at) placed.aligned) in
      (aligned, bounds.0, bounds.1)

  possible : (e : Effect) (read : ℕ) → IsOfKind slot.instr.op hart.pc (slice_index hart.x slot.instr.rs1)
      (low 64 slot.instr.imm) e → IsPossible (after e hart slot.instr.rd (low 64 slot.instr.imm) read).1
  unfolding after
  possible (Gives value) read k = tt
  possible (Branches taken) read k = tt
  possible (Jumps link goes) read k = tt
  possible (Loads addr width with_sign) read k =
      reach addr width (k.0 ∙ address p formed h c stream hart w slot bases k.3) (omega (arith, k.1, k.2)) k.3
  possible (Stores addr width value) read k = reach addr width (k.0 ∙ address p formed h c stream hart w slot bases k.3)
      (omega (arith, k.1, k.2)) k.3

-- ---- a hart inside a stream

module _ (p : Program) (formed : Formed p) (h : ℕ) (number : h < harts p) (x : List ℕ) (o : IsOpening h x) where
  start-aligned : (c : ℕ) → c < case_count p → start_of p h c % 4 ≡ 0
  start-aligned c few =
      let (stream, is) = stream-of p.cases c h formed.program.cases few number in
      let some = (shaped-stream p.cases c h stream formed.program.cases is).some in
      let even : (start_of p h c + 4 * 0) % 4 ≡ 0 =
      word-aligned p _ _ (formed.laid.words h c 0 stream number is some ∙ slice_get-get_or stream.words 0 0 some) in
      omega arith

  aligned : (own : List Step) → HalfPath p h (first_state x) own → NoStray p h (first_state x) own → (c : ℕ)
      → stream_at p h (now (first_state x) own).pc ≡ Some c → (now (first_state x) own).pc % 4 ≡ 0
  aligned [] path strays c e = let q = stream-some p h text_base c e in
      absurd (false≢true (sym (formed.laid.outside h c number q.1) ∙ q.0))
  aligned (s ∷ past) path strays c e = by (stream_at p h (now (first_state x) past).pc) refl path.0
    where
      by : (d : Option ℕ) → stream_at p h (now (first_state x) past).pc ≡ d
          → HalfStep p h d (now (first_state x) past) past s → s.after.pc % 4 ≡ 0
      by (Some d) f step = step.aligned
      by None f step =
          let q = stream-some p h s.after.pc c e in
          let came = entered p h (first_state x) s past c strays q.1
          (stream-none p h (now (first_state x) past).pc c f q.1) q.0 in
          let start : s.after.pc ≡ start_of p h c =
          eqb-true s.after.pc (start_of p h c)
          (and_parts (s.after.pc == start_of p h c) (not (inside p h c (now (first_state x) past).pc)) came).0 in
          subst (λ (n : ℕ). n % 4 ≡ 0) (sym start) (start-aligned c q.1)

  inside-next : (own : List Step) → HalfPath p h (first_state x) own → NoStray p h (first_state x) own
      → EntersFresh p h (first_state x) own → (c : ℕ) → stream_at p h (now (first_state x) own).pc ≡ Some c
      → HasNext p (now (first_state x) own)
  unfolding row
  inside-next own path strays fresh c e =
      let hart = now (first_state x) own in
      let (i, few) = stream-some p h hart.pc c e in
      let (stream, is) = stream-of p.cases c h formed.program.cases few number in
      let bounds = inside-parts p h c hart.pc i in
      let long = formed.laid.long h c stream number is in
      let even = start-aligned c few in
      let four = aligned own path strays c e in
      let n = (hart.pc - start_of p h c) / 4 in
      let place : hart.pc ≡ start_of p h c + 4 * n = omega arith in
      let short : n < length stream.words = omega arith in
      let w = get_or stream.words n 0 in
      let at-word : word_at p hart.pc ≡ Some w =
      ap (word_at p) place ∙ (formed.laid.words h c n stream number is short ∙ slice_get-get_or stream.words n 0
      short) in
      let slot = slot-at p formed h c stream number is hart.pc w i at-word in
      let m = half-machine p h x o own path in
      let bases = based p formed h number x own path strays fresh c few i in
      let kind = of-kind slot.instr.op hart.pc (slice_index hart.x slot.instr.rs1) (slice_index hart.x slot.instr.rs2)
      (low 64 slot.instr.imm) (m.fits slot.instr.rs1) (m.fits slot.instr.rs2) (low-lt 64 slot.instr.imm) in (
        w,
        at-word,
        λ read. (
          (row hart slot.instr read).0,
          (row hart slot.instr read).1,
          decoded-row hart w read slot.instr slot.is,
          possible p formed h c stream hart w slot bases (effect_at hart slot.instr) read kind,
        ),
      )

  any-next : (own : List Step) → HalfPath p h (first_state x) own → KeepsOrder p h (first_state x) own
      → EntersFresh p h (first_state x) own → GoesOn p h (first_state x) own
      → (now (first_state x) own).pc ≢ halt_of p h → HasNext p (now (first_state x) own)
  any-next own path order fresh goes n = by (stream_at p h (now (first_state x) own).pc) refl
    where
      by : (c : Option ℕ) → stream_at p h (now (first_state x) own).pc ≡ c → HasNext p (now (first_state x) own)
      by None e = goes e n
      by (Some c) e = inside-next own path (order-no_stray p h (first_state x) own order) fresh c e

pub none-stuck : (p : Program) → NoneStuck p
none-stuck p formed h l order fresh goes r half =
    any-next p formed h l (r.opening h) (half.opening h l) (own h r.steps) (half.each h l) (order r half) (fresh r half)
    (goes r half)

pub all-unstuck : (p : Program) → AllUnstuck p
all-unstuck p m goes = record {
  legal = λ r legal h l. none-stuck p m.formed h l (m.each h l).order (m.each h l).fresh (goes h l) r
      (legal-runs p m.formed (tame p m) r legal);
  plain = λ r plain h l. none-stuck p m.formed h l (m.each h l).order (m.each h l).fresh (goes h l) r
      (plain-half p m r plain);
  memory = λ r memory h l. none-stuck p m.formed h l (m.each h l).order (m.each h l).fresh (goes h l) r
      (memory-half p m.formed (λ g k. (m.each g k).writes) r memory);
  faulted = λ change small r faulted h l. none-stuck p m.formed h l (m.each h l).order (m.each h l).fresh (goes h l) r
      (faulted-half p m change small r faulted);
}
