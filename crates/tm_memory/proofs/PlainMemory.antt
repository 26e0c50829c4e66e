-- Each plain run of tame harts is a run of one memory: inside streams its steps are as free as on half runs, and load
-- from the windows alone.
use Rattle.std.proofs.Common.{◌≡◌, ℕ, ◌+◌, ◌<◌, List, [], ◌∷◌, Option, None, Some, refl, ap, subst}
use Rattle.std.specs.Prelude.{IsTrue, slice_index}
use Rattle.tm_table.specs.declared.state.Access.{Access}
use Rattle.tm_table.specs.State.{Hart}
use Rattle.tm_table.specs.Words.{low}
use Rattle.tm_table.specs.Row.{Effect, Gives, Loads, Stores, Branches, Jumps, after}
use Rattle.tm_plan_cases.specs.declared.program.Program.{Program}
use Rattle.tm_plan_cases.specs.declared.cases.Stream.{Stream}
use Rattle.tm_world.specs.Place.{harts, is_window}
use Rattle.tm_world.specs.Run.{Step, own, hart_of, access_of, now, first_state, read_value}
use Rattle.tm_world.specs.Kinds.{Path, Follows, Half, Plain, stream_at}
use Rattle.tm_world.proofs.Prefix.{earlier, Plain-earlier}
use Rattle.tm_legal.specs.Tame.{Formed}
use Rattle.tm_legal.proofs.Own.{own-here}
use Rattle.tm_legal.proofs.Rows.{IsMachine, IsOfKind}
use Rattle.tm_legal.proofs.Streams.{Slot, IsBased}
use Rattle.tm_legal.proofs.Inside.{rowed, loads-shared, Moves}
use Rattle.tm_legal.proofs.Order.{order-no_stray, based, stream-some}
use Rattle.tm_legal.proofs.Half.{Known, known-moves, path-machine}
use Rattle.tm_memory.specs.Meet.{AllMeet}
use Rattle.tm_memory.specs.Memory.{ReadsOf, MemoryStep, OneMemory}
use Rattle.tm_memory.specs.Laws.{PlainIsMemory, PlainIsHalf}
use Rattle.tm_memory.proofs.Owners.{shared-window}
use Rattle.tm_memory.proofs.Meets.{tame}
use Rattle.tm_memory.proofs.Memory.{memory-half}

-- ---- loads inside streams

module _ (p : Program) (formed : Formed p) (h c : ℕ) (stream : Stream) (hart : Hart) (w : ℕ)
    (slot : Slot p h c stream hart.pc w) (bases : IsBased hart) where
  loads : (e : Effect) (read : ℕ) → IsOfKind slot.instr.op hart.pc (slice_index hart.x slot.instr.rs1)
      (low 64 slot.instr.imm) e
      → ReadsOf (λ b. IsTrue (is_window b)) (after e hart slot.instr.rd (low 64 slot.instr.imm) read).1
  unfolding after
  loads (Gives value) read k = tt
  loads (Stores addr width value) read k = tt
  loads (Branches taken) read k = tt
  loads (Jumps link goes) read k = tt
  loads (Loads addr width with_sign) read k = λ j l.
      shared-window p (addr + j) formed (loads-shared p formed h c stream hart w slot bases addr width with_sign k j l)

pub move-loads : (p : Program) → Formed p → (h c : ℕ) (stream : Stream) (hart : Hart) (s : Step) → IsMachine hart
    → IsBased hart → Follows p h hart s → Moves p h c stream hart s → ReadsOf (λ b. IsTrue (is_window b)) (access_of s)
move-loads p formed h c stream hart s machine bases f m =
    let r = rowed p h hart s m.slot.instr machine f m.slot.is in
    subst (ReadsOf (λ b. IsTrue (is_window b))) (ap (λ (q : Hart × Access). q.1) r.result)
    (loads p formed h c stream hart s.event.word m.slot bases r.effects (read_value (access_of s)) r.kind)

-- ---- the whole run

module _ (p : Program) (m : AllMeet p) (o : ℕ → List ℕ) where
  half-known : (h : ℕ) → h < harts p → (past : List Step) → Half p (earlier o past)
      → Path p h (first_state (o h)) (own h past) → Known p h (first_state (o h)) (own h past)
  half-known h l past half path =
      let t = tame p m h l in
      record {
        half = half.each h l;
        path = path;
        strays = order-no_stray p h (first_state (o h)) (own h past) (t.order (earlier o past) half);
        fresh = t.fresh (earlier o past) half;
        spares = t.spares (earlier o past) half;
      }

  plain-step : (s : Step) (past : List Step) → Plain p (earlier o (s ∷ past)) → Half p (earlier o past)
      → MemoryStep p (hart_of s) (stream_at p (hart_of s) (now (first_state (o (hart_of s))) (own (hart_of s) past)).pc)
      (now (first_state (o (hart_of s))) (own (hart_of s) past)) past s
  plain-step s past plain half =
      by (stream_at p (hart_of s) (now (first_state (o (hart_of s))) (own (hart_of s) past)).pc) refl
    where
      path : Path p (hart_of s) (first_state (o (hart_of s))) (s ∷ own (hart_of s) past)
      path = subst (Path p (hart_of s) (first_state (o (hart_of s)))) (own-here (hart_of s) s past refl)
          (plain.paths.each (hart_of s) plain.paths.only.0)

      by : (c : Option ℕ) → stream_at p (hart_of s) (now (first_state (o (hart_of s))) (own (hart_of s) past)).pc ≡ c
          → MemoryStep p (hart_of s) c (now (first_state (o (hart_of s))) (own (hart_of s) past)) past s
      by None e = (path.0, plain.reads.0)
      by (Some c) e =
          let l = plain.paths.only.0 in
          let x = o (hart_of s) in
          let opens = plain.paths.opening (hart_of s) l in
          let k = half-known (hart_of s) l past half path.1 in
          let (i, few) = stream-some p (hart_of s) (now (first_state x) (own (hart_of s) past)).pc c e in
          let bases = based p m.formed (hart_of s) l x (own (hart_of s) past) k.half k.strays k.fresh c few i in
          let (stream, is, moves) = known-moves p m.formed (hart_of s) l x opens (own (hart_of s) past) k s path.0 c e
          in (
            moves.free,
            move-loads p m.formed (hart_of s) c stream (now (first_state x) (own (hart_of s) past)) s
                (path-machine p (hart_of s) x opens (own (hart_of s) past) k.path) bases path.0 moves,
            moves.onward.least,
          )

  all-memory : (steps : List Step) → Plain p (earlier o steps) → OneMemory p (earlier o steps)
  all-memory [] plain = record { opening = plain.paths.opening; only = tt; steps = tt }
  all-memory (s ∷ past) plain =
      let before = all-memory past (Plain-earlier p o (s ∷ []) past plain) in
      let half = memory-half p m.formed (λ h l. (m.each h l).writes) (earlier o past) before in
      record {
        opening = plain.paths.opening;
        only = plain.paths.only;
        steps = (plain-step s past plain half, before.steps);
      }

pub plain-memory : (p : Program) → PlainIsMemory p
plain-memory p m r plain = all-memory p m r.opening r.steps plain

pub plain-half : (p : Program) → PlainIsHalf p
plain-half p m r plain = memory-half p m.formed (λ h l. (m.each h l).writes) r (plain-memory p m r plain)
