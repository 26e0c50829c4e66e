-- What is known of one hart's own steps on a legal run, and which of them leave a shared byte as it is.
use Rattle.std.proofs.Common.{◌≡◌, ℕ, ◌+◌, ◌*◌, ◌%◌, ◌<◌, List, [], ◌∷◌, true, false, ◌==◌, Option, None, Some, inl}
use Rattle.std.proofs.Common.{inr, refl, sym, ap, ◌∙◌, subst, arith}
use Rattle.std.specs.Prelude.{IsTrue, IsFalse, slice_get, unwrap_or}
use Rattle.std.proofs.lemmas.Bool.{cases_Bool, true≢false}
use Rattle.tm_table.specs.State.{Hart}
use Rattle.tm_plan_cases.specs.declared.program.Program.{Program}
use Rattle.tm_plan_cases.specs.declared.cases.Case.{Case}
use Rattle.tm_plan_cases.specs.Collected.{is_declared}
use Rattle.tm_world.specs.Lists.{or_else}
use Rattle.tm_world.specs.Place.{harts, case_count, exit_of, inside}
use Rattle.tm_world.specs.Run.{Step, Always, now, first_state, pc_of, access_of, phase, in_phase, written, last_write}
use Rattle.tm_world.specs.Run.{Reads}
use Rattle.tm_world.specs.Writers.{may_write}
use Rattle.tm_world.specs.Kinds.{stream_at}
use Rattle.tm_world.specs.Course.{KeepsOrder, KeepsWrites, KeepsBarrier, OutsideWrites}
use Rattle.tm_world.specs.Whole.{first_byte}
use Rattle.tm_legal.specs.Tame.{Formed}
use Rattle.tm_legal.proofs.Order.{stream-some, entered as enters-at}
use Rattle.tm_legal.proofs.Phases.{phase-exit, phase-other, in_phase-here, in_phase-there, in_phase-above}
use Rattle.tm_legal.proofs.Half.{Known, known-before, written-none}
use Rattle.tm_stays.proofs.Turns.{order-before}
use Rattle.tm_stays.proofs.Entries.{entered, entered-more, entry-counts}
use Rattle.tm_quiet.proofs.Halves.{in-stream, entered-least}
use Rattle.tm_quiet.proofs.Slots.{is_calm}
use Rattle.tm_quiet.proofs.Effects.{owed_at}

-- what hart h finds at b where no other hart may write it: what it wrote last in this phase, else the case's first byte
abbrev pub byte_now : Program → ℕ → Case → List Step → ℕ → ℕ
byte_now p h case own b = unwrap_or (last_write b (in_phase (exit_of p h) (phase (exit_of p h) own) own))
    (first_byte case.first b)

-- Inside a stream of a case the hart reads bytes so that no other hart may write.
abbrev pub CalmReads : Program → ℕ → Hart → List Step → Type 0
CalmReads p h first = Always (λ past s. (c : ℕ) (case : Case) → slice_get p.cases.cases c ≡ Some case
    → inside p h c (now first past).pc ≡ true
    → Reads (owed_at (is_calm p.cases c h) (byte_now p h case past)) (access_of s))

-- hart h's own steps on a legal run
pub record Ways (p : Program) (h : ℕ) (first : Hart) (own : List Step) : Type 0 where
  pub known : Known p h first own
  pub order : KeepsOrder p h first own
  pub writes : KeepsWrites p h first own
  pub barrier : KeepsBarrier p h first own
  pub calm : CalmReads p h first own

pub ways-before : (p : Program) (h : ℕ) (first : Hart) (s : Step) (past : List Step) → Ways p h first (s ∷ past)
    → Ways p h first past
ways-before p h first s past w = record {
  known = known-before p h first s past w.known;
  order = order-before p h first s past w.order;
  writes = w.writes.1;
  barrier = w.barrier.1;
  calm = w.calm.1;
}

-- outside streams in a run phase no shared byte is written
pub outside-spares : (p : Program) (h : ℕ) (first : Hart) (s : Step) (past : List Step) (i b : ℕ)
    → Ways p h first (s ∷ past) → stream_at p h (now first past).pc ≡ None → phase (exit_of p h) past ≡ 2 * i + 1
    → IsTrue (is_declared p.cases b) → written (access_of s) b ≡ None
outside-spares p h first s past i b w out run shared =
    let q = phase (exit_of p h) past in
    let mine : OutsideWrites p h None q s = subst (λ (o : Option ℕ). OutsideWrites p h o q s) out w.writes.0 in
    written-none (λ c. IsTrue (may_write p q h c) × (q % 2 ≡ 1 → IsFalse (is_declared p.cases c))) (access_of s) b mine
    (λ z. true≢false (sym shared ∙ z.1 (omega arith)))

module _ (p : Program) (formed : Formed p) (h : ℕ) (number : h < harts p) (x : List ℕ) where
  -- before it enters its stream in a run phase it is in no stream
  no-stream : (past : List Step) → Ways p h (first_state x) past → (i : ℕ) → phase (exit_of p h) past ≡ 2 * i + 1
      → entered p h (first_state x) past ≡ i → stream_at p h (now (first_state x) past).pc ≡ None
  no-stream past w i run en = by (stream_at p h (now (first_state x) past).pc) refl
    where
      by : (d : Option ℕ) → stream_at p h (now (first_state x) past).pc ≡ d
          → stream_at p h (now (first_state x) past).pc ≡ None
      by None e = e
      by (Some d) e =
          let q = stream-some p h (now (first_state x) past).pc d e in
          let (j, ph, n, _) = in-stream p formed h number x past w.known.half w.order d q.1 q.0 in
          absurd (omega arith)

  -- and has written no shared byte in it
  pub fresh-phase : (own : List Step) → Ways p h (first_state x) own → (i b : ℕ) → IsTrue (is_declared p.cases b)
      → phase (exit_of p h) own ≡ 2 * i + 1 → entered p h (first_state x) own ≡ i
      → last_write b (in_phase (exit_of p h) (2 * i + 1) own) ≡ None
  fresh-phase [] w i b shared run en = refl
  fresh-phase (s ∷ past) w i b shared run en =
      let before = ways-before p h (first_state x) s past w in
      elim (cases_Bool (pc_of s == exit_of p h)) [
        | inl e ↦
            let ph = phase-exit (exit_of p h) s past e in
            ap (last_write b) (in_phase-there (exit_of p h) (2 * i + 1) s past (λ z. omega arith) ∙ in_phase-above
            (exit_of p h) (2 * i + 1) past (omega arith))
        | inr e ↦
            let same : phase (exit_of p h) past ≡ 2 * i + 1 = sym (phase-other (exit_of p h) s past e) ∙ run in
            let least = entered-least p formed h number x past before.known.half before.order i same in
            let more = entered-more p h (first_state x) past s in
            let en' : entered p h (first_state x) past ≡ i = omega arith in
            let none = outside-spares p h (first_state x) s past i b w (no-stream past before i same en') same shared in
            ap (last_write b) (in_phase-here (exit_of p h) (2 * i + 1) s past same) ∙
            (ap (λ (o : Option ℕ). or_else o (last_write b (in_phase (exit_of p h) (2 * i + 1) past))) none ∙
            fresh-phase past before i b shared same en')
      ]

  -- where it comes into a stream, it has written no shared byte in the phase
  pub fresh-entry : (s : Step) (past : List Step) → Ways p h (first_state x) (s ∷ past) → (d : ℕ) → d < case_count p
      → inside p h d (now (first_state x) past).pc ≡ false → inside p h d s.after.pc ≡ true → (b : ℕ)
      → IsTrue (is_declared p.cases b)
      → last_write b (in_phase (exit_of p h) (phase (exit_of p h) (s ∷ past)) (s ∷ past)) ≡ None
  fresh-entry s past w d few out in' b shared =
      let before = ways-before p h (first_state x) s past w in
      let (i, run, en, _) = in-stream p formed h number x (s ∷ past) w.known.half w.order d few in' in
      let came = enters-at p h (first_state x) s past d w.known.strays few out in' in
      let one = entry-counts p h (now (first_state x) past).pc s.after.pc d few came in
      let more = entered-more p h (first_state x) past s in
      subst (λ (q : ℕ). last_write b (in_phase (exit_of p h) q (s ∷ past)) ≡ None) (sym run)
      (elim (cases_Bool (pc_of s == exit_of p h)) [
        | inl e ↦
            let ph = phase-exit (exit_of p h) s past e in
            ap (last_write b) (in_phase-there (exit_of p h) (2 * i + 1) s past (λ z. omega arith) ∙ in_phase-above
            (exit_of p h) (2 * i + 1) past (omega arith))
        | inr e ↦
            let same : phase (exit_of p h) past ≡ 2 * i + 1 = sym (phase-other (exit_of p h) s past e) ∙ run in
            let least = entered-least p formed h number x past before.known.half before.order i same in
            let en' : entered p h (first_state x) past ≡ i = omega arith in
            let none = outside-spares p h (first_state x) s past i b w (no-stream past before i same en') same shared in
            ap (last_write b) (in_phase-here (exit_of p h) (2 * i + 1) s past same) ∙
            (ap (λ (o : Option ℕ). or_else o (last_write b (in_phase (exit_of p h) (2 * i + 1) past))) none ∙
            fresh-phase past before i b shared same en')
      ])
