-- Once a hart has signalled in the run phase of a pass, or left it, its stay there has ended, and shared bytes that
-- it alone may write are what they were at its end.
use Rattle.std.proofs.Common.{◌≡◌, ℕ, suc, ◌+◌, ◌*◌, ◌/◌, ◌<◌, ◌≤◌, List, [], ◌∷◌, Bool, true, false, ◌||◌, ◌&&◌, not}
use Rattle.std.proofs.Common.{◌==◌, Option, None, Some, ◌⊎◌, inl, inr, refl, sym, ap, ◌∙◌, subst, arith, eqb-true}
use Rattle.std.proofs.Common.{eq-eqb, ne_eqb}
use Rattle.std.specs.Prelude.{IsTrue, IfSome, slice_get, slice_index, unwrap_or, if◌then◌else◌}
use Rattle.std.proofs.lemmas.Bool.{cases_eq, cases_lt, cases_Bool, and_parts, or_cases, or_right, false≢true}
use Rattle.std.proofs.lemmas.Bool.{not-true, false_from_ne_true}
use Rattle.std.proofs.lemmas.Option.{slice_get_within}
use Rattle.tm_table.specs.State.{Hart}
use Rattle.tm_plan_cases.specs.declared.program.Program.{Program}
use Rattle.tm_plan_cases.specs.declared.cases.Case.{Case}
use Rattle.tm_plan_cases.specs.declared.cases.Stream.{Stream}
use Rattle.tm_plan_cases.specs.Collected.{is_declared}
use Rattle.tm_base.specs.Lists.{any}
use Rattle.tm_world.specs.Lists.{or_else}
use Rattle.tm_world.specs.Place.{harts, case_count, passes, end_of, exit_of, inside}
use Rattle.tm_world.specs.Run.{Step, now, first_state, pc_of, access_of, phase, in_phase, written, last_write}
use Rattle.tm_world.specs.Writers.{case_of_phase}
use Rattle.tm_plan_cases.specs.Streams.{stream_in}
use Rattle.tm_world.specs.Kinds.{IsOpening, stream_at, flag_writes}
use Rattle.tm_world.specs.Marks.{Mark, Exit, Enter, End, Halt, Stray, comes_to, arrivals, visited}
use Rattle.tm_world.specs.Course.{signals, this_phase}
use Rattle.tm_world.specs.Whole.{first_byte}
use Rattle.tm_world.specs.Verdict.{left_with}
use Rattle.tm_legal.specs.Tame.{Formed}
use Rattle.tm_legal.proofs.Weights.{weight, weight-append, weight-arrivals, met-weight}
use Rattle.tm_legal.proofs.Streams.{inside-parts}
use Rattle.tm_legal.proofs.Order.{stream-some, sum-part, entered as enters-at}
use Rattle.tm_legal.proofs.Phases.{phase-exit, phase-other, in_phase-here, in_phase-there}
use Rattle.tm_stays.proofs.Fronts.{enters, entering, ending}
use Rattle.tm_stays.proofs.Turns.{turned, balance}
use Rattle.tm_stays.proofs.Entries.{entered, entered-more, some-entry, entry-counts, at-exit, leaves-phase, started}
use Rattle.tm_quiet.proofs.Slots.{is_calm, calm-parts}
use Rattle.tm_quiet.proofs.Ways.{Ways, ways-before, outside-spares}
use Rattle.tm_quiet.proofs.Stays.{state, Through, leaves, state-reg, state-byte}
use Rattle.tm_quiet.proofs.Halves.{inside-off, in-stream, entered-least, entered-most}
use Rattle.tm_quiet.proofs.Counts.{flags-most}
use Rattle.tm_meet.proofs.Counts.{signalled}
use Rattle.tm_memory.proofs.Accesses.{still-writes}
use Rattle.tm_meet.proofs.Counts.{this_phase-other}
use Rattle.tm_meet.proofs.Counts.{this_phase-exit}

-- entering one stream is entering
entering-enters : (c : ℕ) (ms : List Mark) → weight (entering c) ms ≤ weight enters ms
entering-enters c [] = omega arith
entering-enters c (Exit ∷ ms) = let r = entering-enters c ms in omega arith
entering-enters c (Halt ∷ ms) = let r = entering-enters c ms in omega arith
entering-enters c (End d ∷ ms) = let r = entering-enters c ms in omega arith
entering-enters c (Stray d ∷ ms) = let r = entering-enters c ms in omega arith
entering-enters c (Enter d ∷ ms) = let r = entering-enters c ms in let b = most (d == c) in omega arith
  where
    most : (t : Bool) → (if t then 1 else 0) ≤ 1
    most true = omega arith
    most false = omega arith

-- coming to the end of a stream counts
end-counts : (p : Program) (h from to c : ℕ) → c < case_count p → comes_to p h (End c) from to ≡ true
    → 1 ≤ weight (ending c) (arrivals p h from to)
end-counts p h from to c l e =
    let met = λ (m : Mark). comes_to p h m from to in
    let a = weight-arrivals (ending c) p h from to (λ d. met-weight (ending c) met (End d)) (λ d. omega arith) in
    let b = sum-part (λ d. met-weight (ending c) met (End d)) (case_count p) 0 c (omega arith) (omega arith) in
    let one : met-weight (ending c) met (End c) ≡ 1 =
    ap (λ (t : Bool). if t then (if c == c then 1 else 0) else 0) e ∙ ap (λ (t : Bool). if t then 1
    else 0) (eq-eqb c c refl) in
    omega arith

module _ (p : Program) (formed : Formed p) (h : ℕ) (number : h < harts p) (c : ℕ) (case : Case)
    (at : slice_get p.cases.cases c ≡ Some case) (stream : Stream) (is : stream_in p.cases c h
    ≡ Some stream) (x : List ℕ) (o : IsOpening h x) (i : ℕ) (of : i / passes p ≡ c) where
  few : c < case_count p
  few = slice_get_within p.cases.cases c case at

  abbrev at-pc : List Step → ℕ
  at-pc own = (now (first_state x) own).pc

  -- the hart has made a step inside the stream in the run phase
  abbrev pub Made : List Step → Type 0
  Made [] = ⊥
  Made (s ∷ past) = ((phase (exit_of p h) past ≡ 2 * i + 1) × (inside p h c (at-pc past) ≡ true)) ⊎ Made past

  -- the stay has ended in a state, and the bytes that no other hart may write are as they were then
  pub record Ended (own : List Step) : Type 0 where
    pub final : ℕ → ℕ
    pub through : Through p formed h number c case at stream is x o final
    pub made : Made own
    pub byte : (b : ℕ) → is_calm p.cases c h b ≡ true
        → unwrap_or (last_write b (in_phase (exit_of p h) (2 * i + 1) own)) (first_byte case.first b) ≡ final b

  -- a step that writes no shared byte in the phase
  kept : (s : Step) (past : List Step) → (phase (exit_of p h) past ≡ 2 * i + 1 → (b : ℕ)
      → IsTrue (is_declared p.cases b) → written (access_of s) b ≡ None) → Ended past → Ended (s ∷ past)
  kept s past quiet e = record {
    final = e.final;
    through = e.through;
    made = inr e.made;
    byte = λ b k. elim (cases_eq (phase (exit_of p h) past) (2 * i + 1)) [
      | inr n ↦ ap (λ (l : List Step). unwrap_or (last_write b l) (first_byte case.first b))
          (in_phase-there (exit_of p h) (2 * i + 1) s past n) ∙ e.byte b k
      | inl run ↦
          ap (λ (l : List Step). unwrap_or (last_write b l) (first_byte case.first b))
          (in_phase-here (exit_of p h) (2 * i + 1) s past run)
          ∙ (ap (λ (z : Option ℕ). unwrap_or (or_else z (last_write b (in_phase (exit_of p h) (2 * i + 1) past)))
          (first_byte case.first b)) (quiet run b (calm-parts p.cases c h b k).0) ∙ e.byte b k)
    ];
  }

  -- inside the stream it is not at the exit mark
  off : (past : List Step) → Ways p h (first_state x) past → inside p h c (at-pc past) ≡ true → (s : Step)
      → Ways p h (first_state x) (s ∷ past) → (pc_of s == exit_of p h) ≡ false
  off past w i' s w' =
      ne_eqb (pc_of s) (exit_of p h) (λ z. inside-off p formed h number x past w.known.half w.order c few i'
      (sym w'.known.path.0.place ∙ z))

  -- a step that leaves the stream
  at-leave : (s : Step) (past : List Step) → Ways p h (first_state x) (s ∷ past) → phase (exit_of p h) (s ∷ past)
      ≡ 2 * i + 1 → inside p h c (at-pc past) ≡ true → inside p h c s.after.pc ≡ false → Ended (s ∷ past)
  at-leave s past w run in' out =
      let before = ways-before p h (first_state x) s past w in
      let same = phase-other (exit_of p h) s past (off past before in' s w) in
      record {
        final = state p formed h number c case at stream is x o (s ∷ past);
        through = leaves p formed h number c case at stream is x o s past w in' out;
        made = inl (sym same ∙ run, in');
        byte = λ b k. ap (λ (q : ℕ). unwrap_or (last_write b (in_phase (exit_of p h) q (s ∷ past)))
            (first_byte case.first b)) (sym run) ∙ sym
            (state-byte p formed h number c case at stream is x o (s ∷ past) b k);
      }

  -- in the run phase the hart is inside its stream, or inside none
  no-other : (own : List Step) → Ways p h (first_state x) own → phase (exit_of p h) own ≡ 2 * i + 1
      → inside p h c (at-pc own) ≡ false → stream_at p h (at-pc own) ≡ None
  no-other own w run out = by (stream_at p h (at-pc own)) refl
    where
      by : (d : Option ℕ) → stream_at p h (at-pc own) ≡ d → stream_at p h (at-pc own) ≡ None
      by None e = e
      by (Some d) e =
          let q = stream-some p h (at-pc own) d e in
          let (j, ph, _, d-of) = in-stream p formed h number x own w.known.half w.order d q.1 q.0 in
          let same : i ≡ j = omega arith in
          let here : d ≡ c = sym d-of ∙ (ap (λ (n : ℕ). n / passes p) (sym same) ∙ of) in
          absurd (false≢true (sym out ∙ (ap (λ (z : ℕ). inside p h z (at-pc own)) (sym here) ∙ q.0)))

  -- outside the stream, once it was entered in the run phase
  behind : (own : List Step) → Ways p h (first_state x) own → phase (exit_of p h) own ≡ 2 * i + 1
      → entered p h (first_state x) own ≡ suc i → inside p h c (at-pc own) ≡ false → Ended own
  behind [] w run en out = absurd (omega arith)
  behind (s ∷ past) w run en out =
      let from = at-pc past in
      let before = ways-before p h (first_state x) s past w in
      let more = entered-more p h (first_state x) past s in
      elim (cases_Bool (inside p h c from)) [
        | inl t ↦ at-leave s past w run t out
        | inr f ↦ elim (some-entry p h from s.after.pc) [
          | inl q ↦
              let d = q.0 in
              let go = started p formed h number from s.after.pc d q.1 q.2 in
              let (j, ph, _, d-of) = in-stream p formed h number x (s ∷ past) w.known.half w.order d q.1 go in
              let same : i ≡ j = omega arith in
              let here : d ≡ c = sym d-of ∙ (ap (λ (n : ℕ). n / passes p) (sym same) ∙ of) in
              absurd (false≢true (sym out ∙ (ap (λ (z : ℕ). inside p h z s.after.pc) (sym here) ∙ go)))
          | inr zero' ↦ elim (cases_Bool (pc_of s == exit_of p h)) [
            | inl e ↦
                let leaving : from ≡ exit_of p h = sym w.known.path.0.place ∙ eqb-true (pc_of s) (exit_of p h) e in
                let ph = phase-exit (exit_of p h) s past e in
                let low = at-exit p formed h number x past before.order leaving in
                let sum = leaves-phase p formed h number x past before.known.half leaving in
                absurd (omega arith)
            | inr e ↦
                let ph = phase-other (exit_of p h) s past e in
                let run' : phase (exit_of p h) past ≡ 2 * i + 1 = omega arith in
                kept s past (λ r b shared. outside-spares p h (first_state x) s past i b w (no-other past before run' f)
                r shared) (behind past before run' (omega arith) f)
          ]
        ]
      ]

  -- in a later phase
  pub after-run : (own : List Step) → Ways p h (first_state x) own → 2 * i + 1 < phase (exit_of p h) own → Ended own
  after-run [] w l = absurd (omega arith)
  after-run (s ∷ past) w l =
      let before = ways-before p h (first_state x) s past w in
      elim (cases_lt (2 * i + 1) (phase (exit_of p h) past)) [
        | inl more ↦ kept s past (λ run b shared. absurd (omega arith)) (after-run past before more)
        | inr less ↦ elim (cases_Bool (pc_of s == exit_of p h)) [
          | inr e ↦ absurd (let ph = phase-other (exit_of p h) s past e in omega arith)
          | inl e ↦
              let z = eqb-true (pc_of s) (exit_of p h) e in
              let leaving : at-pc past ≡ exit_of p h = sym w.known.path.0.place ∙ z in
              let ph = phase-exit (exit_of p h) s past e in
              let run : phase (exit_of p h) past ≡ 2 * i + 1 = omega arith in
              let sum = leaves-phase p formed h number x past before.known.half leaving in
              let t = (turned p formed h number x past before.order).upper in
              let most = entered-most p formed h number x past before.known.half before.order i run in
              let en : entered p h (first_state x) past ≡ suc i = omega arith in
              let out : inside p h c (at-pc past) ≡ false =
              false_from_ne_true (inside p h c (at-pc past))
              (λ y. inside-off p formed h number x past before.known.half before.order c few y leaving) in
              let still = w.barrier.0.still (w.barrier.0.leave z).signalled in
              kept s past (λ r b shared. still-writes p h b (access_of s) still) (behind past before run en out)
        ]
      ]

  -- ---- once it has signalled

  came-end : (own : List Step) → Ways p h (first_state x) own → phase (exit_of p h) own ≡ 2 * i + 1
      → any (λ t. t.after.pc == end_of p h c) (this_phase p h own) ≡ true → (entered p h (first_state x) own ≡ suc i)
      × (inside p h c (at-pc own) ≡ false)
  came-end [] w run e = absurd (false≢true e)
  came-end (s ∷ past) w run e = elim (cases_Bool (pc_of s == exit_of p h)) [
    | inl t ↦ absurd (false≢true (sym (ap (any (λ t. t.after.pc == end_of p h c)) (this_phase-exit p h s past t)) ∙ e))
    | inr t ↦
        let split : ((s.after.pc == end_of p h c) || any (λ t. t.after.pc == end_of p h c) (this_phase p h past))
        ≡ true = sym (ap (any (λ t. t.after.pc == end_of p h c)) (this_phase-other p h s past t)) ∙ e in
        by (sym (phase-other (exit_of p h) s past t) ∙ run)
        (or_cases (s.after.pc == end_of p h c) (any (λ t. t.after.pc == end_of p h c) (this_phase p h past)) split)
        (λ run' y. came-end past (ways-before p h (first_state x) s past w) run' y)
  ]
    where
      before : Ways p h (first_state x) past
      before = ways-before p h (first_state x) s past w

      most : entered p h (first_state x) (s ∷ past) ≤ suc i
      most = entered-most p formed h number x (s ∷ past) w.known.half w.order i run

      -- it comes to the end by this step
      ends-now : phase (exit_of p h) past ≡ 2 * i + 1 → (s.after.pc == end_of p h c) ≡ true
          → suc i ≤ entered p h (first_state x) (s ∷ past)
      ends-now run' y = elim (cases_Bool (inside p h c (at-pc past))) [
        | inl t ↦
            let (j, ph, en, _) = in-stream p formed h number x past before.known.half before.order c few t in
            let more = entered-more p h (first_state x) past s in
            omega arith
        | inr f ↦
            let was = (balance p formed h number x past before.known.half before.order c few).without f in
            let counts = end-counts p h (at-pc past) s.after.pc c few y in
            let a = weight-append (ending c) (visited p h (first_state x) past) (arrivals p h (at-pc past) s.after.pc)
            in
            let b = weight-append (entering c) (visited p h (first_state x) past) (arrivals p h (at-pc past) s.after.pc)
            in
            let least = (turned p formed h number x (s ∷ past) w.order).least c in
            let sub = entering-enters c (arrivals p h (at-pc past) s.after.pc) in
            let more = entered-more p h (first_state x) past s in
            let old = entered-least p formed h number x past before.known.half before.order i run' in
            omega arith
      ]

      by : phase (exit_of p h) past ≡ 2 * i + 1 → ((s.after.pc == end_of p h c) ≡ true)
          ⊎ (any (λ t. t.after.pc == end_of p h c) (this_phase p h past) ≡ true)
          → (phase (exit_of p h) past ≡ 2 * i + 1 → any (λ t. t.after.pc == end_of p h c) (this_phase p h past) ≡ true
          → (entered p h (first_state x) past ≡ suc i) × (inside p h c (at-pc past) ≡ false))
          → (entered p h (first_state x) (s ∷ past) ≡ suc i) × (inside p h c s.after.pc ≡ false)
      by run' (inl y) again =
          let least = ends-now run' y in
          let there = eqb-true s.after.pc (end_of p h c) y in (
            omega (arith, most),
            false_from_ne_true (inside p h c s.after.pc) (λ z. let q = inside-parts p h c s.after.pc z in omega arith),
          )
      by run' (inr y) again =
          let (en, out) = again run' y in
          let more = entered-more p h (first_state x) past s in (
            omega (arith, most),
            false_from_ne_true (inside p h c s.after.pc) (λ z.
                let came = enters-at p h (first_state x) s past c w.known.strays few out z in
                let one = entry-counts p h (at-pc past) s.after.pc c few came in
                omega (arith, most)),
          )

  signalled-end : (own : List Step) → Ways p h (first_state x) own → case_of_phase p (2 * i + 1) ≡ Some c
      → phase (exit_of p h) own ≡ 2 * i + 1 → signalled p h own ≡ true
      → any (λ t. t.after.pc == end_of p h c) (this_phase p h own) ≡ true
  signalled-end [] w run-case run e = absurd (false≢true e)
  signalled-end (s ∷ past) w run-case run e = elim (cases_Bool (pc_of s == exit_of p h)) [
    | inl t ↦ absurd (false≢true (sym (ap (any (signals h)) (this_phase-exit p h s past t)) ∙ e))
    | inr t ↦
        let split : (signals h s || signalled p h past) ≡ true =
        sym (ap (any (signals h)) (this_phase-other p h s past t)) ∙ e in
        ap (any (λ t. t.after.pc == end_of p h c)) (this_phase-other p h s past t)
        ∙ or_right (s.after.pc == end_of p h c) (any (λ t. t.after.pc == end_of p h c) (this_phase p h past))
        (by (sym (phase-other (exit_of p h) s past t) ∙ run) (or_cases (signals h s) (signalled p h past) split)
        (λ run' y. signalled-end past (ways-before p h (first_state x) s past w) run-case run' y))
  ]
    where
      by : phase (exit_of p h) past ≡ 2 * i + 1 → (signals h s ≡ true) ⊎ (signalled p h past ≡ true)
          → (phase (exit_of p h) past ≡ 2 * i + 1 → signalled p h past ≡ true
          → any (λ t. t.after.pc == end_of p h c) (this_phase p h past) ≡ true)
          → any (λ t. t.after.pc == end_of p h c) (this_phase p h past) ≡ true
      by run' (inl y) again =
          subst (λ (z : Option ℕ). IfSome z (λ d. IsTrue (any (λ t. t.after.pc == end_of p h d) (this_phase p h past))))
          (ap (case_of_phase p) run' ∙ run-case) (w.barrier.0.signal y).ended
      by run' (inr y) again = again run' y

  -- Who has written its flag once more than there were phases before the run phase has ended its stay in it.
  pub flags-ended : (own : List Step) → Ways p h (first_state x) own → case_of_phase p (2 * i + 1) ≡ Some c
      → 2 * i + 2 ≤ flag_writes h own → Ended own
  flags-ended own w run-case l = elim (cases_lt (2 * i + 1) (phase (exit_of p h) own)) [
    | inl more ↦ after-run own w more
    | inr less ↦ by (signalled p h own) refl (flags-most p h (first_state x) own w.barrier)
  ]
    where
      by : (t : Bool) → signalled p h own ≡ t → flag_writes h own ≤ phase (exit_of p h) own + (if t then 1 else 0)
          → Ended own
      by false e m = after-run own w (omega arith)
      by true e m = elim (cases_eq (phase (exit_of p h) own) (2 * i + 1)) [
        | inr n ↦ after-run own w (omega arith)
        | inl run ↦ let (en, out) = came-end own w run (signalled-end own w run-case run e) in behind own w run en out
      ]

  -- ---- registers

  -- the state in which it leaves the stream in the run phase
  pub left-through : (own : List Step) → Ways p h (first_state x) own → (u : Hart)
      → left_with p h c (2 * i + 1) (first_state x) own ≡ Some u → (final : ℕ → ℕ)
      × Through p formed h number c case at stream is x o final × ((r : ℕ) → r < 32 → final r ≡ slice_index u.x r)
  left-through [] w u e = cc
  left-through (s ∷ past) w u e = by (left_with p h c (2 * i + 1) (first_state x) past) refl e
      (left-through past (ways-before p h (first_state x) s past w) u)
    where
      test : Bool
      test = (phase (exit_of p h) past == 2 * i + 1) && (inside p h c (at-pc past) && not (inside p h c s.after.pc))

      here : (t : Bool) → test ≡ t → (if t then Some s.after else None) ≡ Some u → (final : ℕ → ℕ)
          × Through p formed h number c case at stream is x o final × ((r : ℕ) → r < 32 → final r ≡ slice_index u.x r)
      here false t f = cc
      here true t f =
          let same : s.after ≡ u = cc in
          let parts = and_parts (inside p h c (at-pc past)) (not (inside p h c s.after.pc))
          (and_parts (phase (exit_of p h) past == 2 * i + 1) _ t).1 in (
            state p formed h number c case at stream is x o (s ∷ past),
            leaves p formed h number c case at stream is x o s past w parts.0
                (not-true (inside p h c s.after.pc) parts.1),
            λ r l. state-reg p formed h number c case at stream is x o (s ∷ past) r l ∙ ap
                (λ (y : Hart). slice_index y.x r) same,
          )

      by : (z : Option Hart) → left_with p h c (2 * i + 1) (first_state x) past ≡ z
          → or_else z (if (phase (exit_of p h) past == 2 * i + 1)
          && (inside p h c (at-pc past) && not (inside p h c s.after.pc)) then Some s.after else None) ≡ Some u
          → (left_with p h c (2 * i + 1) (first_state x) past ≡ Some u → (final : ℕ → ℕ)
          × Through p formed h number c case at stream is x o final
          × ((r : ℕ) → r < 32 → final r ≡ slice_index u.x r))
          → (final : ℕ → ℕ) × Through p formed h number c case at stream is x o final
          × ((r : ℕ) → r < 32 → final r ≡ slice_index u.x r)
      by (Some v) f g later = later (f ∙ g)
      by None f g later = here test refl g
