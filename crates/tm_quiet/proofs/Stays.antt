-- Inside its stream in a run phase a hart walks the stream, from its first registers and the case's first bytes.
use Rattle.std.proofs.Common.{◌≡◌, ◌≢◌, ℕ, ◌+◌, ◌-◌, ◌*◌, ◌/◌, ◌<◌, ◌≤◌, List, [], ◌∷◌, length, Bool, true, false}
use Rattle.std.proofs.Common.{nat_lt, ◌==◌, Option, None, Some, ◌⊎◌, inl, inr, refl, sym, ap, ap₂, ◌∙◌, subst, arith}
use Rattle.std.proofs.Common.{ne_eqb}
use Rattle.std.specs.Prelude.{slice_get, slice_index, unwrap_or, if◌then◌else◌}
use Rattle.std.proofs.lemmas.Bool.{cases_lt, cases_Bool, false≢true, lt-ltb, le-ltb}
use Rattle.std.proofs.lemmas.Option.{slice_get_within}
use Rattle.tm_table.specs.State.{Hart}
use Rattle.tm_table.proofs.Decoding.{word-decoded}
use Rattle.tm_plan_cases.specs.declared.program.Program.{Program}
use Rattle.tm_plan_cases.specs.declared.cases.Case.{Case}
use Rattle.tm_plan_cases.specs.declared.cases.Stream.{Stream}
use Rattle.tm_plan_map.specs.Slots.{instr_of}
use Rattle.tm_world.specs.Place.{harts, case_count, start_of, end_of, exit_of, inside}
use Rattle.tm_world.specs.Run.{Step, now, first_state, pc_of, access_of, phase, in_phase, written, last_write}
use Rattle.tm_plan_cases.specs.Streams.{stream_in}
use Rattle.tm_world.specs.Kinds.{IsOpening}
use Rattle.tm_world.specs.Whole.{first_byte}
use Rattle.tm_world.specs.Slots.{slots_in}
use Rattle.tm_world.specs.Trails.{RaceDependent}
use Rattle.tm_world.proofs.Options.{unwrap_or-or_else}
use Rattle.tm_runs.proofs.Places.{word-place}
use Rattle.tm_runs.proofs.Rows.{word-reach}
use Rattle.tm_legal.specs.Tame.{Formed}
use Rattle.tm_legal.proofs.Streams.{inside-parts}
use Rattle.tm_runs.proofs.Arrivals.{inside-true}
use Rattle.tm_legal.proofs.Inside.{moves, rowed, follows-machine}
use Rattle.tm_legal.proofs.Order.{based}
use Rattle.tm_legal.proofs.Half.{path-machine}
use Rattle.tm_legal.proofs.Phases.{phase-other, in_phase-here}
use Rattle.tm_stays.proofs.Turns.{not-at-exit}
use Rattle.tm_stays.proofs.Alike.{entry, comes-in}
use Rattle.tm_quiet.specs.Walks.{Walk, Walked}
use Rattle.tm_quiet.proofs.Walks.{walks_agree, whole-walk}
use Rattle.tm_quiet.proofs.Slots.{is_calm, forward, declared-high, calm-parts}
use Rattle.tm_quiet.proofs.Effects.{owed_at}
use Rattle.tm_quiet.proofs.Moves.{Move, obeys}
use Rattle.tm_quiet.proofs.Ways.{byte_now, Ways, ways-before, fresh-entry}
use Rattle.tm_legal.proofs.Formed.{formed-sizes}
use Rattle.tm_legal.proofs.Own.{reads-same}

-- registers and bytes as one state: a register goes by its number, a byte by its address
abbrev pub joint : (ℕ → Bool) → (ℕ → ℕ) → (ℕ → ℕ) → ℕ → ℕ
joint test reg byte r = if nat_lt r 32 then reg r else (if test r then byte r else 0)

joint-reg : (test : ℕ → Bool) (reg byte : ℕ → ℕ) (r : ℕ) → r < 32 → joint test reg byte r ≡ reg r
joint-reg test reg byte r l = ap (λ (b : Bool). if b then reg r else (if test r then byte r else 0)) (lt-ltb r 32 l)

joint-byte : (test : ℕ → Bool) (reg byte : ℕ → ℕ) (r : ℕ) → 32 ≤ r → test r ≡ true → joint test reg byte r ≡ byte r
joint-byte test reg byte r l t = ap₂ (λ (a b : Bool). if a then reg r else (if b then byte r else 0)) (le-ltb r 32 l) t

joint-other : (test : ℕ → Bool) (reg byte : ℕ → ℕ) (r : ℕ) → 32 ≤ r → test r ≡ false → joint test reg byte r ≡ 0
joint-other test reg byte r l t = ap₂ (λ (a b : Bool). if a then reg r else (if b then byte r else 0)) (le-ltb r 32 l) t

module _ (p : Program) (formed : Formed p) (h : ℕ) (number : h < harts p) (c : ℕ) (case : Case)
    (at : slice_get p.cases.cases c ≡ Some case) (stream : Stream) (is : stream_in p.cases c h
    ≡ Some stream) (x : List ℕ) (o : IsOpening h x) where
  few : c < case_count p
  few = slice_get_within p.cases.cases c case at

  calm : ℕ → Bool
  calm = is_calm p.cases c h

  -- the state in which a hart is, as its stream sees it
  abbrev pub state : List Step → ℕ → ℕ
  state own = joint (is_calm p.cases c h) (λ r. slice_index (now (first_state x) own).x r) (byte_now p h case own)

  -- the state in which each stay begins
  abbrev pub opened : ℕ → ℕ
  opened = joint (is_calm p.cases c h) (λ r. slice_index (entry p h c stream).x r) (first_byte case.first)

  -- the hart has walked to slot i, since it came in
  pub record Came (own : List Step) (i : ℕ) : Type 0 where
    pub begin : ℕ → ℕ
    pub begins : (r : ℕ) → begin r ≡ opened r
    pub walked : Walked (Move p h c stream) (length stream.words) begin i (state own)
    pub place : (now (first_state x) own).pc ≡ start_of p h c + 4 * i

  -- ---- one step

  module _ (s : Step) (past : List Step) (w : Ways p h (first_state x) (s ∷ past))
      (inside' : inside p h c (now (first_state x) past).pc ≡ true) where
    abbrev hart : Hart
    hart = now (first_state x) past

    not-exit : (own : List Step) → Ways p h (first_state x) own → inside p h c (now (first_state x) own).pc ≡ true
        → (now (first_state x) own).pc ≢ exit_of p h
    not-exit [] v i e = false≢true (sym (formed.laid.outside h c number few) ∙ i)
    not-exit (t ∷ own) v i e = not-at-exit p formed h number x t own v.known.half v.order c few i e

    stays-phase : (pc_of s == exit_of p h) ≡ false
    stays-phase =
        ne_eqb (pc_of s) (exit_of p h) (λ e. not-exit past (ways-before p h (first_state x) s past w) inside'
        (sym w.known.path.0.place ∙ e))

    -- a byte after it
    byte-next : (b : ℕ) → byte_now p h case (s ∷ past) b
        ≡ unwrap_or (written (access_of s) b) (byte_now p h case past b)
    byte-next b =
        ap (λ (q : ℕ). unwrap_or (last_write b (in_phase (exit_of p h) q (s ∷ past))) (first_byte case.first b))
        (phase-other (exit_of p h) s past stays-phase)
        ∙ (ap (λ (l : List Step). unwrap_or (last_write b l) (first_byte case.first b))
        (in_phase-here (exit_of p h) (phase (exit_of p h) past) s past refl)
        ∙ unwrap_or-or_else (written (access_of s) b) (last_write b
        (in_phase (exit_of p h) (phase (exit_of p h) past) past))
        (first_byte case.first b))

    high : (b : ℕ) → is_calm p.cases c h b ≡ true → 32 ≤ b
    high b k = declared-high p.cases b formed.program.cases (calm-parts p.cases c h b k).0

    calm-next : (b : ℕ) → is_calm p.cases c h b ≡ true
        → state (s ∷ past) b ≡ unwrap_or (written (access_of s) b) (state past b)
    calm-next b k =
        joint-byte (is_calm p.cases c h) (λ r. slice_index s.after.x r) (byte_now p h case (s ∷ past)) b (high b k) k
        ∙ (byte-next b ∙ sym (ap (unwrap_or (written (access_of s) b))
        (joint-byte (is_calm p.cases c h) (λ r. slice_index hart.x r) (byte_now p h case past) b (high b k) k)))

    owed-same : (b : ℕ) → owed_at (is_calm p.cases c h) (byte_now p h case past) b
        ≡ owed_at (is_calm p.cases c h) (state past) b
    owed-same b = by (is_calm p.cases c h b) refl
      where
        by : (t : Bool) → is_calm p.cases c h b ≡ t → (if t then Some (byte_now p h case past b) else None)
            ≡ (if t then Some (state past b) else None)
        by false e = refl
        by true e = ap Some (sym (joint-byte (is_calm p.cases c h) (λ r. slice_index (now (first_state x) past).x r)
            (byte_now p h case past) b (high b e) e))

    pub goes-on : (i : ℕ) → hart.pc ≡ start_of p h c + 4 * i → (next : ℕ)
        × Move p h c stream i (state past) (state (s ∷ past)) next × (s.after.pc ≡ start_of p h c + 4 * next)
    unfolding instr_of
    goes-on i place =
        let before = ways-before p h (first_state x) s past w in
        let f = w.known.path.0 in
        let machine = path-machine p h x o past before.known.path in
        let bases = based p formed h number x past before.known.half before.known.strays before.known.fresh c few
        inside' in
        let m = moves p formed h c stream number is hart s machine bases inside' f in
        let at' = m.slot.at in
        let even = m.slot.aligned in
        let on = m.onward in
        let word = word-place p hart.pc s.event.word (formed-sizes formed) f.word in (
          (s.after.pc - start_of p h c) / 4,
          record {
            hart = hart;
            step = s;
            slot = m.slot;
            number = omega arith;
            rowed = rowed p h hart s m.slot.instr machine f m.slot.is;
            fits = (word-decoded s.event.word m.slot.instr word.2 m.slot.is).0;
            reach = (word-reach s.event.word m.slot.instr word.2 m.slot.is).0;
            machine = machine;
            made = follows-machine p h hart s machine f;
            based = bases;
            shape = f.shape;
            covered = m.covered;
            lands = omega (arith, on.from, on.aligned, even);
            from = λ r l. joint-reg (is_calm p.cases c h) (λ q. slice_index hart.x q) (byte_now p h case past) r l;
            to = λ r l. joint-reg (is_calm p.cases c h) (λ q. slice_index s.after.x q) (byte_now p h case (s ∷ past)) r
                l;
            calm = calm-next;
            others = λ b l k. joint-other (is_calm p.cases c h) (λ q. slice_index s.after.x q)
                (byte_now p h case (s ∷ past)) b l k ∙ sym
                (joint-other (is_calm p.cases c h) (λ q. slice_index hart.x q) (byte_now p h case past) b l k);
            reads = reads-same (owed_at (is_calm p.cases c h) (byte_now p h case past))
                (owed_at (is_calm p.cases c h) (state past)) (access_of s) owed-same (w.calm.0 c case at inside');
          },
          omega (arith, on.from, on.aligned, even),
        )

    slot-few : (i : ℕ) → hart.pc ≡ start_of p h c + 4 * i → i < length stream.words
    slot-few i place =
        let long = formed.laid.long h c stream number is in
        let q = inside-parts p h c hart.pc inside' in
        omega arith

    -- and where it comes to
    lands-in : (start_of p h c ≤ s.after.pc) × (s.after.pc ≤ end_of p h c)
    lands-in =
        let before = ways-before p h (first_state x) s past w in
        let m = moves p formed h c stream number is hart s (path-machine p h x o past before.known.path)
        (based p formed h number x past before.known.half before.known.strays before.known.fresh c few inside')
        inside' w.known.path.0 in
        (m.onward.from, m.onward.most)

    pub step-came : (i : ℕ) × Came past i → (i : ℕ) × Came (s ∷ past) i
    step-came (i, b) =
        let (next, m, lands) = goes-on i b.place in (
          next,
          record {
            begin = b.begin;
            begins = b.begins;
            walked = Walked.went i next (state past) (state (s ∷ past)) b.walked (slot-few i b.place) m;
            place =
                lands;
          },
        )

  -- ---- coming in

  fresh-came : (s : Step) (past : List Step) → Ways p h (first_state x) (s ∷ past)
      → inside p h c (now (first_state x) past).pc ≡ false → inside p h c s.after.pc ≡ true → Came (s ∷ past) 0
  fresh-came s past w out in' =
      let e = comes-in p formed h c stream is x o s past w.known out in' in
      record {
        begin = state (s ∷ past);
        begins = λ r. by r (cases_lt r 32);
        walked = Walked.begins;
        place = ap (λ (y : Hart). y.pc) e ∙ (let z : start_of p h c ≡ start_of p h c + 4 * 0 = omega arith in z);
      }
    where
      by : (r : ℕ) → (r < 32) ⊎ (32 ≤ r) → state (s ∷ past) r ≡ opened r
      by r (inl l) =
          let e = comes-in p formed h c stream is x o s past w.known out in' in
          joint-reg (is_calm p.cases c h) (λ q. slice_index s.after.x q) (byte_now p h case (s ∷ past)) r l
          ∙ (ap (λ (y : Hart). slice_index y.x r) e ∙ sym
          (joint-reg (is_calm p.cases c h) (λ q. slice_index (entry p h c stream).x q) (first_byte case.first) r l))
      by r (inr l) = elim (cases_Bool (is_calm p.cases c h r)) [
        | inl k ↦
            let none = fresh-entry p formed h number x s past w c few out in' r (calm-parts p.cases c h r k).0 in
            joint-byte (is_calm p.cases c h) (λ q. slice_index s.after.x q) (byte_now p h case (s ∷ past)) r l k
            ∙ (ap (λ (z : Option ℕ). unwrap_or z (first_byte case.first r)) none ∙ sym
            (joint-byte (is_calm p.cases c h) (λ q. slice_index (entry p h c stream).x q) (first_byte case.first) r
            l k))
        | inr k ↦
            joint-other (is_calm p.cases c h) (λ q. slice_index s.after.x q) (byte_now p h case (s ∷ past)) r l k
            ∙ sym (joint-other (is_calm p.cases c h) (λ q. slice_index (entry p h c stream).x q) (first_byte case.first)
            r l k)
      ]

  -- Inside the stream the hart has walked to its slot.
  pub inside-came : (own : List Step) → Ways p h (first_state x) own → inside p h c (now (first_state x) own).pc ≡ true
      → (i : ℕ) × Came own i
  inside-came [] w i = absurd (false≢true (sym (formed.laid.outside h c number few) ∙ i))
  inside-came (s ∷ past) w i =
      by (inside p h c (now (first_state x) past).pc) refl (inside-came past (ways-before p h (first_state x) s past w))
    where
      by : (t : Bool) → inside p h c (now (first_state x) past).pc ≡ t
          → (inside p h c (now (first_state x) past).pc ≡ true → (i : ℕ) × Came past i) → (i : ℕ) × Came (s ∷ past) i
      by true t before = step-came s past w t (before t)
      by false t before = (0, fresh-came s past w t i)

  -- ---- leaving

  -- a stay that ended in the state final
  pub record Through (final : ℕ → ℕ) : Type 0 where
    pub begin : ℕ → ℕ
    pub begins : (r : ℕ) → begin r ≡ opened r
    pub walk : Walk (Move p h c stream) (length stream.words) 0 begin final

  pub leaves : (s : Step) (past : List Step) → Ways p h (first_state x) (s ∷ past)
      → inside p h c (now (first_state x) past).pc ≡ true → inside p h c s.after.pc ≡ false → Through (state (s ∷ past))
  leaves s past w in' out =
      let (i, came) = step-came s past w in' (inside-came past (ways-before p h (first_state x) s past w) in') in
      let lands = lands-in s past w in' in
      let long = formed.laid.long h c stream number is in
      let place = came.place in
      let last : i ≡ length stream.words = elim (cases_lt s.after.pc (end_of p h c)) [
        | inl l ↦ absurd (false≢true (sym out ∙ inside-true p h c s.after.pc lands.0 l))
        | inr l ↦ omega arith
      ] in
      record {
        begin = came.begin;
        begins = came.begins;
        walk = whole-walk (Move p h c stream) (length stream.words) came.begin (state (s ∷ past))
            (subst (λ (n : ℕ). Walked (Move p h c stream) (length stream.words) came.begin n (state (s ∷ past))) last
            came.walked);
      }

  -- two stays agree on what isn't race-dependent
  pub stays-agree : (final final' : ℕ → ℕ) → Through final → Through final' → (r : ℕ)
      → (RaceDependent (slots_in p.cases c h) r (length stream.words) → ⊥) → final r ≡ final' r
  stays-agree final final' t t' r calm' =
      by (walks_agree (slots_in p.cases c h) (Move p h c stream) (obeys p formed h c stream is)
      (forward p.cases c h stream formed.program.cases is) (length stream.words) t.begin t'.begin final final'
      (λ q. t.begins q ∙ sym (t'.begins q)) t.walk t'.walk r)
    where
      by : (final r ≡ final' r) ⊎ RaceDependent (slots_in p.cases c h) r (length stream.words) → final r ≡ final' r
      by (inl e) = e
      by (inr d) = absurd (calm' d)

  -- ---- registers

  pub state-reg : (own : List Step) (r : ℕ) → r < 32 → state own r ≡ slice_index (now (first_state x) own).x r
  state-reg own r l = joint-reg (is_calm p.cases c h) (λ q. slice_index (now (first_state x) own).x q)
      (byte_now p h case own) r l

  pub state-byte : (own : List Step) (b : ℕ) → is_calm p.cases c h b ≡ true → state own b ≡ byte_now p h case own b
  state-byte own b k = joint-byte (is_calm p.cases c h) (λ q. slice_index (now (first_state x) own).x q)
      (byte_now p h case own) b (declared-high p.cases b formed.program.cases (calm-parts p.cases c h b k).0) k
