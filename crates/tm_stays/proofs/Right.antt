-- On legal runs each write covers bytes that its hart may write, inside streams too.
use Rattle.std.proofs.Common.{◌≡◌, ℕ, zero, suc, ◌*◌, ◌/◌, ◌%◌, ◌<◌, List, [], ◌∷◌, Bool, true, false, ◌&&◌, nat_lt}
use Rattle.std.proofs.Common.{◌==◌, Option, None, Some, refl, ap, ◌∙◌, subst, arith, eqb-true, ne_eqb}
use Rattle.std.specs.Prelude.{IsTrue, IsFalse, slice_get, if◌then◌else◌}
use Rattle.std.proofs.lemmas.Bool.{and_parts, and_from, or_left, or_right}
use Rattle.tm_table.specs.declared.instr.Instr.{Instr}
use Rattle.tm_plan_cases.specs.declared.program.Program.{Program}
use Rattle.tm_plan_cases.specs.declared.cases.Stream.{Stream}
use Rattle.tm_plan_map.specs.Slots.{instr_of, stores_to}
use Rattle.tm_plan_cases.specs.Collected.{is_declared, collector}
use Rattle.tm_base.specs.Lists.{any}
use Rattle.tm_world.specs.Place.{harts, case_count, passes, is_flag, is_verdict, is_private, is_window}
use Rattle.tm_world.specs.Run.{Step, own, now, first_state, hart_of, access_of, Writes}
use Rattle.tm_world.specs.Writers.{is_store_to, some_store_to, may_store, case_of_phase, may_write}
use Rattle.tm_plan_cases.specs.Streams.{stream_in}
use Rattle.tm_world.specs.Writers.{may_write_running, may_write_window}
use Rattle.tm_world.specs.Kinds.{Legal, Path, phase_of, stream_at}
use Rattle.tm_world.specs.Course.{OnHalf, KeepsOrder, KeepsWrites, OutsideWrites}
use Rattle.tm_world.specs.Whole.{WritesRight}
use Rattle.tm_world.proofs.Prefix.{earlier, Legal-earlier}
use Rattle.tm_legal.specs.Tame.{Formed, Tame}
use Rattle.tm_legal.proofs.Own.{own-here}
use Rattle.tm_legal.proofs.Inside.{IsCovered, writes-map}
use Rattle.tm_legal.proofs.Half.{known-moves, legal-known, on-legal}
use Rattle.tm_stays.specs.Laws.{LegalWritesAreRight}
use Rattle.tm_stays.proofs.Turns.{in-phase}

-- ---- a slot that stores to a byte may write it

any-get : (test : ℕ → Bool) (ws : List ℕ) (n w : ℕ) → slice_get ws n ≡ Some w → test w ≡ true → any test ws ≡ true
any-get test [] n w e t = cc
any-get test (v ∷ ws) zero w e t = let same : v ≡ w = cc in or_left (test v) (any test ws) (ap test same ∙ t)
any-get test (v ∷ ws) (suc n) w e t = or_right (test v) (any test ws) (any-get test ws n w e t)

store-word : (b w : ℕ) (i : Instr) → instr_of w ≡ Some i → stores_to b i ≡ true → is_store_to b w ≡ true
store-word b w i e t = rw e t

pub slot-stores : (p : Program) (c h b n w : ℕ) (stream : Stream) (i : Instr) → stream_in p.cases c h ≡ Some stream
    → slice_get stream.words n ≡ Some w → instr_of w ≡ Some i → stores_to b i ≡ true → may_store p.cases c h b ≡ true
slot-stores p c h b n w stream i e f g t = ap (some_store_to b) e ∙ any-get (is_store_to b) stream.words n w f
    (store-word b w i g t)

-- a run phase is odd
pub run-odd : (p : Program) (q c : ℕ) → case_of_phase p q ≡ Some c → (q % 2 == 0) ≡ false
run-odd p q c e = by ((q % 2 == 1) && nat_lt (q / 2) (case_count p * passes p)) refl e
  where
    by : (b : Bool) → ((q % 2 == 1) && nat_lt (q / 2) (case_count p * passes p)) ≡ b
        → (if b then Some (q / 2 / passes p) else None) ≡ Some c → (q % 2 == 0) ≡ false
    by false t f = cc
    by true t f = let odd = eqb-true (q % 2) 1 (and_parts (q % 2 == 1) _ t).0 in ne_eqb (q % 2) 0 (λ z. omega arith)

covered-right : (p : Program) (h q c n w : ℕ) (stream : Stream) (i : Instr) → stream_in p.cases c h ≡ Some stream
    → slice_get stream.words n ≡ Some w → instr_of w ≡ Some i → case_of_phase p q ≡ Some c → (b : ℕ) → IsCovered p i b
    → IsTrue (may_write p q h b)
covered-right p h q c n w stream i e f g run b k =
    let running : may_write_running p (case_of_phase p q) h b ≡ true =
    ap (λ (o : Option ℕ). may_write_running p o h b) run ∙ and_from (is_declared p.cases b)
    (may_store p.cases c h b) k.declared (slot-stores p c h b n w stream i e f g k.store) in
    let window : may_write_window p q h b ≡ true =
    ap (λ (t : Bool). if t then collector p.cases b == h else may_write_running p (case_of_phase p q) h b)
    (run-odd p q c run) ∙ running in
    or_right (is_flag h b) _ (or_right (is_verdict p h b) _
    (or_right (is_private h b) _ (and_from (is_window b) (may_write_window p q h b) k.window window)))

-- ---- a step of a legal run

module _ (p : Program) (formed : Formed p) (tame : (h : ℕ) → h < harts p → Tame p h) (writes : (h : ℕ) → h < harts p
    → OnHalf p h (KeepsWrites p h)) (o : ℕ → List ℕ) where
  -- inside a stream
  inside-right : (h : ℕ) → h < harts p → (past : List Step) (s : Step) → Legal p (earlier o past) → hart_of s ≡ h
      → Legal p (earlier o (s ∷ past)) → (c : ℕ) → stream_at p h (now (first_state (o h)) (own h past)).pc ≡ Some c
      → Writes (λ b. IsTrue (may_write p (phase_of p past h) h b)) (access_of s)
  inside-right h number past s before is legal c e =
      let k = legal-known p formed h number (tame h number) o before.paths.opening past before in
      let path : Path p h (first_state (o h)) (s ∷ own h past) =
      subst (Path p h (first_state (o h))) (own-here h s past is) (legal.paths.each h number) in
      let (stream, among, m) = known-moves p formed h number (o h) (before.paths.opening h number) (own h past) k s
      path.0 c e in
      let order = on-legal p formed h number (tame h number) (KeepsOrder p h) (tame h number).order (earlier o past)
      before in
      let run = in-phase p formed h number (o h) (own h past) k.half order c e in
      writes-map (IsCovered p m.slot.instr) (λ b. IsTrue (may_write p (phase_of p past h) h b)) (access_of s)
      (covered-right p h (phase_of p past h) c m.slot.number s.event.word stream m.slot.instr among m.slot.word
      m.slot.is run) m.covered

  step-right : (h : ℕ) → h < harts p → (past : List Step) (s : Step) → Legal p (earlier o past) → hart_of s ≡ h
      → Legal p (earlier o (s ∷ past)) → Writes (λ b. IsTrue (may_write p (phase_of p past h) h b)) (access_of s)
  step-right h number past s before is legal = by (stream_at p h (now (first_state (o h)) (own h past)).pc) refl
      outside.0
    where
      outside : KeepsWrites p h (first_state (o h)) (s ∷ own h past)
      outside = subst (KeepsWrites p h (first_state (o h))) (own-here h s past is)
          (on-legal p formed h number (tame h number) (KeepsWrites p h) (writes h number) (earlier o (s ∷ past)) legal)

      by : (c : Option ℕ) → stream_at p h (now (first_state (o h)) (own h past)).pc ≡ c
          → OutsideWrites p h c (phase_of p past h) s
          → Writes (λ b. IsTrue (may_write p (phase_of p past h) h b)) (access_of s)
      by None e w = writes-map (λ b. IsTrue (may_write p (phase_of p past h) h b)
          × (phase_of p past h % 2 ≡ 1 → IsFalse (is_declared p.cases b)))
          (λ b. IsTrue (may_write p (phase_of p past h) h b)) (access_of s) (λ b q. q.0) w
      by (Some c) e w = inside-right h number past s before is legal c e

  all-right : (steps : List Step) → Legal p (earlier o steps) → WritesRight p (earlier o steps)
  all-right [] legal = tt
  all-right (s ∷ past) legal =
      let before = Legal-earlier p o (s ∷ []) past legal in
      (step-right (hart_of s) legal.paths.only.0 past s before refl legal, all-right past before)

pub legal-right : (p : Program) → LegalWritesAreRight p
legal-right p formed tame writes r legal = all-right p formed tame writes r.opening r.steps legal
