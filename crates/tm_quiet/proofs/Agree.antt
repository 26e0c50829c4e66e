-- In any two passes of a case on a legal run each checked part has equal end values.
use Rattle.std.proofs.Common.{◌≡◌, ◌≢◌, ℕ, ◌+◌, ◌-◌, ◌*◌, ◌/◌, ◌%◌, ◌^◌, ◌<◌, Bool, true, false, ◌&&◌, not, ◌==◌}
use Rattle.std.proofs.Common.{Option, None, Some, refl, sym, ap, ◌∙◌, arith, eqb-true, ne_eqb, mul_comm}
use Rattle.std.specs.Prelude.{IsTrue, slice_get, slice_index, option_map}
use Rattle.std.proofs.lemmas.Bool.{and_from}
use Rattle.std.proofs.lemmas.Nat.{div-mul-add, mul-add-lt}
use Rattle.std.proofs.lemmas.Option.{slice_get_within}
use Rattle.tm_table.specs.State.{Hart}
use Rattle.tm_plan_cases.specs.declared.program.Program.{Program}
use Rattle.tm_plan_cases.specs.declared.cases.Case.{Case}
use Rattle.tm_plan_cases.specs.declared.cases.Stream.{Stream}
use Rattle.tm_plan_cases.specs.declared.masks.CaseMask.{CaseMask}
use Rattle.tm_plan_map.specs.Map.{windows_base, windows_size}
use Rattle.tm_plan_cases.specs.Collected.{is_declared, collector}
use Rattle.tm_base.specs.Lists.{count_from}
use Rattle.tm_world.specs.Lists.{first_of}
use Rattle.tm_world.specs.Place.{harts, case_count, passes}
use Rattle.tm_world.specs.Run.{Run, own, first_state, earliest}
use Rattle.tm_world.specs.Writers.{may_store}
use Rattle.tm_plan_cases.specs.Streams.{stream_in}
use Rattle.tm_world.specs.Kinds.{Legal, IsOpening}
use Rattle.tm_world.specs.Slots.{another_may_store}
use Rattle.tm_world.specs.Checked.{IsCheckedByte}
use Rattle.tm_world.specs.Verdict.{Part, Register, Byte, end_value, is_checked, left_with}
use Rattle.tm_world.specs.Writers.{run_phase}
use Rattle.tm_world.proofs.Streams.{case-of, stream-of}
use Rattle.tm_plan_map.proofs.Within.{within-parts}
use Rattle.tm_legal.specs.Tame.{Formed}
use Rattle.tm_legal.proofs.Order.{none-holds, one-holds}
use Rattle.tm_quiet.specs.Laws.{IsCompared, Tracked, PassesAgree}
use Rattle.tm_quiet.proofs.Lists.{any-each, range-in}
use Rattle.tm_quiet.proofs.Slots.{is_calm}
use Rattle.tm_quiet.proofs.Stays.{Through, stays-agree}
use Rattle.tm_quiet.proofs.Ends.{left-through}
use Rattle.tm_quiet.proofs.Calm.{ways}
use Rattle.tm_quiet.proofs.Windows.{in-window}
use Rattle.tm_quiet.proofs.Collects.{reading}
use Rattle.tm_quiet.proofs.Bytes.{FirstRead, first-reading, reads-first, reads-stay}

pub formed-of : (p : Program) → Tracked p → Formed p
formed-of p t = record { program = t.program; typed = t.typed; laid = t.course.laid }

module _ (p : Program) (t : Tracked p) (c : ℕ) (m : CaseMask) (masked : slice_get p.masks.cases c
    ≡ Some m) (r : Run) (legal : Legal p r) (case : Case) (at : slice_get p.cases.cases c ≡ Some case) where
  formed : Formed p
  formed = formed-of p t

  few : c < case_count p
  few = slice_get_within p.cases.cases c case at

  opens : (h : ℕ) → h < harts p → IsOpening h (r.opening h)
  opens = legal.paths.opening

  abbrev pass : ℕ → ℕ
  pass k = c * passes p + k

  of : (k : ℕ) → k < passes p → pass k / passes p ≡ c
  of k l = div-mul-add c (passes p) k l

  within-all : (k : ℕ) → k < passes p → pass k < case_count p * passes p
  within-all k l = let z = mul-add-lt c (passes p) k (case_count p) few l in let y =
      mul_comm (passes p) (case_count p) in omega arith

  -- ---- registers

  module _ (h : ℕ) (number : h < harts p) (stream : Stream) (is : stream_in p.cases c h ≡ Some stream) where
    register-end : (x k u : ℕ) → x < 32 → k < passes p
        → end_value p h c k (first_state (r.opening h)) (own h r.steps) (Register x) ≡ Some u
        → (final : ℕ → ℕ) × Through p formed h number c case at stream is (r.opening h) (opens h number) final
        × (u ≡ final x)
    register-end x k u few' l e = by (left_with p h c (run_phase p c k) (first_state (r.opening h)) (own h r.steps))
        refl e
      where
        by : (z : Option Hart) → left_with p h c (run_phase p c k) (first_state (r.opening h)) (own h r.steps) ≡ z
            → option_map (λ (s : Hart). slice_index s.x x) z ≡ Some u → (final : ℕ → ℕ)
            × Through p formed h number c case at stream is (r.opening h) (opens h number) final × (u ≡ final x)
        by None q f = cc
        by (Some y) q f =
            let (final, through, same) = left-through p formed h number c case at stream is (r.opening h)
            (opens h number) (pass k) (of k l) (own h r.steps)
            (ways p formed t.course r.opening h number r.steps legal) y q in
            let value : slice_index y.x x ≡ u = cc in
            (final, through, sym value ∙ sym (same x few'))

    registers-agree : (x k k' u u' : ℕ) → x < 32 → IsTrue (is_checked m h (Register x)) → k < passes p → k' < passes p
        → end_value p h c k (first_state (r.opening h)) (own h r.steps) (Register x) ≡ Some u
        → end_value p h c k' (first_state (r.opening h)) (own h r.steps) (Register x) ≡ Some u' → u ≡ u'
    registers-agree x k k' u u' few' checked l l' e e' =
        let calm = ((t.masks.registers c h x m stream masked is few').0
        (eqb-true (slice_index m.regs h / 2 ^ x % 2) 1 checked)).calm in
        let (final, through, v) = register-end x k u few' l e in
        let (final', through', v') = register-end x k' u' few' l' e' in
        v ∙ (stays-agree p formed h number c case at stream is (r.opening h) (opens h number) final final' through
        through' x calm ∙ sym v')

  -- ---- bytes

  module _ (g b : ℕ) (number : g < harts p) (shared : IsTrue (is_declared p.cases b)) (mine : collector p.cases b
      ≡ g) where
    byte-read : (k u : ℕ) (l : k < passes p) → end_value p g c k (first_state (r.opening g)) (own g r.steps) (Byte b)
        ≡ Some u → FirstRead p formed t.course r.opening opens c case at (pass k) (of k l) (within-all k l) g b number
        shared mine u
    byte-read k u l e =
        let same : run_phase p c k + 1 ≡ 2 * pass k + 2 = omega arith in
        first-reading p formed t.course r.opening opens c case at (pass k) (of k l) (within-all k l) g b number shared
        mine r.steps legal u (ap (λ (n : ℕ). earliest (reading p g b n) (own g r.steps)) (sym same) ∙ e)

    checked-byte : IsTrue (is_checked m g (Byte b)) → IsCheckedByte p.cases c b
    checked-byte checked =
        let w = within-parts windows_base windows_size b (in-window p formed b shared) in
        (t.masks.bytes c b m masked w.0 w.1).0.0 (eqb-true (slice_index m.bytes (b - windows_base)) 255 checked)

    others-none : (h : ℕ) → another_may_store p.cases c h b ≡ false → (k : ℕ) → k < harts p → k ≢ h
        → may_store p.cases c k b ≡ false
    others-none h none k l n =
        let each = any-each (λ j. not (j == h) && may_store p.cases c j b) (count_from 0 (harts p)) k none
        (range-in 0 (harts p) k (omega arith) (omega arith)) in
        sym (ap (λ (z : Bool). not z && may_store p.cases c k b) (ne_eqb k h n)) ∙ each

    bytes-agree : (k k' u u' : ℕ) → IsTrue (is_checked m g (Byte b)) → (l : k < passes p) (l' : k' < passes p)
        → end_value p g c k (first_state (r.opening g)) (own g r.steps) (Byte b) ≡ Some u
        → end_value p g c k' (first_state (r.opening g)) (own g r.steps) (Byte b) ≡ Some u' → u ≡ u'
    bytes-agree k k' u u' checked l l' e e' = by (first_of (λ h. may_store p.cases c h b) (count_from 0 (harts p))) refl
      where
        f : FirstRead p formed t.course r.opening opens c case at (pass k) (of k l) (within-all k l) g b number shared
            mine u
        f = byte-read k u l e

        f' : FirstRead p formed t.course r.opening opens c case at (pass k') (of k' l') (within-all k' l') g b number
            shared mine u'
        f' = byte-read k' u' l' e'

        one : (h : ℕ) (few' : h < harts p) → may_store p.cases c h b ≡ true → u ≡ u'
        one h few' may =
            let (stream, is) = stream-of p.cases c h formed.program.cases few few' in
            let s = (checked-byte checked).single h stream few' is may in
            let others = others-none h s.0 in
            let calm : is_calm p.cases c h b ≡ true =
            and_from (is_declared p.cases b) (not (another_may_store p.cases c h b)) shared (ap not s.0) in
            let (final, through, v) = reads-stay p formed t.course r.opening opens c case at (pass k) (of k l)
            (within-all k l) g b number shared mine u f h few' stream is may others calm in
            let (final', through', v') = reads-stay p formed t.course r.opening opens c case at (pass k') (of k' l')
            (within-all k' l') g b number shared mine u' f' h few' stream is may others calm in
            v ∙ (stays-agree p formed h few' c case at stream is (r.opening h) (opens h few') final final' through
            through' b s.1 ∙ sym v')

        none : ((h : ℕ) → h < harts p → may_store p.cases c h b ≡ false) → u ≡ u'
        none each =
            reads-first p formed t.course r.opening opens c case at (pass k) (of k l) (within-all k l) g b number shared
            mine u f each
            ∙ sym (reads-first p formed t.course r.opening opens c case at (pass k') (of k' l') (within-all k' l') g b
            number shared mine u' f' each)

        by : (z : Option ℕ) → first_of (λ h. may_store p.cases c h b) (count_from 0 (harts p)) ≡ z → u ≡ u'
        by (Some h) q = let w = one-holds (λ h. may_store p.cases c h b) (harts p) 0 h q in
            one h (omega (arith, w.1)) w.0
        by None q = none (λ h w. none-holds (λ h. may_store p.cases c h b) (harts p) 0 h q (omega arith) (omega arith))

  -- ---- parts

  pub parts-agree : (h : ℕ) → h < harts p → (part : Part) → IsCompared p h part → IsTrue (is_checked m h part)
      → (k k' u u' : ℕ) → k < passes p → k' < passes p
      → end_value p h c k (first_state (r.opening h)) (own h r.steps) part ≡ Some u
      → end_value p h c k' (first_state (r.opening h)) (own h r.steps) part ≡ Some u' → u ≡ u'
  parts-agree h number (Register x) few' checked k k' u u' l l' e e' =
      let (stream, is) = stream-of p.cases c h formed.program.cases few number in
      registers-agree h number stream is x k k' u u' few' checked l l' e e'
  parts-agree h number (Byte b) compared checked k k' u u' l l' e e' =
      bytes-agree h b number compared.0 compared.1 k k' u u' checked l l' e e'

pub masked-case : (p : Program) → Tracked p → (c : ℕ) (m : CaseMask) → slice_get p.masks.cases c ≡ Some m
    → (case : Case) × (slice_get p.cases.cases c ≡ Some case)
masked-case p t c m masked =
    let few = slice_get_within p.masks.cases c m masked in
    let same = t.program.masks.count in
    let some = t.program.cases.harts.0 in
    let (stream, is) = stream-of p.cases c 0 t.program.cases (omega arith) (omega arith) in
    let q = case-of p.cases c 0 stream is in
    (q.0, q.1)

pub passes-agree : (p : Program) → PassesAgree p
passes-agree p t h c m number masked r legal =
    let (case, at) = masked-case p t c m masked in
    parts-agree p t c m masked r legal case at h number
