-- A hart's first read of a shared byte that it collects, in the phase after a run phase, stands before any write of
-- it by the hart in that phase.
use Rattle.std.proofs.Common.{◌≡◌, ℕ, suc, ◌+◌, ◌-◌, ◌*◌, ◌/◌, ◌<◌, ◌≤◌, List, [], ◌∷◌, Bool, true, false, nat_lt}
use Rattle.std.proofs.Common.{◌==◌, Option, None, Some, inl, inr, refl, sym, ap, ◌∙◌, subst, arith, eq-eqb}
use Rattle.std.specs.Prelude.{IsTrue, IsFalse, IfSome, All, if◌then◌else◌}
use Rattle.std.proofs.lemmas.Bool.{cases_eq, and_from, or_from, lt-ltb, false≢true}
use Rattle.tm_table.specs.declared.state.Access.{Access}
use Rattle.tm_table.specs.declared.state.Access.TheVariants.{Quiet, Read, Write}
use Rattle.tm_table.specs.State.{Hart}
use Rattle.tm_plan_cases.specs.declared.program.Program.{Program}
use Rattle.tm_plan_map.specs.Map.{window_at, windows_base, within}
use Rattle.tm_plan_cases.specs.Collected.{is_declared, collector, owned}
use Rattle.tm_base.specs.Lists.{any}
use Rattle.tm_world.specs.Lists.{or_else}
use Rattle.tm_world.specs.Place.{case_count, passes, exit_of, byte_of}
use Rattle.tm_world.specs.Run.{Step, access_of, phase, in_phase, written, last_write, got, earliest, Reads}
use Rattle.tm_world.specs.Course.{KeepsCollecting, Collects, round_before, writes_in, reads_in, writes_shared}
use Rattle.tm_world.proofs.Options.{or_else-neither}
use Rattle.tm_plan_map.proofs.Within.{within-parts}
use Rattle.tm_plan_map.proofs.Within.{within-true}
use Rattle.tm_legal.specs.Tame.{Formed}
use Rattle.tm_legal.proofs.Phases.{in_phase-here, in_phase-there}
use Rattle.tm_legal.proofs.Streams.{any-one}
use Rattle.tm_stays.proofs.Dwords.{lies, dword_of, dword-place, of-owned}
use Rattle.tm_quiet.proofs.Halves.{runs}
use Rattle.tm_meet.proofs.Dwords.{dword-collector}

-- what a step of hart g's phase n reads at b
abbrev pub reading : Program → ℕ → ℕ → ℕ → List Step → Step → Option ℕ
reading p g b n past s = if phase (exit_of p g) past == n then got (access_of s) b else None

module _ (p : Program) (formed : Formed p) (g : ℕ) (first : Hart) (c b : ℕ) (shared : IsTrue (is_declared p.cases b))
    (mine : collector p.cases b ≡ g) (i : ℕ) (of : i / passes p ≡ c) (few : i < case_count p * passes p) (n : ℕ)
    (next : n ≡ 2 * i + 2) where
  pub collects-at : (s : Step) (past : List Step) → KeepsCollecting p g first (s ∷ past) → phase (exit_of p g) past ≡ n
      → Collects p g n past s
  collects-at s past k ph =
      let after-run : n ≡ suc (2 * i + 1) = omega arith in
      let here : IfSome (round_before p n) (λ d. Collects p g n past s) =
      subst (λ (m : ℕ). IfSome (round_before p m) (λ d. Collects p g m past s)) ph k.0 in
      let case' : round_before p n ≡ Some c = ap (round_before p) after-run ∙ (runs p i few ∙ ap Some of) in
      subst (λ (z : Option ℕ). IfSome z (λ d. Collects p g n past s)) case' here

  -- the byte's place
  place : (dword_of b ≤ b) × (b < dword_of b + 8) × ((b - windows_base) / 8 < 768)
      × (is_declared p.cases (dword_of b) ≡ true)
  place = dword-place p.cases b (lies p.cases b formed.program.cases shared)

  pub dword : (P : ℕ → Type 0) → All P (owned p.cases g) → P (dword_of b)
  dword P all = of-owned P p.cases g b place.2 place.3 (dword-collector p.cases b formed.program.cases ∙ mine) all
    where
      low : windows_base ≤ b
      low = omega (arith, place.0)

  unread-step : (s : Step) (past : List Step) → KeepsCollecting p g first (s ∷ past) → phase (exit_of p g) past ≡ n
      → reading p g b n past s ≡ None → reads_in (dword_of b) 8 (access_of s) ≡ false
  unread-step s past k ph unmet = by (reads_in (dword_of b) 8 (access_of s)) refl
    where
      by : (t : Bool) → reads_in (dword_of b) 8 (access_of s) ≡ t → t ≡ false
      by false e = refl
      by true e =
          let once = dword (λ d. IsTrue (reads_in d 8 (access_of s)) → ((v : ℕ) × (access_of s ≡ Read d 8 v))
          × IsFalse (any (λ t. reads_in d 8 (access_of t)) (in_phase (exit_of p g) n past)))
          (collects-at s past k ph).once e in
          let v = once.0.0 in
          let gets : got (access_of s) b ≡ Some (byte_of v (b - dword_of b)) =
          ap (λ (z : Access). got z b) once.0.1 ∙ ap (λ (t : Bool). if t then Some (byte_of v (b - dword_of b))
          else None) (within-true (dword_of b) 8 b place.0 place.1) in
          let here : reading p g b n past s ≡ got (access_of s) b =
          ap (λ (t : Bool). if t then got (access_of s) b else None) (eq-eqb (phase (exit_of p g) past) n ph) in
          let z : Some (byte_of v (b - dword_of b)) ≡ None = sym gets ∙ (sym here ∙ unmet) in
          cc

  pub unread : (steps : List Step) → KeepsCollecting p g first steps → earliest (reading p g b n) steps ≡ None
      → any (λ t. reads_in (dword_of b) 8 (access_of t)) (in_phase (exit_of p g) n steps) ≡ false
  unread [] k unmet = refl
  unread (s ∷ past) k unmet =
      let parts = or_else-neither (earliest (reading p g b n) past) (reading p g b n past s) unmet in
      let later = unread past k.1 parts.0 in
      let test = λ (t : Step). reads_in (dword_of b) 8 (access_of t) in
      elim (cases_eq (phase (exit_of p g) past) n) [
        | inl e ↦ ap (any test) (in_phase-here (exit_of p g) n s past e) ∙ or_from (test s)
            (any test (in_phase (exit_of p g) n past)) (unread-step s past k e parts.1) later
        | inr d ↦ ap (any test) (in_phase-there (exit_of p g) n s past d) ∙ later
      ]

  -- a write of the byte is one of shared memory
  writes-it : (addr width value : ℕ) → within addr width b ≡ true → IsTrue (writes_shared p (Write addr width value))
  writes-it addr width value e =
      let l = lies p.cases b formed.program.cases shared in
      let w = l.window in
      let r = within-parts addr width b e in
      let m = within-parts (window_at w.number) (w.lines * p.cases.line) b l.holds in
      any-one (λ v. writes_in (window_at v.number) (v.lines * p.cases.line) (Write addr width value)) p.cases.windows w
      l.among.0 l.among.1 l.among.2
      (and_from (nat_lt addr (window_at w.number + w.lines * p.cases.line)) (nat_lt (window_at w.number) (addr + width))
      (lt-ltb addr (window_at w.number + w.lines * p.cases.line) (omega arith))
      (lt-ltb (window_at w.number) (addr + width) (omega arith)))

  unwritten : (s : Step) (past : List Step) → KeepsCollecting p g first (s ∷ past) → phase (exit_of p g) past ≡ n
      → earliest (reading p g b n) past ≡ None → written (access_of s) b ≡ None
  unwritten s past k ph unmet = by (access_of s) refl
    where
      by : (z : Access) → access_of s ≡ z → written z b ≡ None
      by Quiet e = refl
      by (Read addr width value) e = refl
      by (Write addr width value) e = on (within addr width b) refl
        where
          on : (t : Bool) → within addr width b ≡ t → (if t then Some (byte_of value (b - addr)) else None) ≡ None
          on false t = refl
          on true t =
              let writes = subst (λ (y : Access). IsTrue (writes_shared p y)) (sym e) (writes-it addr width value t) in
              let all = (collects-at s past k ph).before_writes writes in
              let was = dword (λ d. IsTrue (any (λ u. reads_in d 8 (access_of u)) (in_phase (exit_of p g) n past))) all
              in
              absurd (false≢true (sym (unread past k.1 unmet) ∙ was))

  -- before it has read it, it has written nothing there in the phase
  pub unread-unwritten : (steps : List Step) → KeepsCollecting p g first steps → earliest (reading p g b n) steps ≡ None
      → last_write b (in_phase (exit_of p g) n steps) ≡ None
  unread-unwritten [] k unmet = refl
  unread-unwritten (s ∷ past) k unmet =
      let parts = or_else-neither (earliest (reading p g b n) past) (reading p g b n past s) unmet in
      let later = unread-unwritten past k.1 parts.0 in
      elim (cases_eq (phase (exit_of p g) past) n) [
        | inl e ↦ ap (last_write b) (in_phase-here (exit_of p g) n s past e) ∙
            (ap (λ (z : Option ℕ). or_else z (last_write b (in_phase (exit_of p g) n past)))
            (unwritten s past k e parts.0) ∙ later)
        | inr d ↦ ap (last_write b) (in_phase-there (exit_of p g) n s past d) ∙ later
      ]

-- what a read gives at a byte
pub got-read : (owed : ℕ → Option ℕ) (a : Access) (b v u : ℕ) → Reads owed a → got a b ≡ Some v → owed b ≡ Some u
    → v ≡ u
got-read owed Quiet b v u r g e = cc
got-read owed (Write addr width value) b v u r g e = cc
got-read owed (Read addr width value) b v u r g e = on (within addr width b) refl g
  where
    on : (t : Bool) → within addr width b ≡ t → (if t then Some (byte_of value (b - addr)) else None) ≡ Some v → v ≡ u
    on false t f = cc
    on true t f =
        let m = within-parts addr width b t in
        let is-v : byte_of value (b - addr) ≡ v = cc in
        let there : addr + (b - addr) ≡ b = omega (arith, m) in
        let owes : owed (addr + (b - addr)) ≡ Some u = ap owed there ∙ e in
        let z : byte_of value (b - addr) ≡ u = subst (λ (q : Option ℕ). IfSome q (λ d. byte_of value (b - addr) ≡ d))
        owes (r (b - addr) (omega (arith, m))) in
        sym is-v ∙ z
