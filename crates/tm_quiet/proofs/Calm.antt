-- On a legal run a byte that no other hart may write in the case reads, inside the stream, as the hart's own last
-- write in the phase, else as the case's first byte.
use Rattle.std.proofs.Common.{◌≡◌, ℕ, ◌+◌, ◌<◌, List, [], ◌∷◌, Bool, true, false, Option, None, Some, ◌⊎◌, inl, inr}
use Rattle.std.proofs.Common.{refl, sym, ap, ◌∙◌, subst}
use Rattle.std.specs.Prelude.{IfSome, slice_get, unwrap_or, if◌then◌else◌}
use Rattle.std.proofs.lemmas.Bool.{cases_eq}
use Rattle.std.proofs.lemmas.Option.{slice_get_within}
use Rattle.tm_table.specs.declared.state.Access.{Access}
use Rattle.tm_table.specs.declared.state.Access.TheVariants.{Quiet, Read, Write}
use Rattle.tm_plan_cases.specs.declared.program.Program.{Program}
use Rattle.tm_plan_cases.specs.declared.cases.Case.{Case}
use Rattle.tm_world.specs.Lists.{or_else}
use Rattle.tm_world.specs.Place.{harts, case_count, inside, byte_of}
use Rattle.tm_world.specs.Run.{Step, own, now, first_state, hart_of, access_of, Reads}
use Rattle.tm_world.specs.Writers.{writers, wrote, settled, case_of_phase}
use Rattle.tm_world.specs.Kinds.{Legal, phase_of, legal_owed, another}
use Rattle.tm_world.specs.Course.{KeepsWrites}
use Rattle.tm_world.specs.Whole.{Course, first_byte}
use Rattle.tm_world.proofs.Prefix.{earlier, Legal-earlier}
use Rattle.tm_legal.specs.Tame.{Formed}
use Rattle.tm_legal.proofs.Own.{own-here, own-there}
use Rattle.tm_quiet.proofs.Slots.{is_calm, calm-parts}
use Rattle.tm_quiet.proofs.Effects.{owed_at}
use Rattle.tm_quiet.proofs.Ways.{byte_now, CalmReads, Ways}
use Rattle.tm_quiet.proofs.Windows.{run-another}
use Rattle.tm_quiet.proofs.Legal.{knows, orders, barriers, holds-on}
use Rattle.tm_quiet.proofs.Halves.{runs, inside-run}
use Rattle.tm_quiet.proofs.First.{opened-at}

pub or-some : (z : Option ℕ) (d : ℕ) → or_else z (Some d) ≡ Some (unwrap_or z d)
or-some None d = refl
or-some (Some v) d = refl

-- less is owed
reads-less : (f g : ℕ → Option ℕ) (a : Access) → ((b : ℕ) → (g b ≡ None) ⊎ (f b ≡ g b)) → Reads f a → Reads g a
reads-less f g Quiet e r = tt
reads-less f g (Write addr width value) e r = tt
reads-less f g (Read addr width value) e r = λ i l. by (addr + i) (byte_of value i) (e (addr + i)) (r i l)
  where
    by : (b v : ℕ) → (g b ≡ None) ⊎ (f b ≡ g b) → IfSome (f b) (λ u. v ≡ u) → IfSome (g b) (λ u. v ≡ u)
    by b v (inl n) k = subst (λ (z : Option ℕ). IfSome z (λ u. v ≡ u)) (sym n) tt
    by b v (inr s) k = subst (λ (z : Option ℕ). IfSome z (λ u. v ≡ u)) s k

module _ (p : Program) (formed : Formed p) (course : Course p) (o : ℕ → List ℕ) (h : ℕ) (number : h < harts p) where
  calm-step : (s : Step) (past : List Step) → Legal p (earlier o (s ∷ past)) → hart_of s ≡ h → (c : ℕ) (case : Case)
      → slice_get p.cases.cases c ≡ Some case → inside p h c (now (first_state (o h)) (own h past)).pc ≡ true
      → Reads (owed_at (is_calm p.cases c h) (byte_now p h case (own h past))) (access_of s)
  calm-step s past legal mine c case at i =
      reads-less (legal_owed p past h (phase_of p past h))
      (owed_at (is_calm p.cases c h) (byte_now p h case (own h past))) (access_of s)
      (λ b. by b (is_calm p.cases c h b) refl)
      (subst (λ (g : ℕ). Reads (legal_owed p past g (phase_of p past g)) (access_of s)) mine legal.reads.0)
    where
      few : c < case_count p
      few = slice_get_within p.cases.cases c case at

      before : Legal p (earlier o past)
      before = Legal-earlier p o (s ∷ []) past legal

      run : case_of_phase p (phase_of p past h) ≡ Some c
      run =
          let (j, ph, l, d) =
          inside-run p formed h number (o h) (own h past) (knows p formed course o past before h number).half
          (orders p formed course o past before h number) c few i in
          ap (case_of_phase p) ph ∙ (runs p j l ∙ ap Some d)

      by : (b : ℕ) (t : Bool) → is_calm p.cases c h b ≡ t
          → ((if t then Some (byte_now p h case (own h past) b) else None) ≡ None)
          ⊎ (legal_owed p past h (phase_of p past h) b ≡ (if t then Some (byte_now p h case (own h past) b) else None))
      by b false e = inl refl
      by b true e =
          let q = calm-parts p.cases c h b e in
          let alone : another h (writers p (phase_of p past h) b) ≡ false =
          run-another p formed b q.0 (phase_of p past h) c h run ∙ q.1 in
          let first = (opened-at p formed course o h number c case at s past legal mine i).1 b q.0 in
          inr (
          ap (λ (z : Bool). if z then None else or_else (wrote p past (phase_of p past h) b h)
          (settled p past (phase_of p past h) b)) alone
          ∙ (ap (or_else (wrote p past (phase_of p past h) b h)) first ∙ or-some (wrote p past (phase_of p past h) b h)
          (first_byte case.first b))
          )

  calm-reads : (steps : List Step) → Legal p (earlier o steps) → CalmReads p h (first_state (o h)) (own h steps)
  calm-reads [] legal = tt
  calm-reads (s ∷ past) legal = by (cases_eq (hart_of s) h) (calm-reads past (Legal-earlier p o (s ∷ []) past legal))
    where
      by : (hart_of s ≡ h) ⊎ (hart_of s ≡ h → ⊥) → CalmReads p h (first_state (o h)) (own h past)
          → CalmReads p h (first_state (o h)) (own h (s ∷ past))
      by (inr n) before = subst (CalmReads p h (first_state (o h))) (sym (own-there h s past n)) before
      by (inl e) before = subst (CalmReads p h (first_state (o h))) (sym (own-here h s past e))
          ((λ c case at i. calm-step s past legal e c case at i), before)

  -- what is known of a hart's own steps on a legal run
  pub ways : (steps : List Step) → Legal p (earlier o steps) → Ways p h (first_state (o h)) (own h steps)
  ways steps legal = record {
    known = knows p formed course o steps legal h number;
    order = orders p formed course o steps legal h number;
    writes = holds-on p formed course o steps legal h number (KeepsWrites p h) (course.hart h number).writes;
    barrier = barriers p formed course o steps legal h number;
    calm = calm-reads steps legal;
  }
