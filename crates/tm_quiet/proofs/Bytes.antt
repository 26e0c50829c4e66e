-- The end value of a shared byte: the case's first byte where no hart may write it, and where one may, what the byte
-- was at the end of that hart's stay.
use Rattle.std.proofs.Common.{◌≡◌, ◌≢◌, ℕ, suc, ◌+◌, ◌*◌, ◌/◌, ◌<◌, ◌≤◌, List, [], ◌∷◌, Bool, true, false, ◌==◌}
use Rattle.std.proofs.Common.{Option, None, Some, ◌⊎◌, inl, inr, refl, sym, ap, ◌∙◌, subst, arith, le_refl, eqb-true}
use Rattle.std.specs.Prelude.{IsTrue, slice_get, unwrap_or, if◌then◌else◌}
use Rattle.std.proofs.lemmas.Bool.{cases_eq}
use Rattle.std.proofs.lemmas.Option.{slice_get_within}
use Rattle.tm_plan_cases.specs.declared.program.Program.{Program}
use Rattle.tm_plan_cases.specs.declared.cases.Case.{Case}
use Rattle.tm_plan_cases.specs.declared.cases.Stream.{Stream}
use Rattle.tm_plan_cases.specs.Collected.{is_declared, collector}
use Rattle.tm_world.specs.Lists.{or_else}
use Rattle.tm_world.specs.Place.{harts, case_count, passes, exit_of, inside}
use Rattle.tm_world.specs.Run.{Step, own, now, first_state, hart_of, access_of, phase, got, earliest, Reads}
use Rattle.tm_world.specs.Writers.{may_store, case_of_phase, writers, wrote, settle, settled}
use Rattle.tm_plan_cases.specs.Streams.{stream_in}
use Rattle.tm_world.specs.Kinds.{Legal, phase_of, legal_owed, another, flag_writes, IsOpening}
use Rattle.tm_world.specs.Course.{KeepsCollecting}
use Rattle.tm_world.specs.Whole.{Course, first_byte}
use Rattle.tm_world.proofs.Prefix.{earlier, Legal-earlier}
use Rattle.tm_world.proofs.Streams.{stream-of}
use Rattle.tm_legal.specs.Tame.{Formed}
use Rattle.tm_legal.proofs.Own.{own-here, own-there}
use Rattle.tm_quiet.proofs.Slots.{is_calm}
use Rattle.tm_quiet.proofs.Settled.{Ready, ready-more, settled-kept}
use Rattle.tm_quiet.proofs.Legal.{barriers, holds-on}
use Rattle.tm_quiet.proofs.Halves.{runs}
use Rattle.tm_quiet.proofs.First.{opened-at}
use Rattle.tm_quiet.proofs.Calm.{ways, or-some}
use Rattle.tm_quiet.proofs.Windows.{run-writers, even-writers}
use Rattle.tm_legal.proofs.Areas.{those-one}
use Rattle.tm_legal.proofs.Areas.{those-none}
use Rattle.tm_quiet.proofs.Collects.{reading, unread-unwritten, got-read}
use Rattle.tm_quiet.proofs.Stays.{Through}
use Rattle.tm_quiet.proofs.Ends.{Made, Ended, after-run, flags-ended}
use Rattle.tm_legal.proofs.Settling.{another-self}

module _ (p : Program) (formed : Formed p) (course : Course p) (o : ℕ → List ℕ) (opens : (h : ℕ) → h < harts p
    → IsOpening h (o h)) (c : ℕ) (case : Case) (at : slice_get p.cases.cases c ≡ Some case) where
  few : c < case_count p
  few = slice_get_within p.cases.cases c case at

  -- ---- who may write it

  -- no hart may
  pub run-none : (b q : ℕ) → is_declared p.cases b ≡ true → case_of_phase p q ≡ Some c
      → ((g : ℕ) → g < harts p → may_store p.cases c g b ≡ false) → writers p q b ≡ []
  run-none b q shared run none = run-writers p formed b shared q c run ∙ those-none (λ g. may_store p.cases c g b)
      (harts p) 0 (λ g _ l. none g (omega arith))

  -- one may
  pub run-one : (b q h : ℕ) → is_declared p.cases b ≡ true → case_of_phase p q ≡ Some c → h < harts p
      → may_store p.cases c h b ≡ true → ((g : ℕ) → g < harts p → g ≢ h → may_store p.cases c g b ≡ false)
      → writers p q b ≡ h ∷ []
  run-one b q h shared run l may others = run-writers p formed b shared q c run ∙ those-one
      (λ g. may_store p.cases c g b) (harts p) 0 h (omega arith) (omega arith) may (λ g _ m n. others g (omega arith) n)

  module _ (i : ℕ) (of : i / passes p ≡ c) (all : i < case_count p * passes p) where
    -- ---- what has settled for the run phase

    -- for run phase i all has settled to first bytes, and nobody writes in an earlier phase any more
    abbrev Opened : List Step → Type 0
    Opened past = Ready p (2 * i + 1) past × ((b : ℕ) → IsTrue (is_declared p.cases b) → settled p past (2 * i + 1) b
        ≡ Some (first_byte case.first b))

    module _ (g : ℕ) (number : g < harts p) (stream : Stream) (is : stream_in p.cases c g ≡ Some stream) where
      made-opened : (steps : List Step) → Legal p (earlier o steps)
          → Made p formed g number c case at stream is (o g) (opens g number) i of (own g steps) → Opened steps
      made-opened [] legal m = absurd m
      made-opened (s ∷ past) legal m =
          by (cases_eq (hart_of s) g) (made-opened past (Legal-earlier p o (s ∷ []) past legal))
        where
          more : Opened past → Opened (s ∷ past)
          more (ready, first) = (
            ready-more p (2 * i + 1) s past ready,
            λ b shared. settled-kept p o (2 * i + 1) s past ready legal.paths.only.0
                (barriers p formed course o (s ∷ past) legal) (2 * i + 1) b (le_refl (2 * i + 1)) ∙ first b shared,
          )

          here : hart_of s ≡ g → ((phase (exit_of p g) (own g past) ≡ 2 * i + 1)
              × (inside p g c (now (first_state (o g)) (own g past)).pc ≡ true))
              ⊎ Made p formed g number c case at stream is (o g) (opens g number) i of (own g past)
              → (Made p formed g number c case at stream is (o g) (opens g number) i of (own g past) → Opened past)
              → Opened past
          here e (inl (run, in')) before = subst (λ (q : ℕ). Ready p q past
              × ((b : ℕ) → IsTrue (is_declared p.cases b) → settled p past q b ≡ Some (first_byte case.first b))) run
              (opened-at p formed course o g number c case at s past legal e in')
          here e (inr old) before = before old

          by : (hart_of s ≡ g) ⊎ (hart_of s ≡ g → ⊥)
              → (Made p formed g number c case at stream is (o g) (opens g number) i of (own g past) → Opened past)
              → Opened (s ∷ past)
          by (inl e) before =
              more (here e (subst (Made p formed g number c case at stream is (o g) (opens g number) i of)
              (own-here g s past e) m) before)
          by (inr n) before =
              more (before (subst (Made p formed g number c case at stream is (o g) (opens g number) i of)
              (own-there g s past n) m))

    -- ---- the first read

    module _ (g b : ℕ) (number : g < harts p) (shared : IsTrue (is_declared p.cases b)) (mine : collector p.cases b
        ≡ g) where
      -- a step at which hart g reads the byte for the first time in the phase after the run phase
      pub record FirstRead (v : ℕ) : Type 0 where
        pub past : List Step
        pub step : Step
        pub legal : Legal p (earlier o (step ∷ past))
        pub by-g : hart_of step ≡ g
        pub run : phase_of p past g ≡ 2 * i + 2
        pub none : earliest (reading p g b (2 * i + 2)) (own g past) ≡ None
        pub value : got (access_of step) b ≡ Some v

      pub first-reading : (steps : List Step) → Legal p (earlier o steps) → (v : ℕ)
          → earliest (reading p g b (2 * i + 2)) (own g steps) ≡ Some v → FirstRead v
      first-reading [] legal v e = cc
      first-reading (s ∷ past) legal v e =
          by (cases_eq (hart_of s) g) (first-reading past (Legal-earlier p o (s ∷ []) past legal) v)
        where
          here : hart_of s ≡ g → (t : Bool) → (phase (exit_of p g) (own g past) == 2 * i + 2) ≡ t
              → earliest (reading p g b (2 * i + 2)) (own g past) ≡ None → (if t then got (access_of s) b else None)
              ≡ Some v → FirstRead v
          here q false t none f = cc
          here q true t none f = record {
            past = past;
            step = s;
            legal = legal;
            by-g = q;
            run = eqb-true (phase (exit_of p g) (own g past)) (2 * i + 2) t;
            none = none;
            value = f;
          }

          split : hart_of s ≡ g → (z : Option ℕ) → earliest (reading p g b (2 * i + 2)) (own g past) ≡ z
              → or_else z (reading p g b (2 * i + 2) (own g past) s) ≡ Some v
              → (earliest (reading p g b (2 * i + 2)) (own g past) ≡ Some v → FirstRead v) → FirstRead v
          split q (Some u) f h later = later (f ∙ h)
          split q None f h later = here q (phase (exit_of p g) (own g past) == 2 * i + 2) refl f h

          by : (hart_of s ≡ g) ⊎ (hart_of s ≡ g → ⊥)
              → (earliest (reading p g b (2 * i + 2)) (own g past) ≡ Some v → FirstRead v) → FirstRead v
          by (inl q) later = split q (earliest (reading p g b (2 * i + 2)) (own g past)) refl
              (ap (earliest (reading p g b (2 * i + 2))) (sym (own-here g s past q)) ∙ e) later
          by (inr n) later = later (ap (earliest (reading p g b (2 * i + 2))) (sym (own-there g s past n)) ∙ e)

      module _ (v : ℕ) (f : FirstRead v) where
        before : Legal p (earlier o f.past)
        before = Legal-earlier p o (f.step ∷ []) f.past f.legal

        -- all has settled to first bytes for the run phase
        opened : Opened f.past
        opened =
            let (stream, is) = stream-of p.cases c g formed.program.cases few number in
            let run = f.run in
            let ended = after-run p formed g number c case at stream is (o g) (opens g number) i of (own g f.past)
            (ways p formed course o g number f.past before) (omega arith) in
            made-opened g number stream is f.past before ended.made

        -- the read gives what has settled
        reads-settled : (u : ℕ) → settled p f.past (suc (2 * i + 1)) b ≡ Some u → v ≡ u
        reads-settled u e =
            let n = 2 * i + 2 in
            let reads = subst (λ (q : ℕ). Reads (legal_owed p f.past g q) (access_of f.step)) f.run
            (subst (λ (h : ℕ). Reads (legal_owed p f.past h (phase_of p f.past h)) (access_of f.step)) f.by-g
            f.legal.reads.0) in
            let ws : writers p n b ≡ g ∷ [] = even-writers p formed b shared n (omega arith) ∙ ap (λ (h : ℕ). h ∷ [])
            mine in
            let alone : another g (writers p n b) ≡ false = ap (another g) ws ∙ another-self g in
            let none : wrote p f.past n b g ≡ None =
            unread-unwritten p formed g (first_state (o g)) c b shared mine i of all n refl (own g f.past)
            (holds-on p formed course o f.past before g number (KeepsCollecting p g)
            (course.hart g number).collecting) f.none in
            let same : n ≡ suc (2 * i + 1) = omega arith in
            let owes : legal_owed p f.past g n b ≡ Some u =
            ap (λ (z : Bool). if z then None else or_else (wrote p f.past n b g) (settled p f.past n b)) alone
            ∙ (ap (λ (z : Option ℕ). or_else z (settled p f.past n b)) none ∙
            (ap (λ (q : ℕ). settled p f.past q b) same ∙ e)) in
            got-read (legal_owed p f.past g n) (access_of f.step) b v u reads f.value owes

        -- where no hart may write it
        pub reads-first : ((h : ℕ) → h < harts p → may_store p.cases c h b ≡ false) → v ≡ first_byte case.first b
        reads-first none =
            let q = 2 * i + 1 in
            let ws = run-none b q shared (runs p i all ∙ ap Some of) none in
            reads-settled (first_byte case.first b)
            (ap (settle (wrote p f.past q b) (settled p f.past q b)) ws ∙ opened.1 b shared)

        -- where hart h alone may write it
        pub reads-stay : (h : ℕ) (l : h < harts p) (stream : Stream) (is : stream_in p.cases c h ≡ Some stream)
            → may_store p.cases c h b ≡ true → ((k : ℕ) → k < harts p → k ≢ h → may_store p.cases c k b ≡ false)
            → is_calm p.cases c h b ≡ true
            → (final : ℕ → ℕ) × Through p formed h l c case at stream is (o h) (opens h l) final × (v ≡ final b)
        reads-stay h l stream is may others k =
            let q = 2 * i + 1 in
            let run = runs p i all ∙ ap Some of in
            let ws = run-one b q h shared run l may others in
            let ended = stay h l stream is in
            let e = ap (settle (wrote p f.past q b) (settled p f.past q b)) ws ∙
            (ap (or_else (wrote p f.past q b h)) (opened.1 b shared) ∙ or-some (wrote p f.past q b h)
            (first_byte case.first b)) in (
              ended.final,
              ended.through,
              reads-settled (unwrap_or (wrote p f.past q b h) (first_byte case.first b)) e ∙
                  ended.byte b k,
            )
          where
            stay : (h : ℕ) (l : h < harts p) (stream : Stream) (is : stream_in p.cases c h ≡ Some stream)
                → Ended p formed h l c case at stream is (o h) (opens h l) i of (own h f.past)
            stay h l stream is = elim (cases_eq h g) [
              | inl e ↦
                  let run : phase_of p f.past h ≡ 2 * i + 2 = ap (phase_of p f.past) e ∙ f.run in
                  after-run p formed h l c case at stream is (o h) (opens h l) i of (own h f.past)
                  (ways p formed course o h l f.past before) (omega arith)
              | inr n ↦
                  let met : phase_of p f.past g ≤ flag_writes h (own h f.past) =
                  subst (λ (k : ℕ). phase_of p f.past k ≤ flag_writes h (own h f.past)) f.by-g
                  (f.legal.met.0 h l (λ e. n (e ∙ f.by-g))) in
                  let run = f.run in
                  flags-ended p formed h l c case at stream is (o h) (opens h l) i of (own h f.past)
                  (ways p formed course o h l f.past before) (runs p i all ∙ ap Some of) (omega arith)
            ]
