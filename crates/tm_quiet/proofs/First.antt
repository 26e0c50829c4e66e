-- Where a hart makes a step inside its stream on a legal run, shared memory has settled to the case's first bytes,
-- and nobody writes in an earlier phase any more.
use Rattle.std.proofs.Common.{◌≡◌, ◌≢◌, ℕ, ◌<◌, ◌≤◌, List, [], ◌∷◌, ◌++◌, Bool, true, false, Some, ◌⊎◌, inl, inr}
use Rattle.std.proofs.Common.{refl, sym, ap, ◌∙◌, subst, le_refl, ne_eqb}
use Rattle.std.specs.Prelude.{IsTrue, slice_get}
use Rattle.std.proofs.lemmas.Bool.{cases_eq, false≢true}
use Rattle.std.proofs.lemmas.Option.{slice_get_within}
use Rattle.tm_table.specs.State.{Hart}
use Rattle.tm_plan_cases.specs.declared.program.Program.{Program}
use Rattle.tm_plan_cases.specs.declared.cases.Case.{Case}
use Rattle.tm_plan_cases.specs.Collected.{is_declared}
use Rattle.tm_world.specs.Place.{harts, case_count, exit_of, inside}
use Rattle.tm_world.specs.Run.{Step, own, now, first_state, hart_of, pc_of, phase}
use Rattle.tm_world.specs.Writers.{settled}
use Rattle.tm_world.specs.Kinds.{Legal, Path, phase_of, flag_writes}
use Rattle.tm_world.specs.Marks.{Enter, comes_to}
use Rattle.tm_world.specs.Whole.{Course, first_byte}
use Rattle.tm_world.proofs.Prefix.{earlier, Legal-earlier, own-append}
use Rattle.tm_legal.specs.Tame.{Formed}
use Rattle.tm_legal.proofs.Own.{own-here, own-there}
use Rattle.tm_legal.proofs.Order.{NoStray, entered}
use Rattle.tm_legal.proofs.Phases.{phase-other}
use Rattle.tm_quiet.proofs.Legal.{knows, orders, barriers}
use Rattle.tm_quiet.proofs.Halves.{inside-off}
use Rattle.tm_quiet.proofs.Settled.{Ready, ready-more, settled-kept, settled-own}
use Rattle.tm_quiet.proofs.Swap.{same-own, swapped}

module _ (p : Program) (formed : Formed p) (course : Course p) (o : ℕ → List ℕ) (h : ℕ) (number : h < harts p) (c : ℕ)
    (case : Case) (at : slice_get p.cases.cases c ≡ Some case) where
  few : c < case_count p
  few = slice_get_within p.cases.cases c case at

  -- hart h's state after the steps
  abbrev pub hart_now : List Step → Hart
  hart_now steps = now (first_state (o h)) (own h steps)

  -- nobody writes in a phase before hart h's, and shared memory has settled to first bytes for it
  abbrev pub Opened : List Step → Type 0
  Opened past = Ready p (phase_of p past h) past × ((b : ℕ) → IsTrue (is_declared p.cases b)
      → settled p past (phase_of p past h) b ≡ Some (first_byte case.first b))

  -- hart h has just come into its stream from the exit mark
  pub record Fresh (past : List Step) : Type 0 where
    pub others : List Step
    pub enter : Step
    pub before : List Step
    pub is : past ≡ others ++ (enter ∷ before)
    pub none : own h others ≡ []
    pub mine : hart_of enter ≡ h
    pub exit : pc_of enter ≡ exit_of p h
    pub out : inside p h c (hart_now before).pc ≡ false
    pub within : inside p h c enter.after.pc ≡ true

  -- who makes a step stands after the flags of the others
  ready-here : (s : Step) (past : List Step) → Legal p (earlier o (s ∷ past)) → hart_of s ≡ h
      → Ready p (phase_of p past h) past
  ready-here s past legal mine g l = elim (cases_eq g h) [
    | inl e ↦ inl (subst (λ (k : ℕ). phase_of p past h ≤ phase_of p past k) (sym e) (le_refl (phase_of p past h)))
    | inr n ↦ inr (subst (λ (k : ℕ). phase_of p past k ≤ flag_writes g (own g past)) mine
        (legal.met.0 g l (λ e. n (e ∙ mine))))
  ]

  -- coming in from outside is entering
  comes-in : (s : Step) (past : List Step) → Legal p (earlier o (s ∷ past)) → hart_of s ≡ h
      → inside p h c (hart_now past).pc ≡ false → inside p h c s.after.pc ≡ true
      → IsTrue (comes_to p h (Enter c) (hart_now past).pc s.after.pc)
  comes-in s past legal mine out in' =
      let k = knows p formed course o (s ∷ past) legal h number in
      entered p h (first_state (o h)) s (own h past) c
      (subst (NoStray p h (first_state (o h))) (own-here h s past mine) k.strays) few out in'

  -- there, all has settled to first bytes
  settles : (s : Step) (past : List Step) → Legal p (earlier o (s ∷ past)) → hart_of s ≡ h
      → inside p h c (hart_now past).pc ≡ false → inside p h c s.after.pc ≡ true → (b : ℕ)
      → IsTrue (is_declared p.cases b) → settled p (s ∷ past) (phase_of p (s ∷ past) h) b
      ≡ Some (first_byte case.first b)
  settles s past legal mine out in' b shared =
      subst (λ (g : ℕ). IsTrue (comes_to p g (Enter c) (now (first_state (o g)) (own g past)).pc s.after.pc)
      → settled p (s ∷ past) (phase_of p (s ∷ past) g) b ≡ Some (first_byte case.first b)) mine
      (λ t. (course.first (earlier o (s ∷ past)) legal).0 c b case at t shared) (comes-in s past legal mine out in')

  -- one step more
  more : (q : ℕ) (s : Step) (past : List Step) → Legal p (earlier o (s ∷ past)) → phase_of p (s ∷ past) h ≡ q
      → Ready p q past → ((b : ℕ) → IsTrue (is_declared p.cases b)
      → settled p past q b ≡ Some (first_byte case.first b)) → Opened (s ∷ past)
  more q s past legal e ready first =
      subst (λ (n : ℕ). Ready p n (s ∷ past) × ((b : ℕ) → IsTrue (is_declared p.cases b) → settled p (s ∷ past) n b
      ≡ Some (first_byte case.first b))) (sym e) (
        ready-more p q s past ready,
        λ b shared. settled-kept p o q s past ready legal.paths.only.0
            (barriers p formed course o (s ∷ past) legal) q b (le_refl q) ∙ first b shared,
      )

  -- a step that doesn't leave the phase
  same-phase : (s : Step) (past : List Step) → hart_of s ≡ h → pc_of s ≢ exit_of p h → phase_of p (s ∷ past) h
      ≡ phase_of p past h
  same-phase s past mine n = ap (phase (exit_of p h)) (own-here h s past mine) ∙ phase-other (exit_of p h) s
      (own h past) (ne_eqb (pc_of s) (exit_of p h) n)

  other-phase : (s : Step) (past : List Step) → (hart_of s ≡ h → ⊥) → phase_of p (s ∷ past) h ≡ phase_of p past h
  other-phase s past n = ap (phase (exit_of p h)) (own-there h s past n)

  -- where it stands
  pc-is : (s : Step) (past : List Step) → Legal p (earlier o (s ∷ past)) → hart_of s ≡ h → pc_of s ≡ (hart_now past).pc
  pc-is s past legal mine = let path : Path p h (first_state (o h)) (s ∷ own h past) =
      subst (Path p h (first_state (o h))) (own-here h s past mine) (legal.paths.each h number) in path.0.place

  -- who comes fresh into its stream could have done so later
  fresh-first : (past : List Step) → Legal p (earlier o past) → Fresh past → (b : ℕ) → IsTrue (is_declared p.cases b)
      → settled p past (phase_of p past h) b ≡ Some (first_byte case.first b)
  fresh-first past legal f b shared =
      let legal' : Legal p (earlier o (f.others ++ (f.enter ∷ f.before))) =
      subst (λ (l : List Step). Legal p (earlier o l)) f.is legal in
      let other = swapped p formed course o h number f.others f.enter f.before f.none f.mine f.exit legal' in
      let mine-before : own h (f.others ++ f.before) ≡ own h f.before =
      own-append h f.others f.before ∙ ap (λ (l : List Step). l ++ own h f.before) f.none in
      let out : inside p h c (hart_now (f.others ++ f.before)).pc ≡ false =
      ap (λ (l : List Step). inside p h c (now (first_state (o h)) l).pc) mine-before ∙ f.out in
      let e = settles f.enter (f.others ++ f.before) other f.mine out f.within b shared in
      let same = λ (g : ℕ). same-own h f.others f.enter f.before f.none f.mine g in
      subst (λ (l : List Step). settled p l (phase_of p l h) b ≡ Some (first_byte case.first b)) (sym f.is)
      (settled-own p (f.others ++ (f.enter ∷ f.before)) (f.enter ∷ (f.others ++ f.before)) same
      (phase_of p (f.others ++ (f.enter ∷ f.before)) h) b
      ∙ (ap (λ (l : List Step). settled p (f.enter ∷ (f.others ++ f.before)) (phase (exit_of p h) l) b) (same h) ∙ e))

  -- at a step inside the stream
  here : (s : Step) (past : List Step) → Legal p (earlier o (s ∷ past)) → hart_of s ≡ h → Opened past ⊎ Fresh past
      → Opened past
  here s past legal mine (inl a) = a
  here s past legal mine (inr f) =
      (ready-here s past legal mine, fresh-first past (Legal-earlier p o (s ∷ []) past legal) f)

  since : (past : List Step) → Legal p (earlier o past) → inside p h c (hart_now past).pc ≡ true → Opened past
      ⊎ Fresh past
  since [] legal i = absurd (false≢true (sym (formed.laid.outside h c number few) ∙ i))
  since (s ∷ past) legal i = by (cases_eq (hart_of s) h) (since past (Legal-earlier p o (s ∷ []) past legal))
    where
      within-before : hart_of s ≡ h → inside p h c s.after.pc ≡ true
      within-before e = sym (ap (λ (l : List Step). inside p h c (now (first_state (o h)) l).pc) (own-here h s past e))
          ∙ i

      off : hart_of s ≡ h → inside p h c (hart_now past).pc ≡ true → pc_of s ≢ exit_of p h
      off e t z =
          let before = Legal-earlier p o (s ∷ []) past legal in
          inside-off p formed h number (o h) (own h past) (knows p formed course o past before h number).half
          (orders p formed course o past before h number) c few t (sym (pc-is s past legal e) ∙ z)

      mine : hart_of s ≡ h → (t : Bool) → inside p h c (hart_now past).pc ≡ t
          → (inside p h c (hart_now past).pc ≡ true → Opened past ⊎ Fresh past) → Opened (s ∷ past) ⊎ Fresh (s ∷ past)
      mine e true t before =
          let a = here s past legal e (before t) in
          inl (more (phase_of p past h) s past legal (same-phase s past e (off e t)) a.0 a.1)
      mine e false t before = elim (cases_eq (pc_of s) (exit_of p h)) [
        | inl z ↦ inr (record {
          others = [];
          enter = s;
          before = past;
          is = refl;
          none = refl;
          mine = e;
          exit = z;
          out = t;
          within = within-before e;
        })
        | inr n ↦
            let same = same-phase s past e n in
            let ready = subst (λ (q : ℕ). Ready p q (s ∷ past)) (sym same)
            (ready-more p (phase_of p past h) s past (ready-here s past legal e)) in
            inl (ready, settles s past legal e t (within-before e))
      ]

      by : (hart_of s ≡ h) ⊎ (hart_of s ≡ h → ⊥) → (inside p h c (hart_now past).pc ≡ true → Opened past ⊎ Fresh past)
          → Opened (s ∷ past) ⊎ Fresh (s ∷ past)
      by (inl e) before = mine e (inside p h c (hart_now past).pc) refl before
      by (inr n) before =
          go (before (sym (ap (λ (l : List Step). inside p h c (now (first_state (o h)) l).pc) (own-there h s past n)) ∙
          i))
        where
          go : Opened past ⊎ Fresh past → Opened (s ∷ past) ⊎ Fresh (s ∷ past)
          go (inl a) = inl (more (phase_of p past h) s past legal (other-phase s past n) a.0 a.1)
          go (inr f) = inr (record {
            others = s ∷ f.others;
            enter = f.enter;
            before = f.before;
            is = ap (λ (l : List Step). s ∷ l) f.is;
            none = own-there h s f.others n ∙ f.none;
            mine = f.mine;
            exit =
                f.exit;
            out = f.out;
            within = f.within;
          })

  -- At each step inside the stream.
  pub opened-at : (s : Step) (past : List Step) → Legal p (earlier o (s ∷ past)) → hart_of s ≡ h
      → inside p h c (hart_now past).pc ≡ true → Opened past
  opened-at s past legal mine i = here s past legal mine (since past (Legal-earlier p o (s ∷ []) past legal) i)
