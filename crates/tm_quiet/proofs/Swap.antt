-- A step at the exit mark, which writes nothing, can stand behind the steps of other harts that follow it.
use Rattle.std.proofs.Common.{◌≡◌, ◌≢◌, ℕ, zero, suc, ◌+◌, ◌*◌, ◌<◌, ◌≤◌, List, [], ◌∷◌, ◌++◌, Bool, true, false}
use Rattle.std.proofs.Common.{◌&&◌, ◌||◌, not, Option, None, ◌⊎◌, inl, inr, refl, sym, ap, ap₂, ◌∙◌, subst, arith}
use Rattle.std.proofs.Common.{ne_eqb}
use Rattle.std.specs.Prelude.{IfSome, if◌then◌else◌}
use Rattle.std.proofs.lemmas.Bool.{cases_eq, cases_lt, or_cases, or_from, or_left, false≢true}
use Rattle.tm_table.specs.declared.state.Access.{Access}
use Rattle.tm_table.specs.declared.state.Access.TheVariants.{Quiet, Read, Write}
use Rattle.tm_plan_cases.specs.declared.program.Program.{Program}
use Rattle.tm_plan_map.specs.Map.{flag_at, verdict_at, private_at, private_size, windows_base, windows_size, within}
use Rattle.tm_base.specs.Lists.{any, count_from}
use Rattle.tm_base.proofs.ListLemmas.{any-no-number}
use Rattle.tm_world.specs.Lists.{or_else}
use Rattle.tm_world.specs.Place.{harts, case_count, exit_of, is_flag, is_verdict, is_private, byte_of}
use Rattle.tm_world.specs.Run.{Step, Always, own, first_state, hart_of, pc_of, access_of, phase, in_phase, last_write}
use Rattle.tm_world.specs.Run.{Reads}
use Rattle.tm_world.specs.Writers.{may_write, may_write_window, writers, wrote, settle, settled}
use Rattle.tm_world.specs.Kinds.{Legal, Path, Met, phase_of, legal_owed, another, flag_writes}
use Rattle.tm_world.specs.Course.{KeepsBarrier, IsStill}
use Rattle.tm_world.specs.Whole.{Course}
use Rattle.tm_world.proofs.Prefix.{earlier, Legal-earlier, own-append}
use Rattle.tm_plan_map.proofs.Within.{within-parts, within-false}
use Rattle.tm_legal.specs.Tame.{Formed}
use Rattle.tm_legal.proofs.Own.{own-here, own-there, reads-same}
use Rattle.tm_legal.proofs.Phases.{in_phase-here, in_phase-there}
use Rattle.tm_legal.proofs.Areas.{private-writers}
use Rattle.tm_memory.proofs.Accesses.{still-flags}
use Rattle.tm_memory.proofs.Accesses.{still-writes}
use Rattle.tm_meet.proofs.Counts.{writes-le}
use Rattle.tm_quiet.proofs.Legal.{barriers}
use Rattle.tm_legal.proofs.Areas.{those-one}
use Rattle.tm_legal.proofs.Formed.{formed-sizes}

-- ---- flags

-- nobody but its hart writes a flag
flag-alone : (p : Program) (formed : Formed p) (q g k b : ℕ) → g < harts p → k < harts p → k ≢ g → is_flag g b ≡ true
    → may_write p q k b ≡ false
unfolding flag_at verdict_at private_at private_size windows_base windows_size
flag-alone p formed q g k b l m n e =
    let place = within-parts (flag_at g) 8 b e in
    let limit = (formed-sizes formed).harts in
    let lo : 0x80C00000 + 128 * g ≤ b = place.0 in
    let hi : b < 0x80C00000 + 128 * g + 8 = place.1 in
    or_from (is_flag k b) _ (within-false (flag_at k) 8 b (side lo hi))
    (or_from (is_verdict p k b) _ (any-no-number (λ c. within (verdict_at c k) 8 b) (case_count p) 0
    (λ c _ _. within-false (verdict_at c k) 8 b (inl (omega arith))))
    (or_from (is_private k b) _ (within-false (private_at k) private_size b (inl (omega arith)))
    (ap (λ (t : Bool). t && may_write_window p q k b) (within-false windows_base windows_size b (inl (omega arith))))))
  where
    side : 0x80C00000 + 128 * g ≤ b → b < 0x80C00000 + 128 * g + 8 → (b < flag_at k) ⊎ (flag_at k + 8 ≤ b)
    side lo hi = elim (cases_lt g k) [ inl z ↦ inl (omega arith) | inr z ↦ inr (omega arith) ]

flag-writers : (p : Program) (formed : Formed p) (q g b : ℕ) → g < harts p → is_flag g b ≡ true → writers p q b ≡ g ∷ []
flag-writers p formed q g b l e = those-one (λ k. may_write p q k b) (harts p) 0 g (omega arith) (omega arith)
    (or_left (is_flag g b) _ e) (λ k _ m n. flag-alone p formed q g k b l (omega arith) n e)

-- ---- a byte that hart h alone writes

sole-settled : (p : Program) (h b : ℕ) (these those' : List Step) → ((n : ℕ) → writers p n b ≡ h ∷ [])
    → own h these ≡ own h those' → (n : ℕ) → settled p these n b ≡ settled p those' n b
sole-settled p h b these those' one same zero = refl
sole-settled p h b these those' one same (suc n) =
    ap (settle (wrote p these n b) (settled p these n b)) (one n)
    ∙ (ap₂ or_else (ap (λ (l : List Step). last_write b (in_phase (exit_of p h) n l)) same)
    (sole-settled p h b these those' one same n)
    ∙ sym (ap (settle (wrote p those' n b) (settled p those' n b)) (one n)))

-- what hart h is owed where it is still doesn't depend on other harts' steps
still-owed : (p : Program) (formed : Formed p) (h : ℕ) → h < harts p → (these those' : List Step)
    → own h these ≡ own h those' → (n b : ℕ) → (is_private h b || any (λ g. is_flag g b) (count_from 0 (harts p)))
    ≡ true → legal_owed p these h n b ≡ legal_owed p those' h n b
still-owed p formed h l these those' same n b e =
    by (or_cases (is_private h b) (any (λ g. is_flag g b) (count_from 0 (harts p))) e)
  where
    sole : ((m : ℕ) → writers p m b ≡ h ∷ []) → legal_owed p these h n b ≡ legal_owed p those' h n b
    sole one = ap₂ (λ (u v : Option ℕ). if another h (writers p n b) then None
        else or_else u v) (ap (λ (s : List Step). last_write b (in_phase (exit_of p h) n s)) same)
        (sole-settled p h b these those' one same n)

    foreign : (g : ℕ) → g ≢ h → writers p n b ≡ g ∷ [] → (steps : List Step) → legal_owed p steps h n b ≡ None
    foreign g d w steps =
        let other : another h (writers p n b) ≡ true =
        ap (another h) w ∙ ap (λ (t : Bool). not t || false) (ne_eqb g h d) in
        ap (λ (t : Bool). if t then None else or_else (wrote p steps n b h) (settled p steps n b)) other

    flag : (g : ℕ) → g < harts p → is_flag g b ≡ true → legal_owed p these h n b ≡ legal_owed p those' h n b
    flag g m f = elim (cases_eq g h) [
      | inl s ↦ sole (λ k. flag-writers p formed k g b m f ∙ ap (λ (z : ℕ). z ∷ []) s)
      | inr d ↦ let w = flag-writers p formed n g b m f in foreign g d w these ∙ sym (foreign g d w those')
    ]

    some-flag : (m a : ℕ) → a + m ≤ harts p → any (λ g. is_flag g b) (count_from a m) ≡ true → legal_owed p these h n b
        ≡ legal_owed p those' h n b
    some-flag zero a k f = absurd (false≢true f)
    some-flag (suc m) a k f =
        pick (some-flag m (suc a) (omega arith)) (or_cases (is_flag a b) (any (λ g. is_flag g b) (count_from (suc a) m))
        f)
      where
        pick : (any (λ g. is_flag g b) (count_from (suc a) m) ≡ true → legal_owed p these h n b
            ≡ legal_owed p those' h n b) → (is_flag a b ≡ true) ⊎ (any (λ g. is_flag g b) (count_from (suc a) m) ≡ true)
            → legal_owed p these h n b ≡ legal_owed p those' h n b
        pick later (inl y) = flag a (omega arith) y
        pick later (inr y) = later y

    by : (is_private h b ≡ true) ⊎ (any (λ g. is_flag g b) (count_from 0 (harts p)) ≡ true) → legal_owed p these h n b
        ≡ legal_owed p those' h n b
    by (inl y) = sole (λ m. private-writers p m h b formed l y)
    by (inr y) = some-flag (harts p) 0 (omega arith) y

-- a still step reads the same
still-reads : (p : Program) (h : ℕ) (f g : ℕ → Option ℕ) (a : Access) → IsStill p h a
    → ((b : ℕ) → (is_private h b || any (λ k. is_flag k b) (count_from 0 (harts p))) ≡ true → f b ≡ g b) → Reads f a
    → Reads g a
still-reads p h f g Quiet s e r = tt
still-reads p h f g (Write addr width value) s e r = tt
still-reads p h f g (Read addr width value) s e r =
    λ i l. subst (λ (z : Option ℕ). IfSome z (λ b. byte_of value i ≡ b)) (e (addr + i) (s i l)) (r i l)

-- ---- without the step

pub same-own : (h : ℕ) (others : List Step) (s : Step) (before : List Step) → own h others ≡ [] → hart_of s ≡ h
    → (g : ℕ) → own g (others ++ (s ∷ before)) ≡ own g (s ∷ (others ++ before))
same-own h others s before none mine g = elim (cases_eq (hart_of s) g) [
  | inr n ↦ own-append g others (s ∷ before) ∙ (ap (λ (l : List Step). own g others ++ l) (own-there g s before n) ∙
      (sym (own-append g others before) ∙ sym (own-there g s (others ++ before) n)))
  | inl e ↦
      let none' : own g others ≡ [] = ap (λ (k : ℕ). own k others) (sym e ∙ mine) ∙ none in
      own-append g others (s ∷ before)
      ∙ (ap (λ (l : List Step). l ++ own g (s ∷ before)) none'
      ∙ (own-here g s before e
      ∙ sym (own-here g s (others ++ before) e ∙ ap (λ (l : List Step). s ∷ l)
      (own-append g others before ∙ ap (λ (l : List Step). l ++ own g before) none'))))
]

-- the first of others isn't hart h's
none-first : (h : ℕ) (t : Step) (others : List Step) → own h (t ∷ others) ≡ [] → (hart_of t ≡ h → ⊥)
    × (own h others ≡ [])
none-first h t others e = elim (cases_eq (hart_of t) h) [
  | inr n ↦ (n, sym (own-there h t others n) ∙ e)
  | inl y ↦ absurd (let z : t ∷ own h others ≡ [] = sym (own-here h t others y) ∙ e in cc)
]

module _ (p : Program) (formed : Formed p) (h : ℕ) (number : h < harts p) (s : Step) (before : List Step)
    (mine : hart_of s ≡ h) (still : IsStill p h (access_of s)) where
  module _ (others : List Step) (none : own h others ≡ []) where
    abbrev with-it : List Step
    with-it = others ++ (s ∷ before)

    abbrev without : List Step
    without = others ++ before

    own-other : (g : ℕ) → g ≢ h → own g with-it ≡ own g without
    own-other g n = same-own h others s before none mine g ∙ own-there g s without (λ e. n (sym e ∙ mine))

    own-with : own h with-it ≡ s ∷ own h before
    own-with = own-append h others (s ∷ before) ∙ (ap (λ (l : List Step). l ++ own h (s ∷ before)) none ∙ own-here h s
        before mine)

    own-without : own h without ≡ own h before
    own-without = own-append h others before ∙ ap (λ (l : List Step). l ++ own h before) none

    wrote-same : (n b g : ℕ) → wrote p with-it n b g ≡ wrote p without n b g
    wrote-same n b g = elim (cases_eq g h) [
      | inr d ↦ ap (λ (l : List Step). last_write b (in_phase (exit_of p g) n l)) (own-other g d)
      | inl e ↦ subst (λ (k : ℕ). wrote p with-it n b k ≡ wrote p without n b k) (sym e)
          (ap (λ (l : List Step). last_write b (in_phase (exit_of p h) n l)) own-with
          ∙ (skip (cases_eq (phase (exit_of p h) (own h before)) n) ∙ ap
          (λ (l : List Step). last_write b (in_phase (exit_of p h) n l)) (sym own-without)))
    ]
      where
        skip : (phase (exit_of p h) (own h before) ≡ n) ⊎ (phase (exit_of p h) (own h before) ≡ n → ⊥)
            → last_write b (in_phase (exit_of p h) n (s ∷ own h before))
            ≡ last_write b (in_phase (exit_of p h) n (own h before))
        skip (inl e) = ap (last_write b) (in_phase-here (exit_of p h) n s (own h before) e) ∙ ap (λ (z : Option ℕ).
            or_else z (last_write b (in_phase (exit_of p h) n (own h before)))) (still-writes p h b (access_of s) still)
        skip (inr d) = ap (last_write b) (in_phase-there (exit_of p h) n s (own h before) d)

    settled-same : (n b : ℕ) → settled p with-it n b ≡ settled p without n b
    settled-same zero b = refl
    settled-same (suc n) b = by (writers p n b) (settled-same n b)
      where
        by : (ws : List ℕ) → settled p with-it n b ≡ settled p without n b
            → settle (wrote p with-it n b) (settled p with-it n b) ws
            ≡ settle (wrote p without n b) (settled p without n b) ws
        by [] e = e
        by (g ∷ []) e = ap₂ or_else (wrote-same n b g) e
        by (g ∷ k ∷ more) e = refl

    owed-same : (g n b : ℕ) → legal_owed p with-it g n b ≡ legal_owed p without g n b
    owed-same g n b = ap₂ (λ (u v : Option ℕ). if another g (writers p n b) then None
        else or_else u v) (wrote-same n b g) (settled-same n b)

    flags-same : (g : ℕ) → flag_writes g (own g with-it) ≡ flag_writes g (own g without)
    flags-same g = elim (cases_eq g h) [
      | inr d ↦ ap (flag_writes g) (own-other g d)
      | inl e ↦ subst (λ (k : ℕ). flag_writes k (own k with-it) ≡ flag_writes k (own k without)) (sym e)
          (ap (flag_writes h) own-with ∙ (ap (λ (t : Bool). if t then suc (flag_writes h (own h before))
          else flag_writes h (own h before)) (still-flags p h h (access_of s) still) ∙ ap (flag_writes h)
          (sym own-without)))
    ]

    phase-same : (g : ℕ) → g ≢ h → phase_of p with-it g ≡ phase_of p without g
    phase-same g n = ap (phase (exit_of p g)) (own-other g n)

    met-without : (t : Step) → hart_of t ≢ h → Met p with-it t → Met p without t
    met-without t n m g l d = let a = m g l d in let b = phase-same (hart_of t) n in let c = flags-same g in omega arith

    reads-without : (t : Step) → hart_of t ≢ h
        → Reads (legal_owed p with-it (hart_of t) (phase_of p with-it (hart_of t))) (access_of t)
        → Reads (legal_owed p without (hart_of t) (phase_of p without (hart_of t))) (access_of t)
    reads-without t n r =
        subst (λ (q : ℕ). Reads (legal_owed p without (hart_of t) q) (access_of t)) (phase-same (hart_of t) n)
        (reads-same (legal_owed p with-it (hart_of t) (phase_of p with-it (hart_of t)))
        (legal_owed p without (hart_of t) (phase_of p with-it (hart_of t))) (access_of t)
        (owed-same (hart_of t) (phase_of p with-it (hart_of t))) r)

  -- ---- the other harts' steps

  all-met : (others : List Step) → own h others ≡ [] → Always (Met p) (others ++ (s ∷ before))
      → Always (Met p) (others ++ before)
  all-met [] none m = m.1
  all-met (t ∷ others) none m = let q = none-first h t others none in
      (met-without others q.1 t q.0 m.0, all-met others q.1 m.1)

  all-reads : (others : List Step) → own h others ≡ []
      → Always (λ past t. Reads (legal_owed p past (hart_of t) (phase_of p past (hart_of t))) (access_of t)) (others
      ++ (s ∷ before))
      → Always (λ past t. Reads (legal_owed p past (hart_of t) (phase_of p past (hart_of t))) (access_of t)) (others
      ++ before)
  all-reads [] none r = r.1
  all-reads (t ∷ others) none r = let q = none-first h t others none in
      (reads-without others q.1 t q.0 r.0, all-reads others q.1 r.1)

  -- ---- the step itself

  flags-more : (g : ℕ) (others : List Step) → flag_writes g (own g before) ≤ flag_writes g (own g (others ++ before))
  flags-more g [] = omega arith
  flags-more g (t ∷ others) =
      let r = flags-more g others in
      elim (cases_eq (hart_of t) g) [
        | inl e ↦ let a = ap (flag_writes g) (own-here g t (others ++ before) e) in let b =
            writes-le g t (own g (others ++ before)) in omega arith
        | inr n ↦ let a = ap (flag_writes g) (own-there g t (others ++ before) n) in omega arith
      ]

  step-met : (others : List Step) → own h others ≡ [] → Met p before s → Met p (others ++ before) s
  step-met others none m g l d =
      let a = m g l d in
      let b = flags-more g others in
      let c : phase_of p (others ++ before) (hart_of s) ≡ phase_of p before (hart_of s) =
      subst (λ (k : ℕ). phase_of p (others ++ before) k ≡ phase_of p before k) (sym mine)
      (ap (phase (exit_of p h)) (own-without others none)) in
      omega arith

  step-reads : (others : List Step) → own h others ≡ []
      → Reads (legal_owed p before (hart_of s) (phase_of p before (hart_of s))) (access_of s)
      → Reads (legal_owed p (others ++ before) (hart_of s) (phase_of p (others ++ before) (hart_of s))) (access_of s)
  step-reads others none r =
      subst (λ (k : ℕ). Reads (legal_owed p (others ++ before) k (phase_of p (others ++ before) k)) (access_of s))
      (sym mine)
      (subst (λ (q : ℕ). Reads (legal_owed p (others ++ before) h q) (access_of s)) (sym same-phase)
      (still-reads p h (legal_owed p before h (phase_of p before h))
      (legal_owed p (others ++ before) h (phase_of p before h)) (access_of s) still
      (λ b e. still-owed p formed h number before (others ++ before) (sym (own-without others none))
      (phase_of p before h) b e)
      (subst (λ (k : ℕ). Reads (legal_owed p before k (phase_of p before k)) (access_of s)) mine r)))
    where
      same-phase : phase_of p (others ++ before) h ≡ phase_of p before h
      same-phase = ap (phase (exit_of p h)) (own-without others none)

-- hart by hart
only-moved : (P : Step → Type 0) (s : Step) (before : List Step) (others : List Step)
    → Always (λ past t. P t) (others ++ (s ∷ before)) → P s × Always (λ past t. P t) (others ++ before)
only-moved P s before [] a = (a.0, a.1)
only-moved P s before (t ∷ others) a = let q = only-moved P s before others a.1 in (q.0, (a.0, q.1))

pub swapped : (p : Program) → Formed p → Course p → (o : ℕ → List ℕ) (h : ℕ) → h < harts p
    → (others : List Step) (s : Step) (before : List Step) → own h others ≡ [] → hart_of s ≡ h → pc_of s ≡ exit_of p h
    → Legal p (earlier o (others ++ (s ∷ before))) → Legal p (earlier o (s ∷ (others ++ before)))
swapped p formed course o h number others s before none mine exit legal =
    let tail = Legal-earlier p o others (s ∷ before) legal in
    let barrier : KeepsBarrier p h (first_state (o h)) (s ∷ own h before) =
    subst (KeepsBarrier p h (first_state (o h))) (own-here h s before mine)
    (barriers p formed course o (s ∷ before) tail h number) in
    let still = barrier.0.still (barrier.0.leave exit).signalled in
    record {
      paths = record {
        opening = legal.paths.opening;
        only = only-moved (λ t. hart_of t < harts p) s before others legal.paths.only;
        each = λ g l. subst (Path p g (first_state (o g))) (same-own h others s before none mine g)
            (legal.paths.each g l);
      };
      met = (
        step-met p formed h number s before mine still others none tail.met.0,
        all-met p formed h number s before mine still others none legal.met,
      );
      reads = (
        step-reads p formed h number s before mine still others none tail.reads.0,
        all-reads p formed h number s before mine still others none legal.reads,
      );
    }
