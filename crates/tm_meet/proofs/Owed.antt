-- What was written last is what a legal run owes: a step of a plain run of harts that meet reads what a legal run may.
use Rattle.std.proofs.Common.{◌≡◌, ℕ, ◌+◌, ◌<◌, ◌≤◌, List, [], ◌∷◌, Bool, true, false, ◌||◌, ◌==◌, not, Option}
use Rattle.std.proofs.Common.{None, Some, ◌⊎◌, inl, inr, refl, sym, ap, ◌∙◌, subst, arith, le_refl}
use Rattle.std.specs.Prelude.{IsTrue, IfSome, if◌then◌else◌}
use Rattle.std.proofs.lemmas.Bool.{cases_Bool, cases_eq, false≢true, or_cases, or_parts, or_left, or_right, eqb-true}
use Rattle.std.proofs.lemmas.Bool.{not-false, not_from_false, ne_eqb}
use Rattle.tm_table.specs.declared.state.Access.{Access}
use Rattle.tm_table.specs.declared.state.Access.TheVariants.{Quiet, Read, Write}
use Rattle.tm_plan_cases.specs.declared.program.Program.{Program}
use Rattle.tm_base.specs.Lists.{any, count_from}
use Rattle.tm_world.specs.Lists.{or_else}
use Rattle.tm_world.specs.Place.{harts, exit_of, byte_of, is_private, is_flag}
use Rattle.tm_world.specs.Run.{Step, Always, own, hart_of, access_of, phase, Reads, Writes, written}
use Rattle.tm_world.specs.Writers.{may_write, writers, wrote, settle, settled}
use Rattle.tm_world.specs.Kinds.{phase_of, legal_owed, plain_owed, another}
use Rattle.tm_world.specs.Course.{IsStill}
use Rattle.tm_world.proofs.Accesses.{writes-may}
use Rattle.tm_legal.specs.Tame.{Formed}
use Rattle.tm_legal.proofs.Own.{own-here, own-there}
use Rattle.tm_legal.proofs.Phases.{phase-le}
use Rattle.tm_memory.proofs.Accesses.{still-writes}
use Rattle.tm_meet.proofs.Counts.{BarrierKept, signalled, quiet-count}
use Rattle.tm_memory.proofs.Owners.{Among, among-least, among-writers, writers-rise, flag-owner, flag-mine}
use Rattle.tm_memory.proofs.Owners.{private-owner}
use Rattle.tm_meet.proofs.Told.{Told, told-before}
use Rattle.tm_meet.proofs.Meeting.{held, phases-le}
use Rattle.tm_meet.proofs.Settling.{UpTo, Ordered, wrote-miss, wrote-there, wrote-other, settled-held}

-- Each write is of bytes that its hart may write.
abbrev pub AreRight : Program → List Step → Type 0
AreRight p = Always (λ past s. Writes (λ b. IsTrue (may_write p (phase_of p past (hart_of s)) (hart_of s) b))
    (access_of s))

-- ---- writes come phase after phase

phase_of-le : (p : Program) (g : ℕ) (s : Step) (past : List Step) → phase_of p past g ≤ phase_of p (s ∷ past) g
phase_of-le p g s past = elim (cases_eq (hart_of s) g) [
  | inl e ↦ subst (λ (z : List Step). phase_of p past g ≤ phase (exit_of p g) z) (sym (own-here g s past e))
      (phase-le (exit_of p g) s (own g past))
  | inr e ↦ subst (λ (z : List Step). phase_of p past g ≤ phase (exit_of p g) z) (sym (own-there g s past e))
      (le_refl _)
]

-- where no hart is past phase q, no write is
pub all-up_to : (p : Program) (q b : ℕ) (past : List Step) → Always (λ before s. hart_of s < harts p) past
    → ((g : ℕ) → g < harts p → phase_of p past g ≤ q) → UpTo p q b past
all-up_to p q b [] only f = tt
all-up_to p q b (s ∷ past) only f =
    let most = f (hart_of s) only.0 in
    let le = phase_of-le p (hart_of s) s past in (
      inr (omega arith),
      all-up_to p q b past only.1 (λ k l. let x = f k l in let y = phase_of-le p k s past in
          omega arith),
    )

-- A hart that hasn't signalled in its phase is behind no other.
none-ahead : (p : Program) → Formed p → (h : ℕ) → h < harts p → (past : List Step) → Told p past
    → signalled p h (own h past) ≡ false → (g : ℕ) → g < harts p → phase_of p past g ≤ phase_of p past h
none-ahead p formed h l past t quiet g m = elim (cases_eq g h) [
  | inl e ↦ subst (λ (n : ℕ). phase_of p past n ≤ phase_of p past h) (sym e) (le_refl _)
  | inr n ↦
      let a = phases-le p formed g h m l (λ e. n (sym e)) past t in
      let c = quiet-count p h (own h past) (t.keep h l) quiet in
      omega arith
]

may-right : (p : Program) (s : Step) (past : List Step) → AreRight p (s ∷ past) → (b w : ℕ) → written (access_of s) b
    ≡ Some w → may_write p (phase_of p past (hart_of s)) (hart_of s) b ≡ true
may-right p s past r b w e = writes-may (λ c. may_write p (phase_of p past (hart_of s)) (hart_of s) c
    ≡ true) (access_of s) b w r.0 e

pub ordered : (p : Program) → Formed p → (b : ℕ) (steps : List Step) → Told p steps → AreRight p steps
    → Always (Ordered p b) steps
ordered p formed b [] t r = tt
ordered p formed b (s ∷ past) t r =
    let h = hart_of s in
    let before = told-before p s past t in
    let k : BarrierKept p h (s ∷ own h past) = subst (BarrierKept p h) (own-here h s past refl) (t.keep h t.only.0) in (
      record {
        may = may-right p s past r b;
        sorted = λ w e. elim (cases_Bool (signalled p h (own h past))) [
          | inl y ↦ let none = still-writes p h b (access_of s) (k.0.still y) in cc
          | inr y ↦ all-up_to p (phase_of p past h) b past before.only (none-ahead p formed h t.only.0 past before y)
        ];
      },
      ordered p formed b past before r.1,
    )

-- ---- what a legal run owes

-- what a hart may not write in phase q it hasn't written there
unwritten : (p : Program) (q b h : ℕ) (past : List Step) → AreRight p past → may_write p q h b ≡ false
    → wrote p past q b h ≡ None
unwritten p q b h [] r n = refl
unwritten p q b h (s ∷ past) r n = by (written (access_of s) b) refl (unwritten p q b h past r.1 n)
  where
    by : (o : Option ℕ) → written (access_of s) b ≡ o → wrote p past q b h ≡ None → wrote p (s ∷ past) q b h ≡ None
    by None w rest = wrote-miss p q b h s past w ∙ rest
    by (Some w) is rest = elim (cases_eq (hart_of s) h) [
      | inr d ↦ wrote-there p q b h s past d ∙ rest
      | inl e ↦
          let may : may_write p (phase_of p past h) h b ≡ true =
          subst (λ (g : ℕ). may_write p (phase_of p past g) g b ≡ true) e (may-right p s past r b w is) in
          wrote-other p q b h s past e (λ same. false≢true
          (sym n ∙ (ap (λ (m : ℕ). may_write p m h b) (sym same) ∙ may))) ∙ rest
    ]

is-not : (g h : ℕ) → not (g == h) ≡ false → g ≡ h
is-not g h e = eqb-true g h (not-false (g == h) e)

-- where no other hart may write, what is owed is what settles with this phase, whatever tells what each wrote
pub owed-settled : (p : Program) (f : ℕ → Option ℕ) (x : Option ℕ) (h q b v : ℕ) → h < harts p
    → (may_write p q h b ≡ false → f h ≡ None) → another h (writers p q b) ≡ false
    → or_else (f h) x ≡ Some v → settle f x (writers p q b) ≡ Some v
owed-settled p f x h q b v l r alone e = by (writers p q b) refl
  where
    none : writers p q b ≡ [] → (t : Bool) → may_write p q h b ≡ t → may_write p q h b ≡ false
    none is true y = absurd (subst (Among h) is (among-writers p q b h l y))
    none is false y = y

    by : (ws : List ℕ) → writers p q b ≡ ws → settle f x (writers p q b) ≡ Some v
    by [] is =
        let no = r (none is (may_write p q h b) refl) in
        ap (settle f x) is ∙ (sym (ap (λ (o : Option ℕ). or_else o x) no) ∙ e)
    by (g ∷ []) is =
        let a : another h (g ∷ []) ≡ false = sym (ap (another h) is) ∙ alone in
        let same : g ≡ h = is-not g h (or_parts (not (g == h)) false a).0 in
        ap (settle f x) is ∙ (ap (λ (k : ℕ). or_else (f k) x) same ∙ e)
    by (g ∷ k ∷ ws) is =
        let a : another h (g ∷ k ∷ ws) ≡ false = sym (ap (another h) is) ∙ alone in
        let y = or_parts (not (g == h)) (not (k == h) || another h ws) a in
        let z = or_parts (not (k == h)) (another h ws) y.1 in
        let lt = writers-rise p q b g k ws is in
        let eg = is-not g h y.0 in
        let ek = is-not k h z.0 in
        absurd (omega arith)

pub if-owed : (t : Bool) (o : Option ℕ) (u : ℕ) → ((v : ℕ) → t ≡ false → o ≡ Some v → u ≡ v)
    → IfSome (if t then None else o) (λ v. u ≡ v)
if-owed true o u f = tt
if-owed false None u f = tt
if-owed false (Some v) u f = f v refl refl

-- what hart h is owed at b, where no write of b is ahead of it
owed-last : (p : Program) → Formed p → (past : List Step) → Told p past → AreRight p past → (h b u : ℕ) → h < harts p
    → UpTo p (phase_of p past h) b past
    → u ≡ held p past b → IfSome (legal_owed p past h (phase_of p past h) b) (λ v. u ≡ v)
owed-last p formed past t r h b u l up e =
    let q = phase_of p past h in
    if-owed (another h (writers p q b)) (or_else (wrote p past q b h) (settled p past q b)) u
    (λ v alone owed. e ∙ sym (settled-held p q b v past t.only (ordered p formed b past t r) up
    (owed-settled p (wrote p past q b) (settled p past q b) h q b v l (unwritten p q b h past r) alone owed)))

-- ---- a read by a hart that has signalled

-- where all writes of b are h's, none is ahead of it
own-up_to : (p : Program) (h b q : ℕ) (past : List Step) → Always (λ before s. hart_of s < harts p) past
    → AreRight p past
    → ((n g : ℕ) → g < harts p → may_write p n g b ≡ true → g ≡ h) → phase_of p past h ≤ q → UpTo p q b past
own-up_to p h b q [] only r own' l = tt
own-up_to p h b q (s ∷ past) only r own' l =
    let more = phase_of-le p h s past in
    let below_it : phase_of p past h ≤ q = omega arith in
    (by (written (access_of s) b) refl below_it, own-up_to p h b q past only.1 r.1 own' below_it)
  where
    by : (o : Option ℕ) → written (access_of s) b ≡ o → phase_of p past h ≤ q → (written (access_of s) b ≡ None)
        ⊎ (phase_of p past (hart_of s) ≤ q)
    by None w k = inl w
    by (Some w) is k =
        inr (subst (λ (g : ℕ). phase_of p past g ≤ q)
        (sym (own' (phase_of p past (hart_of s)) (hart_of s) only.0 (may-right p s past r b w is))) k)

pub another-true : (g h : ℕ) (ws : List ℕ) → Among g ws → (g ≡ h → ⊥) → another h ws ≡ true
another-true g h [] a n = absurd a
another-true g h (k ∷ ws) (inl e) n =
    or_left (not (k == h)) (another h ws) (not_from_false (k == h) (ne_eqb k h (λ x. n (e ∙ x))))
another-true g h (k ∷ ws) (inr a) n = or_right (not (k == h)) (another h ws) (another-true g h ws a n)

pub if-other : (t : Bool) (o : Option ℕ) (P : ℕ → Type 0) → t ≡ true → IfSome (if t then None else o) P
if-other true o P e = tt
if-other false o P e = absurd (false≢true e)

pub some-flag : (b : ℕ) (hs : List ℕ) → any (λ g. is_flag g b) hs ≡ true → (g : ℕ) × Among g hs × (is_flag g b ≡ true)
some-flag b [] e = absurd (false≢true e)
some-flag b (g ∷ gs) e = elim (or_cases (is_flag g b) (any (λ k. is_flag k b) gs) e) [
  | inl t ↦ (g, inl refl, t)
  | inr t ↦ let (k, a, f) = some-flag b gs t in (k, inr a, f)
]

-- one byte of its flags or its private area
still-legal : (p : Program) → Formed p → (past : List Step) → Told p past → AreRight p past → (h b u : ℕ) → h < harts p
    → IsTrue (is_private h b || any (λ g. is_flag g b) (count_from 0 (harts p)))
    → u ≡ held p past b → IfSome (legal_owed p past h (phase_of p past h) b) (λ v. u ≡ v)
still-legal p formed past t r h b u l which e =
    elim (or_cases (is_private h b) (any (λ g. is_flag g b) (count_from 0 (harts p))) which) [
      | inl y ↦ mine (λ n g m may. private-owner p n h g b formed l m y may)
      | inr y ↦ flag (some-flag b (count_from 0 (harts p)) y)
    ]
  where
    mine : ((n g : ℕ) → g < harts p → may_write p n g b ≡ true → g ≡ h)
        → IfSome (legal_owed p past h (phase_of p past h) b) (λ v. u ≡ v)
    mine one = owed-last p formed past t r h b u l (own-up_to p h b (phase_of p past h) past t.only r one (le_refl _)) e

    flag : (g : ℕ) × Among g (count_from 0 (harts p)) × (is_flag g b ≡ true)
        → IfSome (legal_owed p past h (phase_of p past h) b) (λ v. u ≡ v)
    flag (g, among, is) =
        let few : g < harts p = let k = among-least g 0 (harts p) among in omega arith in
        elim (cases_eq g h) [
          | inl same ↦ mine (λ n k m may. flag-owner p n g k b formed few m is may ∙ same)
          | inr other ↦
              let q = phase_of p past h in
              if-other (another h (writers p q b)) (or_else (wrote p past q b h) (settled p past q b)) (λ v. u
              ≡ v) (another-true g h (writers p q b) (among-writers p q b g few (flag-mine p q g b is)) other)
        ]

-- ---- a step

byte-legal : (p : Program) → Formed p → (past : List Step) → Told p past → AreRight p past → (h b u : ℕ) → h < harts p
    → (signalled p h (own h past) ≡ true → IsTrue (is_private h b || any (λ g. is_flag g b) (count_from 0 (harts p))))
    → u ≡ held p past b → IfSome (legal_owed p past h (phase_of p past h) b) (λ v. u ≡ v)
byte-legal p formed past t r h b u l still e = elim (cases_Bool (signalled p h (own h past))) [
  | inl y ↦ still-legal p formed past t r h b u l (still y) e
  | inr y ↦ owed-last p formed past t r h b u l (all-up_to p (phase_of p past h) b past t.only
      (none-ahead p formed h l past t y)) e
]

-- A step that reads what was written last, and is still where its hart has signalled, reads what a legal run may.
pub reads-legal : (p : Program) → Formed p → (past : List Step) → Told p past → AreRight p past → (h : ℕ) → h < harts p
    → (a : Access)
    → (signalled p h (own h past) ≡ true → IsStill p h a) → Reads (plain_owed p past) a
    → Reads (legal_owed p past h (phase_of p past h)) a
reads-legal p formed past t r h l Quiet still f = tt
reads-legal p formed past t r h l (Write addr width value) still f = tt
reads-legal p formed past t r h l (Read addr width value) still f =
    λ i m. byte-legal p formed past t r h (addr + i) (byte_of value i) l (λ y. still y i m) (f i m)
