-- A hart that keeps the barrier has written its flag once in each phase that it has left, and once more where it has
-- signalled in this one.
use Rattle.std.proofs.Common.{◌≡◌, ◌≢◌, ℕ, suc, ◌+◌, ◌<◌, ◌≤◌, List, [], ◌∷◌, Bool, true, false, ◌||◌, ◌==◌, inl, inr}
use Rattle.std.proofs.Common.{refl, sym, ap, ◌∙◌, subst, arith, eqb-true}
use Rattle.std.specs.Prelude.{if◌then◌else◌}
use Rattle.std.proofs.lemmas.Bool.{cond-true, cond-false, cases_Bool, cases_eq, or_left, or_cases}
use Rattle.tm_plan_cases.specs.declared.program.Program.{Program}
use Rattle.tm_base.specs.Lists.{any}
use Rattle.tm_world.specs.Place.{exit_of}
use Rattle.tm_world.specs.Run.{Step, Always, pc_of, access_of, phase, in_phase}
use Rattle.tm_world.specs.Kinds.{flag_writes, writes_flag}
use Rattle.tm_world.specs.Course.{Barrier, signals, this_phase, last_phase}
use Rattle.tm_legal.proofs.Phases.{phase-exit, phase-other, in_phase-here, in_phase-there, in_phase-above}
use Rattle.tm_memory.proofs.Accesses.{still-flags}

-- the hart keeps the barrier
abbrev pub BarrierKept : Program → ℕ → List Step → Type 0
BarrierKept p h = Always (λ past s. Barrier p h (phase (exit_of p h) past) past s)

-- it has signalled in this phase
abbrev pub signalled : Program → ℕ → List Step → Bool
signalled p h own = any (signals h) (this_phase p h own)

-- one where the test holds
abbrev pub one : Bool → ℕ
one b = if b then 1 else 0

-- ---- one step more

writes-more : (h : ℕ) (s : Step) (past : List Step) → signals h s ≡ true → flag_writes h (s ∷ past)
    ≡ suc (flag_writes h past)
writes-more h s past e = cond-true (writes_flag h (access_of s)) (suc (flag_writes h past)) (flag_writes h past) e

pub writes-same : (h : ℕ) (s : Step) (past : List Step) → signals h s ≡ false → flag_writes h (s ∷ past)
    ≡ flag_writes h past
writes-same h s past e = cond-false (writes_flag h (access_of s)) (suc (flag_writes h past)) (flag_writes h past) e

pub writes-le : (h : ℕ) (s : Step) (past : List Step) → flag_writes h past ≤ flag_writes h (s ∷ past)
writes-le h s past = elim (cases_Bool (signals h s)) [
  | inl t ↦ omega (arith, writes-more h s past t)
  | inr f ↦ omega (arith, writes-same h s past f)
]

-- a new phase begins without steps
pub this_phase-exit : (p : Program) (h : ℕ) (s : Step) (past : List Step) → (pc_of s == exit_of p h) ≡ true
    → this_phase p h (s ∷ past) ≡ []
this_phase-exit p h s past e =
    let x = exit_of p h in
    ap (λ (q : ℕ). in_phase x q (s ∷ past)) (phase-exit x s past e)
    ∙ (in_phase-there x (suc (phase x past)) s past (λ u. omega arith) ∙ in_phase-above x (suc (phase x past)) past
    (omega arith))

pub this_phase-other : (p : Program) (h : ℕ) (s : Step) (past : List Step) → (pc_of s == exit_of p h) ≡ false
    → this_phase p h (s ∷ past) ≡ s ∷ this_phase p h past
this_phase-other p h s past e =
    let x = exit_of p h in
    ap (λ (q : ℕ). in_phase x q (s ∷ past)) (phase-other x s past e) ∙ in_phase-here x (phase x past) s past refl

-- ---- the count

-- phases left, and one more where it has signalled in this one
abbrev due : Program → ℕ → List Step → ℕ
due p h own = phase (exit_of p h) own + one (signalled p h own)

pub counted : (p : Program) (h : ℕ) (own : List Step) → BarrierKept p h own → flag_writes h own ≡ due p h own
counted p h [] k = omega arith
counted p h (s ∷ past) k =
    let x = exit_of p h in
    let before : flag_writes h past ≡ due p h past = counted p h past k.1 in
    elim (cases_Bool (pc_of s == x)) [
      | inl t ↦
          let sig = (k.0.leave (eqb-true _ _ t)).signalled in
          let next : phase x (s ∷ past) ≡ suc (phase x past) = phase-exit x s past t in
          let was : one (signalled p h past) ≡ 1 = ap one sig in
          let none : one (signalled p h (s ∷ past)) ≡ 0 =
          ap (λ (l : List Step). one (any (signals h) l)) (this_phase-exit p h s past t) in
          let same = writes-same h s past (still-flags p h h (access_of s) (k.0.still sig)) in
          omega arith
      | inr f ↦
          let next : phase x (s ∷ past) ≡ phase x past = phase-other x s past f in
          let now : signalled p h (s ∷ past) ≡ (signals h s || signalled p h past) =
          ap (any (signals h)) (this_phase-other p h s past f) in
          elim (cases_Bool (signals h s)) [
            | inl t ↦
                let more = writes-more h s past t in
                let was : one (signalled p h past) ≡ 0 = ap one (k.0.signal t).once in
                let is : one (signalled p h (s ∷ past)) ≡ 1 =
                ap one (now ∙ or_left (signals h s) (signalled p h past) t) in
                omega arith
            | inr g ↦
                let same = writes-same h s past g in
                let is : one (signalled p h (s ∷ past)) ≡ one (signalled p h past) =
                ap one (now ∙ ap (λ (b : Bool). b || signalled p h past) g) in
                omega arith
          ]
    ]

-- Before it signals in its phase it has written its flag as often as it has left phases.
pub quiet-count : (p : Program) (h : ℕ) (own : List Step) → BarrierKept p h own → signalled p h own ≡ false
    → flag_writes h own ≡ phase (exit_of p h) own
quiet-count p h own k f = let z : one (signalled p h own) ≡ 0 = ap one f in let d = counted p h own k in omega arith

-- Whoever signals in phase q has then written its flag q + 1 times.
pub signal-count : (p : Program) (h : ℕ) (s : Step) (past : List Step) → BarrierKept p h (s ∷ past) → signals h s ≡ true
    → flag_writes h (s ∷ past) ≡ phase (exit_of p h) past + 1
signal-count p h s past k t = let z = quiet-count p h past k.1 (k.0.signal t).once in
    omega (arith, writes-more h s past t)

-- ---- phases that are left

-- In each phase that it has left it has signalled.
pub left-signalled : (p : Program) (h q : ℕ) (own : List Step) → BarrierKept p h own → q < phase (exit_of p h) own
    → any (signals h) (in_phase (exit_of p h) q own) ≡ true
left-signalled p h q [] k l = absurd (omega arith)
left-signalled p h q (s ∷ past) k l =
    let x = exit_of p h in
    let goal : List Step → Type 0 = λ steps. any (signals h) steps ≡ true in
    elim (cases_eq (phase x past) q) [
      | inr n ↦ subst goal (sym (in_phase-there x q s past n)) (left-signalled p h q past k.1 (before s past q l n))
      | inl e ↦
          let out : (pc_of s == x) ≡ true = leaves s past q l e in
          let sig : any (signals h) (in_phase x q past) ≡ true =
          subst (λ (n : ℕ). any (signals h) (in_phase x n past) ≡ true) e (k.0.leave (eqb-true _ _ out)).signalled
          in
          subst goal (sym (in_phase-here x q s past e)) (keep (signals h s) (any (signals h) (in_phase x q past)) sig)
    ]
  where
    keep : (a b : Bool) → b ≡ true → (a || b) ≡ true
    keep true b e = refl
    keep false b e = e

    before : (s : Step) (past : List Step) (q : ℕ) → q < phase (exit_of p h) (s ∷ past)
        → (phase (exit_of p h) past ≡ q → ⊥) → q < phase (exit_of p h) past
    before s past q l n = elim (cases_Bool (pc_of s == exit_of p h)) [
      | inl t ↦ omega (arith, phase-exit (exit_of p h) s past t)
      | inr f ↦ omega (arith, phase-other (exit_of p h) s past f)
    ]

    leaves : (s : Step) (past : List Step) (q : ℕ) → q < phase (exit_of p h) (s ∷ past) → phase (exit_of p h) past ≡ q
        → (pc_of s == exit_of p h) ≡ true
    leaves s past q l e = elim (cases_Bool (pc_of s == exit_of p h)) [
      | inl t ↦ t
      | inr f ↦ absurd (omega (arith, phase-other (exit_of p h) s past f))
    ]

-- ---- the last phase

-- no signal stands in the last phase
pub signals-more : (p : Program) (h q : ℕ) (own : List Step) → BarrierKept p h own
    → any (signals h) (in_phase (exit_of p h) q own) ≡ true → q ≢ last_phase p
signals-more p h q [] k e z = cc
signals-more p h q (s ∷ past) k e z = elim (cases_eq (phase (exit_of p h) past) q) [
  | inr n ↦ signals-more p h q past k.1 (subst (λ (l : List Step). any (signals h) l
      ≡ true) (in_phase-there (exit_of p h) q s past n) e) z
  | inl f ↦
      let here = subst (λ (l : List Step). any (signals h) l ≡ true) (in_phase-here (exit_of p h) q s past f) e in
      elim (or_cases (signals h s) (any (signals h) (in_phase (exit_of p h) q past)) here) [
        | inl y ↦ (k.0.signal y).more (f ∙ z)
        | inr y ↦ signals-more p h q past k.1 y z
      ]
]

-- so it is never left
pub phase-most : (p : Program) (h : ℕ) (own : List Step) → BarrierKept p h own → phase (exit_of p h) own ≤ last_phase p
phase-most p h [] k = omega arith
phase-most p h (s ∷ past) k =
    let before = phase-most p h past k.1 in
    elim (cases_Bool (pc_of s == exit_of p h)) [
      | inr f ↦ omega (arith, phase-other (exit_of p h) s past f)
      | inl t ↦
          let more : phase (exit_of p h) past ≢ last_phase p =
          signals-more p h (phase (exit_of p h) past) past k.1 (k.0.leave (eqb-true _ _ t)).signalled in
          omega (arith, phase-exit (exit_of p h) s past t)
    ]
