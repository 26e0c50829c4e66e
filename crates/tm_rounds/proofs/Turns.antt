-- In round order whoever is behind all others makes a step in each round, which is work but for three of its steps
-- since it stopped waiting: so rounds are paid by work, but for three in each phase.
use Rattle.std.proofs.Common.{◌≡◌, ℕ, zero, suc, ◌+◌, ◌-◌, ◌*◌, ◌<◌, ◌≤◌, List, ◌∷◌, length, inl, inr, refl, sym}
use Rattle.std.proofs.Common.{ap, ◌∙◌, subst, arith, le_refl, false}
use Rattle.std.proofs.lemmas.Bool.{cond-true, cases_Bool, cases_eq, cases_lt, false_from_ne_true}
use Rattle.tm_plan_cases.specs.declared.program.Program.{Program}
use Rattle.tm_plan_cases.specs.Collected.{sum_of}
use Rattle.tm_base.specs.Lists.{count_from}
use Rattle.tm_world.specs.Place.{harts, halt_of}
use Rattle.tm_world.specs.Run.{Step, Always, hart_of, own, now, first_state, access_of}
use Rattle.tm_world.specs.Kinds.{flag_writes, writes_flag}
use Rattle.tm_world.specs.Work.{is_idle_read, work_steps}
use Rattle.tm_legal.proofs.Own.{own-here, own-there}
use Rattle.tm_memory.specs.Meet.{AllMeet}
use Rattle.tm_memory.specs.Memory.{OneMemory}
use Rattle.tm_meet.specs.Waits.{IsHalted}
use Rattle.tm_meet.proofs.Counts.{one, signalled, counted, writes-le, writes-same}
use Rattle.tm_meet.proofs.Told.{told, told-before}
use Rattle.tm_meet.proofs.Meeting.{flags}
use Rattle.tm_meet.proofs.Waiting.{idle-waits}
use Rattle.tm_pace.specs.Laws.{NoIdleRead}
use Rattle.tm_pace.proofs.Budget.{own-quiet, lately-quiet, all-work, own-lengths}
use Rattle.tm_pace.proofs.Sums.{sum-same}
use Rattle.tm_rounds.specs.Turns.{run_with, Turns, Begins, Steps, Skips, Wraps}
use Rattle.tm_rounds.proofs.Lag.{lag, lag-most, lag-none, paid, work-le}

-- ---- all work

-- how many steps of all harts are work
abbrev pub total : Program → List Step → ℕ
total p steps = sum_of (λ h. work_steps p h (own h steps)) (count_from 0 (harts p))

-- sums that differ in one number
sum-moved : (f g : ℕ → ℕ) (m a n : ℕ) → a ≤ m → m < a + n → ((q : ℕ) → (q ≡ m → ⊥) → f q ≡ g q)
    → sum_of f (count_from a n) + g m ≡ sum_of g (count_from a n) + f m
sum-moved f g m a zero l k h = absurd (omega arith)
sum-moved f g m a (suc n) l k h = elim (cases_eq a m) [
  | inl s ↦
      let x = ap f s in
      let y = ap g s in
      let z = sum-same f g (suc a) n (λ q r _. h q (λ z. omega arith)) in
      omega arith
  | inr d ↦
      let x = h a d in
      let y = sum-moved f g m (suc a) n (omega arith) (omega arith) h in
      omega arith
]

-- a step counts among its hart's alone
pub total-step : (p : Program) (s : Step) (past : List Step) → hart_of s < harts p
    → total p (s ∷ past) + work_steps p (hart_of s) (own (hart_of s) past)
    ≡ total p past + work_steps p (hart_of s) (s ∷ own (hart_of s) past)
total-step p s past l =
    sum-moved (λ k. work_steps p k (own k (s ∷ past))) (λ k. work_steps p k (own k past)) (hart_of s) 0 (harts p)
    (omega arith) (omega (arith, l)) (λ q n. ap (work_steps p q) (own-there q s past (λ e. n (sym e))))
    ∙ ap (λ (xs : List Step). total p past + work_steps p (hart_of s) xs) (own-here (hart_of s) s past refl)

pub total-le : (p : Program) (s : Step) (past : List Step) → hart_of s < harts p → total p past ≤ total p (s ∷ past)
total-le p s past l =
    let a = total-step p s past l in
    let b = work-le p (hart_of s) s (own (hart_of s) past) in
    omega arith

-- Steps without an idle read are all work.
total-quiet : (p : Program) (steps : List Step) → NoIdleRead p steps → Always (λ past s. hart_of s < harts p) steps
    → length steps ≡ total p steps
total-quiet p steps quiet only =
    own-lengths (harts p) steps only
    ∙ sum-same (λ h. length (own h steps)) (λ h. work_steps p h (own h steps)) 0 (harts p)
    (λ h _ _. sym (all-work p h (own h steps) (own-quiet p h steps quiet)))

-- ---- flags

pub flags-there : (g : ℕ) (s : Step) (past : List Step) → (hart_of s ≡ g → ⊥) → flags g (s ∷ past) ≡ flags g past
flags-there g s past n = ap (flag_writes g) (own-there g s past n)

pub flags-le : (s : Step) (past : List Step) → flags (hart_of s) past ≤ flags (hart_of s) (s ∷ past)
flags-le s past =
    let l = writes-le (hart_of s) s (own (hart_of s) past) in
    let e = ap (flag_writes (hart_of s)) (own-here (hart_of s) s past refl) in
    omega arith

-- one more at most
pub flags-one : (s : Step) (past : List Step) → flags (hart_of s) (s ∷ past) ≤ flags (hart_of s) past + 1
flags-one s past =
    let h = hart_of s in
    let e = ap (flag_writes h) (own-here h s past refl) in
    elim (cases_Bool (writes_flag h (access_of s))) [
      | inl t ↦
          let m : flag_writes h (s ∷ own h past) ≡ suc (flag_writes h (own h past)) =
          cond-true (writes_flag h (access_of s)) (suc (flag_writes h (own h past))) (flag_writes h (own h past)) t in
          omega arith
      | inr f ↦ let m = writes-same h s (own h past) f in omega arith
    ]

-- No hart has written its flag less often than hart k.
abbrev pub Least : Program → List Step → ℕ → Type 0
Least p steps k = (g : ℕ) → g < harts p → flags k steps ≤ flags g steps

-- ---- turns

-- turns that hart k has had where j rounds are over and hart h's turn is next
abbrev pub turns : ℕ → ℕ → ℕ → ℕ
turns j h k = j + (1 - (k + 1 - h))

-- In round order, after j rounds and with hart h's turn next: each turn makes a step at most; and a hart that isn't at
-- halt, and that no other is behind, has had no more turns than there was work since, but for three turns in each
-- phase that all have left.
pub record Paced (p : Program) (o : ℕ → List ℕ) (from : List Step) (j h : ℕ) (steps : List Step) : Type 0 where
  pub within : h ≤ harts p
  pub long : length steps ≤ length from + j * harts p + h
  pub each : (k : ℕ) → k < harts p → (¬ IsHalted p (run_with o steps) k) → Least p steps k
      → turns j h k + lag p k 3 (own k steps) + length from ≤ total p steps + 3 * flags k steps

module _ (p : Program) (m : AllMeet p) (o : ℕ → List ℕ) (from : List Step) where
  earlier : (s : Step) (past : List Step) → OneMemory p (run_with o (s ∷ past)) → OneMemory p (run_with o past)
  earlier s past r = record { opening = r.opening; only = r.only.1; steps = r.steps.1 }

  -- ---- one step

  -- who is behind all others doesn't read idly
  not-idle : (s : Step) (past : List Step) → OneMemory p (run_with o (s ∷ past)) → Least p past (hart_of s)
      → is_idle_read p (hart_of s) (own (hart_of s) past) s ≡ false
  not-idle s past memory least = false_from_ne_true _ (λ e.
      let h = hart_of s in
      let r = run_with o (s ∷ past) in
      let w = (idle-waits p m r memory).0 e in
      let t = told-before p s past (told p m r memory) in
      let d = counted p h (own h past) (t.keep h memory.only.0) in
      let z : one (signalled p h (own h past)) ≡ 1 = ap one w.signalled in
      let a = least w.other w.few in
      let b = w.behind in
      absurd (omega arith))

  -- its step is work, or makes its lag less
  gain : (s : Step) (past : List Step) → OneMemory p (run_with o (s ∷ past)) → Least p past (hart_of s)
      → total p past + 1 + lag p (hart_of s) 3 (own (hart_of s) (s ∷ past))
      ≤ total p (s ∷ past) + lag p (hart_of s) 3 (own (hart_of s) past)
  gain s past memory least =
      let h = hart_of s in
      let a = paid p h s (own h past) (not-idle s past memory least) in
      let b = total-step p s past memory.only.0 in
      let c = ap (lag p h 3) (own-here h s past refl) in
      omega arith

  pub least-own : (s : Step) (past : List Step) → Least p (s ∷ past) (hart_of s) → Least p past (hart_of s)
  least-own s past least g l = elim (cases_eq (hart_of s) g) [
    | inl e ↦ subst (λ (x : ℕ). flags (hart_of s) past ≤ flags x past) e (le_refl _)
    | inr n ↦
        let a = least g l in
        let b = flags-le s past in
        let c = flags-there g s past n in
        omega arith
  ]

  each-own : (j : ℕ) (s : Step) (past : List Step) → Paced p o from j (hart_of s) past
      → OneMemory p (run_with o (s ∷ past)) → (¬ IsHalted p (run_with o past) (hart_of s))
      → Least p (s ∷ past) (hart_of s)
      → turns j (suc (hart_of s)) (hart_of s) + lag p (hart_of s) 3 (own (hart_of s) (s ∷ past)) + length from
      ≤ total p (s ∷ past) + 3 * flags (hart_of s) (s ∷ past)
  each-own j s past known memory off least =
      let h = hart_of s in
      let before = least-own s past least in
      let g = gain s past memory before in
      let k = known.each h memory.only.0 off before in
      let f = flags-le s past in
      omega arith

  -- a hart that doesn't make the step is off halt before it too
  pub off-there : (k : ℕ) (s : Step) (past : List Step) → (hart_of s ≡ k → ⊥)
      → (¬ IsHalted p (run_with o (s ∷ past)) k) → ¬ IsHalted p (run_with o past) k
  off-there k s past n off z =
      off (subst (λ (xs : List Step). (now (first_state (o k)) xs).pc ≡ halt_of p k) (sym (own-there k s past n)) z)

  -- another hart than the one that makes the step: it was the last one before, or that one was
  each-other : (j : ℕ) (s : Step) (past : List Step) → Paced p o from j (hart_of s) past
      → OneMemory p (run_with o (s ∷ past)) → (¬ IsHalted p (run_with o past) (hart_of s)) → (k : ℕ) → k < harts p
      → (hart_of s ≡ k → ⊥) → (¬ IsHalted p (run_with o (s ∷ past)) k) → Least p (s ∷ past) k
      → turns j (suc (hart_of s)) k + lag p k 3 (own k (s ∷ past)) + length from
      ≤ total p (s ∷ past) + 3 * flags k (s ∷ past)
  each-other j s past known memory goes k l n off least =
      let h = hart_of s in
      let same = flags-there k s past n in
      let lags = ap (lag p k 3) (own-there k s past n) in
      elim (cases_lt (flags h past) (flags k past)) [
        | inl less ↦
            let last : Least p past h = λ g few. elim (cases_eq h g) [
              | inl e ↦ subst (λ (x : ℕ). flags h past ≤ flags x past) e (le_refl _)
              | inr d ↦ let a = least g few in let b = flags-there g s past d in omega arith
            ] in
            let w = gain s past memory last in
            let x = known.each h memory.only.0 goes last in
            let y = least h memory.only.0 in
            let z = flags-one s past in
            let most = lag-most p k 3 (own k (s ∷ past)) in
            omega arith
        | inr some ↦
            let last : Least p past k = λ g few. elim (cases_eq h g) [
              | inl e ↦ subst (λ (x : ℕ). flags k past ≤ flags x past) e some
              | inr d ↦ let a = least g few in let b = flags-there g s past d in omega arith
            ] in
            let x = known.each k l (off-there k s past n off) last in
            let y = total-le p s past memory.only.0 in
            let d : turns j (suc h) k ≤ turns j h k = by h k n in
            omega arith
      ]
    where
      by : (h k : ℕ) → (h ≡ k → ⊥) → turns j (suc h) k ≤ turns j h k
      by h k n = elim (cases_lt h k) [ inl l ↦ omega arith | inr l ↦ omega arith ]

  step-paced : (j : ℕ) (s : Step) (past : List Step) → Paced p o from j (hart_of s) past
      → OneMemory p (run_with o (s ∷ past)) → (¬ IsHalted p (run_with o past) (hart_of s))
      → Paced p o from j (suc (hart_of s)) (s ∷ past)
  step-paced j s past known memory goes = record {
    within = memory.only.0;
    long = omega (arith, known.long);
    each = λ k l off least. elim (cases_eq (hart_of s) k) [
      | inl e ↦
          let At : ℕ → Type 0 = λ x. Least p (s ∷ past) x
          → turns j (suc (hart_of s)) x + lag p x 3 (own x (s ∷ past)) + length from
          ≤ total p (s ∷ past) + 3 * flags x (s ∷ past) in
          subst At e (each-own j s past known memory goes) least
      | inr n ↦ each-other j s past known memory goes k l n off least
    ];
  }

  -- ---- turns without a step

  skip-paced : (j h : ℕ) (past : List Step) → Paced p o from j h past → h < harts p
      → IsHalted p (run_with o past) h → Paced p o from j (suc h) past
  skip-paced j h past known l halted = record {
    within = l;
    long = omega (arith, known.long);
    each = λ k few off least. elim (cases_eq h k) [
      | inl e ↦ absurd (off (subst (λ (x : ℕ). IsHalted p (run_with o past) x) e halted))
      | inr n ↦
          let x = known.each k few off least in
          let d : turns j (suc h) k ≤ turns j h k = by h k n in
          omega arith
    ];
  }
    where
      by : (h k : ℕ) → (h ≡ k → ⊥) → turns j (suc h) k ≤ turns j h k
      by h k n = elim (cases_lt h k) [ inl l ↦ omega arith | inr l ↦ omega arith ]

  wrap-paced : (j : ℕ) (past : List Step) → Paced p o from j (harts p) past → Paced p o from (suc j) 0 past
  wrap-paced j past known = record {
    within = omega arith;
    long = omega (arith, known.long);
    each = λ k few off least. omega (arith, known.each k few off least, few);
  }

  begin-paced : NoIdleRead p from → OneMemory p (run_with o from) → Paced p o from 0 0 from
  begin-paced quiet memory = record {
    within = omega arith;
    long = omega arith;
    each = λ k few off least.
        let none = lag-none p k 3 (own k from) (lately-quiet p k 3 (own k from) (own-quiet p k from quiet)) in
        let all = total-quiet p from quiet memory.only in
        omega arith;
  }

  pub paced : NoIdleRead p from → (h : ℕ) (steps : List Step) → Turns p o from h steps → OneMemory p (run_with o steps)
      → (j : ℕ) × Paced p o from j h steps
  paced quiet h steps Begins memory = (0, begin-paced quiet memory)
  paced quiet h steps (Steps {past = past} s b l off) memory =
      let (j, known) = paced quiet (hart_of s) past b (earlier s past memory) in
      (j, step-paced j s past known memory off)
  paced quiet h steps (Skips {h = k} {past = past} b l halted) memory =
      let (j, known) = paced quiet k past b memory in
      (j, skip-paced j k past known l halted)
  paced quiet h steps (Wraps {past = past} b) memory =
      let (j, known) = paced quiet (harts p) past b memory in
      (suc j, wrap-paced j past known)
