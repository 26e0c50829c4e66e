-- In rounds in whose every eighth signals land, whoever is behind all others makes a step in each round. It is work,
-- but for three steps since the hart stopped waiting, and but for the rounds in which it waits for signals to land: at
-- most 8 for each of its own. So rounds are paid by work, but for 16 for each signal of the last hart.
use Rattle.std.proofs.Common.{◌≡◌, ℕ, suc, ◌+◌, ◌*◌, ◌/◌, ◌%◌, ◌<◌, ◌≤◌, List, [], ◌∷◌, length, false, ◌⊎◌, inl, inr}
use Rattle.std.proofs.Common.{refl, sym, ap, ◌∙◌, subst, arith, le_refl}
use Rattle.std.proofs.lemmas.Bool.{cases_eq, cases_lt, false_from_ne_true}
use Rattle.tm_plan_cases.specs.declared.program.Program.{Program}
use Rattle.tm_world.specs.Place.{harts}
use Rattle.tm_world.specs.Run.{Step, hart_of, own}
use Rattle.tm_world.specs.Work.{is_idle_read}
use Rattle.tm_legal.proofs.Own.{own-here, own-there}
use Rattle.tm_memory.specs.Meet.{AllMeet}
use Rattle.tm_meet.specs.Waits.{IsHalted}
use Rattle.tm_meet.proofs.Counts.{one, signalled, counted}
use Rattle.tm_rounds.proofs.Lag.{lag, lag-most, lag-none, paid}
use Rattle.tm_rounds.proofs.Turns.{total, total-step, total-le, flags-there, flags-le, flags-one, Least, turns, least-own}
use Rattle.tm_rounds.proofs.Turns.{off-there}
use Rattle.tm_buffered.specs.Moments.{Moment, Makes, Drains, Buffered, opened_with, run_of, steps_of}
use Rattle.tm_buffered.specs.Signals.{made, landed}
use Rattle.tm_buffered.proofs.Halves.{made-before, drained-before}
use Rattle.tm_buffered.proofs.Told.{told}
use Rattle.tm_buffered.proofs.Landed.{landed-le}
use Rattle.tm_buffered_meet.proofs.Landing.{idle-waits}
use Rattle.tm_buffered_rounds.specs.Turns.{IsSwept, Turns, Begins, Drain, Steps, Skips, Wraps}

-- ---- hart k, which no other is behind

-- As many signals as it has made are in memory of each hart: its turns are paid.
pub record Settled (p : Program) (t h k : ℕ) (list : List Moment) : Type 0 where
  pub all : (g : ℕ) → g < harts p → made k list ≤ landed g list
  pub paid : turns t h k + lag p k 3 (own k (steps_of list)) ≤ total p (steps_of list) + 16 * made k list

-- They are in memory behind round `last`: the rounds until then are paid.
pub record Due (p : Program) (t h k : ℕ) (list : List Moment) : Type 0 where
  pub last : ℕ
  pub from : t ≤ last
  pub eighth : last % 8 ≡ 7
  pub swept : t ≡ last → (g : ℕ) → g < h → made k list ≤ landed g list
  pub paid : last + 4 ≤ total p (steps_of list) + 16 * made k list

-- In rounds, with hart h's turn in round t next: each turn makes a step at most; and a hart that isn't at halt, and
-- that no other is behind, is paid so.
pub record Paced (p : Program) (o : ℕ → List ℕ) (t h : ℕ) (list : List Moment) : Type 0 where
  pub within : h ≤ harts p
  pub long : length (steps_of list) ≤ t * harts p + h
  pub each : (k : ℕ) → k < harts p → (¬ IsHalted p (run_of (opened_with o list)) k) → Least p (steps_of list) k
      → Settled p t h k list ⊎ Due p t h k list

-- ---- numbers

-- the next eighth round
next-eighth : (t : ℕ) → (d : ℕ) × (t < d) × (d ≤ t + 8) × (d % 8 ≡ 7)
next-eighth t = (8 * ((t + 1) / 8) + 7, omega arith, omega arith, omega arith)

turns-there : (t h k : ℕ) → (h ≡ k → ⊥) → turns t (suc h) k ≤ turns t h k
turns-there t h k n = elim (cases_lt h k) [ inl l ↦ omega arith | inr l ↦ omega arith ]

-- By then what is paid is paid in either way.
pub early : (p : Program) (t h k : ℕ) (list : List Moment) → Settled p t h k list ⊎ Due p t h k list
    → t ≤ total p (steps_of list) + 16 * made k list
early p t h k list (inl x) = let a = x.paid in omega arith
early p t h k list (inr x) = let a = x.paid in let b = x.from in omega arith

-- behind hart h's turn in the last of these rounds, its signals are in memory
swept-more : (p : Program) (t h k n : ℕ) (before : List Moment) → IsSwept t h before → (x : Due p t h k before)
    → n ≤ made k before → n ≤ made h before → t ≡ x.last → (g : ℕ) → g < suc h → n ≤ landed g before
swept-more p t h k n before sw x few less e g l = elim (cases_eq g h) [
  | inl q ↦
      let z : made h before ≤ landed h before = sw (ap (λ (y : ℕ). y % 8) e ∙ x.eighth) in
      subst (λ (y : ℕ). n ≤ landed y before) (sym q) (omega arith)
  | inr d ↦ let a = x.swept e g (omega arith) in omega arith
]

-- ---- drains

drained : (p : Program) (t h k g w : ℕ) (before : List Moment) → Settled p t h k before ⊎ Due p t h k before
    → Settled p t h k (Drains g w ∷ before) ⊎ Due p t h k (Drains g w ∷ before)
drained p t h k g w before (inl x) = inl (record {
  all = λ j l. let a = x.all j l in let b = landed-le j (Drains g w) before in omega arith;
  paid = x.paid;
})
drained p t h k g w before (inr x) = inr (record {
  last = x.last;
  from = x.from;
  eighth = x.eighth;
  swept = λ e j l. let a = x.swept e j l in let b = landed-le j (Drains g w) before in omega arith;
  paid = x.paid;
})

-- ---- steps

-- where the last hart has signalled, the next one to be last has signals to wait for, for 8 rounds at most
entered : (p : Program) (t : ℕ) (s : Step) (before : List Moment) → hart_of s < harts p
    → Settled p t (hart_of s) (hart_of s) before ⊎ Due p t (hart_of s) (hart_of s) before → (k : ℕ)
    → made k (Makes s ∷ before) ≡ made (hart_of s) before + 1 → Due p t (suc (hart_of s)) k (Makes s ∷ before)
entered p t s before l known k is =
    let (d, behind, soon, eighth) = next-eighth t in
    let grows = total-le p s (steps_of before) l in
    let a = early p t (hart_of s) (hart_of s) before known in
    record {
      last = d;
      from = omega arith;
      eighth = eighth;
      swept = λ e g m. absurd (omega arith);
      paid = omega arith;
    }

module _ (p : Program) (m : AllMeet p) (o : ℕ → List ℕ) where
  -- who waits for no signal doesn't read idly
  not-idle : (s : Step) (before : List Moment) → Buffered p (opened_with o (Makes s ∷ before))
      → ((g : ℕ) → g < harts p → made (hart_of s) before ≤ landed g before)
      → is_idle_read p (hart_of s) (own (hart_of s) (steps_of before)) s ≡ false
  not-idle s before b all = false_from_ne_true _ (λ e.
      let h = hart_of s in
      let w = (idle-waits p m (opened_with o (Makes s ∷ before)) b).0 e in
      let t = told p m o before (made-before p o s before b) in
      let d = counted p h (own h (steps_of before)) (t.keep h b.paths.only.0) in
      let z : one (signalled p h (own h (steps_of before))) ≡ 1 = ap one w.signalled in
      let a = all w.other w.few in
      let x = w.behind in
      absurd (omega arith))

  -- so its step is work, or makes its lag less
  gain : (s : Step) (before : List Moment) → Buffered p (opened_with o (Makes s ∷ before))
      → ((g : ℕ) → g < harts p → made (hart_of s) before ≤ landed g before)
      → total p (steps_of before) + 1 + lag p (hart_of s) 3 (own (hart_of s) (s ∷ steps_of before))
      ≤ total p (s ∷ steps_of before) + lag p (hart_of s) 3 (own (hart_of s) (steps_of before))
  gain s before b all =
      let h = hart_of s in
      let past = steps_of before in
      let a = paid p h s (own h past) (not-idle s before b all) in
      let c = total-step p s past b.paths.only.0 in
      let d = ap (lag p h 3) (own-here h s past refl) in
      omega arith

  -- the hart that makes the step
  each-own : (t : ℕ) (s : Step) (before : List Moment) → Paced p o t (hart_of s) before
      → Buffered p (opened_with o (Makes s ∷ before))
      → (¬ IsHalted p (run_of (opened_with o before)) (hart_of s)) → IsSwept t (hart_of s) before
      → Least p (s ∷ steps_of before) (hart_of s)
      → Settled p t (suc (hart_of s)) (hart_of s) (Makes s ∷ before)
      ⊎ Due p t (suc (hart_of s)) (hart_of s) (Makes s ∷ before)
  each-own t s before known b off sw least =
      let h = hart_of s in
      let past = steps_of before in
      let l = b.paths.only.0 in
      let was = known.each h l off (least-own p m o [] s past least) in
      let more = flags-le s past in
      let most = flags-one s past in
      elim (cases_eq (made h (Makes s ∷ before)) (made h before)) [
        | inr n ↦ inr (entered p t s before l was h (omega arith))
        | inl same ↦ elim was [
          | inl x ↦ inl (record {
            all = λ g few. let a = x.all g few in omega arith;
            paid = let a = gain s before b x.all in let c = x.paid in omega arith;
          })
          | inr x ↦ inr (record {
            last = x.last;
            from = x.from;
            eighth = x.eighth;
            swept = swept-more p t h h (made h (Makes s ∷ before)) before sw x (omega arith) (omega arith);
            paid = let a = total-le p s past l in let c = x.paid in omega arith;
          })
        ]
      ]

  -- another one: it was the last one before, or that one was
  each-other : (t : ℕ) (s : Step) (before : List Moment) → Paced p o t (hart_of s) before
      → Buffered p (opened_with o (Makes s ∷ before))
      → (¬ IsHalted p (run_of (opened_with o before)) (hart_of s)) → IsSwept t (hart_of s) before → (k : ℕ)
      → k < harts p → (hart_of s ≡ k → ⊥) → (¬ IsHalted p (run_of (opened_with o (Makes s ∷ before))) k)
      → Least p (s ∷ steps_of before) k
      → Settled p t (suc (hart_of s)) k (Makes s ∷ before) ⊎ Due p t (suc (hart_of s)) k (Makes s ∷ before)
  each-other t s before known b goes sw k few n off least =
      let h = hart_of s in
      let past = steps_of before in
      let l = b.paths.only.0 in
      let same : made k (Makes s ∷ before) ≡ made k before = flags-there k s past n in
      let lags = ap (lag p k 3) (own-there k s past n) in
      let grows = total-le p s past l in
      elim (cases_lt (made h before) (made k before)) [
        | inl less ↦
            let last : Least p past h = λ g c. elim (cases_eq h g) [
              | inl e ↦ subst (λ (x : ℕ). made h before ≤ made x before) e (le_refl _)
              | inr d ↦ let a = least g c in let z = flags-there g s past d in omega arith
            ] in
            let y = least h l in
            let z = flags-one s past in
            inr (entered p t s before l (known.each h l goes last) k (omega arith))
        | inr some ↦
            let last : Least p past k = λ g c. elim (cases_eq h g) [
              | inl e ↦ subst (λ (x : ℕ). made k before ≤ made x before) e some
              | inr d ↦ let a = least g c in let z = flags-there g s past d in omega arith
            ] in
            let fewer = turns-there t h k n in
            elim (known.each k few (off-there p m o [] k s past n off) last) [
              | inl x ↦ inl (record {
                all = λ g c. let a = x.all g c in omega arith;
                paid = let c = x.paid in omega arith;
              })
              | inr x ↦ inr (record {
                last = x.last;
                from = x.from;
                eighth = x.eighth;
                swept = swept-more p t h k (made k (Makes s ∷ before)) before sw x (omega arith) (omega arith);
                paid = let c = x.paid in omega arith;
              })
            ]
      ]

  step-paced : (t : ℕ) (s : Step) (before : List Moment) → Paced p o t (hart_of s) before
      → Buffered p (opened_with o (Makes s ∷ before))
      → (¬ IsHalted p (run_of (opened_with o before)) (hart_of s)) → IsSwept t (hart_of s) before
      → Paced p o t (suc (hart_of s)) (Makes s ∷ before)
  step-paced t s before known b goes sw = record {
    within = b.paths.only.0;
    long = omega (arith, known.long);
    each = λ k l off least. elim (cases_eq (hart_of s) k) [
      | inl e ↦
          let At : ℕ → Type 0 = λ x. Least p (s ∷ steps_of before) x
          → Settled p t (suc (hart_of s)) x (Makes s ∷ before) ⊎ Due p t (suc (hart_of s)) x (Makes s ∷ before) in
          subst At e (each-own t s before known b goes sw) least
      | inr n ↦ each-other t s before known b goes sw k l n off least
    ];
  }

-- ---- turns without a step

skip-paced : (p : Program) (o : ℕ → List ℕ) (t h : ℕ) (before : List Moment) → Paced p o t h before → h < harts p
    → IsHalted p (run_of (opened_with o before)) h → IsSwept t h before → Paced p o t (suc h) before
skip-paced p o t h before known l halted sw = record {
  within = l;
  long = omega (arith, known.long);
  each = λ k few off least.
      let n : h ≡ k → ⊥ = λ e. off (subst (λ (x : ℕ). IsHalted p (run_of (opened_with o before)) x) e halted) in
      let fewer = turns-there t h k n in
      elim (known.each k few off least) [
        | inl x ↦ inl (record { all = x.all; paid = let c = x.paid in omega arith })
        | inr x ↦ inr (record {
          last = x.last;
          from = x.from;
          eighth = x.eighth;
          swept = swept-more p t h k (made k before) before sw x (le_refl _) (least h l);
          paid = x.paid;
        })
      ];
}

wrap-paced : (p : Program) (o : ℕ → List ℕ) (t : ℕ) (before : List Moment) → Paced p o t (harts p) before
    → Paced p o (suc t) 0 before
wrap-paced p o t before known = record {
  within = omega arith;
  long = omega (arith, known.long);
  each = λ k few off least. elim (known.each k few off least) [
    | inl x ↦ inl (record { all = x.all; paid = let c = x.paid in omega arith })
    | inr x ↦ elim (cases_eq t x.last) [
      | inl e ↦ inl (record {
        all = x.swept e;
        paid = let most = lag-most p k 3 (own k (steps_of before)) in let c = x.paid in omega arith;
      })
      | inr n ↦ inr (record {
        last = x.last;
        from = let c = x.from in omega arith;
        eighth = x.eighth;
        swept = λ e g l. absurd (omega arith);
        paid = x.paid;
      })
    ]
  ];
}

begin-paced : (p : Program) (o : ℕ → List ℕ) → Paced p o 0 0 []
begin-paced p o = record {
  within = omega arith;
  long = omega arith;
  each = λ k few off least.
      let none = lag-none p k 3 [] refl in
      inl (record { all = λ g l. omega arith; paid = omega arith });
}

pub paced : (p : Program) → AllMeet p → (o : ℕ → List ℕ) (t h : ℕ) (list : List Moment) → Turns p o t h list
    → Buffered p (opened_with o list) → Paced p o t h list
paced p m o t h list Begins b = begin-paced p o
paced p m o t h list (Drain {before = before} g w r) b =
    let known = paced p m o t h before r (drained-before p o g w before b) in
    record {
      within = known.within;
      long = known.long;
      each = λ k l off least. drained p t h k g w before (known.each k l off least);
    }
paced p m o t h list (Steps {before = before} s r l off sw) b =
    step-paced p m o t s before (paced p m o t (hart_of s) before r (made-before p o s before b)) b off sw
paced p m o t h list (Skips {h = k} r l halted sw) b = skip-paced p o t k list (paced p m o t k list r b) l halted sw
paced p m o t h list (Wraps {t = n} r) b = wrap-paced p o n list (paced p m o n (harts p) list r b)
