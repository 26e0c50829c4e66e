-- Work phase by phase: a hart never leaves the last phase, so the work of all phases is its work.
use Rattle.std.proofs.Common.{◌≡◌, ℕ, suc, ◌+◌, ◌-◌, ◌*◌, ◌<◌, ◌≤◌, List, [], ◌∷◌, length, Bool, true, false, ◌==◌}
use Rattle.std.proofs.Common.{Option, None, Some, refl, sym, ap, ◌∙◌, arith, eq-eqb, ne_eqb, subst, inl, inr}
use Rattle.std.specs.Prelude.{if◌then◌else◌}
use Rattle.std.proofs.Math.Nat.{mul-le-mul_left}
use Rattle.std.proofs.lemmas.Bool.{cases_eq}
use Rattle.tm_table.specs.State.{Hart}
use Rattle.tm_plan_cases.specs.declared.program.Program.{Program}
use Rattle.tm_plan_cases.specs.declared.cases.Cases.{Cases}
use Rattle.tm_plan_cases.specs.declared.cases.Case.{Case}
use Rattle.tm_plan_cases.specs.Collected.{sum_of, owned, work_in, work_of}
use Rattle.tm_base.specs.Lists.{count_from}
use Rattle.tm_world.specs.Place.{harts, case_count, passes, start_of, end_of, exit_of}
use Rattle.tm_world.specs.Run.{Step, Run, hart_of, own, now, phase}
use Rattle.tm_world.specs.Kinds.{Legal, first_of_hart, stream_at}
use Rattle.tm_world.specs.Course.{OnHalf, last_phase}
use Rattle.tm_world.specs.Script.{change_of}
use Rattle.tm_world.specs.Work.{idle_lately, work_steps}
use Rattle.tm_legal.proofs.Order.{sum-zero}
use Rattle.tm_stays.specs.Stays.{one_outside, outside_work, words_in}
use Rattle.tm_stays.proofs.Stays.{Forward, short-by, works-little, work-parts as stays-parts}
use Rattle.tm_legal.proofs.Own.{own-here, own-there}
use Rattle.tm_legal.proofs.Streams.{Onward}
use Rattle.tm_memory.specs.Meet.{AllMeet}
use Rattle.tm_stays.specs.Pace.{phase_work, Pace, KeepsPace}
use Rattle.tm_pace.specs.Pace.{PaceFits}
use Rattle.tm_memory.specs.Memory.{MemoryStep}
use Rattle.tm_pace.specs.Laws.{PhasesEnd, PhasesAddUp, PaceBounds, PaceHolds, FaultedPaceHolds}
use Rattle.tm_memory.proofs.Memory.{memory-half}
use Rattle.tm_memory.proofs.Faults.{faulted-memory, faulted-half}
use Rattle.tm_memory.proofs.Next.{none-stuck}
use Rattle.tm_memory.proofs.Numbers.{accepted-results}
use Rattle.tm_meet.proofs.Told.{StepsBy}
use Rattle.tm_meet.proofs.Counts.{BarrierKept, phase-most}
use Rattle.tm_memory.proofs.Meets.{tame}
use Rattle.tm_pace.proofs.Sums.{sum-le, sum-same, sum-grew, paced}

-- ---- the last phase

pub phases-end : (p : Program) → PhasesEnd p
phases-end p h m r half = phase-most p h (own h r.steps) (m.barrier r half)

-- ---- the sum of all phases

-- the work in phase q after a step: idle or not, in a stream or not
abbrev stepped : Program → ℕ → Hart → List Step → Bool → Option ℕ → ℕ → ℕ
stepped p h first past t o q =
    if t then phase_work p h first q past
    else (if phase (exit_of p h) past == q then one_outside o (phase_work p h first q past)
    else phase_work p h first q past)

work-sum : (p : Program) (h : ℕ) (first : Hart) (own : List Step) → BarrierKept p h own → outside_work p h first own
    ≡ sum_of (λ q. phase_work p h first q own) (count_from 0 (suc (last_phase p)))
work-sum p h first [] k =
    sym (sum-zero (λ q. phase_work p h first q []) (count_from 0 (suc (last_phase p))) (λ q. refl))
work-sum p h first (s ∷ past) k = by (idle_lately p h 4 (s ∷ past)) (stream_at p h (now first past).pc)
    (work-sum p h first past k.1) (phase-most p h past k.1)
  where
    here : stepped p h first past false None (phase (exit_of p h) past)
        ≡ suc (phase_work p h first (phase (exit_of p h) past) past)
    here = ap (λ (b : Bool). if b then suc (phase_work p h first (phase (exit_of p h) past) past)
        else phase_work p h first (phase (exit_of p h) past) past)
        (eq-eqb (phase (exit_of p h) past) (phase (exit_of p h) past) refl)

    there : (q : ℕ) → (q ≡ phase (exit_of p h) past → ⊥) → stepped p h first past false None q
        ≡ phase_work p h first q past
    there q n = ap (λ (b : Bool). if b then suc (phase_work p h first q past) else phase_work p h first q past)
        (ne_eqb (phase (exit_of p h) past) q (λ z. n (sym z)))

    inside : (b : Bool) (n : ℕ) → n ≡ (if b then n else n)
    inside true n = refl
    inside false n = refl

    by : (t : Bool) (o : Option ℕ) → outside_work p h first past
        ≡ sum_of (λ q. phase_work p h first q past) (count_from 0 (suc (last_phase p)))
        → phase (exit_of p h) past ≤ last_phase p
        → (if t then outside_work p h first past else one_outside o (outside_work p h first past))
        ≡ sum_of (stepped p h first past t o) (count_from 0 (suc (last_phase p)))
    by true o e l = e
    by false None e l =
        ap suc e ∙ sym (sum-grew (stepped p h first past false None) (λ q. phase_work p h first q past)
        (phase (exit_of p h) past) 0 (suc (last_phase p)) (omega arith) (omega arith) here there)
    by false (Some c) e l = e ∙ sum-same (λ q. phase_work p h first q past) (stepped p h first past false (Some c)) 0
        (suc (last_phase p)) (λ q _ _. inside (phase (exit_of p h) past == q) (phase_work p h first q past))

pub phases-add_up : (p : Program) → PhasesAddUp p
phases-add_up p m h l most few =
    works-little p m.formed h l (tame p m h l) (sum_of most (count_from 0 (suc (last_phase p))))
    (λ r half.
    let first = first_of_hart r h in
    let e = work-sum p h first (own h r.steps) ((m.each h l).barrier r half) in
    let s = sum-le (λ q. phase_work p h first q (own h r.steps)) most 0 (suc (last_phase p))
    (λ q _ k. few r half q (omega arith)) in
    omega arith)

-- ---- a pace

-- the bound is its parts
work-parts : (cases : Cases) (h : ℕ) (xs : List Case)
    → work_in cases h xs
    ≡ length xs * (64 + cases.passes * (256 + 32 * cases.harts + 32 * (30 + length (owned cases h)))) + cases.passes
    * words_in h xs
work-parts cases h [] = omega arith
work-parts cases h (case ∷ more) = let e = work-parts cases h more in omega arith

paced-work : (p : Program) → AllMeet p → (h : ℕ) → h < harts p → (pace : Pace) (first : Hart) (own : List Step)
    → BarrierKept p h own → KeepsPace p h pace first own
    → outside_work p h first own ≤ 64 + case_count p * (passes p * (pace.sets + pace.runs + pace.ends) + pace.compares)
paced-work p m h l pace first own k keeps =
    let few = m.formed.program.cases.count in
    let two = m.formed.program.cases.passes in
    let e = work-sum p h first own k in
    let s = paced (λ q. phase_work p h first q own) (case_count p) (passes p) (pace.sets + pace.runs + pace.ends)
    pace.sets pace.runs pace.ends pace.compares refl
    keeps.begin keeps.run keeps.between keeps.next keeps.last (passes p - 1) (case_count p - 1) (omega arith)
    (omega arith) in
    omega arith

legal-work : (p : Program) → AllMeet p → (h : ℕ) → h < harts p → (pace : Pace) → PaceFits p h pace
    → OnHalf p h (KeepsPace p h pace) → (r : Run) → Legal p r → work_steps p h (own h r.steps) ≤ work_of p.cases h
unfolding work_of
legal-work p m h l pace fits keeps r legal =
    let b = works-little p m.formed h l (tame p m h l)
    (64 + case_count p * (passes p * (pace.sets + pace.runs + pace.ends) + pace.compares))
    (λ r half. paced-work p m h l pace (first_of_hart r h) (own h r.steps) ((m.each h l).barrier r half)
    (keeps r half)) r legal in
    let e = work-parts p.cases h p.cases.cases in
    let n = 64 + passes p * (256 + 32 * harts p + 32 * (30 + length (owned p.cases h))) in
    let c = mul-le-mul_left (case_count p) fits in
    omega arith

-- ---- runs of one memory

-- a step inside a stream goes forward
step-forward : (p : Program) (h : ℕ) (c : Option ℕ) (before : Hart) (past : List Step) (s : Step)
    → MemoryStep p h c before past s → (d : ℕ) → c ≡ Some d
    → Onward before.pc (start_of p h d) (end_of p h d) s.after.pc
step-forward p h None before past s f d e = cc
step-forward p h (Some c) before past s f d e =
    let same : c ≡ d = cc in
    subst (λ (z : ℕ). Onward before.pc (start_of p h z) (end_of p h z) s.after.pc) same
    (record { least = f.2; from = f.0.lands.0; most = f.0.lands.1; aligned = f.0.aligned })

all-forward : (p : Program) (first : ℕ → Hart) (h : ℕ) (steps : List Step) → StepsBy p first steps
    → Forward p h (first h) (own h steps)
all-forward p first h [] f = tt
all-forward p first h (s ∷ past) f = elim (cases_eq (hart_of s) h) [
  | inr n ↦ subst (Forward p h (first h)) (sym (own-there h s past n)) (all-forward p first h past f.1)
  | inl e ↦
      let Moves : ℕ → Type 0 = λ g. MemoryStep p g (stream_at p g (now (first g) (own g past)).pc)
      (now (first g) (own g past)) past s in
      let step = subst Moves e f.0 in
      subst (Forward p h (first h)) (sym (own-here h s past e)) (
        λ d i. step-forward p h (stream_at p h (now (first h) (own h past)).pc) (now (first h) (own h past)) past s step
            d i,
        all-forward p first h past f.1,
      )
]

pub pace-holds : (p : Program) → PaceHolds p
unfolding work_of
pace-holds p m h l pace fits keeps r memory =
    let half = memory-half p m.formed (λ g k. (m.each g k).writes) r memory in
    let first = first_of_hart r h in
    let steps = own h r.steps in
    let a = paced-work p m h l pace first steps ((m.each h l).barrier r half) (keeps r half) in
    let b = short-by p m.formed h l (r.opening h) steps ((m.each h l).order r half)
    (all-forward p (first_of_hart r) h r.steps memory.steps) in
    let w = stays-parts p h first steps in
    let e = work-parts p.cases h p.cases.cases in
    let c = mul-le-mul_left (case_count p) fits in
    omega arith

pub faulted-pace_holds : (p : Program) → FaultedPaceHolds p
faulted-pace_holds p m h l pace fits keeps change small r faulted =
    pace-holds p m h l pace fits keeps r (faulted-memory p m change small r faulted)

-- ---- the whole bound

pub pace-bounds : (p : Program) → PaceBounds p
pace-bounds p m h l pace fits keeps next = record {
  work = legal-work p m h l pace fits keeps;
  next = next;
  faulted_work = λ lines accepted. faulted-pace_holds p m h l pace fits keeps (change_of p lines)
      (accepted-results p lines accepted);
  faulted_next = λ lines accepted r faulted. none-stuck p m.formed h l (m.each h l).order (m.each h l).fresh next r
      (faulted-half p m (change_of p lines) (accepted-results p lines accepted) r faulted);
}
