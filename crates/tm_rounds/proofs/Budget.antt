-- Runs in round order have fewer steps than the budget, as long as some hart isn't at halt.
use Rattle.std.proofs.Common.{◌≡◌, ◌≢◌, ℕ, zero, suc, ◌+◌, ◌*◌, ◌<◌, ◌≤◌, length, inl, inr, ap, subst, arith}
use Rattle.std.proofs.Common.{mul-le-mul_left, le_refl}
use Rattle.std.proofs.lemmas.Bool.{cases_Bool, cases_eq, cases_lt}
use Rattle.tm_plan_cases.specs.declared.program.Program.{Program}
use Rattle.tm_plan_cases.specs.Collected.{sum_of, work_of, budget_of}
use Rattle.tm_base.specs.Lists.{count_from}
use Rattle.tm_world.specs.Place.{harts, case_count, passes, exit_of, halt_of}
use Rattle.tm_world.specs.Run.{Run, own, now, phase}
use Rattle.tm_world.specs.Kinds.{Half, first_of_hart, phase_of}
use Rattle.tm_world.specs.Course.{last_phase}
use Rattle.tm_world.specs.Script.{change_of}
use Rattle.tm_world.specs.Work.{work_steps}
use Rattle.tm_legal.specs.Tame.{Formed}
use Rattle.tm_memory.specs.Meet.{AllMeet}
use Rattle.tm_memory.specs.Memory.{OneMemory}
use Rattle.tm_memory.proofs.Meets.{course-meets}
use Rattle.tm_memory.proofs.Memory.{memory-half}
use Rattle.tm_memory.proofs.Faults.{faulted-memory}
use Rattle.tm_memory.proofs.Numbers.{accepted-results}
use Rattle.tm_meet.specs.Waits.{IsHalted}
use Rattle.tm_meet.proofs.Counts.{one, signalled, counted, signals-more, phase-most}
use Rattle.tm_meet.proofs.Told.{AllKeep, told}
use Rattle.tm_meet.proofs.Meeting.{flags}
use Rattle.tm_meet.proofs.Halts.{halt-last}
use Rattle.tm_pace.proofs.Budget.{times}
use Rattle.tm_pace.proofs.Sums.{sum-le}
use Rattle.tm_rounds.specs.Laws.{SomeIsOff, RoundsAreShort, RoundBudget}
use Rattle.tm_rounds.proofs.Turns.{total, Least, paced}

-- ---- the last one

pub least-of : (f : ℕ → ℕ) (n : ℕ) → 1 ≤ n → (k : ℕ) × (k < n) × ((g : ℕ) → g < n → f k ≤ f g)
least-of f zero some = absurd (omega arith)
least-of f (suc zero) some =
    (0, omega arith, λ g l. let e : 0 ≡ g = omega arith in subst (λ (x : ℕ). f 0 ≤ f x) e (le_refl _))
least-of f (suc (suc n)) some =
    let (k, few, all) = least-of f (suc n) (omega arith) in
    elim (cases_lt (f (suc n)) (f k)) [
      | inl new ↦ (
        suc n,
        omega arith,
        λ g l. elim (cases_eq (suc n) g) [
          | inl e ↦ subst (λ (x : ℕ). f (suc n) ≤ f x) e (le_refl _)
          | inr d ↦ let a = all g (omega arith) in omega arith
        ],
      )
      | inr old ↦ (
        k,
        omega arith,
        λ g l. elim (cases_eq (suc n) g) [
          | inl e ↦ subst (λ (x : ℕ). f k ≤ f x) e old
          | inr d ↦ all g (omega arith)
        ],
      )
    ]

-- a hart that isn't at halt, and that no other is behind
abbrev pub Behind : Program → Run → Type 0
Behind p r = (k : ℕ) × (k < harts p) × (¬ IsHalted p r k) × Least p r.steps k

module _ (p : Program) (m : AllMeet p) (r : Run) (keeps : AllKeep p r.steps) (half : Half p r) where
  -- no flag is written more often than there are phases to leave
  pub flags-last : (k : ℕ) → k < harts p → flags k r.steps ≤ last_phase p
  flags-last k l =
      let steps = own k r.steps in
      let keep = keeps k l in
      let d = counted p k steps keep in
      let most = phase-most p k steps keep in
      elim (cases_Bool (signalled p k steps)) [
        | inl t ↦
            let z : one (signalled p k steps) ≡ 1 = ap one t in
            let more : phase (exit_of p k) steps ≢ last_phase p =
            signals-more p k (phase (exit_of p k) steps) steps keep t in
            omega arith
        | inr f ↦ let z : one (signalled p k steps) ≡ 0 = ap one f in omega arith
      ]

  -- all flags of a hart at halt are written
  flags-halted : (k : ℕ) → k < harts p → IsHalted p r k → last_phase p ≤ flags k r.steps
  flags-halted k l halted =
      let e : phase_of p r.steps k ≡ last_phase p = halt-last p m r half k l halted in
      let d = counted p k (own k r.steps) (keeps k l) in
      omega arith

  pub behind : SomeIsOff p r → Behind p r
  behind (h, few, off) =
      let some = m.formed.program.cases.harts.0 in
      let (k, l, least) = least-of (λ g. flags g r.steps) (harts p) some in
      elim (cases_eq (now (first_of_hart r k) (own k r.steps)).pc (halt_of p k)) [
        | inr goes ↦ (k, l, goes, least)
        | inl halted ↦ (
          h,
          few,
          off,
          λ g b.
              let a = flags-last h few in
              let c = flags-halted k l halted in
              let d = least g b in
              omega arith,
        )
      ]

-- ---- numbers

pub product : (a b : ℕ) → 1 ≤ a → 1 ≤ b → 1 ≤ a * b
product a b l k = let t = times a b l in omega arith

-- n turns in each of j rounds, and some more, where rounds are paid
enough : (n j l h w c len : ℕ) → 1 ≤ n → h ≤ n → len ≤ l + j * n + h → j + l ≤ w + 3 * (2 * c) → 1 ≤ c
    → len < n * (w + 16 * c)
enough n j l h w c len some turn long paid more =
    let a : n * (j + l + 2) ≤ n * (w + 16 * c) = mul-le-mul_left n (omega arith) in
    let b = times n l some in
    omega arith

pub rounds-short : (p : Program) → RoundsAreShort p
unfolding budget_of
rounds-short p m r memory bound from quiet h order off =
    let (j, known) = paced p m r.opening from quiet h r.steps order memory in
    let half = memory-half p m.formed (λ g few. (m.each g few).writes) r memory in
    let keeps = (told p m r memory).keep in
    let (k, l, goes, least) = behind p m r keeps half off in
    let a = known.each k l goes least in
    let b = flags-last p m r keeps half k l in
    let c : total p r.steps ≤ sum_of (work_of p.cases) (count_from 0 (harts p)) =
    sum-le (λ g. work_steps p g (own g r.steps)) (work_of p.cases) 0 (harts p) (λ g _ few. bound g (omega arith)) in
    let cases = m.formed.program.cases in
    let some = product (case_count p) (passes p) cases.count.0 (omega (arith, cases.passes)) in
    enough (harts p) j (length from) h (sum_of (work_of p.cases) (count_from 0 (harts p))) (case_count p * passes p)
    (length r.steps) cases.harts.0 known.within known.long (omega arith) some

pub round-budget : (p : Program) → RoundBudget p
round-budget p program typed course bound lines accepted r faulted from quiet h order off =
    let formed : Formed p = record { program = program; typed = typed; laid = course.laid } in
    let m = course-meets p formed course.hart in
    let small = accepted-results p lines accepted in
    let memory = faulted-memory p m (change_of p lines) small r faulted in
    rounds-short p m r memory (λ k l. (bound k l).faulted_work lines accepted r faulted) from quiet h order off
