-- Buffered runs in rounds have fewer steps than their budget, as long as some hart isn't at halt.
use Rattle.std.proofs.Common.{◌≡◌, ℕ, ◌+◌, ◌*◌, ◌<◌, ◌≤◌, length, arith, mul-le-mul_left}
use Rattle.tm_plan_cases.specs.declared.program.Program.{Program}
use Rattle.tm_plan_cases.specs.Collected.{sum_of, work_of, budget_of}
use Rattle.tm_base.specs.Lists.{count_from}
use Rattle.tm_world.specs.Place.{harts, case_count, passes}
use Rattle.tm_world.specs.Run.{Run, own}
use Rattle.tm_world.specs.Kinds.{Legal}
use Rattle.tm_world.specs.Work.{work_steps}
use Rattle.tm_legal.specs.Tame.{Formed}
use Rattle.tm_memory.specs.Meet.{AllMeet}
use Rattle.tm_memory.proofs.Meets.{course-meets}
use Rattle.tm_pace.proofs.Sums.{sum-le}
use Rattle.tm_rounds.proofs.Budget.{behind, flags-last, product}
use Rattle.tm_rounds.proofs.Turns.{total}
use Rattle.tm_buffered.specs.Moments.{run_of, steps_of}
use Rattle.tm_buffered.specs.Signals.{made}
use Rattle.tm_buffered.proofs.Halves.{buffered-half}
use Rattle.tm_buffered.proofs.Legals.{buffered-legal}
use Rattle.tm_buffered.proofs.Told.{told}
use Rattle.tm_buffered_rounds.specs.Laws.{drawn_budget_of, RunsShort, DrawnBudget, SoundDrawnBudget}
use Rattle.tm_buffered_rounds.proofs.Pace.{early, paced}

-- n turns in each of t rounds, and some more, where rounds are paid
enough : (n t h w c len : ℕ) → 1 ≤ n → h ≤ n → len ≤ t * n + h → t ≤ w + 16 * (2 * c) → 1 ≤ c
    → len < n * (w + 16 * c) + 64 * (n * c)
enough n t h w c len some turn long paid more =
    let a : n * (t + 2) ≤ n * (w + 80 * c) = mul-le-mul_left n (omega arith) in
    omega arith

pub drawn-budget : (p : Program) → DrawnBudget p
unfolding drawn_budget_of budget_of
drawn-budget p m bound r b t h order off =
    let steps = steps_of r.list in
    let keeps = (told p m r.opening r.list b).keep in
    let half = buffered-half p m r b in
    let legal : Legal p (run_of r) = buffered-legal p m r b in
    let known = paced p m r.opening t h r.list order b in
    let (k, l, goes, least) = behind p m (run_of r) keeps half off in
    let a : t ≤ total p steps + 16 * made k r.list = early p t h k r.list (known.each k l goes least) in
    let d = flags-last p m (run_of r) keeps half k l in
    let c : total p steps ≤ sum_of (work_of p.cases) (count_from 0 (harts p)) =
    sum-le (λ g. work_steps p g (own g steps)) (work_of p.cases) 0 (harts p)
    (λ g _ few. bound g (omega arith) (run_of r) legal) in
    let cases = m.formed.program.cases in
    let some = product (case_count p) (passes p) cases.count.0 (omega (arith, cases.passes)) in
    enough (harts p) t h (sum_of (work_of p.cases) (count_from 0 (harts p))) (case_count p * passes p) (length steps)
    cases.harts.0 known.within known.long (omega arith) some

pub sound-budget : (p : Program) → SoundDrawnBudget p
sound-budget p sound =
    let formed : Formed p = record { program = sound.program; typed = sound.typed; laid = sound.course.laid } in
    drawn-budget p (course-meets p formed sound.course.hart) (λ h l. (sound.bound h l).work)
