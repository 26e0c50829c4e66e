-- A run without idle reads is all work, so it ends within the harts' bounds.
use Rattle.std.proofs.Common.{◌≡◌, ℕ, zero, suc, ◌+◌, ◌*◌, ◌<◌, ◌≤◌, List, [], ◌∷◌, length, Bool, false, inl, inr}
use Rattle.std.proofs.Common.{refl, sym, ap, ◌∙◌, subst, arith}
use Rattle.std.specs.Prelude.{if◌then◌else◌}
use Rattle.std.proofs.lemmas.Bool.{cases_eq, or_from}
use Rattle.tm_plan_cases.specs.declared.program.Program.{Program}
use Rattle.tm_plan_cases.specs.Collected.{sum_of, work_of, budget_of}
use Rattle.tm_base.specs.Lists.{count_from}
use Rattle.tm_world.specs.Place.{harts, case_count, passes}
use Rattle.tm_world.specs.Run.{Step, Always, own, hart_of}
use Rattle.tm_world.specs.Work.{is_idle_read, idle_lately, work_steps}
use Rattle.tm_legal.proofs.Own.{own-here, own-there}
use Rattle.tm_legal.proofs.Order.{sum-zero}
use Rattle.tm_pace.specs.Laws.{NoIdleRead, QuietRunsEnd}
use Rattle.tm_pace.proofs.Sums.{sum-le, sum-grew}

-- ---- one hart

-- hart h makes no idle read
abbrev pub Quiet : Program → ℕ → List Step → Type 0
Quiet p h = Always (λ past s. is_idle_read p h past s ≡ false)

pub own-quiet : (p : Program) (h : ℕ) (steps : List Step) → NoIdleRead p steps → Quiet p h (own h steps)
own-quiet p h [] q = tt
own-quiet p h (s ∷ past) q = elim (cases_eq (hart_of s) h) [
  | inl e ↦ subst (Quiet p h) (sym (own-here h s past e)) (
    subst (λ (g : ℕ). is_idle_read p g (own g past) s
        ≡ false) e q.0,
    own-quiet p h past q.1,
  )
  | inr n ↦ subst (Quiet p h) (sym (own-there h s past n)) (own-quiet p h past q.1)
]

pub lately-quiet : (p : Program) (h n : ℕ) (steps : List Step) → Quiet p h steps → idle_lately p h n steps ≡ false
lately-quiet p h zero steps q = refl
lately-quiet p h (suc n) [] q = refl
lately-quiet p h (suc n) (s ∷ past) q = or_from (is_idle_read p h past s) (idle_lately p h n past) q.0
    (lately-quiet p h n past q.1)

pub all-work : (p : Program) (h : ℕ) (steps : List Step) → Quiet p h steps → work_steps p h steps ≡ length steps
all-work p h [] q = refl
all-work p h (s ∷ past) q =
    ap (λ (t : Bool). if t then work_steps p h past else suc (work_steps p h past)) (lately-quiet p h 4 (s ∷ past) q) ∙
    ap suc (all-work p h past q.1)

-- ---- all harts

pub own-lengths : (n : ℕ) (steps : List Step) → Always (λ past s. hart_of s < n) steps
    → length steps ≡ sum_of (λ h. length (own h steps)) (count_from 0 n)
own-lengths n [] o = sym (sum-zero (λ h. 0) (count_from 0 n) (λ h. refl))
own-lengths n (s ∷ past) o =
    ap suc (own-lengths n past o.1)
    ∙ sym (sum-grew (λ h. length (own h (s ∷ past))) (λ h. length (own h past)) (hart_of s) 0 n (omega arith)
    (omega (arith, o.0)) (ap length (own-here (hart_of s) s past refl))
    (λ h d. ap length (own-there h s past (λ e. d (sym e)))))

-- n times a number is no less than it
pub times : (n x : ℕ) → 1 ≤ n → x ≤ n * x
times zero x l = absurd (omega arith)
times (suc n) x l = omega arith

pub quiet-ends : (p : Program) → QuietRunsEnd p
unfolding budget_of
quiet-ends p some r only bound q =
    let all = own-lengths (harts p) r.steps only in
    let less = sum-le (λ h. length (own h r.steps)) (work_of p.cases) 0 (harts p)
    (λ h _ l.
    let few : h < harts p = omega arith in
    let work = bound h few in
    let e = all-work p h (own h r.steps) (own-quiet p h r.steps q) in
    omega arith) in
    let more = times (harts p) (sum_of (work_of p.cases) (count_from 0 (harts p)) + 16 * (case_count p * passes p)) some
    in
    (omega arith, omega arith)
