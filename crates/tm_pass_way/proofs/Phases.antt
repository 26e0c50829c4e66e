-- The phase behind the last pass of a case stands behind a run phase of the case.
use Rattle.std.proofs.Common.{◌≡◌, ℕ, suc, ◌+◌, ◌-◌, ◌*◌, ◌/◌, ◌%◌, ◌<◌, ◌≤◌, Bool, ◌&&◌, nat_lt, eq-eqb, None}
use Rattle.std.proofs.Common.{Some, ap, ap₂, ◌∙◌, arith}
use Rattle.std.specs.Prelude.{if◌then◌else◌}
use Rattle.std.proofs.lemmas.Nat.{div-mul-add}
use Rattle.std.proofs.lemmas.Bool.{lt-ltb}
use Rattle.tm_plan_cases.specs.declared.program.Program.{Program}
use Rattle.tm_world.specs.Place.{case_count, passes}
use Rattle.tm_world.specs.Writers.{case_of_phase}
use Rattle.tm_world.specs.Course.{round_before}
use Rattle.tm_pass_way.specs.Parts.{phase_at}

half-odd : (i : ℕ) → (2 * i + 1) / 2 ≡ i
half-odd i = omega arith

pub fewer : (c k K C : ℕ) → c < C → k < K → c * K + k < C * K
fewer c k K C l m = grind arith

divided : (c k K : ℕ) → k < K → (c * K + k) / K ≡ c
divided c k K m = div-mul-add c K k m

-- the case of a run phase
pub run-case : (p : Program) (c k : ℕ) → c < case_count p → k < passes p → case_of_phase p (2 * (c * passes p + k) + 1)
    ≡ Some c
run-case p c k l m =
    let i = c * passes p + k in
    let e : (2 * i + 1) / 2 ≡ i = half-odd i in
    ap₂ (λ (a b : Bool). if a && b then Some ((2 * i + 1) / 2 / passes p)
    else None) (eq-eqb ((2 * i + 1) % 2) 1 (omega arith))
    (ap (λ (j : ℕ). nat_lt j (case_count p * passes p)) e ∙ lt-ltb i (case_count p * passes p)
    (fewer c k (passes p) (case_count p) l m))
    ∙ ap (λ (j : ℕ). Some j) (ap (λ (j : ℕ). j / passes p) e ∙ divided c k (passes p) m)

pub case-behind : (p : Program) (c : ℕ) → c < case_count p → 1 ≤ passes p → round_before p (phase_at p (suc c) 0)
    ≡ Some c
case-behind p c l some =
    let e : phase_at p (suc c) 0 ≡ suc (2 * (c * passes p + (passes p - 1)) + 1) = omega arith in
    ap (round_before p) e ∙ run-case p c (passes p - 1) l (omega arith)
