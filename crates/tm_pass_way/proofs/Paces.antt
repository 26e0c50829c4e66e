-- The limits of the phases.
use Rattle.std.proofs.Common.{◌≡◌, ◌≢◌, ℕ, suc, ◌+◌, ◌*◌, ◌/◌, ◌%◌, ◌<◌, ◌≤◌, Bool, true, false, ◌==◌, eq-eqb, ne_eqb}
use Rattle.std.proofs.Common.{refl, ap, ap₂, ◌∙◌, arith}
use Rattle.std.specs.Prelude.{List, if◌then◌else◌}
use Rattle.std.proofs.Math.Nat.{mul-div_cancel_left}
use Rattle.std.proofs.lemmas.Nat.{mod-mul-add}
use Rattle.tm_table.specs.State.{Hart}
use Rattle.tm_world.specs.Run.{Step}
use Rattle.tm_stays.specs.Pace.{phase_work}
use Rattle.tm_plan_cases.specs.declared.program.Program.{Program}
use Rattle.tm_world.specs.Place.{case_count, passes}
use Rattle.tm_world.specs.Writers.{run_phase}
use Rattle.tm_pass_way.specs.Parts.{Rooms, phase_at, turns}
use Rattle.tm_pass_way.specs.Pace.{pace_of, limit_at, LimitsAreServed}
use Rattle.tm_stays.specs.Pace.{Pace, KeepsPace}

module _ (p : Program) (pace : Pace) (some : 2 ≤ passes p) where
  abbrev K : ℕ
  K = passes p

  abbrev L : ℕ → ℕ
  L = limit_at p pace

  odd : (i : ℕ) → L (2 * i + 1) ≡ pace.runs
  odd i = ap (λ (b : Bool). if b then pace.runs else (if 2 * i + 1 == 0 then 64 + pace.sets
      else pace.ends + (if (2 * i + 1) / 2 % K == 0 then pace.compares else 0) + (if 2 * i + 1 == 2 * (case_count p * K)
      then 0 else pace.sets))) (eq-eqb ((2 * i + 1) % 2) 1 (omega arith))

  even : (i : ℕ) (c d : Bool) → (i % K == 0) ≡ c → (2 * i == 2 * (case_count p * K)) ≡ d → i ≢ 0
      → L (2 * i) ≡ pace.ends + (if c then pace.compares else 0) + (if d then 0 else pace.sets)
  even i c d e f n =
      let half : 2 * i / 2 ≡ i = mul-div_cancel_left i (omega arith) in
      ap (λ (b : Bool). if b then pace.runs else (if 2 * i == 0 then 64 + pace.sets
      else pace.ends + (if 2 * i / 2 % K == 0 then pace.compares else 0) + (if 2 * i == 2 * (case_count p * K)
      then 0 else pace.sets))) (ne_eqb (2 * i % 2) 1 (λ z. omega arith))
      ∙ (ap (λ (b : Bool). if b then 64 + pace.sets else pace.ends + (if 2 * i / 2 % K == 0 then pace.compares else 0)
      + (if 2 * i == 2 * (case_count p * K) then 0 else pace.sets)) (ne_eqb (2 * i) 0 (λ z. omega arith))
      ∙ (ap (λ (j : ℕ). pace.ends + (if j % K == 0 then pace.compares else 0) + (if 2 * i == 2 * (case_count p * K)
      then 0 else pace.sets)) half
      ∙ ap₂ (λ (a b : Bool). pace.ends + (if a then pace.compares else 0) + (if b then 0 else pace.sets)) e f))

  -- few passes are fewer than all
  fewer : (c k : ℕ) → c < case_count p → k < K → c * K + k < case_count p * K
  fewer c k l m = grind arith

  between : (c k : ℕ) → c < case_count p → suc k < K → L (phase_at p c (suc k)) ≡ pace.ends + pace.sets
  between c k l m =
      let i = c * K + suc k in
      let r : i % K ≡ suc k = mod-mul-add c K (suc k) m in
      even i false false (ne_eqb (i % K) 0 (λ z. omega arith))
      (ne_eqb (2 * i) (2 * (case_count p * K)) (λ z. let f = fewer c (suc k) l m in omega arith)) (λ z. omega arith)
      ∙ omega arith

  next : (c : ℕ) → suc c < case_count p → L (phase_at p (suc c) 0) ≡ pace.ends + pace.compares + pace.sets
  next c l =
      let i = suc c * K + 0 in
      let r : i % K ≡ 0 = mod-mul-add (suc c) K 0 (omega arith) in
      even i true false (eq-eqb (i % K) 0 r) (ne_eqb (2 * i) (2 * (case_count p * K))
      (λ z. let f = fewer (suc c) 0 l (omega arith) in omega arith)) (λ z. omega arith)

  last : (c : ℕ) → suc c ≡ case_count p → L (phase_at p (suc c) 0) ≡ pace.ends + pace.compares
  last c l =
      let i = suc c * K + 0 in
      let r : i % K ≡ 0 = mod-mul-add (suc c) K 0 (omega arith) in
      let e : suc c * K ≡ case_count p * K = ap (λ (n : ℕ). n * K) l in
      even i true true (eq-eqb (i % K) 0 r) (eq-eqb (2 * i) (2 * (case_count p * K)) (omega arith)) (λ z. omega arith) ∙
      omega arith

  zero-limit : L 0 ≡ 64 + pace.sets
  zero-limit = refl

pub limits-serve : (p : Program) → LimitsAreServed p
limits-serve p cost few some = record { rooms = rooms; keeps = keeps }
  where
    pace : Pace
    pace = pace_of cost

    at-last : (c k : ℕ) → k + 1 ≡ passes p → run_phase p c k + 1 ≡ phase_at p (suc c) 0
    at-last c k e = omega arith

    at-next : (c k : ℕ) → run_phase p c k + 1 ≡ phase_at p c (suc k)
    at-next c k = omega arith

    rooms : Rooms p cost (limit_at p (pace_of cost))
    rooms = record {
      opening = let z = zero-limit p (pace_of cost) some in omega (arith, few, z);
      run = λ c k l m. let z = odd p (pace_of cost) some (turns p c k) in omega (arith, z);
      between = λ c k l m. let z = between p (pace_of cost) some c k l m in omega (arith, z);
      next = λ c l. let z = next p (pace_of cost) some c l in omega (arith, z);
      last = λ c l. let z = last p (pace_of cost) some c l in omega (arith, z);
    }

    keeps : (h : ℕ) (first : Hart) (own : List Step)
        → ((q : ℕ) → phase_work p h first q own ≤ limit_at p (pace_of cost) q) → KeepsPace p h (pace_of cost) first own
    keeps h first own f = record {
      begin = let z = zero-limit p (pace_of cost) some in omega (arith, f 0, z);
      run = λ c k l m. let z = odd p (pace_of cost) some (turns p c k) in omega (arith, f (run_phase p c k), z);
      between = λ c k l m. let z = between p (pace_of cost) some c k l (omega arith) in let e =
          ap (limit_at p (pace_of cost)) (at-next c k) in omega (arith, f (run_phase p c k + 1), z, e);
      next = λ c k l m. let z = next p (pace_of cost) some c (omega arith) in let e =
          ap (limit_at p (pace_of cost)) (at-last c k m) in omega (arith, f (run_phase p c k + 1), z, e);
      last = λ c k l m. let z = last p (pace_of cost) some c (omega arith) in let e =
          ap (limit_at p (pace_of cost)) (at-last c k m) in omega (arith, f (run_phase p c k + 1), z, e);
    }
