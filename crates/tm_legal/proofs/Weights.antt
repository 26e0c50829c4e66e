-- Marks with weights: what a hart has come to weighs no more than its whole way.
use Rattle.std.proofs.Common.{◌≡◌, ℕ, zero, suc, ◌+◌, ◌*◌, ◌≤◌, List, [], ◌∷◌, ◌++◌, Bool, true, false, refl, sym, ap}
use Rattle.std.proofs.Common.{ap₂, ◌∙◌, arith}
use Rattle.std.specs.Prelude.{flat_map, if◌then◌else◌}
use Rattle.tm_plan_cases.specs.declared.program.Program.{Program}
use Rattle.tm_plan_cases.specs.Collected.{sum_of}
use Rattle.tm_base.specs.Lists.{count_from}
use Rattle.tm_world.specs.Lists.{those, IsFront}
use Rattle.tm_world.specs.Place.{case_count, passes}
use Rattle.tm_world.specs.Marks.{Mark, Exit, Enter, End, Halt, Stray, comes_to, arrivals, pass_way, whole_way}

-- what marks weigh together
abbrev pub weight : (Mark → ℕ) → List Mark → ℕ
weight f [] = 0
weight f (m ∷ ms) = f m + weight f ms

pub weight-append : (f : Mark → ℕ) (ms ns : List Mark) → weight f (ms ++ ns) ≡ weight f ms + weight f ns
weight-append f [] ns = omega arith
weight-append f (m ∷ ms) ns = let e = weight-append f ms ns in omega arith

pub weight-front : (f : Mark → ℕ) (ms ns : List Mark) → IsFront ms ns → weight f ms ≤ weight f ns
weight-front f ms ns h = let e = ap (weight f) h.1 in let a = weight-append f ms h.0 in omega arith

-- of lists joined end to end
weight-flat : {A : Type 0} (f : Mark → ℕ) (g : A → List Mark) (x : A) (xs : List A) → weight f (flat_map g (x ∷ xs))
    ≡ weight f (g x) + weight f (flat_map g xs)
weight-flat f g x xs = weight-append f (g x) (flat_map g xs)

-- all passes of a case
weight-passes : (f : Mark → ℕ) (c a n : ℕ) → weight f (flat_map (λ (k : ℕ). pass_way c) (count_from a n))
    ≡ n * weight f (pass_way c)
weight-passes f c a zero = omega arith
weight-passes f c a (suc n) =
    let e = weight-flat f (λ (k : ℕ). pass_way c) a (count_from (suc a) n) in
    let r = weight-passes f c (suc a) n in
    let m : suc n * weight f (pass_way c) ≡ weight f (pass_way c) + n * weight f (pass_way c) = omega arith in
    e ∙ (ap (λ (x : ℕ). weight f (pass_way c) + x) r ∙ sym m)

weight-cases : (f : Mark → ℕ) (k : ℕ) (cs : List ℕ)
    → weight f (flat_map (λ (c : ℕ). flat_map (λ (j : ℕ). pass_way c) (count_from 0 k)) cs)
    ≡ k * sum_of (λ c. weight f (pass_way c)) cs
weight-cases f k [] = omega arith
weight-cases f k (c ∷ cs) =
    let e = weight-flat f (λ (c : ℕ). flat_map (λ (j : ℕ). pass_way c) (count_from 0 k)) c cs in
    let q = weight-passes f c 0 k in
    let r = weight-cases f k cs in
    let w = weight f (pass_way c) in
    let z = sum_of (λ c. weight f (pass_way c)) cs in
    let m : k * (w + z) ≡ k * w + k * z = omega arith in
    e ∙ (ap₂ (λ (x y : ℕ). x + y) q r ∙ sym m)

-- the whole way
pub weight-way : (f : Mark → ℕ) (p : Program) → f Halt ≡ 0 → weight f (whole_way p)
    ≡ passes p * sum_of (λ c. weight f (pass_way c)) (count_from 0 (case_count p))
weight-way f p e =
    let cs = count_from 0 (case_count p) in
    let way = flat_map (λ (c : ℕ). flat_map (λ (j : ℕ). pass_way c) (count_from 0 (passes p))) cs in
    let a = weight-append f way (Halt ∷ []) in
    let b = weight-cases f (passes p) cs in
    omega arith

-- ---- arrivals

pub weight-those : (f : Mark → ℕ) (met : Mark → Bool) (m : Mark) (ms : List Mark) → weight f (those met (m ∷ ms))
    ≡ (if met m then f m else 0) + weight f (those met ms)
weight-those f met m ms = by (met m)
  where
    by : (b : Bool) → weight f (if b then m ∷ those met ms else those met ms)
        ≡ (if b then f m else 0) + weight f (those met ms)
    by true = refl
    by false = omega arith

module _ (f : Mark → ℕ) (met : Mark → Bool) where
  abbrev pub met-weight : Mark → ℕ
  met-weight m = if met m then f m else 0

  pub weight-three : (c : ℕ) (ms : List Mark) → weight f (those met (Enter c ∷ End c ∷ Stray c ∷ ms))
      ≡ met-weight (Enter c) + met-weight (End c) + met-weight (Stray c) + weight f (those met ms)
  weight-three c ms =
      let a = weight-those f met (Enter c) (End c ∷ Stray c ∷ ms) in
      let b = weight-those f met (End c) (Stray c ∷ ms) in
      let d = weight-those f met (Stray c) ms in
      omega arith

  -- a function of cases is no more than the marks that are met weigh
  pub weight-met : (g : ℕ → ℕ) → ((c : ℕ) → g c ≤ met-weight (Enter c) + met-weight (End c) + met-weight (Stray c))
      → (cs : List ℕ) → sum_of g cs ≤ weight f (those met (flat_map (λ c. Enter c ∷ End c ∷ Stray c ∷ []) cs))
  weight-met g h [] = omega arith
  weight-met g h (c ∷ cs) =
      let a = weight-three c (flat_map (λ c. Enter c ∷ End c ∷ Stray c ∷ []) cs) in
      let b = h c in
      let d = weight-met g h cs in
      omega arith

pub weight-arrivals : (f : Mark → ℕ) (p : Program) (h from to : ℕ) (g : ℕ → ℕ)
    → ((c : ℕ) → g c ≤ met-weight f (λ m. comes_to p h m from to) (Enter c) + met-weight f (λ m. comes_to p h m from to)
    (End c) + met-weight f (λ m. comes_to p h m from to) (Stray c))
    → sum_of g (count_from 0 (case_count p)) ≤ weight f (arrivals p h from to)
weight-arrivals f p h from to g k =
    let met = λ (m : Mark). comes_to p h m from to in
    let ms = flat_map (λ c. Enter c ∷ End c ∷ Stray c ∷ []) (count_from 0 (case_count p)) in
    let a = weight-those f met Exit (Halt ∷ ms) in
    let b = weight-those f met Halt ms in
    let d = weight-met f met g k (count_from 0 (case_count p)) in
    omega arith
