-- What a hart has come to is a front of its whole way: so it has entered each stream as often as it has come to its
-- end, or once more, and once more only in the run phase of a pass of its case.
use Rattle.std.proofs.Common.{◌≡◌, ℕ, zero, suc, ◌+◌, ◌*◌, ◌/◌, ◌<◌, ◌≤◌, List, [], ◌∷◌, ◌++◌, Bool, true, false}
use Rattle.std.proofs.Common.{◌==◌, ◌⊎◌, inl, inr, refl, sym, ap, ap₂, ◌∙◌, subst, arith, append_assoc, ne_eqb}
use Rattle.std.specs.Prelude.{flat_map, if◌then◌else◌}
use Rattle.std.proofs.lemmas.Bool.{cases_eq}
use Rattle.std.proofs.lemmas.Nat.{div-mul-add}
use Rattle.tm_plan_cases.specs.declared.program.Program.{Program}
use Rattle.tm_base.specs.Lists.{count_from}
use Rattle.tm_world.specs.Lists.{IsFront}
use Rattle.tm_world.specs.Place.{case_count, passes}
use Rattle.tm_world.specs.Marks.{Mark, Exit, Enter, End, Halt, Stray, pass_way, whole_way}
use Rattle.tm_legal.proofs.Weights.{weight}

-- ---- counting marks

abbrev one : Bool → ℕ
one b = if b then 1 else 0

-- an exit
abbrev pub exits : Mark → ℕ
exits Exit = 1
exits Halt = 0
exits (Enter c) = 0
exits (End c) = 0
exits (Stray c) = 0

-- entering a stream
abbrev pub enters : Mark → ℕ
enters Exit = 0
enters Halt = 0
enters (Enter c) = 1
enters (End c) = 0
enters (Stray c) = 0

-- entering the streams of case d
abbrev pub entering : ℕ → Mark → ℕ
entering d Exit = 0
entering d Halt = 0
entering d (Enter c) = if c == d then 1 else 0
entering d (End c) = 0
entering d (Stray c) = 0

-- their ends
abbrev pub ending : ℕ → Mark → ℕ
ending d Exit = 0
ending d Halt = 0
ending d (Enter c) = 0
ending d (End c) = if c == d then 1 else 0
ending d (Stray c) = 0

-- ---- the whole way, pass by pass

-- j passes from pass m of all passes on, of which each case has k
abbrev way_from : ℕ → ℕ → ℕ → List Mark
way_from k m zero = []
way_from k m (suc j) = pass_way (m / k) ++ way_from k (suc m) j

-- What is so of each front of j passes from pass m on.
pub record Turns (k m j : ℕ) (ms : List Mark) : Type 0 where
  pub least : (d : ℕ) → weight (ending d) ms ≤ weight (entering d) ms
  pub most : (d : ℕ) → weight (entering d) ms ≤ weight (ending d) ms + 1
  pub during : (d : ℕ) → weight (entering d) ms ≡ weight (ending d) ms + 1 → (i : ℕ) × (weight exits ms ≡ 2 * i + 1)
      × (i < j) × ((m + i) / k ≡ d)
  -- two exits for each stream that was entered, or one more or less, and one less inside a stream
  pub upper : weight exits ms ≤ 2 * weight enters ms + 1
  pub lower : 2 * weight enters ms ≤ weight exits ms + 1
  pub entered : (d : ℕ) → weight (entering d) ms ≡ weight (ending d) ms + 1 → weight exits ms + 1 ≡ 2 * weight enters ms

calm : (k m j : ℕ) (ms : List Mark) → weight exits ms ≤ 2 * weight enters ms + 1
    → 2 * weight enters ms ≤ weight exits ms + 1 → ((d : ℕ) → weight (entering d) ms ≡ weight (ending d) ms)
    → Turns k m j ms
calm k m j ms u l e = record {
  least = λ d. let q = e d in omega arith;
  most = λ d. let q = e d in omega arith;
  during = λ d f. let q = e d in absurd (omega arith);
  upper = u;
  lower = l;
  entered = λ d f. let q = e d in absurd (omega arith);
}

-- inside the first of the passes
inside-first : (k m j : ℕ) → Turns k m (suc j) (Exit ∷ Enter (m / k) ∷ [])
inside-first k m j = record {
  least = λ d. omega arith;
  most = λ d. by d (m / k == d);
  during = λ d e. (0, refl, omega arith, at d (cases_eq (m / k) d) e);
  upper = omega arith;
  lower = omega arith;
  entered = λ d e. refl;
}
  where
    by : (d : ℕ) (b : Bool) → 0 + ((if b then 1 else 0) + 0) ≤ 0 + (0 + 0) + 1
    by d true = omega arith
    by d false = omega arith

    at : (d : ℕ) → (m / k ≡ d) ⊎ (m / k ≡ d → ⊥) → weight (entering d) (Exit ∷ Enter (m / k) ∷ [])
        ≡ weight (ending d) (Exit ∷ Enter (m / k) ∷ []) + 1 → (m + 0) / k ≡ d
    at d (inl e) f = ap (λ (n : ℕ). n / k) (let z : m + 0 ≡ m = omega arith in z) ∙ e
    at d (inr n) f = let z = ap one (ne_eqb (m / k) d n) in absurd (omega arith)

-- behind the first of the passes
later : (k m j : ℕ) (ms : List Mark) → Turns k (suc m) j ms
    → Turns k m (suc j) (Exit ∷ Enter (m / k) ∷ End (m / k) ∷ Exit ∷ ms)
later k m j ms t = record {
  least = λ d. let q = t.least d in omega arith;
  most = λ d. let q = t.most d in omega arith;
  during = λ d e.
      let f : weight (entering d) ms ≡ weight (ending d) ms + 1 = omega arith in
      let (i, x, l, c) = t.during d f in (
        suc i,
        omega (arith, x),
        omega (arith, l),
        ap (λ (n : ℕ). n / k) (let z : m + suc i ≡ suc m + i = omega arith in
            z) ∙ c,
      );
  upper = omega (arith, t.upper);
  lower = omega (arith, t.lower);
  entered = λ d e.
      let f : weight (entering d) ms ≡ weight (ending d) ms + 1 = omega arith in
      omega (arith, t.entered d f);
}

pub turns : (k m j : ℕ) (ms : List Mark) → IsFront ms (way_from k m j ++ (Halt ∷ [])) → Turns k m j ms
turns k m zero [] h = calm k m zero [] (omega arith) (omega arith) (λ d. refl)
turns k m zero (a ∷ []) h = let e : a ≡ Halt = cc (h.1) in
    subst (λ (x : Mark). Turns k m zero (x ∷ [])) (sym e)
    (calm k m zero (Halt ∷ []) (omega arith) (omega arith) (λ d. refl))
turns k m zero (a ∷ b ∷ ms) h = let e = h.1 in cc
turns k m (suc j) [] h = calm k m (suc j) [] (omega arith) (omega arith) (λ d. refl)
turns k m (suc j) (a ∷ []) h = let e : a ≡ Exit = cc (h.1) in
    subst (λ (x : Mark). Turns k m (suc j) (x ∷ [])) (sym e)
    (calm k m (suc j) (Exit ∷ []) (omega arith) (omega arith) (λ d. refl))
turns k m (suc j) (a ∷ b ∷ []) h =
    let q = h.1 in
    let e : a ≡ Exit = cc in
    let f : b ≡ Enter (m / k) = cc in
    subst (λ (x : Mark). Turns k m (suc j) (x ∷ b ∷ [])) (sym e)
    (subst (λ (y : Mark). Turns k m (suc j) (Exit ∷ y ∷ [])) (sym f) (inside-first k m j))
turns k m (suc j) (a ∷ b ∷ c ∷ []) h =
    let q = h.1 in
    let e : a ∷ b ∷ c ∷ [] ≡ Exit ∷ Enter (m / k) ∷ End (m / k) ∷ [] = cc in
    subst (Turns k m (suc j)) (sym e) (calm k m (suc j) (Exit ∷ Enter (m / k) ∷ End (m / k) ∷ []) (omega arith)
    (omega arith) (λ d. omega arith))
turns k m (suc j) (a ∷ b ∷ c ∷ d ∷ ms) h =
    let q = h.1 in
    let e : a ∷ b ∷ c ∷ d ∷ ms ≡ Exit ∷ Enter (m / k) ∷ End (m / k) ∷ Exit ∷ ms = cc in
    let r : way_from k (suc m) j ++ (Halt ∷ []) ≡ ms ++ h.0 = cc in
    subst (Turns k m (suc j)) (sym e) (later k m j ms (turns k (suc m) j ms (h.0, r)))

-- ---- it is the whole way

-- all passes of a case
case-way : (c k n m : ℕ) → ((i : ℕ) → i < n → (m + i) / k ≡ c) → (a : ℕ)
    → flat_map (λ (j : ℕ). pass_way c) (count_from a n) ≡ way_from k m n
case-way c k zero m h a = refl
case-way c k (suc n) m h a =
    let e : m / k ≡ c = ap (λ (z : ℕ). z / k) (let y : m ≡ m + 0 = omega arith in y) ∙ h 0 (omega arith) in
    let r = case-way c k n (suc m) (λ i l. ap (λ (z : ℕ). z / k) (let y : suc m + i ≡ m + suc i = omega arith in
    y) ∙ h (suc i) (omega arith)) (suc a) in
    ap₂ (λ (d : ℕ) (ms : List Mark). pass_way d ++ ms) (sym e) r

way-joins : (k m i j : ℕ) → way_from k m i ++ way_from k (m + i) j ≡ way_from k m (i + j)
way-joins k m zero j = ap₂ (λ (a b : ℕ). way_from k a b) (let z : m + 0 ≡ m = omega arith in
    z) (let z : j ≡ 0 + j = omega arith in z)
way-joins k m (suc i) j =
    let e : m + suc i ≡ suc m + i = omega arith in
    let f : suc (i + j) ≡ suc i + j = omega arith in
    append_assoc (pass_way (m / k)) (way_from k (suc m) i) (way_from k (m + suc i) j)
    ∙ (ap (λ (n : ℕ). pass_way (m / k) ++ (way_from k (suc m) i ++ way_from k n j)) e
    ∙ (ap (λ (ms : List Mark). pass_way (m / k) ++ ms) (way-joins k (suc m) i j) ∙ ap (way_from k m) f))

cases-way : (k c n : ℕ) → flat_map (λ (d : ℕ). flat_map (λ (j : ℕ). pass_way d) (count_from 0 k)) (count_from c n)
    ≡ way_from k (c * k) (n * k)
cases-way k c zero = ap (way_from k (c * k)) (let z : 0 ≡ 0 * k = omega arith in z)
cases-way k c (suc n) =
    let e : suc c * k ≡ c * k + k = omega arith in
    let f : k + n * k ≡ suc n * k = omega arith in
    ap₂ (λ (xs ys : List Mark). xs ++ ys) (case-way c k k (c * k) (λ i l. div-mul-add c k i l) 0)
    (cases-way k (suc c) n)
    ∙ (ap (λ (m : ℕ). way_from k (c * k) k ++ way_from k m (n * k)) e
    ∙ (way-joins k (c * k) k (n * k) ∙ ap (way_from k (c * k)) f))

-- So it is of each front of a whole way.
pub way-turns : (p : Program) (ms : List Mark) → IsFront ms (whole_way p)
    → Turns (passes p) 0 (case_count p * passes p) ms
way-turns p ms h =
    let e = cases-way (passes p) 0 (case_count p) ∙ ap (λ (m : ℕ). way_from (passes p) m (case_count p * passes p))
    (let z : 0 * passes p ≡ 0 = omega arith in z) in
    turns (passes p) 0 (case_count p * passes p) ms (subst (λ (way : List Mark). IsFront ms (way ++ (Halt ∷ []))) e h)
