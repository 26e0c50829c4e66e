-- Each pass stands in the whole way, and a run phase isn't behind one; so a stay is the part that the way asks for.
use Rattle.std.proofs.Common.{◌≡◌, ℕ, zero, suc, ◌+◌, ◌-◌, ◌*◌, ◌/◌, ◌%◌, ◌<◌, ◌≤◌, Bool, ◌&&◌, nat_lt}
use Rattle.std.proofs.Common.{◌==◌, ne_eqb, List, [], ◌∷◌, ◌++◌, None, Some, refl, sym, ap, ◌∙◌, subst, arith}
use Rattle.std.proofs.Common.{append_assoc, append-nil}
use Rattle.std.specs.Prelude.{flat_map, map, if◌then◌else◌}
use Rattle.tm_plan_cases.specs.declared.program.Program.{Program}
use Rattle.tm_plan_cases.specs.Collected.{owned, window_dwords, is_declared, collector}
use Rattle.tm_base.specs.Lists.{count_from}
use Rattle.tm_base.proofs.ListLemmas.{length-filter-le, length-counted}
use Rattle.tm_plan_map.specs.Map.{windows_base}
use Rattle.tm_plan_cases.specs.Shaped.{MasksFit}
use Rattle.tm_world.specs.Lists.{IsFront}
use Rattle.tm_world.specs.Place.{harts, case_count, passes, start_of, end_of}
use Rattle.tm_world.specs.Marks.{Mark, Exit, Enter, End, Halt, pass_way, whole_way}
use Rattle.tm_world.specs.Course.{round_before}
use Rattle.tm_world.specs.Verdict.{saved}
use Rattle.tm_runs.specs.Machine.{State}
use Rattle.tm_legal.specs.Tame.{Formed}
use Rattle.tm_pass_way.specs.Facts.{Told}
use Rattle.tm_pass_way.specs.Parts.{Hold, Stayed, Leads, phase_at, turns, few_passes, way_to}
use Rattle.tm_pass_way.specs.Calm.{StreamClear}
use Rattle.tm_pass_way.proofs.Way.{flat-last, way-pass}
use Rattle.tm_pass_way.proofs.Stay.{stay}

-- ---- fronts

pub front-then : (xs ys zs : List Mark) → IsFront (xs ++ ys) zs → IsFront xs zs
front-then xs ys zs f = (ys ++ f.0, f.1 ∙ append_assoc xs ys f.0)

front-front : (xs ys zs : List Mark) → IsFront xs ys → IsFront ys zs → IsFront xs zs
front-front xs ys zs f g = front-then xs f.0 zs (subst (λ (l : List Mark). IsFront l zs) f.1 g)

-- some of the parts
flat-front : (f : ℕ → List Mark) (a m n : ℕ) → IsFront (flat_map f (count_from a m)) (flat_map f (count_from a (m + n)))
flat-front f a zero n = (flat_map f (count_from a (0 + n)), refl)
flat-front f a (suc m) n =
    let r = flat-front f (suc a) m n in
    let e : suc m + n ≡ suc (m + n) = omega arith in (
      r.0,
      ap (λ (k : ℕ). flat_map f (count_from a k)) e ∙
          (ap (λ (l : List Mark). f a ++ l) r.1 ∙ sym (append_assoc (f a) (flat_map f (count_from (suc a) m)) r.0)),
    )

fewer-front : (f : ℕ → List Mark) (m n : ℕ) → m ≤ n
    → IsFront (flat_map f (count_from 0 m)) (flat_map f (count_from 0 n))
fewer-front f m n l = let e : m + (n - m) ≡ n = omega arith in
    subst (λ (k : ℕ). IsFront (flat_map f (count_from 0 m)) (flat_map f (count_from 0 k))) e (flat-front f 0 m (n - m))

front-behind : (ws xs ys : List Mark) → IsFront xs ys → IsFront (ws ++ xs) (ws ++ ys)
front-behind ws xs ys f = (f.0, ap (λ (l : List Mark). ws ++ l) f.1 ∙ sym (append_assoc ws xs f.0))

-- one part more is in the list of more parts
next-in : (f : ℕ → List Mark) (c n : ℕ) → c < n
    → IsFront (flat_map f (count_from 0 c) ++ f c) (flat_map f (count_from 0 n))
next-in f c n l = front-front (flat_map f (count_from 0 c) ++ f c) (flat_map f (count_from 0 (suc c)))
    (flat_map f (count_from 0 n)) (subst (λ (ls : List Mark). IsFront ls (flat_map f (count_from 0 (suc c))))
    (flat-last f 0 c ∙ (let e : 0 + c ≡ c = omega arith in ap (λ (d : ℕ). flat_map f (count_from 0 c) ++ f d) e)) (
      [],
      sym (append-nil (flat_map f (count_from 0 (suc c)))),
    )) (fewer-front f (suc c) n l)

-- each pass of each case stands in the whole way
pub pass-front : (p : Program) (c k : ℕ) → c < case_count p → k < passes p
    → IsFront (way_to p c k ++ pass_way c) (whole_way p)
pass-front p c k l m =
    let f = λ (d : ℕ). few_passes d (passes p) in
    let before = flat_map f (count_from 0 c) in
    let all = flat_map f (count_from 0 (case_count p)) in
    let some : IsFront (way_to p c (suc k)) (before ++ f c) =
    front-behind before (few_passes c (suc k)) (f c) (fewer-front (λ j. pass_way c) (suc k) (passes p) m) in
    let whole : IsFront (way_to p c (suc k)) all =
    front-front (way_to p c (suc k)) (before ++ f c) all some (next-in f c (case_count p) l) in
    subst (λ (ls : List Mark). IsFront ls (whole_way p)) (sym (way-pass p c k))
    (front-front (way_to p c (suc k)) all (whole_way p) whole (Halt ∷ [], refl))

-- ---- run phases

pub none-before-run : (p : Program) (n : ℕ) → round_before p (2 * n + 1) ≡ None
none-before-run p n =
    let e : 2 * n + 1 ≡ suc (2 * n) = omega arith in
    ap (round_before p) e ∙ ap (λ (b : Bool). if b && nat_lt (2 * n / 2) (case_count p * passes p)
    then Some (2 * n / 2 / passes p) else None) (ne_eqb (2 * n % 2) 1 (λ z. omega arith))

-- ---- how much a hart saves

pub saves-few : (p : Program) (h : ℕ) → saved p h ≤ 798
unfolding owned window_dwords
saves-few p h =
    omega (
      arith,
      length-filter-le (λ a. is_declared p.cases a && (collector p.cases a == h))
          (map (λ q. windows_base + 8 * q) (count_from 0 768)),
      length-counted (λ q. windows_base + 8 * q) 768 0,
    )

-- ---- a stay

-- The part of the way that is a stream, exactly as the way asks for it.
pub turn-stay : (p : Program) → Formed p → MasksFit p.cases p.masks → (h : ℕ) → h < harts p → (limit : ℕ → ℕ)
    → ((c : ℕ) → c < case_count p → StreamClear p h c)
    → (c k o : ℕ) (s : State) → c < case_count p → k < passes p → o ≤ limit (phase_at p c k + 1)
    → Hold p h (start_of p h c) (phase_at p c k + 1) c o (way_to p c k ++ Exit ∷ Enter c ∷ []) s → Told p h limit s.log
    → Leads p h limit s (λ t. Hold p h (end_of p h c) (phase_at p c k + 1) c o (way_to p c k ++ Exit ∷ Enter c ∷ End c
    ∷ []) t × Stayed p h c (phase_at p c k + 1) s t × Told p h limit t.log)
turn-stay p formed fit h number limit clear c k o s l m room hold told =
    let ms = way_to p c k ++ Exit ∷ Enter c ∷ [] in
    let e : ms ++ End c ∷ [] ≡ way_to p c k ++ Exit ∷ Enter c ∷ End c ∷ [] =
    append_assoc (way_to p c k) (Exit ∷ Enter c ∷ []) (End c ∷ []) in
    let whole : IsFront (way_to p c k ++ Exit ∷ Enter c ∷ End c ∷ []) (whole_way p) =
    front-then (way_to p c k ++ Exit ∷ Enter c ∷ End c ∷ []) (Exit ∷ []) (whole_way p)
    (subst (λ (ls : List Mark). IsFront ls (whole_way p))
    (sym (append_assoc (way_to p c k) (Exit ∷ Enter c ∷ End c ∷ []) (Exit ∷ []))) (pass-front p c k l m)) in
    subst (λ (ls : List Mark). Leads p h limit s (λ t. Hold p h (end_of p h c) (phase_at p c k + 1) c o ls t
    × Stayed p h c (phase_at p c k + 1) s t × Told p h limit t.log)) e
    (stay p formed fit h number limit c l (clear c l) (phase_at p c k + 1) c o ms (none-before-run p (turns p c k))
    (omega arith) room (subst (λ (ls : List Mark). IsFront ls (whole_way p)) (sym e) whole) s
    (let a = saves-few p h in omega arith) (let b = formed.program.cases.passes.1 in omega arith) hold told)
