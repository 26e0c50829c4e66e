-- Where a hart is inside a stream, it has entered it once more than it has come to its end, so it is in the run phase
-- of a pass.
use Rattle.std.proofs.Common.{◌≡◌, ◌≢◌, ℕ, zero, suc, ◌+◌, ◌*◌, ◌/◌, ◌%◌, ◌<◌, ◌≤◌, List, [], ◌∷◌, ◌++◌, Bool, true}
use Rattle.std.proofs.Common.{false, not, nat_lt, ◌==◌, Option, None, Some, ◌⊎◌, inl, inr, refl, sym, ap, ◌∙◌, subst}
use Rattle.std.proofs.Common.{arith, append_assoc, eq-eqb, ne_eqb, eqb-true}
use Rattle.std.specs.Prelude.{AllPairs, flat_map, if◌then◌else◌}
use Rattle.std.specs.List.{AllByRecursion as Each}
use Rattle.std.proofs.lemmas.List.Elements.{recursion_from_All}
use Rattle.std.proofs.lemmas.Bool.{cases_eq, cases_Bool, and_parts, and_from, and_right, lt-ltb, false_from_ne_true}
use Rattle.std.proofs.lemmas.Bool.{true≢false, false≢true}
use Rattle.tm_table.specs.State.{Hart}
use Rattle.tm_plan_cases.specs.declared.program.Program.{Program}
use Rattle.tm_plan_map.specs.Map.{text_base}
use Rattle.tm_base.specs.Lists.{count_from}
use Rattle.tm_world.specs.Lists.{those}
use Rattle.tm_world.specs.Place.{harts, case_count, passes, start_of, end_of, exit_of, inside}
use Rattle.tm_world.specs.Run.{Step, now, first_state, own as own_steps, pc_of, phase}
use Rattle.tm_world.specs.Writers.{case_of_phase}
use Rattle.tm_world.specs.Kinds.{HalfPath, HalfStep, stream_at}
use Rattle.tm_world.specs.Marks.{Mark, Exit, Enter, End, Halt, Stray, comes_to, all_marks, arrivals, visited}
use Rattle.tm_world.specs.Course.{KeepsOrder}
use Rattle.tm_world.specs.Whole.{marks_of, mark_addresses}
use Rattle.tm_world.proofs.Streams.{shaped-stream, stream-of}
use Rattle.tm_runs.proofs.Arrivals.{inside-true}
use Rattle.tm_legal.specs.Tame.{Formed}
use Rattle.tm_legal.proofs.Weights.{weight, weight-append, weight-those, weight-three, weight-arrivals, met-weight}
use Rattle.tm_legal.proofs.Streams.{inside-parts}
use Rattle.tm_legal.proofs.Order.{stream-none, stream-some, sum-part, order-no_stray, entered}
use Rattle.tm_stays.specs.Laws.{StaysInPhase}
use Rattle.tm_stays.proofs.Fronts.{exits, entering, ending, Turns, way-turns}
use Rattle.tm_runs.proofs.Paths.{stands}

-- ---- what arrives

-- marks that aren't met weigh nothing
unmet : (f : Mark → ℕ) (met : Mark → Bool) → ((m : Mark) → met m ≡ true → f m ≡ 0) → (ms : List Mark)
    → weight f (those met ms) ≡ 0
unmet f met none [] = refl
unmet f met none (m ∷ ms) = by (met m) refl (unmet f met none ms)
  where
    by : (b : Bool) → met m ≡ b → weight f (those met ms) ≡ 0 → weight f (if b then m ∷ those met ms else those met ms)
        ≡ 0
    by true e r = let z = none m e in omega arith
    by false e r = r

module _ (p : Program) (h from to : ℕ) where
  abbrev met : Mark → Bool
  met m = comes_to p h m from to

  at-least : (f : Mark → ℕ) (g : ℕ → ℕ) (c n : ℕ) → c < case_count p
      → ((d : ℕ) → g d ≤ met-weight f met (Enter d) + met-weight f met (End d) + met-weight f met (Stray d)) → n ≤ g c
      → n ≤ weight f (arrivals p h from to)
  at-least f g c n l k e =
      let a = weight-arrivals f p h from to g k in
      let b = sum-part g (case_count p) 0 c (omega arith) (omega arith) in
      omega arith

  enters-once : (c : ℕ) → c < case_count p → met (Enter c) ≡ true → 1 ≤ weight (entering c) (arrivals p h from to)
  enters-once c l e =
      at-least (entering c) (λ d. met-weight (entering c) met (Enter d)) c 1 l (λ d. omega arith)
      (let z : met-weight (entering c) met (Enter c) ≡ 1 = ap (λ (b : Bool). if b then (if c == c then 1 else 0)
      else 0) e ∙ ap (λ (b : Bool). if b then 1 else 0) (eq-eqb c c refl) in omega arith)

  ends-once : (c : ℕ) → c < case_count p → met (End c) ≡ true → 1 ≤ weight (ending c) (arrivals p h from to)
  ends-once c l e =
      at-least (ending c) (λ d. met-weight (ending c) met (End d)) c 1 l (λ d. omega arith)
      (let z : met-weight (ending c) met (End c) ≡ 1 = ap (λ (b : Bool). if b then (if c == c then 1 else 0)
      else 0) e ∙ ap (λ (b : Bool). if b then 1 else 0) (eq-eqb c c refl) in omega arith)

  none-enters : (c : ℕ) → met (Enter c) ≡ false → weight (entering c) (arrivals p h from to) ≡ 0
  none-enters c e = unmet (entering c) met by (all_marks p)
    where
      at : (d : ℕ) → (d ≡ c) ⊎ (d ≡ c → ⊥) → met (Enter d) ≡ true → entering c (Enter d) ≡ 0
      at d (inl s) q = absurd (true≢false (sym q ∙ (ap (λ (x : ℕ). met (Enter x)) s ∙ e)))
      at d (inr n) q = ap (λ (b : Bool). if b then 1 else 0) (ne_eqb d c n)

      by : (m : Mark) → met m ≡ true → entering c m ≡ 0
      by Exit q = refl
      by Halt q = refl
      by (Enter d) q = at d (cases_eq d c) q
      by (End d) q = refl
      by (Stray d) q = refl

  none-ends : (c : ℕ) → met (End c) ≡ false → weight (ending c) (arrivals p h from to) ≡ 0
  none-ends c e = unmet (ending c) met by (all_marks p)
    where
      at : (d : ℕ) → (d ≡ c) ⊎ (d ≡ c → ⊥) → met (End d) ≡ true → ending c (End d) ≡ 0
      at d (inl s) q = absurd (true≢false (sym q ∙ (ap (λ (x : ℕ). met (End x)) s ∙ e)))
      at d (inr n) q = ap (λ (b : Bool). if b then 1 else 0) (ne_eqb d c n)

      by : (m : Mark) → met m ≡ true → ending c m ≡ 0
      by Exit q = refl
      by Halt q = refl
      by (Enter d) q = refl
      by (End d) q = at d (cases_eq d c) q
      by (Stray d) q = refl

pub either : (b : Bool) → ◌≡◌ {A = ℕ} (if b then 0 else 0) 0
either true = refl
either false = refl

exits-none : (met : Mark → Bool) (cs : List ℕ)
    → weight exits (those met (flat_map (λ c. Enter c ∷ End c ∷ Stray c ∷ []) cs)) ≡ 0
exits-none met [] = refl
exits-none met (c ∷ cs) =
    let a = weight-three exits met c (flat_map (λ c. Enter c ∷ End c ∷ Stray c ∷ []) cs) in
    let b = exits-none met cs in
    let x = either (met (Enter c)) in
    let y = either (met (End c)) in
    let z = either (met (Stray c)) in
    omega arith

-- the exits that arrive
pub exit-arrives : (p : Program) (h from to : ℕ) → weight exits (arrivals p h from to)
    ≡ (if to == exit_of p h then 1 else 0)
exit-arrives p h from to =
    let met = λ (m : Mark). comes_to p h m from to in
    let ms = flat_map (λ c. Enter c ∷ End c ∷ Stray c ∷ []) (count_from 0 (case_count p)) in
    let a = weight-those exits met Exit (Halt ∷ ms) in
    let b = weight-those exits met Halt ms in
    let c = either (met Halt) in
    let d = exits-none met (count_from 0 (case_count p)) in
    omega arith

-- ---- a hart's way

pub order-before : (p : Program) (h : ℕ) (first : Hart) (s : Step) (past : List Step) → KeepsOrder p h first (s ∷ past)
    → KeepsOrder p h first past
order-before p h first s past k =
    let ms = arrivals p h (now first past).pc s.after.pc in
    (ms ++ k.0, k.1 ∙ append_assoc (visited p h first past) ms k.0)

abbrev pub entries : Program → ℕ → Hart → List Step → ℕ → ℕ
entries p h first own d = weight (entering d) (visited p h first own)

abbrev pub ends : Program → ℕ → Hart → List Step → ℕ → ℕ
ends p h first own d = weight (ending d) (visited p h first own)

abbrev pub Turned : Program → ℕ → Hart → List Step → Type 0
Turned p h first own = Turns (passes p) 0 (case_count p * passes p) (visited p h first own)

-- Inside a stream the hart has entered it once more than it has come to its end, and outside as often.
pub record Balance (p : Program) (h : ℕ) (first : Hart) (own : List Step) (d : ℕ) : Type 0 where
  pub within : inside p h d (now first own).pc ≡ true → entries p h first own d ≡ ends p h first own d + 1
  pub without : inside p h d (now first own).pc ≡ false → entries p h first own d ≡ ends p h first own d

-- it is in one stream alone
alone : (p : Program) (h : ℕ) (first : Hart) (own : List Step) → Turned p h first own → (c d : ℕ)
    → entries p h first own c ≡ ends p h first own c + 1 → entries p h first own d ≡ ends p h first own d + 1 → c ≡ d
alone p h first own t c d e f =
    let (i, x, _, a) = t.during c e in
    let (j, y, _, b) = t.during d f in
    let same : i ≡ j = omega arith in
    sym a ∙ (ap (λ (n : ℕ). (0 + n) / passes p) same ∙ b)

module _ (p : Program) (formed : Formed p) (h : ℕ) (number : h < harts p) (x : List ℕ) where
  pub turned : (own : List Step) → KeepsOrder p h (first_state x) own → Turned p h (first_state x) own
  turned own k = way-turns p (visited p h (first_state x) own) k

  module _ (s : Step) (past : List Step) (k : KeepsOrder p h (first_state x) (s ∷ past))
      (step : HalfStep p h (stream_at p h (now (first_state x) past).pc) (now (first_state x) past) past s) (d : ℕ)
      (few : d < case_count p) (before : (c : ℕ) → c < case_count p → Balance p h (first_state x) past c) where
    abbrev from : ℕ
    from = (now (first_state x) past).pc

    abbrev to : ℕ
    to = s.after.pc

    long : start_of p h d < end_of p h d
    long =
        let (stream, e) = stream-of p.cases d h formed.program.cases few number in
        let l = formed.laid.long h d stream number e in
        let some = (shaped-stream p.cases d h stream formed.program.cases e).some in
        omega arith

    -- the sums after the step
    more-entries : entries p h (first_state x) (s ∷ past) d
        ≡ entries p h (first_state x) past d + weight (entering d) (arrivals p h from to)
    more-entries = weight-append (entering d) (visited p h (first_state x) past) (arrivals p h from to)

    more-ends : ends p h (first_state x) (s ∷ past) d
        ≡ ends p h (first_state x) past d + weight (ending d) (arrivals p h from to)
    more-ends = weight-append (ending d) (visited p h (first_state x) past) (arrivals p h from to)

    at-start : comes_to p h (Enter d) from to ≡ true → inside p h d to ≡ true
    at-start e =
        let at : to ≡ start_of p h d =
        eqb-true to (start_of p h d) (and_parts (to == start_of p h d) (not (inside p h d from)) e).0 in
        let l = long in
        inside-true p h d to (omega arith) (omega arith)

    at-end : comes_to p h (End d) from to ≡ true → inside p h d to ≡ true → ⊥
    at-end e i =
        let at : to ≡ end_of p h d = eqb-true to (end_of p h d) e in
        let q = inside-parts p h d to i in
        omega arith

    no-entry-inside : inside p h d from ≡ true → comes_to p h (Enter d) from to ≡ false
    no-entry-inside i = and_right (to == start_of p h d) (not (inside p h d from)) (ap not i)

    stays-out : inside p h d from ≡ false → inside p h d to ≡ false → entries p h (first_state x) (s ∷ past) d
        ≡ ends p h (first_state x) (s ∷ past) d
    stays-out i o =
        let b = (before d few).without i in
        let none = none-enters p h from to d (false_from_ne_true (comes_to p h (Enter d) from to)
        (λ e. false≢true (sym o ∙ at-start e))) in
        let t = (turned (s ∷ past) k).least d in
        omega (arith, more-entries, more-ends)

    comes-in : inside p h d from ≡ false → inside p h d to ≡ true → entries p h (first_state x) (s ∷ past) d
        ≡ ends p h (first_state x) (s ∷ past) d + 1
    comes-in i o =
        let b = (before d few).without i in
        let strays = order-no_stray p h (first_state x) (s ∷ past) k in
        let once = enters-once p h from to d few (entered p h (first_state x) s past d strays few i o) in
        let t = (turned (s ∷ past) k).most d in
        let none = none-ends p h from to d (false_from_ne_true (comes_to p h (End d) from to) (λ e. at-end e o)) in
        omega (arith, more-entries, more-ends)

    stays-in : inside p h d from ≡ true → inside p h d to ≡ true → entries p h (first_state x) (s ∷ past) d
        ≡ ends p h (first_state x) (s ∷ past) d + 1
    stays-in i o =
        let b = (before d few).within i in
        let a = none-enters p h from to d (no-entry-inside i) in
        let none = none-ends p h from to d (false_from_ne_true (comes_to p h (End d) from to) (λ e. at-end e o)) in
        omega (arith, more-entries, more-ends)

    -- out of a stream leads to its end alone
    leaves : (c : Option ℕ) → stream_at p h from ≡ c → HalfStep p h c (now (first_state x) past) past s
        → inside p h d from ≡ true → inside p h d to ≡ false → to ≡ end_of p h d
    leaves None e f i o = absurd (false≢true (sym (stream-none p h from d e few) ∙ i))
    leaves (Some c) e f i o =
        let q = stream-some p h from c e in
        let same : c ≡ d = alone p h (first_state x) past (turned past (order-before p h (first_state x) s past k)) c d
        ((before c q.1).within q.0) ((before d few).within i) in
        let lo : start_of p h d ≤ to = subst (λ (z : ℕ). start_of p h z ≤ to) same f.lands.0 in
        let hi : to ≤ end_of p h d = subst (λ (z : ℕ). to ≤ end_of p h z) same f.lands.1 in
        elim (cases_eq to (end_of p h d)) [
          | inl g ↦ g
          | inr n ↦ absurd (false≢true (sym o ∙ inside-true p h d to lo (omega arith)))
        ]

    comes-out : inside p h d from ≡ true → inside p h d to ≡ false → entries p h (first_state x) (s ∷ past) d
        ≡ ends p h (first_state x) (s ∷ past) d
    comes-out i o =
        let b = (before d few).within i in
        let a = none-enters p h from to d (no-entry-inside i) in
        let once = ends-once p h from to d few (eq-eqb to (end_of p h d) (leaves (stream_at p h from) refl step i o)) in
        let t = (turned (s ∷ past) k).least d in
        omega (arith, more-entries, more-ends)

    balanced : Balance p h (first_state x) (s ∷ past) d
    balanced = elim (cases_Bool (inside p h d from)) [
      | inl i ↦ record { within = λ o. stays-in i o; without = λ o. comes-out i o }
      | inr i ↦ record { within = λ o. comes-in i o; without = λ o. stays-out i o }
    ]

  pub balance : (own : List Step) → HalfPath p h (first_state x) own → KeepsOrder p h (first_state x) own → (d : ℕ)
      → d < case_count p → Balance p h (first_state x) own d
  balance [] path k d few = record {
    within = λ i. absurd (false≢true (sym (formed.laid.outside h d number few) ∙ i));
    without = λ i. refl;
  }
  balance (s ∷ past) path k d few =
      let earlier = balance past path.1 (order-before p h (first_state x) s past k) in
      balanced s past k path.0 d few earlier

-- ---- the exit mark

Each-left : (P : ℕ → Type 0) (xs ys : List ℕ) → Each P (xs ++ ys) → Each P xs
Each-left P [] ys h = tt
Each-left P (x ∷ xs) ys h = (h.0, Each-left P xs ys h.1)

Each-right : (P : ℕ → Type 0) (xs ys : List ℕ) → Each P (xs ++ ys) → Each P ys
Each-right P [] ys h = h
Each-right P (x ∷ xs) ys h = Each-right P xs ys h.1

-- each element of the lists of cases
pub Each-flat : (P : ℕ → Type 0) (f : ℕ → List ℕ) (n a c : ℕ) → a ≤ c → c < a + n → Each P (flat_map f (count_from a n))
    → Each P (f c)
Each-flat P f zero a c l m h = absurd (omega arith)
Each-flat P f (suc n) a c l m h = elim (cases_eq a c) [
  | inl e ↦ subst (λ (z : ℕ). Each P (f z)) e (Each-left P (f a) _ h)
  | inr d ↦ Each-flat P f n (suc a) c (omega arith) (omega arith) (Each-right P (f a) _ h)
]

-- each is other than all later ones
abbrev pub Distinct : List ℕ → Type 0
Distinct [] = Unit {0}
Distinct (x ∷ xs) = Each (λ y. x ≢ y) xs × Distinct xs

pub distinct : (xs : List ℕ) → AllPairs (λ a b. a ≢ b) xs → Distinct xs
distinct [] h = tt
distinct (x ∷ xs) h = (
  recursion_from_All (λ y. x ≢ y) xs (λ k d l. h 0 (suc k) d (omega arith) (omega arith)),
  distinct xs (λ i j d l m. h (suc i) (suc j) d (omega arith) (omega arith)),
)

Distinct-left : (xs ys : List ℕ) → Distinct (xs ++ ys) → Distinct xs
Distinct-left [] ys h = tt
Distinct-left (x ∷ xs) ys h = (Each-left (λ y. x ≢ y) xs ys h.0, Distinct-left xs ys h.1)

Distinct-right : (xs ys : List ℕ) → Distinct (xs ++ ys) → Distinct ys
Distinct-right [] ys h = h
Distinct-right (x ∷ xs) ys h = Distinct-right xs ys h.1

pub Distinct-flat : (f : ℕ → List ℕ) (n a c : ℕ) → a ≤ c → c < a + n → Distinct (flat_map f (count_from a n))
    → Distinct (f c)
Distinct-flat f zero a c l m h = absurd (omega arith)
Distinct-flat f (suc n) a c l m h = elim (cases_eq a c) [
  | inl e ↦ subst (λ (z : ℕ). Distinct (f z)) e (Distinct-left (f a) _ h)
  | inr d ↦ Distinct-flat f n (suc a) c (omega arith) (omega arith) (Distinct-right (f a) _ h)
]

-- the exit mark is neither the text's first word nor the start of a stream
pub exit-entry : (p : Program) → Formed p → (h : ℕ) → h < harts p → text_base ≢ exit_of p h
exit-entry p formed h l e =
    (Each-flat (λ a. a ≢ text_base) (marks_of p) (harts p) 0 h (omega arith) (omega arith)
    (recursion_from_All (λ a. a ≢ text_base) (mark_addresses p) formed.laid.entry)).0 (sym e)

pub exit-start : (p : Program) → Formed p → (h c : ℕ) → h < harts p → c < case_count p → exit_of p h ≢ start_of p h c
exit-start p formed h c l few =
    let marks = Distinct-flat (marks_of p) (harts p) 0 h (omega arith) (omega arith)
    (distinct (mark_addresses p) formed.laid.apart) in
    (Each-flat (λ y. exit_of p h ≢ y) (λ d. start_of p h d ∷ end_of p h d ∷ []) (case_count p) 0 c (omega arith)
    (omega arith) marks.0.1).0

-- ---- phases

-- one where the test holds
abbrev pub at_exit : Bool → ℕ
at_exit b = if b then 1 else 0

phase-more : (exit : ℕ) (s : Step) (past : List Step) → phase exit (s ∷ past)
    ≡ phase exit past + at_exit (pc_of s == exit)
phase-more exit s past = by (pc_of s == exit)
  where
    by : (b : Bool) → (if b then suc (phase exit past) else phase exit past) ≡ phase exit past + at_exit b
    by true = omega arith
    by false = omega arith

-- each step at the exit mark was come to
pub exits-phase : (p : Program) → Formed p → (h : ℕ) → h < harts p → (x : List ℕ) → (own : List Step)
    → HalfPath p h (first_state x) own → weight exits (visited p h (first_state x) own)
    ≡ phase (exit_of p h) own + at_exit ((now (first_state x) own).pc == exit_of p h)
exits-phase p formed h number x [] path = let e =
    ap at_exit (ne_eqb text_base (exit_of p h) (exit-entry p formed h number)) in omega arith
exits-phase p formed h number x (s ∷ past) path =
    let from = (now (first_state x) past).pc in
    let before = exits-phase p formed h number x past path.1 in
    let a = weight-append exits (visited p h (first_state x) past) (arrivals p h from s.after.pc) in
    let b = exit-arrives p h from s.after.pc in
    let place = stands p h (stream_at p h from) (now (first_state x) past) past s path.0 in
    let c = ap (λ (n : ℕ). at_exit (n == exit_of p h)) place in
    let d = phase-more (exit_of p h) s past in
    omega arith

module _ (p : Program) (formed : Formed p) (h : ℕ) (number : h < harts p) (x : List ℕ) where
  -- how many exits the hart has come to inside a stream
  pub exits-inside : (own : List Step) → HalfPath p h (first_state x) own → KeepsOrder p h (first_state x) own → (c : ℕ)
      → c < case_count p → inside p h c (now (first_state x) own).pc ≡ true → (i : ℕ)
      × (weight exits (visited p h (first_state x) own) ≡ 2 * i + 1) × (i < case_count p * passes p)
      × ((0 + i) / passes p ≡ c)
  exits-inside own path k c few i =
      (turned p formed h number x own k).during c ((balance p formed h number x own path k c few).within i)

  -- it isn't at the exit mark there
  pub not-at-exit : (s : Step) (past : List Step) → HalfPath p h (first_state x) (s ∷ past)
      → KeepsOrder p h (first_state x) (s ∷ past) → (c : ℕ) → c < case_count p → inside p h c s.after.pc ≡ true
      → s.after.pc ≢ exit_of p h
  not-at-exit s past path k c few i e = elim (cases_Bool (inside p h c (now (first_state x) past).pc)) [
    | inl t ↦
        let (n, a, _, _) = exits-inside (s ∷ past) path k c few i in
        let (m, b, _, _) = exits-inside past path.1 (order-before p h (first_state x) s past k) c few t in
        let q = weight-append exits (visited p h (first_state x) past)
        (arrivals p h (now (first_state x) past).pc s.after.pc) in
        let r = exit-arrives p h (now (first_state x) past).pc s.after.pc in
        let z = ap at_exit (eq-eqb s.after.pc (exit_of p h) e) in
        omega arith
    | inr f ↦
        let came = entered p h (first_state x) s past c (order-no_stray p h (first_state x) (s ∷ past) k) few f i in
        let start : s.after.pc ≡ start_of p h c =
        eqb-true s.after.pc (start_of p h c) (and_parts (s.after.pc == start_of p h c)
        (not (inside p h c (now (first_state x) past).pc)) came).0 in
        exit-start p formed h c number few (sym e ∙ start)
  ]

  -- Inside a stream of a case the hart is in the run phase of a pass of that case.
  pub in-phase : (own : List Step) → HalfPath p h (first_state x) own → KeepsOrder p h (first_state x) own → (c : ℕ)
      → stream_at p h (now (first_state x) own).pc ≡ Some c → case_of_phase p (phase (exit_of p h) own) ≡ Some c
  in-phase [] path k c e = let q = stream-some p h text_base c e in
      absurd (false≢true (sym (formed.laid.outside h c number q.1) ∙ q.0))
  in-phase (s ∷ past) path k c e =
      let q = stream-some p h s.after.pc c e in
      let (i, a, l, d) = exits-inside (s ∷ past) path k c q.1 q.0 in
      let off = ap at_exit (ne_eqb s.after.pc (exit_of p h) (not-at-exit s past path k c q.1 q.0)) in
      let b = exits-phase p formed h number x (s ∷ past) path in
      let phase-is : phase (exit_of p h) (s ∷ past) ≡ 2 * i + 1 = omega arith in
      ap (case_of_phase p) phase-is ∙ run i l d
    where
      run : (i : ℕ) → i < case_count p * passes p → (0 + i) / passes p ≡ c → case_of_phase p (2 * i + 1) ≡ Some c
      run i l d =
          let half : (2 * i + 1) / 2 ≡ i = omega arith in
          let odd : ((2 * i + 1) % 2 == 1) ≡ true = eq-eqb ((2 * i + 1) % 2) 1 (omega arith) in
          let few : nat_lt ((2 * i + 1) / 2) (case_count p * passes p) ≡ true =
          lt-ltb ((2 * i + 1) / 2) (case_count p * passes p) (omega arith) in
          let same : i ≡ 0 + i = omega arith in
          ap (λ (b : Bool). if b then Some ((2 * i + 1) / 2 / passes p)
          else None) (and_from ((2 * i + 1) % 2 == 1) (nat_lt ((2 * i + 1) / 2) (case_count p * passes p)) odd few)
          ∙ ap Some (ap (λ (n : ℕ). n / passes p) (half ∙ same) ∙ d)

pub stays-in-phase : (p : Program) → StaysInPhase p
stays-in-phase p formed h number order r half c e =
    in-phase p formed h number (r.opening h) (own_steps h r.steps) (half.each h number) (order r half) c e
