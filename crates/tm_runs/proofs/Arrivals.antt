-- Which stream holds an address, and which marks a step comes to.
use Rattle.std.proofs.Common.{◌≡◌, ◌≢◌, ℕ, zero, suc, ◌+◌, ◌<◌, ◌≤◌, List, [], ◌∷◌, ◌++◌, Bool, true, false}
use Rattle.std.proofs.Common.{true≢false, ◌&&◌, not, nat_le, nat_lt, ◌==◌, None, Some, ◌⊎◌, inl, inr, refl, sym, ap}
use Rattle.std.proofs.Common.{◌∙◌, arith, eq-eqb, ne_eqb, eqb-true, append-nil}
use Rattle.std.specs.Prelude.{flat_map, if◌then◌else◌}
use Rattle.std.proofs.lemmas.Bool.Decides.{nat_tests}
use Rattle.std.proofs.lemmas.Bool.{and_right}
use Rattle.tm_plan_cases.specs.declared.program.Program.{Program}
use Rattle.tm_base.specs.Lists.{count_from}
use Rattle.tm_world.specs.Lists.{first_of, those}
use Rattle.tm_world.specs.Place.{case_count, start_of, end_of, exit_of, halt_of, inside}
use Rattle.tm_world.specs.Kinds.{stream_at}
use Rattle.tm_world.specs.Marks.{Mark, Exit, Enter, End, Halt, Stray, comes_to, arrivals}

-- ---- the stream that holds an address

first-some : (test : ℕ → Bool) (n a c : ℕ) → a ≤ c → c < a + n → test c ≡ true
    → ((d : ℕ) → a ≤ d → d < c → test d ≡ false) → first_of test (count_from a n) ≡ Some c
first-some test zero a c p q e h = absurd (omega arith)
first-some test (suc n) a c p q e h =
    by (a == c) refl (λ l. first-some test n (suc a) c l (omega arith) e (λ d x y. h d (omega arith) y))
  where
    by : (b : Bool) → (a == c) ≡ b → (suc a ≤ c → first_of test (count_from (suc a) n) ≡ Some c)
        → (if test a then Some a else first_of test (count_from (suc a) n)) ≡ Some c
    by true s later =
        let same : a ≡ c = eqb-true a c s in
        ap (λ (b : Bool). if b then Some a else first_of test (count_from (suc a) n)) (ap test same ∙ e) ∙ ap Some same
    by false s later =
        let less : a < c = let ne : a ≢ c = λ z. true≢false (sym (eq-eqb a c z) ∙ s) in omega arith in
        ap (λ (b : Bool). if b then Some a else first_of test (count_from (suc a) n)) (h a (omega arith) less) ∙ later
        (omega arith)

first-none : (test : ℕ → Bool) (n a : ℕ) → ((d : ℕ) → a ≤ d → d < a + n → test d ≡ false)
    → first_of test (count_from a n) ≡ None
first-none test zero a h = refl
first-none test (suc n) a h =
    ap (λ (b : Bool). if b then Some a else first_of test (count_from (suc a) n)) (h a (omega arith) (omega arith))
    ∙ first-none test n (suc a) (λ d x y. h d (omega arith) (omega arith))

pub stream-some : (p : Program) (h c pc : ℕ) → c < case_count p → inside p h c pc ≡ true
    → ((d : ℕ) → d < c → inside p h d pc ≡ false) → stream_at p h pc ≡ Some c
stream-some p h c pc l e f = first-some (λ d. inside p h d pc) (case_count p) 0 c (omega arith) (omega arith) e
    (λ d _ y. f d y)

pub stream-none : (p : Program) (h pc : ℕ) → ((d : ℕ) → d < case_count p → inside p h d pc ≡ false)
    → stream_at p h pc ≡ None
stream-none p h pc f = first-none (λ d. inside p h d pc) (case_count p) 0 (λ d _ y. f d (omega arith))

-- ---- marks

-- a step comes to no mark of case c
pub record Quiet (p : Program) (h from to c : ℕ) : Type 0 where
  pub enter : comes_to p h (Enter c) from to ≡ false
  pub end : comes_to p h (End c) from to ≡ false
  pub stray : comes_to p h (Stray c) from to ≡ false

abbrev three : ℕ → List Mark
three c = Enter c ∷ End c ∷ Stray c ∷ []

module _ (p : Program) (h from to : ℕ) where
  abbrev met : Mark → Bool
  met m = comes_to p h m from to

  skip : (m : Mark) (ms : List Mark) → met m ≡ false → those met (m ∷ ms) ≡ those met ms
  skip m ms e = ap (λ (b : Bool). if b then m ∷ those met ms else those met ms) e

  take : (m : Mark) (ms : List Mark) → met m ≡ true → those met (m ∷ ms) ≡ m ∷ those met ms
  take m ms e = ap (λ (b : Bool). if b then m ∷ those met ms else those met ms) e

  pass : (c : ℕ) (ms : List Mark) → Quiet p h from to c → those met (Enter c ∷ End c ∷ Stray c ∷ ms) ≡ those met ms
  pass c ms q =
      skip (Enter c) (End c ∷ Stray c ∷ ms) q.enter ∙ (skip (End c) (Stray c ∷ ms) q.end ∙ skip (Stray c) ms q.stray)

  no-case : (n a : ℕ) → ((c : ℕ) → a ≤ c → c < a + n → Quiet p h from to c)
      → those met (flat_map (λ c. Enter c ∷ End c ∷ Stray c ∷ []) (count_from a n)) ≡ []
  no-case zero a q = refl
  no-case (suc n) a q = pass a _ (q a (omega arith) (omega arith)) ∙ no-case n (suc a)
      (λ c x y. q c (omega arith) (omega arith))

  joins : (xs ys : List Mark) → those met (xs ++ ys) ≡ those met xs ++ those met ys
  joins [] ys = refl
  joins (x ∷ xs) ys = by (met x) (joins xs ys)
    where
      by : (b : Bool) → those met (xs ++ ys) ≡ those met xs ++ those met ys
          → (if b then x ∷ those met (xs ++ ys) else those met (xs ++ ys))
          ≡ (if b then x ∷ those met xs else those met xs) ++ those met ys
      by true later = ap (λ (l : List Mark). x ∷ l) later
      by false later = later

  one-case : (n a c : ℕ) → a ≤ c → c < a + n → ((d : ℕ) → a ≤ d → d < a + n → d ≢ c → Quiet p h from to d)
      → those met (flat_map (λ d. Enter d ∷ End d ∷ Stray d ∷ []) (count_from a n)) ≡ those met (three c)
  one-case zero a c l m q = absurd (omega arith)
  one-case (suc n) a c l m q =
      by (a == c) refl (λ k. one-case n (suc a) c k (omega arith) (λ d x y z. q d (omega arith) (omega arith) z))
    where
      rest : List Mark
      rest = flat_map (λ d. Enter d ∷ End d ∷ Stray d ∷ []) (count_from (suc a) n)

      by : (b : Bool) → (a == c) ≡ b → (suc a ≤ c → those met rest ≡ those met (three c)) → those met (three a ++ rest)
          ≡ those met (three c)
      by true s later =
          let same : a ≡ c = eqb-true a c s in
          joins (three a) rest
          ∙ (ap (λ (l : List Mark). those met (three a) ++ l)
          (no-case n (suc a) (λ d x y. q d (omega arith) (omega arith) (λ z. omega arith)))
          ∙ (append-nil (those met (three a)) ∙ ap (λ (d : ℕ). those met (three d)) same))
      by false s later =
          let ne : a ≢ c = λ z. true≢false (sym (eq-eqb a c z) ∙ s) in
          pass a rest (q a (omega arith) (omega arith) ne) ∙ later (omega arith)

  -- a step that comes to no stream's mark
  module _ (quiet : (c : ℕ) → c < case_count p → Quiet p h from to c) where
    plain : arrivals p h from to ≡ those met (Exit ∷ Halt ∷ [])
    plain = joins (Exit ∷ Halt ∷ []) _ ∙ (ap (λ (l : List Mark). those met (Exit ∷ Halt ∷ []) ++ l)
        (no-case (case_count p) 0 (λ c _ y. quiet c (omega arith))) ∙ append-nil _)

    pub arrivals-none : to ≢ exit_of p h → to ≢ halt_of p h → arrivals p h from to ≡ []
    arrivals-none e f = plain ∙ (skip Exit (Halt ∷ []) (ne_eqb _ _ e) ∙ skip Halt [] (ne_eqb _ _ f))

    pub arrivals-exit : to ≡ exit_of p h → to ≢ halt_of p h → arrivals p h from to ≡ Exit ∷ []
    arrivals-exit e f =
        plain ∙ (take Exit (Halt ∷ []) (eq-eqb _ _ e) ∙ ap (λ (l : List Mark). Exit ∷ l) (skip Halt [] (ne_eqb _ _ f)))

    pub arrivals-halt : to ≢ exit_of p h → to ≡ halt_of p h → arrivals p h from to ≡ Halt ∷ []
    arrivals-halt e f = plain ∙ (skip Exit (Halt ∷ []) (ne_eqb _ _ e) ∙ take Halt [] (eq-eqb _ _ f))

  -- a step that comes to marks of one case alone
  module _ (c : ℕ) (few : c < case_count p) (quiet : (d : ℕ) → d < case_count p → d ≢ c
      → Quiet p h from to d) (no-exit : to ≢ exit_of p h) (no-halt : to ≢ halt_of p h) where
    of-case : arrivals p h from to ≡ those met (three c)
    of-case =
        let ms = flat_map (λ d. Enter d ∷ End d ∷ Stray d ∷ []) (count_from 0 (case_count p)) in
        skip Exit (Halt ∷ ms) (ne_eqb _ _ no-exit) ∙ (skip Halt ms (ne_eqb _ _ no-halt) ∙ one-case (case_count p) 0 c
        (omega arith) (omega arith) (λ d _ y z. quiet d (omega arith) z))

    pub arrivals-enter : comes_to p h (Enter c) from to ≡ true → comes_to p h (End c) from to ≡ false
        → comes_to p h (Stray c) from to ≡ false → arrivals p h from to ≡ Enter c ∷ []
    arrivals-enter e f g =
        of-case ∙ (take (Enter c) (End c ∷ Stray c ∷ []) e ∙ ap (λ (l : List Mark). Enter c ∷ l)
        (skip (End c) (Stray c ∷ []) f ∙ skip (Stray c) [] g))

    pub arrivals-end : comes_to p h (Enter c) from to ≡ false → comes_to p h (End c) from to ≡ true
        → comes_to p h (Stray c) from to ≡ false → arrivals p h from to ≡ End c ∷ []
    arrivals-end e f g =
        of-case ∙ (skip (Enter c) (End c ∷ Stray c ∷ []) e ∙
        (take (End c) (Stray c ∷ []) f ∙ ap (λ (l : List Mark). End c ∷ l) (skip (Stray c) [] g)))

-- ---- what a step comes to, by addresses

between-true : (lo hi b : ℕ) → lo ≤ b → b < hi → (nat_le lo b && nat_lt b hi) ≡ true
between-true lo hi b p q = grind (arith, nat_tests)

between-false : (lo hi b : ℕ) → (b < lo) ⊎ (hi ≤ b) → (nat_le lo b && nat_lt b hi) ≡ false
between-false lo hi b h = grind (arith, nat_tests)

pub inside-true : (p : Program) (h c pc : ℕ) → start_of p h c ≤ pc → pc < end_of p h c → inside p h c pc ≡ true
inside-true p h c pc l m = between-true (start_of p h c) (end_of p h c) pc l m

pub inside-false : (p : Program) (h c pc : ℕ) → (pc < start_of p h c) ⊎ (end_of p h c ≤ pc) → inside p h c pc ≡ false
inside-false p h c pc l = between-false (start_of p h c) (end_of p h c) pc l

off : (lo hi to : ℕ) → lo ≤ hi → (to < lo) ⊎ (hi < to) → (to ≢ lo) × (to ≢ hi) × ((to < lo) ⊎ (hi ≤ to))
off lo hi to l (inl q) = (λ z. omega arith, λ z. omega arith, inl q)
off lo hi to l (inr q) = (λ z. omega arith, λ z. omega arith, inr (omega arith))

-- a step to an address before a stream or behind its end
pub quiet-off : (p : Program) (h from to c : ℕ) → start_of p h c ≤ end_of p h c → (to < start_of p h c)
    ⊎ (end_of p h c < to) → Quiet p h from to c
quiet-off p h from to c l q =
    let o = off (start_of p h c) (end_of p h c) to l q in
    record {
      enter = ap (λ (b : Bool). b && not (inside p h c from)) (ne_eqb to (start_of p h c) o.0);
      end = ne_eqb to (end_of p h c) o.1;
      stray = ap (λ (b : Bool). b && (not (inside p h c from) && not (to == start_of p h c)))
          (inside-false p h c to o.2);
    }

-- a step inside a stream
pub quiet-in : (p : Program) (h from to c : ℕ) → inside p h c from ≡ true → to < end_of p h c → Quiet p h from to c
quiet-in p h from to c e l = record {
  enter = and_right (to == start_of p h c) (not (inside p h c from)) (ap not e);
  end = ne_eqb to (end_of p h c) (λ z. omega arith);
  stray = and_right (inside p h c to) (not (inside p h c from) && not (to == start_of p h c))
      (ap (λ (b : Bool). not b && not (to == start_of p h c)) e);
}

-- a step to a stream's start from outside
pub enters : (p : Program) (h from to c : ℕ) → start_of p h c < end_of p h c → to ≡ start_of p h c
    → inside p h c from ≡ false → (comes_to p h (Enter c) from to ≡ true) × (comes_to p h (End c) from to ≡ false)
    × (comes_to p h (Stray c) from to ≡ false)
enters p h from to c l e f =
    let same : (to == start_of p h c) ≡ true = eq-eqb to (start_of p h c) e in (
      ap (λ (b : Bool). b && not (inside p h c from)) same ∙ ap not f,
      ne_eqb to (end_of p h c) (λ z. omega arith),
      and_right (inside p h c to) _ (and_right (not (inside p h c from)) (not (to == start_of p h c)) (ap not same)),
    )

-- a step from inside a stream to its end
pub ends : (p : Program) (h from to c : ℕ) → to ≡ end_of p h c → inside p h c from ≡ true
    → (comes_to p h (Enter c) from to ≡ false) × (comes_to p h (End c) from to ≡ true)
    × (comes_to p h (Stray c) from to ≡ false)
ends p h from to c e f = (
  and_right (to == start_of p h c) (not (inside p h c from)) (ap not f),
  eq-eqb to (end_of p h c) e,
  ap (λ (b : Bool). b && (not (inside p h c from) && not (to == start_of p h c)))
      (inside-false p h c to (inr (omega arith))),
)
