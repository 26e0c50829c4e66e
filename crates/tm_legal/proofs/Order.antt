-- A hart that keeps the order of its marks comes into its streams at their starts alone, and so with their first
-- registers.
use Rattle.std.proofs.Common.{◌≡◌, ◌≢◌, ℕ, zero, suc, ◌+◌, ◌*◌, ◌<◌, ◌≤◌, List, [], ◌∷◌, Bool, true, false, ◌&&◌, not}
use Rattle.std.proofs.Common.{◌==◌, Option, None, Some, refl, sym, ap, ◌∙◌, arith, ◌⊎◌, inl, inr, eq-eqb, eqb-true}
use Rattle.std.specs.Prelude.{IsTrue, if◌then◌else◌}
use Rattle.std.proofs.lemmas.Bool.{true≢false, false≢true, cases_eq}
use Rattle.tm_table.specs.State.{Hart}
use Rattle.tm_plan_cases.specs.declared.program.Program.{Program}
use Rattle.tm_plan_cases.specs.Collected.{sum_of}
use Rattle.tm_base.specs.Lists.{count_from}
use Rattle.tm_world.specs.Lists.{first_of}
use Rattle.tm_world.specs.Place.{harts, case_count, passes, start_of, inside}
use Rattle.tm_world.specs.Run.{Step, now, first_state}
use Rattle.tm_world.specs.Kinds.{HalfPath, HalfStep, stream_at}
use Rattle.tm_world.specs.Marks.{Mark, Exit, Enter, End, Halt, Stray, comes_to, arrivals, visited, pass_way, whole_way}
use Rattle.tm_world.specs.Course.{KeepsOrder, EntersFresh}
use Rattle.tm_world.proofs.Streams.{shaped-stream, stream-of}
use Rattle.tm_legal.specs.Tame.{Formed}
use Rattle.tm_legal.proofs.Weights.{weight, weight-append, weight-front, weight-way, weight-arrivals, met-weight}
use Rattle.tm_legal.proofs.Streams.{IsBased}

-- ---- sums

pub sum-zero : (g : ℕ → ℕ) (cs : List ℕ) → ((c : ℕ) → g c ≡ 0) → sum_of g cs ≡ 0
sum-zero g [] h = refl
sum-zero g (c ∷ cs) h = let a = h c in let b = sum-zero g cs h in omega arith

pub sum-part : (g : ℕ → ℕ) (n a c : ℕ) → a ≤ c → c < a + n → g c ≤ sum_of g (count_from a n)
sum-part g zero a c p q = absurd (omega arith)
sum-part g (suc n) a c p q = by (a == c) refl (λ l. sum-part g n (suc a) c l (omega arith))
  where
    by : (b : Bool) → (a == c) ≡ b → (suc a ≤ c → g c ≤ sum_of g (count_from (suc a) n))
        → g c ≤ g a + sum_of g (count_from (suc a) n)
    by true e later = let s = ap g (eqb-true a c e) in omega arith
    by false e later = let ne : a ≢ c = λ z. true≢false (sym (eq-eqb a c z) ∙ e) in let l = later (omega arith) in
        omega arith

-- ---- the stream that holds an address

pub none-holds : (test : ℕ → Bool) (n a c : ℕ) → first_of test (count_from a n) ≡ None → a ≤ c → c < a + n
    → test c ≡ false
none-holds test zero a c e p q = absurd (omega arith)
none-holds test (suc n) a c e p q = by (test a) refl e (λ r l. none-holds test n (suc a) c r l (omega arith))
    (cases_eq a c)
  where
    by : (b : Bool) → test a ≡ b → (if b then Some a else first_of test (count_from (suc a) n)) ≡ None
        → (first_of test (count_from (suc a) n) ≡ None → suc a ≤ c → test c ≡ false) → (a ≡ c) ⊎ (a ≡ c → ⊥)
        → test c ≡ false
    by true t f later o = cc
    by false t f later (inl same) = ap test (sym same) ∙ t
    by false t f later (inr ne) = later f (omega arith)

pub one-holds : (test : ℕ → Bool) (n a c : ℕ) → first_of test (count_from a n) ≡ Some c → (test c ≡ true) × (c < a + n)
one-holds test zero a c e = cc
one-holds test (suc n) a c e = by (test a) refl e (λ r. one-holds test n (suc a) c r)
  where
    by : (b : Bool) → test a ≡ b → (if b then Some a else first_of test (count_from (suc a) n)) ≡ Some c
        → (first_of test (count_from (suc a) n) ≡ Some c → (test c ≡ true) × (c < suc a + n)) → (test c ≡ true)
        × (c < a + suc n)
    by true t f later = let same : a ≡ c = cc in (ap test (sym same) ∙ t, omega arith)
    by false t f later = let r = later f in (r.0, omega (arith, r.1))

-- where no stream holds an address, it is inside none
pub stream-none : (p : Program) (h pc c : ℕ) → stream_at p h pc ≡ None → c < case_count p → inside p h c pc ≡ false
stream-none p h pc c e l = none-holds (λ d. inside p h d pc) (case_count p) 0 c e (omega arith) (omega arith)

pub stream-some : (p : Program) (h pc c : ℕ) → stream_at p h pc ≡ Some c → (inside p h c pc ≡ true) × (c < case_count p)
stream-some p h pc c e = let r = one-holds (λ d. inside p h d pc) (case_count p) 0 c e in (r.0, omega (arith, r.1))

-- ---- no stray

abbrev is_stray : Mark → ℕ
is_stray Exit = 0
is_stray Halt = 0
is_stray (Enter c) = 0
is_stray (End c) = 0
is_stray (Stray c) = 1

-- The hart never came into a stream at another place than its start.
abbrev pub NoStray : Program → ℕ → Hart → List Step → Type 0
NoStray p h first own = weight is_stray (visited p h first own) ≡ 0

pub order-no_stray : (p : Program) (h : ℕ) (first : Hart) (own : List Step) → KeepsOrder p h first own
    → NoStray p h first own
order-no_stray p h first own k =
    let a = weight-front is_stray (visited p h first own) (whole_way p) k in
    let b = weight-way is_stray p refl in
    let s = sum-zero (λ c. weight is_stray (pass_way c)) (count_from 0 (case_count p)) (λ c. refl) in
    let m : passes p * 0 ≡ 0 = omega arith in
    let w : weight is_stray (whole_way p) ≡ 0 = b ∙ (ap (λ (x : ℕ). passes p * x) s ∙ m) in
    omega arith

pub no_stray-before : (p : Program) (h : ℕ) (first : Hart) (s : Step) (past : List Step) → NoStray p h first (s ∷ past)
    → NoStray p h first past
no_stray-before p h first s past e = let a =
    weight-append is_stray (visited p h first past) (arrivals p h (now first past).pc s.after.pc) in omega arith

at-start : (a b d : Bool) → a ≡ true → b ≡ false → (a && (not b && not d)) ≡ false → (d && not b) ≡ true
at-start true false true p q r = refl
at-start true false false p q r = sym r
at-start true true d p q r = absurd (true≢false q)
at-start false b d p q r = absurd (false≢true p)

-- So coming into it from outside is entering it.
pub entered : (p : Program) (h : ℕ) (first : Hart) (s : Step) (past : List Step) (c : ℕ) → NoStray p h first (s ∷ past)
    → c < case_count p → inside p h c (now first past).pc ≡ false → inside p h c s.after.pc ≡ true
    → IsTrue (comes_to p h (Enter c) (now first past).pc s.after.pc)
entered p h first s past c e l out in' =
    let from = (now first past).pc in
    let to = s.after.pc in
    let a = weight-append is_stray (visited p h first past) (arrivals p h from to) in
    let g = λ (d : ℕ). met-weight is_stray (λ m. comes_to p h m from to) (Stray d) in
    let b = weight-arrivals is_stray p h from to g (λ d. omega arith) in
    let part = sum-part g (case_count p) 0 c (omega arith) (omega arith) in
    let none : g c ≡ 0 = omega arith in
    at-start (inside p h c to) (inside p h c from) (to == start_of p h c) in' out
    (not-met (comes_to p h (Stray c) from to) none)
  where
    not-met : (b : Bool) → ◌≡◌ {A = ℕ} (if b then 1 else 0) 0 → b ≡ false
    not-met true q = absurd (omega arith)
    not-met false q = refl

-- ---- the bases

-- Inside a stream the bases of the windows are in their registers.
pub based : (p : Program) → Formed p → (h : ℕ) → h < harts p → (x : List ℕ) (own : List Step)
    → HalfPath p h (first_state x) own → NoStray p h (first_state x) own → EntersFresh p h (first_state x) own → (c : ℕ)
    → c < case_count p → inside p h c (now (first_state x) own).pc ≡ true → IsBased (now (first_state x) own)
based p formed h l x [] path strays fresh c few i = absurd (false≢true (sym (formed.laid.outside h c l few) ∙ i))
based p formed h l x (s ∷ past) path strays fresh c few i =
    by (inside p h c (now (first_state x) past).pc) refl
    (based p formed h l x past path.1 (no_stray-before p h (first_state x) s past strays) fresh.1 c few)
  where
    before : Hart
    before = now (first_state x) past

    kept : (o : Option ℕ) → stream_at p h before.pc ≡ o → HalfStep p h o before past s → inside p h c before.pc ≡ true
        → IsBased before → IsBased s.after
    kept None e f t b = absurd (false≢true (sym (stream-none p h before.pc c e few) ∙ t))
    kept (Some d) e f t b = λ w m. f.bases (28 + w) (omega arith) ∙ b w m

    by : (t : Bool) → inside p h c before.pc ≡ t → (inside p h c before.pc ≡ true → IsBased before) → IsBased s.after
    by true t b = kept (stream_at p h before.pc) refl path.0 t (b t)
    by false t b =
        let (stream, e) = stream-of p.cases c h formed.program.cases few l in
        let first = fresh.0 c stream e (entered p h (first_state x) s past c strays few t i) in
        λ w m. first (28 + w) (omega arith) (omega arith) ∙
        (shaped-stream p.cases c h stream formed.program.cases e).bases w m
