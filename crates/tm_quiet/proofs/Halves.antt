-- Where a hart is on its way: inside a stream it is in a run phase of the stream's case, and has entered as many
-- streams as there were.
use Rattle.std.proofs.Common.{◌≡◌, ◌≢◌, ℕ, suc, ◌+◌, ◌*◌, ◌/◌, ◌%◌, ◌<◌, ◌≤◌, List, [], ◌∷◌, Bool, true, false}
use Rattle.std.proofs.Common.{nat_lt, ◌==◌, None, Some, sym, ap, ◌∙◌, arith, eq-eqb, ne_eqb}
use Rattle.std.specs.Prelude.{if◌then◌else◌}
use Rattle.std.proofs.lemmas.Bool.{and_from, lt-ltb, false≢true}
use Rattle.tm_plan_cases.specs.declared.program.Program.{Program}
use Rattle.tm_world.specs.Place.{harts, case_count, passes, exit_of, inside}
use Rattle.tm_world.specs.Run.{Step, now, first_state, phase}
use Rattle.tm_world.specs.Writers.{case_of_phase}
use Rattle.tm_world.specs.Kinds.{HalfPath}
use Rattle.tm_world.specs.Course.{KeepsOrder}
use Rattle.tm_legal.specs.Tame.{Formed}
use Rattle.tm_stays.proofs.Turns.{turned, exits-inside, exits-phase, at_exit, not-at-exit}
use Rattle.tm_stays.proofs.Entries.{entered, inside-entered}

-- run phase i is of this case
pub runs : (p : Program) (i : ℕ) → i < case_count p * passes p → case_of_phase p (2 * i + 1) ≡ Some (i / passes p)
runs p i l =
    let half : (2 * i + 1) / 2 ≡ i = omega arith in
    let odd : ((2 * i + 1) % 2 == 1) ≡ true = eq-eqb ((2 * i + 1) % 2) 1 (omega arith) in
    let few : nat_lt ((2 * i + 1) / 2) (case_count p * passes p) ≡ true =
    lt-ltb ((2 * i + 1) / 2) (case_count p * passes p) (omega arith) in
    ap (λ (b : Bool). if b then Some ((2 * i + 1) / 2 / passes p)
    else None) (and_from ((2 * i + 1) % 2 == 1) (nat_lt ((2 * i + 1) / 2) (case_count p * passes p)) odd few)
    ∙ ap (λ (n : ℕ). Some (n / passes p)) half

module _ (p : Program) (formed : Formed p) (h : ℕ) (number : h < harts p) (x : List ℕ) where
  -- inside a stream the hart is not at its exit mark
  pub inside-off : (own : List Step) → HalfPath p h (first_state x) own → KeepsOrder p h (first_state x) own → (c : ℕ)
      → c < case_count p → inside p h c (now (first_state x) own).pc ≡ true → (now (first_state x) own).pc ≢ exit_of p h
  inside-off [] path k c few i e = false≢true (sym (formed.laid.outside h c number few) ∙ i)
  inside-off (s ∷ past) path k c few i e = not-at-exit p formed h number x s past path k c few i e

  -- and in a run phase of the stream's case
  pub inside-run : (own : List Step) → HalfPath p h (first_state x) own → KeepsOrder p h (first_state x) own → (c : ℕ)
      → c < case_count p → inside p h c (now (first_state x) own).pc ≡ true
      → (i : ℕ) × (phase (exit_of p h) own ≡ 2 * i + 1) × (i < case_count p * passes p) × (i / passes p ≡ c)
  inside-run own path k c few i =
      let (j, a, l, d) = exits-inside p formed h number x own path k c few i in
      let off = ap at_exit (ne_eqb (now (first_state x) own).pc (exit_of p h) (inside-off own path k c few i)) in
      let b = exits-phase p formed h number x own path in
      (j, omega arith, l, ap (λ (n : ℕ). n / passes p) (let z : j ≡ 0 + j = omega arith in z) ∙ d)

  -- where it is inside a stream
  pub in-stream : (own : List Step) → HalfPath p h (first_state x) own → KeepsOrder p h (first_state x) own → (d : ℕ)
      → d < case_count p → inside p h d (now (first_state x) own).pc ≡ true → (i : ℕ)
      × (phase (exit_of p h) own ≡ 2 * i + 1) × (entered p h (first_state x) own ≡ suc i) × (i / passes p ≡ d)
  in-stream [] path k d few i = absurd (false≢true (sym (formed.laid.outside h d number few) ∙ i))
  in-stream (s ∷ past) path k d few i = inside-entered p formed h number x s past path k d few i

  -- in a run phase it has entered as many streams as there were run phases before it, at least
  pub entered-least : (own : List Step) → HalfPath p h (first_state x) own → KeepsOrder p h (first_state x) own
      → (i : ℕ) → phase (exit_of p h) own ≡ 2 * i + 1 → i ≤ entered p h (first_state x) own
  entered-least own path k i run =
      let t = (turned p formed h number x own k).upper in
      let e = exits-phase p formed h number x own path in
      omega arith

  -- and at most one more
  pub entered-most : (own : List Step) → HalfPath p h (first_state x) own → KeepsOrder p h (first_state x) own → (i : ℕ)
      → phase (exit_of p h) own ≡ 2 * i + 1 → entered p h (first_state x) own ≤ suc i
  entered-most own path k i run =
      let t = (turned p formed h number x own k).lower in
      let e = exits-phase p formed h number x own path in
      let b = most ((now (first_state x) own).pc == exit_of p h) in
      omega arith
    where
      most : (b : Bool) → at_exit b ≤ 1
      most true = omega arith
      most false = omega arith
