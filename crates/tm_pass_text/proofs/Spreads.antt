-- Marks that rise are apart.
use Rattle.std.proofs.Common.{◌≡◌, ◌≢◌, ◌⊎◌, inl, inr, ℕ, zero, suc, ◌+◌, ◌<◌, ◌≤◌, false, List, [], ◌∷◌, ap, arith}
use Rattle.std.specs.Prelude.{flat_map, map, AllPairs, All}
use Rattle.std.proofs.lemmas.Bool.{cases_lt}
use Rattle.tm_plan_cases.specs.declared.program.Program.{Program}
use Rattle.tm_plan_map.specs.Map.{text_base}
use Rattle.tm_base.specs.Lists.{count_from}
use Rattle.tm_world.specs.Place.{harts, case_count, start_of, end_of, halt_of, inside}
use Rattle.tm_world.specs.Whole.{marks_of, mark_addresses, stream_ranges}
use Rattle.tm_runs.proofs.Arrivals.{inside-false}
use Rattle.tm_pass_text.specs.Spread.{Spread, Apart, SpreadIsApart}
use Rattle.tm_pass_text.proofs.Pairs.{Each, Pairs, each-all, pairs-all, each-map, each-flat, pairs-flat}

-- what rises step by step rises
rises : (f : ℕ → ℕ) (n : ℕ) → ((c : ℕ) → c < n → f c ≤ f (suc c)) → (c d : ℕ) → c ≤ d → d ≤ n → f c ≤ f d
rises f n up c zero l m = let e : c ≡ zero = omega arith in omega (arith, ap f e)
rises f n up c (suc d) l m = by (cases_lt c (suc d)) (λ k. rises f n up c d k (omega arith))
  where
    by : (c < suc d) ⊎ (suc d ≤ c) → (c ≤ d → f c ≤ f d) → f c ≤ f (suc d)
    by (inl x) k = let a = k (omega arith) in let b = up d (omega arith) in omega arith
    by (inr x) k = let e : c ≡ suc d = omega arith in omega (arith, ap f e)

-- lo ≤ a < hi
abbrev Span : ℕ → ℕ → ℕ → Type 0
Span lo hi a = (lo ≤ a) × (a < hi)

module _ (p : Program) (base : ℕ → ℕ) (head : ℕ → ℕ → ℕ) (s : Spread p base head) where
  abbrev C : ℕ
  C = case_count p

  pub head-up : (h c d : ℕ) → h < harts p → c ≤ d → d ≤ C → head h c ≤ head h d
  head-up h c d l m n = rises (head h) C (λ k z. omega (arith, s.start h k l z, s.some h k l z, s.end h k l z)) c d m n

  base-up : (g h : ℕ) → g ≤ h → h ≤ harts p → base g ≤ base h
  base-up g h m n = rises base (harts p) (λ k z. omega (
    arith,
    s.begin k z,
    head-up k 0 C z (omega arith) (omega arith),
    s.halt k z,
    s.exit k z,
    s.next k z,
  )) g h m n

  -- the starts and ends of a hart
  abbrev ends-of : ℕ → List ℕ
  ends-of h = flat_map (λ c. start_of p h c ∷ end_of p h c ∷ []) (count_from 0 C)

  in-case : (h c : ℕ) → h < harts p → c < C → Each (Span (head h c) (head h (suc c))) (start_of p h c ∷ end_of p h c
      ∷ [])
  in-case h c l m = let a = s.start h c l m in let b = s.some h c l m in let d = s.end h c l m in
      ((omega arith, omega arith), ((omega arith, omega arith), tt))

  ends-in : (h : ℕ) → h < harts p → Each (Span (head h 0) (head h C)) (ends-of h)
  ends-in h l = each-flat (Span (head h 0) (head h C)) (λ c. start_of p h c ∷ end_of p h c ∷ []) C 0
      (λ c _ m. each-map {P = Span (head h c) (head h (suc c))} {Q = Span (head h 0) (head h C)}
      (λ x q. let a = head-up h 0 c l (omega arith) (omega arith) in
      let b = head-up h (suc c) C l (omega arith) (omega arith) in
      (omega arith, omega arith)) (start_of p h c ∷ end_of p h c ∷ []) (in-case h c l (omega arith)))

  marks-in : (h : ℕ) → h < harts p → Each (Span (head h 0) (base (suc h))) (marks_of p h)
  marks-in h l =
      let a = head-up h 0 C l (omega arith) (omega arith) in
      let b = s.halt h l in
      let c = s.exit h l in
      let d = s.next h l in (
        (omega arith, omega arith),
        (
          (omega arith, omega arith),
          each-map {P = Span (head h 0) (head h C)} {Q = Span (head h 0) (base (suc h))}
              (λ x q. (q.0, omega (arith, q.1))) (ends-of h) (ends-in h l),
        ),
      )

  marks-apart : (h : ℕ) → h < harts p → Pairs (λ a b. a ≢ b) (marks_of p h)
  marks-apart h l =
      let b = s.halt h l in
      let c = s.exit h l in (
        (
          (λ z. omega arith),
          each-map {P = Span (head h 0) (head h C)} (λ x q z. omega (arith, q.1, z)) (ends-of h)
              (ends-in h l),
        ),
        (
          each-map {P = Span (head h 0) (head h C)} (λ x q z. omega (arith, q.1, z)) (ends-of h) (ends-in h l),
          pairs-flat (λ a b. a ≢ b) (λ c. Span (head h c) (head h (suc c))) (λ c. start_of p h c ∷ end_of p h c ∷ []) C
              0
              (λ c d x y _ m n i j z. let u = head-up h (suc c) d l (omega arith) (omega arith) in
              omega (arith, i.1, j.0, z))
              (λ c _ m. in-case h c l (omega arith))
              (λ c _ m. let u = s.some h c l (omega arith) in (((λ z. omega arith), tt), (tt, tt))),
        ),
      )

  apart : AllPairs (λ a b. a ≢ b) (mark_addresses p)
  apart = pairs-all (λ a b. a ≢ b) (mark_addresses p)
      (pairs-flat (λ a b. a ≢ b) (λ h. Span (base h) (base (suc h))) (marks_of p) (harts p) 0
      (λ g h x y _ m n i j z. let u = base-up (suc g) h (omega arith) (omega arith) in omega (arith, i.1, j.0, z))
      (λ h _ m. let l : h < harts p = omega arith in
      each-map {P = Span (head h 0) (base (suc h))} {Q = Span (base h) (base (suc h))}
      (λ x q. let u = s.begin h l in (omega (arith, q.0), q.1)) (marks_of p h) (marks-in h l))
      (λ h _ m. marks-apart h (omega arith)))

  above : (h : ℕ) → h < harts p → text_base < head h 0
  above h l = let a = base-up 0 h (omega arith) (omega arith) in let b = s.begin h l in let c = s.first in omega arith

  entry : All (λ a. a ≢ text_base) (mark_addresses p)
  entry = each-all (λ a. a ≢ text_base) (mark_addresses p)
      (each-flat (λ a. a ≢ text_base) (marks_of p) (harts p) 0 (λ h _ m. let l : h < harts p = omega arith in
      each-map {P = Span (head h 0) (base (suc h))} (λ x q z. let u = above h l in
      omega (arith, q.0, z)) (marks_of p h) (marks-in h l)))

  outside : (h c : ℕ) → h < harts p → c < C → inside p h c text_base ≡ false
  outside h c l m = let a = above h l in let b = head-up h 0 c l (omega arith) (omega arith) in let d =
      s.start h c l m in inside-false p h c text_base (inl (omega arith))

  halted : (h c : ℕ) → h < harts p → c < C → inside p h c (halt_of p h) ≡ false
  halted h c l m = let a = s.end h c l m in let b = head-up h (suc c) C l (omega arith) (omega arith) in let d =
      s.halt h l in inside-false p h c (halt_of p h) (inr (omega arith))

  -- ---- streams

  abbrev Off : ℕ × ℕ → ℕ × ℕ → Type 0
  Off a b = (a.1 ≤ b.0) ⊎ (b.1 ≤ a.0)

  abbrev range : ℕ → ℕ → ℕ × ℕ
  range h c = (start_of p h c, end_of p h c)

  -- map is a flat map of single elements
  map-each : (P : ℕ × ℕ → Type 0) (f : ℕ → ℕ × ℕ) (n a : ℕ) → ((c : ℕ) → a ≤ c → c < a + n → P (f c))
      → Each P (map f (count_from a n))
  map-each P f zero a e = tt
  map-each P f (suc n) a e =
      (e a (omega arith) (omega arith), map-each P f n (suc a) (λ c l m. e c (omega arith) (omega arith)))

  map-pairs : (R : ℕ × ℕ → ℕ × ℕ → Type 0) (f : ℕ → ℕ × ℕ) (n a : ℕ)
      → ((c d : ℕ) → a ≤ c → c < d → d < a + n → R (f c) (f d)) → Pairs R (map f (count_from a n))
  map-pairs R f zero a e = tt
  map-pairs R f (suc n) a e = (
    map-each (R (f a)) f n (suc a) (λ c l m. e a c (omega arith) l (omega arith)),
    map-pairs R f n (suc a) (λ c d l m k. e c d (omega arith) m (omega arith)),
  )

  streams : AllPairs Off (stream_ranges p)
  streams = pairs-all Off (stream_ranges p)
      (pairs-flat Off (λ h r. (base h ≤ r.0) × (r.1 ≤ base (suc h))) (λ h. map (range h) (count_from 0 C)) (harts p) 0
      (λ g h x y _ m n i j. let u = base-up (suc g) h (omega arith) (omega arith) in inl (omega (arith, i.1, j.0)))
      (λ h _ m. let l : h < harts p = omega arith in map-each (λ r. (base h ≤ r.0) × (r.1 ≤ base (suc h))) (range h) C 0
      (λ c _ n. let a = head-up h 0 c l (omega arith) (omega arith) in
      let b = head-up h (suc c) C l (omega arith) (omega arith) in (
        omega (arith, s.begin h l, s.start h c l (omega arith)),
        omega (arith, s.end h c l (omega arith), s.halt h l, s.exit h l, s.next h l),
      )))
      (λ h _ m. let l : h < harts p = omega arith in
      map-pairs Off (range h) C 0 (λ c d _ n k. let u = head-up h (suc c) d l (omega arith) (omega arith) in
      inl (omega (arith, s.end h c l (omega arith), s.start h d l (omega arith))))))

  pub all-apart : Apart p
  all-apart = record { apart = apart; entry = entry; outside = outside; streams = streams; halted = halted }

pub spread-apart : (p : Program) → SpreadIsApart p
spread-apart p base head s = all-apart p base head s
