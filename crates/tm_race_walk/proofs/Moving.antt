-- One slot, by planes.
use Rattle.std.proofs.Common.{◌≡◌, ◌≢◌, ℕ, zero, suc, ◌+◌, ◌-◌, ◌/◌, ◌%◌, ◌<◌, ◌≤◌, ◌||◌, ◌↔◌, ◌⊎◌, inl, inr, List}
use Rattle.std.proofs.Common.{[], ◌∷◌, ◌++◌, length, Bool, true, false, IsTrue, nat_lt, not, ◌==◌, refl, sym, ap}
use Rattle.std.proofs.Common.{subst, ◌∙◌, arith, eqb-true}
use Rattle.std.specs.Prelude.{Contains, slice_index, replicate, take, if◌then◌else◌}
use Rattle.std.proofs.lemmas.List.{take_more}
use Rattle.std.proofs.lemmas.Bool.{cases_eq, false≢true, false_from_ne_true, ltb-true, lt-ltb}
use Rattle.std.proofs.lemmas.List.Elements.{Contains-append_left, Contains-append_right, Contains-append_cases}
use Rattle.tm_plan_map.specs.Map.{windows_base, within}
use Rattle.tm_base.specs.Lists.{any, count_from}
use Rattle.tm_plan_map.proofs.Within.{within-parts, within-true}
use Rattle.tm_world.specs.Lists.{those}
use Rattle.tm_world.specs.Slots.{named}
use Rattle.tm_plane.specs.Plane.{Bit, in_plane, Overwritten}
use Rattle.tm_plane.proofs.WordLemmas.{bit-none}
use Rattle.tm_plane.proofs.PlaneLemmas.{in-plane, any-counted}

-- ---- lists

-- within a row: the first, or within the rest
later : (n a r : ℕ) → within (suc a) n r ≡ true → within a (suc n) r ≡ true
later n a r t = let p = within-parts (suc a) n r t in within-true a (suc n) r (omega (arith, p)) (omega (arith, p))

past : (n a r : ℕ) → a ≢ r → within a (suc n) r ≡ true → within (suc a) n r ≡ true
past n a r d t = let p = within-parts a (suc n) r t in
    within-true (suc a) n r (let q : a < r = grind arith in omega arith) (omega (arith, p))

here : (n a r : ℕ) → a ≡ r → within a (suc n) r ≡ true
here n a r s = within-true a (suc n) r (omega arith) (omega arith)

-- a number is in a row
in-more : (n a r : ℕ) → Contains (count_from (suc a) n) r ↔ (within (suc a) n r ≡ true)
    → Contains (a ∷ count_from (suc a) n) r ↔ (within a (suc n) r ≡ true)
in-more n a r rest = (to, back)
  where
    to : Contains (a ∷ count_from (suc a) n) r → within a (suc n) r ≡ true
    to (zero, l, s) = here n a r s
    to (suc k, l, s) = later n a r (rest.0 (k, omega (arith, l), s))

    back : within a (suc n) r ≡ true → Contains (a ∷ count_from (suc a) n) r
    back t = elim (cases_eq a r) [
      | inl s ↦ (0, omega arith, s)
      | inr d ↦ (let q = rest.1 (past n a r d t) in
          (suc q.0, omega (arith, q.1), q.2))
    ]

pub in-counted : (n a r : ℕ) → Contains (count_from a n) r ↔ (within a n r ≡ true)
in-counted zero a r = ((λ c. absurd (omega (arith, c.1))), (λ t. let q = within-parts a 0 r t in absurd (omega arith)))
in-counted (suc n) a r = in-more n a r (in-counted n (suc a) r)

-- those of numbers in a row that pass a test
those-more : (test : ℕ → Bool) (n a r : ℕ) (t : Bool) → test a ≡ t → Contains (those test (count_from (suc a) n)) r
    ↔ ((test r ≡ true) × (within (suc a) n r ≡ true))
    → Contains (if t then a ∷ those test (count_from (suc a) n) else those test (count_from (suc a) n)) r
    ↔ ((test r ≡ true) × (within a (suc n) r ≡ true))
those-more test n a r true e rest = (to, back)
  where
    to : Contains (a ∷ those test (count_from (suc a) n)) r → (test r ≡ true) × (within a (suc n) r ≡ true)
    to (zero, l, s) = (subst (λ (x : ℕ). test x ≡ true) s e, here n a r s)
    to (suc k, l, s) = let q = rest.0 (k, omega (arith, l), s) in (q.0, later n a r q.1)

    back : (test r ≡ true) × (within a (suc n) r ≡ true) → Contains (a ∷ those test (count_from (suc a) n)) r
    back p = elim (cases_eq a r) [
      | inl s ↦ (0, omega arith, s)
      | inr d ↦ (let q = rest.1 (p.0, past n a r d p.1) in
          (suc q.0, omega (arith, q.1), q.2))
    ]
those-more test n a r false e rest = (
  (λ c. let q = rest.0 c in (q.0, later n a r q.1)),
  (λ p. rest.1 (p.0, past n a r (λ s. false≢true (sym e ∙ (ap test s ∙ p.0))) p.1)),
)

pub those-counted : (test : ℕ → Bool) (n a r : ℕ) → Contains (those test (count_from a n)) r
    ↔ ((test r ≡ true) × (within a n r ≡ true))
those-counted test zero a r = (
  (λ c. absurd (omega (arith, c.1))),
  (λ p. let q = within-parts a 0 r p.1 in absurd (omega arith)),
)
those-counted test (suc n) a r = those-more test n a r (test a) refl (those-counted test n (suc a) r)

-- no register's number is a byte's
pub in-far : (plane : List ℕ) (r : ℕ) → r < 64 → in_plane plane r ≡ true → ⊥
unfolding windows_base
in-far plane r l t = let p = ((in-plane plane r).0 t).0 in omega arith

low-far : (a s : ℕ) → s < 64 → windows_base ≤ a → a ≤ s → ⊥
unfolding windows_base
low-far a s l b p = omega arith

-- registers other than x0
named-more : (d : ℕ) (rest : List ℕ) → d ≢ 0 → named (d ∷ rest) ≡ d ∷ named rest
named-more d rest some = let e : (d == 0) ≡ false = false_from_ne_true (d == 0) (λ t. some (eqb-true d 0 t)) in
    ap (λ (t : Bool). if not t then d ∷ named rest else named rest) e

pub one-named : (r d : ℕ) → Contains (named (d ∷ [])) r ↔ ((d ≢ 0) × (r ≡ d))
one-named r zero = ((λ c. absurd (omega (arith, c.1))), (λ p. absurd (p.0 refl)))
one-named r (suc d) =
    let e : named (suc d ∷ []) ≡ suc d ∷ [] = named-more (suc d) [] (λ z. omega arith) in (
      (λ c. to (subst (λ (xs : List ℕ). Contains xs r) e c)),
      (λ p. subst (λ (xs : List ℕ). Contains xs r) (sym e) (0, omega arith, sym p.1)),
    )
  where
    to : Contains (suc d ∷ []) r → (suc d ≢ 0) × (r ≡ suc d)
    to (zero, l, e) = ((λ z. omega arith), sym e)
    to (suc k, l, e) = absurd (omega (arith, l))

pub two-named : (r a b : ℕ) → Contains (named (a ∷ b ∷ [])) r
    ↔ (Contains (named (a ∷ [])) r ⊎ Contains (named (b ∷ [])) r)
two-named r zero b = ((λ c. inr c), (λ s. elim s [ inl c ↦ absurd (omega (arith, c.1)) | inr c ↦ c ]))
two-named r (suc a) b =
    let e : named (suc a ∷ b ∷ []) ≡ suc a ∷ named (b ∷ []) = named-more (suc a) (b ∷ []) (λ z. omega arith) in
    let f : named (suc a ∷ []) ≡ suc a ∷ [] = named-more (suc a) [] (λ z. omega arith) in (
      (λ c. elim (to (subst (λ (xs : List ℕ). Contains xs r) e c))
          [ inl x ↦ inl (subst (λ (xs : List ℕ). Contains xs r) (sym f) x) | inr x ↦ inr x ]),
      (λ s. subst (λ (xs : List ℕ). Contains xs r) (sym e)
          (back (elim s [ inl x ↦ inl (subst (λ (xs : List ℕ). Contains xs r) f x) | inr x ↦ inr x ]))),
    )
  where
    to : Contains (suc a ∷ named (b ∷ [])) r → Contains (suc a ∷ []) r ⊎ Contains (named (b ∷ [])) r
    to (zero, l, e) = inl (0, omega arith, e)
    to (suc k, l, e) = inr (k, omega (arith, l), e)

    back : Contains (suc a ∷ []) r ⊎ Contains (named (b ∷ [])) r → Contains (suc a ∷ named (b ∷ [])) r
    back (inl (zero, l, e)) = (0, omega arith, e)
    back (inl (suc k, l, e)) = absurd (omega (arith, l))
    back (inr (k, l, e)) = (suc k, omega (arith, l), e)

-- ---- reads

-- some held resource is read: a register, or a byte that is loaded
pub reads-told : (regs sources : ℕ) (bytes : List ℕ) (names : List ℕ) (a n : ℕ)
    → ((r : ℕ) → Bit sources r ↔ Contains names r) → ((r : ℕ) → Contains names r → r < 64) → (n ≢ 0 → windows_base ≤ a)
    → (((s : ℕ) × Bit sources s × Bit regs s) ⊎ IsTrue (any (in_plane bytes) (count_from a n)))
    ↔ ((s : ℕ) × Contains (names ++ count_from a n) s × (((s < 64) × Bit regs s) ⊎ IsTrue (in_plane bytes s)))
reads-told regs sources bytes names a n told few low = (to, back)
  where
    to : ((s : ℕ) × Bit sources s × Bit regs s) ⊎ IsTrue (any (in_plane bytes) (count_from a n)) → (s : ℕ)
        × Contains (names ++ count_from a n) s × (((s < 64) × Bit regs s) ⊎ IsTrue (in_plane bytes s))
    to (inl (s, x, y)) = (
      s,
      Contains-append_left names (count_from a n) s ((told s).0 x),
      inl (few s ((told s).0 x), y),
    )
    to (inr t) = let p = (any-counted (in_plane bytes) n a).0 t in
        (p.0, Contains-append_right names (count_from a n) p.0 ((in-counted n a p.0).1 p.1), inr p.2)

    by : (s : ℕ) → Contains names s ⊎ Contains (count_from a n) s → ((s < 64) × Bit regs s) ⊎ IsTrue (in_plane bytes s)
        → ((s : ℕ) × Bit sources s × Bit regs s) ⊎ IsTrue (any (in_plane bytes) (count_from a n))
    by s (inl m) (inl y) = inl (s, (told s).1 m, y.1)
    by s (inl m) (inr t) = absurd (in-far bytes s (few s m) t)
    by s (inr m) (inl y) =
        let p = within-parts a n s ((in-counted n a s).0 m) in
        absurd (low-far a s y.0 (low (λ z. omega (arith, p))) p.0)
    by s (inr m) (inr t) = inr ((any-counted (in_plane bytes) n a).1 (s, (in-counted n a s).0 m, t))

    back : ((s : ℕ) × Contains (names ++ count_from a n) s × (((s < 64) × Bit regs s) ⊎ IsTrue (in_plane bytes s)))
        → ((s : ℕ) × Bit sources s × Bit regs s) ⊎ IsTrue (any (in_plane bytes) (count_from a n))
    back q = by q.0 (Contains-append_cases names (count_from a n) q.0 q.1) q.2

-- ---- what is held

module _ (W W1 W2 H1 H2 N1 N2 M C : Type 0) (parts : W ↔ (W1 ⊎ W2))
    (one : N1 ↔ ((W1 × M) ⊎ (H1 × ((W1 → ⊥) ⊎ C)))) (two : N2 ↔ ((W2 × M) ⊎ (H2 × ((W2 → ⊥) ⊎ C))))
    (apart : H1 → W2 → ⊥) (other : H2 → W1 → ⊥) where
  -- of two kinds of resources that are apart, each is held as it was told
  pub joined : (N1 ⊎ N2) ↔ ((W × M) ⊎ ((H1 ⊎ H2) × ((W → ⊥) ⊎ C)))
  joined = (to, back)
    where
      to : N1 ⊎ N2 → (W × M) ⊎ ((H1 ⊎ H2) × ((W → ⊥) ⊎ C))
      to (inl n) = elim (one.0 n) [
        | inl p ↦ inl (parts.1 (inl p.0), p.1)
        | inr p ↦ inr (
          inl p.0,
          elim p.1 [ inl f ↦ inl (λ w. elim (parts.0 w) [ inl x ↦ f x | inr x ↦ apart p.0 x ]) | inr k ↦ inr k ],
        )
      ]
      to (inr n) = elim (two.0 n) [
        | inl p ↦ inl (parts.1 (inr p.0), p.1)
        | inr p ↦ inr (
          inr p.0,
          elim p.1 [ inl f ↦ inl (λ w. elim (parts.0 w) [ inl x ↦ other p.0 x | inr x ↦ f x ]) | inr k ↦ inr k ],
        )
      ]

      back : (W × M) ⊎ ((H1 ⊎ H2) × ((W → ⊥) ⊎ C)) → N1 ⊎ N2
      back (inl p) = elim (parts.0 p.0) [ inl x ↦ inl (one.1 (inl (x, p.1))) | inr x ↦ inr (two.1 (inl (x, p.1))) ]
      back (inr (inl h, inl f)) = inl (one.1 (inr (h, inl (λ x. f (parts.1 (inl x))))))
      back (inr (inl h, inr k)) = inl (one.1 (inr (h, inr k)))
      back (inr (inr h, inl f)) = inr (two.1 (inr (h, inl (λ x. f (parts.1 (inr x))))))
      back (inr (inr h, inr k)) = inr (two.1 (inr (h, inr k)))

-- the same in other words
pub overwritten-as : (V W H N M C : Type 0) (marks covered : Bool) → V ↔ W → IsTrue marks ↔ M → IsTrue covered ↔ C
    → N ↔ ((V × IsTrue marks) ⊎ (H × ((V → ⊥) ⊎ IsTrue covered))) → N ↔ ((W × M) ⊎ (H × ((W → ⊥) ⊎ C)))
overwritten-as V W H N M C marks covered e m k f = (
  (λ n. elim (f.0 n) [
    | inl p ↦ inl (e.0 p.0, m.0 p.1)
    | inr p ↦ inr (
      p.0,
      elim p.1 [ inl x ↦ inl (λ w. x (e.1 w)) | inr x ↦ inr (k.0 x) ],
    )
  ]),
  (λ s. f.1 (elim s [
    | inl p ↦ inl (e.1 p.0, m.1 p.1)
    | inr p ↦ inr (
      p.0,
      elim p.1 [ inl x ↦ inl (λ v. x (e.0 v)) | inr x ↦ inr (k.1 x) ],
    )
  ])),
)

-- registers after a slot: those of a word, below 64
below-too : (W : Type 0) (r old new : ℕ) (marks covered : Bool) → (W → r < 64) → Bit new r
    ↔ ((W × IsTrue marks) ⊎ (Bit old r × ((W → ⊥) ⊎ IsTrue covered)))
    → ((r < 64) × Bit new r) ↔ ((W × IsTrue marks) ⊎ (((r < 64) × Bit old r) × ((W → ⊥) ⊎ IsTrue covered)))
below-too W r old new marks covered few f = (
  (λ n. elim (f.0 n.1) [ inl p ↦ inl p | inr p ↦ inr ((n.0, p.0), p.1) ]),
  (λ s. elim s [ inl p ↦ (few p.0, f.1 (inl p)) | inr p ↦ (p.0.0, f.1 (inr (p.0.1, p.1))) ]),
)

-- What is held after a slot, by what was written to registers and bytes.
pub moved-told : (target old new : ℕ) (own before after : List ℕ) (rd a n : ℕ) (M C : Type 0) (marks covered : Bool)
    → rd < 32
    → ((r : ℕ) → Bit target r ↔ Contains (named (rd ∷ [])) r)
    → ((r : ℕ) → Bit new r ↔ Overwritten (Bit target r) (Bit old r) marks covered)
    → ((r : ℕ) → IsTrue (in_plane after r) ↔ Overwritten (IsTrue (in_plane own r)
    × IsTrue (within a n r)) (IsTrue (in_plane before r)) marks covered)
    → IsTrue marks ↔ M → IsTrue covered ↔ C → (r : ℕ)
    → (((r < 64) × Bit new r) ⊎ IsTrue (in_plane after r))
    ↔ ((Contains (named (rd ∷ []) ++ those (in_plane own) (count_from a n)) r × M)
    ⊎ ((((r < 64) × Bit old r) ⊎ IsTrue (in_plane before r))
    × ((Contains (named (rd ∷ []) ++ those (in_plane own) (count_from a n)) r → ⊥) ⊎ C)))
moved-told target old new own before after rd a n M C marks covered small named-is regs bytes m k r =
    let few : Bit target r → r < 64 = λ b. (let p = (one-named r rd).0 ((named-is r).0 b) in omega (arith, p.1)) in
    let far : Contains (named (rd ∷ [])) r → r < 64 = λ c. few ((named-is r).1 c) in
    joined (Contains (named (rd ∷ []) ++ those (in_plane own) (count_from a n)) r) (Contains (named (rd ∷ [])) r)
    (IsTrue (in_plane own r) × IsTrue (within a n r))
    ((r < 64) × Bit old r) (IsTrue (in_plane before r)) ((r < 64) × Bit new r) (IsTrue (in_plane after r)) M C (
      (λ c. elim (Contains-append_cases (named (rd ∷ [])) (those (in_plane own) (count_from a n)) r c)
          [ inl x ↦ inl x | inr x ↦ inr ((those-counted (in_plane own) n a r).0 x) ]),
      (λ s. elim s [
        | inl x ↦ Contains-append_left (named (rd ∷ [])) (those (in_plane own) (count_from a n)) r x
        | inr x ↦ Contains-append_right (named (rd ∷ [])) (those (in_plane own) (count_from a n)) r
            ((those-counted (in_plane own) n a r).1 x)
      ]),
    )
    (overwritten-as (Bit target r) (Contains (named (rd ∷ [])) r) ((r < 64) × Bit old r) ((r < 64)
    × Bit new r) M C marks covered (named-is r) m k
    (below-too (Bit target r) r old new marks covered few (regs r)))
    (overwritten-as (IsTrue (in_plane own r) × IsTrue (within a n r)) (IsTrue (in_plane own r)
    × IsTrue (within a n r)) (IsTrue (in_plane before r)) (IsTrue (in_plane after r)) M C marks covered (
      (λ x. x),
      (λ x. x),
    ) m k (bytes r))
    (λ h w. in-far own r h.0 w.0)
    (λ t w. in-far before r (far w) t)

-- ---- planes of zeros

zero-at : (n k : ℕ) → slice_index (replicate n 0) k ≡ 0
zero-at zero k = refl
zero-at (suc n) zero = refl
zero-at (suc n) (suc k) = zero-at n k

-- no byte is in a plane of zeros
pub none-zero : (n b : ℕ) → in_plane (replicate n 0) b ≡ true → ⊥
none-zero n b t =
    bit-none ((b - windows_base) % 64) (subst (λ (v : ℕ). Bit v ((b - windows_base) % 64))
    (zero-at n ((b - windows_base) / 64)) ((in-plane (replicate n 0) b).0 t).1)

-- ---- words of a stream, one after another

pub any-snoc : (test : ℕ → Bool) (xs : List ℕ) (x : ℕ) → any test (xs ++ x ∷ []) ≡ (any test xs || test x)
any-snoc test [] x = by (test x)
  where
    by : (t : Bool) → (t || false) ≡ t
    by true = refl
    by false = refl
any-snoc test (y ∷ ys) x = ap (λ (t : Bool). test y || t) (any-snoc test ys x) ∙ by (test y) (any test ys) (test x)
  where
    by : (s t u : Bool) → (s || (t || u)) ≡ ((s || t) || u)
    by true t u = refl
    by false t u = refl

pub any-more : (test : ℕ → Bool) (xs : List ℕ) (k : ℕ) (old new : Bool) → k < length xs → old ≡ any test (take k xs)
    → new ≡ (old || test (slice_index xs k)) → new ≡ any test (take (k + 1) xs)
any-more test xs k old new l o e =
    e ∙ (ap (λ (t : Bool). t || test (slice_index xs k)) o ∙
    (sym (any-snoc test (take k xs) (slice_index xs k)) ∙ ap (any test) (sym (take_more xs k 0 l))))

-- ---- tests in other words

pub marks-as : (t l u races : Bool) (R N : Type 0) → IsTrue t ↔ (IsTrue l ⊎ (IsTrue u ⊎ N)) → l ≡ races → IsTrue u ↔ R
    → IsTrue t ↔ ((races ≡ true) ⊎ (R ⊎ N))
marks-as t l u races R N e is f = (
  (λ x. elim (e.0 x) [ inl a ↦ inl (sym is ∙ a) | inr s ↦ elim s [ inl b ↦ inr (inl (f.0 b)) | inr n ↦ inr (inr n) ] ]),
  (λ x. e.1 (elim x [ inl a ↦ inl (is ∙ a) | inr s ↦ elim s [ inl b ↦ inr (inl (f.1 b)) | inr n ↦ inr (inr n) ] ])),
)

pub turns-as : (t d u branch : Bool) (R N : Type 0) → IsTrue t ↔ ((IsTrue d × IsTrue u) ⊎ N) → d ≡ branch → IsTrue u ↔ R
    → IsTrue t ↔ (((branch ≡ true) × R) ⊎ N)
turns-as t d u branch R N e is f = (
  (λ x. elim (e.0 x) [ inl p ↦ inl (sym is ∙ p.0, f.0 p.1) | inr n ↦ inr n ]),
  (λ x. e.1 (elim x [ inl p ↦ inl (is ∙ p.0, f.1 p.1) | inr n ↦ inr n ])),
)

pub less-as : (m n : ℕ) → IsTrue (nat_lt m n) ↔ (m < n)
less-as m n = ((λ t. ltb-true m n t), (λ l. lt-ltb m n l))
