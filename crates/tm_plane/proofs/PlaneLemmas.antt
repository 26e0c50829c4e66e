-- Bytes of planes.
use Rattle.std.proofs.Common.{◌≡◌, ◌<◌, ◌≤◌, ◌+◌, ◌-◌, ◌*◌, ◌/◌, ◌%◌, ◌^◌, ℕ, zero, suc, ◌↔◌, ◌⊎◌, inl, inr, IsTrue}
use Rattle.std.proofs.Common.{Bool, true, false, ◌&&◌, ◌||◌, not, ◌==◌, nat_le, List, length, set, bit_and, bit_or}
use Rattle.std.proofs.Common.{refl, sym, ap, subst, subst₂, ◌∙◌, arith, eqb-true, eq-eqb}
use Rattle.std.specs.Prelude.{slice_index}
use Rattle.std.specs.Int.{bit_at}
use Rattle.std.proofs.lemmas.List.{get_or-set_same, get_or-set_other, get_or_past}
use Rattle.std.proofs.lemmas.Bool.{cases_eq, and_parts, and_from, or_cases, or_left, or_right, leb-true, le-leb}
use Rattle.std.proofs.lemmas.Bool.{not-true, false≢true, true≢false, false_from_ne_true}
use Rattle.std.proofs.lemmas.Nat.Bits.{shr_and_one}
use Rattle.tm_plan_map.specs.Map.{windows_base, windows_size, within}
use Rattle.tm_base.specs.Lists.{any, count_from}
use Rattle.tm_plan_map.proofs.Within.{within-parts, within-true}
use Rattle.tm_plane.proofs.WordLemmas.{bit-none, bit-and, bit-or}
use Rattle.tm_plane.specs.Plane.{Bit, in_plane, IsNear, Spans, Overwritten}
use Rattle.tm_plane.specs.declared.planes.TheConstants.{PLANE_WORDS}

-- what it is for a byte to be in a plane
abbrev pub In : List ℕ → ℕ → Type 0
In plane b = (windows_base ≤ b) × Bit (slice_index plane ((b - windows_base) / 64)) ((b - windows_base) % 64)

pub in-plane : (plane : List ℕ) (b : ℕ) → (in_plane plane b ≡ true) ↔ In plane b
unfolding in_plane
in-plane plane b = (
  (λ e. let q = and_parts (nat_le windows_base b) _ e in (leb-true windows_base b q.0, eqb-true _ 1 q.1)),
  (λ p. and_from (nat_le windows_base b) _ (le-leb windows_base b p.0) (eq-eqb _ 1 p.1)),
)

-- two tests that say the same are one
pub same-test : (a b : Bool) → (a ≡ true → b ≡ true) → (b ≡ true → a ≡ true) → a ≡ b
same-test true b f g = sym (f refl)
same-test false true f g = g refl
same-test false false f g = refl

wide-cases : (w x : ℕ) → (w ≡ 1) ⊎ ((w ≡ 2) ⊎ ((w ≡ 4) ⊎ (w ≡ 8))) → (windows_base + x) % w ≡ 0 → x % 64 + w ≤ 64
unfolding windows_base
wide-cases w x (inl e) a = omega arith
wide-cases w x (inr (inl e)) a = let b : (2162688000 + x) % 2 ≡ 0 = subst (λ (v : ℕ). (2162688000 + x) % v ≡ 0) e a in
    omega arith
wide-cases w x (inr (inr (inl e))) a = let b : (2162688000 + x) % 4 ≡ 0 =
    subst (λ (v : ℕ). (2162688000 + x) % v ≡ 0) e a in omega arith
wide-cases w x (inr (inr (inr e))) a = let b : (2162688000 + x) % 8 ≡ 0 =
    subst (λ (v : ℕ). (2162688000 + x) % v ≡ 0) e a in omega arith

-- the bits of an access stand in one element
pub low-near : (addr width : ℕ) → IsNear addr width → (addr - windows_base) % 64 + width ≤ 64
low-near addr width near =
    let same : windows_base + (addr - windows_base) ≡ addr = omega (arith, near.low) in
    wide-cases width (addr - windows_base) near.wide (subst (λ (a : ℕ). a % width ≡ 0) (sym same) near.aligned)

-- the bytes of an access stand together
pub spans : (addr width e low bits : ℕ) → IsNear addr width → e ≡ (addr - windows_base) / 64
    → low ≡ (addr - windows_base) % 64
    → ((j : ℕ) → Bit bits j ↔ ((low ≤ j) × (j < low + width))) → Spans addr width e bits
unfolding windows_size
spans addr width e low bits near at from run =
    let fits = low-near addr width near in
    record {
      place = omega (arith, near.low, near.high);
      few = λ j b. let p = (run j).0 b in omega (arith, p.1);
      bit = λ b above there. (
        (λ h. let p = (run ((b - windows_base) % 64)).0 h in
            within-true addr width b (omega (arith, near.low, p.0)) (omega (arith, near.low, p.1))),
        (λ h. let p = within-parts addr width b h in
            (run ((b - windows_base) % 64)).1 (omega (arith, near.low, p.0, p.1), omega (arith, near.low, p.0, p.1))),
      );
      element = λ b h. let p = within-parts addr width b h in
          (omega (arith, near.low, p.0), omega (arith, near.low, p.0, p.1));
    }

-- ---- one element changed

module _ (plane : List ℕ) (addr width e bits : ℕ) (room : length plane ≡ PLANE_WORDS)
    (span : Spans addr width e bits) where
  -- a byte that no access of the element has stays
  changed-other : (word b : ℕ) → ((b - windows_base) / 64 ≡ e → ⊥) → in_plane (set plane e word) b ≡ in_plane plane b
  unfolding in_plane
  changed-other word b other = ap (λ (v : ℕ). nat_le windows_base b && (bit_at v ((b - windows_base) % 64) == 1))
      (get_or-set_other plane e ((b - windows_base) / 64) word 0 other)

  changed-here : (word b : ℕ) → windows_base ≤ b → (b - windows_base) / 64 ≡ e → (in_plane (set plane e word) b ≡ true)
      ↔ Bit word ((b - windows_base) % 64)
  changed-here word b low here =
      let is : slice_index (set plane e word) ((b - windows_base) / 64) ≡ word =
      ap (λ (i : ℕ). slice_index (set plane e word) i) here ∙ get_or-set_same plane e word 0 (omega (arith, span.place))
      in (
        (λ h. subst (λ (v : ℕ). Bit v ((b - windows_base) % 64)) is ((in-plane (set plane e word) b).0 h).1),
        (λ h. (in-plane (set plane e word) b).1 (low, subst (λ (v : ℕ). Bit v ((b - windows_base) % 64)) (sym is) h)),
      )

  here-is : (other : List ℕ) (b : ℕ) → windows_base ≤ b → (b - windows_base) / 64 ≡ e → (in_plane other b ≡ true)
      ↔ Bit (slice_index other e) ((b - windows_base) % 64)
  here-is other b low here = (
    (λ h. subst (λ (i : ℕ). Bit (slice_index other i) ((b - windows_base) % 64)) here ((in-plane other b).0 h).1),
    (λ h. (in-plane other b).1 (
      low,
      subst (λ (i : ℕ). Bit (slice_index other i) ((b - windows_base) % 64)) (sym here)
          h,
    )),
  )

  -- where b is: in the element, or elsewhere, in no byte of the access
  where-is : (b : ℕ) → ((windows_base ≤ b) × ((b - windows_base) / 64 ≡ e))
      ⊎ (((word : ℕ) → in_plane (set plane e word) b ≡ in_plane plane b) × (within addr width b ≡ true → ⊥))
  where-is b = elim (cases_eq ((b - windows_base) / 64) e) [
    | inr n ↦ inr (λ word. changed-other word b n, λ t. n (span.element b t).1)
    | inl s ↦ elim (le-or-gt windows_base b) [
      | inl l ↦ inl (l, s)
      | inr g ↦ inr (
        λ word. same-test _ _
            (λ t. let l = ((in-plane (set plane e word) b).0 t).0 in absurd (omega arith))
            (λ t. let l = ((in-plane plane b).0 t).0 in absurd (omega arith)),
        λ t. (let l = (span.element b t).0 in absurd (omega arith)),
      )
    ]
  ]
    where
      le-or-gt : (m n : ℕ) → (m ≤ n) ⊎ (n < m)
      le-or-gt m n = grind arith

  pub put-told : (b : ℕ) → in_plane (set plane e (bit_or (slice_index plane e) bits)) b
      ≡ (in_plane plane b || within addr width b)
  put-told b = elim (where-is b) [
    | inl at ↦
        let here = changed-here (bit_or (slice_index plane e) bits) b at.0 at.1 in
        let both = bit-or (slice_index plane e) bits ((b - windows_base) % 64) in
        let old = here-is plane b at.0 at.1 in
        let new = span.bit b at.0 at.1 in
        same-test _ _
        (λ t. elim (both.0 (here.0 t)) [
          | inl p ↦ or_left _ _ (old.1 p)
          | inr p ↦ or_right (in_plane plane b) _ (new.0 p)
        ])
        (λ t. here.1 (both.1 (elim (or_cases (in_plane plane b) (within addr width b) t)
        [ inl p ↦ inl (old.0 p) | inr p ↦ inr (new.1 p) ])))
    | inr out ↦ same-test _ _
        (λ t. or_left _ _ (sym (out.0 _) ∙ t))
        (λ t. elim (or_cases (in_plane plane b) (within addr width b) t)
        [ inl p ↦ out.0 _ ∙ p | inr p ↦ absurd (out.1 p) ])
  ]

  pub overwrite-told : (own : List ℕ) (marks covered : Bool) (word : ℕ)
      → ((r : ℕ) → Bit word r ↔ Overwritten (Bit (bit_and (slice_index own e) bits) r) (Bit (slice_index plane e) r)
      marks covered)
      → (b : ℕ) → IsTrue (in_plane (set plane e word) b)
      ↔ Overwritten (IsTrue (in_plane own b) × IsTrue (within addr width b)) (IsTrue (in_plane plane b)) marks
      covered
  overwrite-told own marks covered word f b = elim (where-is b) [
    | inl at ↦
        let here = changed-here word b at.0 at.1 in
        let both = bit-and (slice_index own e) bits ((b - windows_base) % 64) in
        let old = here-is plane b at.0 at.1 in
        let mine = here-is own b at.0 at.1 in
        let new = span.bit b at.0 at.1 in
        let g = f ((b - windows_base) % 64) in (
          (λ t. elim (g.0 (here.0 t)) [
            | inl p ↦ (let q = both.0 p.0 in inl ((mine.1 q.0, new.0 q.1), p.1))
            | inr p ↦ inr (
              old.1 p.0,
              elim p.1 [ inl n ↦ inl (λ w. n (both.1 (mine.0 w.0, new.1 w.1))) | inr c ↦ inr c ],
            )
          ]),
          (λ t. here.1 (g.1 (elim t [
            | inl p ↦ inl (both.1 (mine.0 p.0.0, new.1 p.0.1), p.1)
            | inr p ↦ inr (
              old.0 p.0,
              elim p.1 [ inl n ↦ inl (λ w. (let q = both.0 w in n (mine.1 q.0, new.0 q.1))) | inr c ↦ inr c ],
            )
          ]))),
        )
    | inr out ↦ (
      (λ t. inr (sym (out.0 word) ∙ t, inl (λ w. out.1 w.1))),
      (λ t. elim t [ inl p ↦ absurd (out.1 p.0.1) | inr p ↦ out.0 word ∙ p.0 ]),
    )
  ]

-- ---- some byte of an access

pub any-counted : (test : ℕ → Bool) (n a : ℕ) → (any test (count_from a n) ≡ true)
    ↔ ((b : ℕ) × IsTrue (within a n b) × (test b ≡ true))
any-counted test zero a =
    ((λ e. absurd (false≢true e)), (λ p. let q = within-parts a 0 p.0 p.1 in absurd (omega arith)))
any-counted test (suc n) a = (
  (λ e. elim (or_cases (test a) (any test (count_from (suc a) n)) e) [
    | inl t ↦ (a, within-true a (suc n) a (omega arith) (omega arith), t)
    | inr t ↦ (let p = (any-counted test n (suc a)).0 t in let q = within-parts (suc a) n p.0 p.1 in
        (p.0, within-true a (suc n) p.0 (omega arith) (omega arith), p.2))
  ]),
  (λ p.
      let q = within-parts a (suc n) p.0 p.1 in
      elim (cases_eq a p.0) [
        | inl s ↦ or_left (test a) _ (ap test s ∙ p.2)
        | inr m ↦ or_right (test a) _ ((any-counted test n (suc a)).1 (
          p.0,
          within-true (suc a) n p.0 (omega arith) (omega arith),
          p.2,
        ))
      ]),
)

-- an element has one of the bits of an access where the plane has one of its bytes
pub any-told : (plane : List ℕ) (addr width e bits : ℕ) (test : Bool) → Spans addr width e bits → IsTrue test
    ↔ ((s : ℕ) × Bit bits s × Bit (slice_index plane e) s)
    → test ≡ any (in_plane plane) (count_from addr width)
any-told plane addr width e bits test span met = same-test _ _ to back
  where
    to : test ≡ true → any (in_plane plane) (count_from addr width) ≡ true
    to t =
        let (s, bit, held) = met.0 t in
        let few = span.few s bit in
        let b = windows_base + (64 * e + s) in
        let off : b - windows_base ≡ 64 * e + s = omega arith in
        let here : (b - windows_base) / 64 ≡ e = omega arith in
        let place : (b - windows_base) % 64 ≡ s = omega arith in
        let inside = (span.bit b (omega arith) here).0 (subst (λ (j : ℕ). Bit bits j) (sym place) bit) in
        let is : in_plane plane b ≡ true = (in-plane plane b).1 (
          omega arith,
          subst₂ (λ (i j : ℕ). Bit (slice_index plane i) j) (sym here) (sym place) held,
        ) in
        (any-counted (in_plane plane) width addr).1 (b, inside, is)

    back : any (in_plane plane) (count_from addr width) ≡ true → test ≡ true
    back t =
        let (b, inside, is) = (any-counted (in_plane plane) width addr).0 t in
        let at = span.element b inside in
        met.1 (
          (b - windows_base) % 64,
          (span.bit b at.0 at.1).1 inside,
          subst (λ (i : ℕ). Bit (slice_index plane i) ((b - windows_base) % 64)) at.1 ((in-plane plane b).0 is).1,
        )

pub has-told : (plane : List ℕ) (addr base : ℕ) → base ≡ windows_base → windows_base ≤ addr
    → (bit_and (slice_index plane ((addr - base) / 64) / 2 ^ ((addr - base) % 64)) 1 == 1) ≡ in_plane plane addr
unfolding in_plane
has-told plane addr base same low =
    subst (λ (a : ℕ). (bit_and (slice_index plane ((addr - a) / 64) / 2 ^ ((addr - a) % 64)) 1 == 1)
    ≡ in_plane plane addr) (sym same)
    (ap (λ (v : ℕ). v == 1) (shr_and_one (slice_index plane ((addr - windows_base) / 64)) ((addr - windows_base) % 64))
    ∙ sym (ap (λ (t : Bool). t && (bit_at (slice_index plane ((addr - windows_base) / 64)) ((addr - windows_base) % 64)
    == 1)) (le-leb windows_base addr low)))

-- ---- planes made element by element

below-or-past : (k : ℕ) → (k < PLANE_WORDS) ⊎ (PLANE_WORDS ≤ k)
below-or-past k = grind arith

past-none : (xs : List ℕ) (k : ℕ) → length xs ≡ PLANE_WORDS → PLANE_WORDS ≤ k → slice_index xs k ≡ 0
past-none xs k n l = get_or_past xs k 0 (omega arith)

none-in : (xs : List ℕ) (b : ℕ) → length xs ≡ PLANE_WORDS → PLANE_WORDS ≤ (b - windows_base) / 64
    → in_plane xs b ≡ true → ⊥
none-in xs b n l t =
    bit-none ((b - windows_base) % 64) (subst (λ (v : ℕ). Bit v ((b - windows_base) % 64))
    (past-none xs ((b - windows_base) / 64) n l) ((in-plane xs b).0 t).1)

-- a byte of an element
in-at : (xs : List ℕ) (b : ℕ) → windows_base ≤ b → (in_plane xs b ≡ true)
    ↔ Bit (slice_index xs ((b - windows_base) / 64)) ((b - windows_base) % 64)
in-at xs b low = ((λ t. ((in-plane xs b).0 t).1), (λ h. (in-plane xs b).1 (low, h)))

-- A plane is told byte by byte, where its elements are told bit by bit, a byte below the windows is in no plane, and
-- one past them in none of PLANE_WORDS elements.
told : (out : List ℕ) (test : Bool) (b : ℕ) → length out ≡ PLANE_WORDS → (test ≡ true → windows_base ≤ b)
    → (test ≡ true → PLANE_WORDS ≤ (b - windows_base) / 64 → ⊥)
    → (windows_base ≤ b → (b - windows_base) / 64 < PLANE_WORDS
    → Bit (slice_index out ((b - windows_base) / 64)) ((b - windows_base) % 64) ↔ (test ≡ true))
    → in_plane out b ≡ test
told out test b room low high bits = same-test _ _
    (λ t. let p = (in-plane out b).0 t in elim (below-or-past ((b - windows_base) / 64))
    [ inl l ↦ (bits p.0 l).0 p.1 | inr g ↦ absurd (none-in out b room g t) ])
    (λ t. let l = low t in elim (below-or-past ((b - windows_base) / 64))
    [ inl s ↦ (in-plane out b).1 (l, (bits l s).1 t) | inr g ↦ absurd (high t g) ])

pub union-told : (out x y : List ℕ) → length out ≡ PLANE_WORDS → length x ≡ PLANE_WORDS
    → length y ≡ PLANE_WORDS
    → ((k : ℕ) → k < PLANE_WORDS → slice_index out k ≡ bit_or (slice_index x k) (slice_index y k))
    → (b : ℕ) → in_plane out b ≡ (in_plane x b || in_plane y b)
union-told out x y n0 nx ny made b = told out (in_plane x b || in_plane y b) b n0
    (λ t. elim (or_cases _ _ t) [ inl p ↦ ((in-plane x b).0 p).0 | inr p ↦ ((in-plane y b).0 p).0 ])
    (λ t g. elim (or_cases _ _ t) [ inl p ↦ none-in x b nx g p | inr p ↦ none-in y b ny g p ])
    (λ low few.
    let k = (b - windows_base) / 64 in
    let j = (b - windows_base) % 64 in
    let both = bit-or (slice_index x k) (slice_index y k) j in (
      (λ h. elim (both.0 (subst (λ (v : ℕ). Bit v j) (made k few) h))
          [ inl p ↦ or_left _ _ ((in-at x b low).1 p) | inr p ↦ or_right (in_plane x b) _ ((in-at y b low).1 p) ]),
      (λ t. subst (λ (v : ℕ). Bit v j) (sym (made k few))
          (both.1 (elim (or_cases _ _ t) [ inl p ↦ inl ((in-at x b low).0 p) | inr p ↦ inr ((in-at y b low).0 p) ]))),
    ))

pub without-told : (out x y : List ℕ) → length out ≡ PLANE_WORDS → length x ≡ PLANE_WORDS
    → length y ≡ PLANE_WORDS
    → ((k : ℕ) → k < PLANE_WORDS → (r : ℕ) → Bit (slice_index out k) r
    ↔ (Bit (slice_index x k) r × (Bit (slice_index y k) r → ⊥)))
    → (b : ℕ) → in_plane out b ≡ (in_plane x b && not (in_plane y b))
without-told out x y n0 nx ny made b = told out (in_plane x b && not (in_plane y b)) b n0
    (λ t. ((in-plane x b).0 (and_parts (in_plane x b) _ t).0).0)
    (λ t g. none-in x b nx g (and_parts (in_plane x b) _ t).0)
    (λ low few.
    let both = made ((b - windows_base) / 64) few ((b - windows_base) % 64) in (
      (λ h. let p = both.0 h in and_from (in_plane x b) (not (in_plane y b)) ((in-at x b low).1 p.0)
          (ap not (false_from_ne_true (in_plane y b) (λ t. p.1 ((in-at y b low).0 t))))),
      (λ t. let p = and_parts (in_plane x b) (not (in_plane y b)) t in
          both.1 ((in-at x b low).0 p.0, λ h. true≢false (sym ((in-at y b low).1 h) ∙ not-true (in_plane y b) p.1))),
    ))

pub spoiled-told : (out w x y z : List ℕ) → length out ≡ PLANE_WORDS → length w ≡ PLANE_WORDS → length x ≡ PLANE_WORDS
    → length y ≡ PLANE_WORDS
    → length z ≡ PLANE_WORDS
    → ((k : ℕ) → k < PLANE_WORDS → slice_index out k
    ≡ bit_or (slice_index w k) (bit_and (slice_index x k) (bit_or (slice_index y k) (slice_index z k))))
    → (b : ℕ) → in_plane out b ≡ (in_plane w b || (in_plane x b && (in_plane y b || in_plane z b)))
spoiled-told out w x y z n0 nw nx ny nz made b =
    told out (in_plane w b || (in_plane x b && (in_plane y b || in_plane z b))) b n0
    (λ t. elim (or_cases _ _ t) [
      | inl p ↦ ((in-plane w b).0 p).0
      | inr p ↦
          ((in-plane x b).0 (and_parts (in_plane x b) _ p).0).0
    ])
    (λ t g. elim (or_cases _ _ t) [
      | inl p ↦ none-in w b nw g p
      | inr p ↦ none-in x b nx g
          (and_parts (in_plane x b) _ p).0
    ])
    (λ low few.
    let k = (b - windows_base) / 64 in
    let j = (b - windows_base) % 64 in
    let first = bit-or (slice_index w k) (bit_and (slice_index x k) (bit_or (slice_index y k) (slice_index z k))) j in
    let second = bit-and (slice_index x k) (bit_or (slice_index y k) (slice_index z k)) j in
    let third = bit-or (slice_index y k) (slice_index z k) j in (
      (λ h. elim (first.0 (subst (λ (v : ℕ). Bit v j) (made k few) h)) [
        | inl p ↦ or_left _ _ ((in-at w b low).1 p)
        | inr p ↦ (let q = second.0 p in
            or_right (in_plane w b) _ (and_from (in_plane x b) _ ((in-at x b low).1 q.0)
            (elim (third.0 q.1) [
              | inl r ↦ or_left _ _ ((in-at y b low).1 r)
              | inr r ↦ or_right (in_plane y b) _
                  ((in-at z b low).1 r)
            ])))
      ]),
      (λ t. subst (λ (v : ℕ). Bit v j) (sym (made k few)) (first.1 (elim (or_cases _ _ t) [
        | inl p ↦ inl ((in-at w b low).0 p)
        | inr p ↦ (let q = and_parts (in_plane x b) _ p in
            inr (second.1 (
              (in-at x b low).0 q.0,
              third.1 (elim (or_cases _ _ q.1) [
                | inl r ↦ inl ((in-at y b low).0 r)
                | inr r ↦ inr ((in-at z b low).0 r)
              ]),
            )))
      ]))),
    ))

-- no byte outside the windows is in a plane
pub below-none : (plane : List ℕ) (b base : ℕ) → base ≡ windows_base → b < base → false ≡ in_plane plane b
below-none plane b base same l = sym (false_from_ne_true (in_plane plane b) (λ t. let p = ((in-plane plane b).0 t).0 in
    omega arith))

pub above-none : (plane : List ℕ) (b base : ℕ) → base ≡ windows_base → length plane ≡ PLANE_WORDS → 6144 ≤ b - base
    → false ≡ in_plane plane b
above-none plane b base same room l =
    let far : 6144 ≤ b - windows_base = subst (λ (a : ℕ). 6144 ≤ b - a) same l in
    sym (false_from_ne_true (in_plane plane b) (none-in plane b room (omega arith)))
