-- The last write of a byte by one hart stands in the hart's buffer or in memory, as among the steps.
use Rattle.std.proofs.Common.{◌≡◌, ℕ, ◌+◌, ◌-◌, List, [], ◌∷◌, ◌++◌, Bool, true, false, ◌&&◌, ◌==◌, nat_lt}
use Rattle.std.proofs.Common.{Option, None, Some, ◌⊎◌, inl, inr, refl, sym, ap, ap₂, ◌∙◌, arith, eq-eqb, ne_eqb}
use Rattle.std.proofs.Common.{eqb-true}
use Rattle.std.specs.Prelude.{if◌then◌else◌}
use Rattle.std.specs.List.{AllByRecursion as Each}
use Rattle.std.proofs.lemmas.Bool.{cond-true, cond-false, cases_Bool, cases_eq, true≢false, and_from, and_parts, lt-ltb}
use Rattle.tm_table.specs.declared.state.Access.{Access}
use Rattle.tm_table.specs.declared.state.Access.TheVariants.{Quiet, Read, Write}
use Rattle.tm_plan_cases.specs.declared.program.Program.{Program}
use Rattle.tm_plan_map.specs.Map.{within}
use Rattle.tm_world.specs.Lists.{or_else}
use Rattle.tm_world.specs.Place.{byte_of}
use Rattle.tm_world.specs.Run.{Step, hart_of, access_of, own, written, last_write}
use Rattle.tm_world.specs.Writers.{wrote}
use Rattle.tm_world.specs.Kinds.{phase_of}
use Rattle.tm_world.specs.Course.{is_write}
use Rattle.tm_plan_map.proofs.Within.{within-parts}
use Rattle.tm_legal.proofs.Own.{own-here, own-there}
use Rattle.tm_legal.proofs.Phases.{or-assoc}
use Rattle.tm_meet.proofs.Settling.{wrote-there, wrote-other, wrote-here, wrote-miss}
use Rattle.tm_buffered.specs.Moments.{Moment, Makes, Drains, steps_of, Entry, writes_by, writes_of, waiting, memory}
use Rattle.tm_buffered.specs.Moments.{left_at, share, IsMoment, AtEach}
use Rattle.tm_buffered.proofs.Drains.{entry, writes-more, writes-same, waiting-more, waiting-same}
use Rattle.tm_buffered.proofs.Drains.{gone, gone-from, waiting-other}
use Rattle.tm_buffered.proofs.Entries.{each-map}

-- ---- bytes

pub quiet-none : (a : Access) (b : ℕ) → is_write a ≡ false → written a b ≡ None
quiet-none Quiet b e = refl
quiet-none (Read addr width value) b e = refl
quiet-none (Write addr width value) b e = absurd (true≢false e)

-- of two writes without a byte in common one alone writes b
pub share-none : (a c : Access) (b v : ℕ) → share a c ≡ false → written c b ≡ Some v → written a b ≡ None
share-none Quiet c b v e w = refl
share-none (Read addr width value) c b v e w = refl
share-none (Write addr width value) Quiet b v e w = cc
share-none (Write addr width value) (Read a n u) b v e w = cc
share-none (Write addr width value) (Write a n u) b v e w = by (within addr width b) (within a n b) refl refl
  where
    by : (s t : Bool) → within addr width b ≡ s → within a n b ≡ t → written (Write addr width value) b ≡ None
    by false t f g = ap (λ (x : Bool). if x then Some (byte_of value (b - addr)) else None) f
    by true false f g =
        let none : written (Write a n u) b ≡ None = ap (λ (x : Bool). if x then Some (byte_of u (b - a)) else None) g in
        cc
    by true true f g =
        let x = within-parts addr width b f in
        let y = within-parts a n b g in
        absurd (true≢false (sym (and_from (nat_lt addr (a + n)) (nat_lt a (addr + width))
        (lt-ltb addr (a + n) (omega (arith, x, y))) (lt-ltb a (addr + width) (omega (arith, x, y)))) ∙ e))

-- ---- the last write of those that pass a test

-- what a write leaves at b, where it passes the test
abbrev pub one_by : (Entry → Bool) → ℕ → Entry → Option ℕ
one_by t b e = if t e then written (access_of e.step) b else None

abbrev pub left_by : (Entry → Bool) → ℕ → List Entry → Option ℕ
left_by t b [] = None
left_by t b (e ∷ more) = or_else (one_by t b e) (left_by t b more)

pub left_by-append : (t : Entry → Bool) (b : ℕ) (xs ys : List Entry) → left_by t b (xs ++ ys)
    ≡ or_else (left_by t b xs) (left_by t b ys)
left_by-append t b [] ys = refl
left_by-append t b (x ∷ xs) ys =
    ap (or_else (one_by t b x)) (left_by-append t b xs ys)
    ∙ sym (or-assoc (one_by t b x) (left_by t b xs) (left_by t b ys))

-- it doesn't count, or doesn't write b
abbrev pub Misses : (Entry → Bool) → ℕ → Entry → Type 0
Misses t b e = (t e ≡ false) ⊎ (written (access_of e.step) b ≡ None)

pub one-misses : (t : Entry → Bool) (b : ℕ) (e : Entry) → Misses t b e → one_by t b e ≡ None
one-misses t b e (inl f) = cond-false (t e) (written (access_of e.step) b) None f
one-misses t b e (inr w) = elim (cases_Bool (t e)) [
  | inl y ↦ cond-true (t e) (written (access_of e.step) b) None y ∙ w
  | inr n ↦ cond-false (t e) (written (access_of e.step) b) None n
]

pub left_by-none : (t : Entry → Bool) (b : ℕ) (xs : List Entry) → Each (Misses t b) xs → left_by t b xs ≡ None
left_by-none t b [] a = refl
left_by-none t b (x ∷ xs) a =
    ap (λ (o : Option ℕ). or_else o (left_by t b xs)) (one-misses t b x a.0) ∙ left_by-none t b xs a.1

-- it counts, or doesn't write b
abbrev pub Counts : (Entry → Bool) → ℕ → Entry → Type 0
Counts t b e = (t e ≡ true) ⊎ (written (access_of e.step) b ≡ None)

one-counts : (t : Entry → Bool) (b : ℕ) (e : Entry) → Counts t b e → written (access_of e.step) b ≡ one_by t b e
one-counts t b e (inl y) = sym (cond-true (t e) (written (access_of e.step) b) None y)
one-counts t b e (inr w) = w ∙ sym (one-misses t b e (inr w))

pub left_by-all : (t : Entry → Bool) (b : ℕ) (xs : List Entry) → Each (Counts t b) xs → left_at b xs ≡ left_by t b xs
left_by-all t b [] a = refl
left_by-all t b (x ∷ xs) a = ap₂ or_else (one-counts t b x a.0) (left_by-all t b xs a.1)

pub left_at-none : (b : ℕ) (xs : List Entry) → Each (λ e. written (access_of e.step) b ≡ None) xs → left_at b xs ≡ None
left_at-none b [] a = refl
left_at-none b (x ∷ xs) a = ap (λ (o : Option ℕ). or_else o (left_at b xs)) a.0 ∙ left_at-none b xs a.1

-- ---- a write drains

move : (n x o m : Option ℕ) → ((v : ℕ) → x ≡ Some v → o ≡ None) → or_else (or_else n o) (or_else x m)
    ≡ or_else (or_else n (or_else x o)) m
move (Some a) x o m f = refl
move None None o m f = refl
move None (Some v) o m f = ap (λ (z : Option ℕ). or_else z (Some v)) (f v refl)

taken : (t : Entry → Bool) (b : ℕ) (newer : List Entry) (e : Entry) (older : List Entry) (m : Option ℕ)
    → Each (λ x. share (access_of x.step) (access_of e.step) ≡ false) older
    → or_else (left_by t b (newer ++ older)) (or_else (one_by t b e) m) ≡ or_else (left_by t b (newer ++ (e ∷ older))) m
taken t b newer e older m apart =
    ap (λ (o : Option ℕ). or_else o (or_else (one_by t b e) m)) (left_by-append t b newer older)
    ∙ (move (left_by t b newer) (one_by t b e) (left_by t b older) m covers
    ∙ sym (ap (λ (o : Option ℕ). or_else o m) (left_by-append t b newer (e ∷ older))))
  where
    writes : (v : ℕ) (s : Bool) → t e ≡ s → one_by t b e ≡ Some v → written (access_of e.step) b ≡ Some v
    writes v true f w = sym (cond-true (t e) (written (access_of e.step) b) None f) ∙ w
    writes v false f w =
        let none : one_by t b e ≡ None = cond-false (t e) (written (access_of e.step) b) None f in cc

    covers : (v : ℕ) → one_by t b e ≡ Some v → left_by t b older ≡ None
    covers v w = left_by-none t b older (each-map (λ x. share (access_of x.step) (access_of e.step)
        ≡ false) (Misses t b) older (λ x f. inr (share-none (access_of x.step) (access_of e.step) b v f
        (writes v (t e) refl w))) apart)

-- The last write of b that passes a test, of hart g alone, stands in g's buffer or else in memory.
pub lookups : (p : Program) (g : ℕ) (t : Entry → Bool) (b : ℕ) → ((e : Entry) → t e ≡ true → hart_of e.step ≡ g)
    → (before : List Moment) → AtEach (IsMoment p) before
    → or_else (left_by t b (waiting g before)) (left_by t b (memory before))
    ≡ left_by t b (writes_of g (steps_of before))
lookups p g t b only [] a = refl
lookups p g t b only (Makes s ∷ before) a =
    let past = steps_of before in
    let ih = lookups p g t b only before a.1 in
    elim (cases_Bool (writes_by g s)) [
      | inl y ↦
          ap (λ (l : List Entry). or_else (left_by t b l) (left_by t b (memory before)))
          (waiting-more p g s before a.1 y)
          ∙ (or-assoc (one_by t b (entry s past)) (left_by t b (waiting g before)) (left_by t b (memory before))
          ∙ (ap (or_else (one_by t b (entry s past))) ih ∙ sym (ap (left_by t b) (writes-more g s past y))))
      | inr n ↦
          ap (λ (l : List Entry). or_else (left_by t b l) (left_by t b (memory before))) (waiting-same g s before n)
          ∙ (ih ∙ sym (ap (left_by t b) (writes-same g s past n)))
    ]
lookups p g t b only (Drains h w ∷ before) a =
    let ih = lookups p g t b only before a.1 in
    let m = left_by t b (memory before) in
    elim (cases_eq h g) [
      | inl e ↦
          let d = gone g h w before e a.0 in
          ap₂ or_else (ap (left_by t b) d.is) (ap (left_by t b) d.moved)
          ∙ (taken t b d.newer d.entry d.older m d.apart
          ∙ (ap (λ (l : List Entry). or_else (left_by t b l) m) (sym d.was) ∙ ih))
      | inr n ↦
          let d = gone h h w before refl a.0 in
          let from = gone-from h h w before d in
          let miss : t d.entry ≡ false = elim (cases_Bool (t d.entry)) [
            | inl y ↦ absurd (n (sym from.hart ∙ only d.entry y))
            | inr f ↦ f
          ] in
          ap₂ or_else (ap (left_by t b) (waiting-other g h w before n)) (ap (left_by t b) d.moved
          ∙ ap (λ (o : Option ℕ). or_else o m) (one-misses t b d.entry (inl miss)))
          ∙ ih
    ]

-- ---- one hart's writes, and those of one phase

-- it is of hart g
abbrev pub by_hart : ℕ → Entry → Bool
by_hart g e = hart_of e.step == g

-- it is of hart g in its phase n
abbrev pub in_turn : Program → ℕ → ℕ → Entry → Bool
in_turn p g n e = (hart_of e.step == g) && (phase_of p e.past g == n)

pub turn-hart : (p : Program) (g n : ℕ) (e : Entry) → in_turn p g n e ≡ true → hart_of e.step ≡ g
turn-hart p g n e y = eqb-true _ _ (and_parts (hart_of e.step == g) (phase_of p e.past g == n) y).0

pub turn-phase : (p : Program) (g n : ℕ) (e : Entry) → in_turn p g n e ≡ true → phase_of p e.past g ≡ n
turn-phase p g n e y = eqb-true _ _ (and_parts (hart_of e.step == g) (phase_of p e.past g == n) y).1

not-by : (g : ℕ) (s : Step) → (hart_of s ≡ g → ⊥) → writes_by g s ≡ false
not-by g s n = ap (λ (x : Bool). x && is_write (access_of s)) (ne_eqb (hart_of s) g n)

not-write : (g : ℕ) (s : Step) → is_write (access_of s) ≡ false → writes_by g s ≡ false
not-write g s f = ap (λ (x : Bool). (hart_of s == g) && x) f ∙ and-no (hart_of s == g)
  where
    and-no : (x : Bool) → (x && false) ≡ false
    and-no true = refl
    and-no false = refl

pub is-by : (g : ℕ) (s : Step) → hart_of s ≡ g → is_write (access_of s) ≡ true → writes_by g s ≡ true
is-by g s e w = and_from (hart_of s == g) (is_write (access_of s)) (eq-eqb (hart_of s) g e) w

pub not-writes : (g : ℕ) (s : Step) → (hart_of s ≡ g → ⊥) ⊎ (is_write (access_of s) ≡ false) → writes_by g s ≡ false
not-writes g s (inl n) = not-by g s n
not-writes g s (inr f) = not-write g s f

pub own-left : (g b : ℕ) (past : List Step) → last_write b (own g past) ≡ left_by (by_hart g) b (writes_of g past)
own-left g b [] = refl
own-left g b (s ∷ past) = elim (cases_eq (hart_of s) g) [
  | inr n ↦ ap (last_write b) (own-there g s past n) ∙ (own-left g b past ∙ sym
      (ap (left_by (by_hart g) b) (writes-same g s past (not-by g s n))))
  | inl e ↦ ap (last_write b) (own-here g s past e) ∙ elim (cases_Bool (is_write (access_of s))) [
    | inr f ↦ ap (λ (o : Option ℕ). or_else o (last_write b (own g past))) (quiet-none (access_of s) b f)
        ∙ (own-left g b past ∙ sym (ap (left_by (by_hart g) b) (writes-same g s past (not-write g s f))))
    | inl y ↦ ap₂ or_else (sym (cond-true (hart_of s == g) (written (access_of s) b) None
        (eq-eqb (hart_of s) g e))) (own-left g b past)
        ∙ sym (ap (left_by (by_hart g) b) (writes-more g s past (is-by g s e y)))
  ]
]

pub wrote-left : (p : Program) (n b g : ℕ) (past : List Step) → wrote p past n b g
    ≡ left_by (in_turn p g n) b (writes_of g past)
wrote-left p n b g [] = refl
wrote-left p n b g (s ∷ past) =
    let ih = wrote-left p n b g past in
    elim (cases_eq (hart_of s) g) [
      | inr d ↦ wrote-there p n b g s past d
          ∙ (ih ∙ sym (ap (left_by (in_turn p g n) b) (writes-same g s past (not-by g s d))))
      | inl e ↦ elim (cases_Bool (is_write (access_of s))) [
        | inr f ↦ wrote-miss p n b g s past (quiet-none (access_of s) b f)
            ∙ (ih ∙ sym (ap (left_by (in_turn p g n) b) (writes-same g s past (not-write g s f))))
        | inl y ↦
            let more = ap (left_by (in_turn p g n) b) (writes-more g s past (is-by g s e y)) in
            let new = entry s past in
            elim (cases_eq (phase_of p past g) n) [
              | inl q ↦
                  let yes' : in_turn p g n new ≡ true =
                  and_from (hart_of s == g) (phase_of p past g == n) (eq-eqb (hart_of s) g e)
                  (eq-eqb (phase_of p past g) n q) in
                  wrote-here p n b g s past e q
                  ∙ (ap₂ or_else (sym (cond-true (in_turn p g n new) (written (access_of s) b) None yes')) ih ∙ sym more)
              | inr q ↦
                  let no' : in_turn p g n new ≡ false =
                  ap (λ (x : Bool). x && (phase_of p past g == n)) (eq-eqb (hart_of s) g e)
                  ∙ ne_eqb (phase_of p past g) n q in
                  wrote-other p n b g s past e q
                  ∙ (ih ∙ (ap (λ (o : Option ℕ). or_else o (left_by (in_turn p g n) b (writes_of g past)))
                  (sym (one-misses (in_turn p g n) b new (inl no'))) ∙ sym more))
            ]
      ]
    ]
