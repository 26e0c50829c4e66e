-- In memory, and in what a hart finds, writes of a byte stand phase after phase.
use Rattle.std.proofs.Common.{◌≡◌, ℕ, ◌<◌, ◌≤◌, List, [], ◌∷◌, ◌++◌, Bool, true, false, Option, None, Some, ◌⊎◌}
use Rattle.std.proofs.Common.{inl, inr, refl, sym, ap, subst, arith, not}
use Rattle.std.specs.Prelude.{if◌then◌else◌}
use Rattle.std.specs.List.{AllByRecursion as Each}
use Rattle.std.proofs.lemmas.Bool.{cases_Bool, cases_eq}
use Rattle.tm_plan_cases.specs.declared.program.Program.{Program}
use Rattle.tm_world.specs.Lists.{those}
use Rattle.tm_world.specs.Place.{harts}
use Rattle.tm_world.specs.Run.{Step, own, hart_of, access_of, written}
use Rattle.tm_world.specs.Kinds.{phase_of}
use Rattle.tm_legal.specs.Tame.{Formed}
use Rattle.tm_meet.proofs.Counts.{quiet-count}
use Rattle.tm_buffered.specs.Moments.{Moment, Makes, Drains, steps_of, Entry, writes_by, writes_of, waiting, memory}
use Rattle.tm_buffered.specs.Moments.{has_drained, share}
use Rattle.tm_buffered.proofs.Entries.{each-map, each-both, each-append, each-without, each-that, each-those}
use Rattle.tm_buffered.proofs.Drains.{entry, writes-more, writes-same, From, FromOwn, all-from}
use Rattle.tm_buffered.proofs.Drains.{memory-from, waiting-more, waiting-same, waiting-other, Gone, gone, gone-from}
use Rattle.tm_buffered.proofs.Drains.{by-parts}
use Rattle.tm_buffered.proofs.Lookups.{share-none}
use Rattle.tm_buffered.proofs.Halves.{entry-few}
use Rattle.tm_buffered.proofs.Told.{Told, made-told, drained-told, phase_at}
use Rattle.tm_buffered.proofs.Fences.{phase-from, write-quiet}
use Rattle.tm_buffered.proofs.Landed.{low, landed-made}
use Rattle.tm_buffered.specs.Signals.{landed}
use Rattle.tm_buffered.proofs.Flags.{phases-le}

-- ---- one buffer

-- the newer a write, the later its phase
abbrev Sorted : Program → List Entry → Type 0
Sorted p [] = Unit {0}
Sorted p (x ∷ xs) = Each (λ y. phase_at p y ≤ phase_at p x) xs × Sorted p xs

sorted-those : (p : Program) (t : Entry → Bool) (xs : List Entry) → Sorted p xs → Sorted p (those t xs)
sorted-those p t [] a = tt
sorted-those p t (x ∷ xs) a = by (t x) (sorted-those p t xs a.1)
  where
    by : (b : Bool) → Sorted p (those t xs) → Sorted p (if b then x ∷ those t xs else those t xs)
    by true r = (each-those (λ y. phase_at p y ≤ phase_at p x) t xs a.0, r)
    by false r = r

writes-sorted : (p : Program) (g : ℕ) (steps : List Step) → Sorted p (writes_of g steps)
writes-sorted p g [] = tt
writes-sorted p g (s ∷ past) =
    let ih = writes-sorted p g past in
    elim (cases_Bool (writes_by g s)) [
      | inr n ↦ subst (Sorted p) (sym (writes-same g s past n)) ih
      | inl y ↦
          let (e, w) = by-parts g s y in
          let same : phase_of p past (hart_of s) ≡ phase_of p past g = ap (phase_of p past) e in
          subst (Sorted p) (sym (writes-more g s past y)) (
            each-map (From g past) (λ x. phase_at p x ≤ phase_at p (entry s past)) (writes_of g past)
                (λ x f. let z = phase-from p g past x f in
                omega arith) (all-from g past),
            ih,
          )
    ]

waiting-sorted : (p : Program) (g : ℕ) (list : List Moment) → Sorted p (waiting g list)
waiting-sorted p g list = sorted-those p (λ e. not (has_drained g e.number list)) (writes_of g (steps_of list))
    (writes-sorted p g (steps_of list))

sorted-at : (p : Program) (xs : List Entry) (e : Entry) (ys : List Entry) → Sorted p (xs ++ (e ∷ ys))
    → Each (λ x. phase_at p e ≤ phase_at p x) xs
sorted-at p [] e ys a = tt
sorted-at p (x ∷ xs) e ys a =
    (each-that (λ y. phase_at p y ≤ phase_at p x) xs e ys a.0, sorted-at p xs e ys a.1)

-- ---- buffers and memory

-- Where f and e write one byte, f is of no later phase.
abbrev pub Under : Program → Entry → Entry → Type 0
Under p e f = (b v w : ℕ) → written (access_of f.step) b ≡ Some v → written (access_of e.step) b ≡ Some w
    → phase_at p f ≤ phase_at p e

abbrev Under' : Program → Entry → Entry → Type 0
Under' p f e = Under p e f

-- what is in memory is of no later phase than a write that is made
memory-up : (p : Program) → Formed p → (g : ℕ) → g < harts p → (s : Step) (before : List Moment)
    → Told p (Makes s ∷ before) → writes_by g s ≡ true → (f : Entry) → FromOwn (steps_of before) f
    → phase_at p f ≤ phase_of p (steps_of before) g
memory-up p formed g l s before t y f from =
    let (e, w) = by-parts g s y in
    let told = made-told p s before t in
    let past = steps_of before in
    let k = hart_of f.step in
    let a = phase-from p k past f from in
    elim (cases_eq k g) [
      | inl same ↦ subst (λ (h : ℕ). phase_at p f ≤ phase_of p past h) same a
      | inr n ↦
          let b = phases-le p formed k g (entry-few p k past f told.kept from) l n before told in
          let c = landed-made p formed g l before told in
          let d = quiet-count p g (own g past) (told.keep g l) (write-quiet p g l s before t e w) in
          omega arith
    ]

-- where a write of g itself drains
over-own : (p : Program) → Formed p → (g : ℕ) → g < harts p → (h w : ℕ) (before : List Moment) → Told p before
    → (d : Gone g h w before) → Each (λ e. Each (Under p e) (memory before)) (waiting g before)
    → Each (λ e. Each (Under p e) (memory (Drains h w ∷ before))) (waiting g (Drains h w ∷ before))
over-own p formed g l h w before told d ih =
    let P : Entry → Type 0 = λ e. Each (Under p e) (memory before) in
    let Q : Entry → Type 0 = λ e. Each (Under p e) (memory (Drains h w ∷ before)) in
    let x = d.entry in
    let kept : Each P (d.newer ++ d.older) = each-without P d.newer x d.older (subst (Each P) d.was ih) in
    let newer : Each (Under' p x) d.newer =
    each-map (λ e. phase_at p x ≤ phase_at p e) (Under' p x) d.newer (λ e le b v u z y. le)
    (sorted-at p d.newer x d.older (subst (Sorted p) d.was (waiting-sorted p g before))) in
    let older : Each (Under' p x) d.older =
    each-map (λ e. share (access_of e.step) (access_of x.step) ≡ false) (Under' p x) d.older
    (λ e no' b v u z y. let none = share-none (access_of e.step) (access_of x.step) b v no' z in cc) d.apart in
    subst (Each Q) (sym d.is)
    (each-both P (Under' p x) Q (d.newer ++ d.older)
    (λ e a b. subst (Each (Under p e)) (sym d.moved) (b, a)) kept
    (each-append (Under' p x) d.newer d.older newer older))

-- where another hart's write drains: it is of a phase that its hart has come to, so g has signalled before it
over-other : (p : Program) → Formed p → (g : ℕ) → g < harts p → (h w : ℕ) (before : List Moment) → Told p before
    → (h ≡ g → ⊥) → (d : Gone h h w before) → Each (λ e. Each (Under p e) (memory before)) (waiting g before)
    → Each (λ e. Each (Under p e) (memory (Drains h w ∷ before))) (waiting g (Drains h w ∷ before))
over-other p formed g l h w before told n d ih =
    let P : Entry → Type 0 = λ e. Each (Under p e) (memory before) in
    let Q : Entry → Type 0 = λ e. Each (Under p e) (memory (Drains h w ∷ before)) in
    let x = d.entry in
    let from = gone-from h h w before d in
    let few : h < harts p =
    subst (λ (k : ℕ). k < harts p) from.hart (entry-few p h (steps_of before) x told.kept from) in
    let a = phase-from p h (steps_of before) x from in
    let b = phases-le p formed h g few l n before told in
    subst (Each Q) (sym (waiting-other g h w before n))
    (each-both P (λ e. landed g before ≤ phase_at p e) Q (waiting g before)
    (λ e u le. subst (Each (Under p e)) (sym d.moved) (λ c v z y q. omega arith, u)) ih (low p formed g l before told))

-- all of memory is under each write that waits
pub over : (p : Program) → Formed p → (g : ℕ) → g < harts p → (list : List Moment) → Told p list
    → Each (λ e. Each (Under p e) (memory list)) (waiting g list)
over p formed g l [] t = tt
over p formed g l (Makes s ∷ before) t =
    let past = steps_of before in
    let ih = over p formed g l before (made-told p s before t) in
    let Goal : List Entry → Type 0 = Each (λ e. Each (Under p e) (memory before)) in
    elim (cases_Bool (writes_by g s)) [
      | inr n ↦ subst Goal (sym (waiting-same g s before n)) ih
      | inl y ↦
          let same : phase_of p past (hart_of s) ≡ phase_of p past g = ap (phase_of p past) (by-parts g s y).0 in
          subst Goal (sym (waiting-more p g s before t.moments.1 y)) (
            each-map (FromOwn past) (Under p (entry s past)) (memory before)
                (λ f from b v w x z. let k = memory-up p formed g l s before t y f from in
                omega arith) (memory-from before),
            ih,
          )
    ]
over p formed g l (Drains h w ∷ before) t =
    let told = drained-told p h w before t in
    let ih = over p formed g l before told in
    elim (cases_eq h g) [
      | inl e ↦ over-own p formed g l h w before told (gone g h w before e t.moments.0) ih
      | inr n ↦ over-other p formed g l h w before told n (gone h h w before refl t.moments.0) ih
    ]

-- ---- memory

-- each write of b is of a phase up to q
abbrev pub UpTo : Program → ℕ → ℕ → List Entry → Type 0
UpTo p q b = Each (λ e. (written (access_of e.step) b ≡ None) ⊎ (phase_at p e ≤ q))

-- writes of b stand phase after phase
abbrev pub Ranked : Program → ℕ → List Entry → Type 0
Ranked p b [] = Unit {0}
Ranked p b (e ∷ more) = ((w : ℕ) → written (access_of e.step) b ≡ Some w → UpTo p (phase_at p e) b more)
    × Ranked p b more

under-up : (p : Program) (b w : ℕ) (e : Entry) (xs : List Entry) → Each (Under p e) xs
    → written (access_of e.step) b ≡ Some w → UpTo p (phase_at p e) b xs
under-up p b w e xs a is =
    each-map (Under p e) (λ f. (written (access_of f.step) b ≡ None) ⊎ (phase_at p f ≤ phase_at p e)) xs
    (λ f u. by f u (written (access_of f.step) b) refl) a
  where
    by : (f : Entry) → Under p e f → (o : Option ℕ) → written (access_of f.step) b ≡ o
        → (written (access_of f.step) b ≡ None) ⊎ (phase_at p f ≤ phase_at p e)
    by f u None z = inl z
    by f u (Some v) z = inr (u b v w z is)

pub memory-ranked : (p : Program) → Formed p → (b : ℕ) (list : List Moment) → Told p list → Ranked p b (memory list)
memory-ranked p formed b [] t = tt
memory-ranked p formed b (Makes s ∷ before) t = memory-ranked p formed b before (made-told p s before t)
memory-ranked p formed b (Drains h w ∷ before) t =
    let told = drained-told p h w before t in
    let d = gone h h w before refl t.moments.0 in
    let from = gone-from h h w before d in
    let few : h < harts p =
    subst (λ (k : ℕ). k < harts p) from.hart (entry-few p h (steps_of before) d.entry told.kept from) in
    let u : Each (Under p d.entry) (memory before) =
    each-that (λ e. Each (Under p e) (memory before)) d.newer d.entry d.older
    (subst (Each (λ e. Each (Under p e) (memory before))) d.was (over p formed h few before told)) in
    subst (Ranked p b) (sym d.moved)
    (λ v z. under-up p b v d.entry (memory before) u z, memory-ranked p formed b before told)

-- ---- what a hart finds

found-ranked : (p : Program) (b : ℕ) (xs m : List Entry) → Sorted p xs → Each (λ e. Each (Under p e) m) xs
    → Ranked p b m → Ranked p b (xs ++ m)
found-ranked p b [] m s o r = r
found-ranked p b (x ∷ xs) m s o r = (
  λ w z. each-append (λ e. (written (access_of e.step) b ≡ None) ⊎ (phase_at p e ≤ phase_at p x)) xs m
      (each-map (λ y. phase_at p y ≤ phase_at p x) (λ e. (written (access_of e.step) b ≡ None)
      ⊎ (phase_at p e ≤ phase_at p x)) xs (λ e l. inr l) s.0) (under-up p b w x m o.0 z),
  found-ranked p b xs m s.1 o.1 r,
)

-- hart h's buffer, and then memory
abbrev pub view : ℕ → List Moment → List Entry
view h list = waiting h list ++ memory list

pub view-ranked : (p : Program) → Formed p → (h b : ℕ) → h < harts p → (list : List Moment) → Told p list
    → Ranked p b (view h list)
view-ranked p formed h b l list t =
    found-ranked p b (waiting h list) (memory list) (waiting-sorted p h list) (over p formed h l list t)
    (memory-ranked p formed b list t)
