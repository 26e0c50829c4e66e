-- How many signals of a hart have come to memory: all its writes of earlier phases have, too.
use Rattle.std.proofs.Common.{◌≡◌, ℕ, suc, ◌+◌, ◌<◌, ◌≤◌, List, [], ◌∷◌, ◌++◌, true, false, inl, inr, refl, sym}
use Rattle.std.proofs.Common.{ap, ◌∙◌, subst, arith, le_refl, ◌==◌}
use Rattle.std.specs.List.{AllByRecursion as Each}
use Rattle.std.proofs.lemmas.Bool.{cond-true, cond-false, cases_Bool, cases_eq, true≢false}
use Rattle.tm_table.specs.declared.state.Access.{Access}
use Rattle.tm_table.specs.declared.state.Access.TheVariants.{Quiet, Read, Write}
use Rattle.tm_plan_cases.specs.declared.program.Program.{Program}
use Rattle.tm_world.specs.Lists.{count, those}
use Rattle.tm_world.specs.Place.{harts}
use Rattle.tm_world.specs.Run.{Step, own, hart_of, access_of}
use Rattle.tm_world.specs.Kinds.{phase_of, flag_writes, writes_flag}
use Rattle.tm_world.specs.Course.{signals, is_write}
use Rattle.tm_legal.specs.Tame.{Formed}
use Rattle.tm_legal.proofs.Own.{own-here, own-there}
use Rattle.tm_meet.proofs.Meeting.{flags}
use Rattle.tm_meet.proofs.Counts.{quiet-count, signal-count, writes-le}
use Rattle.tm_buffered.specs.Moments.{Moment, Makes, Drains, steps_of, Entry, writes_by, writes_of}
use Rattle.tm_buffered.specs.Moments.{waiting, memory}
use Rattle.tm_buffered.specs.Signals.{flags_in, landed}
use Rattle.tm_buffered.proofs.Entries.{each-map, each-append, each-without, each-that}
use Rattle.tm_buffered.proofs.Drains.{entry, From, waiting-more, waiting-same, waiting-other, Gone, gone}
use Rattle.tm_buffered.proofs.Drains.{gone-from, by-parts}
use Rattle.tm_buffered.proofs.Lookups.{is-by}
use Rattle.tm_buffered.proofs.Told.{Told, made-told, drained-told, phase_at, signals-own, entry-keeps}
use Rattle.tm_buffered.proofs.Fences.{write-quiet, Alone, alone-at, alone}

pub flags_in-more : (g : ℕ) (e : Entry) (es : List Entry) → signals g e.step ≡ true → flags_in g (e ∷ es)
    ≡ suc (flags_in g es)
flags_in-more g e es y = cond-true (signals g e.step) (suc (flags_in g es)) (flags_in g es) y

pub flags_in-same : (g : ℕ) (e : Entry) (es : List Entry) → signals g e.step ≡ false → flags_in g (e ∷ es) ≡ flags_in g es
flags_in-same g e es n = cond-false (signals g e.step) (suc (flags_in g es)) (flags_in g es) n

-- a write that moves from one list to another
flags_in-out : (g : ℕ) (xs : List Entry) (e : Entry) (ys m : List Entry) → flags_in g (xs ++ ys) + flags_in g (e ∷ m)
    ≡ flags_in g (xs ++ (e ∷ ys)) + flags_in g m
flags_in-out g [] e ys m = elim (cases_Bool (signals g e.step)) [
  | inl y ↦ omega (arith, flags_in-more g e m y, flags_in-more g e ys y)
  | inr n ↦ omega (arith, flags_in-same g e m n, flags_in-same g e ys n)
]
flags_in-out g (x ∷ xs) e ys m =
    let ih = flags_in-out g xs e ys m in
    elim (cases_Bool (signals g x.step)) [
      | inl y ↦ omega (arith, flags_in-more g x (xs ++ ys) y, flags_in-more g x (xs ++ (e ∷ ys)) y)
      | inr n ↦ omega (arith, flags_in-same g x (xs ++ ys) n, flags_in-same g x (xs ++ (e ∷ ys)) n)
    ]

flags_in-none : (g : ℕ) (xs : List Entry) → Each (λ x. signals g x.step ≡ false) xs → flags_in g xs ≡ 0
flags_in-none g [] a = refl
flags_in-none g (x ∷ xs) a = flags_in-same g x xs a.0 ∙ flags_in-none g xs a.1

-- with one signal at the end
flags_in-one : (g : ℕ) (xs : List Entry) (e : Entry) → Each (λ x. signals g x.step ≡ false) xs
    → signals g e.step ≡ true → flags_in g (xs ++ (e ∷ [])) ≡ 1
flags_in-one g [] e a y = flags_in-more g e [] y
flags_in-one g (x ∷ xs) e a y = flags_in-same g x (xs ++ (e ∷ [])) a.0 ∙ flags_in-one g xs e a.1 y

flags_in-le : (g : ℕ) (xs ys : List Entry) → flags_in g ys ≤ flags_in g (xs ++ ys)
flags_in-le g [] ys = le_refl _
flags_in-le g (x ∷ xs) ys =
    let ih = flags_in-le g xs ys in
    elim (cases_Bool (signals g x.step)) [
      | inl y ↦ omega (arith, flags_in-more g x (xs ++ ys) y)
      | inr n ↦ omega (arith, flags_in-same g x (xs ++ ys) n)
    ]

-- ---- signals wait, or are in memory

quiet-signals : (g : ℕ) (a : Access) → is_write a ≡ false → writes_flag g a ≡ false
quiet-signals g Quiet e = refl
quiet-signals g (Read addr width value) e = refl
quiet-signals g (Write addr width value) e = absurd (true≢false e)

flags-more : (g : ℕ) (s : Step) (past : List Step) → hart_of s ≡ g → signals g s ≡ true → flags g (s ∷ past)
    ≡ suc (flags g past)
flags-more g s past e y = ap (flag_writes g) (own-here g s past e)
    ∙ cond-true (writes_flag g (access_of s)) (suc (flags g past)) (flags g past) y

flags-quiet : (g : ℕ) (s : Step) (past : List Step) → hart_of s ≡ g → signals g s ≡ false → flags g (s ∷ past)
    ≡ flags g past
flags-quiet g s past e n = ap (flag_writes g) (own-here g s past e)
    ∙ cond-false (writes_flag g (access_of s)) (suc (flags g past)) (flags g past) n

flags-later : (g : ℕ) (later past : List Step) → flags g past ≤ flags g (later ++ past)
flags-later g [] past = le_refl _
flags-later g (s ∷ later) past =
    let ih = flags-later g later past in
    elim (cases_eq (hart_of s) g) [
      | inl e ↦ subst (λ (l : List Step). flags g past ≤ flag_writes g l) (sym (own-here g s (later ++ past) e))
          (let z = writes-le g s (own g (later ++ past)) in omega arith)
      | inr n ↦ subst (λ (l : List Step). flags g past ≤ flag_writes g l) (sym (own-there g s (later ++ past) n)) ih
    ]

-- a write of these steps is counted among them
flags-from : (g : ℕ) (steps : List Step) (e : Entry) → From g steps e
    → flag_writes g (e.step ∷ own g e.past) ≤ flags g steps
flags-from g steps e f =
    let a : flags g (e.step ∷ e.past) ≤ flags g (f.later ++ (e.step ∷ e.past)) =
    flags-later g f.later (e.step ∷ e.past) in
    let b : flags g (e.step ∷ e.past) ≡ flag_writes g (e.step ∷ own g e.past) =
    ap (flag_writes g) (own-here g e.step e.past f.hart) in
    let c : flags g steps ≡ flags g (f.later ++ (e.step ∷ e.past)) = ap (flags g) f.is in
    omega arith

-- no write of g
flags-other : (g : ℕ) (s : Step) (past : List Step) → writes_by g s ≡ false → flags g (s ∷ past) ≡ flags g past
flags-other g s past n = elim (cases_eq (hart_of s) g) [
  | inr d ↦ ap (flag_writes g) (own-there g s past d)
  | inl e ↦ elim (cases_Bool (is_write (access_of s))) [
    | inl w ↦ absurd (true≢false (sym (is-by g s e w) ∙ n))
    | inr w ↦ flags-quiet g s past e (quiet-signals g (access_of s) w)
  ]
]

-- a drained write of another hart is no signal of g
pub other-quiet : (p : Program) → Formed p → (g h : ℕ) → g < harts p → (h ≡ g → ⊥) → (list : List Moment) → Told p list
    → (e : Entry) → From h (steps_of list) e → signals g e.step ≡ false
other-quiet p formed g h l n list t e f = elim (cases_Bool (signals g e.step)) [
  | inl y ↦ absurd (n (sym f.hart ∙ signals-own p formed g h l list t e f y))
  | inr q ↦ q
]

pub counts : (p : Program) → Formed p → (g : ℕ) → g < harts p → (list : List Moment) → Told p list
    → flags g (steps_of list) ≡ flags_in g (waiting g list) + landed g list
counts p formed g l [] t = omega arith
counts p formed g l (Makes s ∷ before) t =
    let past = steps_of before in
    let ih = counts p formed g l before (made-told p s before t) in
    elim (cases_Bool (writes_by g s)) [
      | inr n ↦
          let a = flags-other g s past n in
          let b = ap (flags_in g) (waiting-same g s before n) in
          omega arith
      | inl y ↦
          let (e, w) = by-parts g s y in
          let b = ap (flags_in g) (waiting-more p g s before t.moments.1 y) in
          elim (cases_Bool (signals g s)) [
            | inl z ↦
                let a = flags-more g s past e z in
                let c = flags_in-more g (entry s past) (waiting g before) z in
                omega arith
            | inr z ↦
                let a = flags-quiet g s past e z in
                let c = flags_in-same g (entry s past) (waiting g before) z in
                omega arith
          ]
    ]
counts p formed g l (Drains h w ∷ before) t =
    let told = drained-told p h w before t in
    let ih = counts p formed g l before told in
    elim (cases_eq h g) [
      | inl e ↦
          let d = gone g h w before e t.moments.0 in
          let a = ap (flags_in g) d.is in
          let b = ap (flags_in g) d.moved in
          let c = ap (flags_in g) d.was in
          let m = flags_in-out g d.newer d.entry d.older (memory before) in
          omega arith
      | inr n ↦
          let d = gone h h w before refl t.moments.0 in
          let q = other-quiet p formed g h l n before told d.entry (gone-from h h w before d) in
          let a = ap (flags_in g) (waiting-other g h w before n) in
          let b = ap (flags_in g) d.moved ∙ flags_in-same g d.entry (memory before) q in
          omega arith
    ]

-- ---- what waits is of later phases

-- where a write of g itself drains
low-drain : (p : Program) → Formed p → (g : ℕ) → g < harts p → (h w : ℕ) (before : List Moment) → Told p before
    → (d : Gone g h w before)
    → Each (λ x. landed g before ≤ phase_at p x) (d.newer ++ (d.entry ∷ d.older))
    → Each (λ x. landed g (Drains h w ∷ before) ≤ phase_at p x) (d.newer ++ d.older)
low-drain p formed g l h w before told d was =
    let P : Entry → Type 0 = λ x. landed g before ≤ phase_at p x in
    let Q : Entry → Type 0 = λ x. landed g (Drains h w ∷ before) ≤ phase_at p x in
    elim (cases_Bool (signals g d.entry.step)) [
      | inr n ↦
          let b : landed g (Drains h w ∷ before) ≡ landed g before =
          ap (flags_in g) d.moved ∙ flags_in-same g d.entry (memory before) n in
          each-map P Q (d.newer ++ d.older) (λ x z. omega arith) (each-without P d.newer d.entry d.older was)
      | inl y ↦
          let b : landed g (Drains h w ∷ before) ≡ suc (landed g before) =
          ap (flags_in g) d.moved ∙ flags_in-more g d.entry (memory before) y in
          let f = alone-at p g d.newer d.entry d.older (subst (Alone p g) d.was (alone p g l before told)) y in
          let least : landed g before ≤ phase_at p d.entry = each-that P d.newer d.entry d.older was in
          each-append Q d.newer d.older
          (each-map (λ x. phase_at p d.entry < phase_at p x) Q d.newer (λ x z. omega arith) f.later)
          (subst (Each Q) (sym f.oldest) tt)
    ]

-- Each write that waits is of a phase from the number of landed signals on.
pub low : (p : Program) → Formed p → (g : ℕ) → g < harts p → (list : List Moment) → Told p list
    → Each (λ e. landed g list ≤ phase_at p e) (waiting g list)
low p formed g l [] t = tt
low p formed g l (Makes s ∷ before) t =
    let past = steps_of before in
    let told = made-told p s before t in
    let ih = low p formed g l before told in
    let Goal : List Entry → Type 0 = Each (λ e. landed g before ≤ phase_at p e) in
    elim (cases_Bool (writes_by g s)) [
      | inr n ↦ subst Goal (sym (waiting-same g s before n)) ih
      | inl y ↦
          let (e, w) = by-parts g s y in
          let quiet = quiet-count p g (own g past) (told.keep g l) (write-quiet p g l s before t e w) in
          let all = counts p formed g l before told in
          let same : phase_of p past (hart_of s) ≡ phase_of p past g = ap (phase_of p past) e in
          subst Goal (sym (waiting-more p g s before t.moments.1 y)) (omega arith, ih)
    ]
low p formed g l (Drains h w ∷ before) t =
    let told = drained-told p h w before t in
    let ih = low p formed g l before told in
    elim (cases_eq h g) [
      | inl e ↦
          let d = gone g h w before e t.moments.0 in
          let was = subst (Each (λ x. landed g before ≤ phase_at p x)) d.was ih in
          subst (Each (λ x. landed g (Drains h w ∷ before) ≤ phase_at p x)) (sym d.is)
          (low-drain p formed g l h w before told d was)
      | inr n ↦
          let d = gone h h w before refl t.moments.0 in
          let q = other-quiet p formed g h l n before told d.entry (gone-from h h w before d) in
          let b : landed g (Drains h w ∷ before) ≡ landed g before =
          ap (flags_in g) d.moved ∙ flags_in-same g d.entry (memory before) q in
          subst (Each (λ x. landed g (Drains h w ∷ before) ≤ phase_at p x)) (sym (waiting-other g h w before n))
          (subst (λ (k : ℕ). Each (λ x. k ≤ phase_at p x) (waiting g before)) (sym b) ih)
    ]

-- ---- a signal that waits

-- A signal that waits is of the phase that counts the landed ones.
pub exact : (p : Program) → Formed p → (g : ℕ) → g < harts p → (h w : ℕ) (before : List Moment) → Told p before
    → (d : Gone g h w before) → signals g d.entry.step ≡ true → phase_at p d.entry ≡ landed g before
exact p formed g l h w before told d y =
    let steps = steps_of before in
    let f = alone-at p g d.newer d.entry d.older (subst (Alone p g) d.was (alone p g l before told)) y in
    let from = gone-from g h w before d in
    let one : flags_in g (waiting g before) ≡ 1 =
    ap (flags_in g) (d.was ∙ ap (λ (l : List Entry). d.newer ++ (d.entry ∷ l)) f.oldest)
    ∙ flags_in-one g d.newer d.entry f.only y in
    let all = counts p formed g l before told in
    let least : landed g before ≤ phase_at p d.entry =
    each-that (λ x. landed g before ≤ phase_at p x) d.newer d.entry d.older
    (subst (Each (λ x. landed g before ≤ phase_at p x)) d.was (low p formed g l before told)) in
    let made = signal-count p g d.entry.step (own g d.entry.past) (entry-keeps p g l before told d.entry from) y in
    let same : phase_at p d.entry ≡ phase_of p d.entry.past g = ap (phase_of p d.entry.past) from.hart in
    let rise = flags-from g steps d.entry from in
    omega arith

-- A landed signal has been made.
pub landed-made : (p : Program) → Formed p → (g : ℕ) → g < harts p → (list : List Moment) → Told p list
    → landed g list ≤ flags g (steps_of list)
landed-made p formed g l list t = let all = counts p formed g l list t in omega arith

-- the landed ones stay
pub landed-le : (g : ℕ) (m : Moment) (before : List Moment) → landed g before ≤ landed g (m ∷ before)
landed-le g (Makes s) before = le_refl _
landed-le g (Drains h w) before = flags_in-le g (those (λ e. e.number == w) (writes_of h (steps_of before)))
    (memory before)
