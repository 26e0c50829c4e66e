-- What another hart finds in a flag is how many signals have come to memory; so no hart is in a later phase than all
-- others have signalled, in memory.
use Rattle.std.proofs.Common.{◌≡◌, ℕ, ◌+◌, ◌%◌, ◌^◌, ◌<◌, ◌≤◌, List, [], ◌∷◌, Bool, true, false, ◌&&◌}
use Rattle.std.proofs.Common.{◌==◌, nat_le, Option, None, Some, inl, inr, refl, sym, ap, ap₂, ◌∙◌, subst, arith}
use Rattle.std.proofs.Common.{eqb-true, ◌||◌, ◌⊎◌}
use Rattle.std.specs.Prelude.{unwrap_or, if◌then◌else◌}
use Rattle.std.proofs.Math.Nat.{zero-div}
use Rattle.std.proofs.lemmas.Bool.{cases_Bool, cases_eq, and_parts, leb-true, or_cases, or_left, or_right}
use Rattle.tm_table.specs.declared.state.Access.{Access}
use Rattle.tm_table.specs.declared.state.Access.TheVariants.{Quiet, Read, Write}
use Rattle.tm_plan_cases.specs.declared.program.Program.{Program}
use Rattle.tm_plan_map.specs.Map.{flag_at}
use Rattle.tm_base.specs.Lists.{any}
use Rattle.tm_world.specs.Lists.{or_else, front_to}
use Rattle.tm_world.specs.Place.{harts, exit_of, image_byte, byte_of, is_flag}
use Rattle.tm_world.specs.Run.{Step, own, hart_of, pc_of, access_of, phase, written, HasShape, Reads}
use Rattle.tm_world.specs.Kinds.{phase_of}
use Rattle.tm_world.specs.Course.{signals, gets}
use Rattle.tm_plan_map.proofs.Within.{within-true}
use Rattle.tm_runs.proofs.Bytes.{same_dword}
use Rattle.tm_legal.specs.Tame.{Formed}
use Rattle.tm_legal.proofs.Own.{own-here, own-there}
use Rattle.tm_legal.proofs.Phases.{phase-exit, phase-other}
use Rattle.tm_world.proofs.Accesses.{writes-may}
use Rattle.tm_memory.proofs.Accesses.{flag-apart, flag-whole}
use Rattle.tm_memory.proofs.Owners.{MayKeep, flag-keeper, flag-zero}
use Rattle.tm_buffered.specs.Moments.{Moment, Makes, Drains, steps_of, Entry, waiting, memory, left_at, found}
use Rattle.tm_buffered.specs.Moments.{buffered_owed}
use Rattle.tm_buffered.proofs.Entries.{each-map}
use Rattle.tm_buffered.proofs.Drains.{From, from-always, waiting-from, Gone, gone, gone-from}
use Rattle.tm_buffered.proofs.Lookups.{left_at-none}
use Rattle.tm_buffered.proofs.Halves.{entry-kept, entry-few}
use Rattle.tm_buffered.proofs.Told.{Told, made-told, drained-told, phase_at, entry-keeps}
use Rattle.tm_buffered.proofs.Fences.{step-keeps}
use Rattle.tm_buffered.proofs.Landed.{flags_in-more, flags_in-same, exact, landed-le}
use Rattle.tm_buffered.specs.Signals.{flags_in, landed}
use Rattle.tm_buffered.proofs.Landed.{other-quiet}

-- ---- what stands in a flag

-- what stands in memory
abbrev pub in_memory : Program → List Moment → ℕ → ℕ
in_memory p list b = unwrap_or (left_at b (memory list)) (image_byte p b)

-- what a landed signal wrote
signal-value : (p : Program) → Formed p → (g : ℕ) → g < harts p → (h w : ℕ) (before : List Moment) → Told p before
    → (d : Gone g h w before) → signals g d.entry.step ≡ true
    → (access_of d.entry.step ≡ Write (flag_at g) 8 (landed g before + 1)) × (landed g before + 1 < 2 ^ 64)
signal-value p formed g l h w before t d y =
    let from = gone-from g h w before d in
    let k = entry-keeps p g l before t d.entry from in
    let same : phase_of p d.entry.past g ≡ landed g before =
    sym (ap (phase_of p d.entry.past) from.hart) ∙ exact p formed g l h w before t d y in
    let is : access_of d.entry.step ≡ Write (flag_at g) 8 (landed g before + 1) =
    (k.0.signal y).value ∙ ap (λ (n : ℕ). Write (flag_at g) 8 (n + 1)) same in
    let shape : HasShape (Write (flag_at g) 8 (landed g before + 1)) =
    subst HasShape is (from-always (λ past s. HasShape (access_of s)) g (steps_of before) d.entry from t.shaped) in
    (is, shape.1)

-- a drained write that is no signal of g
landed-quiet : (p : Program) (g k h w : ℕ) (before : List Moment) (d : Gone k h w before)
    → signals g d.entry.step ≡ false
    → ((i : ℕ) → i < 8 → in_memory p before (flag_at g + i) ≡ byte_of (landed g before) i) × (landed g before < 2 ^ 64)
    → ((i : ℕ) → i < 8 → in_memory p (Drains h w ∷ before) (flag_at g + i)
    ≡ byte_of (landed g (Drains h w ∷ before)) i) × (landed g (Drains h w ∷ before) < 2 ^ 64)
landed-quiet p g k h w before d n ih =
    let same : landed g (Drains h w ∷ before) ≡ landed g before =
    ap (flags_in g) d.moved ∙ flags_in-same g d.entry (memory before) n in (
      λ i m. ap (λ (o : Option ℕ). unwrap_or o (image_byte p (flag_at g + i)))
          (ap (left_at (flag_at g + i)) d.moved
          ∙ ap (λ (o : Option ℕ). or_else o (left_at (flag_at g + i) (memory before)))
          (flag-apart g i (access_of d.entry.step) m n))
          ∙ (ih.0 i m ∙ ap (λ (n : ℕ). byte_of n i) (sym same)),
      omega (arith, ih.1),
    )

-- and one that is
landed-signal : (p : Program) → Formed p → (g : ℕ) → g < harts p → (h w : ℕ) (before : List Moment) → Told p before
    → (d : Gone g h w before) → signals g d.entry.step ≡ true
    → ((i : ℕ) → i < 8 → in_memory p (Drains h w ∷ before) (flag_at g + i)
    ≡ byte_of (landed g (Drains h w ∷ before)) i) × (landed g (Drains h w ∷ before) < 2 ^ 64)
landed-signal p formed g l h w before t d y =
    let (is, small) = signal-value p formed g l h w before t d y in
    let v = landed g before + 1 in
    let more : landed g (Drains h w ∷ before) ≡ v =
    ap (flags_in g) d.moved ∙ (flags_in-more g d.entry (memory before) y ∙ omega arith) in (
      λ i m. ap (λ (o : Option ℕ). unwrap_or o (image_byte p (flag_at g + i)))
          (ap (left_at (flag_at g + i)) d.moved
          ∙ ap (λ (o : Option ℕ). or_else o (left_at (flag_at g + i) (memory before)))
          (ap (λ (a : Access). written a (flag_at g + i)) is ∙ flag-whole g i v m))
          ∙ ap (λ (n : ℕ). byte_of n i) (sym more),
      omega arith,
    )

-- In memory a flag holds how many of its hart's signals have landed.
pub flag-landed : (p : Program) → Formed p → (g : ℕ) → g < harts p → (list : List Moment) → Told p list
    → ((i : ℕ) → i < 8 → in_memory p list (flag_at g + i) ≡ byte_of (landed g list) i) × (landed g list < 2 ^ 64)
flag-landed p formed g l [] t = (
  λ i m. flag-zero p g (flag_at g + i) formed l (within-true (flag_at g) 8 (flag_at g + i) (omega arith) (omega arith))
      ∙ sym (ap (λ (n : ℕ). n % 256) (zero-div (256 ^ i))),
  omega arith,
)
flag-landed p formed g l (Makes s ∷ before) t = flag-landed p formed g l before (made-told p s before t)
flag-landed p formed g l (Drains h w ∷ before) t =
    let told = drained-told p h w before t in
    let ih = flag-landed p formed g l before told in
    elim (cases_eq h g) [
      | inl e ↦
          let d = gone g h w before e t.moments.0 in
          elim (cases_Bool (signals g d.entry.step)) [
            | inl y ↦ landed-signal p formed g l h w before told d y
            | inr n ↦ landed-quiet p g g h w before d n ih
          ]
      | inr e ↦
          let d = gone h h w before refl t.moments.0 in
          landed-quiet p g h h w before d
          (other-quiet p formed g h l e before told d.entry (gone-from h h w before d)) ih
    ]

-- ---- what is seen in a flag

-- a hart's own writes leave another's flag alone
waiting-spares : (p : Program) → Formed p → (h g b : ℕ) → g < harts p → (h ≡ g → ⊥) → is_flag g b ≡ true
    → (list : List Moment) → Told p list → left_at b (waiting h list) ≡ None
waiting-spares p formed h g b l n i list t =
    left_at-none b (waiting h list) (each-map (From h (steps_of list)) (λ e. written (access_of e.step) b
    ≡ None) (waiting h list) (λ e f. by e f (written (access_of e.step) b) refl) (waiting-from h list))
  where
    by : (e : Entry) → From h (steps_of list) e → (o : Option ℕ) → written (access_of e.step) b ≡ o
        → written (access_of e.step) b ≡ None
    by e f None w = w
    by e f (Some v) w =
        absurd (n (sym f.hart ∙ flag-keeper p (phase_at p e) g (hart_of e.step) b formed l
        (entry-few p h (steps_of list) e t.kept f) i
        (writes-may (MayKeep p (phase_at p e) (hart_of e.step)) (access_of e.step) b v
        (entry-kept p h (steps_of list) e t.kept f) w)))

-- Another hart finds there what stands in memory.
pub found-flag : (p : Program) → Formed p → (h g : ℕ) → g < harts p → (h ≡ g → ⊥) → (list : List Moment) → Told p list
    → (i : ℕ) → i < 8 → found p h list (flag_at g + i) ≡ byte_of (landed g list) i
found-flag p formed h g l n list t i m =
    let b = flag_at g + i in
    ap (λ (o : Option ℕ). unwrap_or (or_else o (left_at b (memory list))) (image_byte p b))
    (waiting-spares p formed h g b l n (within-true (flag_at g) 8 b (omega arith) (omega arith)) list t)
    ∙ (flag-landed p formed g l list t).0 i m

gets-read : (a least : ℕ) (access : Access) → gets a least access ≡ true → (v : ℕ) × (access ≡ Read a 8 v) × (least ≤ v)
gets-read a least Quiet e = cc
gets-read a least (Write addr width value) e = cc
gets-read a least (Read addr width value) e =
    let q = and_parts (addr == a) ((width == 8) && nat_le least value) e in
    let r = and_parts (width == 8) (nat_le least value) q.1 in
    (value, ap₂ (λ (x y : ℕ). Read x y value) (eqb-true _ _ q.0) (eqb-true _ _ r.0), leb-true _ _ r.1)

-- A flag that another hart reads as n or more has n landed signals.
read-le : (p : Program) → Formed p → (h g n : ℕ) → g < harts p → (h ≡ g → ⊥) → (s : Step) (before : List Moment)
    → Told p (Makes s ∷ before) → hart_of s ≡ h → gets (flag_at g) n (access_of s) ≡ true → n ≤ landed g before
read-le p formed h g n l ne s before t e y =
    let told = made-told p s before t in
    let (v, is, le) = gets-read (flag_at g) n (access_of s) y in
    let reads : Reads (buffered_owed p h before) (access_of s) =
    subst (λ (k : ℕ). Reads (buffered_owed p k before) (access_of s)) e t.moments.0.1 in
    let read : Reads (buffered_owed p h before) (Read (flag_at g) 8 v) = subst (Reads (buffered_owed p h before)) is reads
    in
    let shape : HasShape (Read (flag_at g) 8 v) = subst HasShape is t.shaped.0 in
    let same : v ≡ landed g before =
    same_dword v (landed g before) shape.1 (flag-landed p formed g l before told).1
    (λ i m. read i m ∙ found-flag p formed h g l ne before told i m) in
    omega arith

any-front : (f stop : Step → Bool) (xs : List Step) → any f (front_to stop xs) ≡ true → any f xs ≡ true
any-front f stop [] e = e
any-front f stop (x ∷ xs) e = by (stop x) e (any-front f stop xs)
  where
    by : (t : Bool) → any f (if t then [] else x ∷ front_to stop xs) ≡ true
        → (any f (front_to stop xs) ≡ true → any f xs ≡ true) → (f x || any f xs) ≡ true
    by true h more = cc
    by false h more = elim (or_cases (f x) (any f (front_to stop xs)) h) [
      | inl y ↦ or_left (f x) (any f xs) y
      | inr y ↦ or_right (f x) (any f xs) (more y)
    ]

any-own : (f : Step → Bool) (h : ℕ) (s : Step) (past : List Step) → any f (own h (s ∷ past)) ≡ true
    → (hart_of s ≡ h) × (f s ≡ true) ⊎ (any f (own h past) ≡ true)
any-own f h s past e = elim (cases_eq (hart_of s) h) [
  | inl q ↦ elim (or_cases (f s) (any f (own h past)) (sym (ap (any f) (own-here h s past q)) ∙ e)) [
    | inl y ↦ inl (q, y)
    | inr y ↦ inr y
  ]
  | inr q ↦ inr (sym (ap (any f) (own-there h s past q)) ∙ e)
]

-- What a hart has seen in another's flag has landed.
seen-le : (p : Program) → Formed p → (h g n : ℕ) → g < harts p → (h ≡ g → ⊥) → (list : List Moment) → Told p list
    → any (λ u. gets (flag_at g) n (access_of u)) (own h (steps_of list)) ≡ true → n ≤ landed g list
seen-le p formed h g n l ne [] t e = cc
seen-le p formed h g n l ne (Makes s ∷ before) t e =
    elim (any-own (λ u. gets (flag_at g) n (access_of u)) h s (steps_of before) e) [
      | inl y ↦ read-le p formed h g n l ne s before t y.0 y.1
      | inr y ↦ seen-le p formed h g n l ne before (made-told p s before t) y
    ]
seen-le p formed h g n l ne (Drains k w ∷ before) t e =
    let r = seen-le p formed h g n l ne before (drained-told p k w before t) e in
    let m = landed-le g (Drains k w) before in
    omega arith

-- No hart is in a later phase than the landed signals of all others.
pub phases-le : (p : Program) → Formed p → (h g : ℕ) → h < harts p → g < harts p → (h ≡ g → ⊥) → (list : List Moment)
    → Told p list → phase_of p (steps_of list) h ≤ landed g list
phases-le p formed h g l m ne [] t = omega arith
phases-le p formed h g l m ne (Drains k w ∷ before) t =
    let r = phases-le p formed h g l m ne before (drained-told p k w before t) in
    let z = landed-le g (Drains k w) before in
    omega arith
phases-le p formed h g l m ne (Makes s ∷ before) t =
    let x = exit_of p h in
    let past = steps_of before in
    let told = made-told p s before t in
    let ih = phases-le p formed h g l m ne before told in
    let goal : List Step → Type 0 = λ steps. phase x steps ≤ landed g before in
    elim (cases_eq (hart_of s) h) [
      | inr q ↦ subst goal (sym (own-there h s past q)) ih
      | inl q ↦ elim (cases_Bool (pc_of s == x)) [
        | inr f ↦ let n = phase-other x s (own h past) f in subst goal (sym (own-here h s past q)) (omega arith)
        | inl f ↦
            let n = phase-exit x s (own h past) f in
            let k = step-keeps p h l s before t q in
            let met = (k.0.leave (eqb-true _ _ f)).met g m (λ e. ne (sym e)) in
            let seen = any-front (λ u. gets (flag_at g) (phase x (own h past) + 1) (access_of u)) (signals h)
            (own h past) met in
            let le = seen-le p formed h g (phase x (own h past) + 1) m ne before told seen in
            subst goal (sym (own-here h s past q)) (omega arith)
      ]
    ]
