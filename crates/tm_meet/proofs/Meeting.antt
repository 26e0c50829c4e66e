-- No hart leaves a phase before all others have signalled in it.
use Rattle.std.proofs.Common.{◌≡◌, ℕ, ◌+◌, ◌%◌, ◌^◌, ◌<◌, ◌≤◌, List, [], ◌∷◌, Bool, true, false, ◌&&◌, ◌||◌, ◌==◌}
use Rattle.std.proofs.Common.{nat_le, Option, Some, ◌⊎◌, inl, inr, refl, sym, ap, ap₂, ◌∙◌, subst, arith, le_refl}
use Rattle.std.proofs.Common.{eqb-true}
use Rattle.std.specs.Prelude.{IsTrue, if◌then◌else◌, unwrap_or}
use Rattle.std.proofs.Math.Nat.{zero-div}
use Rattle.std.proofs.lemmas.Bool.{cond-true, cond-false, cases_Bool, cases_eq, true≢false, or_cases, or_left}
use Rattle.std.proofs.lemmas.Bool.{or_right, and_parts, leb-true}
use Rattle.tm_table.specs.declared.state.Access.{Access}
use Rattle.tm_table.specs.declared.state.Access.TheVariants.{Quiet, Read, Write}
use Rattle.tm_plan_cases.specs.declared.program.Program.{Program}
use Rattle.tm_plan_map.specs.Map.{flag_at}
use Rattle.tm_base.specs.Lists.{any}
use Rattle.tm_world.specs.Lists.{or_else, front_to}
use Rattle.tm_world.specs.Place.{harts, exit_of, is_window, image_byte, byte_of}
use Rattle.tm_world.specs.Run.{Step, own, hart_of, pc_of, access_of, phase, Reads, written, last_write, HasShape}
use Rattle.tm_world.specs.Kinds.{flag_writes, phase_of, plain_owed}
use Rattle.tm_world.specs.Course.{signals, gets}
use Rattle.tm_world.proofs.Accesses.{writes-may}
use Rattle.tm_runs.proofs.Bytes.{same_dword}
use Rattle.tm_plan_map.proofs.Within.{within-true}
use Rattle.tm_legal.specs.Tame.{Formed}
use Rattle.tm_legal.proofs.Own.{own-here, own-there}
use Rattle.tm_legal.proofs.Phases.{phase-exit, phase-other}
use Rattle.tm_memory.specs.Memory.{ReadsOf}
use Rattle.tm_memory.proofs.Accesses.{flag-byte, flag-apart, flag-whole}
use Rattle.tm_meet.proofs.Counts.{BarrierKept, writes-le, writes-same, signal-count}
use Rattle.tm_memory.proofs.Owners.{MayKeep, flag-keeper, flag-zero, window-flag}
use Rattle.tm_meet.proofs.Told.{Told, told-before}
use Rattle.tm_legal.proofs.Formed.{formed-sizes}

-- how often hart g has written its flag
abbrev pub flags : ℕ → List Step → ℕ
flags g steps = flag_writes g (own g steps)

flags-same : (g : ℕ) (s : Step) (past : List Step) → signals g s ≡ false → flags g (s ∷ past) ≡ flags g past
flags-same g s past f = elim (cases_eq (hart_of s) g) [
  | inl e ↦ ap (flag_writes g) (own-here g s past e) ∙ writes-same g s (own g past) f
  | inr n ↦ ap (flag_writes g) (own-there g s past n)
]

flags-le : (g : ℕ) (s : Step) (past : List Step) → flags g past ≤ flags g (s ∷ past)
flags-le g s past = elim (cases_eq (hart_of s) g) [
  | inl e ↦ let l = writes-le g s (own g past) in subst (λ (zs : List Step). flags g past ≤ flag_writes g zs)
      (sym (own-here g s past e)) l
  | inr n ↦ subst (λ (zs : List Step). flags g past ≤ flag_writes g zs) (sym (own-there g s past n)) (le_refl _)
]

-- ---- what stands in a flag

-- what was written last by anybody, else the image's byte
abbrev pub held : Program → List Step → ℕ → ℕ
held p past b = unwrap_or (last_write b past) (image_byte p b)

-- the value that an access writes
abbrev value_of : Access → ℕ
value_of (Write addr width value) = value
value_of Quiet = 0
value_of (Read addr width value) = 0

-- the value of the last write of g's flag
abbrev flag_value : ℕ → List Step → ℕ
flag_value g [] = 0
flag_value g (s ∷ past) = if signals g s then value_of (access_of s) else flag_value g past

-- a write of a flag is its hart's
signals-own : (p : Program) → Formed p → (g : ℕ) → g < harts p → (s : Step) (past : List Step) → Told p (s ∷ past)
    → signals g s ≡ true → hart_of s ≡ g
signals-own p formed g l s past t e =
    let (b, w, is, wr) = flag-byte g (access_of s) t.shaped.0 e in
    flag-keeper p (phase_of p past (hart_of s)) g (hart_of s) b formed l t.only.0 is
    (writes-may (MayKeep p (phase_of p past (hart_of s)) (hart_of s)) (access_of s) b w t.kept.0 wr)

-- so it is of the whole flag, with the count of the phase
signals-whole : (p : Program) → Formed p → (g : ℕ) → g < harts p → (s : Step) (past : List Step) → Told p (s ∷ past)
    → signals g s ≡ true
    → (access_of s ≡ Write (flag_at g) 8 (phase_of p past g + 1)) × (flags g (s ∷ past) ≡ phase_of p past g + 1)
signals-whole p formed g l s past t e =
    let mine = own-here g s past (signals-own p formed g l s past t e) in
    let k : BarrierKept p g (s ∷ own g past) = subst (BarrierKept p g) mine (t.keep g l) in
    ((k.0.signal e).value, ap (flag_writes g) mine ∙ signal-count p g s (own g past) k e)

-- byte by byte
held-flag : (p : Program) → Formed p → (g i : ℕ) → g < harts p → i < 8 → (past : List Step) → Told p past
    → held p past (flag_at g + i) ≡ byte_of (flag_value g past) i
held-flag p formed g i l m [] t =
    flag-zero p g (flag_at g + i) formed l (within-true (flag_at g) 8 (flag_at g + i) (omega arith) (omega arith)) ∙
    zero-byte i
  where
    zero-byte : (i : ℕ) → 0 ≡ byte_of 0 i
    zero-byte i = sym (ap (λ (n : ℕ). n % 256) (zero-div (256 ^ i)))
held-flag p formed g i l m (s ∷ past) t =
    let before = held-flag p formed g i l m past (told-before p s past t) in
    let b = flag_at g + i in
    elim (cases_Bool (signals g s)) [
      | inl e ↦
          let is = (signals-whole p formed g l s past t e).0 in
          let v = phase_of p past g + 1 in
          let w : written (access_of s) b ≡ Some (byte_of v i) =
          ap (λ (a : Access). written a b) is ∙ flag-whole g i v m in
          ap (λ (o : Option ℕ). unwrap_or (or_else o (last_write b past)) (image_byte p b)) w
          ∙ ap (λ (n : ℕ). byte_of n i)
          (sym (cond-true (signals g s) (value_of (access_of s)) (flag_value g past) e ∙ ap value_of is))
      | inr e ↦
          ap (λ (o : Option ℕ). unwrap_or (or_else o (last_write b past)) (image_byte p b))
          (flag-apart g i (access_of s) m e)
          ∙ (before ∙ ap (λ (n : ℕ). byte_of n i)
          (sym (cond-false (signals g s) (value_of (access_of s)) (flag_value g past) e)))
    ]

-- It is the number of its writes, which fits it.
value-is : (p : Program) → Formed p → (g : ℕ) → g < harts p → (past : List Step) → Told p past
    → (flag_value g past ≡ flags g past) × (flags g past < 2 ^ 64)
value-is p formed g l [] t = (refl, omega arith)
value-is p formed g l (s ∷ past) t = elim (cases_Bool (signals g s)) [
  | inl e ↦
      let (is, n) = signals-whole p formed g l s past t e in
      let v : flag_value g (s ∷ past) ≡ phase_of p past g + 1 =
      cond-true (signals g s) (value_of (access_of s)) (flag_value g past) e ∙ ap value_of is in
      let shape : HasShape (Write (flag_at g) 8 (phase_of p past g + 1)) = subst HasShape is t.shaped.0 in
      let small : phase_of p past g + 1 < 2 ^ 64 = shape.1 in
      (v ∙ sym n, omega arith)
  | inr e ↦
      let v : flag_value g (s ∷ past) ≡ flag_value g past =
      cond-false (signals g s) (value_of (access_of s)) (flag_value g past) e in
      let n = flags-same g s past e in
      let before = value-is p formed g l past (told-before p s past t) in
      (v ∙ (before.0 ∙ sym n), omega (arith, before.1))
]

-- In each state a flag holds how often its hart has written it.
pub flag-holds : (p : Program) → Formed p → (g i : ℕ) → g < harts p → i < 8 → (past : List Step) → Told p past
    → held p past (flag_at g + i) ≡ byte_of (flags g past) i
flag-holds p formed g i l m past t = held-flag p formed g i l m past t ∙ ap (λ (n : ℕ). byte_of n i)
    (value-is p formed g l past t).0

-- ---- what is seen in a flag

gets-read : (a least : ℕ) (access : Access) → gets a least access ≡ true → (v : ℕ) × (access ≡ Read a 8 v) × (least ≤ v)
gets-read a least Quiet e = cc
gets-read a least (Write addr width value) e = cc
gets-read a least (Read addr width value) e =
    let q = and_parts (addr == a) ((width == 8) && nat_le least value) e in
    let r = and_parts (width == 8) (nat_le least value) q.1 in
    (value, ap₂ (λ (x y : ℕ). Read x y value) (eqb-true _ _ q.0) (eqb-true _ _ r.0), leb-true _ _ r.1)

-- a flag is no byte of the windows
flag-read : (p : Program) → Formed p → (g : ℕ) → g < harts p → (v : ℕ)
    → ReadsOf (λ b. IsTrue (is_window b)) (Read (flag_at g) 8 v) → ⊥
flag-read p formed g l v w =
    let limit = (formed-sizes formed).harts in
    true≢false (sym (within-true (flag_at g) 8 (flag_at g + 0) (omega arith) (omega arith)) ∙ window-flag g
    (flag_at g + 0) (omega arith) (w 0 (omega arith)))

-- What is read of a flag is how often it has been written.
pub read-is : (p : Program) → Formed p → (g v : ℕ) → g < harts p → (s : Step) (past : List Step) → Told p (s ∷ past)
    → access_of s ≡ Read (flag_at g) 8 v → v ≡ flags g past
read-is p formed g v l s past t is =
    let before = told-before p s past t in
    let reads : Reads (plain_owed p past) (Read (flag_at g) 8 v) =
    subst (Reads (plain_owed p past)) is (elim t.reads.0
    [ inl r ↦ r | inr w ↦ absurd (flag-read p formed g l v (subst (ReadsOf (λ b. IsTrue (is_window b))) is w)) ]) in
    let shape : HasShape (Read (flag_at g) 8 v) = subst HasShape is t.shaped.0 in
    same_dword v (flags g past) shape.1 (value-is p formed g l past before).1
    (λ i m. reads i m ∙ flag-holds p formed g i l m past before)

-- A flag that is read as n or more has been written n times.
read-le : (p : Program) → Formed p → (g n : ℕ) → g < harts p → (s : Step) (past : List Step) → Told p (s ∷ past)
    → gets (flag_at g) n (access_of s) ≡ true → n ≤ flags g past
read-le p formed g n l s past t e =
    let (v, is, le) = gets-read (flag_at g) n (access_of s) e in
    let same = read-is p formed g v l s past t is in
    omega arith

any-front : (f stop : Step → Bool) (xs : List Step) → any f (front_to stop xs) ≡ true → any f xs ≡ true
any-front f stop [] e = e
any-front f stop (x ∷ xs) e = by (stop x) e (any-front f stop xs)
  where
    by : (t : Bool) → any f (if t then [] else x ∷ front_to stop xs) ≡ true
        → (any f (front_to stop xs) ≡ true → any f xs ≡ true) → (f x || any f xs) ≡ true
    by true h more = cc
    by false h more = elim (or_cases (f x) (any f (front_to stop xs)) h) [
      | inl y ↦ or_left (f x) (any f xs) y
      | inr y ↦ or_right (f x) (any f xs) (more y)
    ]

any-own : (f : Step → Bool) (h : ℕ) (s : Step) (past : List Step) → any f (own h (s ∷ past)) ≡ true → (f s ≡ true)
    ⊎ (any f (own h past) ≡ true)
any-own f h s past e = elim (cases_eq (hart_of s) h) [
  | inl q ↦ or_cases (f s) (any f (own h past)) (sym (ap (any f) (own-here h s past q)) ∙ e)
  | inr q ↦ inr (sym (ap (any f) (own-there h s past q)) ∙ e)
]

-- What any hart has seen in a flag has been written.
seen-le : (p : Program) → Formed p → (h g n : ℕ) → g < harts p → (past : List Step) → Told p past
    → any (λ t. gets (flag_at g) n (access_of t)) (own h past) ≡ true → n ≤ flags g past
seen-le p formed h g n l [] t e = cc
seen-le p formed h g n l (s ∷ past) t e =
    let w = flags-le g s past in
    elim (any-own (λ t. gets (flag_at g) n (access_of t)) h s past e) [
      | inl y ↦ let r = read-le p formed g n l s past t y in omega arith
      | inr y ↦ let r = seen-le p formed h g n l past (told-before p s past t) y in omega arith
    ]

-- No hart is in a later phase than the flags of all others.
pub phases-le : (p : Program) → Formed p → (h g : ℕ) → h < harts p → g < harts p → (g ≡ h → ⊥) → (past : List Step)
    → Told p past → phase_of p past h ≤ flags g past
phases-le p formed h g l m ne [] t = omega arith
phases-le p formed h g l m ne (s ∷ past) t =
    let x = exit_of p h in
    let before = told-before p s past t in
    let ih = phases-le p formed h g l m ne past before in
    let w = flags-le g s past in
    let goal : List Step → Type 0 = λ steps. phase x steps ≤ flags g (s ∷ past) in
    elim (cases_eq (hart_of s) h) [
      | inr q ↦ subst goal (sym (own-there h s past q)) (omega arith)
      | inl q ↦ elim (cases_Bool (pc_of s == x)) [
        | inr f ↦ let n = phase-other x s (own h past) f in subst goal (sym (own-here h s past q)) (omega arith)
        | inl f ↦
            let n = phase-exit x s (own h past) f in
            let k : BarrierKept p h (s ∷ own h past) = subst (BarrierKept p h) (own-here h s past q) (t.keep h l) in
            let met = (k.0.leave (eqb-true _ _ f)).met g m ne in
            let seen = any-front (λ u. gets (flag_at g) (phase x (own h past) + 1) (access_of u)) (signals h)
            (own h past) met in
            let le = seen-le p formed h g (phase x (own h past) + 1) m past before seen in
            subst goal (sym (own-here h s past q)) (omega arith)
      ]
    ]
