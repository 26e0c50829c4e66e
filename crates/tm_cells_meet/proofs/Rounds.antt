-- How many steps a hart makes that waits for nobody.
use Rattle.std.proofs.Common.{◌≡◌, ℕ, zero, suc, ◌+◌, ◌<◌, ◌≤◌, List, [], ◌∷◌, ◌++◌, length}
use Rattle.std.proofs.Common.{Bool, true, false, not, ◌&&◌, ◌||◌, ◌==◌, nat_lt, Option, inl, inr}
use Rattle.std.proofs.Common.{refl, sym, ap, ap₂, ◌∙◌, subst, arith, eqb-true, eq-eqb}
use Rattle.std.specs.Prelude.{if◌then◌else◌, unwrap_or}
use Rattle.std.proofs.lemmas.Bool.{cases_eq, cases_lt, and_parts, ltb-true}
use Rattle.tm_table.specs.declared.state.Access.{Access}
use Rattle.tm_table.specs.declared.state.Access.TheVariants.{Quiet, Read, Write}
use Rattle.tm_base.specs.Lists.{any, count_from}
use Rattle.tm_plan_cases.specs.declared.program.Program.{Program}
use Rattle.tm_plan_map.specs.Map.{flag_at}
use Rattle.tm_world.specs.Lists.{count, or_else}
use Rattle.tm_world.specs.Place.{harts, exit_of, image_byte, byte_of}
use Rattle.tm_world.specs.Run.{Step, Always, own, hart_of, access_of, phase, in_phase, Reads, HasShape}
use Rattle.tm_world.specs.Run.{last_write, written}
use Rattle.tm_world.specs.Kinds.{flag_writes, writes_flag, plain_owed}
use Rattle.tm_world.specs.Course.{signals, this_phase}
use Rattle.tm_world.specs.Work.{gets_less, is_idle_read, idle_lately, work_steps}
use Rattle.tm_world.proofs.Prefix.{earlier, own-append}
use Rattle.tm_runs.specs.Machine.{Entry}
use Rattle.tm_runs.specs.Shadow.{entry_of, entries_of}
use Rattle.tm_runs.proofs.Bytes.{same_dword}
use Rattle.tm_runs.proofs.Paths.{phase-entries}
use Rattle.tm_legal.proofs.Own.{own-here, own-there}
use Rattle.tm_memory.proofs.Accesses.{flag-apart, flag-whole}
use Rattle.tm_base.proofs.ListLemmas.{any-no-number}
use Rattle.tm_cells_plan.specs.declared.plan.CellPlan.{CellPlan}
use Rattle.tm_cells_plan.specs.Sums.{IsPlan}
use Rattle.tm_cells_world.specs.Kinds.{CellPlain, CellHalf, before_of}
use Rattle.tm_cells_world.proofs.Prefix.{half-earlier, plain-earlier}
use Rattle.tm_cells_code.specs.View.{cells}
use Rattle.tm_cells_code.specs.Told.{Stage, Does, Quietly, Counts, Adds, Signals, Looking, Leaves, Loads, Judges}
use Rattle.tm_cells_code.proofs.TextKeeps.{text-keeps}
use Rattle.tm_cells_code.proofs.Tells.{told-exits, Signalled, Now, Not, does-signals}
use Rattle.tm_cells_code.proofs.Addresses.{flag-place, cell-place}
use Rattle.tm_cells_code.proofs.Wrote.{does-wrote, wrote-flags}
use Rattle.tm_cells_meet.specs.Laws.{FewBeforeSignal, FewBehindSignals}
use Rattle.tm_cells_meet.proofs.States.{Newest, newest}
use Rattle.tm_cells_meet.proofs.Half.{plain-half}
use Rattle.tm_cells_meet.proofs.Meeting.{read-reading}

-- ---- work without idle reads

-- none of the steps xs, made behind ys, is an idle read
abbrev Busy : Program → ℕ → (xs ys : List Step) → Type 0
Busy p h [] ys = Unit {0}
Busy p h (s ∷ xs) ys = (is_idle_read p h (xs ++ ys) s ≡ false) × Busy p h xs ys

lately-none : (p : Program) (h k : ℕ) (xs ys : List Step) → k ≤ length xs → Busy p h xs ys
    → idle_lately p h k (xs ++ ys) ≡ false
lately-none p h zero xs ys l b = refl
lately-none p h (suc k) [] ys l b = absurd (omega arith)
lately-none p h (suc k) (s ∷ xs) ys l b = ap₂ (λ (x y : Bool). x || y) b.0
    (lately-none p h k xs ys (omega arith) b.1)

-- but for three of them all are work
busy-work : (p : Program) (h : ℕ) (xs ys : List Step) → Busy p h xs ys → length xs ≤ work_steps p h (xs ++ ys) + 3
busy-work p h [] ys b = omega arith
busy-work p h (s ∷ xs) ys b = elim (cases_lt (length xs) 3) [
  | inl l ↦ omega arith
  | inr l ↦
      let none = lately-none p h 4 (s ∷ xs) ys (omega arith) b in
      let here : work_steps p h (s ∷ xs ++ ys) ≡ suc (work_steps p h (xs ++ ys)) =
      ap (λ (t : Bool). if t then work_steps p h (xs ++ ys) else suc (work_steps p h (xs ++ ys))) none in
      let rest = busy-work p h xs ys b.1 in
      omega (arith, here, rest)
]

-- where nothing was before, all are
all-lately : (p : Program) (h k : ℕ) (xs : List Step) → Always (λ past s. is_idle_read p h past s ≡ false) xs
    → idle_lately p h k xs ≡ false
all-lately p h zero xs b = refl
all-lately p h (suc k) [] b = refl
all-lately p h (suc k) (s ∷ xs) b = ap₂ (λ (x y : Bool). x || y) b.0 (all-lately p h k xs b.1)

all-work : (p : Program) (h : ℕ) (xs : List Step) → Always (λ past s. is_idle_read p h past s ≡ false) xs
    → work_steps p h xs ≡ length xs
all-work p h [] b = refl
all-work p h (s ∷ xs) b =
    ap (λ (t : Bool). if t then work_steps p h xs else suc (work_steps p h xs)) (all-lately p h 4 (s ∷ xs) b)
    ∙ ap suc (all-work p h xs b.1)

-- ---- before the signal

count-zero : (f : Step → Bool) (s : Step) (past : List Step) → count f (s ∷ past) ≡ 0 → count f past ≡ 0
count-zero f s past e = by (f s) e
  where
    by : (b : Bool) → (if b then suc (count f past) else count f past) ≡ 0 → count f past ≡ 0
    by true q = absurd (omega arith)
    by false q = q

phase-none : (f : Step → Bool) (x q : ℕ) (past : List Step) → count f past ≡ 0 → any f (in_phase x q past) ≡ false
phase-none f x q [] e = refl
phase-none f x q (s ∷ past) e = by (phase x past == q) (phase-none f x q past (count-zero f s past e))
  where
    here : f s ≡ false
    here = one (f s) e
      where
        one : (b : Bool) → (if b then suc (count f past) else count f past) ≡ 0 → b ≡ false
        one true q = absurd (omega arith)
        one false q = refl

    by : (b : Bool) → any f (in_phase x q past) ≡ false → any f (if b then s ∷ in_phase x q past else in_phase x q past)
        ≡ false
    by true r = ap₂ (λ (c d : Bool). c || d) here r
    by false r = r

unsignalled : (p : Program) (h : ℕ) (xs : List Step) → flag_writes h xs ≡ 0
    → Always (λ past s. is_idle_read p h past s ≡ false) xs
unsignalled p h [] e = tt
unsignalled p h (s ∷ past) e =
    let before = count-zero (λ (u : Step). writes_flag h (access_of u)) s past e in (
      ap (λ (b : Bool). b && any (λ g. not (g == h) && gets_less (flag_at g) (phase (exit_of p h) past + 1) (access_of s))
          (count_from 0 (harts p)))
          (phase-none (signals h) (exit_of p h) (phase (exit_of p h) past) past before),
      unsignalled p h past before,
    )

-- ---- a hart alone

nothing : (b : Bool) → (b && false) ≡ false
nothing true = refl
nothing false = refl

no-others : (p : Program) (h : ℕ) (past : List Step) (s : Step)
    → ((g : ℕ) → g < harts p → (not (g == h) && gets_less (flag_at g) (phase (exit_of p h) past + 1) (access_of s))
    ≡ false) → is_idle_read p h past s ≡ false
no-others p h past s f =
    ap (λ (b : Bool). any (signals h) (this_phase p h past) && b)
    (any-no-number (λ g. not (g == h) && gets_less (flag_at g) (phase (exit_of p h) past + 1) (access_of s)) (harts p) 0
    (λ g a b. f g (omega arith))) ∙ nothing (any (signals h) (this_phase p h past))

alone : (p : Program) (h : ℕ) (xs : List Step) → h < harts p → harts p ≡ 1
    → Always (λ past s. is_idle_read p h past s ≡ false) xs
alone p h [] l e = tt
alone p h (s ∷ past) l e = (
  no-others p h past s (λ g m. ap (λ (b : Bool). not b && gets_less (flag_at g) (phase (exit_of p h) past + 1)
      (access_of s)) (eq-eqb g h (omega (arith, l, m, e)))),
  alone p h past l e,
)

pub few-before : (plan : CellPlan) → FewBeforeSignal plan
few-before plan is r plain h l why =
    let half = plain-half plan is r.opening r.steps plain in
    let keeps = text-keeps plan is h l r half in
    let work : work_steps (cells plan) h (own h r.steps) ≡ length (own h r.steps) = elim why [
      | inl e ↦ all-work (cells plan) h (own h r.steps) (unsignalled (cells plan) h (own h r.steps) e)
      | inr e ↦ all-work (cells plan) h (own h r.steps) (alone (cells plan) h (own h r.steps) l e)
    ] in
    omega (arith, work, keeps.work)

-- ---- where all have signalled

-- a step that reads a flag is made before the exit mark
flag-early : (plan : CellPlan) (p : Program) (h g v : ℕ) → g < 16 → {past : List Entry} {e : Entry} {st st' : Stage}
    → Does plan p h past e st st' → e.access ≡ Read (flag_at g) 8 v → st.exits ≡ 0
flag-early plan p h g v l (Quietly a b) is = let q = sym a ∙ is in cc
flag-early plan p h g v l (Counts a b c d f) is = b
flag-early plan p h g v l (Adds a b c d w f i j k) is = b
flag-early plan p h g v l (Signals a b c d f) is = b
flag-early plan p h g v l (Looking a b c d) is = b
flag-early plan p h g v l (Leaves a b c d f) is = b
flag-early plan p h g v l {st = st} (Loads a b c d w f i) is =
    let q = place (sym f ∙ is) in absurd (omega (arith, q, cell-place st.loads, flag-place g, l))
  where
    place : {x y u w : ℕ} → Read x 8 u ≡ Read y 8 w → x ≡ y
    place q = cc
flag-early plan p h g v l (Judges a b c d f i j) is = let q = sym i ∙ is in cc

less-read : (a most : ℕ) (access : Access) → gets_less a most access ≡ true → (v : ℕ) × (access ≡ Read a 8 v)
    × (v < most)
less-read a most Quiet e = cc
less-read a most (Write addr width value) e = cc
less-read a most (Read addr width value) e =
    let q = and_parts (addr == a) ((width == 8) && nat_lt value most) e in
    let r = and_parts (width == 8) (nat_lt value most) q.1 in
    (value, ap₂ (λ (x y : ℕ). Read x y value) (eqb-true _ _ q.0) (eqb-true _ _ r.0), ltb-true _ _ r.1)

module _ (plan : CellPlan) (is : IsPlan plan) (o : ℕ → List ℕ) where
  abbrev flags : ℕ → List Step → ℕ
  flags g past = flag_writes g (own g past)

  small : (h : ℕ) → h < plan.harts → h < 16
  small h l = let harts = is.harts in omega arith

  -- a flag that its hart has written is 1
  raised : (g i : ℕ) → g < plan.harts → i < 8 → (past : List Step) → CellHalf (cells plan) (earlier o past)
      → 1 ≤ flags g past → unwrap_or (last_write (flag_at g + i) past) (image_byte (cells plan) (flag_at g + i))
      ≡ byte_of 1 i
  raised g i l m [] half e = absurd (omega (arith, e))
  raised g i l m (s ∷ past) half e =
      let n = newest plan is o past s half in
      let wrote = does-wrote plan (cells plan) (hart_of s) n.does in
      let low = small (hart_of s) half.only.0 in
      let before = half-earlier (cells plan) o (s ∷ []) past half in
      elim (cases_eq (hart_of s) g) [
        | inr d ↦
            let silent = wrote-flags plan (hart_of s) g (entries_of (own (hart_of s) past)) (entry_of s) low (small g l)
            (λ z. d (sym z)) wrote in
            still silent (raised g i l m past before (subst (λ (zs : List Step). 1 ≤ flag_writes g zs)
            (own-there g s past d) e))
        | inl d ↦ own-step d n (does-signals plan (cells plan) (hart_of s) low n.does)
            (λ k. raised g i l m past before k)
      ]
    where
      image : ℕ
      image = image_byte (cells plan) (flag_at g + i)

      still : writes_flag g (access_of s) ≡ false
          → unwrap_or (last_write (flag_at g + i) past) (image_byte (cells plan) (flag_at g + i)) ≡ byte_of 1 i
          → unwrap_or (or_else (written (access_of s) (flag_at g + i)) (last_write (flag_at g + i) past))
          (image_byte (cells plan) (flag_at g + i)) ≡ byte_of 1 i
      still silent q =
          ap (λ (w : Option ℕ). unwrap_or (or_else w (last_write (flag_at g + i) past)) (image_byte (cells plan)
          (flag_at g + i))) (flag-apart g i (access_of s) m silent) ∙ q

      own-step : hart_of s ≡ g → (n : Newest plan is o (hart_of s) past s)
          → Signalled plan (cells plan) (hart_of s) (small (hart_of s) half.only.0) (entries_of (own (hart_of s) past))
          (entry_of s) n.st n.st'
          → (1 ≤ flags g past → unwrap_or (last_write (flag_at g + i) past) (image_byte (cells plan) (flag_at g + i))
          ≡ byte_of 1 i)
          → unwrap_or (or_else (written (access_of s) (flag_at g + i)) (last_write (flag_at g + i) past))
          (image_byte (cells plan) (flag_at g + i)) ≡ byte_of 1 i
      own-step d n (Now a b c f k q) more =
          let access : access_of s ≡ Write (flag_at g) 8 1 = k ∙ ap (λ (x : ℕ). Write (flag_at x) 8 1) d in
          ap (λ (x : Access). unwrap_or (or_else (written x (flag_at g + i)) (last_write (flag_at g + i) past))
          (image_byte (cells plan) (flag_at g + i))) access
          ∙ ap (λ (w : Option ℕ). unwrap_or (or_else w (last_write (flag_at g + i) past)) (image_byte (cells plan)
          (flag_at g + i))) (flag-whole g i 1 m)
      own-step d n (Not a b) more =
          let silent : writes_flag g (access_of s) ≡ false = subst (λ (x : ℕ). writes_flag x (access_of s) ≡ false) d a in
          let count : flag_writes g (own g (s ∷ past)) ≡ flags g past =
          ap (flag_writes g) (own-here g s past d)
          ∙ ap (λ (b : Bool). if b then suc (flags g past) else flags g past) silent in
          still silent (more (omega (arith, e, count)))

  -- so no read of it is idle
  busy-step : (s : Step) (past : List Step) → CellPlain (cells plan) (earlier o (s ∷ past))
      → ((g : ℕ) → g < plan.harts → 1 ≤ flags g past)
      → is_idle_read (cells plan) (hart_of s) (own (hart_of s) past) s ≡ false
  busy-step s past plain signalled =
      no-others (cells plan) (hart_of s) (own (hart_of s) past) s (λ g l. by g l (gets_less (flag_at g)
      (phase (exit_of (cells plan) (hart_of s)) (own (hart_of s) past) + 1) (access_of s)) refl)
    where
      half : CellHalf (cells plan) (earlier o (s ∷ past))
      half = plain-half plan is o (s ∷ past) plain

      never : (g : ℕ) → g < plan.harts → (v : ℕ) → access_of s ≡ Read (flag_at g) 8 v
          → v < phase (exit_of (cells plan) (hart_of s)) (own (hart_of s) past) + 1 → ⊥
      never g l v access less =
          let n = newest plan is o past s half in
          let h = hart_of s in
          let low = small h half.only.0 in
          let early = flag-early plan (cells plan) h g v (small g l) n.does access in
          let ph = phase-entries (exit_of (cells plan) h) (own h past) ∙ told-exits plan (cells plan) h low n.before in
          let before = half-earlier (cells plan) o (s ∷ []) past half in
          let reads : Reads (plain_owed (cells plan) past) (Read (flag_at g) 8 v) =
          subst (Reads (plain_owed (cells plan) past))
          (read-reading (cells plan) h (before_of o past s) s (flag_at g) 8 v n.half.follows access) plain.reads.0 in
          let shape : HasShape (Read (flag_at g) 8 v) = subst HasShape access n.half.follows.shape in
          let one : v ≡ 1 = same_dword v 1 shape.1 (omega arith) (λ i m. reads i m
          ∙ raised g i l m past before (signalled g l)) in
          omega (arith, one, less, ph, early)

      by : (g : ℕ) → g < plan.harts → (b : Bool) → gets_less (flag_at g)
          (phase (exit_of (cells plan) (hart_of s)) (own (hart_of s) past) + 1) (access_of s) ≡ b
          → (not (g == hart_of s) && gets_less (flag_at g)
          (phase (exit_of (cells plan) (hart_of s)) (own (hart_of s) past) + 1) (access_of s)) ≡ false
      by g l false e = ap (λ (b : Bool). not (g == hart_of s) && b) e ∙ nothing (not (g == hart_of s))
      by g l true e =
          let r = less-read (flag_at g) (phase (exit_of (cells plan) (hart_of s)) (own (hart_of s) past) + 1) (access_of s) e
          in absurd (never g l r.0 r.1 r.2)

  flags-on : (g : ℕ) (s : Step) (past : List Step) → flags g past ≤ flags g (s ∷ past)
  flags-on g s past = elim (cases_eq (hart_of s) g) [
    | inl e ↦ subst (λ (zs : List Step). flags g past ≤ flag_writes g zs) (sym (own-here g s past e))
        (one (writes_flag g (access_of s)))
    | inr n ↦ subst (λ (zs : List Step). flags g past ≤ flag_writes g zs) (sym (own-there g s past n)) (omega arith)
  ]
    where
      one : (b : Bool) → flags g past ≤ (if b then suc (flags g past) else flags g past)
      one true = omega arith
      one false = omega arith

  still-raised : (later past : List Step) → ((g : ℕ) → g < plan.harts → 1 ≤ flags g past) → (g : ℕ) → g < plan.harts
      → 1 ≤ flags g (later ++ past)
  still-raised [] past f g l = f g l
  still-raised (s ∷ later) past f g l =
      let a = still-raised later past f g l in let b = flags-on g s (later ++ past) in omega arith

  -- hart h's later steps
  all-busy : (later past : List Step) → CellPlain (cells plan) (earlier o (later ++ past))
      → ((g : ℕ) → g < plan.harts → 1 ≤ flags g past) → (h : ℕ) → Busy (cells plan) h (own h later) (own h past)
  all-busy [] past plain f h = tt
  all-busy (s ∷ later) past plain f h =
      let before = plain-earlier (cells plan) o (s ∷ []) (later ++ past) plain in
      let rest = all-busy later past before f h in
      elim (cases_eq (hart_of s) h) [
        | inr n ↦ subst (λ (zs : List Step). Busy (cells plan) h zs (own h past)) (sym (own-there h s later n)) rest
        | inl e ↦
            let here : is_idle_read (cells plan) h (own h (later ++ past)) s ≡ false =
            subst (λ (k : ℕ). is_idle_read (cells plan) k (own k (later ++ past)) s ≡ false) e
            (busy-step s (later ++ past) plain (still-raised later past f)) in
            subst (λ (zs : List Step). Busy (cells plan) h zs (own h past)) (sym (own-here h s later e))
            (subst (λ (zs : List Step). is_idle_read (cells plan) h zs s ≡ false) (own-append h later past) here, rest)
      ]

pub few-behind : (plan : CellPlan) → FewBehindSignals plan
few-behind plan is o later past plain signalled h l =
    let half = plain-half plan is o (later ++ past) plain in
    let keeps = text-keeps plan is h l (earlier o (later ++ past)) half in
    let busy = busy-work (cells plan) h (own h later) (own h past) (all-busy plan is o later past plain signalled h) in
    let same = ap (work_steps (cells plan) h) (own-append h later past) in
    omega (arith, busy, same, keeps.work)
