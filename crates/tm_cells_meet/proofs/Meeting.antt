-- On plain cell runs no hart passes its exit mark before all others have signalled.
use Rattle.std.proofs.Common.{◌≡◌, ◌≢◌, ℕ, suc, ◌+◌, ◌%◌, ◌^◌, ◌<◌, ◌≤◌, List, [], ◌∷◌}
use Rattle.std.proofs.Common.{Bool, true, false, ◌&&◌, ◌||◌, ◌==◌, nat_le, Option, None, Some, ◌⊎◌, inl, inr}
use Rattle.std.proofs.Common.{refl, sym, ap, ap₂, ◌∙◌, subst, arith, eqb-true, le_refl}
use Rattle.std.specs.Prelude.{if◌then◌else◌, unwrap_or}
use Rattle.std.proofs.Math.Nat.{zero-div}
use Rattle.std.proofs.lemmas.Bool.{cases_eq, cases_lt, cases_Bool, and_parts, or_cases, or_left, or_right, leb-true}
use Rattle.tm_table.specs.declared.state.Access.{Access}
use Rattle.tm_table.specs.declared.state.Access.TheVariants.{Quiet, Read, Write}
use Rattle.tm_table.specs.State.{Hart}
use Rattle.tm_table.specs.declared.add.Add.{Add}
use Rattle.tm_table.specs.Adds.{add_of}
use Rattle.tm_base.specs.Lists.{any}
use Rattle.tm_plan_cases.specs.declared.program.Program.{Program}
use Rattle.tm_plan_map.specs.Map.{flag_at}
use Rattle.tm_world.specs.Lists.{or_else, front_to}
use Rattle.tm_world.specs.Place.{exit_of, image_byte, byte_of}
use Rattle.tm_world.specs.Run.{Step, Always, own, hart_of, access_of, pc_of, Reads, last_write}
use Rattle.tm_world.specs.Run.{phase, HasShape}
use Rattle.tm_world.specs.Kinds.{Met, phase_of, flag_writes, writes_flag, plain_owed}
use Rattle.tm_world.specs.Course.{gets}
use Rattle.tm_world.proofs.Prefix.{earlier}
use Rattle.tm_runs.specs.Machine.{Entry}
use Rattle.tm_runs.specs.Shadow.{entry_of, entries_of}
use Rattle.tm_runs.proofs.Bytes.{same_dword}
use Rattle.tm_runs.proofs.Paths.{phase-entries, any-entries}
use Rattle.tm_legal.proofs.Own.{own-here, own-there}
use Rattle.tm_legal.proofs.Phases.{phase-exit, phase-other}
use Rattle.tm_memory.proofs.Accesses.{flag-apart}
use Rattle.tm_runs.specs.Phases.{signals_in}
use Rattle.tm_runs.specs.Phases.{Keeping, phase_in}
use Rattle.tm_cells_plan.specs.declared.plan.CellPlan.{CellPlan}
use Rattle.tm_cells_plan.specs.Sums.{IsPlan}
use Rattle.tm_cells_world.specs.Rows.{reading, reading_as, row_as, read_as, CellFollows, add_row}
use Rattle.tm_cells_world.specs.Kinds.{CellPlain, CellHalf, before_of}
use Rattle.tm_cells_world.proofs.Prefix.{half-earlier, plain-earlier}
use Rattle.tm_cells_code.specs.View.{cells}
use Rattle.tm_cells_code.specs.Told.{Stage, Does, Quietly, Counts, Adds, Signals, Looking, Leaves, Loads, Judges, Told}
use Rattle.tm_cells_code.proofs.Addresses.{flag-place}
use Rattle.tm_cells_code.proofs.Placing.{sizes}
use Rattle.tm_cells_code.proofs.Tells.{told-exits}
use Rattle.tm_cells_code.proofs.Wrote.{does-wrote, wrote-flags}
use Rattle.tm_cells_meet.proofs.States.{newest}
use Rattle.tm_cells_meet.proofs.Half.{high-zero, plain-half}

-- a step that reads in its event is no add
pub read-plain : (p : Program) (h : ℕ) (before : Hart) (s : Step) (a n v : ℕ) → CellFollows p h before s
    → access_of s ≡ Read a n v → add_of s.event.word ≡ None
read-plain p h before s a n v f is = by (add_of s.event.word) refl
  where
    by : (o : Option Add) → add_of s.event.word ≡ o → o ≡ None
    by None e = refl
    by (Some x) e =
        let row : Some (add_row before x (read_as (Some x) before s)) ≡ Some (s.after, access_of s) =
        subst (λ (o : Option Add). row_as o before s.event.word (read_as o before s) ≡ Some (s.after, access_of s)) e f.row
        in
        let same : add_row before x (read_as (Some x) before s) ≡ (s.after, access_of s) = cc in
        let access = ap (λ (q : Hart × Access). q.1) same ∙ is in
        cc

-- so what it reads is in its event
pub read-reading : (p : Program) (h : ℕ) (before : Hart) (s : Step) (a n v : ℕ) → CellFollows p h before s
    → access_of s ≡ Read a n v → reading before s ≡ Read a n v
read-reading p h before s a n v f is =
    ap (λ (o : Option Add). reading_as o before s) (read-plain p h before s a n v f is) ∙ is

gets-read : (a least : ℕ) (access : Access) → gets a least access ≡ true → (v : ℕ) × (access ≡ Read a 8 v) × (least ≤ v)
gets-read a least Quiet e = cc
gets-read a least (Write addr width value) e = cc
gets-read a least (Read addr width value) e =
    let q = and_parts (addr == a) ((width == 8) && nat_le least value) e in
    let r = and_parts (width == 8) (nat_le least value) q.1 in
    (value, ap₂ (λ (x y : ℕ). Read x y value) (eqb-true _ _ q.0) (eqb-true _ _ r.0), leb-true _ _ r.1)

zero-byte : (i : ℕ) → 0 ≡ byte_of 0 i
zero-byte i = sym (ap (λ (n : ℕ). n % 256) (zero-div (256 ^ i)))

any-front : (f stop : Entry → Bool) (xs : List Entry) → any f (front_to stop xs) ≡ true → any f xs ≡ true
any-front f stop [] e = e
any-front f stop (x ∷ xs) e = by (stop x) e (any-front f stop xs)
  where
    by : (t : Bool) → any f (if t then [] else x ∷ front_to stop xs) ≡ true
        → (any f (front_to stop xs) ≡ true → any f xs ≡ true) → (f x || any f xs) ≡ true
    by true h more = cc
    by false h more = elim (or_cases (f x) (any f (front_to stop xs)) h) [
      | inl y ↦ or_left (f x) (any f xs) y
      | inr y ↦ or_right (f x) (any f xs) (more y)
    ]

any-own : (f : Step → Bool) (h : ℕ) (s : Step) (past : List Step) → any f (own h (s ∷ past)) ≡ true → (f s ≡ true)
    ⊎ (any f (own h past) ≡ true)
any-own f h s past e = elim (cases_eq (hart_of s) h) [
  | inl q ↦ or_cases (f s) (any f (own h past)) (sym (ap (any f) (own-here h s past q)) ∙ e)
  | inr q ↦ inr (sym (ap (any f) (own-there h s past q)) ∙ e)
]

-- a step at the exit mark is the first there
pub left-once : (plan : CellPlan) (p : Program) (h : ℕ) {past : List Entry} {e : Entry} {st st' : Stage}
    → Does plan p h past e st st' → e.pc ≡ exit_of p h → st.exits ≡ 0
left-once plan p h (Quietly a b) z = absurd (b.off z)
left-once plan p h (Counts a b c d f) z = b
left-once plan p h (Adds a b c d v f g i j) z = b
left-once plan p h (Signals a b c d f) z = b
left-once plan p h (Looking a b c d) z = b
left-once plan p h (Leaves a b c d f) z = b
left-once plan p h (Loads a b c d v f g) z = absurd (g.off z)
left-once plan p h (Judges a b c d f g i) z = absurd (i.off z)

module _ (plan : CellPlan) (is : IsPlan plan) (o : ℕ → List ℕ) where
  abbrev p : Program
  p = cells plan

  abbrev flags : ℕ → List Step → ℕ
  flags g past = flag_writes g (own g past)

  small : (h : ℕ) → h < plan.harts → h < 16
  small h l = let harts = is.harts in omega arith

  few : plan.harts ≤ 16
  few = is.harts.1

  -- flags only grow
  flags-le : (g : ℕ) (s : Step) (past : List Step) → flags g past ≤ flags g (s ∷ past)
  flags-le g s past = elim (cases_eq (hart_of s) g) [
    | inl e ↦ subst (λ (zs : List Step). flags g past ≤ flag_writes g zs) (sym (own-here g s past e))
        (one (writes_flag g (access_of s)))
    | inr n ↦ subst (λ (zs : List Step). flags g past ≤ flag_writes g zs) (sym (own-there g s past n)) (le_refl _)
  ]
    where
      one : (b : Bool) → flags g past ≤ (if b then suc (flags g past) else flags g past)
      one true = omega arith
      one false = omega arith

  -- a flag that its hart hasn't written is as it was
  unwritten : (g i : ℕ) → g < plan.harts → i < 8 → (past : List Step) → CellHalf (cells plan) (earlier o past)
      → flags g past ≡ 0 → last_write (flag_at g + i) past ≡ None
  unwritten g i l m [] half e = refl
  unwritten g i l m (s ∷ past) half e =
      let n = newest plan is o past s half in
      let wrote = does-wrote plan (cells plan) (hart_of s) n.does in
      let before : flags g past ≡ 0 = (let k = flags-le g s past in omega arith) in
      let silent : writes_flag g (access_of s) ≡ false = elim (cases_eq (hart_of s) g) [
        | inr d ↦ wrote-flags plan (hart_of s) g (entries_of (own (hart_of s) past)) (entry_of s)
            (small (hart_of s) half.only.0) (small g l) (λ z. d (sym z)) wrote
        | inl d ↦ own-silent d
      ] in
      ap (λ (w : Option ℕ). or_else w (last_write (flag_at g + i) past)) (flag-apart g i (access_of s) m silent)
      ∙ unwritten g i l m past (half-earlier (cells plan) o (s ∷ []) past half) before
    where
      own-silent : hart_of s ≡ g → writes_flag g (access_of s) ≡ false
      own-silent d = by (writes_flag g (access_of s)) refl (ap (flag_writes g) (sym (own-here g s past d)) ∙ e)
        where
          by : (b : Bool) → writes_flag g (access_of s) ≡ b
              → (if writes_flag g (access_of s) then suc (flags g past) else flags g past) ≡ 0 → b ≡ false
          by false f q = refl
          by true f q =
              let r : suc (flags g past) ≡ 0 = sym (ap (λ (b : Bool). if b then suc (flags g past) else flags g past) f)
              ∙ q in
              absurd (omega arith)

  -- what is read of it is 0
  read-zero : (g v : ℕ) → g < plan.harts → (s : Step) (past : List Step) → CellPlain (cells plan) (earlier o (s ∷ past))
      → CellHalf (cells plan) (earlier o (s ∷ past)) → flags g past ≡ 0 → access_of s ≡ Read (flag_at g) 8 v → v ≡ 0
  read-zero g v l s past plain half e is' =
      let n = newest plan is o past s half in
      let before = half-earlier (cells plan) o (s ∷ []) past half in
      let reads : Reads (plain_owed (cells plan) past) (Read (flag_at g) 8 v) =
      subst (Reads (plain_owed (cells plan) past))
      (read-reading (cells plan) (hart_of s) (before_of o past s) s (flag_at g) 8 v n.half.follows is') plain.reads.0 in
      let shape : HasShape (Read (flag_at g) 8 v) = subst HasShape is' n.half.follows.shape in
      same_dword v 0 shape.1 (omega arith) (λ i m. reads i m
      ∙ (ap (λ (w : Option ℕ). unwrap_or w (image_byte (cells plan) (flag_at g + i))) (unwritten g i l m past before e)
      ∙ (high-zero (cells plan) (flag_at g + i) (sizes plan is g l) (let f = flag-place g in omega arith) ∙ zero-byte i)))

  -- what any hart has seen in a flag has been written
  seen : (h g : ℕ) → g < plan.harts → (past : List Step) → CellPlain (cells plan) (earlier o past)
      → any (λ t. gets (flag_at g) 1 (access_of t)) (own h past) ≡ true → 1 ≤ flags g past
  seen h g l [] plain e = cc
  seen h g l (s ∷ past) plain e =
      let k = flags-le g s past in
      let half = plain-half plan is o (s ∷ past) plain in
      elim (any-own (λ t. gets (flag_at g) 1 (access_of t)) h s past e) [
        | inr y ↦ let r = seen h g l past (plain-earlier (cells plan) o (s ∷ []) past plain) y in omega arith
        | inl y ↦ elim (cases_lt 0 (flags g past)) [
          | inl z ↦ omega arith
          | inr z ↦
              let (v, is', le) = gets-read (flag_at g) 1 (access_of s) y in
              let zero' = read-zero g v l s past plain half (omega arith) is' in
              absurd (omega (arith, zero', le))
        ]
      ]

  -- No hart is in a later phase than the flags of all others.
  pub phases-le : (h g : ℕ) → h < plan.harts → g < plan.harts → g ≢ h → (past : List Step)
      → CellPlain (cells plan) (earlier o past) → phase_of (cells plan) past h ≤ flags g past
  phases-le h g l m ne [] plain = omega arith
  phases-le h g l m ne (s ∷ past) plain =
      let x = exit_of (cells plan) h in
      let before = plain-earlier (cells plan) o (s ∷ []) past plain in
      let ih = phases-le h g l m ne past before in
      let w = flags-le g s past in
      let goal : List Step → Type 0 = λ steps. phase x steps ≤ flags g (s ∷ past) in
      elim (cases_eq (hart_of s) h) [
        | inr q ↦ subst goal (sym (own-there h s past q)) (omega arith)
        | inl q ↦ elim (cases_Bool (pc_of s == x)) [
          | inr f ↦ let n = phase-other x s (own h past) f in subst goal (sym (own-here h s past q)) (omega arith)
          | inl f ↦
              let n = phase-exit x s (own h past) f in
              let le = at-exit q (eqb-true _ _ f) in
              subst goal (sym (own-here h s past q)) (omega arith)
        ]
      ]
    where
      at-exit : hart_of s ≡ h → pc_of s ≡ exit_of (cells plan) h
          → suc (phase (exit_of (cells plan) h) (own h past)) ≤ flags g past
      at-exit q at =
          let half = plain-half plan is o (s ∷ past) plain in
          let n = newest plan is o past s half in
          let keep : Keeping (cells plan) h (entries_of (own h past)) (entry_of s) =
          subst (λ (k : ℕ). Keeping (cells plan) k (entries_of (own k past)) (entry_of s)) q n.keeps in
          let told : Told plan (cells plan) h (entries_of (own h past)) n.st =
          subst (λ (k : ℕ). Told plan (cells plan) k (entries_of (own k past)) n.st) q n.before in
          let exits : n.st.exits ≡ 0 = (subst (λ (k : ℕ). pc_of s ≡ exit_of (cells plan) k → n.st.exits ≡ 0) q
          (left-once plan (cells plan) (hart_of s) n.does)) at in
          let q0 : phase_in (exit_of (cells plan) h) (entries_of (own h past)) ≡ 0 =
          told-exits plan (cells plan) h (small h l) told ∙ exits in
          let met = (keep.leave at).met g m ne in
          let one : any (λ (t : Entry). gets (flag_at g) 1 t.access) (entries_of (own h past)) ≡ true =
          any-front (λ (t : Entry). gets (flag_at g) 1 t.access) (signals_in h) (entries_of (own h past))
          (subst (λ (k : ℕ). any (λ (t : Entry). gets (flag_at g) (k + 1) t.access) (front_to (signals_in h)
          (entries_of (own h past))) ≡ true) q0 met) in
          let saw : any (λ t. gets (flag_at g) 1 (access_of t)) (own h past) ≡ true =
          any-entries (λ (t : Step). gets (flag_at g) 1 (access_of t)) (λ (t : Entry). gets (flag_at g) 1 t.access)
          (λ t. refl) (own h past) ∙ one in
          let le = seen h g m past (plain-earlier (cells plan) o (s ∷ []) past plain) saw in
          let ph = phase-entries (exit_of (cells plan) h) (own h past) in
          omega (arith, le, ph, q0)

  -- a plain run meets
  pub plain-met : (steps : List Step) → CellPlain (cells plan) (earlier o steps) → Always (Met (cells plan)) steps
  plain-met [] plain = tt
  plain-met (s ∷ past) plain = (
    (λ g l ne. phases-le (hart_of s) g plain.paths.only.0 l ne past (plain-earlier (cells plan) o (s ∷ []) past plain)),
    plain-met past (plain-earlier (cells plan) o (s ∷ []) past plain),
  )
