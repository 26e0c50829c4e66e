-- What each step of a hart writes.
use Rattle.std.proofs.Common.{◌≡◌, ◌≢◌, ℕ, ◌+◌, ◌<◌, ◌≤◌, List, ◌⊎◌, inl, inr, Bool, true, false}
use Rattle.std.proofs.Common.{true≢false, ◌&&◌, refl, sym, ap, ap₂, ◌∙◌, arith}
use Rattle.std.specs.Prelude.{nat_lt}
use Rattle.std.proofs.lemmas.Bool.{le-ltb, cases_lt, and_from, lt-ltb}
use Rattle.tm_table.specs.declared.state.Access.{Access}
use Rattle.tm_table.specs.declared.state.Access.TheVariants.{Quiet, Read, Write}
use Rattle.tm_table.specs.Adds.{add_word}
use Rattle.tm_plan_cases.specs.declared.program.Program.{Program}
use Rattle.tm_plan_map.specs.Map.{flag_at, verdict_at, private_at}
use Rattle.tm_world.specs.Place.{harts}
use Rattle.tm_world.specs.Kinds.{writes_flag}
use Rattle.tm_world.specs.Course.{writes_in}
use Rattle.tm_runs.specs.Machine.{Entry}
use Rattle.tm_barrier.specs.Laws.{MeetUses, Looks}
use Rattle.tm_cells_plan.specs.declared.plan.CellPlan.{CellPlan}
use Rattle.tm_cells_plan.specs.Sums.{cell_of}
use Rattle.tm_cells_plan.proofs.Draws.{cell-lt}
use Rattle.tm_cells_world.specs.Kinds.{cell_at}
use Rattle.tm_cells_code.specs.Words.{the_add}
use Rattle.tm_cells_code.specs.Told.{Stage, Does, Quietly, Counts, Adds, Signals, Looking, Leaves, Loads, Judges}
use Rattle.tm_cells_code.specs.Told.{verdict_in}
use Rattle.tm_cells_code.proofs.Addresses.{cell-place, flag-place, verdict-place, private-place, own-flag}

-- It writes nothing; or its flag, the number 1; or its count; or a cell, by the add; or, as hart 0, the verdict.
pub data Wrote (plan : CellPlan) (h : ℕ) (past : List Entry) (e : Entry) : Type 0 where
  Nothing : e.access ≡ Quiet → Wrote plan h past e
  Reading : (a n v : ℕ) → e.access ≡ Read a n v → Wrote plan h past e
  Flag : e.access ≡ Write (flag_at h) 8 1 → Wrote plan h past e
  Count : (v : ℕ) → e.access ≡ Write (private_at h + 256) 8 v → Wrote plan h past e
  Cell : (q v : ℕ) → q < 8 → e.access ≡ Write (cell_at q) 8 v → e.word ≡ add_word the_add → Wrote plan h past e
  Verdict : (v : ℕ) → h ≡ 0 → e.access ≡ Write (verdict_at 0 0) 8 v → v ≡ verdict_in plan past → Wrote plan h past e

module _ (plan : CellPlan) (p : Program) (h : ℕ) where
  counts-wrote : (past : List Entry) (e : Entry) → (x : Access) → e.access ≡ x
      → MeetUses h (harts p) (private_at h + 256) x → writes_flag h x ≡ false → Wrote plan h past e
  counts-wrote past e Quiet is m f = Nothing is
  counts-wrote past e (Read a n v) is m f = Reading a n v is
  counts-wrote past e (Write a n v) is m f = elim m.1 [
    | inl q ↦ Count v (is ∙ ap₂ (λ (x y : ℕ). Write x y v) q m.0)
    | inr q ↦ absurd (true≢false (sym (own-flag h v) ∙ (ap₂ (λ (x y : ℕ). writes_flag h (Write x y v)) (sym q)
        (sym m.0) ∙ f)))
  ]

  looks-wrote : (past : List Entry) (e : Entry) → (x : Access) → e.access ≡ x → Looks h (harts p) x
      → Wrote plan h past e
  looks-wrote past e Quiet is m = Nothing is
  looks-wrote past e (Read a n v) is m = Reading a n v is
  looks-wrote past e (Write a n v) is m = absurd m.1

  pub does-wrote : {past : List Entry} {e : Entry} {st st' : Stage} → Does plan p h past e st st'
      → Wrote plan h past e
  does-wrote (Quietly a b) = Nothing a
  does-wrote {past = past} {e = e} (Counts a b c d f) = counts-wrote past e e.access refl c d
  does-wrote {st = st} (Adds a b c d v f g i j) = Cell (cell_of plan.seed h st.adds) v (cell-lt plan.seed h st.adds) f d
  does-wrote (Signals a b c d f) = Flag d
  does-wrote {past = past} {e = e} (Looking a b c d) = looks-wrote past e e.access refl c
  does-wrote (Leaves a b c d f) = Nothing c
  does-wrote (Loads a b c d v f g) = Reading _ 8 v f
  does-wrote (Judges a b c d f g i) = Verdict _ a g refl

-- ---- apart

-- writes of two dwords that don't overlap
pub writes-apart : (a b v : ℕ) → (a + 8 ≤ b) ⊎ (b + 8 ≤ a) → writes_in a 8 (Write b 8 v) ≡ false
writes-apart a b v (inl l) = ap (λ (x : Bool). x && nat_lt a (b + 8)) (le-ltb b (a + 8) l)
writes-apart a b v (inr l) = by (nat_lt b (a + 8)) (le-ltb a (b + 8) l)
  where
    by : (x : Bool) → nat_lt a (b + 8) ≡ false → (x && nat_lt a (b + 8)) ≡ false
    by true e = e
    by false e = refl

pub writes-there : (a v : ℕ) → writes_in a 8 (Write a 8 v) ≡ true
writes-there a v = and_from _ _ (lt-ltb a (a + 8) (omega arith)) (lt-ltb a (a + 8) (omega arith))

flag-apart : (g a v : ℕ) → (a + 8 ≤ flag_at g) ⊎ (flag_at g + 8 ≤ a) → writes_flag g (Write a 8 v) ≡ false
flag-apart g a v l = writes-apart (flag_at g) a v (swap l)
  where
    swap : (a + 8 ≤ flag_at g) ⊎ (flag_at g + 8 ≤ a) → (flag_at g + 8 ≤ a) ⊎ (a + 8 ≤ flag_at g)
    swap (inl l) = inr l
    swap (inr l) = inl l

-- no step writes another hart's flag
pub wrote-flags : (plan : CellPlan) (h g : ℕ) (past : List Entry) (e : Entry) → h < 16 → g < 16 → g ≢ h
    → Wrote plan h past e → writes_flag g e.access ≡ false
wrote-flags plan h g past e l m n (Nothing is) = ap (writes_flag g) is
wrote-flags plan h g past e l m n (Reading a k v is) = ap (writes_flag g) is
wrote-flags plan h g past e l m n (Flag is) = ap (writes_flag g) is ∙ flag-apart g (flag_at h) 1 apart
  where
    apart : (flag_at h + 8 ≤ flag_at g) ⊎ (flag_at g + 8 ≤ flag_at h)
    apart = let a = flag-place h in let b = flag-place g in elim (cases_lt h g) [
      | inl k ↦ inl (omega arith)
      | inr k ↦ inr (omega arith)
    ]
wrote-flags plan h g past e l m n (Count v is) = ap (writes_flag g) is ∙ flag-apart g (private_at h + 256) v
    (inr (let a = private-place h in let b = flag-place g in omega arith))
wrote-flags plan h g past e l m n (Cell q v k is w) = ap (writes_flag g) is ∙ flag-apart g (cell_at q) v
    (inr (let a = cell-place q in let b = flag-place g in omega arith))
wrote-flags plan h g past e l m n (Verdict v z is w) = ap (writes_flag g) is ∙ flag-apart g (verdict_at 0 0) v
    (inr (let a = verdict-place in let b = flag-place g in omega arith))

-- who writes the verdict cell
pub data Judged (plan : CellPlan) (h : ℕ) (past : List Entry) (e : Entry) : Type 0 where
  Says : writes_in (verdict_at 0 0) 8 e.access ≡ true → h ≡ 0 → e.access ≡ Write (verdict_at 0 0) 8 (verdict_in plan past)
      → Judged plan h past e
  Silent : writes_in (verdict_at 0 0) 8 e.access ≡ false → Judged plan h past e

pub wrote-judged : (plan : CellPlan) (h : ℕ) (past : List Entry) (e : Entry) → h < 16 → Wrote plan h past e
    → Judged plan h past e
wrote-judged plan h past e l (Nothing is) = Silent (ap (writes_in (verdict_at 0 0) 8) is)
wrote-judged plan h past e l (Reading a k v is) = Silent (ap (writes_in (verdict_at 0 0) 8) is)
wrote-judged plan h past e l (Flag is) = Silent (ap (writes_in (verdict_at 0 0) 8) is
    ∙ writes-apart (verdict_at 0 0) (flag_at h) 1 (inr (let a = verdict-place in let b = flag-place h in omega arith)))
wrote-judged plan h past e l (Count v is) = Silent (ap (writes_in (verdict_at 0 0) 8) is
    ∙ writes-apart (verdict_at 0 0) (private_at h + 256) v
    (inl (let a = verdict-place in let b = private-place h in omega arith)))
wrote-judged plan h past e l (Cell q v k is w) = Silent (ap (writes_in (verdict_at 0 0) 8) is
    ∙ writes-apart (verdict_at 0 0) (cell_at q) v (inl (let a = verdict-place in let b = cell-place q in omega arith)))
wrote-judged plan h past e l (Verdict v z is w) =
    Says (ap (writes_in (verdict_at 0 0) 8) is ∙ writes-there (verdict_at 0 0) v) z
    (is ∙ ap (λ (x : ℕ). Write (verdict_at 0 0) 8 x) w)
