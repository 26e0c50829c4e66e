-- What each step of a hart loads of cells.
use Rattle.std.proofs.Common.{◌≡◌, ◌≢◌, ℕ, suc, ◌+◌, ◌<◌, ◌≤◌, List, ◌⊎◌, inl, inr, Bool, true, false}
use Rattle.std.proofs.Common.{◌&&◌, Option, None, Some, refl, sym, ap, ◌∙◌, arith}
use Rattle.std.proofs.Common.{eq-eqb, ne_eqb}
use Rattle.std.specs.Prelude.{if◌then◌else◌, nat_lt}
use Rattle.std.proofs.lemmas.Bool.{le-ltb, lt-ltb, and_from, cases_eq, cases_lt}
use Rattle.tm_table.specs.declared.state.Access.{Access}
use Rattle.tm_table.specs.declared.state.Access.TheVariants.{Quiet, Read, Write}
use Rattle.tm_plan_cases.specs.declared.program.Program.{Program}
use Rattle.tm_plan_map.specs.Map.{private_at}
use Rattle.tm_world.specs.Lists.{count, or_else}
use Rattle.tm_world.specs.Place.{harts}
use Rattle.tm_world.specs.Course.{reads_in}
use Rattle.tm_runs.specs.Machine.{Entry}
use Rattle.tm_barrier.specs.Laws.{MeetUses, Looks, IsOtherFlag}
use Rattle.tm_cells_plan.specs.declared.plan.CellPlan.{CellPlan}
use Rattle.tm_cells_world.specs.Kinds.{cell_at}
use Rattle.tm_cells_code.specs.Told.{Stage, Does, Quietly, Counts, Adds, Signals, Looking, Leaves, Loads, Judges}
use Rattle.tm_cells_code.specs.Told.{Told, Start, More, load_of, loaded_in}
use Rattle.tm_cells_code.proofs.Addresses.{cell-place, flag-place, private-place}

-- reads of two dwords that don't overlap
pub reads-apart : (a b v : ℕ) → (a + 8 ≤ b) ⊎ (b + 8 ≤ a) → reads_in a 8 (Read b 8 v) ≡ false
reads-apart a b v (inl l) = ap (λ (x : Bool). x && nat_lt a (b + 8)) (le-ltb b (a + 8) l)
reads-apart a b v (inr l) = by (nat_lt b (a + 8)) (le-ltb a (b + 8) l)
  where
    by : (x : Bool) → nat_lt a (b + 8) ≡ false → (x && nat_lt a (b + 8)) ≡ false
    by true e = e
    by false e = refl

pub reads-there : (a v : ℕ) → reads_in a 8 (Read a 8 v) ≡ true
reads-there a v = and_from _ _ (lt-ltb a (a + 8) (omega arith)) (lt-ltb a (a + 8) (omega arith))

pub cell-reads : (q r v : ℕ) → q ≢ r → reads_in (cell_at q) 8 (Read (cell_at r) 8 v) ≡ false
cell-reads q r v n = reads-apart (cell_at q) (cell_at r) v (elim (cases_lt q r) [
  | inl l ↦ inl (let a = cell-place q in let b = cell-place r in omega arith)
  | inr l ↦ inr (let a = cell-place q in let b = cell-place r in omega arith)
])

-- It reads no cell, or loads the next one.
pub data Reads (p : Program) (h : ℕ) (e : Entry) (st st' : Stage) : Type 0 where
  Elsewhere : ((q : ℕ) → reads_in (cell_at q) 8 e.access ≡ false) → ((q : ℕ) → load_of (cell_at q) e.access ≡ None)
      → st'.loads ≡ st.loads → Reads p h e st st'
  Next : (v : ℕ) → h ≡ 0 → st.signals ≡ 1 → st.exits ≡ 1 → st.loads < 8 → e.access ≡ Read (cell_at st.loads) 8 v
      → st'.loads ≡ suc st.loads → Reads p h e st st'

low-load : (a q v : ℕ) → a + 8 ≤ cell_at q → load_of (cell_at q) (Read a 8 v) ≡ None
low-load a q v l = ap (λ (b : Bool). if b && true then Some v else None) (ne_eqb a (cell_at q) (λ z. omega (arith, z, l)))

module _ (plan : CellPlan) (p : Program) (h : ℕ) (few : harts p ≤ 16) (low : h < 16) where
  low-reads : (a v : ℕ) → a + 8 ≤ cell_at 0 → (e : Entry) → (st st' : Stage) → e.access ≡ Read a 8 v → st'.loads ≡ st.loads
      → Reads p h e st st'
  low-reads a v l e st st' is same =
      Elsewhere (λ q. ap (reads_in (cell_at q) 8) is ∙ reads-apart (cell_at q) a v
      (inr (let x = cell-place q in let y = cell-place 0 in omega arith)))
      (λ q. ap (load_of (cell_at q)) is ∙ low-load a q v (let x = cell-place q in let y = cell-place 0 in omega arith))
      same

  none-reads : (e : Entry) (st st' : Stage) → e.access ≡ Quiet → st'.loads ≡ st.loads → Reads p h e st st'
  none-reads e st st' is same = Elsewhere (λ q. ap (reads_in (cell_at q) 8) is) (λ q. ap (load_of (cell_at q)) is) same

  write-reads : (a n v : ℕ) (e : Entry) (st st' : Stage) → e.access ≡ Write a n v → st'.loads ≡ st.loads
      → Reads p h e st st'
  write-reads a n v e st st' is same = Elsewhere (λ q. ap (reads_in (cell_at q) 8) is) (λ q. ap (load_of (cell_at q)) is)
      same

  meets-reads : (e : Entry) (st st' : Stage) (x : Access) → e.access ≡ x → MeetUses h (harts p) (private_at h + 256) x
      → st'.loads ≡ st.loads → Reads p h e st st'
  meets-reads e st st' Quiet is m same = none-reads e st st' is same
  meets-reads e st st' (Write a n v) is m same = write-reads a n v e st st' is same
  meets-reads e st st' (Read a n v) is m same =
      low-reads a v (below m.1) e st st' (is ∙ ap (λ (x : ℕ). Read a x v) m.0) same
    where
      below : (a ≡ private_at h + 256) ⊎ IsOtherFlag h (harts p) a → a + 8 ≤ cell_at 0
      below (inl z) = let x = private-place h in let y = cell-place 0 in omega (arith, z)
      below (inr f) = let x = flag-place f.hart in let y = cell-place 0 in omega (arith, f.is, f.below)

  looks-meets : (x : Access) → Looks h (harts p) x → MeetUses h (harts p) (private_at h + 256) x
  looks-meets Quiet m = tt
  looks-meets (Write a n v) m = absurd m.1
  looks-meets (Read a n v) m = (m.0, inr m.1)

  pub does-reads : {past : List Entry} {e : Entry} {st st' : Stage} → Does plan p h past e st st' → Reads p h e st st'
  does-reads {e = e} {st = st} {st' = st'} (Quietly a b) = none-reads e st st' a refl
  does-reads {e = e} {st = st} {st' = st'} (Counts a b c d f) = meets-reads e st st' e.access refl c refl
  does-reads {e = e} {st = st} {st' = st'} (Adds a b c d v f g i j) = write-reads _ 8 v e st st' f refl
  does-reads {e = e} {st = st} {st' = st'} (Signals a b c d f) = write-reads _ 8 1 e st st' d refl
  does-reads {e = e} {st = st} {st' = st'} (Looking a b c d) =
      meets-reads e st st' e.access refl (looks-meets e.access c) refl
  does-reads {e = e} {st = st} {st' = st'} (Leaves a b c d f) = none-reads e st st' c refl
  does-reads {e = e} {st = st} {st' = st'} (Loads a b c d v f g) = Next v a b c d f refl
  does-reads {e = e} {st = st} {st' = st'} (Judges a b c d f g i) = write-reads _ 8 _ e st st' g refl

  -- each cell below the number of loads was read once, and no other
  pub told-reads : {log : List Entry} {st : Stage} → Told plan p h log st → (q : ℕ)
      → count (λ (e : Entry). reads_in (cell_at q) 8 e.access) log ≡ (if nat_lt q st.loads then 1 else 0)
  told-reads Start q = sym (ap (λ (t : Bool). if t then 1 else 0) (le-ltb q 0 (omega arith)))
  told-reads (More {past = past} {e = e} {st = st} {st' = st'} t k d) q = by (does-reads d) (told-reads t q)
    where
      by : Reads p h e st st'
          → count (λ (e : Entry). reads_in (cell_at q) 8 e.access) past ≡ (if nat_lt q st.loads then 1 else 0)
          → (if reads_in (cell_at q) 8 e.access then suc (count (λ (e : Entry). reads_in (cell_at q) 8 e.access) past)
          else count (λ (e : Entry). reads_in (cell_at q) 8 e.access) past) ≡ (if nat_lt q st'.loads then 1 else 0)
      by (Elsewhere a b c) i =
          ap (λ (t : Bool). if t then suc (count (λ (e : Entry). reads_in (cell_at q) 8 e.access) past)
          else count (λ (e : Entry). reads_in (cell_at q) 8 e.access) past) (a q)
          ∙ (i ∙ ap (λ (n : ℕ). if nat_lt q n then 1 else 0) (sym c))
      by (Next v a b c f g j) i = elim (cases_eq q st.loads) [
        | inl z ↦
            ap (λ (t : Bool). if t then suc (count (λ (e : Entry). reads_in (cell_at q) 8 e.access) past)
            else count (λ (e : Entry). reads_in (cell_at q) 8 e.access) past)
            (ap (reads_in (cell_at q) 8) (g ∙ ap (λ (n : ℕ). Read (cell_at n) 8 v) (sym z)) ∙ reads-there (cell_at q) v)
            ∙ (ap suc (i ∙ ap (λ (t : Bool). if t then 1 else 0) (le-ltb q st.loads (omega (arith, z))))
            ∙ ap (λ (t : Bool). if t then 1 else 0) (sym (lt-ltb q st'.loads (omega (arith, z, j)))))
        | inr z ↦
            ap (λ (t : Bool). if t then suc (count (λ (e : Entry). reads_in (cell_at q) 8 e.access) past)
            else count (λ (e : Entry). reads_in (cell_at q) 8 e.access) past)
            (ap (reads_in (cell_at q) 8) g ∙ cell-reads q st.loads v z)
            ∙ (i ∙ ap (λ (t : Bool). if t then 1 else 0) (same z))
      ]
        where
          same : q ≢ st.loads → nat_lt q st.loads ≡ nat_lt q st'.loads
          same z = elim (cases_lt q st.loads) [
            | inl l ↦ lt-ltb q st.loads l ∙ sym (lt-ltb q st'.loads (omega (arith, l, j)))
            | inr l ↦ le-ltb q st.loads l ∙ sym (le-ltb q st'.loads (omega (arith, l, j, z)))
          ]

  -- and what was loaded is known
  pub told-loaded : {log : List Entry} {st : Stage} → Told plan p h log st → (q : ℕ) → q < st.loads
      → (v : ℕ) × (loaded_in (cell_at q) log ≡ Some v)
  told-loaded Start q l = absurd (omega (arith, l))
  told-loaded (More {past = past} {e = e} {st = st} {st' = st'} t k d) q l = by (does-reads d) (told-loaded t q)
    where
      by : Reads p h e st st' → (q < st.loads → (v : ℕ) × (loaded_in (cell_at q) past ≡ Some v))
          → (v : ℕ) × (or_else (load_of (cell_at q) e.access) (loaded_in (cell_at q) past) ≡ Some v)
      by (Elsewhere a b c) f = let r = f (omega (arith, l, c)) in
          (r.0, ap (λ (o : Option ℕ). or_else o (loaded_in (cell_at q) past)) (b q) ∙ r.1)
      by (Next v a b c g i j) f = elim (cases_eq q st.loads) [
        | inl z ↦ (
          v,
          ap (λ (o : Option ℕ). or_else o (loaded_in (cell_at q) past))
              (ap (load_of (cell_at q)) (i ∙ ap (λ (n : ℕ). Read (cell_at n) 8 v) (sym z))
              ∙ ap (λ (b : Bool). if b && true then Some v else None) (eq-eqb (cell_at q) (cell_at q) refl)),
        )
        | inr z ↦
            let r = f (omega (arith, l, j, z)) in (
              r.0,
              ap (λ (o : Option ℕ). or_else o (loaded_in (cell_at q) past))
                  (ap (load_of (cell_at q)) i ∙ ap (λ (b : Bool). if b && true then Some v else None)
                  (ne_eqb (cell_at st.loads) (cell_at q)
                  (λ y. z (let a = cell-place q in let b = cell-place st.loads in omega (arith, y))))) ∙ r.1,
            )
      ]
