-- On plain cell runs each cell holds the sum of the adds that were made to it.
use Rattle.std.proofs.Common.{◌≡◌, ◌≢◌, ℕ, ◌+◌, ◌-◌, ◌%◌, ◌^◌, ◌<◌, ◌≤◌, List, [], ◌∷◌, ◌++◌}
use Rattle.std.proofs.Common.{Bool, true, false, Option, None, Some, ◌⊎◌, inl, inr, refl, sym, ap, ◌∙◌, subst}
use Rattle.std.proofs.Common.{arith, append-nil, eq-eqb, ne_eqb}
use Rattle.std.specs.Prelude.{IfSome, if◌then◌else◌, unwrap_or, slice_index}
use Rattle.std.proofs.Math.Nat.{zero-div}
use Rattle.std.proofs.lemmas.Bool.{cases_eq, cases_lt}
use Rattle.tm_table.specs.declared.state.Access.{Access}
use Rattle.tm_table.specs.declared.state.Access.TheVariants.{Quiet, Read, Write}
use Rattle.tm_table.specs.State.{Hart}
use Rattle.tm_table.specs.declared.add.Add.{Add}
use Rattle.tm_table.specs.Adds.{add_of, sum_after}
use Rattle.tm_table.proofs.AddWords.{add-back}
use Rattle.tm_plan_cases.specs.declared.program.Program.{Program}
use Rattle.tm_plan_map.specs.Map.{flag_at, verdict_at, private_at, within}
use Rattle.tm_world.specs.Lists.{or_else}
use Rattle.tm_world.specs.Place.{image_byte, byte_of}
use Rattle.tm_world.specs.Run.{Step, Always, own, hart_of, access_of, now, first_state, Reads, written, last_write}
use Rattle.tm_world.specs.Kinds.{plain_owed}
use Rattle.tm_world.proofs.Prefix.{earlier}
use Rattle.tm_runs.specs.Machine.{Entry}
use Rattle.tm_runs.specs.Shadow.{entry_of, entries_of}
use Rattle.tm_runs.proofs.Bytes.{same_dword}
use Rattle.tm_world.proofs.Accesses.{written-inside, written-outside}
use Rattle.tm_plan_map.proofs.Within.{within-parts}
use Rattle.tm_cells_plan.specs.declared.plan.CellPlan.{CellPlan}
use Rattle.tm_cells_plan.specs.Sums.{IsPlan, addend, cell_of}
use Rattle.tm_cells_world.specs.Rows.{Addition, additions, additions_as, total, reading, reading_as, old_of}
use Rattle.tm_cells_world.specs.Rows.{row_as, read_as, add_row}
use Rattle.tm_cells_world.specs.Kinds.{CellPlain, CellHalfStep, cell_at, all_made, before_of, sum_before}
use Rattle.tm_cells_world.specs.Kinds.{cell_owed}
use Rattle.tm_cells_world.proofs.Prefix.{plain-earlier}
use Rattle.tm_cells_code.specs.View.{cells}
use Rattle.tm_cells_code.specs.Words.{the_add}
use Rattle.tm_cells_code.specs.Told.{Stage, Does, Quietly, Counts, Adds, Signals, Looking, Leaves, Loads, Judges}
use Rattle.tm_cells_code.specs.Harts.{add_by}
use Rattle.tm_cells_code.proofs.Addresses.{cell-place, flag-place, verdict-place, private-place}
use Rattle.tm_cells_code.proofs.Own.{add-step}
use Rattle.tm_cells_code.proofs.Placing.{sizes}
use Rattle.tm_cells_code.proofs.Wrote.{Wrote, Nothing, Reading, Flag, Count, Cell, Verdict, does-wrote}
use Rattle.tm_cells_meet.proofs.Sums.{total-append}
use Rattle.tm_cells_meet.proofs.States.{newest}
use Rattle.tm_cells_meet.proofs.Half.{high-zero, plain-half}

-- ---- bytes of cells

zero-byte : (i : ℕ) → 0 ≡ byte_of 0 i
zero-byte i = sym (ap (λ (n : ℕ). n % 256) (zero-div (256 ^ i)))

-- a write of another dword
apart : (q i a v : ℕ) → (a + 8 ≤ cell_at q) ⊎ (cell_at q + 8 ≤ a) → i < 8 → written (Write a 8 v) (cell_at q + i) ≡ None
apart q i a v (inl l) m = written-outside a 8 v (cell_at q + i) (inr (omega arith))
apart q i a v (inr l) m = written-outside a 8 v (cell_at q + i) (inl (omega arith))

other-cell : (q r i v : ℕ) → q ≢ r → i < 8 → written (Write (cell_at r) 8 v) (cell_at q + i) ≡ None
other-cell q r i v n m = apart q i (cell_at r) v (elim (cases_lt q r) [
  | inl l ↦ inr (let a = cell-place q in let b = cell-place r in omega arith)
  | inr l ↦ inl (let a = cell-place q in let b = cell-place r in omega arith)
]) m

this-cell : (q i v : ℕ) → i < 8 → written (Write (cell_at q) 8 v) (cell_at q + i) ≡ Some (byte_of v i)
this-cell q i v m = written-inside (cell_at q) 8 v (cell_at q + i) (omega arith) (omega arith)
    ∙ ap (λ (n : ℕ). Some (byte_of v n)) (let e : cell_at q + i - cell_at q ≡ i = omega arith in e)

-- ---- what a step adds

-- It makes one of the hart's adds, or none, and then writes no cell.
pub data Added (plan : CellPlan) (h : ℕ) (before : Hart) (s : Step) : Type 0 where
  One : (k : ℕ) → add_of s.event.word ≡ Some the_add → additions before s ≡ add_by plan h k ∷ []
      → (v : ℕ) → access_of s ≡ Write (cell_at (cell_of plan.seed h k)) 8 v → Added plan h before s
  None-made : additions before s ≡ [] → ((q i : ℕ) → q < 8 → i < 8 → written (access_of s) (cell_at q + i) ≡ None)
      → Added plan h before s

none-added : (before : Hart) (s : Step) → add_of s.event.word ≡ None → additions before s ≡ []
none-added before s e = ap (λ (o : Option Add). additions_as o before) e

module _ (plan : CellPlan) (h : ℕ) (low : h < 16) where
  -- writes that miss the cells
  misses : (past : List Entry) (s : Step) → Wrote plan h past (entry_of s) → (add_of s.event.word ≡ None)
      → (q i : ℕ) → q < 8 → i < 8 → written (access_of s) (cell_at q + i) ≡ None
  misses past s (Nothing is) e q i l m = ap (λ (a : Access). written a (cell_at q + i)) is
  misses past s (Reading a n v is) e q i l m = ap (λ (a : Access). written a (cell_at q + i)) is
  misses past s (Flag is) e q i l m = ap (λ (a : Access). written a (cell_at q + i)) is
      ∙ apart q i (flag_at h) 1 (inl (let a = cell-place q in let b = flag-place h in omega arith)) m
  misses past s (Count v is) e q i l m = ap (λ (a : Access). written a (cell_at q + i)) is
      ∙ apart q i (private_at h + 256) v (inl (let a = cell-place q in let b = private-place h in omega arith)) m
  misses past s (Verdict v z is w) e q i l m = ap (λ (a : Access). written a (cell_at q + i)) is
      ∙ apart q i (verdict_at 0 0) v (inl (let a = cell-place q in let b = verdict-place in omega arith)) m
  misses past s (Cell r v k is w) e q i l m =
      let is-add : add_of s.event.word ≡ Some the_add = ap add_of w ∙ add-back the_add
      (record { rd = omega arith; rs1 = omega arith; rs2 = omega arith }) in
      let no : None ≡ Some the_add = sym e ∙ is-add in
      cc

  plain-added : (first : Hart) (past : List Step) (s : Step) → Wrote plan h (entries_of past) (entry_of s)
      → add_of s.event.word ≡ None → Added plan h (now first past) s
  plain-added first past s wrote e = None-made (none-added (now first past) s e) (misses (entries_of past) s wrote e)

  pub does-added : (p : Program) (first : Hart) (past : List Step) (s : Step) {st st' : Stage}
      → CellHalfStep p h (now first past) past s → Wrote plan h (entries_of past) (entry_of s)
      → Does plan p h (entries_of past) (entry_of s) st st' → Added plan h (now first past) s
  does-added p first past s f w (Quietly a b) = plain-added first past s w b.add
  does-added p first past s f w (Counts a b c g e) = plain-added first past s w e.add
  does-added p first past s {st = st} f w (Adds a b c x v e g i j) =
      One st.adds (ap add_of x ∙ add-back the_add (record { rd = omega arith; rs1 = omega arith; rs2 = omega arith }))
      (add-step plan p h first past s st.adds f x g i) v e
  does-added p first past s f w (Signals a b c g e) = plain-added first past s w e.add
  does-added p first past s f w (Looking a b c g) = plain-added first past s w g.add
  does-added p first past s f w (Leaves a b c g e) = plain-added first past s w g
  does-added p first past s f w (Loads a b c g v e i) = plain-added first past s w i.add
  does-added p first past s f w (Judges a b c g e i j) = plain-added first past s w j.add

-- ---- plain runs

module _ (plan : CellPlan) (is : IsPlan plan) (o : ℕ → List ℕ) where
  abbrev p : Program
  p = cells plan

  -- what stands at a byte of a cell
  abbrev held : List Step → ℕ → ℕ
  held past b = unwrap_or (last_write b past) (image_byte (cells plan) b)

  -- what an add leaves in its cell
  left-there : (past : List Step) (s : Step) (k v q : ℕ) → CellPlain (cells plan) (earlier o (s ∷ past))
      → CellHalfStep (cells plan) (hart_of s) (before_of o past s) (own (hart_of s) past) s
      → add_of s.event.word ≡ Some the_add → additions (before_of o past s) s ≡ add_by plan (hart_of s) k ∷ []
      → access_of s ≡ Write (cell_at q) 8 v → q ≡ cell_of plan.seed (hart_of s) k
      → ((i : ℕ) → i < 8 → held past (cell_at q + i) ≡ byte_of (sum_before o past q) i)
      → v ≡ sum_before o (s ∷ past) q
  left-there past s k v q plain half is-add added access same before =
      let b = before_of o past s in
      let old = old_of b the_add s in
      let row : Some (add_row b the_add old) ≡ Some (s.after, access_of s) =
      subst (λ (a : Option Add). row_as a b s.event.word (read_as a b s) ≡ Some (s.after, access_of s)) is-add
      half.follows.row in
      let rows : add_row b the_add old ≡ (s.after, access_of s) = cc in
      let write : Write (slice_index b.x 28) 8 (sum_after b the_add old) ≡ Write (cell_at q) 8 v =
      ap (λ (x : Hart × Access). x.1) rows ∙ access in
      let place : slice_index b.x 28 ≡ cell_at q = addr-of write in
      let value : sum_after b the_add old ≡ v = value-of write in
      let listed : record { to = slice_index b.x 28; amount = slice_index b.x 6 } ∷ []
      ≡ add_by plan (hart_of s) k ∷ [] =
      sym (ap (λ (a : Option Add). additions_as a b) is-add) ∙ added in
      let read : Reads (plain_owed (cells plan) past) (Read (slice_index b.x 28) 8 old) =
      subst (λ (a : Option Add). Reads (plain_owed (cells plan) past) (reading_as a b s)) is-add plain.reads.0 in
      let here : (i : ℕ) → i < 8 → byte_of old i ≡ byte_of (sum_before o past q) i =
      λ i m. read i m ∙ (ap (λ (a : ℕ). held past (a + i)) place ∙ before i m) in
      let was : old ≡ sum_before o past q = same_dword old (sum_before o past q) (omega arith) (omega arith) here in
      let totals : total (cell_at q) (all_made o (s ∷ past)) ≡ total (cell_at q) (all_made o past) + slice_index b.x 6 =
      total-append (cell_at q) (all_made o past) (additions b s)
      ∙ ap (λ (n : ℕ). total (cell_at q) (all_made o past) + n)
      (ap (λ (a : Option Add). total (cell_at q) (additions_as a b)) is-add
      ∙ (ap (λ (t : Bool). (if t then slice_index b.x 6 else 0) + 0) (eq-eqb (slice_index b.x 28) (cell_at q) place)
      ∙ (let e : slice_index b.x 6 + 0 ≡ slice_index b.x 6 = omega arith in e))) in
      omega (arith, sym value, was, totals)
    where
      addr-of : {a c x y : ℕ} → Write a 8 x ≡ Write c 8 y → a ≡ c
      addr-of q = cc

      value-of : {a c x y : ℕ} → Write a 8 x ≡ Write c 8 y → x ≡ y
      value-of q = cc

  -- each cell holds the sum of all adds so far
  pub holds : (steps : List Step) → CellPlain (cells plan) (earlier o steps) → (q i : ℕ) → q < 8 → i < 8
      → held steps (cell_at q + i) ≡ byte_of (sum_before o steps q) i
  holds [] plain q i l m =
      high-zero (cells plan) (cell_at q + i) (sizes plan is 0 is.harts.0) (let a = cell-place q in omega arith) ∙
      zero-byte i
  holds (s ∷ past) plain q i l m =
      let half = plain-half plan is o (s ∷ past) plain in
      let n = newest plan is o past s half in
      let harts = is.harts in
      let low : hart_of s < 16 = (let b = half.only.0 in omega arith) in
      let before = holds past (plain-earlier (cells plan) o (s ∷ []) past plain) in
      by n.half (before q i l m) (λ j z. before q j l z)
      (does-added plan (hart_of s) low (cells plan) (first_state (o (hart_of s))) (own (hart_of s) past) s n.half
      (does-wrote plan (cells plan) (hart_of s) n.does) n.does)
    where
      image : ℕ
      image = image_byte (cells plan) (cell_at q + i)

      by : CellHalfStep (cells plan) (hart_of s) (before_of o past s) (own (hart_of s) past) s
          → held past (cell_at q + i) ≡ byte_of (sum_before o past q) i
          → ((j : ℕ) → j < 8 → held past (cell_at q + j) ≡ byte_of (sum_before o past q) j)
          → Added plan (hart_of s) (before_of o past s) s
          → unwrap_or (or_else (written (access_of s) (cell_at q + i)) (last_write (cell_at q + i) past))
          (image_byte (cells plan) (cell_at q + i)) ≡ byte_of (sum_before o (s ∷ past) q) i
      by half e all (None-made none miss) =
          ap (λ (w : Option ℕ). unwrap_or (or_else w (last_write (cell_at q + i) past)) (image_byte (cells plan)
          (cell_at q + i))) (miss q i l m)
          ∙ (e ∙ ap (λ (xs : List Addition). byte_of (total (cell_at q) xs % 2 ^ 64) i)
          (sym (ap (λ (ys : List Addition). all_made o past ++ ys) none ∙ append-nil (all_made o past))))
      by half e all (One k is-add added v access) = elim (cases_eq q (cell_of plan.seed (hart_of s) k)) [
        | inl z ↦
            let here : access_of s ≡ Write (cell_at q) 8 v = access ∙ ap (λ (r : ℕ). Write (cell_at r) 8 v) (sym z) in
            let value = left-there past s k v q plain half is-add added here z all in
            ap (λ (a : Access). unwrap_or (or_else (written a (cell_at q + i)) (last_write (cell_at q + i) past))
            (image_byte (cells plan) (cell_at q + i))) here
            ∙ (ap (λ (w : Option ℕ). unwrap_or (or_else w (last_write (cell_at q + i) past)) (image_byte (cells plan)
            (cell_at q + i))) (this-cell q i v m) ∙ ap (λ (n : ℕ). byte_of n i) value)
        | inr z ↦
            let totals : total (cell_at q) (all_made o (s ∷ past)) ≡ total (cell_at q) (all_made o past) =
            total-append (cell_at q) (all_made o past) (additions (before_of o past s) s)
            ∙ (ap (λ (xs : List Addition). total (cell_at q) (all_made o past) + total (cell_at q) xs) added
            ∙ (ap (λ (t : Bool). total (cell_at q) (all_made o past)
            + ((if t then addend plan.seed (hart_of s) k else 0) + 0))
            (ne_eqb (cell_at (cell_of plan.seed (hart_of s) k)) (cell_at q)
            (λ y. z (let a = cell-place q in let b = cell-place (cell_of plan.seed (hart_of s) k) in omega (arith, y))))
            ∙ (let f : total (cell_at q) (all_made o past) + (0 + 0) ≡ total (cell_at q) (all_made o past) =
            omega arith in f))) in
            ap (λ (a : Access). unwrap_or (or_else (written a (cell_at q + i)) (last_write (cell_at q + i) past))
            (image_byte (cells plan) (cell_at q + i))) access
            ∙ (ap (λ (w : Option ℕ). unwrap_or (or_else w (last_write (cell_at q + i) past)) (image_byte (cells plan)
            (cell_at q + i))) (other-cell q (cell_of plan.seed (hart_of s) k) i v z m)
            ∙ (e ∙ ap (λ (n : ℕ). byte_of (n % 2 ^ 64) i) (sym totals)))
      ]

  -- so what is read of it is that sum
  cell-reads : (past : List Step) → CellPlain (cells plan) (earlier o past) → (q : ℕ) → q < 8 → (a : Access)
      → Reads (plain_owed (cells plan) past) a → Reads (cell_owed q (sum_before o past q)) a
  cell-reads past plain q l Quiet r = tt
  cell-reads past plain q l (Write addr width value) r = tt
  cell-reads past plain q l (Read addr width value) r = λ i m. by i (within (cell_at q) 8 (addr + i)) refl (r i m)
    where
      by : (i : ℕ) → (t : Bool) → within (cell_at q) 8 (addr + i) ≡ t → byte_of value i ≡ held past (addr + i)
          → IfSome (if t then Some (byte_of (sum_before o past q) (addr + i - cell_at q)) else None)
          (λ b. byte_of value i ≡ b)
      by i false f e = tt
      by i true f e =
          let w = within-parts (cell_at q) 8 (addr + i) f in
          let j = addr + i - cell_at q in
          let back : cell_at q + j ≡ addr + i = omega (arith, w) in
          e ∙ (ap (held past) (sym back) ∙ holds past plain q j l (omega (arith, w)))

  pub plain-sums : (steps : List Step) → CellPlain (cells plan) (earlier o steps)
      → Always (λ past s. (q : ℕ) → q < 8 → Reads (cell_owed q (sum_before o past q))
      (reading (before_of o past s) s)) steps
  plain-sums [] plain = tt
  plain-sums (s ∷ past) plain =
      let before = plain-earlier (cells plan) o (s ∷ []) past plain in
      ((λ q l. cell-reads past before q l (reading (before_of o past s) s) plain.reads.0), plain-sums past before)
