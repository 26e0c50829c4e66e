-- What each hart's own steps tell.
use Rattle.std.proofs.Common.{◌≡◌, ◌≢◌, ℕ, suc, ◌<◌, ◌≤◌, List, [], ◌∷◌, ◌++◌, length, map}
use Rattle.std.proofs.Common.{Option, None, Some, ◌⊎◌, inl, inr, refl, sym, ap}
use Rattle.std.proofs.Common.{ap₂, ◌∙◌, subst, arith, append-nil}
use Rattle.std.specs.Prelude.{slice_index}
use Rattle.std.proofs.lemmas.List.{map-append}
use Rattle.tm_table.specs.declared.state.Access.{Access}
use Rattle.tm_table.specs.State.{Hart}
use Rattle.tm_table.specs.declared.instr.Instr.{Instr}
use Rattle.tm_table.specs.declared.add.Add.{Add}
use Rattle.tm_table.specs.Adds.{add_of, add_word, hart_after}
use Rattle.tm_table.proofs.AddWords.{add-back}
use Rattle.tm_base.specs.Lists.{count_from}
use Rattle.tm_plan_cases.specs.declared.program.Program.{Program}
use Rattle.tm_plan_cases.proofs.Counted.{counted}
use Rattle.tm_world.specs.Place.{harts, halt_of, word_at}
use Rattle.tm_world.specs.Run.{Step, now, first_state, access_of}
use Rattle.tm_world.specs.Kinds.{IsOpening}
use Rattle.tm_world.specs.Course.{last_phase}
use Rattle.tm_world.specs.Writers.{case_of_phase}
use Rattle.tm_runs.specs.Machine.{Entry, State}
use Rattle.tm_runs.specs.Runs.{CanStep}
use Rattle.tm_runs.specs.World.{Sizes, world_of, start}
use Rattle.tm_runs.specs.Shadow.{entry_of, entries_of}
use Rattle.tm_runs.proofs.Paths.{apart}
use Rattle.tm_runs.proofs.Worlds.{stopped}
use Rattle.tm_legal.proofs.Rows.{put-other}
use Rattle.tm_cells_plan.specs.declared.plan.CellPlan.{CellPlan}
use Rattle.tm_cells_world.specs.Rows.{CellHasNext, Addition, additions, additions_as, row_as, read_as, add_row, old_of}
use Rattle.tm_cells_world.specs.Kinds.{CellHalfPath, CellHalfStep, made}
use Rattle.tm_cells_world.specs.Machine.{adds_at, adds_in, Ran}
use Rattle.tm_cells_world.specs.Shadow.{NoStreams}
use Rattle.tm_cells_world.proofs.Adding.{row-alone}
use Rattle.tm_cells_world.proofs.Shadow.{CellReached, cell-reached}
use Rattle.tm_cells_world.proofs.Split.{AddsApart, CanAdd, Past, holds-ran, holds-can, ends-there}
use Rattle.tm_cells_code.specs.Words.{the_add}
use Rattle.tm_cells_code.specs.Told.{Stage, Does, Quietly, Counts, Adds, Signals, Looking, Leaves, Loads}
use Rattle.tm_cells_code.specs.Told.{Judges, Told, Start, More, Sofar, Good}
use Rattle.tm_cells_code.specs.Placed.{CellPlaced}
use Rattle.tm_cells_code.specs.Harts.{add_by}
use Rattle.tm_cells_code.proofs.Quiet.{text-word, no-bounds}
use Rattle.tm_cells_code.proofs.Next.{row-next, add-next, adds-word}
use Rattle.tm_cells_code.proofs.Way.{whole, Final, final, most_work}

-- no place has an add and another row
pub alone : (p : Program) (h : ℕ) → AddsApart (world_of p h) (adds_at p)
alone p h pc i a e f =
    let (n, at, is) = text-word p h pc i e in
    let (m, there, add) = adds-word p pc a f in
    let same : n ≡ m = same-word (sym at ∙ there) in
    let none : add_of m ≡ None = ap add_of (sym same) ∙ row-alone n i is in
    no none add
  where
    same-word : {x y : ℕ} → Some x ≡ Some y → x ≡ y
    same-word q = cc

    no : {o : Option Add} → o ≡ None → o ≡ Some a → ⊥
    no q r = cc

halt-plain : add_of 0x0000006F ≡ None
unfolding add_of
halt-plain = refl

halt-adds : (p : Program) (pc : ℕ) → word_at p pc ≡ Some 0x0000006F → adds_at p pc ≡ None
unfolding adds_at
halt-adds p pc e = ap adds_in e ∙ halt-plain

module _ (plan : CellPlan) (p : Program) (h : ℕ) (sizes : Sizes p) (none : NoStreams p h) (mine : h < harts p)
    (first-phase : case_of_phase p 0 ≡ None) (more : 0 ≢ last_phase p) (placed : CellPlaced plan p h) (x : List ℕ)
    (o : IsOpening h x) where
  low : h < 16
  low = omega (arith, mine, sizes.harts)

  abbrev first : Hart
  first = first_state x

  abbrev most : ℕ
  most = most_work plan

  abbrev Ends : State → Type 0
  Ends = Final plan p h sizes none mine first-phase more placed

  at-end : (k : ℕ) (s t : State) → Past (world_of p h) (adds_at p) Ends k s t → Ends t
  at-end k s t y =
      let stop = stopped p h y.mid (none (halt_of p h)) y.there.0 in
      let adds : adds_at p y.mid.pc ≡ None = ap (adds_at p) y.there.0 ∙ halt-adds p (halt_of p h) placed.halt_word in
      subst Ends (sym (ends-there (world_of p h) (adds_at p) (apart p h) (alone p h) (no-bounds p h none) y.second y.mid t
      stop.0 adds y.behind)) y.there

  module _ (own : List Step) (path : CellHalfPath p h first own) where
    abbrev r : CellReached p h x own
    r = cell-reached p h sizes low none x o own path

    -- the stage that its log tells
    pub told-own : Good plan p h most (entries_of own)
    told-own = subst (Good plan p h most) r.kept.log (by (holds-ran (world_of p h) (adds_at p) (apart p h) (alone p h)
        (no-bounds p h none) (whole plan p h sizes none mine first-phase more placed x o) (length own) r.state r.run))
      where
        by : ((length own ≡ 0) ⊎ Good plan p h most r.state.log)
            ⊎ Past (world_of p h) (adds_at p) Ends (length own) (start p x) r.state → Good plan p h most r.state.log
        by (inl (inl e)) =
            subst (λ (t : State). Good plan p h most t.log) (sym (subst (λ (n : ℕ). Ran (world_of p h) (adds_at p) n
            (start p x) r.state) e r.run)) (record { at = _; sofar = record { told = Start; few = omega arith } })
        by (inl (inr g)) = g
        by (inr y) = let q = at-end (length own) (start p x) r.state y in
            record { at = _; sofar = q.1 }

    abbrev Can : Type 0
    Can = (CanStep (world_of p h) r.state ⊎ CanAdd (world_of p h) (adds_at p) r.state)
        ⊎ Past (world_of p h) (adds_at p) Ends (length own) (start p x) r.state

    can : Can
    can = holds-can (world_of p h) (adds_at p) (apart p h) (alone p h) (no-bounds p h none)
        (whole plan p h sizes none mine first-phase more placed x o) (length own) r.state r.run

    -- before its halt mark it has a next step
    pub next-own : (now first own).pc ≢ halt_of p h → CellHasNext p (now first own)
    next-own off = by can
      where
        by : Can → CellHasNext p (now first own)
        by (inl (inl c)) = row-next p h (now first own) r.state r.kept.pc r.kept.regs c
        by (inl (inr c)) = add-next p h (now first own) r.state r.kept.pc r.kept.regs c
        by (inr y) = absurd (off (sym r.kept.pc ∙ (at-end (length own) (start p x) r.state y).0))

    -- at its halt mark it has come to the end
    pub ended-own : (now first own).pc ≡ halt_of p h → Sofar plan p h (final plan h) most (entries_of own)
    ended-own e = subst (Sofar plan p h (final plan h) most) r.kept.log (by can).1
      where
        here : r.state.pc ≡ halt_of p h
        here = r.kept.pc ∙ e

        no-row : {a : Option Instr} {i : Instr} → a ≡ None → a ≡ Some i → ⊥
        no-row q s = cc

        no-add : {a : Option Add} {i : Add} → a ≡ None → a ≡ Some i → ⊥
        no-add q s = cc

        by : Can → Ends r.state
        by (inl (inl c)) = absurd (no-row (stopped p h r.state (none (halt_of p h)) here).0 c.fetched)
        by (inl (inr c)) = absurd (no-add (ap (adds_at p) here ∙ halt-adds p (halt_of p h) placed.halt_word) c.fetched)
        by (inr y) = at-end (length own) (start p x) r.state y

-- ---- adds

-- one number more
map-more : {A : Type 0} (f : ℕ → A) (k : ℕ) → map f (count_from 0 (suc k)) ≡ map f (count_from 0 k) ++ f k ∷ []
map-more f k = ap (map f) (counted 0 k k (omega arith)) ∙ map-append f (count_from 0 k) (k ∷ [])

module _ (plan : CellPlan) (p : Program) (h : ℕ) (first : Hart) where
  -- a step whose word is the add's
  pub add-step : (past : List Step) (s : Step) (k : ℕ) → CellHalfStep p h (now first past) past s
      → s.event.word ≡ add_word the_add → slice_index s.after.x 28 ≡ (add_by plan h k).to
      → slice_index s.after.x 6 ≡ (add_by plan h k).amount
      → additions (now first past) s ≡ add_by plan h k ∷ []
  add-step past s k f word to amount =
      let before = now first past in
      let is : add_of s.event.word ≡ Some the_add =
      ap add_of word ∙ add-back the_add (record { rd = omega arith; rs1 = omega arith; rs2 = omega arith }) in
      let old = old_of before the_add s in
      let row : Some (add_row before the_add old) ≡ Some (s.after, access_of s) =
      subst (λ (a : Option Add). row_as a before s.event.word (read_as a before s) ≡ Some (s.after, access_of s)) is
      f.follows.row in
      let same : add_row before the_add old ≡ (s.after, access_of s) = cc in
      let hart : hart_after before the_add old ≡ s.after = ap (λ (q : Hart × Access). q.0) same in
      let kept : (r : ℕ) → r ≢ 5 → slice_index before.x r ≡ slice_index s.after.x r =
      λ r d. sym (put-other before.x 5 old r d) ∙ ap (λ (y : Hart). slice_index y.x r) hart in
      ap (λ (a : Option Add). additions_as a before) is
      ∙ ap₂ (λ (a b : ℕ). record { to = a; amount = b } ∷ []) (kept 28 (omega arith) ∙ to) (kept 6 (omega arith) ∙ amount)

  plain-step : (past : List Step) (s : Step) → add_of s.event.word ≡ None → made first past
      ≡ made first past ++ additions (now first past) s
  plain-step past s e =
      sym (ap (λ (a : Option Add). made first past ++ additions_as a (now first past)) e ∙ append-nil (made first past))

  does-made : (past : List Step) (s : Step) (st st' : Stage) → CellHalfStep p h (now first past) past s
      → Does plan p h (entries_of past) (entry_of s) st st'
      → made first past ≡ map (add_by plan h) (count_from 0 st.adds)
      → made first (s ∷ past) ≡ map (add_by plan h) (count_from 0 st'.adds)
  does-made past s st st' f (Quietly a b) q = sym (plain-step past s b.add) ∙ q
  does-made past s st st' f (Counts a b c d e) q = sym (plain-step past s e.add) ∙ q
  does-made past s st st' f (Adds a b c d v e g i j) q =
      ap₂ (λ (x y : List Addition). x ++ y) q (add-step past s st.adds f d g i)
      ∙ sym (map-more (add_by plan h) st.adds)
  does-made past s st st' f (Signals a b c d e) q = sym (plain-step past s e.add) ∙ q
  does-made past s st st' f (Looking a b c d) q = sym (plain-step past s d.add) ∙ q
  does-made past s st st' f (Leaves a b c d e) q = sym (plain-step past s d) ∙ q
  does-made past s st st' f (Loads a b c d v e g) q = sym (plain-step past s g.add) ∙ q
  does-made past s st st' f (Judges a b c d e g i) q = sym (plain-step past s i.add) ∙ q

  pub made-own : (own : List Step) (st : Stage) → CellHalfPath p h first own → Told plan p h (entries_of own) st
      → made first own ≡ map (add_by plan h) (count_from 0 st.adds)
  made-own [] st path Start = refl
  made-own (s ∷ past) st' path (More {st = st} t k d) = does-made past s st st' path.0 d (made-own past st path.1 t)

  does-few : {past : List Entry} {e : Entry} {st st' : Stage} → Does plan p h past e st st' → st.adds ≤ plan.adds
      → st'.adds ≤ plan.adds
  does-few (Quietly a b) q = q
  does-few (Counts a b c d e) q = q
  does-few (Adds a b c d v e g i j) q = omega (arith, c)
  does-few (Signals a b c d e) q = q
  does-few (Looking a b c d) q = q
  does-few (Leaves a b c d e) q = q
  does-few (Loads a b c d v e g) q = q
  does-few (Judges a b c d e g i) q = q

  pub told-few : {log : List Entry} {st : Stage} → Told plan p h log st → st.adds ≤ plan.adds
  told-few Start = omega arith
  told-few (More t k d) = does-few d (told-few t)
