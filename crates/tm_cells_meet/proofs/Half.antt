-- Each plain cell run is a half run: a hart's private area is its own, and nobody writes the text.
use Rattle.std.proofs.Common.{◌≡◌, ℕ, ◌+◌, ◌-◌, ◌*◌, ◌/◌, ◌%◌, ◌<◌, ◌≤◌, List, [], ◌∷◌, length, Bool, true, false, ◌||◌}
use Rattle.std.proofs.Common.{Option, None, Some, ◌⊎◌, inl, inr, refl, sym, ap, ap₂, ◌∙◌, subst, arith}
use Rattle.std.specs.Prelude.{IfSome, if◌then◌else◌, unwrap_or, slice_index}
use Rattle.std.proofs.lemmas.Bool.{cases_eq, cases_lt}
use Rattle.tm_table.specs.declared.state.Access.{Access}
use Rattle.tm_table.specs.declared.state.Access.TheVariants.{Quiet, Read, Write}
use Rattle.tm_plan_cases.specs.declared.program.Program.{Program}
use Rattle.tm_plan_map.specs.Map.{within, text_base, tables_base, flag_at, verdict_at, private_at, private_size}
use Rattle.tm_world.specs.Lists.{or_else}
use Rattle.tm_world.specs.Place.{image_byte, byte_of, is_private, is_text, is_table}
use Rattle.tm_world.specs.Run.{Step, Always, own, hart_of, access_of, now, first_state, Reads, written, last_write}
use Rattle.tm_world.specs.Kinds.{half_owed, plain_owed}
use Rattle.tm_world.proofs.Prefix.{earlier}
use Rattle.tm_runs.specs.Machine.{Entry}
use Rattle.tm_runs.specs.World.{Sizes}
use Rattle.tm_runs.specs.Shadow.{entry_of, entries_of}
use Rattle.tm_plan_map.proofs.Within.{within-false}
use Rattle.tm_plan_map.proofs.Within.{within-parts}
use Rattle.tm_legal.proofs.Own.{own-here, own-there}
use Rattle.tm_legal.proofs.Areas.{image-place}
use Rattle.tm_cells_plan.specs.declared.plan.CellPlan.{CellPlan}
use Rattle.tm_cells_plan.specs.Sums.{IsPlan}
use Rattle.tm_cells_world.specs.Rows.{reading}
use Rattle.tm_cells_world.specs.Kinds.{CellPlain, CellHalf, CellHalfPath, CellPath, cell_at, before_of}
use Rattle.tm_cells_world.proofs.Prefix.{half-earlier, plain-earlier}
use Rattle.tm_cells_code.specs.View.{cells}
use Rattle.tm_cells_code.proofs.Addresses.{cell-place, flag-place, verdict-place, private-place}
use Rattle.tm_cells_code.proofs.Placing.{sizes}
use Rattle.tm_cells_code.proofs.Wrote.{Wrote, Nothing, Reading, Flag, Count, Cell, Verdict, does-wrote}
use Rattle.tm_cells_meet.proofs.States.{newest}

-- ---- where writes go

-- a byte of hart g's flag, count, of a cell, or of the verdict cell
pub data Where (g b : ℕ) : Type 0 where
  InFlag : flag_at g ≤ b → b < flag_at g + 8 → Where g b
  InCount : private_at g + 256 ≤ b → b < private_at g + 264 → Where g b
  InCell : (q : ℕ) → q < 8 → cell_at q ≤ b → b < cell_at q + 8 → Where g b
  InVerdict : verdict_at 0 0 ≤ b → b < verdict_at 0 0 + 8 → Where g b

-- a byte that a write of 8 bytes covers
pub covered : (a v b u : ℕ) → written (Write a 8 v) b ≡ Some u → (a ≤ b) × (b < a + 8)
covered a v b u e = by (within a 8 b) refl e
  where
    by : (t : Bool) → within a 8 b ≡ t → (if t then Some (byte_of v (b - a)) else None) ≡ Some u → (a ≤ b) × (b < a + 8)
    by true f g = within-parts a 8 b f
    by false f g = cc

pub wrote-where : (plan : CellPlan) (g : ℕ) (past : List Entry) (e : Entry) (b u : ℕ) → Wrote plan g past e
    → written e.access b ≡ Some u → Where g b
wrote-where plan g past e b u (Nothing is) w = let x : None ≡ Some u = sym (ap (λ (a : Access). written a b) is) ∙ w in
    cc
wrote-where plan g past e b u (Reading a n v is) w =
    let x : None ≡ Some u = sym (ap (λ (a : Access). written a b) is) ∙ w in cc
wrote-where plan g past e b u (Flag is) w =
    let c = covered (flag_at g) 1 b u (sym (ap (λ (a : Access). written a b) is) ∙ w) in InFlag c.0 c.1
wrote-where plan g past e b u (Count v is) w =
    let c = covered (private_at g + 256) v b u (sym (ap (λ (a : Access). written a b) is) ∙ w) in
    InCount c.0 (omega (arith, c.1))
wrote-where plan g past e b u (Cell q v l is d) w =
    let c = covered (cell_at q) v b u (sym (ap (λ (a : Access). written a b) is) ∙ w) in InCell q l c.0 c.1
wrote-where plan g past e b u (Verdict v z is d) w =
    let c = covered (verdict_at 0 0) v b u (sym (ap (λ (a : Access). written a b) is) ∙ w) in InVerdict c.0 c.1

private-parts : (h b : ℕ) → is_private h b ≡ true → (0x80C10000 + 0x20000 * h ≤ b) × (b < 0x80C30000 + 0x20000 * h)
unfolding private_at private_size
private-parts h b e = let q = within-parts (private_at h) private_size b e in (omega (arith, q), omega (arith, q))

-- of a private area that is its hart's
where-private : (g h b : ℕ) → g < 16 → h < 16 → is_private h b ≡ true → Where g b → g ≡ h
where-private g h b l m e (InFlag x y) =
    let q = private-parts h b e in let f = flag-place g in absurd (omega (arith, q, x, y))
where-private g h b l m e (InCount x y) =
    let q = private-parts h b e in
    let f = private-place g in
    elim (cases_eq g h) [
      | inl z ↦ z
      | inr z ↦ elim (cases_lt g h) [
        | inl k ↦ absurd (omega (arith, q, x, y, k))
        | inr k ↦ absurd
            (omega (arith, q, x, y, k, z))
      ]
    ]
where-private g h b l m e (InCell q k x y) =
    let r = private-parts h b e in let f = cell-place q in absurd (omega (arith, r, x, y))
where-private g h b l m e (InVerdict x y) =
    let r = private-parts h b e in let f = verdict-place in absurd (omega (arith, r, x, y))

-- and none is low
where-low : (g b : ℕ) → b < 0x80C00000 → Where g b → ⊥
where-low g b l (InFlag x y) = let f = flag-place g in omega arith
where-low g b l (InCount x y) = let f = private-place g in omega arith
where-low g b l (InCell q k x y) = let f = cell-place q in omega arith
where-low g b l (InVerdict x y) = let f = verdict-place in omega arith

-- the image holds 0 above text and tables
pub high-zero : (p : Program) (b : ℕ) → Sizes p → 0x80C00000 ≤ b → image_byte p b ≡ 0
unfolding text_base tables_base
high-zero p b s l =
    let x : is_text p b ≡ false = within-false text_base (4 * length p.text) b (inr (omega (arith, s.text))) in
    let y : is_table p b ≡ false = within-false tables_base (length p.tables) b (inr (omega (arith, s.tables))) in
    ap (λ (c : Bool). if c then byte_of (slice_index p.text ((b - text_base) / 4)) ((b - text_base) % 4)
    else (if is_table p b then slice_index p.tables (b - tables_base) else 0)) x
    ∙ ap (λ (c : Bool). if c then slice_index p.tables (b - tables_base) else 0) y

module _ (plan : CellPlan) (is : IsPlan plan) (o : ℕ → List ℕ) where
  -- each write keeps to its place
  abbrev pub Kept : List Step → Type 0
  Kept = Always (λ past s. (b u : ℕ) → written (access_of s) b ≡ Some u → Where (hart_of s) b)

  pub half-kept : (steps : List Step) → CellHalf (cells plan) (earlier o steps) → Kept steps
  half-kept [] half = tt
  half-kept (s ∷ past) half =
      let n = newest plan is o past s half in (
        λ b u w. wrote-where plan (hart_of s) (entries_of (own (hart_of s) past)) (entry_of s) b u
            (does-wrote plan (cells plan) (hart_of s) n.does) w,
        half-kept past (half-earlier (cells plan) o (s ∷ []) past half),
      )

  -- ---- what is read

  last-own : (h b : ℕ) (past : List Step) → Always (λ before s. (written (access_of s) b ≡ None) ⊎ (hart_of s ≡ h)) past
      → last_write b past ≡ last_write b (own h past)
  last-own h b [] a = refl
  last-own h b (s ∷ past) a = elim (cases_eq (hart_of s) h) [
    | inl e ↦ ap (or_else (written (access_of s) b)) (last-own h b past a.1) ∙ sym
        (ap (last_write b) (own-here h s past e))
    | inr n ↦ elim a.0 [
      | inl w ↦ ap (λ (z : Option ℕ). or_else z (last_write b past)) w ∙
          (last-own h b past a.1 ∙ sym (ap (last_write b) (own-there h s past n)))
      | inr e ↦ absurd (n e)
    ]
  ]

  private-own : (h b : ℕ) → h < 16 → is_private h b ≡ true → (past : List Step)
      → Always (λ before s. hart_of s < plan.harts) past → Kept past
      → Always (λ before s. (written (access_of s) b ≡ None) ⊎ (hart_of s ≡ h)) past
  private-own h b l e [] only k = tt
  private-own h b l e (s ∷ past) only k = (by (written (access_of s) b) refl, private-own h b l e past only.1 k.1)
    where
      by : (z : Option ℕ) → written (access_of s) b ≡ z → (written (access_of s) b ≡ None) ⊎ (hart_of s ≡ h)
      by None w = inl w
      by (Some v) w =
          let harts = is.harts in
          inr (where-private (hart_of s) h b (omega (arith, only.0)) l e (k.0 b v w))

  pub spared : (b : ℕ) → ((g : ℕ) → Where g b → ⊥) → (past : List Step) → Kept past → last_write b past ≡ None
  spared b none [] k = refl
  spared b none (s ∷ past) k = by (written (access_of s) b) refl ∙ spared b none past k.1
    where
      by : (z : Option ℕ) → written (access_of s) b ≡ z → or_else (written (access_of s) b) (last_write b past)
          ≡ last_write b past
      by None w = ap (λ (z : Option ℕ). or_else z (last_write b past)) w
      by (Some v) w = absurd (none (hart_of s) (k.0 b v w))

  half-byte : (past : List Step) → Always (λ before s. hart_of s < plan.harts) past → Kept past → (h : ℕ)
      → h < plan.harts → (b u : ℕ) → u ≡ unwrap_or (last_write b past) (image_byte (cells plan) b)
      → IfSome (half_owed (cells plan) h (own h past) b) (λ n. u ≡ n)
  half-byte past only kept h l b u e =
      by (is_private h b) (is_text (cells plan) b || is_table (cells plan) b) refl refl
    where
      low : h < 16
      low = let harts = is.harts in omega arith

      s : Sizes (cells plan)
      s = sizes plan is h l

      by : (y z : Bool) → is_private h b ≡ y → (is_text (cells plan) b || is_table (cells plan) b) ≡ z
          → IfSome (if y then Some (unwrap_or (last_write b (own h past)) 0)
          else (if z then Some (image_byte (cells plan) b) else None)) (λ n. u ≡ n)
      by true z f g = e ∙ ap₂ (λ (w : Option ℕ) (n : ℕ). unwrap_or w n)
          (last-own h b past (private-own h b low f past only kept))
          (high-zero (cells plan) b s (let q = private-parts h b f in omega (arith, q)))
      by false true f g = e ∙ ap (λ (w : Option ℕ). unwrap_or w (image_byte (cells plan) b))
          (spared b (λ k. where-low k b (image-place (cells plan) b s g)) past kept)
      by false false f g = tt

  half-reads : (past : List Step) → Always (λ before s. hart_of s < plan.harts) past → Kept past → (h : ℕ)
      → h < plan.harts → (a : Access) → Reads (plain_owed (cells plan) past) a
      → Reads (half_owed (cells plan) h (own h past)) a
  half-reads past only kept h l Quiet r = tt
  half-reads past only kept h l (Write addr width value) r = tt
  half-reads past only kept h l (Read addr width value) r =
      λ i m. half-byte past only kept h l (addr + i) (byte_of value i) (r i m)

  -- ---- the whole run

  one-more : (s : Step) (past : List Step) → CellPlain (cells plan) (earlier o (s ∷ past))
      → CellHalf (cells plan) (earlier o past) → (h : ℕ) → h < plan.harts
      → CellHalfPath (cells plan) h (first_state (o h)) (own h (s ∷ past))
  one-more s past r before h l = elim (cases_eq (hart_of s) h) [
    | inr n ↦ subst (CellHalfPath (cells plan) h (first_state (o h))) (sym (own-there h s past n)) (before.each h l)
    | inl e ↦
        let here = own-here h s past e in
        let path : CellPath (cells plan) h (first_state (o h)) (s ∷ own h past) =
        subst (CellPath (cells plan) h (first_state (o h))) here (r.paths.each h l) in
        let Owed : ℕ → Type 0 = λ g. Reads (half_owed (cells plan) g (own g past))
        (reading (now (first_state (o g)) (own g past)) s) in
        let reads : Owed h = subst Owed e (half-reads past before.only (half-kept past before) (hart_of s)
        (r.paths.only.0) (reading (before_of o past s) s) r.reads.0) in
        subst (CellHalfPath (cells plan) h (first_state (o h))) (sym here)
        (record { follows = path.0; reads = reads }, before.each h l)
  ]

  pub plain-half : (steps : List Step) → CellPlain (cells plan) (earlier o steps)
      → CellHalf (cells plan) (earlier o steps)
  plain-half [] r = record { opening = r.paths.opening; only = r.paths.only; each = λ h l. tt }
  plain-half (s ∷ past) r = record {
    opening = r.paths.opening;
    only = r.paths.only;
    each = one-more s past r (plain-half past (plain-earlier (cells plan) o (s ∷ []) past r));
  }
