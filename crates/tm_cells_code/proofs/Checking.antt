-- Hart 0 loads the cells, compares them with their sums, and stores the verdict.
use Rattle.std.proofs.Common.{◌≡◌, ◌≢◌, ℕ, zero, suc, ◌+◌, ◌*◌, ◌%◌, ◌^◌, ◌<◌, ◌≤◌, List, [], ◌∷◌, ◌++◌, length}
use Rattle.std.proofs.Common.{Bool, true, false, not, ◌&&◌, ◌==◌, Option, None, Some, inl, inr, refl, sym, ap, ap₂, ◌∙◌}
use Rattle.std.proofs.Common.{subst, arith, map, eq-eqb, ne_eqb, length-append}
use Rattle.std.specs.Prelude.{unwrap_or}
use Rattle.std.specs.Prelude.{if◌then◌else◌}
use Rattle.std.proofs.lemmas.Bool.{cases_eq}
use Rattle.tm_table.specs.declared.state.Access.{Access}
use Rattle.tm_table.specs.declared.state.Access.TheVariants.{Quiet, Read, Write}
use Rattle.tm_table.specs.declared.instr.Instr.{Instr}
use Rattle.tm_table.specs.Adds.{add_of}
use Rattle.tm_base.specs.Lists.{count_from}
use Rattle.tm_plan_cases.specs.declared.program.Program.{Program}
use Rattle.tm_plan_map.specs.Map.{verdict_at, guest_base, guest_end}
use Rattle.tm_world.specs.Lists.{or_else}
use Rattle.tm_world.specs.Place.{exit_of}
use Rattle.tm_runs.specs.Machine.{Entry, State, World, Table, get, put, loaded, MayAccess}
use Rattle.tm_runs.specs.Runs.{Takes, Now, At, Within, IsQuiet}
use Rattle.tm_runs.specs.World.{Sizes, world_of}
use Rattle.tm_runs.proofs.Tables.{get_put, get_put_other, at_front, at_next}
use Rattle.tm_runs.proofs.Steps.{step_addi, step_ld, step_sd, step_beq, branched, written}
use Rattle.tm_runs.proofs.Places.{guest-true}
use Rattle.tm_runs.proofs.Worlds.{not-fixed}
use Rattle.tm_blocks_base.specs.Instrs.{addi, ld, sd, beq}
use Rattle.tm_blocks_base.specs.Blocks.{constant}
use Rattle.tm_blocks_base.specs.Laws.{accesses, with_access}
use Rattle.tm_blocks_base.proofs.Fitting.{ld_fits, sd_fits}
use Rattle.tm_table.specs.Words.{Fits, word_of}
use Rattle.tm_plan_map.proofs.Words.{instr-word}
use Rattle.tm_cells_world.proofs.Adding.{row-alone}
use Rattle.tm_blocks_base.specs.Verdict.{first_from}
use Rattle.tm_blocks_base.proofs.Lengths.{length-constant}
use Rattle.tm_blocks_base.proofs.Dwords.{on_quiet, on_branch}
use Rattle.tm_cells_plan.specs.declared.plan.CellPlan.{CellPlan}
use Rattle.tm_cells_plan.specs.Sums.{cell_sum}
use Rattle.tm_cells_world.specs.Machine.{Holds, adds_at}
use Rattle.tm_cells_world.specs.Kinds.{cell_at}
use Rattle.tm_cells_world.specs.Shadow.{NoStreams}
use Rattle.tm_cells_world.proofs.Compose.{holds_map, holds_then, holds_now, holds_up, holds_takes}
use Rattle.tm_cells_code.specs.Words.{loads, compare_cell, compare_cells, checks}
use Rattle.tm_cells_code.specs.Told.{Stage, stage, Plain, Loads, Judges, Told, More, Sofar, Good, loaded_in, load_of}
use Rattle.tm_cells_code.specs.Told.{verdict_in}
use Rattle.tm_cells_code.proofs.Addresses.{cell-place, cell-may, verdict-place, verdict-no_flag}
use Rattle.tm_cells_code.proofs.Tells.{silent-keeping, late-now}
use Rattle.tm_cells_code.proofs.Quiet.{quiet-block, no-bounds, good-at, work-step}
use Rattle.tm_cells_code.proofs.Adding.{constant-block}
use Rattle.tm_cells_code.proofs.Meet.{loading}

-- ---- the first that differs

-- the first that passes a test, of tests that agree
pub first-same : (f g : ℕ → Bool) (i n : ℕ) → ((j : ℕ) → i ≤ j → j < i + n → f j ≡ g j) → first_from f i n ≡ first_from g i n
first-same f g i zero h = refl
first-same f g i (suc n) h =
    ap₂ (λ (b : Bool) (m : ℕ). if b then suc i else m) (h i (omega arith) (omega arith))
    (first-same f g (suc i) n (λ j a b. h j (omega arith) (omega arith)))

-- its words
pub cell-sum-lt : (plan : CellPlan) (q : ℕ) → cell_sum plan q < 2 ^ 64
unfolding cell_sum
cell-sum-lt plan q = omega arith

pub length-compare : (plan : CellPlan) (q : ℕ) → length (compare_cell plan q) ≡ 13
unfolding compare_cell
length-compare plan q =
    length-append (constant 6 (cell_sum plan q)) (beq (11 + q) 6 8 ∷ addi 8 0 (q + 1) ∷ [])
    ∙ ap (λ (n : ℕ). n + 2) (length-constant 6 (cell_sum plan q))

pub length-compares : (plan : CellPlan) (n : ℕ) → length (compare_cells plan n) ≡ 13 * n
length-compares plan zero = refl
length-compares plan (suc q) =
    length-append (compare_cell plan q) (compare_cells plan q)
    ∙ omega (arith, length-compare plan q, length-compares plan q)

pub length-loads : length loads ≡ 8
unfolding loads
length-loads = refl

-- the word of an instruction that fits is no add's
pub fits-plain : (i : Instr) → Fits i → add_of (word_of i) ≡ None
fits-plain i f = row-alone (word_of i) i (instr-word i f)

module _ (plan : CellPlan) (p : Program) (h : ℕ) (sizes : Sizes p) (none : NoStreams p h) (low : h < 16) (most : ℕ)
    (is-zero : h ≡ 0) where
  abbrev w : World
  w = world_of p h

  abbrev G : State → Type 0
  G t = Good plan p h most t.log

  -- ---- loads

  -- q cells were loaded, into x11 and on
  pub record Loaded (place q n : ℕ) (t : State) : Type 0 where
    pub pc : t.pc ≡ place + 4 * q
    pub base : get t.regs 28 ≡ cell_at 0
    pub cells : (i : ℕ) → i < q → loaded_in (cell_at i) t.log ≡ Some (get t.regs (11 + i))
    pub sofar : Sofar plan p h (loading plan q) (n + q) t.log

  cell-apart : (i q : ℕ) → i ≢ q → (cell_at q == cell_at i) ≡ false
  cell-apart i q d = ne_eqb (cell_at q) (cell_at i)
      (λ z. d (let a = cell-place i in let b = cell-place q in omega (arith, z)))

  load-same : (q v : ℕ) → load_of (cell_at q) (Read (cell_at q) 8 v) ≡ Some v
  load-same q v = ap (λ (b : Bool). if b && true then Some v else None) (eq-eqb (cell_at q) (cell_at q) refl)

  load-other : (i q v : ℕ) → i ≢ q → load_of (cell_at i) (Read (cell_at q) 8 v) ≡ None
  load-other i q v d = ap (λ (b : Bool). if b && true then Some v else None) (cell-apart i q d)

  -- the code of load j
  load-code : (t : ℕ → Option Instr) (a n k : ℕ) → At t a (map (λ q. ld (11 + q) (8 * q) 28) (count_from k n))
      → (j : ℕ) → j < n → t (a + 4 * j) ≡ Some (ld (11 + (k + j)) (8 * (k + j)) 28)
  load-code t a zero k at j l = absurd (omega arith)
  load-code t a (suc n) k at zero l =
      let e : k ≡ k + 0 = omega arith in
      let f : a + 4 * 0 ≡ a = omega arith in
      ap t f ∙ (at.0 ∙ ap (λ (x : ℕ). Some (ld (11 + x) (8 * x) 28)) e)
  load-code t a (suc n) k at (suc j) l =
      let e : suc k + j ≡ k + suc j = omega arith in
      let f : a + 4 * suc j ≡ a + 4 + 4 * j = omega arith in
      ap t f ∙ (load-code t (a + 4) n (suc k) at.1 j (omega arith)
      ∙ ap (λ (x : ℕ). Some (ld (11 + x) (8 * x) 28)) e)

  -- one load
  module _ (place q n : ℕ) (less : q < 8) (after : exit_of p h < place) (room : n + suc q ≤ most)
      (at : w.text (place + 4 * q) ≡ Some (ld (11 + q) (8 * q) 28)) (s : State) (r : Loaded place q n s) where
    address : (get s.regs 28 + 8 * q % 2 ^ 64) % 2 ^ 64 ≡ cell_at q
    address = let a = cell-place 0 in let b = cell-place q in let c = r.base in omega arith

    abbrev next : ℕ → State
    next v = loaded (ld (11 + q) (8 * q) 28) (cell_at q) v s

    abbrev entry : ℕ → Entry
    entry v = record {
      pc = s.pc;
      next = s.pc + 4;
      word = word_of (ld (11 + q) (8 * q) 28);
      access = Read (cell_at q) 8 v;
      regs = get (put s.regs (11 + q) v);
    }

    off : s.pc ≢ exit_of p h
    off z = omega (arith, z, r.pc, after)

    plain : (v : ℕ) → Plain p h (entry v)
    plain v = record {
      add = fits-plain (ld (11 + q) (8 * q) 28) (ld_fits (11 + q) (8 * q) 28 (omega arith) (omega arith) (omega arith));
      off = off;
    }

    told : (v : ℕ) → Told plan p h (next v).log (loading plan (suc q))
    told v = More r.sofar.told (silent-keeping plan p h low s.log (entry v) refl
        (late-now plan p h low r.sofar.told refl) off) (Loads is-zero refl refl less v refl (plain v))

    cells : (v i : ℕ) → i < suc q → loaded_in (cell_at i) (next v).log ≡ Some (get (put s.regs (11 + q) v) (11 + i))
    cells v i l = elim (cases_eq i q) [
      | inl e ↦ subst (λ (x : ℕ). loaded_in (cell_at x) (next v).log ≡ Some (get (put s.regs (11 + q) v) (11 + x)))
          (sym e) (ap (λ (o : Option ℕ). or_else o (loaded_in (cell_at q) s.log)) (load-same q v)
          ∙ ap (λ (x : ℕ). Some x) (sym (get_put s.regs (11 + q) v (omega arith))))
      | inr d ↦ ap (λ (o : Option ℕ). or_else o (loaded_in (cell_at i) s.log)) (load-other i q v d)
          ∙ (r.cells i (omega (arith, l, d)) ∙ ap (λ (x : ℕ). Some x)
          (sym (get_put_other s.regs (11 + q) v (11 + i) (λ z. d (omega (arith, z))))))
    ]

    done : (v : ℕ) → Loaded place (suc q) n (next v)
    done v = record {
      pc = omega (arith, r.pc);
      base = get_put_other s.regs (11 + q) v 28 (omega (arith, less)) ∙ r.base;
      cells = cells v;
      sofar = record { told = told v; few = omega (arith, work-step p h (entry v) s.log, r.sofar.few) };
    }

    pub one-load : Holds w (adds_at p) G (Loaded place (suc q) n) s
    one-load =
        holds_map (λ t g. g.0) (λ t g. g.0)
        (holds_takes (no-bounds p h none) (step_ld {G = G} {Q = Loaded place (suc q) n} {n = 0} (cell_at q) refl
        (ap w.text r.pc ∙ at) address (cell-may p h q less)
        (λ v small own. good-at plan p h sizes none most (n + suc q) (loading plan (suc q)) (next v).log room
        (done v).sofar) (λ v small own. Now (done v))))

  all-loads : (place n : ℕ) → exit_of p h < place → n + 8 ≤ most → At w.text place loads → (s : State)
      → Loaded place 0 n s → Holds w (adds_at p) G (Loaded place 8 n) s
  unfolding loads
  all-loads place n after room code s r =
      holds_up (λ q t. Loaded place q n t) 8 0
      (λ q t a b j. one-load place q n (omega arith) after (omega arith)
      (subst (λ (x : ℕ). w.text (place + 4 * q) ≡ Some (ld (11 + x) (8 * x) 28)) (let e : 0 + q ≡ q = omega arith in e)
      (load-code w.text place 8 0 code q (omega arith))) t j) s r

  -- ---- the comparison

  -- cells from k on, m of them, were compared, of which the first that differs is in x8
  pub record Compared (f : ℕ → ℕ) (all : List Access) (k m n : ℕ) (t : State) : Type 0 where
    pub cells : (i : ℕ) → i < 8 → get t.regs (11 + i) ≡ f i
    pub number : get t.regs 8 ≡ first_from (λ q. not (f q == cell_sum plan q)) k m
    pub same : accesses t.log ≡ all
    pub sofar : Sofar plan p h (loading plan 8) n t.log

  -- a branch over the word that names a cell
  record Named (q : ℕ) (s t : State) : Type 0 where
    pc : t.pc ≡ s.pc + 8
    number : get t.regs 8 ≡ (if not (get s.regs (11 + q) == get s.regs 6) then suc q else get s.regs 8)
    regs : (r : ℕ) → r ≢ 8 → get t.regs r ≡ get s.regs r
    same : accesses t.log ≡ accesses s.log

  named : (q : ℕ) → q < 8 → (s : State) → At w.text s.pc (beq (11 + q) 6 8 ∷ addi 8 0 (q + 1) ∷ [])
      → Takes w (Within s.pc (s.pc + 8) IsQuiet) (Named q s) 2 s
  named q l s code =
      step_beq {i = beq (11 + q) 6 8} (s.pc + 8) refl code.0 refl
      (λ eq. (
        on_branch (beq (11 + q) 6 8) (s.pc + 8) s refl (omega arith) (omega arith) (omega arith) (omega arith),
        Now (record {
          pc = refl;
          number = sym (ap (λ (b : Bool). if not b then suc q else get s.regs 8) (eq-eqb _ _ eq));
          regs = λ r d. refl;
          same = refl;
        }),
      ))
      (λ ne. (
        on_branch (beq (11 + q) 6 8) (s.pc + 4) s refl (omega arith) (omega arith) (omega arith) (omega arith),
        step_addi (q + 1) refl code.1.0 (omega (arith, l))
            (on_quiet (addi 8 0 (q + 1)) (branched (beq (11 + q) 6 8) (s.pc + 4) s) (q + 1) refl (omega arith)
            (omega arith))
            (Now (record {
              pc = omega arith;
              number = get_put s.regs 8 (q + 1) (omega arith) ∙ (let e : q + 1 ≡ suc q = omega arith in e) ∙
                  sym (ap (λ (b : Bool). if not b then suc q else get s.regs 8) (ne_eqb _ _ ne));
              regs = λ r d. get_put_other s.regs 8 (q + 1) r d;
              same = refl;
            })),
      ))

  one-compare : (f : ℕ → ℕ) (all : List Access) (q m n : ℕ) → q < 8 → n + 13 ≤ most → (s : State)
      → exit_of p h < s.pc → At w.text s.pc (compare_cell plan q) → Compared f all (suc q) m n s
      → Holds w (adds_at p) G (λ t. (t.pc ≡ s.pc + 52) × Compared f all q (suc m) (n + 13) t) s
  unfolding compare_cell
  one-compare f all q m n less room s after code r =
      let sum = cell_sum plan q in
      let one = at_front w.text s.pc (constant 6 sum) (beq (11 + q) 6 8 ∷ addi 8 0 (q + 1) ∷ []) code in
      holds_then (constant-block plan p h sizes none low most 6 sum n (loading plan 8) s (omega arith) (omega arith)
      (cell-sum-lt plan q) (inl after) (omega (arith, room)) one r.sofar)
      (λ t a.
      let two : At w.text t.pc (beq (11 + q) 6 8 ∷ addi 8 0 (q + 1) ∷ []) =
      at_next w.text s.pc t.pc (constant 6 sum) (beq (11 + q) 6 8 ∷ addi 8 0 (q + 1) ∷ []) 11 (length-constant 6 sum)
      (omega (arith, a.0)) code in
      let other : (i : ℕ) → i ≢ 6 → get t.regs i ≡ get s.regs i =
      λ i d. ap (λ (g : Table). get g i) a.1 ∙ get_put_other s.regs 6 sum i d in
      let six : get t.regs 6 ≡ sum = ap (λ (g : Table). get g 6) a.1 ∙ get_put s.regs 6 sum (omega arith) in
      let here : get t.regs (11 + q) ≡ f q = other (11 + q) (omega arith) ∙ r.cells q less in
      let eight : get t.regs 8 ≡ first_from (λ x. not (f x == cell_sum plan x)) (suc q) m =
      other 8 (omega arith) ∙ r.number in
      holds_map (λ u g. g) (λ u b. (
        omega (arith, b.0.pc, a.0),
        record {
          cells = λ i l. b.0.regs (11 + i) (omega arith) ∙ (other (11 + i) (omega arith) ∙ r.cells i l);
          number = b.0.number ∙ ap₂ (λ (x : Bool) (y : ℕ). if not x then suc q else y)
              (ap₂ (λ (x y : ℕ). x == y) here six) eight;
          same = b.0.same ∙ (a.4 ∙ r.same);
          sofar = subst (λ (z : ℕ). Sofar plan p h (loading plan 8) z u.log)
              (let e : n + 11 + 2 ≡ n + 13 = omega arith in e) b.1;
        },
      )) (quiet-block plan p h sizes none most t.pc (t.pc + 8) (n + 11) 2 (loading plan 8)
      (inl (omega (arith, a.0, after))) (omega (arith, room)) (named q less t two) a.3))

  all-compares : (f : ℕ → ℕ) (all : List Access) (k m n : ℕ) → k ≤ 8 → n + 13 * k ≤ most → (s : State)
      → exit_of p h < s.pc → At w.text s.pc (compare_cells plan k) → Compared f all k m n s
      → Holds w (adds_at p) G (λ t. (t.pc ≡ s.pc + 52 * k) × Compared f all 0 (k + m) (n + 13 * k) t) s
  all-compares f all zero m n le room s after code r =
      holds_now (
        omega arith,
        subst (λ (x : ℕ). Compared f all 0 x (n + 13 * 0) s) (let e : m ≡ 0 + m = omega arith in e)
            (subst (λ (x : ℕ). Compared f all 0 m x s) (let e : n ≡ n + 13 * 0 = omega arith in e) r),
      )
  all-compares f all (suc q) m n le room s after code r =
      holds_then (one-compare f all q m n (omega arith) (omega (arith, room)) s after
      (at_front w.text s.pc (compare_cell plan q) (compare_cells plan q) code) r)
      (λ t a. holds_map (λ u g. g) (λ u b. (
        omega (arith, a.0, b.0),
        subst (λ (x : ℕ). Compared f all 0 x (n + 13 * suc q) u) (let e : q + suc m ≡ suc q + m = omega arith in e)
            (subst (λ (x : ℕ). Compared f all 0 (q + suc m) x u)
            (let e : n + 13 + 13 * q ≡ n + 13 * suc q = omega arith in e) b.1),
      )) (all-compares f all q (suc m) (n + 13) (omega arith) (omega (arith, room)) t (omega (arith, a.0, after))
      (at_next w.text s.pc t.pc (compare_cell plan q) (compare_cells plan q) 13 (length-compare plan q)
      (omega (arith, a.0)) code) a.1))

  -- ---- the verdict

  -- what an access list loads last at a
  abbrev load-last : ℕ → List Access → Option ℕ
  load-last a [] = None
  load-last a (x ∷ xs) = or_else (load_of a x) (load-last a xs)

  loaded-accesses : (a : ℕ) (log : List Entry) → loaded_in a log ≡ load-last a (accesses log)
  loaded-accesses a [] = refl
  loaded-accesses a (e ∷ past) = by e.access (loaded-accesses a past)
    where
      by : (x : Access) → loaded_in a past ≡ load-last a (accesses past) → or_else (load_of a x) (loaded_in a past)
          ≡ load-last a (with_access x (accesses past))
      by Quiet q = q
      by (Read b n v) q = ap (or_else (load_of a (Read b n v))) q
      by (Write b n v) q = q

  abbrev pub done-stage : Stage
  done-stage = stage plan.adds 1 1 8 1

  module _ (f : ℕ → ℕ) (n : ℕ) (room : n + 1 ≤ most) (s : State) (after : exit_of p h < s.pc)
      (code : w.text s.pc ≡ Some (sd 8 0 7)) (cell : get s.regs 7 ≡ verdict_at 0 0)
      (found : (i : ℕ) → i < 8 → loaded_in (cell_at i) s.log ≡ Some (f i))
      (number : get s.regs 8 ≡ first_from (λ q. not (f q == cell_sum plan q)) 0 8)
      (so : Sofar plan p h (loading plan 8) n s.log) where
    abbrev end : State
    end = written (sd 8 0 7) (verdict_at 0 0) s

    abbrev last : Entry
    last = record {
      pc = s.pc;
      next = s.pc + 4;
      word = word_of (sd 8 0 7);
      access = Write (verdict_at 0 0) 8 (get s.regs 8);
      regs = get s.regs;
    }

    last-off : s.pc ≢ exit_of p h
    last-off z = omega (arith, z, after)

    exact : get s.regs 8 ≡ verdict_in plan s.log
    exact = number ∙ first-same (λ q. not (f q == cell_sum plan q))
        (λ q. not (unwrap_or (loaded_in (cell_at q) s.log) 0 == cell_sum plan q)) 0 8
        (λ j a b. ap (λ (o : Option ℕ). not (unwrap_or o 0 == cell_sum plan j)) (sym (found j (omega arith))))

    ended : Sofar plan p h done-stage (n + 1) end.log
    ended = record {
      told = More so.told (silent-keeping plan p h low s.log last (verdict-no_flag h (get s.regs 8) low)
          (late-now plan p h low so.told refl) last-off) (Judges is-zero refl refl refl refl
          (ap (λ (v : ℕ). Write (verdict_at 0 0) 8 v) exact) (record {
            add = fits-plain (sd 8 0 7) (sd_fits 8 0 7 (omega arith) (omega arith) (omega arith));
            off = last-off;
          }));
      few = omega (arith, work-step p h last s.log, so.few);
    }

    may : MayAccess w (verdict_at 0 0)
    unfolding guest_base guest_end
    may = let e = verdict-place in (omega arith, guest-true (verdict_at 0 0) (omega arith) (omega arith))

    pub judged : Holds w (adds_at p) G (λ t. (t.pc ≡ s.pc + 4) × Sofar plan p h done-stage (n + 1) t.log) s
    judged =
        holds_map (λ t g. g.0) (λ t g. g.0)
        (holds_takes (no-bounds p h none) (step_sd {G = G} {Q = λ t. (t.pc ≡ s.pc + 4)
        × Sofar plan p h done-stage (n + 1) t.log} {n = 0} (verdict_at 0 0) refl code
        (let e = cell in let v = verdict-place in omega arith) may
        (let v = verdict-place in not-fixed p (verdict_at 0 0) sizes (omega arith))
        (good-at plan p h sizes none most (n + 1) done-stage end.log room ended) (Now (refl, ended))))

  -- ---- all of it

  zeroed : (s : State) → At w.text s.pc (addi 8 0 0 ∷ []) → Takes w (Within s.pc (s.pc + 4) IsQuiet)
      (λ t. (t.pc ≡ s.pc + 4) × (t.regs ≡ put s.regs 8 0) × (accesses t.log ≡ accesses s.log)) 1 s
  zeroed s code = step_addi 0 refl code.0 (omega arith) (on_quiet (addi 8 0 0) s 0 refl (omega arith) (omega arith))
      (Now (refl, refl, refl))

  pub checked : (n : ℕ) → n + 136 ≤ most → (s : State) → exit_of p h < s.pc → At w.text s.pc (checks plan)
      → Sofar plan p h (loading plan 0) n s.log
      → Holds w (adds_at p) G (λ t. (t.pc ≡ s.pc + 544) × Sofar plan p h done-stage (n + 136) t.log) s
  unfolding checks
  checked n room s after code so =
      let c3 = compare_cells plan 8 ++ (constant 7 (verdict_at 0 0) ++ (sd 8 0 7 ∷ [])) in
      let c2 = (addi 8 0 0 ∷ []) ++ c3 in
      let c1 = loads ++ c2 in
      holds_then (constant-block plan p h sizes none low most 28 (cell_at 0) n (loading plan 0) s (omega arith)
      (omega arith) (let e = cell-place 0 in omega arith) (inl after) (omega (arith, room))
      (at_front w.text s.pc (constant 28 (cell_at 0)) c1 code) so) (λ t a.
      let at1 : At w.text t.pc c1 =
      at_next w.text s.pc t.pc (constant 28 (cell_at 0)) c1 11 (length-constant 28 (cell_at 0)) (omega (arith, a.0)) code
      in
      let ready : Loaded t.pc 0 (n + 11) t = record {
        pc = omega arith;
        base = ap (λ (g : Table). get g 28) a.1 ∙ get_put s.regs 28 (cell_at 0) (omega arith);
        cells = λ i l. absurd (omega (arith, l));
        sofar = subst (λ (x : ℕ). Sofar plan p h (loading plan 0) x t.log)
            (let e : n + 11 ≡ n + 11 + 0 = omega arith in e) a.3;
      } in
      holds_then (all-loads t.pc (n + 11) (omega (arith, a.0, after)) (omega (arith, room))
      (at_front w.text t.pc loads c2 at1) t ready) (λ u b.
      let at2 : At w.text u.pc c2 =
      at_next w.text t.pc u.pc loads c2 8 length-loads (omega (arith, b.pc)) at1 in
      let f = λ (i : ℕ). get u.regs (11 + i) in
      holds_then (quiet-block plan p h sizes none most u.pc (u.pc + 4) (n + 11 + 8) 1 (loading plan 8)
      (inl (omega (arith, a.0, b.pc, after))) (omega (arith, room))
      (zeroed u (at_front w.text u.pc (addi 8 0 0 ∷ []) c3 at2)) b.sofar) (λ x c.
      let at3 : At w.text x.pc c3 =
      at_next w.text u.pc x.pc (addi 8 0 0 ∷ []) c3 1 refl (omega (arith, c.0.0)) at2 in
      let compared : Compared f (accesses u.log) 8 0 (n + 11 + 8 + 1) x = record {
        cells = λ i l. ap (λ (g : Table). get g (11 + i)) c.0.1 ∙ get_put_other u.regs 8 0 (11 + i) (omega arith);
        number = ap (λ (g : Table). get g 8) c.0.1 ∙ get_put u.regs 8 0 (omega arith);
        same = c.0.2;
        sofar = c.1;
      } in
      holds_then (all-compares f (accesses u.log) 8 0 (n + 11 + 8 + 1) (omega arith) (omega (arith, room)) x
      (omega (arith, a.0, b.pc, c.0.0, after))
      (at_front w.text x.pc (compare_cells plan 8) (constant 7 (verdict_at 0 0) ++ (sd 8 0 7 ∷ [])) at3) compared)
      (λ y d.
      let at4 : At w.text y.pc (constant 7 (verdict_at 0 0) ++ (sd 8 0 7 ∷ [])) =
      at_next w.text x.pc y.pc (compare_cells plan 8) (constant 7 (verdict_at 0 0) ++ (sd 8 0 7 ∷ [])) 104
      (length-compares plan 8) (omega (arith, d.0)) at3 in
      holds_then (constant-block plan p h sizes none low most 7 (verdict_at 0 0) (n + 11 + 8 + 1 + 13 * 8)
      (loading plan 8) y (omega arith) (omega arith) (let e = verdict-place in omega arith)
      (inl (omega (arith, a.0, b.pc, c.0.0, d.0, after))) (omega (arith, room))
      (at_front w.text y.pc (constant 7 (verdict_at 0 0)) (sd 8 0 7 ∷ []) at4) d.1.sofar) (λ z e.
      let at5 : At w.text z.pc (sd 8 0 7 ∷ []) =
      at_next w.text y.pc z.pc (constant 7 (verdict_at 0 0)) (sd 8 0 7 ∷ []) 11 (length-constant 7 (verdict_at 0 0))
      (omega (arith, e.0)) at4 in
      let logs : accesses z.log ≡ accesses u.log = e.4 ∙ d.1.same in
      holds_map (λ v g. g) (λ v g. (
        omega (arith, g.0, e.0, d.0, c.0.0, b.pc, a.0),
        record { told = g.1.told; few = omega (arith, g.1.few) },
      )) (judged f (n + 11 + 8 + 1 + 13 * 8 + 11) (omega (arith, room)) z
      (omega (arith, a.0, b.pc, c.0.0, d.0, e.0, after)) at5.0
      (ap (λ (g : Table). get g 7) e.1 ∙ get_put y.regs 7 (verdict_at 0 0) (omega arith))
      (λ i l. loaded-accesses (cell_at i) z.log ∙ (ap (load-last (cell_at i)) logs
      ∙ (sym (loaded-accesses (cell_at i) u.log) ∙ b.cells i l)))
      (ap (λ (g : Table). get g 8) e.1 ∙ (get_put_other y.regs 7 (verdict_at 0 0) 8 (omega arith) ∙ d.1.number))
      e.3))))))
