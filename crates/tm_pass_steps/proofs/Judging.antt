-- The words that compare the passes of a case judge it, as the hart's way asks for it.
use Rattle.std.proofs.Common.{◌≡◌, ◌⊎◌, inl, inr, ℕ, zero, suc, ◌+◌, ◌-◌, ◌*◌, ◌%◌, ◌^◌, ◌<◌, ◌≤◌, Bool, true, false}
use Rattle.std.proofs.Common.{◌==◌, eqb-true, List, [], ◌∷◌, ◌++◌, length, Some, refl, sym, ap, ◌∙◌, subst, arith}
use Rattle.std.proofs.Common.{append-nil}
use Rattle.std.specs.Prelude.{All, slice_get, slice_index, IsTrue, if◌then◌else◌}
use Rattle.std.proofs.lemmas.Bool.{or_cases}
use Rattle.tm_table.specs.declared.state.Access.{Access}
use Rattle.tm_table.specs.declared.state.Access.TheVariants.{Quiet, Read, Write}
use Rattle.tm_table.specs.declared.instr.Instr.{Instr}
use Rattle.tm_table.specs.Words.{word_of}
use Rattle.tm_plan_cases.specs.declared.masks.CaseMask.{CaseMask}
use Rattle.tm_plan_cases.specs.declared.program.Program.{Program}
use Rattle.tm_plan_map.specs.Map.{guest_base, guest_end, private_at, private_size, save_at, verdict_at, windows_base}
use Rattle.tm_plan_cases.specs.Collected.{owned}
use Rattle.tm_plan_cases.specs.Shaped.{MasksFit, IsShapedMask}
use Rattle.tm_world.specs.Lists.{IsFront}
use Rattle.tm_world.specs.Place.{harts, case_count, passes, byte_of}
use Rattle.tm_world.specs.Marks.{Mark, Halt, arrivals, whole_way}
use Rattle.tm_runs.specs.Machine.{State, Entry, Table, MayAccess, get}
use Rattle.tm_runs.specs.Runs.{Takes, Now, Does, Since, At}
use Rattle.tm_runs.specs.World.{world_of, support_at, image_dword, is_fixed_dword, is_private_dword}
use Rattle.tm_runs.specs.Course.{trail}
use Rattle.tm_runs.proofs.Compose.{takes_map, takes_then, takes_more}
use Rattle.tm_runs.proofs.Places.{fixed-place, guest-true, private-bytes}
use Rattle.tm_plan_map.proofs.Within.{within-parts}
use Rattle.tm_runs.proofs.Split.{takes_since}
use Rattle.tm_runs.proofs.Steps.{step_sd, written}
use Rattle.tm_runs.proofs.Tables.{put_other}
use Rattle.tm_runs.proofs.Worlds.{not-fixed}
use Rattle.tm_legal.proofs.Formed.{formed-sizes}
use Rattle.tm_legal.specs.Tame.{Formed}
use Rattle.tm_blocks_base.specs.Instrs.{sd}
use Rattle.tm_blocks_base.specs.Laws.{Nowhere, Uses}
use Rattle.tm_blocks_compare.specs.Runs.{HasVerdictOfAll, verdict_of_all}
use Rattle.tm_blocks_compare.specs.Words.{compare_all_but_last}
use Rattle.tm_blocks_compare.proofs.Whole.{compare_all_runs}
use Rattle.tm_pass_way.specs.Facts.{Told}
use Rattle.tm_pass_way.specs.Parts.{Ready, IsFound, phase_at, way_to}
use Rattle.tm_pass_way.specs.Calm.{ComparesTo, IsBelow}
use Rattle.tm_pass_way.proofs.Calm.{IsCalm}
use Rattle.tm_pass_way.proofs.Comparing.{compare-part}
use Rattle.tm_pass_way.proofs.Phases.{case-behind}
use Rattle.tm_pass_steps.specs.Finding.{HasMasks}
use Rattle.tm_pass_steps.specs.Judging.{CompareSite, CaseIsJudged, compare_cost, mark_behind}
use Rattle.tm_pass_steps.proofs.Entering.{each-to}
use Rattle.tm_pass_steps.proofs.Found.{comparison-finds}
use Rattle.std.proofs.lemmas.Option.{same_Some}

below-windows : (h : ℕ) → h < 16 → private_at h + private_size ≤ 2162688000
unfolding private_at private_size
below-windows h l = omega arith

mask-at : (P : CaseMask → Type 0) (xs : List CaseMask) → All P xs → (k : ℕ) (x : CaseMask) → slice_get xs k ≡ Some x
    → P x
mask-at P [] h k x e = cc
mask-at P (y ∷ ys) h zero x e = subst P (same_Some y x e) (h 0 y (omega arith))
mask-at P (y ∷ ys) h (suc k) x e = mask-at P ys (λ j d l. h (suc j) d (omega arith)) k x e

module _ (p : Program) (formed : Formed p) (fit : MasksFit p.cases p.masks) (h : ℕ) (number : h < harts p)
    (c lo last masks bytes : ℕ) (m : CaseMask) (here : c < case_count p) (mask : slice_get p.masks.cases c
    ≡ Some m) (site : CompareSite p m h c lo last masks bytes) (limit : ℕ → ℕ) (o : ℕ) (s : State) where
  abbrev q : ℕ
  q = phase_at p (suc c) 0

  abbrev ms : List Mark
  ms = way_to p (suc c) 0

  abbrev cell : ℕ
  cell = verdict_at c h

  abbrev code : List Instr
  code = compare_all_but_last p.cases h (save_at h 0) masks bytes cell

  few : h < 16
  few = let b = (formed-sizes formed).harts in omega arith

  few-cases : c < 32
  few-cases = let b = formed.program.cases.count in omega arith

  cell-place : (0x80C00000 ≤ cell) × (cell + 8 ≤ 0x81000000) × (cell % 8 ≡ 0) × (cell + 8 ≤ private_at h)
  unfolding verdict_at private_at
  cell-place = let a = few in let b = few-cases in (omega arith, omega arith, omega arith, omega arith)

  cell-may : MayAccess (world_of p h) cell
  unfolding guest_base guest_end
  cell-may = let a = cell-place in (a.2, guest-true cell (omega (arith, a.0)) (omega (arith, a.1)))

  cell-free : is_fixed_dword p cell ≡ false
  cell-free = not-fixed p cell (formed-sizes formed) cell-place.0

  own-below : (a : ℕ) → IsTrue ((world_of p h).own a) → IsBelow a
  unfolding windows_base
  own-below a e = by (or_cases (is_private_dword h a) (is_fixed_dword p a) e)
    where
      by : (is_private_dword h a ≡ true) ⊎ (is_fixed_dword p a ≡ true) → a + 8 ≤ 2162688000
      by (inl x) = let r = within-parts (private_at h) private_size (a + 7) (private-bytes h a 7 x (omega arith)) in
          let l = below-windows h few in omega (arith, r.1)
      by (inr x) = let f = fixed-place p a (formed-sizes formed) x in omega arith

  calm : (x : Access) → Uses (λ a. IsTrue ((world_of p h).own a)) Nowhere x → IsCalm h x
  calm Quiet u = tt
  calm (Read a width v) u = (u.0, own-below a u.1)
  calm (Write a width v) u = absurd u.1

  front : Told p h limit s.log → trail (arrivals p h) s.log ≡ ms → IsFront (ms ++ mark_behind p c) (whole_way p)
  front told way = by (suc c == case_count p) refl
    where
      by : (b : Bool) → (suc c == case_count p) ≡ b → IsFront (ms ++ (if b then Halt ∷ [] else [])) (whole_way p)
      by true e =
          let same : suc c ≡ case_count p = eqb-true (suc c) (case_count p) e in
          let whole : way_to p (case_count p) 0 ++ (Halt ∷ []) ≡ whole_way p =
          ap (λ (l : List Mark). l ++ (Halt ∷ [])) (append-nil _) in (
            [],
            sym whole ∙ (ap (λ (k : ℕ). way_to p k 0 ++ (Halt ∷ [])) (sym same) ∙ sym
                (append-nil (ms ++ (Halt ∷ [])))),
          )
      by false e = subst (λ (l : List Mark). IsFront l (whole_way p)) (way ∙ sym (append-nil ms)) told.order

  module _ (ready : Ready p h lo q c o ms s) where
    value-at : (a : ℕ) → is_fixed_dword p a ≡ true → s.mem a ≡ image_dword p a
    value-at a e = ready.hold.fixed a e

    has : HasMasks p m h s.mem masks bytes
    has = record {
      registers = value-at masks site.fixed ∙ site.has.registers;
      fits = λ j l.
          subst (λ (v : ℕ). v < 2 ^ 64)
          (sym (value-at (bytes + (slice_index (owned p.cases h) j - windows_base)) (site.each j l)))
          (site.has.fits j l);
      dwords = λ j i l n. ap (λ (v : ℕ). byte_of v i)
          (value-at (bytes + (slice_index (owned p.cases h) j - windows_base)) (site.each j l)) ∙ site.has.dwords j i l
          n;
    }

    shaped : IsShapedMask p.cases m
    shaped = mask-at (IsShapedMask p.cases) p.masks.cases fit.each c m mask

    number-is : IsFound p m h s.mem (verdict_of_all s.mem p.cases h (save_at h 0) masks bytes)
    number-is = comparison-finds p formed h m shaped s.mem masks bytes has

    compares : (u : State) → HasVerdictOfAll p.cases h (save_at h 0) masks bytes cell s u
        → Since (Does s.pc (s.pc + 4 * length code) (Uses (λ a. IsTrue ((world_of p h).own a)) Nowhere)) s u
        → ComparesTo p h c m lo last (last + 4) s (written (sd 8 0 7) cell u)
    compares u g since = record {
      entries = since.entries;
      last = record {
        pc = u.pc;
        next = u.pc + 4;
        word = word_of (sd 8 0 7);
        access = Write cell 8 (get u.regs 8);
        regs = get u.regs;
      };
      log = ap (λ (l : List Entry). record {
        pc = u.pc;
        next = u.pc + 4;
        word = word_of (sd 8 0 7);
        access = Write cell 8 (get u.regs 8);
        regs = get u.regs;
      } ∷ l) since.log;
      each = each-to s.pc (s.pc + 4 * length code) lo last (Uses (λ a. IsTrue ((world_of p h).own a)) Nowhere)
          (IsCalm h) (omega (arith, ready.hold.pc)) (omega (arith, ready.hold.pc, site.long)) calm since.entries
          since.each;
      from = omega (arith, g.pc, ready.hold.pc, site.long);
      to = omega (arith, g.pc, ready.hold.pc, site.long);
      value = get u.regs 8;
      access = refl;
      found = subst (IsFound p m h s.mem) (sym g.number) number-is;
      leaves = record {
        pc = omega (arith, g.pc, ready.hold.pc, site.long);
        base = g.regs 31 (omega arith);
        exits = put_other u.mem cell (get u.regs 8) (private_at h + 256) (λ z. let a = cell-place.3 in
            omega arith) ∙ ap (λ (f : Table). f (private_at h + 256)) g.mem;
        fixed = λ a e. put_other u.mem cell (get u.regs 8) a (λ z. let f = fixed-place p a (formed-sizes formed) e in
            let b = cell-place.0 in omega arith) ∙ ap (λ (f : Table). f a) g.mem;
      };
    }

    runs : Takes (world_of p h) (λ t. Unit {0}) (ComparesTo p h c m lo last (last + 4) s)
        (compare_cost (passes p) (length (owned p.cases h))) s
    runs =
        let law = compare_all_runs p.cases h (save_at h 0) masks bytes cell (world_of p h) s formed.program.cases number
        (let a = cell-place.1 in omega arith) site.takes
        (subst (λ (a : ℕ). At (support_at p h) a code) (sym ready.hold.pc) site.code) in
        takes_more _ (omega arith)
        (takes_then {k = 1} (takes_map (λ t g. tt) (λ t g. g) (takes_since law)) (λ u g.
        step_sd {w = world_of p h} cell refl (ap (support_at p h) (omega (arith, g.0.pc, ready.hold.pc, site.long)) ∙
        site.store.0) (omega (arith, g.0.place, cell-place.1)) cell-may cell-free tt (Now (compares u g.0 g.1))))

pub case-judged : (p : Program) → CaseIsJudged p
case-judged p formed fit h number c lo last masks bytes m here mask site limit o s room ready passed told =
    compare-part p formed fit h number limit c lo last (last + 4) (compare_cost (passes p) (length (owned p.cases h))) o
    m here mask site.clear room (let x = site.long in omega arith) site.off site.starts site.halts (mark_behind p c)
    site.marks
    (front p formed fit h number c lo last masks bytes m here mask site limit o s told ready.hold.way)
    (case-behind p c here (let k = formed.program.cases.passes in omega arith)) s ready passed told
    (runs p formed fit h number c lo last masks bytes m here mask site limit o s ready)
