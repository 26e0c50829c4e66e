-- A built text has each part of each hart's program in its place.
use Rattle.std.proofs.Common.{◌≡◌, ◌⊎◌, inl, inr, ℕ, zero, suc, ◌+◌, ◌-◌, ◌*◌, ◌<◌, ◌≤◌, Bool, true, false, ◌==◌}
use Rattle.std.proofs.Common.{eqb-true, [], ◌∷◌, ◌++◌, length, Option, Some, refl, sym, ap, ◌∙◌, subst, arith}
use Rattle.std.specs.Prelude.{slice_get, if◌then◌else◌}
use Rattle.std.proofs.lemmas.Bool.{cases_lt, eqb-false}
use Rattle.tm_base.proofs.ListLemmas.{get-some}
use Rattle.tm_table.specs.declared.instr.Instr.{Instr}
use Rattle.tm_plan_cases.specs.declared.masks.CaseMask.{CaseMask}
use Rattle.tm_plan_cases.specs.declared.cases.Case.{Case}
use Rattle.tm_plan_cases.specs.declared.cases.Cases.{Cases}
use Rattle.tm_plan_cases.specs.declared.program.Program.{Program}
use Rattle.tm_plan_cases.specs.Shaped.{IsProgram, IsTyped}
use Rattle.tm_plan_cases.specs.Tables.{table_bytes}
use Rattle.tm_plan_map.specs.Map.{text_base, private_at}
use Rattle.tm_world.specs.Place.{harts, case_count, start_of, end_of, exit_of, halt_of}
use Rattle.tm_world.specs.Marks.{Halt, arrivals}
use Rattle.tm_runs.specs.Runs.{At}
use Rattle.tm_runs.specs.World.{support_at}
use Rattle.tm_runs.proofs.Arrivals.{Quiet, quiet-off, arrivals-none, arrivals-halt}
use Rattle.tm_runs.proofs.Tables.{at_front, at_next}
use Rattle.tm_runs.proofs.Worlds.{sizes-of}
use Rattle.tm_blocks_base.specs.Blocks.{constant}
use Rattle.tm_blocks_base.proofs.Lengths.{length-constant}
use Rattle.tm_blocks_compare.specs.Words.{case_masks, case_bytes}
use Rattle.tm_blocks_compare.proofs.Places.{comparing_in}
use Rattle.tm_pass_text.specs.Words.{Blocks, gate, hart_size, streams_of, place_of, base_of}
use Rattle.tm_pass_text.proofs.Laying.{opening-at}
use Rattle.tm_pass_way.specs.Calm.{Clear}
use Rattle.tm_pass_way.specs.Meets.{Halts}
use Rattle.tm_pass_way.proofs.Clears.{clear-opening, halts}
use Rattle.tm_pass_text.specs.Hart.{IsBuilt, registers_at, first_at}
use Rattle.tm_pass_steps.specs.Beginning.{GateSite}
use Rattle.tm_pass_steps.specs.Judging.{mark_behind}
use Rattle.tm_pass_steps.specs.Placed.{HartPlaced, BeginPlaced, ComparePlaced}
use Rattle.tm_pass_steps.proofs.Building.{barrier-placed}
use Rattle.tm_pass_steps.proofs.Placing.{stands-code}
use Rattle.tm_pass_place.specs.Places.{places_of}
use Rattle.tm_pass_place.specs.Placed.{HartsArePlaced}
use Rattle.tm_pass_place.proofs.Fits.{all-fit}
use Rattle.tm_pass_place.proofs.Sizes.{fits-opening, fits-barrier}
use Rattle.tm_pass_place.proofs.Sites.{B, some, base, heads, spreads, up, ends-low, clear-outside, behind-clear}
use Rattle.tm_pass_place.proofs.Cases.{compare-from, but-last, reset-placed, first-code, first-clear, load-code}
use Rattle.tm_pass_place.proofs.Cases.{load-clear, load-to, call-site, streams-clear, save-placed, recall-site}
use Rattle.tm_pass_place.proofs.Cases.{collect-placed, turn-placed, compare-code, store-code, compare-to}
use Rattle.tm_pass_place.proofs.Tables.{whole, first-table, register-table, mask-fixed, byte-fixed, has-masks}

-- ---- where harts begin

place-up : (blocks : ℕ → Blocks) (cases : Cases) (g h : ℕ) → g ≤ h → place_of blocks cases g ≤ place_of blocks cases h
place-up blocks cases g zero l = let e : g ≡ zero = omega arith in omega (arith, ap (place_of blocks cases) e)
place-up blocks cases g (suc h) l = by (cases_lt g (suc h)) (λ k. place-up blocks cases g h k)
  where
    by : (g < suc h) ⊎ (suc h ≤ g) → (g ≤ h → place_of blocks cases g ≤ place_of blocks cases h)
        → place_of blocks cases g ≤ place_of blocks cases (suc h)
    by (inl x) k = let a = k (omega arith) in omega arith
    by (inr x) k = let e : g ≡ suc h = omega arith in omega (arith, ap (place_of blocks cases) e)

module _ (p : Program) (program : IsProgram p) (typed : IsTyped p) (is : IsBuilt p) (tables : p.tables
    ≡ table_bytes p.cases p.masks) (h : ℕ) (number : h < harts p) where
  abbrev b : ℕ → ℕ
  b = base_of (B p program.cases is) p.cases

  abbrev far : ℕ → ℕ
  far g = 4 * (hart_size (B p program.cases is g) (streams_of p.cases g) - 2)

  abbrev t : ℕ → Option Instr
  t = support_at p h

  some-case : 1 ≤ case_count p
  some-case = program.cases.count.0

  head-is : b h + 56 ≡ heads p program.cases is h 0
  head-is = omega arith

  opening-clear : Clear p h text_base (b h + 56)
  opening-clear =
      subst (λ (a : ℕ). Clear p h text_base a) (sym head-is)
      (clear-opening p (base p program.cases is) (heads p program.cases is) (spreads p program.cases is) h number
      text_base some-case)

  -- the gate of a hart up to h, and its opening
  opening-code : (g : ℕ) → g ≤ h → At t (b g) (gate g (far g) ++ constant 31 (private_at g))
  opening-code g l =
      let m : g < harts p = omega arith in
      let code = gate g (far g) ++ constant 31 (private_at g) in
      let low = place-up (B p program.cases is) p.cases g h l in
      stands-code p h code (place_of (B p program.cases is) p.cases g)
      (all-fit code (fits-opening p.cases program.cases g m))
      (opening-at p (B p program.cases is) is (some p program.cases is) g m)
      (λ j k. clear-outside p h text_base (b h + 56) (text_base + 4 * (place_of (B p program.cases is) p.cases g + j))
      opening-clear (omega arith) (omega (arith, length-constant 31 (private_at g))))

  gates : GateSite p h b far
  gates = record {
    first = omega arith;
    gates = λ g l. at_front t (b g) (gate g (far g)) (constant 31 (private_at g)) (opening-code g l);
    next = λ g l. omega arith;
    some = λ g l. omega arith;
    opening = at_next t (b h) (b h + 12) (gate h (far h)) (constant 31 (private_at h)) 3 refl (omega arith)
        (opening-code h (omega arith));
  }

  begin : BeginPlaced p h (heads p program.cases is h 0)
  begin = record { base = b; far = far; gates = gates; clear = opening-clear; to = head-is }

  -- ---- one case

  module _ (c : ℕ) (few : c < case_count p) where
    case-at : (case : Case) × (slice_get p.cases.cases c ≡ Some case)
    case-at = get-some p.cases.cases c few

    mask-at : (m : CaseMask) × (slice_get p.masks.cases c ≡ Some m)
    mask-at = get-some p.masks.cases c (omega (arith, few, program.masks.count))

    abbrev last : ℕ
    last = compare-from p program.cases is h number c few + 4 * length (but-last p program.cases is h number c few)

    to : last + 4 ≡ heads p program.cases is h (suc c)
    to = compare-to p program.cases is h number c few

    -- the other streams' marks lie before or behind
    off : (d : ℕ) → d < case_count p → (last + 4 < start_of p h d) ⊎ (end_of p h d < last + 4)
    off d k = by (cases_lt c d)
      where
        by : (c < d) ⊎ (d ≤ c) → (last + 4 < start_of p h d) ⊎ (end_of p h d < last + 4)
        by (inl x) = inl (omega (
          arith,
          to,
          up p program.cases is h number (suc c) d (omega arith) (omega arith),
          (spreads p program.cases is).start h d number k,
        ))
        by (inr x) = inr (omega (
          arith,
          to,
          up p program.cases is h number (suc d) (suc c) (omega arith) (omega arith),
          (spreads p program.cases is).end h d number k,
        ))

    halt-low : last + 4 ≤ halt_of p h
    halt-low = omega (arith, to, ends-low p program.cases is h number c few)

    exit-high : halt_of p h < exit_of p h
    exit-high = (spreads p program.cases is).exit h number

    at-halt : last + 4 ≡ halt_of p h → suc c ≡ case_count p
    at-halt z = by (cases_lt (suc c) (case_count p))
      where
        by : (suc c < case_count p) ⊎ (case_count p ≤ suc c) → suc c ≡ case_count p
        by (inl x) = absurd (omega (
          arith,
          z,
          to,
          is.halts h number,
          (spreads p program.cases is).start h (suc c) number x,
          (spreads p program.cases is).some h (suc c) number x,
          (spreads p program.cases is).end h (suc c) number x,
          up p program.cases is h number (suc (suc c)) (case_count p) (omega arith) (omega arith),
        ))
        by (inr x) = omega arith

    quiet : (d : ℕ) → d < case_count p → Quiet p h last (last + 4) d
    quiet d k = quiet-off p h last (last + 4) d (let a = (spreads p program.cases is).some h d number k in
        omega arith) (off d k)

    marks : arrivals p h last (last + 4) ≡ mark_behind p c
    marks = by (suc c == case_count p) refl
      where
        by : (e : Bool) → (suc c == case_count p) ≡ e → arrivals p h last (last + 4) ≡ (if e then Halt ∷ [] else [])
        by true e =
            let n = eqb-true (suc c) (case_count p) e in
            arrivals-halt p h last (last + 4) quiet (λ z. let a = halt-low in let g = exit-high in
            omega arith) (to ∙ (ap (heads p program.cases is h) n ∙ sym (is.halts h number)))
        by false e = arrivals-none p h last (last + 4) quiet (λ z. let a = halt-low in let g = exit-high in
            omega arith) (λ z. eqb-false (suc c) (case_count p) e (at-halt z))

    compare : (m : CaseMask) → slice_get p.masks.cases c ≡ Some m
        → ComparePlaced p m h c (compare-from p program.cases is h number c few) (heads p program.cases is h (suc c))
    compare m e = record {
      last = last;
      masks = case_masks p.cases h c;
      bytes = case_bytes p.cases c;
      site = record {
        code = compare-code p program.cases is h number c few;
        long = refl;
        store = store-code p program.cases is h number c few;
        clear = behind-clear p program.cases is h number c few (compare-from p program.cases is h number c few) last
            (omega arith) (omega (arith, to));
        off = λ z. let a = halt-low in let g = exit-high in omega arith;
        starts = λ d k z. by d k z (off d k);
        halts = at-halt;
        marks = marks;
        takes = comparing_in p h c (sizes-of p program typed) program.cases number few
            (whole p program typed tables c case-at.0 m case-at.1 e);
        fixed = mask-fixed p program typed tables c case-at.0 m case-at.1 e h number;
        each = λ j l. byte-fixed p program typed tables c case-at.0 m case-at.1 e h j l;
        has = has-masks p program typed tables c case-at.0 m case-at.1 e h number;
      };
      to = to;
    }
      where
        by : (d : ℕ) → d < case_count p → last + 4 ≡ start_of p h d → (last + 4 < start_of p h d)
            ⊎ (end_of p h d < last + 4) → ⊥
        by d k z (inl x) = omega arith
        by d k z (inr x) = let a = (spreads p program.cases is).some h d number k in omega arith

  pub placed : HartPlaced p h (places_of p h)
  placed = record {
    entry = halt_of p h + 4;
    barrier = barrier-placed p is (some p program.cases is) h number
        (all-fit _ (fits-barrier p.cases program.cases h number));
    begin = begin;
    reset = λ c l. reset-placed p program.cases is h number c l;
    first = λ c l. record {
      from = first_at p.cases c;
      table = first-table p program typed tables c (case-at c l).0 (mask-at c l).0 (case-at c l).1 (mask-at c l).1;
      code = first-code p program.cases is h number c l;
      clear = first-clear p program.cases is h number c l;
      to = refl;
    };
    calls = λ c l. call-site p program.cases is h number c l;
    load = λ c l. record {
      table = registers_at p.cases h c;
      registers = register-table p program typed tables c (case-at c l).0 (mask-at c l).0 (case-at c l).1
          (mask-at c l).1 h number;
      code = load-code p program.cases is h number c l;
      to = load-to p program.cases is h number c l;
      clear = load-clear p program.cases is h number c l;
    };
    streams = λ c l. streams-clear p program.cases is h number c l;
    save = λ c l. save-placed p program.cases is h number c l;
    recalls = λ c l. recall-site p program.cases is h number c l;
    collect = λ c l. collect-placed p program.cases is h number c l;
    turn = λ c l. turn-placed p program.cases is h number c l;
    compare = λ c m l e. compare c l m e;
  }

  pub at-halt-mark : Halts p h (places_of p h)
  at-halt-mark = halts p (base p program.cases is) (heads p program.cases is) (spreads p program.cases is) h number
      (places_of p h) refl (λ z. let a = is.halts h number in omega arith)

pub harts-placed : (p : Program) → HartsArePlaced p
harts-placed p program typed is tables h number = (
  placed p program typed is tables h number,
  at-halt-mark p program typed is tables h number,
)
