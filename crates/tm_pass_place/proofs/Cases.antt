-- The parts of each case stand in their places.
use Rattle.std.proofs.Common.{◌≡◌, ◌≢◌, ◌⊎◌, inl, inr, ℕ, suc, ◌+◌, ◌-◌, ◌*◌, ◌<◌, ◌≤◌, List, [], ◌∷◌, ◌++◌, length}
use Rattle.std.proofs.Common.{Option, refl, subst, arith, length-append}
use Rattle.tm_table.specs.declared.instr.Instr.{Instr}
use Rattle.tm_plan_cases.specs.declared.program.Program.{Program}
use Rattle.tm_plan_cases.specs.Shaped.{AreShaped}
use Rattle.tm_plan_map.specs.Map.{text_base, verdict_at, save_at}
use Rattle.tm_world.specs.Place.{harts, case_count, start_of, end_of, exit_of, halt_of}
use Rattle.tm_runs.specs.Runs.{At}
use Rattle.tm_runs.specs.World.{support_at}
use Rattle.tm_runs.proofs.Tables.{at_front, at_next}
use Rattle.tm_blocks_base.specs.Instrs.{sd}
use Rattle.tm_blocks_base.specs.Blocks.{load_registers, save_registers}
use Rattle.tm_blocks_base.proofs.Lengths.{length-save_registers}
use Rattle.tm_blocks_move.specs.Lines.{first_bytes, collect_all}
use Rattle.tm_blocks_compare.specs.Words.{compare_all, compare_all_but_last, case_masks, case_bytes}
use Rattle.tm_pass_text.specs.Words.{call, reset, aim, turn, case_before, case_behind, back_words}
use Rattle.tm_pass_text.proofs.Laying.{barrier, far-before, far-behind}
use Rattle.tm_pass_way.specs.Calm.{Clear, StreamClear}
use Rattle.tm_pass_way.proofs.Clears.{stream-clear}
use Rattle.tm_pass_text.specs.Hart.{IsBuilt, registers_at, first_at}
use Rattle.tm_pass_steps.specs.Sites.{CallSite}
use Rattle.tm_pass_steps.specs.Turning.{Plain}
use Rattle.tm_pass_steps.specs.Placed.{ResetPlaced, SavePlaced, CollectPlaced, TurnPlaced}
use Rattle.tm_pass_place.specs.Places.{first_long, collect_long}
use Rattle.tm_pass_place.proofs.Sites.{B, words, some, base, heads, spreads, next, start-is, ends-low, barrier-is}
use Rattle.tm_pass_place.proofs.Sites.{before-clear, behind-clear, code-before, code-behind}

-- behind the first of clear words no mark is at one of them
clear-plain : (p : Program) (h lo hi x : ℕ) → Clear p h lo hi → lo < x → x ≤ hi → Plain p h x
clear-plain p h lo hi x c l m = record {
  streams = λ d k. off d (c.streams d k);
  exit = by (exit_of p h) c.exit;
  halt = by (halt_of p h) c.halt;
}
  where
    off : (d : ℕ) → (hi < start_of p h d) ⊎ (end_of p h d ≤ lo) → (x < start_of p h d) ⊎ (end_of p h d < x)
    off d (inl a) = inl (omega arith)
    off d (inr a) = inr (omega arith)

    by : (mark : ℕ) → (hi < mark) ⊎ (mark < lo) → x ≢ mark
    by mark (inl a) z = omega arith
    by mark (inr a) z = omega arith

module _ (p : Program) (shaped : AreShaped p.cases) (is : IsBuilt p) (h : ℕ) (number : h < harts p) (c : ℕ) (few : c
    < case_count p) where
  abbrev t : ℕ → Option Instr
  t = support_at p h

  abbrev head : ℕ
  head = heads p shaped is h c

  abbrev first : List Instr
  first = first_bytes p.cases h (first_at p.cases c)

  abbrev load : List Instr
  load = load_registers (registers_at p.cases h c)

  abbrev gather : List Instr
  gather = collect_all p.cases h

  abbrev back : ℕ
  back = 4 * back_words (B p shaped is h) c (length (words p shaped is h c))

  abbrev pub compare-from : ℕ
  compare-from = end_of p h c + 172 + collect_long p h

  abbrev pub but-last : List Instr
  but-last = compare_all_but_last p.cases h (save_at h 0) (case_masks p.cases h c) (case_bytes p.cases c)
      (verdict_at c h)

  abbrev compared : List Instr
  compared = compare_all p.cases h (save_at h 0) (case_masks p.cases h c) (case_bytes p.cases c) (verdict_at c h)

  abbrev far : ℕ
  far = far-before p (B p shaped is) is (some p shaped is) h c

  abbrev far-on : ℕ
  far-on = far-behind p (B p shaped is) is (some p shaped is) h c

  -- ---- before the stream

  start : start_of p h c ≡ head + 4 + first_long p h c + 172
  start = start-is p shaped is h number c few

  reset-code : At t head (reset ∷ [])
  unfolding case_before
  reset-code = at_front t head (reset ∷ []) (first ++ (call far ∷ load)) (code-before p shaped is h number c few)

  rest-code : At t (head + 4) (first ++ (call far ∷ load))
  unfolding case_before
  rest-code = at_next t head (head + 4) (reset ∷ []) (first ++ (call far ∷ load)) 1 refl (omega arith)
      (code-before p shaped is h number c few)

  pub first-code : At t (head + 4) first
  first-code = at_front t (head + 4) first (call far ∷ load) rest-code

  on-code : At t (head + 4 + first_long p h c) (call far ∷ load)
  on-code = at_next t (head + 4) (head + 4 + first_long p h c) first (call far ∷ load) (length first) refl refl
      rest-code

  pub load-code : At t (head + 4 + first_long p h c + 4) load
  load-code = on-code.1

  pub reset-placed : ResetPlaced p h head (head + 4)
  reset-placed =
      record {
        code = reset-code;
        clear = before-clear p shaped is h number c few head (head + 4) (omega arith)
            (omega (arith, start));
        to = refl;
      }

  pub first-clear : Clear p h (head + 4) (head + 4 + first_long p h c)
  first-clear = before-clear p shaped is h number c few (head + 4) (head + 4 + first_long p h c) (omega arith)
      (omega (arith, start))

  pub load-clear : Clear p h (head + 4 + first_long p h c + 4) (start_of p h c - 4)
  load-clear = before-clear p shaped is h number c few (head + 4 + first_long p h c + 4) (start_of p h c - 4)
      (omega arith) (omega (arith, start))

  pub load-to : head + 4 + first_long p h c + 4 + 168 ≡ start_of p h c
  load-to = omega (arith, start)

  entry : barrier p (B p shaped is) is (some p shaped is) h ≡ halt_of p h + 4
  entry = barrier-is p shaped is h number

  below : end_of p h c < halt_of p h
  below = omega (arith, next p shaped is h number c few, ends-low p shaped is h number c few)

  behind : start_of p h c < end_of p h c
  behind = (spreads p shaped is).some h c number few

  pub call-site : CallSite p h (halt_of p h + 4) (head + 4 + first_long p h c) (head + 4 + first_long p h c + 4)
  unfolding text_base
  call-site =
      let place = head + 4 + first_long p h c in
      let clear = before-clear p shaped is h number c few place (place + 4) (omega arith) (omega (arith, start)) in
      record {
        far = far;
        code = on-code.0;
        reach = omega (arith, entry, start, below, behind);
        next = refl;
        even = omega arith;
        before = omega (arith, start, below, behind);
        streams = clear.streams;
      }

  -- ---- behind it

  after : heads p shaped is h (suc c) ≡ end_of p h c + 172 + collect_long p h + 4 * length compared
  after = omega (arith, next p shaped is h number c few, length-save_registers)

  some-compared : length compared ≡ length but-last + 1
  unfolding compare_all
  some-compared = length-append but-last (sd 8 0 7 ∷ [])

  save-code : At t (end_of p h c) save_registers
  unfolding case_behind
  save-code = at_front t (end_of p h c) save_registers (call far-on
      ∷ (aim ++ (gather ++ (turn p.cases.passes back ++ compared)))) (code-behind p shaped is h number c few)

  recall-code : At t (end_of p h c + 120) (call far-on ∷ (aim ++ (gather ++ (turn p.cases.passes back ++ compared))))
  unfolding case_behind
  recall-code = at_next t (end_of p h c) (end_of p h c + 120) save_registers (call far-on
      ∷ (aim ++ (gather ++ (turn p.cases.passes back ++ compared)))) 30 length-save_registers (omega arith)
      (code-behind p shaped is h number c few)

  aim-on : At t (end_of p h c + 124) (aim ++ (gather ++ (turn p.cases.passes back ++ compared)))
  aim-on = let e : end_of p h c + 120 + 4 ≡ end_of p h c + 124 = omega arith in
      subst (λ (a : ℕ). At t a (aim ++ (gather ++ (turn p.cases.passes back ++ compared)))) e recall-code.1

  gather-on : At t (end_of p h c + 124 + 24) (gather ++ (turn p.cases.passes back ++ compared))
  gather-on = at_next t (end_of p h c + 124) (end_of p h c + 124 + 24) aim (gather
      ++ (turn p.cases.passes back ++ compared)) 6 refl (omega arith) aim-on

  turn-on : At t (end_of p h c + 148 + collect_long p h) (turn p.cases.passes back ++ compared)
  turn-on = at_next t (end_of p h c + 124 + 24) (end_of p h c + 148 + collect_long p h) gather (turn p.cases.passes back
      ++ compared) (length gather) refl (omega arith) gather-on

  compare-on : At t compare-from compared
  compare-on = at_next t (end_of p h c + 148 + collect_long p h) compare-from (turn p.cases.passes back) compared 6 refl
      (omega arith) turn-on

  pub save-placed : SavePlaced p h c (end_of p h c + 120)
  save-placed =
      record {
        code = save-code;
        clear = behind-clear p shaped is h number c few (end_of p h c) (end_of p h c + 120)
            (omega arith) (omega (arith, after));
        to = refl;
      }

  pub recall-site : CallSite p h (halt_of p h + 4) (end_of p h c + 120) (end_of p h c + 124)
  unfolding text_base
  recall-site =
      let clear = behind-clear p shaped is h number c few (end_of p h c + 120) (end_of p h c + 124) (omega arith)
      (omega (arith, after)) in
      let low = ends-low p shaped is h number c few in
      let a = is.starts h c number few in
      let b = is.ends h c number few in
      record {
        far = far-on;
        code = recall-code.0;
        reach = omega (arith, entry, after, low, a, b, length-save_registers);
        next = omega arith;
        even = omega (arith, a, b);
        before = omega (arith, after, low);
        streams = clear.streams;
      }

  pub collect-placed : CollectPlaced p h (end_of p h c + 124) (end_of p h c + 148 + collect_long p h)
  collect-placed = record {
    aims = at_front t (end_of p h c + 124) aim (gather ++ (turn p.cases.passes back ++ compared)) aim-on;
    code = at_front t (end_of p h c + 124 + 24) gather (turn p.cases.passes back ++ compared) gather-on;
    clear = behind-clear p shaped is h number c few (end_of p h c + 124) (end_of p h c + 124 + 24 + 4 * length gather)
        (omega arith) (omega (arith, after));
    to = omega arith;
  }

  pub turn-placed : TurnPlaced p h (end_of p h c + 148 + collect_long p h) (head + 4) compare-from
  turn-placed =
      let lo = end_of p h c + 148 + collect_long p h in
      let a = is.starts h c number few in
      let b = is.ends h c number few in
      record {
        back = back;
        site = record {
          code = at_front t lo (turn p.cases.passes back) compared turn-on;
          some = omega arith;
          reach = omega (arith, a, b, length-save_registers);
          clear = behind-clear p shaped is h number c few lo (lo + 20) (omega arith) (omega (arith, after));
          first = clear-plain p h head (head + 4) (head + 4) (before-clear p shaped is h number c few head (head + 4)
              (omega arith) (omega (arith, start))) (omega arith) (omega arith);
          behind = clear-plain p h lo (lo + 24) (lo + 24)
              (behind-clear p shaped is h number c few lo (lo + 24) (omega arith) (omega (arith, after, some-compared)))
              (omega arith) (omega arith);
        };
        to = omega arith;
      }

  pub streams-clear : StreamClear p h c
  streams-clear = stream-clear p (base p shaped is) (heads p shaped is) (spreads p shaped is) h number c few

  -- ---- the comparison

  pub compare-code : At t compare-from but-last
  unfolding compare_all
  compare-code = at_front t compare-from but-last (sd 8 0 7 ∷ []) compare-on

  pub store-code : At t (compare-from + 4 * length but-last) (sd 8 0 7 ∷ [])
  unfolding compare_all
  store-code = at_next t compare-from (compare-from + 4 * length but-last) but-last (sd 8 0 7 ∷ []) (length but-last)
      refl refl compare-on

  pub compare-to : compare-from + 4 * length but-last + 4 ≡ heads p shaped is h (suc c)
  compare-to = omega (arith, after, some-compared)
