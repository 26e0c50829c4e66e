-- A built text has the barrier of each hart behind its halt mark.
use Rattle.std.proofs.Common.{◌≡◌, inr, ℕ, suc, ◌+◌, ◌*◌, ◌<◌, ◌≤◌, [], ◌∷◌, ◌++◌, length, refl, ◌∙◌, subst, arith}
use Rattle.std.proofs.Common.{length-append}
use Rattle.std.specs.Prelude.{slice_index_or}
use Rattle.tm_plan_cases.specs.declared.program.Program.{Program}
use Rattle.tm_plan_map.specs.Map.{text_base}
use Rattle.tm_world.specs.Place.{harts, case_count, end_of, halt_of}
use Rattle.tm_runs.specs.Runs.{At}
use Rattle.tm_runs.specs.World.{support_at}
use Rattle.tm_runs.proofs.Arrivals.{stream-none, inside-false}
use Rattle.tm_blocks_base.specs.Instrs.{fence, go_to}
use Rattle.tm_asm.specs.Sheet.{AllFit}
use Rattle.tm_barrier.specs.Words.{meet, barrier}
use Rattle.tm_pass_text.specs.Words.{streams_of, head_of, base_of}
use Rattle.tm_pass_text.proofs.Laying.{rest-at, spread, head}
use Rattle.tm_pass_text.proofs.Spreads.{head-up}
use Rattle.tm_pass_text.proofs.Stands.{stands-right}
use Rattle.tm_pass_text.specs.Hart.{blocks_of, IsBuilt}
use Rattle.tm_pass_steps.specs.Sites.{BarrierSite}
use Rattle.tm_pass_steps.specs.Building.{BarrierIsPlaced}
use Rattle.tm_pass_steps.proofs.Placing.{IsOutside, stands-code}
use Rattle.tm_table.specs.Words.{words_of}

module _ (p : Program) (is : IsBuilt p) (some : (h c : ℕ) → h < harts p → c < case_count p
    → 1 ≤ length (slice_index_or (streams_of p.cases h) c [])) (h : ℕ) (number : h < harts p)
    (fits : AllFit (barrier h (harts p))) where
  abbrev C : ℕ
  C = case_count p

  -- the barrier's first word, and its address
  abbrev first : ℕ
  first = head p (blocks_of p.cases) is some h C + 1

  entry-is : text_base + 4 * first ≡ halt_of p h + 4
  entry-is = omega (arith, is.halts h number)

  ends-low : (d : ℕ) → d < C → end_of p h d < halt_of p h
  ends-low d l =
      let s = spread p (blocks_of p.cases) is some in
      omega (
        arith,
        s.end h d number l,
        head-up p (base_of (blocks_of p.cases) p.cases)
            (head_of (blocks_of p.cases) p.cases) s h (suc d) C number (omega arith) (omega arith),
        s.halt h number,
      )

  outside : (j : ℕ) → IsOutside p h (text_base + 4 * (first + j))
  outside j = (
    stream-none p h (text_base + 4 * (first + j)) (λ d l. inside-false p h d (text_base + 4 * (first + j))
        (inr (let e = entry-is in let m = ends-low d l in omega arith))),
    (λ z. let e = entry-is in omega arith),
  )

  code : At (support_at p h) (halt_of p h + 4) (barrier h (harts p))
  code =
      subst (λ (a : ℕ). At (support_at p h) a (barrier h (harts p))) entry-is
      (stands-code p h (barrier h (harts p)) first fits
      (stands-right p.text (0x0000006F ∷ []) (words_of (barrier h (harts p))) (head p (blocks_of p.cases) is some h C)
      first refl (rest-at p (blocks_of p.cases) is some h number)) (λ j l. outside j))

  long : length (barrier h (harts p)) ≡ length (meet h (harts p)) + 2
  unfolding barrier
  long = length-append (meet h (harts p) ++ (fence ∷ [])) (go_to 1 ∷ []) ∙ omega (
    arith,
    length-append (meet h (harts p)) (fence ∷ []),
  )

  pub site : BarrierSite p h (halt_of p h + 4)
  site = record {
    code = code;
    exit = omega (arith, is.exits h number, long);
    some = λ d l. let s = spread p (blocks_of p.cases) is some in omega (arith, s.some h d number l);
    streams = λ d l. let m = ends-low d l in omega arith;
    halt = omega arith;
  }

pub barrier-placed : (p : Program) → BarrierIsPlaced p
barrier-placed p is some h number fits = site p is some h number fits
