-- The planes of a case.
use Rattle.std.proofs.Common.{◌≡◌, ℕ, zero, suc, ◌<◌, List, [], ◌∷◌, Bool, Option, Some, refl, sym, ap, ◌∙◌, subst}
use Rattle.std.proofs.Common.{length}
use Rattle.std.proofs.Common.{get_or, arith}
use Rattle.std.specs.Prelude.{slice_get}
use Rattle.tm_plan_cases.specs.declared.cases.Case.{Case}
use Rattle.tm_plan_cases.specs.declared.cases.Stream.{Stream}
use Rattle.tm_plan_cases.specs.declared.program.Program.{Program}
use Rattle.tm_plan_cases.specs.Shaped.{IsProgram, IsShapedCase}
use Rattle.tm_plane.specs.Plane.{in_plane}
use Rattle.tm_race.specs.Masks.{AreStores, IsStores}
use Rattle.tm_base.proofs.ListLemmas.{all-at}
use Rattle.tm_world.proofs.Streams.{stream-case}
use Rattle.tm_world.specs.Place.{harts, case_count}
use Rattle.tm_plan_cases.specs.Streams.{stream_in}
use Rattle.tm_world.specs.Writers.{some_store_to, may_store}
use Rattle.tm_owing.specs.May.{IsOfCase, ArePlanes}
use Rattle.tm_owing.proofs.Kept.{element}

case-at : (cases : List Case) (c : ℕ) → c < length cases → (case : Case) × (slice_get cases c ≡ Some case)
case-at [] c l = absurd (omega (arith, l))
case-at (x ∷ cases) zero l = (x, refl)
case-at (x ∷ cases) (suc c) l = case-at cases c (omega (arith, l))

module _ (p : Program) (planes : List (List (List ℕ))) (c : ℕ) (ps : List (List ℕ)) (shaped : IsProgram p)
    (are : ArePlanes p planes) (l : c < case_count p) (at : ps ≡ get_or planes c ps) where
  -- one for each hart
  pub planes-long : length ps ≡ harts p
  planes-long =
      let (case, is) = case-at p.cases.cases c l in
      let stores = (element (IsOfCase p) (case_count p) planes c ps are l at).stores case is in
      stores.count ∙ (all-at (IsShapedCase p.cases) p.cases.cases c case shaped.cases.each is).streams

  -- where hart h may store in the case
  pub plane-stores : (h : ℕ) (plane : List ℕ) (b : ℕ) → h < harts p → plane ≡ get_or ps h plane
      → in_plane plane b ≡ may_store p.cases c h b
  plane-stores h plane b m there =
      let (case, is) = case-at p.cases.cases c l in
      let stores = (element (IsOfCase p) (case_count p) planes c ps are l at).stores case is in
      let long = (all-at (IsShapedCase p.cases) p.cases.cases c case shaped.cases.each is).streams in
      (element (IsStores case) (length case.streams) ps h plane stores (subst (λ (n : ℕ). h < n) (sym long) m)
      there).exact b
      ∙ sym (ap (some_store_to b) (stream-case p.cases c h case is))
