-- Shaped cases have few cases, and their streams few slots.
use Rattle.std.proofs.Common.{◌≡◌, ◌≤◌, ◌^◌, refl, arith, Option, Some, None}
use Rattle.std.specs.Prelude.{slice_get}
use Rattle.tm_base.proofs.ListLemmas.{all-at}
use Rattle.tm_plan_cases.specs.declared.cases.Cases.{Cases}
use Rattle.tm_plan_cases.specs.declared.cases.Case.{Case}
use Rattle.tm_plan_cases.specs.declared.cases.Stream.{Stream}
use Rattle.tm_plan_cases.specs.Shaped.{AreShaped, IsShapedCase}
use Rattle.tm_plan_cases.specs.Streams.{stream_in}
use Rattle.tm_fault.specs.Script.{slot_count, HasFewSlots}

pub few_slots : (cases : Cases) → AreShaped cases → HasFewSlots cases
few_slots cases shaped c h = go (slice_get cases.cases c) refl
  where
    in_case : (case : Case) → slice_get cases.cases c ≡ Some case → (o : Option Stream) → slice_get case.streams h ≡ o
        → slot_count o ≤ 2 ^ 32
    in_case case e None is = omega arith
    in_case case e (Some s) is =
        let few = ((all-at (IsShapedCase cases) cases.cases c case shaped.each e).each h s is).few in omega (arith, few)

    go : (o : Option Case) → slice_get cases.cases c ≡ o → slot_count (stream_in cases c h) ≤ 2 ^ 32
    go None e = rw e (omega arith)
    go (Some case) e = rw e (in_case case e (slice_get case.streams h) refl)

pub few_harts : (cases : Cases) → AreShaped cases → cases.harts ≤ 2 ^ 32
few_harts cases shaped = let few = shaped.harts.1 in omega (arith, few)
