use Rattle.tm_place.proofs.PlacementLemmas.{placement-three}
use Rattle.tm_cases_numbers.proofs.places.placement.Goals as goal

pub invariant_of-result : goal.invariant_of-result
invariant_of-result c = record {
  limits =
      placement-three c.args.harts c.args.line c.part_size.result c.window.result c.window-2.result
      c.window-3.result c.requires.some c.requires.few c.requires.line c.part_size.ensures.value
      c.window.ensures c.window-2.ensures c.window-3.ensures;
}
