use Rattle.std.proofs.Common.{◌∙◌, sym, refl}
use Rattle.tm_rules_slot.specs.Teams.{harts_of}
use Rattle.tm_place.proofs.PlacementLemmas.{placement-three}
use Rattle.tm_place.specs.Placing.{shape_of}
use Rattle.tm_rules_first.proofs.SoundLemmas.{numbered-sound, system-harts}
use Rattle.tm_rules_first.proofs.place.placement.Goals as goal

pub invariant_of-result : goal.invariant_of-result
invariant_of-result c =
    let topo = c.args.topo.now in
    let harts = system-harts topo c.requires.system in
    let sound = numbered-sound topo c.args.windows.now c.requires.sound in
    record {
      limits = placement-three (harts_of topo) topo.line c.part_size.result c.numbered.result c.numbered-2.result
          c.numbered-3.result harts.0 harts.1 c.requires.system.line c.part_size.ensures.value
          (λ v e. sound 0 v (sym c.numbered.ensures ∙ e)) (λ v e. sound 1 v (sym c.numbered-2.ensures ∙ e))
          (λ v e. sound 2 v (sym c.numbered-3.ensures ∙ e));
    }

pub returns-clause-shape : goal.returns-clause-shape
unfolding shape_of
returns-clause-shape c = rw (c.numbered.ensures, c.numbered-2.ensures, c.numbered-3.ensures) refl
