use Rattle.std.proofs.Common.{◌∙◌, sym, ap, subst, arith}
use Rattle.tm_plan_cases.specs.declared.program.Program.{Program}
use Rattle.tm_world.specs.Sound.{Sound}
use Rattle.tm_image_build.specs.Built.{image_file}
use Rattle.tm_image_build.proofs.BuildLemmas.{built_ok}
use Rattle.tm_image_build.proofs.Opening.{of_its_plan}
use Rattle.tm_image_build.proofs.image.build.Goals as goal

pub invariant_of-result : goal.invariant_of-result
invariant_of-result c =
    let same = c.in_ok-program-2.ensures.program in
    let its = same ∙ c.in_ok-program.ensures.program in
    let file = c.in_ok-program-2.ensures.file ∙ ap
    (λ (p : Program). image_file p c.args.topo.now c.args.template.now c.args.seed) (sym same) in
    record {
      is_sound = ∣ subst Sound (sym same) c.in_ok-program.ensures.sound ∣₁;
      of_its_plan = ∣ of_its_plan c.args.topo.now c.args.template.now c.args.seed c.in-Ok.test
          c.in_ok-program-2.program c.in_ok-program-2.file c.in-Ok.ensures.ruled (omega arith) c.requires.topo
          c.requires.template c.in-Ok.ensures.ok its file ∣₁;
    }

pub returns-clause-ok : goal.returns-clause-ok
returns-clause-ok c =
    let same = c.in_ok-program-2.ensures.program in
    let file = c.in_ok-program-2.ensures.file ∙ ap
    (λ (p : Program). image_file p c.args.topo.now c.args.template.now c.args.seed) (sym same) in
    built_ok c.args.topo.now c.args.template.now c.args.seed c.in-Ok.test c.in_ok-program-2.program
    c.in_ok-program-2.file
    c.in-Ok.ensures.ok (same ∙ c.in_ok-program.ensures.program) file
