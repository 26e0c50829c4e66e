use Rattle.std.proofs.Common.{ap, refl}
use Rattle.tm_top_line.specs.declared.fault.AnyFault.TheVariants.{Input}
use Rattle.tm_top_line.proofs.Named.{input_calm}
use Rattle.tm_top_owed.proofs.Built.{built_of_texts, image_refused}
use Rattle.tm_top_build.proofs.image.image_of.Goals as goal

pub returns-in-Err-Input-clause-err : goal.returns-in-Err-Input-clause-err
returns-in-Err-Input-clause-err c =
    let told = rw (c.in-Err-Input.field-0-is, c.as_slice.ensures, c.as_slice-2.ensures) at c.in-Err-Input.ensures.err
    in (
      c.in-Err-Input.fault,
      image_refused c.args.topo.now c.args.template.now c.args.seed c.in-Err-Input.fault told.1,
      refl,
      ap Input c.in-Err-Input.fault-is,
      input_calm c.in-Err-Input.fault told.0,
    )

pub returns-in-Ok-line_of-clause-ok : goal.returns-in-Ok-line_of-clause-ok
returns-in-Ok-line_of-clause-ok c = record {
  program = c.in-Ok.image.program;
  its = built_of_texts c.args.topo.now c.args.template.now c.args.seed c.in-Ok.image.program c.in-Ok.image.file
      (rw (c.as_slice.ensures, c.as_slice-2.ensures) at c.in-Ok.ensures.program)
      (rw (c.as_slice.ensures, c.as_slice-2.ensures) at c.in-Ok.ensures.ok)
      (rw (c.as_slice.ensures, c.as_slice-2.ensures) at c.in-Ok.ensures.file) c.in-Ok.ensures.sound;
  its_line = rw c.as_slice-3.ensures at c.in-Ok-line_of.ensures;
}
