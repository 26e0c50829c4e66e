use Rattle.tm_image_build.proofs.NameLemmas.{parts-writable}
use Rattle.tm_image_build.proofs.image.written.Goals as goal

pub write_elf-requires : goal.write_elf-requires
write_elf-requires c =
    parts-writable c.args.program c.args.topo.now c.args.template.now c.args.seed c.in_ok-copy_of.field-0
    c.in_ok-copy_of-2.field-0 c.in_ok-symbols.symbols
    c.in_ok-copy_of.ensures c.in_ok-copy_of-2.ensures c.in_ok-symbols.ensures c.requires.program c.requires.topo
    c.requires.template
