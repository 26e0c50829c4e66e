-- A fault in which want of memory doesn't stand has a line.
use Rattle.std.proofs.Common.{◌≡◌, ◌≢◌, false, refl}
use Rattle.tm_lex.specs.declared.token.LexFault.{LexFault}
use Rattle.tm_lex.specs.declared.token.LexFault.TheVariants as lex
use Rattle.tm_topo.specs.declared.system.TopoFault.{TopoFault}
use Rattle.tm_topo.specs.declared.system.TopoFault.TheVariants as topo
use Rattle.tm_tmpl_types.specs.declared.template.TmplFault.{TmplFault}
use Rattle.tm_tmpl_types.specs.declared.template.TmplFault.TheVariants as tmpl
use Rattle.tm_refusals.specs.declared.elf.ElfFault.{ElfFault}
use Rattle.tm_refusals.specs.declared.elf.ElfFault.TheVariants as elf
use Rattle.tm_refusals.specs.declared.inputs.InputFault.{InputFault}
use Rattle.tm_refusals.specs.declared.inputs.InputFault.TheVariants as input
use Rattle.tm_refusals.specs.Named.{IsNamed}
use Rattle.tm_refusals.specs.declared.image.ImageFault.{ImageFault}
use Rattle.tm_refusals.specs.declared.image.ImageFault.TheVariants as image
use Rattle.tm_refusals.specs.Named.{IsNamedFault}
use Rattle.tm_top_line.specs.declared.fault.AnyFault.TheVariants as any
use Rattle.tm_top_line.specs.Inputs.{input_wants}
use Rattle.tm_top_line.specs.Lines.{wants_memory}

topo_calm : (f : TopoFault) → IsNamed (input.Topo f) → input_wants (input.Topo f) ≡ false
topo_calm topo.NotToml h = refl
topo_calm (topo.UnknownKey key) h = refl
topo_calm (topo.Missing key) h = refl
topo_calm (topo.WrongKind key) h = refl
topo_calm (topo.OutOfRange key value) h = refl
topo_calm (topo.TooManyHarts product) h = refl
topo_calm topo.NoMemory h = absurd h

lex_calm : (f : LexFault) → IsNamed (input.Tmpl (tmpl.Lex f)) → input_wants (input.Tmpl (tmpl.Lex f)) ≡ false
lex_calm (lex.BadByte pos byte) h = refl
lex_calm (lex.LongWord pos) h = refl
lex_calm lex.NoMemory h = absurd h

tmpl_calm : (f : TmplFault) → IsNamed (input.Tmpl f) → input_wants (input.Tmpl f) ≡ false
tmpl_calm (tmpl.Lex fault) h = lex_calm fault h
tmpl_calm (tmpl.Early what) h = refl
tmpl_calm (tmpl.Expected pos what) h = refl
tmpl_calm tmpl.NoMemory h = absurd h

-- the fault of an input
pub input_calm : (f : InputFault) → IsNamed f → input_wants f ≡ false
input_calm (input.Topo fault) h = topo_calm fault h
input_calm (input.Tmpl fault) h = tmpl_calm fault h
input_calm (input.Rule fault) h = refl

elf_calm : (f : ElfFault) → IsNamedFault (image.Elf f) → wants_memory (any.Image (image.Elf f)) ≡ false
elf_calm (elf.Short have) h = refl
elf_calm elf.BadMagic h = refl
elf_calm (elf.NotRiscv machine) h = refl
elf_calm (elf.NotExec kind) h = refl
elf_calm (elf.BadHeader field) h = refl
elf_calm (elf.BadSegment index) h = refl
elf_calm elf.NoPlan h = refl
elf_calm (elf.BadSymbol index) h = refl
elf_calm (elf.Differs offset) h = refl
elf_calm elf.NoMemory h = absurd h

-- the fault of an image
pub image_calm : (f : ImageFault) → IsNamedFault f → f ≢ image.NoMemory → wants_memory (any.Image f) ≡ false
image_calm (image.Elf fault) h some = elf_calm fault h
image_calm (image.Inputs fault) h some = input_calm fault h
image_calm (image.Differs offset) h some = refl
image_calm image.NoMemory h some = absurd (some refl)
