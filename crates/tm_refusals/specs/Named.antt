-- Faults in which no want of memory stands. Source: this project.
use Rattle.tm_lex.specs.declared.token.LexFault.TheVariants as lex
use Rattle.tm_topo.specs.declared.system.TopoFault.TheVariants as topo_fault
use Rattle.tm_tmpl_types.specs.declared.template.TmplFault.TheVariants as tmpl_fault
use Rattle.tm_refusals.specs.declared.elf.ElfFault.TheVariants as elf_fault
use Rattle.tm_refusals.specs.declared.inputs.InputFault.{InputFault}
use Rattle.tm_refusals.specs.declared.inputs.InputFault.TheVariants.{Topo, Tmpl}
use Rattle.tm_refusals.specs.declared.image.ImageFault.{ImageFault}
use Rattle.tm_refusals.specs.declared.image.ImageFault.TheVariants.{Elf, Inputs}

-- want of memory is no fault of an input (this project)
abbrev pub IsNamed : InputFault → Type 0
IsNamed (Topo topo_fault.NoMemory) = ⊥
IsNamed (Tmpl tmpl_fault.NoMemory) = ⊥
IsNamed (Tmpl (tmpl_fault.Lex lex.NoMemory)) = ⊥
IsNamed _ = Unit {0}

-- want of memory stands in no fault of a file: it is a fault of its own (this project)
abbrev pub IsNamedFault : ImageFault → Type 0
IsNamedFault (Elf elf_fault.NoMemory) = ⊥
IsNamedFault (Inputs fault) = IsNamed fault
IsNamedFault _ = Unit {0}
