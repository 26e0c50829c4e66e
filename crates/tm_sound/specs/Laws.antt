-- Soundness, by what each hart keeps on its own steps (this project's own).
use Rattle.tm_plan_cases.specs.declared.program.Program.{Program}
use Rattle.tm_world.specs.Sound.{Sound}
use Rattle.tm_sound.specs.Parts.{SoundParts}

-- A program is sound by what each of its harts keeps on half runs.
abbrev pub SoundByHarts : Program → Type 0
SoundByHarts p = SoundParts p → Sound p
