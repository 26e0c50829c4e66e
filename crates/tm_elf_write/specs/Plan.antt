-- The section `.tmplan`: what an image was made from (this project).
use Rattle.std.specs.Prelude.{ℕ, List, [], ◌∷◌, ◌++◌, length}
use Rattle.tm_base.specs.Limits.{image_version}
use Rattle.tm_elf_write.specs.declared.plan.TheConstants.{PLAN_1}
use Rattle.tm_elf_write.specs.declared.fields.Field.TheVariants.{Word, Long}
use Rattle.tm_elf_write.specs.declared.parts.Plan.{Plan}
use Rattle.tm_elf_write.specs.Fields.{bytes_of}

-- the first bytes of a plan of a version, `TMPLAN01` (this project)
abbrev pub plan_mark : ℕ → List ℕ
plan_mark version = PLAN_1.now

-- eight bytes of magic (54 4D 50 4C 41 4E 30 31), the seed in 8 bytes, the lengths of topology and template in 4
-- bytes each, and the two texts (this project)
unfoldable pub plan_bytes : Plan → List ℕ
plan_bytes plan =
    plan_mark image_version
    ++ bytes_of (Long plan.seed ∷ Word (length plan.topo) ∷ Word (length plan.template) ∷ [])
    ++ plan.topo
    ++ plan.template
