use Rattle.std.proofs.Common.{◌≡◌, ◌-◌, ◌*◌, [], ◌∷◌}
use Rattle.tm_blocks_base.specs.Instrs.{ld}
use Rattle.tm_blocks_code.proofs.Puts.{row_of}
use Rattle.tm_blocks_code.proofs.blocks.put_load_registers.Given as goal

abbrev pub invariant-loop-register : goal.invariant-loop-register
invariant-loop-register l = l.code ≡ row_of l.initial.code (λ r. ld r (8 * (r - 1)) 31 ∷ []) 1 (l.register - 1)
