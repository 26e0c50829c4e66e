-- Instructions and their words.
use Rattle.std.proofs.Common.{◌≡◌, Some}
use Rattle.tm_table.specs.declared.instr.Instr.{Instr}
use Rattle.tm_table.specs.Words.{Fits, word_of}
use Rattle.tm_table.proofs.Decoding.{decoded-word}
use Rattle.tm_plan_map.specs.Slots.{instr_of}

-- an instruction that fits is that of its word
pub instr-word : (i : Instr) → Fits i → instr_of (word_of i) ≡ Some i
unfolding instr_of
instr-word i f = decoded-word i f
