-- How long the parts of the file are.
use Rattle.std.proofs.Common.{◌≡◌, ◌+◌, ◌*◌, ℕ, List, [], ◌∷◌, length, refl, arith, length-append}
use Rattle.tm_elf_write.specs.declared.parts.Plan.{Plan}
use Rattle.tm_elf_write.specs.declared.parts.Symbol.{Symbol}
use Rattle.tm_elf_write.specs.Fields.{field_bytes, bytes_of, zeros}
use Rattle.tm_elf_write.specs.Elf.{text_bytes}
use Rattle.tm_elf_write.specs.Plan.{plan_bytes}
use Rattle.tm_elf_write.specs.Symbols.{entry, entries, symbol_bytes}

pub length_plan : (p : Plan) → length (plan_bytes p) ≡ 24 + length p.topo + length p.template
unfolding plan_bytes field_bytes
length_plan p = simp length-append (omega arith)

pub length_text : (ws : List ℕ) → length (text_bytes ws) ≡ 4 * length ws
unfolding text_bytes field_bytes
length_text [] = refl
length_text (w ∷ ws) = omega (arith, length_text ws)

pub length_entry : (name addr : ℕ) → length (bytes_of (entry name addr)) ≡ 24
unfolding entry field_bytes
length_entry name addr = refl

pub length_entries : (name : ℕ) (ss : List Symbol) → length (entries name ss) ≡ 24 * length ss
unfolding entries
length_entries name [] = refl
length_entries name (s ∷ ss) = omega (
  arith,
  length_entries (name + length s.name + 1) ss,
  length-append (bytes_of (entry name s.addr)) (entries (name + length s.name + 1) ss),
  length_entry name s.addr,
)

pub length_symbols : (ss : List Symbol) → length (symbol_bytes ss) ≡ 24 * length ss + 24
unfolding symbol_bytes
length_symbols ss = omega (arith, length-append (zeros 24) (entries 1 ss), length_entries 1 ss)
