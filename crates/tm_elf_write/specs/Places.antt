-- Where each part stands in the file (this project).
use Rattle.std.specs.Prelude.{ℕ, ◌+◌}
use Rattle.tm_elf_write.specs.declared.places.Places.{Places}
use Rattle.tm_elf_write.specs.Fields.{next_multiple}

-- The places of the parts, from their lengths in bytes. The file header and the three program headers end at 232, and
-- the text stands at 4096.
unfoldable pub places : (text tables plan symbols strings : ℕ) → Places
places text tables plan symbols strings =
    let tables_at = next_multiple 4096 (4096 + text) in
    let plan_at = next_multiple 8 (tables_at + tables) in
    let symbols_at = next_multiple 8 (plan_at + plan) in
    let strings_at = symbols_at + symbols in
    let names_at = strings_at + strings in
    let sections_at = next_multiple 8 (names_at + 55) in
    record {
      tables = tables_at;
      plan = plan_at;
      symbols = symbols_at;
      strings = strings_at;
      names = names_at;
      sections = sections_at;
    }
