use Rattle.std.proofs.Common.{◌≡◌, ◌≢◌, ◌≤◌, ◌∙◌, List, [], ◌∷◌, map, length, take, drop, ◌-◌, sym, ap, subst, arith}
use Rattle.std.proofs.Common.{IfErr, slice_index_or}
use Rattle.std.proofs.lemmas.List.{take_all}
use Rattle.std.specs.String.{string_bytes}
use Rattle.std.specs.declared.string.String.{String}
use Rattle.std.specs.declared.alloc.Global.{Global}
use Rattle.tm_words.specs.declared.command.Command.{Command}
use Rattle.tm_words.specs.Form.{IsForm}
use Rattle.tm_words.specs.declared.command.WordsFault.TheVariants.{NoMemory}
use Rattle.tm_words.proofs.words.read_any.Goals as goal

split_words : (ws : List (String Global)) (w : String Global) → 1 ≤ length ws → w ≡ slice_index_or ws 0 w
    → map string_bytes ws ≡ string_bytes w ∷ map string_bytes (take (length ws - 1) (drop 1 ws))
split_words [] w some is = absurd (omega arith)
split_words (x ∷ xs) w some is =
    ap (λ s. string_bytes s ∷ map string_bytes xs) (sym is)
    ∙ ap (λ t. string_bytes w ∷ map string_bytes t) (sym (take_all (length (x ∷ xs) - 1) xs (omega arith)))

pub returns-in-len1-up-clause-refused : goal.returns-in-len1-up-clause-refused
returns-in-len1-up-clause-refused c =
    let split = split_words c.args.words.now c.word-item.result c.in-len1-up.len_at_least c.word-item.is in
    subst (λ t. IfErr c.read_from.result (λ e. e ≢ NoMemory → (k : Command) → IsForm t k → ⊥))
    (ap (λ t. t ∷ map string_bytes (take (length c.args.words.now - 1) (drop 1 c.args.words.now)))
    c.as_str.ensures.value ∙ sym split) c.read_from.ensures.refused
