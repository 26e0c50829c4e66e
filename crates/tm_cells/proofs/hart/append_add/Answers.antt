use Rattle.std.proofs.Common.{ℕ, List, [], ◌∷◌, ◌++◌, ap₂, ◌∙◌, append_assoc}
use Rattle.tm_table.specs.Words.{words_of}
use Rattle.tm_table.specs.Adds.{add_word}
use Rattle.tm_cells_code.specs.Words.{add_registers, add_words, the_add}
use Rattle.tm_cells.proofs.hart.append_add.Goals as goal

pub returns : goal.returns
unfolding add_words
returns c =
    let block = words_of (add_registers c.args.seed c.args.h c.args.j) in
    c.in_ok-push.ensures.ok
    ∙ (ap₂ (λ (l : List ℕ) (x : ℕ). l ++ x ∷ []) c.in_ok-append_registers.ensures c.encode_add.ensures.word
    ∙ append_assoc c.args.out.now block (add_word the_add ∷ []))
