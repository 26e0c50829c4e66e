use Rattle.std.proofs.Common.{ℕ, List, [], ◌∷◌, ◌++◌, ap, ◌∙◌, append_assoc}
use Rattle.tm_asm.specs.Sheet.{Sheet, puts}
use Rattle.tm_table.specs.Words.{words_of}
use Rattle.tm_barrier.specs.Words.{barrier}
use Rattle.tm_pass_code.proofs.ends.append_ending.Goals as goal

pub append_code-requires : goal.append_code-requires
append_code-requires c =
    let block = barrier c.args.h c.args.harts in
    (block, c.in_ok-put_barrier.ensures.words ∙ ap (λ (s : Sheet). puts s block) c.new-code.ensures)

pub returns : goal.returns
returns c =
    let block = barrier c.args.h c.args.harts in
    c.in_ok-append_code.ensures block (c.in_ok-put_barrier.ensures.words ∙ ap (λ (s : Sheet). puts s block)
    c.new-code.ensures)
    ∙ ap (λ (w : List ℕ). w ++ words_of block) c.in_ok-push.ensures.ok
    ∙ append_assoc c.args.out.now (0x0000006F ∷ []) (words_of block)
