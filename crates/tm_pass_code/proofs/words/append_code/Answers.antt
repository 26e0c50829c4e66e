use Rattle.std.proofs.Common.{ℕ, List, ◌++◌, ap, ◌∙◌}
use Rattle.tm_pass_code.proofs.Blank.{all_placed, plain-words}
use Rattle.tm_pass_code.proofs.words.append_code.Goals as goal

pub finish-requires : goal.finish-requires
finish-requires c = all_placed c.args.code c.requires

pub returns-in_ok-append-in-Ok : goal.returns-in_ok-append-in-Ok
returns-in_ok-append-in-Ok c =
    λ block e.
    c.in_ok-append-in-Ok.ensures.ok
    ∙ ap (λ (ws : List ℕ). c.args.out.now ++ ws) (c.as_slice.ensures ∙ c.in-Ok.ensures.words ∙ plain-words c.args.code
    block e)
