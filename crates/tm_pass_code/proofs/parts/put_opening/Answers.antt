use Rattle.std.proofs.Common.{ℕ, ap, ◌∙◌}
use Rattle.tm_plan_map.specs.Map.{private_at}
use Rattle.tm_asm.specs.Sheet.{puts}
use Rattle.tm_blocks_base.specs.Blocks.{constant}
use Rattle.tm_blocks_code.proofs.Puts.{and_then}
use Rattle.tm_pass_text.specs.Words.{gate}
use Rattle.tm_pass_code.proofs.parts.put_opening.Goals as goal

pub returns : goal.returns
returns c =
    and_then (gate c.args.h c.args.n) (constant 31 (private_at c.args.h)) _ _ _ c.in_ok-put_gate.ensures
    (c.in_ok-put_constant.ensures.words ∙ ap (λ (x : ℕ). puts c.put_gate.new.code (constant 31 x))
    c.private_base.ensures)
