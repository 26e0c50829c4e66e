use Rattle.std.proofs.Common.{Bool, [], sym, ap, ◌∙◌, eq-eqb}
use Rattle.std.specs.Prelude.{if◌then◌else◌}
use Rattle.tm_asm.specs.Sheet.{puts}
use Rattle.tm_asm.proofs.Append.{puts-none}
use Rattle.tm_barrier.specs.Words.{wait}
use Rattle.tm_barrier.proofs.barrier.put_turn.Goals as goal

pub returns-then-g-h : goal.returns-then-g-h
returns-then-g-h c =
    sym (puts-none c.args.code.now) ∙ ap (λ (b : Bool). puts c.args.code.now (if b then [] else wait c.args.g))
    (sym (eq-eqb c.args.g c.args.h c.if-g-h.true))
