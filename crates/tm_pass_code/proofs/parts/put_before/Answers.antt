use Rattle.std.proofs.Common.{ℕ, [], ◌∷◌, ◌++◌, ap, ◌∙◌}
use Rattle.tm_asm.specs.Sheet.{puts}
use Rattle.tm_blocks_base.specs.Blocks.{load_registers}
use Rattle.tm_blocks_code.proofs.Puts.{and_then}
use Rattle.tm_blocks_move.specs.Lines.{first_bytes}
use Rattle.tm_pass_text.specs.Words.{call, reset, case_before}
use Rattle.tm_pass_text.specs.Hart.{first_at, registers_at}
use Rattle.tm_pass_code.proofs.parts.put_before.Goals as goal

pub returns : goal.returns
unfolding case_before
returns c =
    let cases = c.args.cases.now in
    let h = c.args.h in
    let first = first_bytes cases h (first_at cases c.args.c) in
    let load = load_registers (registers_at cases h c.args.c) in
    let w2 = c.in_ok-put_first_bytes.ensures.words ∙ ap (λ (x : ℕ). puts c.put_reset.new.code (first_bytes cases h x))
    c.first_addr.ensures.is in
    let w4 = c.in_ok-put_load_registers.ensures.words ∙ ap (λ (x : ℕ). puts c.put_call.new.code (load_registers x))
    c.registers_addr.ensures in
    let three = and_then (call c.args.d ∷ []) load _ _ _ c.in_ok-put_call.ensures w4 in
    let two = and_then first (call c.args.d ∷ load) _ _ _ w2 three in
    and_then (reset ∷ []) (first ++ (call c.args.d ∷ load)) _ _ _ c.in_ok-put_reset.ensures two
