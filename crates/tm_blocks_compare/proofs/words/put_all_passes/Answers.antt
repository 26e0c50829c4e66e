use Rattle.std.proofs.Common.{◌≡◌, ℕ, ◌+◌, length, ap₂, ◌∙◌, arith}
use Rattle.std.proofs.lemmas.Result.{on_ok_weaker}
use Rattle.tm_asm.specs.Sheet.{puts}
use Rattle.tm_blocks_code.proofs.Puts.{and_then}
use Rattle.tm_blocks_compare.specs.Words.{first_check, next_check, last_check, pass_head, pass_body, pass_tail}
use Rattle.tm_blocks_compare.specs.Words.{one_pass, all_passes}
use Rattle.tm_blocks_compare.proofs.Lengths.{length-one}
use Rattle.tm_blocks_compare.proofs.words.put_all_passes.Goals as goal

pub returns : goal.returns
unfolding all_passes
returns c =
    let cases = c.args.cases.now in
    let h = c.args.h in
    let bytes = c.args.bytes in
    let first = first_check cases h bytes in
    let next = next_check cases h bytes in
    let last = last_check cases h bytes in
    let ef : length first ≡ c.check_length.result = c.check_length.ensures.is bytes (5 + length last + length next) in
    let en : length next ≡ c.check_length-2.result = c.check_length-2.ensures.is bytes (5 + length last) in
    let el : length last ≡ c.check_length-3.result = c.check_length-3.ensures.is bytes 5 in
    let long : 27 + c.check_length.result + c.check_length-2.result + c.check_length-3.result
    ≡ length (one_pass cases h c.args.first bytes) =
    omega (arith, el, en, ef, length-one cases h bytes c.args.first) in
    let two = and_then (pass_head c.args.first) (pass_body cases h bytes) _ _ _ c.in_ok-put_pass_head.ensures
    c.in_ok-put_pass_body.ensures in
    on_ok_weaker c.put_pass_tail.result (λ x. and_then (one_pass cases h c.args.first bytes)
    (pass_tail cases.passes (length (one_pass cases h c.args.first bytes))) _ _ _ two
    (x ∙ ap₂ (λ (k l : ℕ). puts c.put_pass_body.new.code (pass_tail k l)) c.passes_of.ensures.is long))
    c.put_pass_tail.ensures
