use Rattle.std.proofs.Common.{◌≡◌, ℕ, ◌+◌, ◌++◌, length, ap, ◌∙◌, arith}
use Rattle.std.proofs.lemmas.Result.{on_ok_weaker}
use Rattle.tm_asm.specs.Sheet.{puts}
use Rattle.tm_blocks_code.proofs.Puts.{and_then}
use Rattle.tm_blocks_compare.specs.Words.{register_loop, own_check, first_check, next_check, last_check, pass_body}
use Rattle.tm_blocks_compare.proofs.words.put_pass_body.Goals as goal

pub returns : goal.returns
unfolding pass_body
returns c =
    let cases = c.args.cases.now in
    let h = c.args.h in
    let bytes = c.args.bytes in
    let code = c.args.code.now in
    let first = first_check cases h bytes in
    let next = next_check cases h bytes in
    let last = last_check cases h bytes in
    let el : length last ≡ c.check_length-last.result = c.check_length-last.ensures.is bytes 5 in
    let en : length next ≡ c.check_length-next.result = c.check_length-next.ensures.is bytes (5 + length last) in
    let ef : length first ≡ c.check_length-first.result =
    c.check_length-first.ensures.is bytes (5 + length last + length next) in
    let far = 5 + length last + length next + length first in
    let f1 : 5 + c.check_length-last.result + c.check_length-next.result + c.check_length-first.result ≡ far =
    omega (arith, el, en, ef) in
    let f2 : 5 + c.check_length-last.result + c.check_length-next.result ≡ 5 + length last + length next =
    omega (arith, el, en) in
    let f3 : 5 + c.check_length-last.result ≡ 5 + length last = omega (arith, el) in
    let w1 = c.in_ok-put_register_loop.ensures ∙ ap (λ (k : ℕ). puts code (register_loop k)) f1 in
    let w2 = c.in_ok-put_own_check.ensures ∙ ap (λ (k : ℕ).
    puts c.put_register_loop.new.code (own_check cases h bytes 0 k)) f2 in
    let w3 = c.in_ok-put_own_check-2.ensures ∙ ap (λ (k : ℕ).
    puts c.put_own_check.new.code (own_check cases h bytes 1 k)) f3 in
    let two = and_then (register_loop far) first _ _ _ w1 w2 in
    let three = and_then (register_loop far ++ first) next _ _ _ two w3 in
    on_ok_weaker c.put_own_check-3.result (λ x. and_then (register_loop far ++ first ++ next) last _ _ _ three x)
    c.put_own_check-3.ensures
