use Rattle.std.proofs.Common.{◌≡◌, ℕ, ◌<◌, Bool, inl, inr, sym, ◌∙◌, arith}
use Rattle.tm_plan_map.specs.Map.{within, verdict_at}
use Rattle.tm_base.proofs.ListLemmas.{any-number}
use Rattle.tm_base.proofs.ListLemmas.{any-no-number}
use Rattle.tm_plan_map.proofs.Within.{within-false}
use Rattle.tm_owing.proofs.areas.is_verdict.Goals as goal

pub returns-then-b-lt-VERDICTS_ADDRESS : goal.returns-then-b-lt-VERDICTS_ADDRESS
unfolding verdict_at
returns-then-b-lt-VERDICTS_ADDRESS c =
    let test : ℕ → Bool = λ k. within (verdict_at k c.args.h) 8 c.args.b in
    sym (any-no-number test c.args.cases 0
    (λ k l m. within-false (verdict_at k c.args.h) 8 c.args.b (inl (omega (arith, c.if-b-lt-VERDICTS_ADDRESS.true)))))

pub returns-then-b-ge-PRIVATE_ADDRESS : goal.returns-then-b-ge-PRIVATE_ADDRESS
unfolding verdict_at
returns-then-b-ge-PRIVATE_ADDRESS c =
    let test : ℕ → Bool = λ k. within (verdict_at k c.args.h) 8 c.args.b in
    sym (any-no-number test c.args.cases 0
    (λ k l m. within-false (verdict_at k c.args.h) 8 c.args.b
    (inr (omega (arith, m, c.requires.hart, c.requires.few, c.if-b-ge-PRIVATE_ADDRESS.true)))))

pub returns-then-is_cell : goal.returns-then-is_cell
returns-then-is_cell c =
    let test : ℕ → Bool = λ k. within (verdict_at k c.args.h) 8 c.args.b in
    sym (any-number test c.args.cases 0 c.loop-c.c (omega arith) (omega (arith, c.loop-c-test.true))
    (sym c.is_cell.ensures ∙ c.if-is_cell.true))

pub returns : goal.returns
returns c =
    let test : ℕ → Bool = λ k. within (verdict_at k c.args.h) 8 c.args.b in
    sym (any-no-number test c.args.cases 0 (λ k l m. c.loop-c.invariant k (omega (arith, m, c.loop-c-test.false))))
