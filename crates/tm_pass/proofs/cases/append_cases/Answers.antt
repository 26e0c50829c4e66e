use Rattle.std.proofs.Common.{◌≡◌, ℕ, suc, ◌+◌, ◌<◌, ◌++◌, length, drop, ap, ◌∙◌, sym, arith}
use Rattle.tm_pass_text.specs.Words.{cases_words, streams_of}
use Rattle.tm_pass_text.specs.Hart.{blocks_of}
use Rattle.tm_pass_place.proofs.Heads.{case-few}
use Rattle.tm_pass.proofs.CaseLemmas.{words-next, words-end}
use Rattle.tm_pass.proofs.cases.append_cases.Goals as goal

pub loop-c-preserved : goal.loop-c-preserved
loop-c-preserved c =
    let cases = c.args.cases.now in
    let shaped = c.requires.shaped in
    let h = c.args.h in
    let k = c.loop-c.c in
    let few : k < length cases.cases = omega (arith, c.case_count-c-end.ensures) in
    let on : k + 1 ≡ suc k = omega arith in
    let size = case-few cases shaped h c.requires.mine k few in
    let next = c.in_ok-at.ensures.behind in
    let barrier = c.args.barrier in
    record {
      aligned = omega (arith, next, c.loop-c.invariant.aligned);
      least = omega (arith, next, c.loop-c.invariant.least);
      most = omega (arith, next, size, c.loop-c.invariant.most);
      words =
          ap (λ (at' : ℕ). c.append_next.new.out ++ cases_words (blocks_of cases h) cases.passes (k + 1)
          (drop (k + 1) (streams_of cases h)) at' barrier) next
          ∙ words-next cases shaped h c.requires.mine k (k + 1) on few c.loop-c.at barrier c.loop-c.out
          c.append_next.new.out c.in_ok-at.ensures.words
          ∙ c.loop-c.invariant.words;
    }

pub returns : goal.returns
returns c =
    sym (words-end c.args.cases.now c.requires.shaped c.args.h c.requires.mine c.loop-c.c
    (omega (arith, c.case_count-c-end.ensures)) c.loop-c.at c.args.barrier c.loop-c.out)
    ∙ c.loop-c.invariant.words
