use Rattle.std.proofs.Common.{◌≡◌, ℕ, suc, ◌+◌, ◌*◌, ◌<◌, List, [], ◌∷◌, ◌++◌, length, sym, ap₂, ◌∙◌, arith}
use Rattle.tm_pass_text.specs.Words.{before_size}
use Rattle.tm_pass_text.specs.Hart.{blocks_of}
use Rattle.tm_pass_place.specs.Built.{start_at, end_at}
use Rattle.tm_pass_place.proofs.Heads.{case-few, head-next, stream}
use Rattle.tm_pass.proofs.CaseLemmas.{count-on}
use Rattle.tm_pass.proofs.marks.case_marks.Goals as goal

pub loop-c-preserved : goal.loop-c-preserved
loop-c-preserved c =
    let cases = c.args.cases.now in
    let shaped = c.requires.shaped in
    let h = c.args.h in
    let base = c.args.base in
    let k = c.loop-c.c in
    let few : k < length cases.cases = omega (arith, c.case_count-c-end.ensures) in
    let on : k + 1 ≡ suc k = omega arith in
    let before = before_size (blocks_of cases h) k in
    let long = length (stream cases shaped h c.requires.mine k) in
    let next = head-next cases shaped h c.requires.mine base k (k + 1) on few in
    let room = case-few cases shaped h c.requires.mine k few in
    record {
      starts =
          c.in_ok-mark_case.ensures.starts
          ∙ ap₂ (λ (l : List ℕ) (b : ℕ). l ++ (b + 4 * before) ∷ []) c.loop-c.invariant.starts c.loop-c.invariant.behind
          ∙ sym (count-on (start_at cases h base) k (k + 1) on);
      ends =
          c.in_ok-mark_case.ensures.ends
          ∙ ap₂ (λ (l : List ℕ) (b : ℕ). l ++ (b + 4 * before + 4 * long) ∷ []) c.loop-c.invariant.ends
          c.loop-c.invariant.behind
          ∙ sym (count-on (end_at cases h base) k (k + 1) on);
      behind = omega (arith, c.in_ok-mark_case.ensures.behind, c.loop-c.invariant.behind, next);
      most = omega (arith, c.in_ok-mark_case.ensures.behind, c.loop-c.invariant.most, room);
    }
