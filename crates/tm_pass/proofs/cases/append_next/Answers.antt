use Rattle.std.proofs.Common.{ℕ, List, length, ap, ◌∙◌, arith, length-append}
use Rattle.tm_pass_text.specs.Words.{case_size, case_words}
use Rattle.tm_pass_text.proofs.Stands.{length-case}
use Rattle.tm_pass_text.specs.Hart.{blocks_of}
use Rattle.tm_pass.proofs.cases.append_next.Goals as goal

pub returns-clause-behind : goal.returns-clause-behind
returns-clause-behind c =
    let cases = c.args.cases.now in
    let blocks = blocks_of cases c.args.h in
    let stream = c.stream_of.result.now in
    let words = case_words blocks cases.passes c.args.c stream c.args.at c.args.barrier in
    let before = ap length c.as_slice-before.ensures in
    let behind = ap length (c.as_slice.ensures ∙ c.in_ok-append_case.ensures) in
    let same = ap (λ (s : List ℕ). case_size blocks c.args.c (length s)) c.stream_of.ensures.is in
    omega (
      arith,
      before,
      behind,
      length-append c.args.out.now words,
      length-case blocks cases.passes c.args.c stream c.args.at c.args.barrier,
      same,
    )
