use Rattle.std.proofs.Common.{◌+◌, ◌-◌, ◌<◌, length, drop, length-drop, arith}
use Rattle.std.proofs.lemmas.List.{length-take}
use Rattle.std.proofs.lemmas.Result.{err_from_is_err_and}
use Rattle.tm_lex.proofs.LineLemmas.{start-same, fault-there, last-there, more-there}
use Rattle.tm_lex.proofs.lines.read_lines.Goals as goal

pub loop-out-init : goal.loop-out-init
loop-out-init c = record {
  same = start-same c.args.text.now c.new-out.result c.new-out.ensures;
  within = omega arith;
  number = omega arith;
}

pub returns-in_err-put_line-clause-err : goal.returns-in_err-put_line-clause-err
returns-in_err-put_line-clause-err c =
    let p = err_from_is_err_and c.from_residual.result c.from_residual.ensures.1 in
    rw (p.1, p.2) (λ other. fault-there c.args.text.now c.loop-out.number c.loop-out.from c.line_len-len.result
    c.loop-out.out c.loop-out.invariant.same c.line_len-len.ensures.len _ (c.in_err-put_line.ensures.err other))

pub returns-then-end-text-clause-ok : goal.returns-then-end-text-clause-ok
returns-then-end-text-clause-ok c =
    let put = c.in_ok-put_line.ensures.ok in
    last-there c.args.text.now c.loop-out.number c.loop-out.from c.line_len-len.result c.loop-out.out
    c.loop-out.invariant.same c.line_len-len.ensures.len
    c.put_line.new.out c.loop-out.invariant.within c.if-end-text.true put.0 put.1

pub loop-out-preserved : goal.loop-out-preserved
loop-out-preserved c =
    let put = c.in_ok-put_line.ensures.ok in
    let size = length-take (length c.args.text.now - c.loop-out.from) (drop c.loop-out.from c.args.text.now) in
    let rest = length-drop c.loop-out.from c.args.text.now in
    let below : c.loop-out.from + c.line_len-len.result < length c.args.text.now =
    omega (arith, c.line_len-len.ensures.within, size, rest, c.if-end-text.false, c.loop-out.invariant.within) in
    record {
      same = more-there c.args.text.now c.loop-out.number c.loop-out.from c.line_len-len.result c.loop-out.out
          c.loop-out.invariant.same c.line_len-len.ensures.len
          c.put_line.new.out c.loop-out.invariant.within below put.0 put.1;
      within = omega (arith, below);
      number = omega arith;
    }
