use Rattle.tm_tmpl_read.specs.Steps.{bodies_at}
use Rattle.tm_tmpl.proofs.PrintLemmas.{lines-called}
use Rattle.tm_tmpl.proofs.print.put_case.Goals as goal

pub returns : goal.returns
returns c =
    lines-called c.put_bodies.result (_, _) (bodies_at c.args.case.now.bodies) c.args.out.now c.put_case_name.new.out
    c.put_bodies.new.out c.in_ok-put_case_name.ensures (rw c.as_slice.ensures at c.put_bodies.ensures)
