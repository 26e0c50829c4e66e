use Rattle.tm_tmpl_read.specs.Steps.{slots_at}
use Rattle.tm_tmpl.proofs.PrintLemmas.{lines-called}
use Rattle.tm_tmpl.proofs.print.put_body.Goals as goal

pub returns : goal.returns
returns c =
    lines-called c.put_slots.result (_, _) (slots_at c.args.body.now.slots) c.args.out.now c.put_whom.new.out
    c.put_slots.new.out c.in_ok-put_whom.ensures (rw c.as_slice.ensures at c.put_slots.ensures)
