use Rattle.std.proofs.Common.{◌≡◌}
use Rattle.tm_tmpl.specs.Printed.{printed}
use Rattle.tm_tmpl.proofs.PrintLemmas.{four-parts}
use Rattle.tm_tmpl.proofs.BareLemmas.{reads-back}
use Rattle.tm_tmpl.proofs.print.print_template.Goals as goal

pub returns : goal.returns
unfolding printed
returns c =
    let whole : c.put_cases.new.out ≡ printed c.args.t.now =
    four-parts _ _ _ _ c.put_template_name.new.out c.put_passes.new.out c.put_windows.new.out c.put_cases.new.out
    (rw c.new-out.ensures at c.in_ok-put_template_name.ensures) c.in_ok-put_passes.ensures
    (rw c.as_slice.ensures at c.in_ok-put_windows.ensures) (rw c.as_slice-2.ensures at c.in_ok-put_cases.ensures) in
    record { text = whole; reads_back = λ writable. rw whole (reads-back c.args.t.now writable) }
