use Rattle.std.proofs.Common.{codes, ◌+◌, ◌%◌}
use Rattle.std.specs.Prelude.{flat_map}
use Rattle.std.specs.Fmt.{decimal}
use Rattle.tm_base.specs.Lists.{count_from}
use Rattle.tm_sample.specs.Texts.{sample_case, sample_template}
use Rattle.tm_sample.proofs.Puts.{four-put}
use Rattle.tm_sample.proofs.texts.template_text.Goals as goal

pub returns : goal.returns
unfolding sample_template
returns c =
    four-put c.append.new.self c.push_decimal.new.out c.append-2.new.self c.put_cases.new.out
    (codes "template sample\npasses ") (decimal (2 + c.args.n % 3))
    (codes "\nwindow 0 true 2\nwindow 1 false 2\nwindow 2 own 8\n") (flat_map sample_case (count_from 0 8))
    (rw c.new-out.ensures at c.in_ok-append.ensures.ok) c.in_ok-push_decimal.ensures.ok c.in_ok-append-2.ensures.ok
    c.in_ok-put_cases.ensures
