use Rattle.std.proofs.Common.{codes, ◌+◌, ◌%◌}
use Rattle.tm_sample.specs.Texts.{key_line, sample_line, sample_topology}
use Rattle.tm_sample.proofs.Puts.{four-put}
use Rattle.tm_sample.proofs.texts.topology_text.Goals as goal

pub returns : goal.returns
unfolding sample_topology
returns c =
    four-put c.put_key.new.out c.append.new.self c.put_key-2.new.out c.put_key-3.new.out
    (key_line (codes "cores") (1 + c.args.n % 2)) (codes "threads = 2\n")
    (key_line (codes "line") (sample_line (c.args.n % 3))) (key_line (codes "bias") (c.args.n % 101))
    (rw c.new-out.ensures at c.in_ok-put_key.ensures) c.in_ok-append.ensures.ok
    (rw c.line_size.ensures at c.in_ok-put_key-2.ensures) c.in_ok-put_key-3.ensures
