use Rattle.std.proofs.Common.{◌≡◌, ◌+◌, ◌-◌, ◌≤◌, ◌++◌, length, take, drop, arith, ap, ◌∙◌}
use Rattle.std.specs.Prelude.{slice_index}
use Rattle.std.proofs.lemmas.Grind.{common_steps}
use Rattle.tm_ram.specs.Region.{with_number}
use Rattle.tm_ram.proofs.Numbers.{with-inside, with-outside}
use Rattle.tm_ram.proofs.ram.Ram.store.Goals as goal

pub returns-clause-inside : goal.returns-clause-inside
returns-clause-inside c = λ i l.
    let old = c.args.self.now in
    let at = c.args.addr - old.base in
    let bytes = take c.self.inside.bytes.len (c.put.new.s ++ drop (length c.put.new.s) c.self.inside.bytes.items) in
    let is : bytes ≡ with_number old.bytes at c.args.width c.args.value = grind (arith, common_steps) in
    let room : at + c.args.width ≤ length old.bytes = omega (arith, c.requires.from, c.requires.to) in
    ap (λ s. slice_index s (at + i)) is ∙ with-inside old.bytes at c.args.width c.args.value i room l

pub returns-clause-outside : goal.returns-clause-outside
returns-clause-outside c = λ k h.
    let old = c.args.self.now in
    let at = c.args.addr - old.base in
    let bytes = take c.self.inside.bytes.len (c.put.new.s ++ drop (length c.put.new.s) c.self.inside.bytes.items) in
    let is : bytes ≡ with_number old.bytes at c.args.width c.args.value = grind (arith, common_steps) in
    ap (λ s. slice_index s k) is ∙ with-outside old.bytes at c.args.width c.args.value k h
