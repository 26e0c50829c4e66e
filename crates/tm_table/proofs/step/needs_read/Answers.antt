use Rattle.std.proofs.Common.{◌≡◌, ◌↔◌, ◌∙◌, sym, subst, IsSome, IfSome, IsTrue, rules}
use Rattle.std.specs.Prelude.{ℕ, Option}
use Rattle.tm_table.specs.State.{hart_of}
use Rattle.tm_table.specs.Row.{read_at, is_load, IsWidth}
use Rattle.tm_table.proofs.Steps.{read-row, read-load, read-width}
use Rattle.tm_table.proofs.step.needs_read.Goals as goal

pub returns-clause-value : goal.returns-clause-value
unfolding read_at
returns-clause-value c = search rules

pub returns-clause-step : goal.returns-clause-step
unfolding read_at
returns-clause-step c = λ bytes. (let e : c.loads.result ≡ read_at (hart_of c.args.cpu.now) c.args.i = search rules in
    e ∙ read-row (hart_of c.args.cpu.now) c.args.i bytes)

pub returns-clause-some : goal.returns-clause-some
unfolding read_at
returns-clause-some c =
    let e : c.loads.result ≡ read_at (hart_of c.args.cpu.now) c.args.i = search rules in
    subst (λ (o : Option (ℕ × ℕ)). IsSome o ↔ IsTrue (is_load c.args.i.op)) (sym e)
    (read-load (hart_of c.args.cpu.now) c.args.i)

pub returns-clause-width : goal.returns-clause-width
unfolding read_at
returns-clause-width c =
    let e : c.loads.result ≡ read_at (hart_of c.args.cpu.now) c.args.i = search rules in
    subst (λ (o : Option (ℕ × ℕ)). IfSome o (λ (p : ℕ × ℕ). IsWidth p.1)) (sym e)
    (read-width (hart_of c.args.cpu.now) c.args.i)
