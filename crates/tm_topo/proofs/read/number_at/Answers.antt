use Rattle.std.proofs.Common.{◌∙◌, ◌≡◌, sym, rules, to_z, of_z, w64}
use Rattle.toml.specs.View.{table_view}
use Rattle.toml.proofs.Views.{table_get}
use Rattle.tm_topo.proofs.KeyLemmas.{number_at-found, number_at-missing}
use Rattle.tm_topo.proofs.read.number_at.Goals as goal

pub returns-in-Some-as_integer-clause-number : goal.returns-in-Some-as_integer-clause-number
returns-in-Some-as_integer-clause-number c =
    let found = table_get c.get.result c.as_str.result.now c.args.table.now.entries c.get.ensures.value in
    let here = number_at-found c.args.key (table_view c.args.table.now) c.as_str.result.now _ c.as_str.ensures
    (rw c.in-Some.is at found) in
    let same : to_z w64 (of_z w64 c.in-Some-as_integer.integer) ≡ c.in-Some-as_integer.integer = search rules in
    rw (here, ← c.in-Some-as_integer.ensures) (rw same at c.of_integer.ensures.number)

pub returns-in-None-as_integer-clause-number : goal.returns-in-None-as_integer-clause-number
returns-in-None-as_integer-clause-number c =
    let found = table_get c.get.result c.as_str.result.now c.args.table.now.entries c.get.ensures.value in
    let here = number_at-found c.args.key (table_view c.args.table.now) c.as_str.result.now _ c.as_str.ensures
    (rw c.in-Some.is at found) in
    rw (here, ← c.in-None-as_integer.ensures)

pub returns-in-None-clause-number : goal.returns-in-None-clause-number
returns-in-None-clause-number c =
    let found = table_get c.get.result c.as_str.result.now c.args.table.now.entries c.get.ensures.value in
    c.default_of.ensures.number ∙ sym (number_at-missing c.args.key (table_view c.args.table.now) c.as_str.result.now
    c.as_str.ensures (rw c.in-None.is at found))
