use Rattle.std.proofs.Common.{◌≡◌, ℕ, ◌+◌, ◌*◌, ◌∙◌, List, length, ap, arith}
use Rattle.std.specs.Prelude.{slice_index}
use Rattle.std.proofs.lemmas.Grind.{common_steps}
use Rattle.tm_report_run.proofs.Kept.{from-zeros}
use Rattle.tm_report_run.proofs.Placed.{all-verdicts}
use Rattle.tm_report_run.proofs.cells.verdicts.Goals as goal

pub returns-clause-each : goal.returns-clause-each
returns-clause-each c = λ e h l m.
    let place = e * c.args.program.now.cases.harts + h in
    let same : c.of.result ≡ c.keep_all.new.table = grind (arith, common_steps) in
    let zeros = c.as_mut_slice.ensures.value ∙ c.in_ok-items.ensures in
    ap (λ (v : List ℕ). slice_index v place) same
    ∙ (c.keep_all.ensures e h l m ∙ from-zeros _ place c.as_mut_slice.result.now c.args.journal.now.events e h zeros)

pub returns-clause-is : goal.returns-clause-is
returns-clause-is c =
    let long : length c.of.result ≡ length c.args.program.now.cases.cases * c.args.program.now.cases.harts =
    grind (arith, common_steps) in
    all-verdicts c.args.program.now.cases c.args.journal.now.events c.of.result c.requires.cases.harts.0 long
    (returns-clause-each c)
