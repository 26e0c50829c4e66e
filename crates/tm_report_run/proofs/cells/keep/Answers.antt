use Rattle.std.proofs.Common.{◌≡◌, ◌≤◌, arith}
use Rattle.tm_report_run.proofs.Kept.{kept}
use Rattle.tm_report_run.proofs.cells.keep.Goals as goal

pub returns-in-Some : goal.returns-in-Some
returns-in-Some c = λ e h l m.
    let (d, g, few, small, at, is) = c.in-Some.ensures in
    let w = c.in-Write-default-eq8-default in
    let harts = c.requires.shaped.harts in
    let most : c.args.cases.now.harts ≤ 16 = omega arith in
    let wide : w.width ≡ 8 = omega arith in
    kept _ _ c.args.table.now c.args.access w.addr w.width c.in-Some.cell w.value w.is wide c.requires.count most d g
    few small at is e h l m
