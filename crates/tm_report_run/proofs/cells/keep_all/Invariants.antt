use Rattle.std.proofs.Common.{◌≡◌, ℕ, ◌+◌, ◌*◌, ◌<◌, length, slice_index, take}
use Rattle.tm_report_run.specs.Verdicts.{verdict_from}
use Rattle.tm_report_run.proofs.cells.keep_all.Given as goal

abbrev pub invariant-loop-place : goal.invariant-loop-place
invariant-loop-place l =
    (c h : ℕ) → c < length l.cases.cases → h < l.cases.harts → slice_index l.table (c * l.cases.harts + h)
    ≡ verdict_from (slice_index l.initial.table (c * l.cases.harts + h)) (take l.place l.journal.events) c h
