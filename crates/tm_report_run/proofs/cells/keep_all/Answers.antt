use Rattle.std.proofs.Common.{ℕ, ◌+◌, ◌*◌, ◌<◌, ◌∙◌, length, ap₂, sym, arith}
use Rattle.std.specs.Prelude.{unwrap_or, slice_index}
use Rattle.tm_plan_map.specs.Map.{verdict_at}
use Rattle.tm_plan_cases.specs.declared.event.Event.{Event}
use Rattle.tm_report_run.specs.Verdicts.{put_at}
use Rattle.tm_report_run.proofs.Kept.{more-kept}
use Rattle.tm_report_run.proofs.cells.keep_all.Goals as goal

pub loop-place-preserved : goal.loop-place-preserved
loop-place-preserved c = λ e h l m.
    let near : c.loop-place.place < length c.args.journal.now.events = omega arith in
    let other = slice_index c.args.table.now (e * c.args.cases.now.harts + h) in
    let put = λ (x : Event) (n : ℕ). unwrap_or (put_at (verdict_at e h) x.access) n in
    c.keep.ensures e h l m
    ∙ (ap₂ put c.at.ensures (c.loop-place.invariant e h l m)
    ∙ sym (more-kept other c.args.journal.now.events c.loop-place.place c.at.result e h near))
