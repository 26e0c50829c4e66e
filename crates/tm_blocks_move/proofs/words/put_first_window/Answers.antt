use Rattle.std.proofs.Common.{ℕ, ◌+◌, ◌/◌, ap, ◌∙◌}
use Rattle.std.proofs.lemmas.Result.{on_ok_weaker}
use Rattle.tm_plan_map.specs.Map.{windows_base}
use Rattle.tm_asm.specs.Sheet.{puts}
use Rattle.tm_blocks_base.specs.Blocks.{constant}
use Rattle.tm_plan_owned.specs.Lines.{line_count, line_place}
use Rattle.tm_blocks_code.proofs.Puts.{and_then}
use Rattle.tm_blocks_move.specs.Words.{move_lines}
use Rattle.tm_blocks_move.specs.Lines.{half_stride}
use Rattle.tm_blocks_move.proofs.words.put_first_window.Goals as goal

pub returns : goal.returns
returns c =
    let cases = c.args.cases.now in
    let place = line_place cases c.args.h c.args.v in
    let first = constant 2 (windows_base + place) in
    let lines = move_lines (c.args.from + place) (line_count cases c.args.h c.args.v) (cases.line / 8)
    (half_stride cases) (half_stride cases) in
    let one = c.in_ok-put_constant.ensures.words ∙ ap (λ (x : ℕ). puts c.args.code.now (constant 2 x))
    c.line_addr.ensures.is in
    on_ok_weaker c.put_move_lines.result (λ h. and_then first lines _ _ _ one
    (rw (c.line_place.ensures.is, c.line_count-lines.ensures.is, c.dwords_of.ensures.is, c.half_of-half.ensures.is)
    at h)) c.put_move_lines.ensures
