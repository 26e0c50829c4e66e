use Rattle.std.proofs.Common.{◌∙◌}
use Rattle.tm_buffer.specs.Seen.{buffer}
use Rattle.tm_buffer.proofs.Buffers.{same-length}
use Rattle.tm_buffer.proofs.Shown.{state-shown}
use Rattle.tm_buffer.proofs.guest.BufferGuest.waiting.Goals as goal

pub returns-clause-count : goal.returns-clause-count
returns-clause-count c =
    let hart = c.index.result.now in
    let kept =
    state-shown c.args.self.now _ _ _ _ _ _ _ c.self.view_is c.self.invariant.keeps c.args.h hart c.requires c.index.ensures in
    c.len.ensures.value ∙ same-length hart.buffer.items (buffer c.args.self.now c.args.h) kept.buffer
