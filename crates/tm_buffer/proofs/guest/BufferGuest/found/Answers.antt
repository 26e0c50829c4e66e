use Rattle.std.proofs.Common.{◌≡◌, ◌+◌, ◌-◌, ◌/◌, ◌%◌, ◌^◌, List, Some, None, sym, ap, ◌∙◌, subst, arith}
use Rattle.std.specs.Prelude.{All, slice_index}
use Rattle.std.proofs.lemmas.List.Elements.{All-from_recursion}
use Rattle.tm_guest.specs.Memory.{byte_at}
use Rattle.tm_buffer.specs.declared.hart.Waiting.{Waiting}
use Rattle.tm_buffer.specs.Buffer.{IsWaiting, found_in}
use Rattle.tm_buffer.specs.Seen.{buffer}
use Rattle.tm_buffer.proofs.Buffers.{all-waiting}
use Rattle.tm_buffer.proofs.Shown.{state-shown, found-shown}
use Rattle.tm_buffer.proofs.guest.BufferGuest.found.Goals as goal

pub found_in_buffer-requires : goal.found_in_buffer-requires
found_in_buffer-requires c =
    let hart = c.index.result.now in
    let kept =
    state-shown c.args.self.now _ _ _ _ _ _ _ c.self.view_is c.self.invariant.keeps c.args.h hart c.requires.below
    c.index.ensures in
    subst (λ (ws : List Waiting). All IsWaiting ws) (sym c.as_slice.ensures.value)
    (All-from_recursion IsWaiting hart.buffer.items
    (all-waiting hart.buffer.items (buffer c.args.self.now c.args.h) kept.buffer))

pub returns-in-Some : goal.returns-in-Some
returns-in-Some c =
    found-shown c.args.self.now _ _ _ _ _ _ _ c.self.view_is c.self.invariant.keeps c.args.h c.args.b c.index.result.now
    c.requires.below c.index.ensures c.requires.from c.requires.to (Some c.in-Some.byte)
    (sym c.in-Some.is ∙ (c.found_in_buffer.ensures ∙ ap (found_in c.args.b) c.as_slice.ensures.value))

pub returns-in-None : goal.returns-in-None
returns-in-None c =
    let r = c.self.inside.ram in
    let b = c.args.b in
    let zero' : b - r.base + 0 ≡ b - r.base = omega arith in
    let one : c.load.result / 256 ^ 0 % 256 ≡ byte_at r b =
    c.load.ensures.bytes 0 (omega arith) ∙ ap (slice_index r.bytes) zero' in
    let small : c.load.result ≡ c.load.result / 256 ^ 0 % 256 = omega (arith, c.load.ensures.small) in
    small ∙ (one ∙ found-shown c.args.self.now _ _ _ _ _ _ _ c.self.view_is c.self.invariant.keeps c.args.h b
    c.index.result.now c.requires.below c.index.ensures c.requires.from c.requires.to None
    (sym c.in-None.is ∙ (c.found_in_buffer.ensures ∙ ap (found_in b) c.as_slice.ensures.value)))
