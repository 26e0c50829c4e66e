use Rattle.std.proofs.Common.{ℕ, ◌<◌, List, length, sym, subst}
use Rattle.std.specs.Prelude.{All}
use Rattle.std.proofs.lemmas.List.Elements.{All-from_recursion}
use Rattle.tm_buffer.specs.declared.hart.Waiting.{Waiting}
use Rattle.tm_buffer.specs.Buffer.{IsWaiting, IsFreeIn}
use Rattle.tm_buffer.specs.Seen.{buffer}
use Rattle.tm_buffer.proofs.Buffers.{all-waiting, same-length, free-at, free-in}
use Rattle.tm_buffer.proofs.Shown.{state-shown}
use Rattle.tm_buffer.proofs.guest.BufferGuest.is_free.Goals as goal

pub is_free-requires-clause-each : goal.is_free-requires-clause-each
is_free-requires-clause-each c =
    let hart = c.index.result.now in
    let kept =
    state-shown c.args.self.now _ _ _ _ _ _ _ c.self.view_is c.self.invariant.keeps c.args.h hart c.requires.below
    c.index.ensures in
    subst (λ (ws : List Waiting). All IsWaiting ws) (sym c.as_slice.ensures.value)
    (All-from_recursion IsWaiting hart.buffer.items
    (all-waiting hart.buffer.items (buffer c.args.self.now c.args.h) kept.buffer))

pub is_free-requires-clause-inside : goal.is_free-requires-clause-inside
is_free-requires-clause-inside c =
    let hart = c.index.result.now in
    let kept =
    state-shown c.args.self.now _ _ _ _ _ _ _ c.self.view_is c.self.invariant.keeps c.args.h hart c.requires.below
    c.index.ensures in
    subst (λ (ws : List Waiting). c.args.i < length ws) (sym c.as_slice.ensures.value)
    (subst (λ (n : ℕ). c.args.i < n)
    (sym (same-length hart.buffer.items (buffer c.args.self.now c.args.h) kept.buffer)) c.requires.inside)

pub returns : goal.returns
returns c =
    let hart = c.index.result.now in
    let i = c.args.i in
    let es = buffer c.args.self.now c.args.h in
    let kept =
    state-shown c.args.self.now _ _ _ _ _ _ _ c.self.view_is c.self.invariant.keeps c.args.h hart c.requires.below
    c.index.ensures in
    let inside : i < length hart.buffer.items =
    subst (λ (n : ℕ). i < n) (sym (same-length hart.buffer.items es kept.buffer)) c.requires.inside in (
      λ y. free-at hart.buffer.items es i kept.buffer inside
          (subst (λ (ws : List Waiting). IsFreeIn ws i) c.as_slice.ensures.value (c.is_free.ensures.0 y)),
      λ f. c.is_free.ensures.1 (subst (λ (ws : List Waiting). IsFreeIn ws i) (sym c.as_slice.ensures.value)
          (free-in hart.buffer.items es i kept.buffer inside f)),
    )
