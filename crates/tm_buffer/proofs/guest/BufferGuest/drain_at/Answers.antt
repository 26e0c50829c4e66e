use Rattle.std.proofs.Common.{◌≡◌, ℕ, ◌<◌, length, set, sym, ap, ◌∙◌, subst, arith}
use Rattle.tm_world.specs.Place.{harts}
use Rattle.tm_guest.proofs.Acts.{placed}
use Rattle.tm_buffer.specs.declared.hart.Waiting.{Waiting}
use Rattle.tm_buffer.specs.Buffer.{IsWaiting}
use Rattle.tm_buffer.specs.declared.drains.DrainEntry.{DrainEntry}
use Rattle.tm_buffer.specs.Listed.{with_harts}
use Rattle.tm_buffer.specs.Seen.{Seen, buffer}
use Rattle.tm_buffer.proofs.Buffers.{same-length, entry-at, free-of, got, contains-get}
use Rattle.tm_buffer.proofs.Naming.{named-long, named-more}
use Rattle.tm_buffer.proofs.Storing.{stored-drain, its-event}
use Rattle.tm_buffer.proofs.Shown.{state-shown}
use Rattle.tm_buffer.proofs.Stepping.{has-room, after-drain, drained-shown, waiting-after}
use Rattle.tm_buffer.proofs.guest.BufferGuest.drain_at.Goals as goal

pub take-waiting-requires : goal.take-waiting-requires
take-waiting-requires c =
    let old = c.index_mut.result.now in
    let kept =
    state-shown c.args.self.now _ _ _ _ _ _ _ c.self.view_is c.self.invariant.keeps c.args.h old c.requires.below
    c.index_mut.ensures.value in
    subst (λ (n : ℕ). c.args.i < n)
    (sym (same-length old.buffer.items (buffer c.args.self.now c.args.h) kept.buffer)) c.requires.inside

pub write_back-requires : goal.write_back-requires
write_back-requires c =
    let old = c.index_mut.result.now in
    let w = c.take-waiting.result in
    let kept =
    state-shown c.args.self.now _ _ _ _ _ _ _ c.self.view_is c.self.invariant.keeps c.args.h old c.requires.below
    c.index_mut.ensures.value in
    let inside : c.args.i < length old.buffer.items =
    subst (λ (n : ℕ). c.args.i < n)
    (sym (same-length old.buffer.items (buffer c.args.self.now c.args.h) kept.buffer)) c.requires.inside in
    let x = entry-at old.buffer.items (buffer c.args.self.now c.args.h) c.args.i w kept.buffer inside in
    let is : IsWaiting w = subst IsWaiting (sym c.take-waiting.ensures.value) x.is in
    placed c.self.inside.ram w.addr w.width c.self.invariant.keeps.memory.region is.wide (is.aligned, is.from, is.end)

pub put-requires : goal.put-requires
put-requires c =
    let old = c.index_mut.result.now in
    let kept =
    state-shown c.args.self.now _ _ _ _ _ _ _ c.self.view_is c.self.invariant.keeps c.args.h old c.requires.below
    c.index_mut.ensures.value in
    let inside : c.args.i < length old.buffer.items =
    subst (λ (n : ℕ). c.args.i < n)
    (sym (same-length old.buffer.items (buffer c.args.self.now c.args.h) kept.buffer)) c.requires.inside in
    let room =
    has-room c.args.self.now _ _ c.args.h _ _ _ _ _ c.self.view_is c.self.invariant.keeps c.requires.below c.args.i old
    c.index_mut.ensures.value inside in
    let held = c.self.inside in
    let same = named-long held.journal.events held.drains.entries in
    omega arith

pub invariant_of-self : goal.invariant_of-self
invariant_of-self c =
    let v = c.args.self.now in
    let h = c.args.h in
    let held = c.self.inside in
    let old = c.index_mut.result.now in
    let new = c.take-waiting.new.self in
    let w = c.take-waiting.result in
    let kept =
    state-shown v _ _ _ _ _ _ _ c.self.view_is c.self.invariant.keeps h old c.requires.below c.index_mut.ensures.value in
    let inside : c.args.i < length old.buffer.items =
    subst (λ (n : ℕ). c.args.i < n) (sym (same-length old.buffer.items (buffer v h) kept.buffer)) c.requires.inside in
    let below : h < harts held.program.now = subst (λ (g : Seen). h < harts g.program) (sym c.self.view_is)
    c.requires.below in
    let free = free-of old.buffer.items (buffer v h) c.args.i w kept.buffer inside c.take-waiting.ensures.value
    c.requires.free in
    let entry : DrainEntry = record { after = c.len-after.result; write = w.write } in
    let x = entry-at old.buffer.items (buffer v h) c.args.i w kept.buffer inside in
    let number : x.entry.number ≡ w.write =
    x.number ∙ ap (λ (y : Waiting). y.write) (sym c.take-waiting.ensures.value) in
    let now =
    after-drain held.program.now held.limit h held.decodes.items held.harts.items held.ram held.journal
    (with_harts held.journal.events held.drains) c.self.invariant.keeps below c.args.i w old new c.write_back.new.ram
    c.len-after.result c.len-after.ensures c.index_mut.ensures.value inside c.take-waiting.ensures.value free
    c.take-waiting.ensures.cpu c.take-waiting.ensures.items c.take-waiting.ensures.shorter c.write_back.ensures in
    stored-drain held.program.now held.limit h held.decodes.items (set held.harts.items h new) c.write_back.new.ram
    held.journal held.drains c.put.new.self entry c.self.invariant.made
    (its-event v held.program.now held.limit h held.journal (with_harts held.journal.events held.drains) c.self.view_is
    x.entry w.write x.among number) c.put.ensures now

pub returns-clause-one : goal.returns-clause-one
returns-clause-one c =
    let v = c.args.self.now in
    let h = c.args.h in
    let old = c.index_mut.result.now in
    let w = c.take-waiting.result in
    let kept =
    state-shown v _ _ _ _ _ _ _ c.self.view_is c.self.invariant.keeps h old c.requires.below c.index_mut.ensures.value in
    let inside : c.args.i < length old.buffer.items =
    subst (λ (n : ℕ). c.args.i < n) (sym (same-length old.buffer.items (buffer v h) kept.buffer)) c.requires.inside in
    let (e, at, access, number) = got old.buffer.items (buffer v h) c.args.i w kept.buffer inside in
    let same = number ∙ ap (λ (x : Waiting). x.write) (sym c.take-waiting.ensures.value) in
    let held = c.self.inside in
    let entry : DrainEntry = record { after = c.len-after.result; write = w.write } in
    let its = its-event v held.program.now held.limit h held.journal (with_harts held.journal.events held.drains)
    c.self.view_is e w.write (contains-get (buffer v h) c.args.i e at) same in (
      e,
      at,
      drained-shown v _ _ h _ _ _ _ _ c.self.view_is c.self.invariant.keeps c.requires.below c.len-after.result w.write
          (with_harts held.journal.events c.put.new.self) e c.len-after.ensures same
          (named-more held.journal.events held.drains c.put.new.self entry h its.1 c.put.ensures),
    )

pub returns-clause-shorter : goal.returns-clause-shorter
returns-clause-shorter c =
    let v = c.args.self.now in
    let h = c.args.h in
    let held = c.self.inside in
    let old = c.index_mut.result.now in
    let new = c.take-waiting.new.self in
    let kept =
    state-shown v _ _ _ _ _ _ _ c.self.view_is c.self.invariant.keeps h old c.requires.below c.index_mut.ensures.value in
    let below : h < harts held.program.now = subst (λ (g : Seen). h < harts g.program) (sym c.self.view_is)
    c.requires.below in
    let few : h < length held.harts.items = subst (λ (n : ℕ). h < n) (sym c.self.invariant.keeps.each_hart.count) below in
    let was = same-length old.buffer.items (buffer v h) kept.buffer in
    let is = waiting-after held.program.now held.limit h held.decodes.items held.harts.items c.write_back.new.ram
    held.journal (with_harts held.journal.events c.put.new.self) new below few (invariant_of-self c).keeps in
    omega (arith, c.take-waiting.ensures.shorter, was, is)

pub returns-clause-run : goal.returns-clause-run
returns-clause-run c = (invariant_of-self c).keeps.goes_on
