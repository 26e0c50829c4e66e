use Rattle.std.proofs.Common.{arith, sym, subst}
use Rattle.tm_table.specs.State.{Hart, hart_of}
use Rattle.tm_plan_map.specs.Map.{text_base}
use Rattle.tm_guest.specs.declared.decoded.Decoded.{Decoded}
use Rattle.tm_guest.specs.Fields.{IsRow}
use Rattle.tm_buffer.proofs.Shown.{state-shown, finds-row}
use Rattle.tm_buffer.proofs.guest.BufferGuest.row.Goals as goal

pub overflow_sub-place : goal.overflow_sub-place
unfolding text_base
overflow_sub-place c =
    (finds-row c.args.self.now _ _ _ _ _ _ _ c.self.view_is c.self.invariant.keeps c.args.h c.index-hart.result.now
    c.requires.below c.index-hart.ensures c.requires.off_halt).from

pub index-requires : goal.index-requires
unfolding text_base
index-requires c =
    let f =
    finds-row c.args.self.now _ _ _ _ _ _ _ c.self.view_is c.self.invariant.keeps c.args.h c.index-hart.result.now
    c.requires.below c.index-hart.ensures c.requires.off_halt in
    omega (arith, f.few)

pub returns : goal.returns
unfolding text_base
returns c =
    let g = c.args.self.now in
    let hart = c.index-hart.result.now in
    let f =
    finds-row g _ _ _ _ _ _ _ c.self.view_is c.self.invariant.keeps c.args.h hart c.requires.below c.index-hart.ensures
    c.requires.off_halt in
    let kept =
    state-shown g _ _ _ _ _ _ _ c.self.view_is c.self.invariant.keeps c.args.h hart c.requires.below c.index-hart.ensures in
    subst (λ (h : Hart). IsRow g.program h c.index.result.now) kept.state
    (subst (λ (x : Decoded). IsRow g.program (hart_of hart.cpu) x) (sym c.index.ensures) (f.row c.index.result.now))
