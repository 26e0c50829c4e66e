use Rattle.std.proofs.Common.{◌≡◌, Some, get_or, sym, ◌∙◌}
use Rattle.std.specs.Prelude.{slice_get}
use Rattle.std.proofs.lemmas.Option.{slice_get-get_or}
use Rattle.tm_plan_map.specs.Slots.{instr_of}
use Rattle.tm_race_walk.proofs.Shaping.{shaped-at}
use Rattle.tm_race_walk.proofs.Forwarding.{tracked-of, forward-told}
use Rattle.tm_race_walk.proofs.walking.Taint.forward.Goals as goal

pub instr_at-requires : goal.instr_at-requires
instr_at-requires c = c.requires.slot c.stream_of.result.now c.stream_of.ensures

pub step-requires : goal.step-requires
step-requires c =
    let s = c.stream_of.result.now in
    let w = get_or s.words c.args.i 0 in
    let there : slice_get s.words c.args.i ≡ Some w =
    slice_get-get_or s.words c.args.i 0 (c.requires.slot s c.stream_of.ensures) in
    let d : instr_of w ≡ Some c.in-Some.instr = sym (c.instr_at.ensures w there) ∙ c.in-Some.is in
    tracked-of c.args.case.now c.args.h c.args.i w s c.in-Some.instr c.requires.case c.stream_of.ensures there d

pub returns : goal.returns
returns c =
    let s = c.stream_of.result.now in
    let w = get_or s.words c.args.i 0 in
    let there : slice_get s.words c.args.i ≡ Some w =
    slice_get-get_or s.words c.args.i 0 (c.requires.slot s c.stream_of.ensures) in
    let d : instr_of w ≡ Some c.in-Some.instr = sym (c.instr_at.ensures w there) ∙ c.in-Some.is in
    forward-told c.args.case.now c.args.h c.args.i w c.args.others.now c.args.own.now s c.in-Some.instr c.args.self.now
    c.step.new.self c.stream_of.ensures there d
    c.requires.others c.requires.own c.requires.stands c.step.ensures

pub returns-in_default : goal.returns-in_default
returns-in_default c =
    let os = c.requires.case in
    let s = c.stream_of.result.now in
    let w = get_or s.words c.args.i 0 in
    let there : slice_get s.words c.args.i ≡ Some w =
    slice_get-get_or s.words c.args.i 0 (c.requires.slot s c.stream_of.ensures) in
    let slot = (shaped-at os.cases os.c c.args.h c.args.case.now s os.shaped os.at c.stream_of.ensures).slots c.args.i w
    there in
    let is : c.instr_at.result ≡ Some slot.0 = c.instr_at.ensures w there ∙ slot.1 in
    absurd (c.in_default.not-Some slot.0 is)
