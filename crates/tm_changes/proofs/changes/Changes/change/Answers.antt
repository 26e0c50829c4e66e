use Rattle.std.proofs.Common.{◌≡◌, ◌∙◌, List, length, ap, arith, subst, sym}
use Rattle.tm_plan_script.specs.declared.faults.FaultLine.{FaultLine}
use Rattle.tm_changes.specs.Made.{change_in}
use Rattle.tm_changes.specs.Scripted.{Scripted, IsLast, place_of}
use Rattle.tm_changes.proofs.Changing.{OneMore, from-last, kept-shown, one-more-line}
use Rattle.tm_changes.proofs.changes.Changes.change.Goals as goal

pub loop-left-init : goal.loop-left-init
loop-left-init c =
    let v = c.args.self.now in
    let lines = c.as_slice-lines.result.now in
    let same : lines ≡ v.lines = c.as_slice-lines.ensures ∙ ap (λ (w : Scripted). w.lines) c.self.view_is in
    let last : IsLast v.program lines (place_of c.args.pc) (length lines) c.args.last =
    subst (λ (x : List FaultLine). IsLast v.program x (place_of c.args.pc) (length x) c.args.last) (sym same)
    c.requires.last in
    record {
      few = last.within;
      at = last.at;
      behind = from-last v.program lines c.args.h c.args.phase c.args.pc c.args.last _ c.ranges.pc.fits c.requires.from
          last c.nothing-change.ensures;
    }

more : (c : goal.After-row_known-1)
    → OneMore c.args.self.now.program c.as_slice-lines.result.now c.loop-left.left c.index-left.result.now c.args.h
    c.args.phase c.args.pc (change_in c.with_line-change.result)
more c =
    let known = c.loop-left.invariant in
    let lines = c.as_slice-lines.result.now in
    one-more-line c.args.self.now _ lines _ _ c.loop-left.left c.index-left.result.now _ c.args.h c.args.phase c.args.pc
    _ _ (ap (λ (w : Scripted). w.program) c.self.view_is)
    (kept-shown c.args.self.now _ _ lines _ _ c.self.view_is c.as_slice-lines.ensures c.self.invariant)
    c.ranges.pc.fits c.requires.from c.requires.within c.loop-left-test.true known.few known.at c.index-left.ensures
    known.behind c.with_line-change.ensures

pub loop-left-smaller : goal.loop-left-smaller
loop-left-smaller c = (more c).less

pub loop-left-preserved : goal.loop-left-preserved
loop-left-preserved c =
    let next = more c in
    record {
      few = omega (arith, next.less, c.loop-left.invariant.few);
      at = next.last.at;
      behind = next.behind;
    }
