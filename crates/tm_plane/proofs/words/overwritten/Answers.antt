use Rattle.tm_plane.proofs.WordLemmas.{IsKept, kept-covered, kept-uncovered, with-writes, without-writes}
use Rattle.tm_plane.proofs.words.overwritten.Goals as goal
use Rattle.tm_plane.proofs.words.overwritten.Goals.{then-covered, else-covered}

pub returns-then-marks : goal.returns-then-marks
returns-then-marks c =
    let k : IsKept c.args.held c.args.writes c.args.covered c.if-covered.kept = elim c.if-covered.branch [
      | then-covered w ↦ kept-covered c.args.held c.args.writes c.args.covered c.if-covered.kept w.if-covered.true
          w.kept-is
      | else-covered w ↦ kept-uncovered c.args.held c.args.writes c.args.covered c.if-covered.kept w.if-covered.false
          c.ranges.held.fits c.ranges.writes.fits w.kept-is
    ] in
    with-writes c.args.held c.args.writes c.args.marks c.args.covered c.if-covered.kept c.if-marks.true k

pub returns-else-marks : goal.returns-else-marks
returns-else-marks c =
    let k : IsKept c.args.held c.args.writes c.args.covered c.if-covered.kept = elim c.if-covered.branch [
      | then-covered w ↦ kept-covered c.args.held c.args.writes c.args.covered c.if-covered.kept w.if-covered.true
          w.kept-is
      | else-covered w ↦ kept-uncovered c.args.held c.args.writes c.args.covered c.if-covered.kept w.if-covered.false
          c.ranges.held.fits c.ranges.writes.fits w.kept-is
    ] in
    without-writes c.args.held c.args.writes c.args.marks c.args.covered c.if-covered.kept c.if-marks.false k
