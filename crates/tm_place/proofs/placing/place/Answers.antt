use Rattle.tm_place.specs.Placing.{shape_of, hot_lines}
use Rattle.std.proofs.Common.{refl}
use Rattle.tm_place.proofs.PlaceLemmas.{has-lines, placement-of, shared-of}
use Rattle.tm_place.proofs.placing.place.Goals as goal

pub hot_line-requires-clause-some : goal.hot_line-requires-clause-some
hot_line-requires-clause-some c =
    rw (c.numbered.ensures, c.as_slice-windows.ensures) (has-lines c.args.a.now 0 c.requires.ruled)

pub hot_line-requires-2-clause-some : goal.hot_line-requires-2-clause-some
hot_line-requires-2-clause-some c =
    rw (c.numbered-2.ensures, c.as_slice-windows.ensures) (has-lines c.args.a.now 1 c.requires.ruled)

pub hot_line-requires-3-clause-some : goal.hot_line-requires-3-clause-some
hot_line-requires-3-clause-some c =
    rw (c.numbered-3.ensures, c.as_slice-windows.ensures) (has-lines c.args.a.now 2 c.requires.ruled)

pub invariant_of-result : goal.invariant_of-result
invariant_of-result c = record {
  limits = placement-of c.args.a.now c.args.seed c.args.c c.numbered.result c.numbered-2.result c.numbered-3.result
      c.hot_line.result c.hot_line-2.result c.hot_line-3.result c.requires.ruled
      (rw (← c.as_slice-windows.ensures) c.numbered.ensures) (rw (← c.as_slice-windows.ensures) c.numbered-2.ensures)
      (rw (← c.as_slice-windows.ensures) c.numbered-3.ensures)
      c.hot_line.ensures c.hot_line-2.ensures c.hot_line-3.ensures;
}

pub returns-clause-shape : goal.returns-clause-shape
unfolding shape_of
returns-clause-shape c = rw (c.numbered.ensures, c.numbered-2.ensures, c.numbered-3.ensures, c.as_slice-windows.ensures)
    refl

pub returns-clause-hot : goal.returns-clause-hot
unfolding hot_lines
returns-clause-hot c = rw (
  c.hot_line.ensures,
  c.hot_line-2.ensures,
  c.hot_line-3.ensures,
  c.numbered.ensures,
  c.numbered-2.ensures,
  c.numbered-3.ensures,
  c.as_slice-windows.ensures,
) refl

pub returns-clause-shared : goal.returns-clause-shared
returns-clause-shared c = shared-of c.args.a.now c.numbered.result c.numbered-2.result c.numbered-3.result
    c.requires.ruled (rw (← c.as_slice-windows.ensures) c.numbered.ensures)
    (rw (← c.as_slice-windows.ensures) c.numbered-2.ensures) (rw (← c.as_slice-windows.ensures) c.numbered-3.ensures)
