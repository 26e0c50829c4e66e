use Rattle.std.specs.Prelude.{◌≡◌, flat_map}
use Rattle.tm_base.specs.Lists.{count_from}
use Rattle.tm_image_build.specs.Symbols.{hart_symbols}
use Rattle.tm_image_build.proofs.symbols.symbols_of.Given as goal

abbrev pub invariant-loop-h : goal.invariant-loop-h
invariant-loop-h l = l.symbols ≡ flat_map (hart_symbols l.program) (count_from 0 l.h)
