use Rattle.std.specs.Prelude.{◌≡◌, ◌++◌, flat_map}
use Rattle.tm_base.specs.Lists.{count_from}
use Rattle.tm_image_build.specs.Symbols.{stream_symbols}
use Rattle.tm_image_build.proofs.symbols.put_streams.Given as goal

abbrev pub invariant-loop-c : goal.invariant-loop-c
invariant-loop-c l = l.symbols ≡ l.initial.symbols ++ flat_map (stream_symbols l.program l.h) (count_from 0 l.c)
