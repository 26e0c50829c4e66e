use Rattle.std.proofs.Common.{[]}
use Rattle.tm_image_build.specs.Symbols.{hart_symbols}
use Rattle.tm_image_build.proofs.Rows.{row-more}
use Rattle.tm_image_build.proofs.symbols.symbols_of.Goals as goal

pub loop-h-preserved : goal.loop-h-preserved
loop-h-preserved c = row-more (hart_symbols c.args.program.now) c.loop-h.h [] c.loop-h.symbols c.put_hart.new.symbols
    c.loop-h.invariant c.in_ok-put_hart.ensures
