use Rattle.tm_image_build.specs.Symbols.{stream_symbols}
use Rattle.tm_image_build.proofs.Rows.{row-more}
use Rattle.tm_image_build.proofs.symbols.put_streams.Goals as goal

pub loop-c-preserved : goal.loop-c-preserved
loop-c-preserved c = row-more (stream_symbols c.args.program.now c.args.h) c.loop-c.c c.args.symbols.now
    c.loop-c.symbols c.put_stream.new.symbols c.loop-c.invariant c.in_ok-put_stream.ensures
