use Rattle.std.proofs.Common.{arith}
use Rattle.tm_place.proofs.DrawLemmas.{seeked}
use Rattle.tm_place.proofs.drawing.stream_at.Goals as goal

pub returns : goal.returns
returns c =
    seeked c.args.seed c.args.c c.args.h c.args.i c.args.d _ _ c.key_bytes.result c.from_seed-rng.result
    c.set_stream.new.self c.set_word_pos.new.self c.key_bytes.ensures (omega arith) (omega arith)
    c.from_seed-rng.ensures c.set_stream.ensures c.set_word_pos.ensures c.requires.slot c.requires.word
