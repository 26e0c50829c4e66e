use Rattle.std.proofs.Common.{◌≡◌, map, take, length}
use Rattle.tm_base.specs.Lists.{count_from}
use Rattle.tm_place.specs.declared.drawing.TheConstants.{SLOT_WORDS}
use Rattle.tm_place.specs.Draws.{draw}
use Rattle.tm_place.proofs.DrawLemmas.{before}
use Rattle.tm_place.proofs.drawing.Draws.of.Given as goal

abbrev pub invariant-loop-d : goal.invariant-loop-d
invariant-loop-d l = record {
  room : length l.words ≡ SLOT_WORDS;
  place : l.rng ≡ before l.fn.seed l.fn.c l.fn.h l.fn.i l.d;
  drawn : take l.d l.words ≡ map (draw l.fn.seed l.fn.c l.fn.h l.fn.i) (count_from 0 l.d);
}
