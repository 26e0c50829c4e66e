-- What a seed draws: words of streams of ChaCha with 8 rounds. They have no order of drawing. Key, stream and place
-- are this project's own.
use Rattle.std.specs.Prelude.{ℕ, ◌+◌, ◌*◌, List, ◌++◌, map, replicate, slice_index}
use Rattle.std.specs.Int.{w64, to_le_bytes}
use Rattle.rand_chacha.specs.ChaCha.{word_at, key_of}
use Rattle.tm_base.specs.Lists.{count_from}
use Rattle.tm_place.specs.declared.drawing.TheConstants.{CASE_STREAMS, SLOT_WORDS}
use Rattle.tm_place.specs.Numbers.{choice}

-- the key: the 8 bytes of the seed, lowest first, and 24 zeros
unfoldable pub key : ℕ → List ℕ
key seed = key_of (to_le_bytes w64 seed ++ replicate 24 0)

-- Word d that seed draws for slot i of hart h in case c: the word at place 16i + d of stream 64c + h.
unfoldable pub draw : (seed c h i d : ℕ) → ℕ
draw seed c h i d = word_at 4 (key seed) (CASE_STREAMS * c + h) (SLOT_WORDS * i + d)

-- the 16 words of a slot
unfoldable pub slot_draws : (seed c h i : ℕ) → List ℕ
slot_draws seed c h i = map (draw seed c h i) (count_from 0 SLOT_WORDS)

-- one of n numbers, by word d of a slot's
abbrev pub pick : List ℕ → (d n : ℕ) → ℕ
pick draws d n = choice (slice_index draws d) n
