-- Signals of a hart: how many it has made, and how many are in memory (this project's own).
use Rattle.std.specs.Prelude.{ℕ, List}
use Rattle.tm_world.specs.Lists.{count}
use Rattle.tm_world.specs.Run.{own}
use Rattle.tm_world.specs.Kinds.{flag_writes}
use Rattle.tm_world.specs.Course.{signals}
use Rattle.tm_buffered.specs.Moments.{Moment, Entry, steps_of, memory}

-- how often hart g has written its flag
abbrev pub made : ℕ → List Moment → ℕ
made g list = flag_writes g (own g (steps_of list))

-- how many of these writes are of g's flag
abbrev pub flags_in : ℕ → List Entry → ℕ
flags_in g entries = count (λ e. signals g e.step) entries

-- how many writes of g's flag are in memory
abbrev pub landed : ℕ → List Moment → ℕ
landed g list = flags_in g (memory list)
