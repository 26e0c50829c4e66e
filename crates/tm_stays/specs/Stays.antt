-- How long a hart stays inside its streams and outside them (this project's own).
use Rattle.std.specs.Prelude.{ℕ, suc, ◌+◌, List, [], ◌∷◌, slice_get, Option, None, Some, if◌then◌else◌}
use Rattle.tm_table.specs.State.{Hart}
use Rattle.tm_plan_cases.specs.declared.program.Program.{Program}
use Rattle.tm_plan_cases.specs.declared.cases.Case.{Case}
use Rattle.tm_plan_cases.specs.Collected.{slots_of}
use Rattle.tm_world.specs.Place.{inside}
use Rattle.tm_world.specs.Run.{Step, now}
use Rattle.tm_world.specs.Kinds.{stream_at}
use Rattle.tm_world.specs.Work.{idle_lately}

-- one more where a place lies in no stream
abbrev pub one_outside : Option ℕ → ℕ → ℕ
one_outside None n = suc n
one_outside (Some c) n = n

-- one more where a place lies in a stream
abbrev pub one_inside : Option ℕ → ℕ → ℕ
one_inside None n = n
one_inside (Some c) n = suc n

-- how many of hart h's own steps are taken outside its streams
abbrev pub outside_steps : Program → ℕ → Hart → List Step → ℕ
outside_steps p h first [] = 0
outside_steps p h first (s ∷ past) = one_outside (stream_at p h (now first past).pc) (outside_steps p h first past)

-- how many are taken inside its streams
abbrev pub inside_steps : Program → ℕ → Hart → List Step → ℕ
inside_steps p h first [] = 0
inside_steps p h first (s ∷ past) = one_inside (stream_at p h (now first past).pc) (inside_steps p h first past)

-- How many of its last steps, one after another, hart h has taken inside stream (h, c): how long its stay there is so
-- far, or has been where it has just left.
abbrev pub stay_steps : Program → ℕ → ℕ → Hart → List Step → ℕ
stay_steps p h c first [] = 0
stay_steps p h c first (s ∷ past) = if inside p h c (now first past).pc then suc (stay_steps p h c first past) else 0

-- how many of those outside are work: no idle read, and none of the three next steps after one
abbrev pub outside_work : Program → ℕ → Hart → List Step → ℕ
outside_work p h first [] = 0
outside_work p h first (s ∷ past) =
    if idle_lately p h 4 (s ∷ past) then outside_work p h first past
    else one_outside (stream_at p h (now first past).pc) (outside_work p h first past)

-- the words of hart h's streams in these cases
abbrev pub words_in : ℕ → List Case → ℕ
words_in h [] = 0
words_in h (case ∷ more) = slots_of (slice_get case.streams h) + words_in h more
