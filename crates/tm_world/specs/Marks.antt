-- The marks that a hart comes to, and the order in which it should (this project's own).
use Rattle.std.specs.Prelude.{ℕ, Bool, ◌&&◌, not, ◌==◌, List, [], ◌∷◌, ◌++◌, flat_map}
use Rattle.tm_table.specs.State.{Hart}
use Rattle.tm_plan_cases.specs.declared.program.Program.{Program}
use Rattle.tm_base.specs.Lists.{count_from}
use Rattle.tm_world.specs.Lists.{those}
use Rattle.tm_world.specs.Place.{case_count, round_count, case_of_round, passes, start_of, end_of, exit_of, halt_of}
use Rattle.tm_world.specs.Place.{inside}
use Rattle.tm_world.specs.Run.{Step, now}

-- The exit mark, entering stream (h, c), its end, halt; and what no hart should do: to come into stream (h, c) from
-- outside at another place than its start.
pub data Mark : Type 0 where
  Exit : Mark
  Enter : (c : ℕ) → Mark
  End : (c : ℕ) → Mark
  Halt : Mark
  Stray : (c : ℕ) → Mark

-- A hart whose program counter goes from one address to another comes to a mark.
abbrev pub comes_to : Program → ℕ → Mark → ℕ → ℕ → Bool
comes_to p h Exit from to = to == exit_of p h
comes_to p h (Enter c) from to = (to == start_of p h c) && not (inside p h c from)
comes_to p h (End c) from to = to == end_of p h c
comes_to p h Halt from to = to == halt_of p h
comes_to p h (Stray c) from to = inside p h c to && (not (inside p h c from) && not (to == start_of p h c))

-- all marks of a hart
abbrev pub all_marks : Program → List Mark
all_marks p = Exit ∷ Halt ∷ flat_map (λ c. Enter c ∷ End c ∷ Stray c ∷ []) (count_from 0 (case_count p))

-- the marks that a step comes to
abbrev pub arrivals : Program → ℕ → ℕ → ℕ → List Mark
arrivals p h from to = those (λ m. comes_to p h m from to) (all_marks p)

-- the marks that hart h has come to, the first of them first: each coming of the program counter counts
abbrev pub visited : Program → ℕ → Hart → List Step → List Mark
visited p h first [] = []
visited p h first (s ∷ past) = visited p h first past ++ arrivals p h (now first past).pc s.after.pc

-- in one pass of case c: the exit mark, entering the stream, its end, the exit mark
abbrev pub pass_way : ℕ → List Mark
pass_way c = Exit ∷ Enter c ∷ End c ∷ Exit ∷ []

-- the whole way: for each round case and in it each pass that of the pass, and after the last of them halt
abbrev pub whole_way : Program → List Mark
whole_way p = flat_map (λ e. flat_map (λ k. pass_way (case_of_round p e)) (count_from 0 (passes p)))
    (count_from 0 (round_count p)) ++ (Halt ∷ [])
