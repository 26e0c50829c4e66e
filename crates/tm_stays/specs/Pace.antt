-- How much a hart works outside its streams, phase by phase (this project's own).
use Rattle.std.specs.Prelude.{◌≡◌, ℕ, ◌+◌, ◌<◌, ◌≤◌, ◌==◌, List, [], ◌∷◌, if◌then◌else◌}
use Rattle.tm_table.specs.State.{Hart}
use Rattle.tm_plan_cases.specs.declared.program.Program.{Program}
use Rattle.tm_world.specs.Place.{round_count, passes, exit_of}
use Rattle.tm_world.specs.Run.{Step, now, phase}
use Rattle.tm_world.specs.Kinds.{stream_at}
use Rattle.tm_world.specs.Work.{idle_lately}
use Rattle.tm_world.specs.Writers.{run_phase}
use Rattle.tm_stays.specs.Stays.{one_outside}

-- how many of hart h's work steps outside its streams it makes in phase q
abbrev pub phase_work : Program → ℕ → Hart → ℕ → List Step → ℕ
phase_work p h first q [] = 0
phase_work p h first q (s ∷ past) =
    let before = phase_work p h first q past in
    if idle_lately p h 4 (s ∷ past) then before
    else (if phase (exit_of p h) past == q then one_outside (stream_at p h (now first past).pc) before else before)

-- At most so much work outside streams: to set up a pass, to run it, to end it, and to compare the passes of a round
-- case.
pub record Pace : Type 0 where
  pub sets : ℕ
  pub runs : ℕ
  pub ends : ℕ
  pub compares : ℕ

-- Hart h keeps the pace: phase 0 sets up the first pass, each run phase runs a pass, and the phase behind it ends the
-- pass, compares where it was the last of its round case, and sets up the next one, if there is one.
pub record KeepsPace (p : Program) (h : ℕ) (pace : Pace) (first : Hart) (own : List Step) : Type 0 where
  pub begin : phase_work p h first 0 own ≤ 64 + pace.sets
  pub run : (e k : ℕ) → e < round_count p → k < passes p → phase_work p h first (run_phase p e k) own ≤ pace.runs
  pub between : (e k : ℕ) → e < round_count p → k + 1 < passes p
      → phase_work p h first (run_phase p e k + 1) own ≤ pace.ends + pace.sets
  pub next : (e k : ℕ) → e + 1 < round_count p → k + 1 ≡ passes p
      → phase_work p h first (run_phase p e k + 1) own ≤ pace.ends + pace.compares + pace.sets
  pub last : (e k : ℕ) → e + 1 ≡ round_count p → k + 1 ≡ passes p
      → phase_work p h first (run_phase p e k + 1) own ≤ pace.ends + pace.compares
