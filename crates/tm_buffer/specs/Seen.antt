-- What contracts see of a store-buffered machine (this project's own).
use Rattle.std.specs.Prelude.{◌≡◌, ℕ, suc, ◌==◌, List, [], ◌∷◌, ◌++◌, length, reverse, if◌then◌else◌}
use Rattle.tm_table.specs.State.{Hart}
use Rattle.tm_plan_cases.specs.declared.program.Program.{Program}
use Rattle.tm_plan_cases.specs.declared.event.Event.{Event}
use Rattle.tm_world.specs.Place.{halt_of}
use Rattle.tm_world.specs.Run.{Step}
use Rattle.tm_world.specs.Work.{GoOn}
use Rattle.tm_world.specs.Replay.{opening, state_after, stepped, replay}
use Rattle.tm_buffered.specs.Moments.{Moment, Makes, Drains, Moments, Buffered, Entry, steps_of, waiting}
use Rattle.tm_buffered.specs.Moments.{opened_with, run_of}
use Rattle.tm_buffer.specs.Listed.{Drain}

-- the program, the most events, the events so far, and the drains so far
pub record Seen : Type 0 where
  pub program : Program
  pub limit : ℕ
  pub journal : List Event
  pub drains : List Drain

-- ---- the moments

-- the drains, the newest first, that came when n steps had been made
abbrev pub drained_after : ℕ → List Drain → List Moment
drained_after n [] = []
drained_after n (d ∷ more) = if d.after == n then Drains d.hart d.write ∷ drained_after n more else drained_after n more

-- the moments of these events and drains, each the newest first
abbrev pub moments_by : Program → List Event → List Drain → List Moment
moments_by p [] drains = drained_after 0 drains
moments_by p (e ∷ past) drains =
    drained_after (suc (length past)) drains ++ (Makes (stepped p [] (replay p [] past) e) ∷ moments_by p past drains)

-- the moments of a journal and its drains, the newest first
unfoldable pub moments_of : Program → List Event → List Drain → List Moment
moments_of p events drains = moments_by p (reverse events) (reverse drains)

-- the moments, with the registers with which a simulation opens
abbrev pub opened : List Moment → Moments
opened list = opened_with opening list

-- the moments so far, the newest first
abbrev pub moments : Seen → List Moment
moments g = moments_of g.program g.journal g.drains

-- the steps so far, the newest first
abbrev pub steps : Seen → List Step
steps g = steps_of (moments g)

-- the state of hart h: what replaying the journal gives
abbrev pub state : Seen → ℕ → Hart
state g h = state_after (steps g) h

-- hart h is at its halt mark
abbrev pub IsHalted : Seen → ℕ → Type 0
IsHalted g h = (state g h).pc ≡ halt_of g.program h

-- hart h's buffer, the newest write first
abbrev pub buffer : Seen → ℕ → List Entry
buffer g h = waiting h (moments g)

-- the moments so far are a buffered run
abbrev pub IsRun : Seen → Type 0
IsRun g = Buffered g.program (opened (moments g))

-- ---- what a machine asks of a program

-- No hart gets stuck on a buffered run.
abbrev pub NeverStuck : Program → Type 0
NeverStuck p = (m : Moments) → Buffered p m → GoOn p (run_of m)

-- ---- one more

-- before the first moment
abbrev pub fresh : Program → ℕ → Seen
fresh p limit = record { program = p; limit = limit; journal = []; drains = [] }

-- with one more event
abbrev pub with_event : Seen → Event → Seen
with_event g e = record { program = g.program; limit = g.limit; journal = g.journal ++ e ∷ []; drains = g.drains }

-- with one more drain
abbrev pub with_drain : Seen → Drain → Seen
with_drain g d = record { program = g.program; limit = g.limit; journal = g.journal; drains = g.drains ++ d ∷ [] }

-- the draining of this write of hart h, now
abbrev pub draining : Seen → ℕ → Entry → Drain
draining g h e = record { after = length g.journal; hart = h; write = e.number }
