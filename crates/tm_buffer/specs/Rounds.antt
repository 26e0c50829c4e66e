-- Drawn rounds (this project's own).
use Rattle.std.specs.Prelude.{◌≡◌, ℕ, suc, ◌/◌, ◌%◌, ◌<◌, ◌≤◌, ◌==◌, length, Option, None, Some}
use Rattle.std.specs.Prelude.{if◌then◌else◌}
use Rattle.tm_plan_cases.specs.declared.event.Event.{Event}
use Rattle.tm_base.specs.declared.limits.TheConstants.{CASE_ROOM}
use Rattle.tm_place.specs.declared.drawing.TheConstants.{STREAM_SLOTS}
use Rattle.tm_place.specs.Draws.{draw}
use Rattle.tm_place.specs.Numbers.{choice}
use Rattle.tm_world.specs.Place.{harts}
use Rattle.tm_guest.specs.declared.turn.RoundEnd.{RoundEnd}
use Rattle.tm_guest.specs.declared.turn.RoundEnd.TheVariants.{Done, Full}
use Rattle.tm_buffer.specs.declared.turn.Drained.{Drained}
use Rattle.tm_buffer.specs.Seen.{Seen, IsHalted, buffer}
use Rattle.tm_buffer.specs.Turns.{DrainAnswers, Makes}

-- Word d that the seed draws for hart h in round t.
abbrev pub drawn : (seed t h d : ℕ) → ℕ
drawn seed t h d = draw seed (t / STREAM_SLOTS % CASE_ROOM) h (t % STREAM_SLOTS) d

-- Which write of hart h, of the n that wait, counted from the oldest, is to drain in round t, if one is: the oldest in
-- each eighth round; and in every other one, where the first word drawn says so, the one that the second names.
abbrev pub to_drain : (seed t h n : ℕ) → Option ℕ
to_drain seed t h n =
    if t % 8 == 7 then Some 0
    else (if n == 0 then None
    else (if choice (drawn seed t h 0) 2 == 1 then Some (choice (drawn seed t h 1) n) else None))

-- the machine after the draining of this write, if one is to drain and may
abbrev pub After : Option ℕ → Seen → ℕ → Seen → Type 0
After None g h after = after ≡ g
After (Some which) g h after = (answer : Drained) × DrainAnswers g h which answer after

-- From one machine on, where hart 0's turn in round `first` is next, drawn rounds lead to another, where hart h's turn
-- in round t is next. Each hart first may drain one write; then it steps, unless it is at halt.
pub data Goes (seed first : ℕ) (from : Seen) : ℕ → ℕ → Seen → Type 0 where
  Begins : Goes seed first from first 0 from
  Steps : {t h : ℕ} {g : Seen} (drained : Seen) (place : ℕ) (e : Event) (after : Seen) → Goes seed first from t h g
      → h < harts from.program → After (to_drain seed t h (length (buffer g h))) g h drained
      → Makes drained h place e after → Goes seed first from t (suc h) after
  Skips : {t h : ℕ} {g : Seen} (drained : Seen) → Goes seed first from t h g → h < harts from.program
      → After (to_drain seed t h (length (buffer g h))) g h drained → IsHalted drained h
      → Goes seed first from t (suc h) drained
  Wraps : {t : ℕ} {g : Seen} → Goes seed first from t (harts from.program) g → Goes seed first from (suc t) 0 g

-- They end in round t at hart h's turn, behind its drain, where the journal is full and the hart isn't at halt.
pub record IsFull (seed first : ℕ) (from : Seen) (end : Seen) : Type 0 where
  pub round : ℕ
  pub hart : ℕ
  pub before : Seen
  pub goes : Goes seed first from round hart before
  pub below : hart < harts end.program
  pub drained : After (to_drain seed round hart (length (buffer before hart))) before hart end
  pub full : length end.journal ≡ end.limit
  pub off_halt : ¬ IsHalted end hart

-- all harts are at their halt marks
abbrev pub AllHalted : Seen → Type 0
AllHalted g = (h : ℕ) → h < harts g.program → IsHalted g h

-- How drawn rounds end: all harts are at halt; or the journal is full, and some hart isn't.
abbrev pub EndsAs : ℕ → Seen → RoundEnd → Seen → Type 0
EndsAs seed from Done end = (t : ℕ) × Goes seed 0 from t 0 end × AllHalted end
EndsAs seed from Full end = IsFull seed 0 from end

-- the same program and limit
pub record IsSame (g t : Seen) : Type 0 where
  pub program : t.program ≡ g.program
  pub limit : t.limit ≡ g.limit

-- more events, but no more than the limit
abbrev pub Grows : Seen → Seen → Type 0
Grows g t = (length g.journal < length t.journal) × (length t.journal ≤ g.limit)
