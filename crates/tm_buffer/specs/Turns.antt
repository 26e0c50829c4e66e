-- What turns and drains answer (this project's own).
use Rattle.std.specs.Prelude.{◌≡◌, ℕ, ◌+◌, ◌<◌, Bool, ◌&&◌, ◌==◌, List, [], ◌∷◌, length, slice_get, Some, false, reverse}
use Rattle.std.specs.Prelude.{take, if◌then◌else◌}
use Rattle.tm_table.specs.declared.state.Access.{Access}
use Rattle.tm_plan_cases.specs.declared.event.Event.{Event}
use Rattle.tm_plan_map.specs.Slots.{instr_of}
use Rattle.tm_world.specs.Run.{access_of}
use Rattle.tm_world.specs.Course.{is_write}
use Rattle.tm_guest.specs.declared.turn.Turn.{Turn}
use Rattle.tm_guest.specs.declared.turn.Turn.TheVariants.{Stepped, Halted, Full}
use Rattle.tm_buffered.specs.Moments.{Entry, share, is_fence_instr}
use Rattle.tm_buffer.specs.declared.hart.TheConstants.{BUFFER_WRITES}
use Rattle.tm_buffer.specs.declared.turn.Drained.{Drained}
use Rattle.tm_buffer.specs.declared.turn.Drained.TheVariants.{Went, Nothing}
use Rattle.tm_buffer.specs.Seen.{Seen, IsHalted, IsRun, buffer, with_event, with_drain, draining}

-- ---- drains

-- No write behind place i of a buffer, whose newest write stands first, has a byte in common with the one there.
abbrev pub IsFreeAt : List Entry → ℕ → Type 0
IsFreeAt es i = (e x : Entry) (j : ℕ) → slice_get es i ≡ Some e → slice_get es j ≡ Some x → i < j
    → share (access_of x.step) (access_of e.step) ≡ false

-- the write at place i of hart h's buffer has drained
abbrev pub DrainsOne : Seen → ℕ → ℕ → Seen → Type 0
DrainsOne g h i after = (e : Entry) × (slice_get (buffer g h) i ≡ Some e) × (after ≡ with_drain g (draining g h e))

-- What the draining of hart h's write number `which`, counted from the oldest, answers, and how it leaves the machine:
-- it goes to memory where it is there, and no older write has a byte in common with it.
abbrev pub DrainAnswers : Seen → ℕ → ℕ → Drained → Seen → Type 0
DrainAnswers g h which Went after = (i : ℕ) × (i + 1 + which ≡ length (buffer g h)) × IsFreeAt (buffer g h) i
    × DrainsOne g h i after × IsRun after
DrainAnswers g h which Nothing after = (after ≡ g)
    × ((i : ℕ) → i + 1 + which ≡ length (buffer g h) → IsFreeAt (buffer g h) i → ⊥)

-- hart h's writes of this list have drained, one after another
abbrev pub drained_all : Seen → ℕ → List Entry → Seen
drained_all g h [] = g
drained_all g h (e ∷ more) = drained_all (with_drain g (draining g h e)) h more

-- ---- turns

-- Before a FENCE all writes of the hart drain, the oldest first.
abbrev pub fenced_by : Seen → ℕ → Bool → Seen
fenced_by g h fence = drained_all g h (if fence then reverse (buffer g h) else [])

-- so before a step with this word
abbrev pub fenced : Seen → ℕ → ℕ → Seen
fenced g h word = fenced_by g h (is_fence_instr (instr_of word))

-- Before a store into a full buffer the oldest write drains.
abbrev pub spared : Seen → ℕ → Access → Seen
spared g h access =
    drained_all g h (if is_write access && (length (buffer g h) == BUFFER_WRITES) then take 1 (reverse (buffer g h)) else [])

-- A turn that makes an event, where the hart isn't at halt and there is room: behind those drains, at the journal's
-- end, with which the moments go on as a buffered run.
pub record Makes (g : Seen) (h place : ℕ) (e : Event) (after : Seen) : Type 0 where
  pub off_halt : ¬ IsHalted g h
  pub room : length g.journal < g.limit
  pub at_end : place ≡ length g.journal
  pub hart : e.hart ≡ h
  pub longer : after ≡ with_event (spared (fenced g h e.word) h e.access) e
  pub goes_on : IsRun after

-- What hart h's turn answers at a machine, and how it leaves it.
abbrev pub Answers : Seen → ℕ → Turn → Seen → Type 0
Answers g h Halted after = IsHalted g h × (after ≡ g)
Answers g h Full after = (¬ IsHalted g h) × (length g.journal ≡ g.limit) × (after ≡ g)
Answers g h (Stepped place e) after = Makes g h place e after
