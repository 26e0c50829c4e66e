-- The text of a trace, read line by line (this project's own).
use Rattle.std.specs.Prelude.{ℕ, zero, suc, ◌≡◌, ◌+◌, ◌%◌, ◌^◌, ◌==◌, Bool, true, ◌&&◌, ◌||◌, nat_le, nat_lt}
use Rattle.std.specs.Prelude.{if◌then◌else◌, List, [], ◌∷◌, length, codes, Some, None, Result, Ok, Err}
use Rattle.std.specs.Borrow.{Bor}
use Rattle.std.specs.List.{list_any}
use Rattle.tm_base.specs.declared.limits.TheConstants.{HART_ROOM, MOST_EVENTS}
use Rattle.tm_table.specs.declared.state.Access.{Access}
use Rattle.tm_table.specs.declared.state.Access.TheVariants as access
use Rattle.tm_plan_cases.specs.declared.event.Event.{Event}
use Rattle.tm_trace.specs.declared.line.Place.{Place}
use Rattle.tm_trace.specs.declared.line.Touch.{Touch}
use Rattle.tm_trace.specs.declared.line.Touch.TheVariants.{Nothing, Reads, Writes}
use Rattle.tm_trace.specs.declared.line.Line.{Line}
use Rattle.tm_trace.specs.declared.trace.TraceFault.{TraceFault}
use Rattle.tm_trace.specs.declared.trace.TraceFault.TheVariants.{Expected, OutOfRange, Early, NoMemory}
use Rattle.tm_trace.specs.Fields.{Field, word_field, line_field, head_field}

-- ---- the numbers of a line

-- a width that accesses have
abbrev pub is_width : ℕ → Bool
is_width n = n == 1 || (n == 2 || (n == 4 || n == 8))

-- an address that is a multiple of the width, and a value of so many bytes
abbrev pub is_placed : Place → Bool
is_placed p = is_width p.width && (p.addr % p.width == 0 && nat_lt p.value (256 ^ p.width))

-- an access that has its place, where there is one
abbrev pub has_place : Touch → Bool
has_place Nothing = true
has_place (Reads p) = is_placed p
has_place (Writes p) = is_placed p

-- a line of one of so many harts, whose access has its place
abbrev pub is_in_range : ℕ → Line → Bool
is_in_range n line = nat_lt line.hart n && has_place line.touch

-- the access that a line tells
abbrev pub access_of : Touch → Access
access_of Nothing = access.Quiet
access_of (Reads p) = access.Read p.addr p.width p.value
access_of (Writes p) = access.Write p.addr p.width p.value

-- the event that a line tells
abbrev pub event_of : Line → Event
event_of line = record { hart = line.hart; pc = line.pc; word = line.word; access = access_of line.touch }

-- ---- lines in order

-- the fault of a line that isn't of its form: the text may end before the line does
unfoldable pub line_fault : (line : ℕ) → List ℕ → TraceFault
line_fault line bs = if list_any (λ b. b == 10) bs then Expected line else Early line

-- what was read of bytes, with those behind it; or the fault
abbrev pub Reading : Type 0 → Type 0
Reading A = Result (A × List ℕ) TraceFault

-- the event of a line whose numbers are in their ranges
abbrev pub ranged : ℕ → (line : ℕ) → Line → List ℕ → Reading Event
ranged n line l rest = if is_in_range n l then Ok (event_of l, rest) else Err (OutOfRange line)

-- what a line is read as
abbrev pub event_reading : ℕ → (line : ℕ) → List ℕ → Field Line → Reading Event
event_reading n line bs None = Err (line_fault line bs)
event_reading n line bs (Some p) = ranged n line p.0 p.1

-- the event of the next line
unfoldable pub next_event : ℕ → (line : ℕ) → List ℕ → Reading Event
next_event n line bs = event_reading n line bs (line_field bs)

-- an event in front of others
abbrev pub more : Event → Reading (List Event) → Reading (List Event)
more e (Ok p) = Ok (e ∷ p.0, p.1)
more e (Err d) = Err d

-- the events behind the next one
abbrev pub then_more : (List ℕ → Reading (List Event)) → Reading Event → Reading (List Event)
then_more rest (Ok p) = more p.0 (rest p.1)
then_more rest (Err e) = Err e

-- the events of so many lines, of which the next has a number
unfoldable pub events_from : (count : ℕ) → ℕ → (line : ℕ) → List ℕ → Reading (List Event)
events_from zero n line bs = Ok ([], bs)
events_from (suc count) n line bs = then_more (events_from count n (line + 1)) (next_event n line bs)

-- behind `end` there is nothing
abbrev pub at_end : (line : ℕ) → List ℕ → Field (Unit {0}) → Result (Unit {0}) TraceFault
at_end line bs None = Err (line_fault line bs)
at_end line bs (Some p) = if length p.1 == 0 then Ok tt else Err (Expected (line + 1))

-- the last line
unfoldable pub ending : (line : ℕ) → List ℕ → Result (Unit {0}) TraceFault
ending line bs = at_end line bs (word_field (codes "end\n") bs)

-- ---- the whole text

-- the number of harts, and the events in order
abbrev pub Traced : Type 0
Traced = ℕ × List Event

-- a trace, where it ends well
abbrev pub ended : Traced → Result (Unit {0}) TraceFault → Result Traced TraceFault
ended t (Ok u) = Ok t
ended t (Err e) = Err e

-- the events and what follows them
abbrev pub whole : (harts line : ℕ) → Reading (List Event) → Result Traced TraceFault
whole harts line (Ok p) = ended (harts, p.0) (ending line p.1)
whole harts line (Err e) = Err e

-- the numbers of harts and events are in their ranges
abbrev pub is_head : (harts events : ℕ) → Bool
is_head harts events = nat_le 1 harts && (nat_le harts HART_ROOM && nat_le events MOST_EVENTS)

-- what follows the first line
abbrev pub behind_head : List ℕ → Field (ℕ × ℕ) → Result Traced TraceFault
behind_head bs None = Err (line_fault 1 bs)
behind_head bs (Some p) =
    if is_head p.0.0 p.0.1 then whole p.0.0 (p.0.1 + 2) (events_from p.0.1 p.0.0 2 p.1) else Err (OutOfRange 1)

-- the trace that a text is, or its first fault
unfoldable pub trace_of : List ℕ → Result Traced TraceFault
trace_of bs = behind_head bs (head_field bs)

-- ---- what the steps of the code are

-- this was read of bytes, with those behind it; or this fault
abbrev pub IsRead : {A : Type 0} → Reading A → Result (A × Bor (List ℕ)) TraceFault → Type 0
IsRead read (Ok r) = read ≡ Ok (r.0, r.1.now)
IsRead read (Err e) = read ≡ Err e

-- the answer is this trace, or want of memory
abbrev pub IsOrNoMemory : Traced → Result Traced TraceFault → Type 0
IsOrNoMemory t (Ok r) = r ≡ t
IsOrNoMemory t (Err e) = e ≡ NoMemory
