-- What is written is read back (this project's own).
use Rattle.std.specs.Prelude.{ℕ, ◌≡◌, ◌^◌, ◌<◌, List, Ok, All}
use Rattle.tm_table.specs.declared.state.Access.{Access}
use Rattle.tm_table.specs.declared.state.Access.TheVariants.{Quiet, Read, Write}
use Rattle.tm_plan_cases.specs.declared.event.Event.{Event}
use Rattle.tm_trace.specs.Text.{trace_text}
use Rattle.tm_trace.specs.Traced.{IsTrace}
use Rattle.tm_trace.specs.Reading.{trace_of}

-- an address of 64 bits, as its type gives
abbrev pub HasAddress : Access → Type 0
HasAddress Quiet = Unit {0}
HasAddress (Read addr width value) = addr < 2 ^ 64
HasAddress (Write addr width value) = addr < 2 ^ 64

-- what the types of an event's parts give
pub record IsTyped (e : Event) : Type 0 where
  pub pc : e.pc < 2 ^ 64
  pub word : e.word < 2 ^ 32
  pub access : HasAddress e.access

-- the text of a trace is read as the trace
abbrev pub ReadsBack : Type 0
ReadsBack = (n : ℕ) (events : List Event) → IsTrace n events → All IsTyped events
    → trace_of (trace_text n events) ≡ Ok (n, events)
