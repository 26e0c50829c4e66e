-- How a journal keeps its events (this project's own).
use Rattle.std.specs.Prelude.{ℕ}
use Rattle.tm_table.specs.declared.state.Access.{Access}
use Rattle.tm_table.specs.declared.state.Access.TheVariants as access
use Rattle.tm_plan_cases.specs.declared.event.Event.{Event}
use Rattle.tm_plan_journal.specs.declared.journal.Entry.{Entry}
use Rattle.tm_plan_journal.specs.declared.journal.Kind as kinds
use Rattle.tm_plan_journal.specs.declared.journal.Kind.TheVariants.{Quiet, Read, Write}

-- the access of such a kind
abbrev pub access_of : kinds.Kind → ℕ → ℕ → ℕ → Access
access_of Quiet addr width value = access.Quiet
access_of Read addr width value = access.Read addr width value
access_of Write addr width value = access.Write addr width value

-- the event that an entry stands for
abbrev pub event_of : Entry → Event
event_of e = record { hart = e.hart; pc = e.pc; word = e.word; access = access_of e.kind e.addr e.width e.value }
