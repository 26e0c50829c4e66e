-- Where a command stops, step by step.
use Rattle.std.proofs.Common.{◌≡◌, ◌≤◌, ℕ, None, Some, IsTrue, arith}
use Rattle.tm_top_owed.specs.declared.stop.Stop.{Stop}
use Rattle.tm_top_owed.specs.declared.stop.Stop.TheVariants as stop
use Rattle.tm_refusals.specs.declared.role.Role.{Role}
use Rattle.tm_refusals.specs.declared.role.Role.TheVariants as roles
use Rattle.tm_words.specs.declared.command.Command.{Command}
use Rattle.tm_top_owed.specs.Inputs.{first_fault}
use Rattle.tm_top_owed.specs.Changes.{DeskChange, SinkChange, DeskFailed, FilesStay, Silent, TookFront}
use Rattle.tm_top_owed.specs.Owed.{Ending, IsReady, writes}
use Rattle.tm_top_owed.specs.Owed.IsUnfinished.{untouched, unwritten, unprinted}
use Rattle.tm_top_owed.specs.Owed.IsFailure.{at_input, at_write, at_print}
use Rattle.tm_top_owed.specs.Steps.{InputStop, PutStop, Stopped}

-- where an input stops a command, nothing was written or printed
pub input_stopped : (s : Stop) (c : Command) (desk : DeskChange) (out : SinkChange) → InputStop s c desk
    → FilesStay desk → Silent out → Stopped s c desk out
input_stopped (stop.Refused role fault) c desk out h stay silent = (h, record { files = stay; output = silent })
input_stopped (stop.Failed role) c desk out h stay silent = at_input h (record { files = stay; output = silent })
input_stopped stop.NoMemory c desk out h stay silent = untouched (record { files = stay; output = silent })

-- where the write stops a command, no input is at fault, and nothing was printed
pub write_stopped : (s : Stop) (c : Command) (role : Role) (desk : DeskChange) (out : SinkChange) (faults : ℕ)
    → writes c ≡ Some role → desk.faults ≤ faults → PutStop s role faults desk.faults_after
    → (IsTrue desk.tells → first_fault c desk.held ≡ None) → Silent out → Stopped s c desk out
write_stopped (stop.Refused by fault) c role desk out faults its later h accepted silent = absurd h
write_stopped (stop.Failed by) c role desk out faults its later (role_is, rose) accepted silent =
    let risen : DeskFailed desk = omega arith in
    rw role_is (at_write risen (record { writes = its; accepted = accepted; output = silent }))
write_stopped stop.NoMemory c role desk out faults its later h accepted silent =
    unwritten role (record { writes = its; accepted = accepted; output = silent })

-- where printing stops a command, all that comes before it is done, and a front of its text was printed
pub print_stopped : (s : Stop) (c : Command) (desk : DeskChange) (out : SinkChange) (ending : Ending)
    → IsReady c desk ending → TookFront out ending.text → PutStop s roles.Output out.faults out.faults_after → Stopped
    s c desk out
print_stopped (stop.Refused role fault) c desk out ending ready printed h = absurd h
print_stopped (stop.Failed role) c desk out ending ready printed (role_is, rose) =
    at_print role_is rose (record { ending = ending; ready = ready; printed = printed })
print_stopped stop.NoMemory c desk out ending ready printed h =
    unprinted (record { ending = ending; ready = ready; printed = printed })
