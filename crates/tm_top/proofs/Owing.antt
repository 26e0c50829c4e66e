-- How a call ended, and what follows of it.
use Rattle.std.proofs.Common.{◌≡◌, ◌∙◌, ap, sym, refl, ℕ, List, IsTrue, ◌⊎◌, inl, inr, Option, None, Some}
use Rattle.tm_desk.specs.declared.desk.DeskError.TheVariants.{Failed}
use Rattle.tm_refusals.specs.declared.role.Role.{Role}
use Rattle.tm_top_line.specs.declared.fault.AnyFault.{AnyFault}
use Rattle.tm_top_line.specs.declared.fault.AnyFault.TheVariants.{Desk}
use Rattle.tm_top_owed.specs.declared.stop.Stop.{Stop}
use Rattle.tm_top_owed.specs.declared.stop.Stop.TheVariants as stop
use Rattle.tm_words.specs.declared.command.Command.{Command}
use Rattle.tm_words.specs.declared.command.Command.TheVariants as commands
use Rattle.tm_top_line.specs.Lines.{fault_text}
use Rattle.tm_top_owed.specs.Inputs.{first_fault}
use Rattle.tm_plan_cases.specs.declared.event.Event.{Event}
use Rattle.tm_top_owed.specs.Changes.{DeskChange, SinkChange, DeskFailed, SinkFailed, FilesStay, OtherFilesStay}
use Rattle.tm_top_owed.specs.Owed.{Ending, Owes, Ended, IsReady, IsRefusal, IsFailure, IsUntouched, RestStays}
use Rattle.tm_top_owed.specs.Owed.{AlwaysAtFault, AlwaysDone, status_of}
use Rattle.tm_top_owed.specs.Owed.MayBegin.{no_line, refusal_line, failure_line}
use Rattle.tm_top_owed.specs.Owed.Ended.{done, no_command, refused, failed, no_memory_for_usage, no_memory}
use Rattle.tm_top_owed.specs.Owed.InputFailure.{unread, missing}
use Rattle.tm_top_owed.specs.Owed.IsFailure.{at_input, at_write, at_print}
use Rattle.tm_top_owed.specs.Steps.{Stopped, Told, Reported, IsTellable}
use Rattle.tm_top_owed.specs.Steps.Told.{told_whole, told_short}
use Rattle.tm_top_run.proofs.Running.{all_stay}

-- ---- how a call ended

-- a stop's fault has a line
pub tellable : (s : Stop) (c : Command) (desk : DeskChange) (out : SinkChange) → Stopped s c desk out → IsTellable s
tellable (stop.Refused role fault) c desk out stopped = stopped.0.has_line
tellable (stop.Failed role) c desk out stopped = tt
tellable stop.NoMemory c desk out stopped = tt

others_stay : (desk : DeskChange) (name : List ℕ) → FilesStay desk → OtherFilesStay desk name
others_stay desk name stay = λ told other differs. ap (λ (files : List ℕ → Option (List ℕ)). files other) (stay told)

-- where all files stay, the rest does
pub rest_stays : (c : Command) (desk : DeskChange) → FilesStay desk → RestStays c desk
rest_stays (commands.Build b) desk stay = others_stay desk b.out stay
rest_stays (commands.List image) desk stay = stay
rest_stays (commands.Run r) desk stay = all_stay r.trace desk stay
rest_stays (commands.Sample number) desk stay = stay
rest_stays (commands.Judge j) desk stay = stay

ended_refused : (asked : Option Command) (c : Command) (desk : DeskChange) (out err : SinkChange) (role : Role)
    (fault : AnyFault) (status : ℕ) → asked ≡ Some c → IsRefusal c desk role fault → IsUntouched desk out
    → Told err (fault_text role fault) 3 status → Ended asked desk out err None status
ended_refused asked c desk out err role fault status is_c refusal kept (told_whole three said) =
    refused c role fault three refl is_c refusal kept said
ended_refused asked c desk out err role fault status is_c refusal kept (told_short six fronts) =
    no_memory c (fault_text role fault) six refl is_c (rest_stays c desk kept.files)
    (refusal_line role fault refusal kept refl) fronts

ended_failed : (asked : Option Command) (c : Command) (desk : DeskChange) (out err : SinkChange) (role : Role)
    (status : ℕ) → asked ≡ Some c → IsFailure c desk out role → RestStays c desk
    → Told err (fault_text role (Desk Failed)) 5 status → Ended asked desk out err None status
ended_failed asked c desk out err role status is_c failure others (told_whole five said) =
    failed c role five refl is_c failure others said
ended_failed asked c desk out err role status is_c failure others (told_short six fronts) =
    no_memory c (fault_text role (Desk Failed)) six refl is_c others (failure_line role failure refl) fronts

-- a command that stopped
pub ended_stopped : (s : Stop) (asked : Option Command) (c : Command) (desk : DeskChange) (out err : SinkChange)
    (status : ℕ)
    → asked ≡ Some c → Stopped s c desk out → RestStays c desk → Reported s err status
    → Ended asked desk out err None status
ended_stopped (stop.Refused role fault) asked c desk out err status is_c (refusal, kept) others reported =
    ended_refused asked c desk out err role fault status is_c refusal kept reported
ended_stopped (stop.Failed role) asked c desk out err status is_c failure others reported =
    ended_failed asked c desk out err role status is_c failure others reported
ended_stopped stop.NoMemory asked c desk out err status is_c unfinished others (six, fronts) =
    no_memory c _ six refl is_c others (no_line refl unfinished) fronts

-- ---- what follows

no_words : (asked : Option Command) (c : Command) → asked ≡ None → asked ≡ Some c → ⊥
no_words asked c none some = let apart : ◌≡◌ {A = Option Command} None (Some c) = sym none ∙ some in cc

same_command : (asked : Option Command) (c other : Command) → asked ≡ Some c → asked ≡ Some other → c ≡ other
same_command asked c other is_c is_other = let same : ◌≡◌ {A = Option Command} (Some c) (Some other) =
    sym is_c ∙ is_other in cc

always_usage : (asked : Option Command) (desk : DeskChange) (out err : SinkChange) (journal : Option (List Event))
    (status : ℕ) → Ended asked desk out err journal status
    → asked ≡ None → (status ≡ 2) ⊎ (status ≡ 6)
always_usage asked desk out err journal status (done c is_c job others silent) none =
    absurd (no_words asked c none is_c)
always_usage asked desk out err journal status (no_command two bare _ stay silent said) none = inl two
always_usage asked desk out err journal status (refused c role fault three bare is_c refusal kept said) none =
    absurd (no_words asked c none is_c)
always_usage asked desk out err journal status (failed c role five bare is_c failure others said) none =
    absurd (no_words asked c none is_c)
always_usage asked desk out err journal status (no_memory_for_usage six bare _ stay silent fronts) none = inr six
always_usage asked desk out err journal status (no_memory c text six bare is_c others begun fronts) none = inr six

no_first : (c : Command) (desk : DeskChange) (role : Role) (fault : AnyFault) → first_fault c desk.held ≡ None
    → first_fault c desk.held ≡ Some (role, fault) → ⊥
no_first c desk role fault none some = let apart : ◌≡◌ {A = Option (Role × AnyFault)} None (Some (role, fault)) =
    sym none ∙ some in cc

same_first : (p q : Role × AnyFault) → ◌≡◌ {A = Option (Role × AnyFault)} (Some p) (Some q) → p ≡ q
same_first p q is = cc

same_fault : (c : Command) (desk : DeskChange) (role other_role : Role) (fault other : AnyFault)
    → first_fault c desk.held ≡ Some (role, fault)
    → first_fault c desk.held ≡ Some (other_role, other) → fault ≡ other
same_fault c desk role other_role fault other is is_other =
    ap (λ (p : Role × AnyFault). p.1) (same_first (role, fault) (other_role, other) (sym is ∙ is_other))

no_input : (number : ℕ) (desk : DeskChange) → first_fault (commands.Sample number) desk.held ≡ None
unfolding first_fault
no_input number desk = refl

-- where an end is ready, no input is at fault
ready_accepted : (c : Command) (desk : DeskChange) (e : Ending) → IsReady c desk e → IsTrue desk.tells
    → first_fault c desk.held ≡ None
ready_accepted (commands.Build b) desk e ready tells = ready.0.image.accepted tells
ready_accepted (commands.List image) desk e ready tells = ready.0.accepted tells
ready_accepted (commands.Run r) desk e ready tells = ready.its.accepted tells
ready_accepted (commands.Sample number) desk e ready tells = no_input number desk
ready_accepted (commands.Judge j) desk e ready tells = ready.its.accepted tells

-- a failure with no count risen is that of the first fault
failure_first : (c : Command) (desk : DeskChange) (out : SinkChange) (role wrong : Role) (fault : AnyFault)
    → IsFailure c desk out role → IsTrue desk.tells
    → (DeskFailed desk → ⊥) → first_fault c desk.held ≡ Some (wrong, fault) → 5 ≡ status_of fault
failure_first c desk out role wrong fault (at_input (unread input rose before) kept) tells calm is = absurd (calm rose)
failure_first c desk out role wrong fault (at_input (missing _ first) kept) tells calm is =
    ap status_of (same_fault c desk role wrong (Desk Failed) fault first is)
failure_first c desk out role wrong fault (at_write rose left) tells calm is = absurd (calm rose)
failure_first c desk out role wrong fault (at_print output rose left) tells calm is =
    absurd (no_first c desk wrong fault (ready_accepted c desk left.ending left.ready tells) is)

at_fault : (asked : Option Command) (c : Command) (desk : DeskChange) (out err : SinkChange)
    (journal : Option (List Event)) (status : ℕ) → Ended asked desk out err journal status
    → asked ≡ Some c → AlwaysAtFault c desk status
at_fault asked c desk out err journal status (done other is_other job others silent) is_c = λ wrong fault tells calm is.
    absurd (no_first c desk wrong fault (rw (same_command asked c other is_c is_other)
    (ready_accepted other desk _ job.ready tells)) is)
at_fault asked c desk out err journal status (no_command two bare none stay silent said) is_c =
    absurd (no_words asked c none is_c)
at_fault asked c desk out err journal status (refused other role fault three bare is_other refusal kept said) is_c =
    λ wrong first tells calm is.
    let same = rw (← same_command asked c other is_c is_other) at refusal.first tells in
    inl (three ∙ sym refusal.status ∙ ap status_of (same_fault c desk role wrong fault first same is))
at_fault asked c desk out err journal status (failed other role five bare is_other failure others said) is_c =
    λ wrong first tells calm is.
    let same = rw (← same_command asked c other is_c is_other) at failure in
    inl (five ∙ failure_first c desk out role wrong first same tells calm is)
at_fault asked c desk out err journal status (no_memory_for_usage six bare none stay silent fronts) is_c =
    absurd (no_words asked c none is_c)
at_fault asked c desk out err journal status (no_memory other text six bare is_other others begun fronts) is_c =
    λ wrong first tells calm is. inr six

-- with no count risen and no fault of an input, nothing failed
failure_none : (c : Command) (desk : DeskChange) (out : SinkChange) (role : Role) → IsFailure c desk out role
    → (DeskFailed desk → ⊥) → (SinkFailed out → ⊥) → first_fault c desk.held ≡ None → ⊥
failure_none c desk out role (at_input (unread input rose before) kept) calm quiet none = calm rose
failure_none c desk out role (at_input (missing _ first) kept) calm quiet none =
    no_first c desk role (Desk Failed) none first
failure_none c desk out role (at_write rose left) calm quiet none = calm rose
failure_none c desk out role (at_print output rose left) calm quiet none = quiet rose

always_done : (asked : Option Command) (c : Command) (desk : DeskChange) (out err : SinkChange)
    (journal : Option (List Event)) (status : ℕ) → Ended asked desk out err journal status
    → asked ≡ Some c → AlwaysDone c desk out journal status
always_done asked c desk out err journal status (done other is_other job others silent) is_c =
    λ tells calm quiet none. inl (rw (same_command asked c other is_c is_other) job)
always_done asked c desk out err journal status (no_command two bare none stay silent said) is_c =
    absurd (no_words asked c none is_c)
always_done asked c desk out err journal status (refused other role fault three bare is_other refusal kept said) is_c =
    λ tells calm quiet none.
    let same = rw (← same_command asked c other is_c is_other) at refusal.first tells in
    absurd (no_first c desk role fault none same)
always_done asked c desk out err journal status (failed other role five bare is_other failure others said) is_c =
    λ tells calm quiet none.
    let same = rw (← same_command asked c other is_c is_other) at failure in
    absurd (failure_none c desk out role same calm quiet none)
always_done asked c desk out err journal status (no_memory_for_usage six bare none stay silent fronts) is_c =
    absurd (no_words asked c none is_c)
always_done asked c desk out err journal status (no_memory other text six bare is_other others begun fronts) is_c =
    λ tells calm quiet none. inr six

-- all that a call owes follows of how it ended
pub owes : (asked : Option Command) (desk : DeskChange) (out err : SinkChange) (journal : Option (List Event))
    (status : ℕ) → Ended asked desk out err journal status → Owes asked desk out err journal status
owes asked desk out err journal status how = record {
  ended = how;
  always_usage = always_usage asked desk out err journal status how;
  always_at_fault = λ c is_c. at_fault asked c desk out err journal status how is_c;
  always_done = λ c is_c. always_done asked c desk out err journal status how is_c;
}
