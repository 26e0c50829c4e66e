-- The first fault of a build's two inputs, step by step.
use Rattle.std.proofs.Common.{◌≡◌, ◌≤◌, ◌<◌, ◌∙◌, ap, sym, subst, refl, ℕ, List, Option, None, Some, Result, Ok, Err}
use Rattle.std.proofs.Common.{IsTrue, length, arith, inl, inr}
use Rattle.std.specs.Prelude.{IsSomeAnd}
use Rattle.tm_base.specs.declared.limits.TheConstants.{TOPOLOGY_BYTES, TEMPLATE_BYTES}
use Rattle.tm_plan_map.specs.declared.admitted.Admitted.{Admitted}
use Rattle.tm_desk.specs.Causes.{Files}
use Rattle.tm_desk.specs.declared.desk.DeskError.TheVariants.{TooLong, Failed}
use Rattle.tm_refusals.specs.declared.role.Role.TheVariants.{Topology, Template}
use Rattle.tm_refusals.specs.declared.inputs.InputFault.{InputFault}
use Rattle.tm_image_inputs.specs.Inputs.{topology_refusal, inputs}
use Rattle.tm_refusals.specs.Named.{IsNamed}
use Rattle.tm_top_line.proofs.Named.{input_calm}
use Rattle.tm_image_build.specs.Built.{built, built_of}
use Rattle.tm_top_line.specs.declared.fault.AnyFault.{AnyFault}
use Rattle.tm_top_line.specs.declared.fault.AnyFault.TheVariants.{Input, Desk}
use Rattle.tm_top_owed.specs.declared.stop.Stop.{Stop}
use Rattle.tm_top_owed.specs.declared.stop.Stop.TheVariants as stop
use Rattle.tm_words.specs.declared.command.Build.{Build}
use Rattle.tm_words.specs.declared.command.Command.TheVariants as commands
use Rattle.tm_top_owed.proofs.Limits.{long, short}
use Rattle.tm_top_owed.specs.Inputs.{refusal_of, as_fault, text_of, refused_topology}
use Rattle.tm_top_owed.specs.Inputs.{refused_template, fault_of_topology, fault_of_template, first_fault}
use Rattle.tm_top_owed.specs.Changes.{DeskChange, DeskFailed}
use Rattle.tm_top_owed.specs.Owed.{IsRefusal, IsMadeOf, IsImageOf}
use Rattle.tm_top_owed.specs.Owed.InputFailure.{unread, missing}
use Rattle.tm_top_owed.specs.Steps.{ReadStop, InputStop}
use Rattle.tm_top_build.specs.Steps.{IsTopology, ImageStop}

-- ---- which fault is the first

at_topology : (b : Build) (files : Files) (fault : AnyFault) → fault_of_topology b files ≡ Some fault
    → first_fault (commands.Build b) files ≡ Some (Topology, fault)
unfolding first_fault
at_topology b files fault is = rw is refl

at_template : (b : Build) (files : Files) (fault : AnyFault) → fault_of_topology b files ≡ None
    → fault_of_template b files ≡ Some fault
    → first_fault (commands.Build b) files ≡ Some (Template, fault)
unfolding first_fault
at_template b files fault none is = rw (none, is) refl

at_none : (b : Build) (files : Files) → fault_of_topology b files ≡ None → fault_of_template b files ≡ None
    → first_fault (commands.Build b) files ≡ None
unfolding first_fault
at_none b files first second = rw (first, second) refl

-- ---- the topology

topology_missing : (b : Build) (files : Files) → files b.topo ≡ None → fault_of_topology b files ≡ Some (Desk Failed)
unfolding fault_of_topology
topology_missing b files is = rw is refl

topology_long : (b : Build) (files : Files) → IsSomeAnd (files b.topo) (λ text. TOPOLOGY_BYTES < length text)
    → fault_of_topology b files ≡ Some (Desk (TooLong TOPOLOGY_BYTES))
unfolding fault_of_topology
topology_long b files h = long TOPOLOGY_BYTES refused_topology (files b.topo) h

topology_read : (b : Build) (files : Files) (text : List ℕ) → files b.topo ≡ Some text → length text ≤ TOPOLOGY_BYTES
    → fault_of_topology b files ≡ as_fault (topology_refusal text)
unfolding fault_of_topology
topology_read b files text held h = rw held (short TOPOLOGY_BYTES refused_topology text h)

-- a read of the topology that stopped
pub topology_stop : (s : Stop) (b : Build) (desk : DeskChange)
    → ReadStop s Topology (IsTrue desk.tells) (desk.held b.topo) TOPOLOGY_BYTES desk.faults desk.faults_after
    → InputStop s (commands.Build b) desk
topology_stop (stop.Refused by fault) b desk (role_is, fault_is, h) = rw (role_is, fault_is) (record {
  read = refl;
  status = refl;
  has_line = refl;
  first = λ told. at_topology b desk.held _ (topology_long b desk.held (h told));
})
topology_stop (stop.Failed by) b desk (role_is, inl rose) = rw role_is (unread refl rose (λ told. refl))
topology_stop (stop.Failed by) b desk (role_is, inr (told, none)) =
    rw role_is (missing told (at_topology b desk.held _ (topology_missing b desk.held none)))
topology_stop stop.NoMemory b desk h = tt

-- a topology that is refused
pub topology_refused : (b : Build) (desk : DeskChange) (text : List ℕ) (refusal : InputFault)
    → (IsTrue desk.tells → desk.held b.topo ≡ Some text) → length text ≤ TOPOLOGY_BYTES
    → Some refusal ≡ topology_refusal text → IsNamed refusal
    → IsRefusal (commands.Build b) desk Topology (Input refusal)
topology_refused b desk text refusal held h is named = record {
  read = refl;
  status = refl;
  has_line = input_calm refusal named;
  first = λ told.
      at_topology b desk.held _ (topology_read b desk.held text (held told) h ∙ ap as_fault (sym is));
}

-- a topology that is accepted has no fault
topology_accepted : (b : Build) (desk : DeskChange) (text : List ℕ) → IsTopology b desk.tells desk.held text
    → IsTrue desk.tells
    → fault_of_topology b desk.held ≡ None
topology_accepted b desk text topology told = topology_read b desk.held text (topology.there told) topology.short ∙ ap
    as_fault topology.accepted

-- ---- the template

template_missing : (b : Build) (files : Files) → files b.template ≡ None → fault_of_template b files
    ≡ Some (Desk Failed)
unfolding fault_of_template
template_missing b files is = rw is refl

template_long : (b : Build) (files : Files) → IsSomeAnd (files b.template) (λ text. TEMPLATE_BYTES < length text)
    → fault_of_template b files ≡ Some (Desk (TooLong TEMPLATE_BYTES))
unfolding fault_of_template
template_long b files h = long TEMPLATE_BYTES (refused_template (text_of (files b.topo))) (files b.template) h

template_read : (b : Build) (files : Files) (topo text : List ℕ) → files b.topo ≡ Some topo
    → files b.template ≡ Some text → length text ≤ TEMPLATE_BYTES
    → fault_of_template b files ≡ refused_template topo text
unfolding fault_of_template
template_read b files topo text first held h = rw (first, held) (short TEMPLATE_BYTES (refused_template topo) text h)

-- a read of the template that stopped, behind a topology that is accepted
pub template_stop : (s : Stop) (b : Build) (desk : DeskChange) (text : List ℕ) (there : Option (List ℕ)) (faults : ℕ)
    → IsTopology b desk.tells desk.held text → (IsTrue desk.tells → there ≡ desk.held b.template) → desk.faults ≤ faults
    → ReadStop s Template (IsTrue desk.tells) there TEMPLATE_BYTES faults desk.faults_after
    → InputStop s (commands.Build b) desk
template_stop (stop.Refused by fault) b desk text there faults topology same later (role_is, fault_is, h) =
    rw (role_is, fault_is) (record {
      read = refl;
      status = refl;
      has_line = refl;
      first = λ told. at_template b desk.held _ (topology_accepted b desk text topology told)
          (template_long b desk.held (subst (λ file. IsSomeAnd file (λ template. TEMPLATE_BYTES < length template))
          (same told) (h told)));
    })
template_stop (stop.Failed by) b desk text there faults topology same later (role_is, inl rose) =
    let risen : DeskFailed desk = omega arith in
    rw role_is (unread refl risen (λ told. topology_accepted b desk text topology told))
template_stop (stop.Failed by) b desk text there faults topology same later (role_is, inr (told, none)) =
    rw role_is (missing told (at_template b desk.held _ (topology_accepted b desk text topology told)
    (template_missing b desk.held (sym (same told) ∙ none))))
template_stop stop.NoMemory b desk text there faults topology same later h = tt

-- a template of which no image is built, behind a topology that is accepted
pub image_stop : (s : Stop) (b : Build) (desk : DeskChange) (text template : List ℕ)
    → IsTopology b desk.tells desk.held text
    → (IsTrue desk.tells → desk.held b.template ≡ Some template) → length template ≤ TEMPLATE_BYTES
    → ImageStop s (inputs text template) → InputStop s (commands.Build b) desk
image_stop (stop.Refused by fault) b desk text template topology there h (refusal, refused, role_is, fault_is, calm) =
    rw (role_is, fault_is) (record {
      read = refl;
      status = refl;
      has_line = calm;
      first = λ told. at_template b desk.held _ (topology_accepted b desk text topology told)
          (template_read b desk.held text template (topology.there told) (there told) h ∙ ap
          (λ reading. as_fault (refusal_of reading)) refused);
    })
image_stop (stop.Failed by) b desk text template topology there h stopped = absurd stopped
image_stop stop.NoMemory b desk text template topology there h stopped = tt

-- ---- what is built

built_at : (r : Result Admitted InputFault) (topo template file : List ℕ) (seed : ℕ) → built_of topo template seed r
    ≡ Ok file → refusal_of r ≡ None
built_at (Ok test) topo template file seed h = refl
built_at (Err fault) topo template file seed h = cc

template_accepted : (topo template file : List ℕ) (seed : ℕ) → built topo template seed ≡ Ok file
    → refusal_of (inputs topo template) ≡ None
unfolding built
template_accepted topo template file seed h = built_at (inputs topo template) topo template file seed h

-- where an image is built, neither input has a fault
pub no_fault : (b : Build) (desk : DeskChange) (topo template file : List ℕ) → IsTopology b desk.tells desk.held topo
    → (IsTrue desk.tells → desk.held b.template ≡ Some template) → length template ≤ TEMPLATE_BYTES
    → built topo template b.seed ≡ Ok file
    → IsTrue desk.tells → first_fault (commands.Build b) desk.held ≡ None
no_fault b desk topo template file topology there h is_built told =
    at_none b desk.held (topology_accepted b desk topo topology told)
    (template_read b desk.held topo template (topology.there told) (there told) h ∙ ap as_fault
    (template_accepted topo template file b.seed is_built))

-- the image of two texts that are held and accepted
pub image_of_held : (b : Build) (desk : DeskChange) (topo template file line : List ℕ)
    → IsTopology b desk.tells desk.held topo
    → (IsTrue desk.tells → desk.held b.template ≡ Some template) → length template ≤ TEMPLATE_BYTES
    → IsMadeOf topo template b.seed file line
    → IsImageOf b desk.tells desk.held file line
image_of_held b desk topo template file line topology there h made = record {
  topo = topo;
  template = template;
  made = made;
  read = λ told. (topology.there told, there told);
  accepted = no_fault b desk topo template file topology there h made.its.its_file;
}
