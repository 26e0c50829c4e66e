-- The texts of a sample are not refused.
use Rattle.std.proofs.Common.{◌≡◌, ℕ, List, Result, Ok, Err, sym, ◌∙◌}
use Rattle.tm_plan_map.specs.declared.admitted.Admitted.{Admitted}
use Rattle.tm_refusals.specs.declared.inputs.InputFault.{InputFault}
use Rattle.tm_image_build.specs.Built.{built}
use Rattle.tm_sample.specs.Texts.{AreAccepted}
use Rattle.tm_top_owed.proofs.Built.{image_refused}

-- texts that are accepted have no fault
pub never_refused : (topo template : List ℕ) (seed : ℕ) (refusal : InputFault) → AreAccepted topo template
    → built topo template seed ≡ Err refusal → ⊥
never_refused topo template seed refusal (a, is) h =
    let apart : ◌≡◌ {A = Result Admitted InputFault} (Ok a) (Err refusal) =
    sym is ∙ image_refused topo template seed refusal h in
    cc
