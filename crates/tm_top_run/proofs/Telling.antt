-- How simulations that have ended are told.
use Rattle.std.proofs.Common.{◌≡◌, ℕ, ◌+◌, ◌*◌, ◌<◌, ◌≤◌, List, [], length, inl, inr, sym, ap, ap₂, subst, ◌∙◌, arith}
use Rattle.std.specs.Prelude.{slice_index}
use Rattle.tm_plan_cases.specs.declared.program.Program.{Program}
use Rattle.tm_plan_cases.specs.Collected.{budget_of}
use Rattle.tm_plan_cases.specs.declared.event.Event.{Event}
use Rattle.tm_world.specs.Place.{harts}
use Rattle.tm_world.specs.Sound.{Sound}
use Rattle.tm_plan_script.specs.declared.faults.FaultLine.{FaultLine}
use Rattle.tm_plan_script.specs.Accepted.{AreAccepted}
use Rattle.tm_guest.specs.declared.turn.RoundEnd.{RoundEnd}
use Rattle.tm_guest.specs.declared.turn.RoundEnd.TheVariants as ends
use Rattle.tm_guest.specs.Guested.{Guested, fresh}
use Rattle.tm_guest.specs.Rounds.{AllHalted, IsSame, EndsAs}
use Rattle.tm_guest.specs.Budget.{HasBudget}
use Rattle.tm_harts.specs.Mills.{Milled, guest_after}
use Rattle.tm_harts.specs.Idle.{NoIdle}
use Rattle.tm_report_run.specs.Verdicts.{verdict_in, verdicts_of}
use Rattle.tm_report_run.specs.Report.{AreVerdicts, IsVerdictOf, report, full_line}
use Rattle.tm_top_owed.specs.Runs.{verdicts_in, halted_of, IsOver, IsRunUnder, IsTold, AllAgree}
use Rattle.tm_top_owed.specs.Runs.IsTold.{agreed, reported, full}
use Rattle.tm_top_owed.proofs.Simulations.{as_guest, full_of, over_from}
use Rattle.tm_top_run.specs.Steps.{IsToldOf, IsToldRight, IsStatusOf}
use Rattle.tm_top_run.proofs.Silent.{no-report}
use Rattle.tm_top_run.proofs.Exact.{exact-verdict}

-- turns that have ended, from a guest on that a mill gave back
pub over_driven : (p : Program) (lines : List FaultLine) (limit : ℕ) (m : Milled) (start g t : Guested)
    (end : RoundEnd) → Sound p → AreAccepted p.cases lines → start ≡ fresh p lines limit → guest_after m [] ≡ start
    → g ≡ guest_after m g.journal → NoIdle g → IsSame g t → EndsAs end t → (HasBudget g → end ≡ ends.Done)
    → IsOver p t
over_driven p lines limit m start g t end sound accepted is begun given quiet same ended bounded =
    let from = begun ∙ is in
    let script : g.faults ≡ lines = ap (λ (x : Guested). x.faults) given ∙ ap (λ (x : Guested). x.faults) from in
    over_from p g t end sound (subst (AreAccepted p.cases) (sym script) accepted)
    (ap (λ (x : Guested). x.program) given ∙ ap (λ (x : Guested). x.program) from) quiet same ended bounded

-- its script
pub script_driven : (p : Program) (lines : List FaultLine) (limit : ℕ) (m : Milled) (start g t : Guested)
    → start ≡ fresh p lines limit → guest_after m [] ≡ start → g ≡ guest_after m g.journal → IsSame g t
    → t.faults ≡ lines
script_driven p lines limit m start g t is begun given same =
    same.faults ∙ (ap (λ (x : Guested). x.faults) given ∙ ap (λ (x : Guested). x.faults) (begun ∙ is))

-- and its limit
pub limit_driven : (p : Program) (lines : List FaultLine) (limit : ℕ) (m : Milled) (start g t : Guested)
    → start ≡ fresh p lines limit → guest_after m [] ≡ start → g ≡ guest_after m g.journal → IsSame g t
    → t.limit ≡ limit
limit_driven p lines limit m start g t is begun given same =
    same.limit ∙ (ap (λ (x : Guested). x.limit) given ∙ ap (λ (x : Guested). x.limit) (begun ∙ is))

-- each verdict is one of its hart
pub are-verdicts : (p : Program) (g : Guested) (v : List ℕ) (events : List Event) → Sound p
    → IsRunUnder p g.faults g.limit events
    → ((c h : ℕ) → c < length p.cases.cases → h < p.cases.harts
    → slice_index v (c * p.cases.harts + h) ≡ verdict_in events c h) → AreVerdicts p.cases v
are-verdicts p g v events sound made each = λ c h l m.
    subst (IsVerdictOf p.cases h) (sym (each c h l m)) (exact-verdict p g.faults events sound made.half c h l m)

-- all harts are at halt: without lines no case is reported
pub told-reported : (p : Program) (g : Guested) (v text : List ℕ) (status count : ℕ) (events : List Event) → Sound p
    → IsOver p g → IsRunUnder p g.faults g.limit events → AllHalted g → events ≡ g.journal
    → v ≡ verdicts_of p.cases events → count ≡ length events → text ≡ report p.cases v count → IsStatusOf v status
    → IsToldRight g text status
told-reported p g v text status count events sound over made halted same is count_is text_is status_is =
    let its : v ≡ verdicts_in g = is
    ∙ ap₂ (λ (q : Program) (es : List Event). verdicts_of q.cases es) (sym over.its_program) same in
    let whole : text ≡ report g.program.cases (verdicts_in g) (length g.journal) = text_is
    ∙ (ap (λ (q : Program). report q.cases v count) (sym over.its_program)
    ∙ ap₂ (report g.program.cases) its (count_is ∙ ap length same)) in
    record {
      told = by its whole status_is;
      silent = λ none one_is. reported_not status_is one_is
          (subst AllAgree (sym is) (no-report p sound g.faults events (made.legal none)));
      ends = λ room four_is. done_not status_is four_is;
    }
  where
    by : v ≡ verdicts_in g → text ≡ report g.program.cases (verdicts_in g) (length g.journal) → IsStatusOf v status
        → IsTold g text status
    by its whole (inl (zero_is, all)) =
        subst (IsTold g text) (sym zero_is) (agreed halted (subst AllAgree its all) whole)
    by its whole (inr (one_is, some)) = subst (IsTold g text) (sym one_is)
        (reported halted (λ all. some (subst AllAgree (sym its) all)) whole)

    reported_not : IsStatusOf v status → status ≡ 1 → AllAgree v → ⊥
    reported_not (inl (zero_is, all)) one_is agree = let e : 0 ≡ 1 = sym zero_is ∙ one_is in absurd (omega (arith, e))
    reported_not (inr (one_is, some)) is_1 agree = some agree

    done_not : IsStatusOf v status → status ≡ 4 → ⊥
    done_not (inl (zero_is, all)) four_is = let e : 0 ≡ 4 = sym zero_is ∙ four_is in absurd (omega (arith, e))
    done_not (inr (one_is, some)) four_is = let e : 1 ≡ 4 = sym one_is ∙ four_is in absurd (omega (arith, e))

-- some hart isn't at halt
pub told-cut : (p : Program) (g : Guested) (text : List ℕ) → IsOver p g → (AllHalted g → ⊥)
    → text ≡ full_line (length g.journal) (halted_of g) (harts g.program) → IsToldRight g text 4
told-cut p g text over running is = record {
  told = full (full_of p g over running) is;
  silent = λ none e. absurd (omega (arith, e));
  ends = λ room is_4. running (over.ends
      (subst (λ (q : Program). budget_of q.cases ≤ g.limit) over.its_program room));
}

-- what is kept of it
pub told-of : (p : Program) (g : Guested) (events : List Event) (text its_text : List ℕ) (status its_status : ℕ)
    → IsOver p g → IsRunUnder p g.faults g.limit events → events ≡ g.journal → text ≡ its_text → status ≡ its_status
    → IsToldRight g its_text its_status → IsToldOf p g.faults g.limit g.journal text status
told-of p g events text its_text status its_status over made same text_is status_is told =
    rw (text_is, status_is) (record {
      simulated = subst (IsRunUnder p g.faults g.limit) same made;
      its = subst (λ (x : Guested). IsToldRight x its_text its_status) (as_guest p g over) told;
    })
