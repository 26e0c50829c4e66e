-- How the simulation of a sample is told.
use Rattle.std.proofs.Common.{◌≡◌, ◌∙◌, ℕ, List, [], refl, sym, ap, ap₂, subst, Some}
use Rattle.tm_base.specs.declared.limits.TheConstants.{DEFAULT_EVENTS}
use Rattle.tm_plan_cases.specs.declared.program.Program.{Program}
use Rattle.tm_plan_cases.specs.declared.event.Event.{Event}
use Rattle.tm_plan_script.specs.declared.faults.FaultLine.{FaultLine}
use Rattle.tm_guest.specs.Guested.{Guested}
use Rattle.tm_guest.specs.Rounds.{AllHalted}
use Rattle.tm_report_run.specs.Verdicts.{verdicts_of}
use Rattle.tm_top_owed.specs.Runs.{guest_of, IsOver, IsRunUnder, IsRoundOrder}
use Rattle.tm_top_owed.specs.Owed.{IsBuiltOf, IsSampleOf, IsSummed}
use Rattle.tm_sample.specs.Texts.{sample_topology, sample_template}
use Rattle.tm_top_owed.specs.Sample.{summary}
use Rattle.tm_top_owed.proofs.Simulations.{as_guest}
use Rattle.tm_top_sample.specs.Steps.{IsSummary}

-- ---- the end of the simulation

-- all harts are at halt
pub summed_whole : (n : ℕ) (p : Program) (g : Guested) (events : List Event) (text : List ℕ) → IsOver p g
    → AllHalted g → events ≡ g.journal → text ≡ summary n p.cases (verdicts_of p.cases events) → IsSummed n g text 0
summed_whole n p g events text over halted is said =
    record {
      halted = halted;
      its_text = said ∙ ap₂ (λ (q : Program) (es : List Event). summary n q.cases (verdicts_of q.cases es))
          (sym over.its_program) is;
      is_status = refl;
    }

-- ---- what is kept of it

pub summary_of : (n : ℕ) (p : Program) (g : Guested) (events : List Event) (text its_text : List ℕ)
    (status its_status : ℕ) → IsOver p g → g.faults ≡ [] → g.limit ≡ DEFAULT_EVENTS
    → IsRoundOrder p [] DEFAULT_EVENTS g.journal → IsRunUnder p g.faults g.limit events → events ≡ g.journal → text ≡
    its_text → status ≡ its_status
    → IsSummed n g its_text its_status → IsSummary n p events text status
summary_of n p g events text its_text status its_status over none limit order made same text_is status_is told =
    let whole : g ≡ guest_of p [] DEFAULT_EVENTS events = as_guest p g over
    ∙ (ap (λ (ls : List FaultLine). guest_of p ls g.limit g.journal) none ∙ ap₂ (guest_of p []) limit (sym same)) in
    rw (text_is, status_is) (record {
      simulated = subst (λ (most : ℕ). IsRunUnder p [] most events) limit
          (subst (λ (ls : List FaultLine). IsRunUnder p ls g.limit events) none made);
      in_order = subst (IsRoundOrder p [] DEFAULT_EVENTS) (sym same) order;
      told = subst (λ (x : Guested). IsSummed n x its_text its_status) whole told;
    })

pub sample_of : (n : ℕ) (p : Program) (file : List ℕ) (events : List Event) (text : List ℕ) (status : ℕ)
    → IsBuiltOf (sample_topology n) (sample_template n) n p file → IsSummary n p events text status
    → IsSampleOf n (record { text = text; status = status; journal = Some events })
sample_of n p file events text status its told = record {
  program = p;
  file = file;
  its = its;
  events = events;
  its_journal = refl;
  simulated = told.simulated;
  in_order = told.in_order;
  told = told.told;
}
