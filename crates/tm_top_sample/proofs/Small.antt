-- What a sample asks for has a budget within the events of its simulation.
use Rattle.std.proofs.Common.{◌≡◌, ℕ, ◌≤◌, List, ap, ◌∙◌, subst, arith}
use Rattle.tm_base.specs.declared.limits.TheConstants.{DEFAULT_EVENTS}
use Rattle.tm_plan_map.specs.declared.admitted.Admitted.{Admitted}
use Rattle.tm_plan_cases.specs.declared.program.Program.{Program}
use Rattle.tm_plan_cases.specs.declared.cases.Cases.{Cases}
use Rattle.tm_plan_cases.specs.Collected.{budget_of}
use Rattle.tm_plan_cases.specs.Shaped.{AreShaped}
use Rattle.tm_gen.specs.Gen.{case_of, gen_of}
use Rattle.tm_gen.proofs.ShapedLemmas.{length-map_at}
use Rattle.tm_sample.specs.Small.{AreSmall}
use Rattle.tm_sample.specs.Texts.{sample_topology, sample_template, AreAccepted, AskForASample, IsSampleForm}
use Rattle.tm_sample.proofs.Small.{small-budget}
use Rattle.tm_top_owed.specs.Owed.{IsBuiltOf}

sample-small : (a : Admitted) (seed : ℕ) → IsSampleForm a → AreSmall (gen_of a seed)
unfolding gen_of
sample-small a seed form = record {
  harts = form.harts;
  passes = form.passes;
  lines = form.lines;
  count = length-map_at (case_of a seed) 0 a.cases ∙ form.cases;
}

-- A program of a sample's cases has a budget within the events of its simulation.
sample-budget : (a : Admitted) (seed : ℕ) (cases : Cases) → IsSampleForm a → cases ≡ gen_of a seed
    → AreShaped cases → budget_of cases ≤ DEFAULT_EVENTS
sample-budget a seed cases form is shaped =
    let s = subst AreShaped is shaped in
    let b = small-budget (gen_of a seed) s (sample-small a seed form) in
    let e = ap budget_of is in
    omega arith

-- So has the program that is built of the texts of a sample.
pub room_of : (n : ℕ) (p : Program) (file : List ℕ)
    → IsBuiltOf (sample_topology n) (sample_template n) n p file
    → AreAccepted (sample_topology n) (sample_template n) → AskForASample (sample_topology n) (sample_template n)
    → budget_of p.cases ≤ DEFAULT_EVENTS
room_of n p file its (a, is) asks =
    sample-budget a n p.cases (asks a is) (its.its_cases a is) its.is_sound.program.cases
