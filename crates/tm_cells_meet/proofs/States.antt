-- The stages of all harts of a half cell run, and what its newest step does.
use Rattle.std.proofs.Common.{ℕ, ◌<◌, List, ◌∷◌, refl, subst}
use Rattle.tm_plan_cases.specs.declared.program.Program.{Program}
use Rattle.tm_world.specs.Run.{Step, hart_of, own, now, first_state}
use Rattle.tm_world.proofs.Prefix.{earlier}
use Rattle.tm_runs.specs.Shadow.{entry_of, entries_of}
use Rattle.tm_legal.proofs.Own.{own-here}
use Rattle.tm_runs.specs.Phases.{Keeping}
use Rattle.tm_cells_plan.specs.declared.plan.CellPlan.{CellPlan}
use Rattle.tm_cells_plan.specs.Sums.{IsPlan}
use Rattle.tm_cells_world.specs.Kinds.{CellHalf, CellHalfPath, CellHalfStep}
use Rattle.tm_cells_code.specs.View.{cells}
use Rattle.tm_cells_code.specs.Told.{Stage, Does, Told, More}
use Rattle.tm_cells_code.proofs.Placing.{none, sizes, first-phase, more, placed}
use Rattle.tm_cells_code.proofs.Own.{told-own}

module _ (plan : CellPlan) (is : IsPlan plan) (o : ℕ → List ℕ) where
  abbrev p : Program
  p = cells plan

  -- the stage of hart h after these steps
  pub record At (h : ℕ) (own : List Step) : Type 0 where
    pub stage : Stage
    pub told : Told plan (cells plan) h (entries_of own) stage

  pub at : (h : ℕ) → h < plan.harts → (steps : List Step) → CellHalf (cells plan) (earlier o steps) → At h (own h steps)
  at h l steps half =
      let g = told-own plan (cells plan) h (sizes plan is h l) (none plan is h l) l (first-phase plan is h l)
      (more plan is h l) (placed plan is h l) (o h) (half.opening h l) (own h steps) (half.each h l) in
      record { stage = g.at; told = g.sofar.told }

  -- the newest step
  pub record Newest (h : ℕ) (past : List Step) (s : Step) : Type 0 where
    pub st : Stage
    pub st' : Stage
    pub before : Told plan (cells plan) h (entries_of (own h past)) st
    pub keeps : Keeping (cells plan) h (entries_of (own h past)) (entry_of s)
    pub does : Does plan (cells plan) h (entries_of (own h past)) (entry_of s) st st'
    pub half : CellHalfStep (cells plan) h (now (first_state (o h)) (own h past)) (own h past) s

  open-told : (h : ℕ) (past : List Step) (s : Step) (st' : Stage)
      → Told plan (cells plan) h (entry_of s ∷ entries_of (own h past)) st'
      → CellHalfStep (cells plan) h (now (first_state (o h)) (own h past)) (own h past) s → Newest h past s
  open-told h past s st' (More {st = st} t k d) half =
      record { st = st; st' = st'; before = t; keeps = k; does = d; half = half }

  pub newest : (past : List Step) (s : Step) → CellHalf (cells plan) (earlier o (s ∷ past)) → Newest (hart_of s) past s
  newest past s half =
      let h = hart_of s in
      let l = half.only.0 in
      let here = own-here h s past refl in
      let a = at h l (s ∷ past) half in
      let told : Told plan (cells plan) h (entry_of s ∷ entries_of (own h past)) a.stage =
      subst (λ (steps : List Step). Told plan (cells plan) h (entries_of steps) a.stage) here a.told in
      let path : CellHalfPath (cells plan) h (first_state (o h)) (s ∷ own h past) =
      subst (CellHalfPath (cells plan) h (first_state (o h))) here (half.each h l) in
      open-told h past s a.stage told path.0
