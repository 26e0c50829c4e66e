-- The journal of a run that a script has changed has a trace.
use Rattle.std.proofs.Common.{◌≡◌, ℕ, ◌<◌, ◌≤◌, List, [], ◌∷◌, Bool, true, false, Option, Some, None, subst, sym, arith}
use Rattle.std.specs.Prelude.{All, if◌then◌else◌, bit_xor, length}
use Rattle.std.proofs.lemmas.List.Elements.{All-nil, All-cons}
use Rattle.tm_base.specs.declared.limits.TheConstants.{MOST_EVENTS}
use Rattle.tm_table.specs.declared.state.Access.{Access}
use Rattle.tm_table.specs.declared.state.Access.TheVariants.{Quiet, Read, Write}
use Rattle.tm_table.specs.State.{Hart}
use Rattle.tm_plan_cases.specs.declared.program.Program.{Program}
use Rattle.tm_plan_cases.specs.declared.event.Event.{Event}
use Rattle.tm_plan_script.specs.declared.faults.FaultLine.{FaultLine}
use Rattle.tm_world.specs.Place.{harts, exit_of}
use Rattle.tm_world.specs.Run.{Step, Always, hart_of, access_of, own, phase, HasShape}
use Rattle.tm_world.specs.Kinds.{IsPossible, plain_owed, state_of, stream_of}
use Rattle.tm_world.specs.Faulted.{Change, Faulted, FaultedStep, access_by}
use Rattle.tm_world.specs.Script.{change_of}
use Rattle.tm_world.specs.Run.{Run}
use Rattle.tm_world.specs.Sound.{Sound}
use Rattle.tm_world.specs.Replay.{run_of}
use Rattle.tm_trace.specs.Traced.{HasPlace, IsTraced, IsTrace}
use Rattle.tm_top_owed.specs.Runs.{IsRunUnder}
use Rattle.tm_top_run.proofs.Silent.{Each}
use Rattle.tm_top_run.proofs.Exact.{of-events}

-- ---- one access

placed : (a : Access) → IsPossible a → HasShape a → HasPlace a
placed Quiet possible shape = tt
placed (Read addr width value) possible (wide, fits) = record { wide = wide; aligned = possible.0; fits = fits }
placed (Write addr width value) possible (wide, fits) = record { wide = wide; aligned = possible.0; fits = fits }

dropped : (b : Bool) (addr width value other : ℕ) → IsPossible (Write addr width value)
    → HasShape (if b then Quiet else Write addr width other) → HasPlace (if b then Quiet else Write addr width other)
dropped true addr width value other possible shape = tt
dropped false addr width value other possible (wide, fits) =
    record { wide = wide; aligned = possible.0; fits = fits }

changed : (ch : Change) (a : Access) → IsPossible a → HasShape (access_by ch a) → HasPlace (access_by ch a)
changed ch Quiet possible shape = tt
changed ch (Read addr width value) possible (wide, fits) =
    record { wide = wide; aligned = possible.0; fits = fits }
changed ch (Write addr width value) possible shape =
    dropped ch.drops addr width value (bit_xor value ch.stored) possible shape

-- that of a step
step-place : (p : Program) (h : ℕ) (ch : Change) (c : Option ℕ) (before : Hart) (past : List Step) (s : Step)
    → FaultedStep p h ch c before past s → HasPlace (access_of s)
step-place p h ch None before past s (follows, reads) = placed (access_of s) follows.possible follows.shape
step-place p h ch (Some c) before past s it =
    subst HasPlace (sym it.access)
    (changed ch (access_of it.clean) it.follows.possible (subst HasShape it.access it.shape))

-- ---- all events

module _ (p : Program) (change : ℕ → ℕ → ℕ → Change) (r : Run) where
  all-places : (steps : List Step) → Always (λ past s. hart_of s < harts p) steps
      → Always (λ past s. let h = hart_of s in let before = state_of r h past in
      let ch = change h (phase (exit_of p h) (own h past)) before.pc in
      FaultedStep p h ch (stream_of p r h past) before past s) steps
      → Always (λ past s. IsTraced (harts p) s.event) steps
  all-places [] only all = tt
  all-places (s ∷ past) (mine, only) (this, rest) = (
    record {
      hart = mine;
      access = step-place p (hart_of s) (change (hart_of s) (phase (exit_of p (hart_of s)) (own (hart_of s) past))
          (state_of r (hart_of s) past).pc) (stream_of p r (hart_of s) past) (state_of r (hart_of s) past) past s this;
    },
    all-places past only rest,
  )

each-all : (P : Event → Type 0) (events : List Event) → Each P events → All P events
each-all P [] none = All-nil P
each-all P (e ∷ more) (this, rest) = All-cons P e more this (each-all P more rest)

-- the whole journal
pub trace_of_run : (p : Program) (lines : List FaultLine) (limit : ℕ) (events : List Event) → Sound p
    → IsRunUnder p lines limit events → limit ≤ MOST_EVENTS → IsTrace p.cases.harts events
trace_of_run p lines limit events sound its few =
    let r = run_of p lines events in
    let count = sound.program.cases.harts in record {
      harts = (count.0, omega (arith, count.1));
      few = omega (arith, its.few, few);
      each = each-all (IsTraced (harts p)) events (of-events (IsTraced (harts p)) p lines events
          (all-places p (change_of p lines) r r.steps its.faulted.only its.faulted.steps));
    }
