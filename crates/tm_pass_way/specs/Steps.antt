-- The parts once more, with the barrier as a part of its own: what has to be proved of each block (this project's own).
use Rattle.std.specs.Prelude.{◌≡◌, ℕ, suc, ◌+◌, ◌<◌, ◌≤◌, true, ◌==◌, List, [], ◌∷◌, ◌++◌, slice_get, Some, IfSome}
use Rattle.std.specs.Prelude.{if◌then◌else◌}
use Rattle.tm_plan_cases.specs.declared.masks.CaseMask.{CaseMask}
use Rattle.tm_plan_cases.specs.declared.program.Program.{Program}
use Rattle.tm_plan_map.specs.Map.{private_at}
use Rattle.tm_base.specs.Lists.{any}
use Rattle.tm_plan_cases.specs.Shaped.{MasksFit}
use Rattle.tm_world.specs.Lists.{IsFront}
use Rattle.tm_world.specs.Place.{harts, case_count, passes, start_of, end_of, exit_of}
use Rattle.tm_world.specs.Writers.{case_of_phase}
use Rattle.tm_world.specs.Marks.{Mark, Exit, Enter, End, Halt, whole_way}
use Rattle.tm_world.specs.Course.{last_phase}
use Rattle.tm_runs.specs.Machine.{State, Entry}
use Rattle.tm_legal.specs.Tame.{Formed}
use Rattle.tm_runs.specs.Phases.{now_in}
use Rattle.tm_pass_way.specs.Facts.{Told, AreSet}
use Rattle.tm_pass_way.specs.Parts.{Places, Costs, Hold, Ready, Same, Counts, Saves, CollectsTo, Passes, Leads, Opens}
use Rattle.tm_pass_way.specs.Parts.{Turns, phase_at, way_to}
use Rattle.tm_pass_way.specs.Calm.{StreamClear}

-- The barrier is called at one place and comes back at the other.
pub data Calls (p : Program) (at : Places) : ℕ → ℕ → Type 0 where
  Before : (c : ℕ) → c < case_count p → Calls p at (at.call c) (at.load c)
  Behind : (c : ℕ) → c < case_count p → Calls p at (at.recall c) (at.collect c)

-- What each part of hart h's program does, from where it begins to where the next one does, and at what cost.
pub record Steps (p : Program) (h : ℕ) (at : Places) (cost : Costs) (limit : ℕ → ℕ) : Type 0 where
  pub begin : (s : State) → Opens p h s → cost.begin ≤ limit 0
      → Leads p h limit s (λ t. Ready p h (at.head 0) 0 0 cost.begin [] t × Told p h limit t.log)
  pub reset : (c o : ℕ) (s : State) → c < case_count p → o + cost.reset ≤ limit (phase_at p c 0)
      → Ready p h (at.head c) (phase_at p c 0) c o (way_to p c 0) s → Told p h limit s.log
      → Leads p h limit s (λ t. Ready p h (at.set c) (phase_at p c 0) c (o + cost.reset) (way_to p c 0) t
      × Counts p h 0 s t × Told p h limit t.log)
  pub set : (c k o : ℕ) (s : State) → c < case_count p → k < passes p → o + cost.first ≤ limit (phase_at p c k)
      → Ready p h (at.set c) (phase_at p c k) c o (way_to p c k) s → Told p h limit s.log
      → Leads p h limit s (λ t. Ready p h (at.call c) (phase_at p c k) c (o + cost.first) (way_to p c k) t
      × Same p h s t × AreSet p h c (now_in (exit_of p h) t.log) × Told p h limit t.log)
  pub meet : (place link q c o : ℕ) (ms : List Mark) (s : State) → Calls p at place link → c ≤ case_count p
      → q < last_phase p → o + cost.meet ≤ limit q → IsFront (ms ++ Exit ∷ []) (whole_way p)
      → Ready p h place q c o ms s
      → IfSome (case_of_phase p q) (λ d. any (λ (e : Entry). e.next == end_of p h d) (now_in (exit_of p h) s.log)
      ≡ true)
      → IfSome (case_of_phase p (suc q)) (λ d. AreSet p h d (now_in (exit_of p h) s.log))
      → Told p h limit s.log
      → Leads p h limit s (λ t. Hold p h link (suc q) c 0 (ms ++ Exit ∷ []) t × Same p h s t
      × (now_in (exit_of p h) t.log ≡ []) × Told p h limit t.log)
  pub load : (c k : ℕ) (s : State) → c < case_count p → k < passes p → cost.load ≤ limit (phase_at p c k + 1)
      → Hold p h (at.load c) (phase_at p c k + 1) c 0 (way_to p c k ++ Exit ∷ []) s → Told p h limit s.log
      → Leads p h limit s (λ t. Hold p h (start_of p h c) (phase_at p c k + 1) c cost.load (way_to p c k ++ Exit
      ∷ Enter c ∷ []) t × Same p h s t × Told p h limit t.log)
  pub save : (c k o : ℕ) (s : State) → c < case_count p → k < passes p → o + cost.save ≤ limit (phase_at p c k + 1)
      → Hold p h (end_of p h c) (phase_at p c k + 1) c o (way_to p c k ++ Exit ∷ Enter c ∷ End c ∷ []) s
      → any (λ (e : Entry). e.next == end_of p h c) (now_in (exit_of p h) s.log) ≡ true → Told p h limit s.log
      → Leads p h limit s (λ t. Hold p h (at.recall c) (phase_at p c k + 1) c (o + cost.save) (way_to p c k ++ Exit
      ∷ Enter c ∷ End c ∷ []) t × Saves p h s t
      × (any (λ (e : Entry). e.next == end_of p h c) (now_in (exit_of p h) t.log) ≡ true) × Told p h limit t.log)
  pub collect : (c k : ℕ) (s : State) → c < case_count p → k < passes p → cost.collect ≤ limit (phase_at p c (suc k))
      → Hold p h (at.collect c) (phase_at p c (suc k)) c 0 (way_to p c (suc k)) s → s.mem (private_at h + 264) ≡ k
      → now_in (exit_of p h) s.log ≡ [] → Told p h limit s.log
      → Leads p h limit s (λ t. Ready p h (at.turn c) (phase_at p c (suc k)) c cost.collect (way_to p c (suc k)) t
      × CollectsTo p h k (phase_at p c (suc k)) s t × Told p h limit t.log)
  pub turn : (c k o : ℕ) (s : State) → c < case_count p → k < passes p → o + cost.turn ≤ limit (phase_at p c (suc k))
      → Ready p h (at.turn c) (phase_at p c (suc k)) c o (way_to p c (suc k)) s → s.mem (private_at h + 264) ≡ k
      → Told p h limit s.log
      → Leads p h limit s (λ t. Ready p h (if suc k == passes p then at.compare c
      else at.set c) (phase_at p c (suc k)) c (o + cost.turn) (way_to p c (suc k)) t × Counts p h (suc k) s t
      × Told p h limit t.log)
  pub compare : (c o : ℕ) (m : CaseMask) (s : State) → c < case_count p → slice_get p.masks.cases c ≡ Some m
      → o + cost.compare ≤ limit (phase_at p (suc c) 0)
      → Ready p h (at.compare c) (phase_at p (suc c) 0) c o (way_to p (suc c) 0) s → Passes p h c (passes p) s
      → Told p h limit s.log
      → Leads p h limit s (λ t. Ready p h (at.head (suc c)) (phase_at p (suc c) 0) (suc c) (o + cost.compare)
      (way_to p (suc c) 0 ++ (if suc c == case_count p then Halt ∷ [] else [])) t × Told p h limit t.log)

-- The steps make up the parts; the streams need nothing but to lie clear.
abbrev pub StepsMakeTurns : Program → Type 0
StepsMakeTurns p = Formed p → MasksFit p.cases p.masks → (h : ℕ) → h < harts p
    → (at : Places) (cost : Costs) (limit : ℕ → ℕ) → ((c : ℕ) → c < case_count p → StreamClear p h c)
    → Steps p h at cost limit → Turns p h at cost limit
