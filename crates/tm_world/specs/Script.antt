-- Runs that a script of faults has changed (this project's own). A line of a script names a hart, a case, a pass or
-- all of them, a slot of the hart's stream of the case, and an action on the step there.
use Rattle.std.specs.Prelude.{ℕ, ◌+◌, ◌*◌, ◌/◌, ◌%◌, Bool, true, false, ◌&&◌, ◌==◌, List, [], ◌∷◌, Option, Some, None}
use Rattle.std.specs.Prelude.{unwrap_or, map}
use Rattle.tm_plan_cases.specs.declared.program.Program.{Program}
use Rattle.tm_plan_script.specs.declared.faults.FaultLine.{FaultLine}
use Rattle.tm_plan_script.specs.declared.faults.Action.{Action}
use Rattle.tm_plan_script.specs.declared.faults.Action.TheVariants.{Result, Loaded, Stored, Drop, Turn}
use Rattle.tm_base.specs.Lists.{any}
use Rattle.tm_world.specs.Lists.{those}
use Rattle.tm_world.specs.Place.{passes, start_of, inside}
use Rattle.tm_world.specs.Run.{Run}
use Rattle.tm_world.specs.Writers.{case_of_phase}
use Rattle.tm_world.specs.Faulted.{Change, Faulted}

-- ---- of which steps a line speaks

-- it speaks of pass k: of this one alone, or of every one
abbrev pub is_of_pass : Option ℕ → ℕ → Bool
is_of_pass None k = true
is_of_pass (Some n) k = n == k

-- the pass of a case that is run in run phase q
abbrev pub pass_of_phase : Program → ℕ → ℕ
pass_of_phase p q = q / 2 % passes p

-- The line's slot of hart h's stream of case c stands at pc.
abbrev pub is_slot_at : Program → FaultLine → (h c pc : ℕ) → Bool
is_slot_at p line h c pc = inside p h c pc && (start_of p h c + 4 * line.slot == pc)

-- The line speaks of hart h's step at pc in a phase in which pass k of this case is run, if one is.
abbrev pub names_in : Program → FaultLine → (h k pc : ℕ) → Option ℕ → Bool
names_in p line h k pc None = false
names_in p line h k pc (Some c) =
    (line.hart == h) && ((line.case == c) && (is_of_pass line.pass k && is_slot_at p line h c pc))

-- The line speaks of hart h's step at pc in phase q: q is the run phase of a pass of the line's case of which it
-- speaks, in whatever round, and the line's slot stands at pc.
unfoldable pub names : Program → FaultLine → (h q pc : ℕ) → Bool
names p line h q pc = names_in p line h (pass_of_phase p q) pc (case_of_phase p q)

-- what the script does to hart h's step at pc in phase q, in the order of its lines
abbrev pub actions_at : Program → List FaultLine → (h q pc : ℕ) → List Action
actions_at p lines h q pc = map (λ (line : FaultLine). line.action) (those (λ line. names p line h q pc) lines)

-- ---- what actions do to a step

-- the number that is xored to the step's result
abbrev pub for_result : Action → Option ℕ
for_result (Result x) = Some x
for_result (Loaded x) = None
for_result (Stored x) = None
for_result Drop = None
for_result Turn = None

-- the number that is xored to what the step loads
abbrev pub for_loaded : Action → Option ℕ
for_loaded (Result x) = None
for_loaded (Loaded x) = Some x
for_loaded (Stored x) = None
for_loaded Drop = None
for_loaded Turn = None

-- the number that is xored to what the step stores
abbrev pub for_stored : Action → Option ℕ
for_stored (Result x) = None
for_stored (Loaded x) = None
for_stored (Stored x) = Some x
for_stored Drop = None
for_stored Turn = None

-- the step's store is dropped
abbrev pub is_drop : Action → Bool
is_drop (Result x) = false
is_drop (Loaded x) = false
is_drop (Stored x) = false
is_drop Drop = true
is_drop Turn = false

-- the step's branch is turned
abbrev pub is_turn : Action → Bool
is_turn (Result x) = false
is_turn (Loaded x) = false
is_turn (Stored x) = false
is_turn Drop = false
is_turn Turn = true

-- The number that the first action with one gives, 0 where none has one. (Of the actions that an accepted script does
-- to one step, no two are of one kind.)
abbrev pub first_number : (Action → Option ℕ) → List Action → ℕ
first_number number [] = 0
first_number number (action ∷ more) = unwrap_or (number action) (first_number number more)

-- what these actions do to one step
abbrev pub change_by : List Action → Change
change_by actions = record {
  result = first_number for_result actions;
  loaded = first_number for_loaded actions;
  stored = first_number for_stored actions;
  drops = any is_drop actions;
  turns = any is_turn actions;
}

-- what the script changes in hart h's step at pc in phase q
unfoldable pub change_of : Program → List FaultLine → (h q pc : ℕ) → Change
change_of p lines h q pc = change_by (actions_at p lines h q pc)

-- ---- runs

-- A run that a script has changed: a plain run, but that each step of which a line of the script speaks has its
-- result, its loaded value or its stored value xored, its store dropped or its branch turned. Where a store is both
-- xored and dropped, it is dropped. Later reads see the stores as they were made.
abbrev pub FaultedRun : Program → List FaultLine → Run → Type 0
FaultedRun p lines r = Faulted p (change_of p lines) r
