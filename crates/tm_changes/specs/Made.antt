-- What the code holds of a change, and a change with one action more (this project's own).
use Rattle.std.specs.Prelude.{true, Option, Some, None}
use Rattle.tm_plan_script.specs.declared.faults.Action.{Action}
use Rattle.tm_plan_script.specs.declared.faults.Action.TheVariants.{Result, Loaded, Stored, Drop, Turn}
use Rattle.tm_world.specs.Faulted.{Change, nothing}
use Rattle.tm_changes.specs.declared.change.Change as code

-- the change that the code holds
abbrev pub change_in : code.Change → Change
change_in c = record { result = c.result; loaded = c.loaded; stored = c.stored; drops = c.drops; turns = c.turns }

-- the change that an answer tells; none is the one that changes nothing
abbrev pub change_told : Option code.Change → Change
change_told None = nothing
change_told (Some c) = change_in c

-- a change with one action more, which counts before those of its kind
abbrev pub with_action : Action → Change → Change
with_action (Result x) ch = record ch { result = x }
with_action (Loaded x) ch = record ch { loaded = x }
with_action (Stored x) ch = record ch { stored = x }
with_action Drop ch = record ch { drops = true }
with_action Turn ch = record ch { turns = true }
