-- The numbers of accepted lines have 64 bits.
use Rattle.std.proofs.Common.{ℕ, ◌*◌, ◌^◌, ◌<◌, ◌≤◌, lit<, lit≤, arith}
use Rattle.tm_table.specs.declared.instr.Op.{Op}
use Rattle.tm_table.specs.declared.instr.Op.TheVariants.{Lb, Sb}
use Rattle.tm_table.specs.declared.instr.Instr.{Instr}
use Rattle.tm_plan_cases.specs.declared.cases.Cases.{Cases}
use Rattle.tm_plan_map.specs.Slots.{load_width, store_width}
use Rattle.tm_plan_script.specs.declared.faults.Action.{Action}
use Rattle.tm_plan_script.specs.declared.faults.Action.TheVariants.{Result, Loaded, Stored, Drop, Turn}
use Rattle.tm_plan_script.specs.Accepted.{Suits}
use Rattle.tm_plan_script.specs.Laws.{AcceptedAreSmall, number_of}

load-most : (op : Op) → 2 ^ (8 * load_width op) ≤ 2 ^ 64
load-most Lb = lit≤ tt
load-most op = lit≤ tt

store-most : (op : Op) → 2 ^ (8 * store_width op) ≤ 2 ^ 64
store-most Sb = lit≤ tt
store-most op = lit≤ tt

suits-small : (i : Instr) (a : Action) → Suits i a → number_of a < 2 ^ 64
suits-small i (Result x) s = s.3
suits-small i (Loaded x) s = let most = load-most i.op in omega (arith, s.2)
suits-small i (Stored x) s = let most = store-most i.op in omega (arith, s.2)
suits-small i Drop s = lit< tt
suits-small i Turn s = lit< tt

pub accepted-small : (cases : Cases) → AcceptedAreSmall cases
accepted-small cases lines a k d l = let r = a.each k d l in suits-small r.instr _ r.suits
