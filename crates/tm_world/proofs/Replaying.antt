-- The steps of a journal with one more event, and how many there are.
use Rattle.std.proofs.Common.{◌≡◌, ℕ, List, [], ◌∷◌, ◌++◌, refl, ap, ◌∙◌, length, arith}
use Rattle.std.specs.Prelude.{reverse}
use Rattle.std.proofs.lemmas.List.{reverse-append, length-reverse}
use Rattle.tm_plan_cases.specs.declared.program.Program.{Program}
use Rattle.tm_plan_cases.specs.declared.event.Event.{Event}
use Rattle.tm_plan_script.specs.declared.faults.FaultLine.{FaultLine}
use Rattle.tm_world.specs.Replay.{stepped, replay, steps_of}

pub steps-more : (p : Program) (lines : List FaultLine) (events : List Event) (e : Event)
    → steps_of p lines (events ++ e ∷ []) ≡ stepped p lines (steps_of p lines events) e ∷ steps_of p lines events
unfolding steps_of
steps-more p lines events e = ap (replay p lines) (reverse-append events (e ∷ []))

length-replay : (p : Program) (lines : List FaultLine) (events : List Event)
    → length (replay p lines events) ≡ length events
length-replay p lines [] = refl
length-replay p lines (e ∷ past) = let more = length-replay p lines past in omega arith

pub length-steps : (p : Program) (lines : List FaultLine) (events : List Event)
    → length (steps_of p lines events) ≡ length events
unfolding steps_of
length-steps p lines events = length-replay p lines (reverse events) ∙ length-reverse events
