-- Worked scripts, by computing.
use Rattle.std.proofs.Common.{◌≡◌, refl, ℕ, List, [], ◌∷◌, true, None, Some}
use Rattle.tm_plan_cases.specs.declared.cases.Stream.{Stream}
use Rattle.tm_plan_cases.specs.declared.program.Program.{Program}
use Rattle.tm_plan_script.specs.declared.faults.FaultLine.{FaultLine}
use Rattle.tm_plan_script.specs.declared.faults.Action.TheVariants.{Result, Stored, Drop}
use Rattle.tm_world.specs.Faulted.{nothing}
use Rattle.tm_world.specs.Script.{names, change_of}

abbrev stream : List ℕ → Stream
stream words = record { words = words; regs = [] }

-- Two harts, two cases and three passes; each stream has two words, and those of hart 1 stand at 0x80001000 and
-- 0x80002000.
abbrev two_harts : Program
two_harts = record {
  cases = record {
    name = [];
    harts = 2;
    line = 64;
    passes = 3;
    windows = [];
    cases = record { name = []; streams = stream (19 ∷ 19 ∷ []) ∷ stream (19 ∷ 19 ∷ []) ∷ []; first = [] }
        ∷ record { name = []; streams = stream (19 ∷ 19 ∷ []) ∷ stream (19 ∷ 19 ∷ []) ∷ []; first = [] }
        ∷ [];
  };
  masks = record { cases = [] };
  marks = record {
    starts = 0x80000100 ∷ 0x80000200 ∷ 0x80001000 ∷ 0x80002000 ∷ [];
    ends = 0x80000108 ∷ 0x80000208 ∷ 0x80001008 ∷ 0x80002008 ∷ [];
    exits = [];
    halts = [];
  };
  text = [];
  tables = [];
}

-- slot 1 of hart 1 in pass 2 of case 1: five passes are before it, so its run phase is 11
abbrev one_line : FaultLine
one_line = record { hart = 1; case = 1; pass = Some 2; slot = 1; action = Result 0x40 }

the_named_step : change_of two_harts (one_line ∷ []) 1 11 0x80002004 ≡ record nothing { result = 0x40 }
unfolding change_of names
the_named_step = refl

another_slot : change_of two_harts (one_line ∷ []) 1 11 0x80002000 ≡ nothing
unfolding change_of names
another_slot = refl

another_pass : change_of two_harts (one_line ∷ []) 1 9 0x80002004 ≡ nothing
unfolding change_of names
another_pass = refl

another_case : change_of two_harts (one_line ∷ []) 1 5 0x80001004 ≡ nothing
unfolding change_of names
another_case = refl

no_pass : change_of two_harts (one_line ∷ []) 1 12 0x80002004 ≡ nothing
unfolding change_of names
no_pass = refl

another_hart : change_of two_harts (one_line ∷ []) 0 11 0x80000204 ≡ nothing
unfolding change_of names
another_hart = refl

-- in every pass, and two actions at one step
abbrev two_lines : List FaultLine
two_lines = record { hart = 0; case = 0; pass = None; slot = 0; action = Stored 7 }
    ∷ record { hart = 0; case = 0; pass = Some 1; slot = 0; action = Drop }
    ∷ []

in_pass_0 : change_of two_harts two_lines 0 1 0x80000100 ≡ record nothing { stored = 7 }
unfolding change_of names
in_pass_0 = refl

in_pass_1 : change_of two_harts two_lines 0 3 0x80000100 ≡ record nothing { stored = 7; drops = true }
unfolding change_of names
in_pass_1 = refl
