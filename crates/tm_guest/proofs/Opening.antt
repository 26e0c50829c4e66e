-- What a guest keeps before its first step.
use Rattle.std.proofs.Common.{◌≡◌, ℕ, ◌^◌, ◌≤◌, ◌<◌, List, [], ◌⊎◌, inl, inr, refl, sym, subst, get_or, set, arith}
use Rattle.std.proofs.Common.{get_or-set_other}
use Rattle.std.specs.Prelude.{replicate}
use Rattle.std.proofs.lemmas.Bool.{cases_eq, cases_lt}
use Rattle.std.proofs.lemmas.List.{get_or-replicate, get_or_past}
use Rattle.tm_base.specs.declared.limits.TheConstants.{MOST_EVENTS}
use Rattle.tm_plan_cases.specs.declared.program.Program.{Program}
use Rattle.tm_plan_cases.specs.Shaped.{IsProgram}
use Rattle.tm_plan_script.specs.Accepted.{AreAccepted}
use Rattle.tm_world.specs.Whole.{Laid}
use Rattle.tm_changes.specs.Scripted.{Scripted}
use Rattle.tm_ram.specs.Region.{Region}
use Rattle.tm_world.specs.Kinds.{IsOpening}
use Rattle.tm_world.specs.Work.{NeverStuck}
use Rattle.tm_guest.specs.declared.decoded.Decoded.{Decoded}
use Rattle.tm_guest.specs.declared.hart.HartState.{HartState}
use Rattle.tm_world.specs.Replay.{opening, steps_of}
use Rattle.tm_guest.specs.Fields.{AreDecoded, IsMemory, KeepsReplay}
use Rattle.tm_guest.specs.Start.{AreOpened}

opening-fits : (h r : ℕ) → h < 2 ^ 64 → get_or (set (replicate 32 0) 10 h) r 0 < 2 ^ 64
opening-fits h r l = by (cases_eq r 10)
  where
    zeros : (r < 32) ⊎ (32 ≤ r) → get_or (replicate 32 0) r 0 < 2 ^ 64
    zeros (inl m) = subst (λ (v : ℕ). v < 2 ^ 64) (sym (get_or-replicate 32 r 0 0 m)) (omega arith)
    zeros (inr m) = subst (λ (v : ℕ). v < 2 ^ 64) (sym (get_or_past (replicate 32 0) r 0 m)) (omega arith)

    by : (r ≡ 10) ⊎ (r ≡ 10 → ⊥) → get_or (set (replicate 32 0) 10 h) r 0 < 2 ^ 64
    by (inl e) = subst (λ (k : ℕ). get_or (set (replicate 32 0) 10 h) k 0 < 2 ^ 64) (sym e) l
    by (inr n) =
        subst (λ (v : ℕ). v < 2 ^ 64) (sym (get_or-set_other (replicate 32 0) 10 r h 0 n)) (zeros (cases_lt r 32))

pub is-opening : (h : ℕ) → h < 2 ^ 64 → IsOpening h (opening h)
unfolding opening
is-opening h l = record { count = refl; fits = λ r. opening-fits h r l; zero = refl; number = refl }

pub keeps-fresh : (p : Program) (changes : Scripted) (limit : ℕ) (decodes : List Decoded) (states : List HartState)
    (r : Region) → IsProgram p → changes.program ≡ p → Laid p → AreAccepted p.cases changes.lines
    → NeverStuck p changes.lines → limit ≤ MOST_EVENTS → AreDecoded p.text decodes
    → AreOpened p.cases.harts states → IsMemory p [] r
    → KeepsReplay p changes limit decodes states r (record { events = []; room = limit })
unfolding steps_of
keeps-fresh p changes limit decodes states r shaped its laid accepted never few rows opened memory = record {
  program = shaped;
  its_program = its;
  laid = laid;
  accepted = accepted;
  unstuck = never;
  few = few;
  room = refl;
  within = omega arith;
  rows = rows;
  each_hart = record {
    count = opened.count;
    each = λ h d l. let o = opened.each h d l in record { state = o.state; exits = o.exits; flag = o.flag };
  };
  memory = memory;
  goes_on = record { opening = λ h l. is-opening h (omega (arith, shaped.cases.harts)); only = tt; steps = tt };
}
