-- Worked lines, by computing.
use Rattle.std.proofs.Common.{◌≡◌, refl, [], ◌∷◌, ◌+◌, ◌*◌, ◌^◌, codes}
use Rattle.std.specs.Fmt.{digits}
use Rattle.tm_base.specs.Numbers.{hex_text}
use Rattle.tm_table.specs.declared.state.Access.{Access}
use Rattle.tm_table.specs.declared.state.Access.TheVariants.{Quiet, Read, Write}
use Rattle.tm_plan_map.specs.declared.windows.Kind2.TheVariants.{True}
use Rattle.tm_plan_map.specs.Map.{verdict_at, windows_base, window_at}
use Rattle.tm_plan_cases.specs.declared.event.Event.{Event}
use Rattle.tm_plan_cases.specs.declared.cases.Cases.{Cases}
use Rattle.tm_plan_cases.specs.Collected.{is_declared, collector, window_dwords, owned}
use Rattle.tm_report_run.specs.Verdicts.{verdict_in, verdicts_of}
use Rattle.tm_report_run.specs.Report.{place_text, case_text, hart_text, difference_line, case_lines, report, full_line}

-- two harts, two cases, and one line of window 1
abbrev two_harts : Cases
two_harts = record {
  name = codes "t";
  harts = 2;
  line = 64;
  passes = 3;
  windows = record { number = 1; kind = True; lines = 1 } ∷ [];
  cases = record { name = codes "a"; streams = []; first = [] }
      ∷ record { name = codes "b"; streams = []; first = [] }
      ∷ [];
}

abbrev event : Access → Event
event access = record { hart = 0; pc = 0; word = 0; access = access }

-- The last write counts, where it has width 8 and stands at the cell; cells of harts are 8 bytes apart, and cells of
-- cases 128.
some_verdicts : verdicts_of two_harts (event (Write 0x80C01000 8 1) ∷ event (Write 0x80C01088 8 7)
    ∷ event (Write 0x80C01000 8 2) ∷ event (Write 0x80C01000 4 3) ∷ event (Read 0x80C01000 8 4)
    ∷ event (Write 0x80C01008 1 5) ∷ event (Write 0x80C00088 8 6) ∷ event Quiet ∷ []) ≡ 2 ∷ 0 ∷ 0 ∷ 7 ∷ []
unfolding verdicts_of verdict_in verdict_at
some_verdicts = refl

-- Register x7 is saved as dword 6. Lines are counted over all windows, so line 32, the first of window 1, is hart 0's.
a_report : report two_harts (0 ∷ 0 ∷ (2 ^ 32 + 31) ∷ (2 * 2 ^ 32 + 7) ∷ []) 1234
    ≡ codes "case 0 a: ok\ncase 1 b: hart 0 pass 1 0x80e80800\ncase 1 b: hart 1 pass 2 x7\nevents 1234\n"
unfolding report case_lines difference_line hart_text case_text place_text owned window_dwords is_declared
    collector window_at windows_base hex_text digits
a_report = refl

the_last_register : place_text two_harts 0 29 ≡ codes "x30"
unfolding place_text digits
the_last_register = refl

a_full_room : full_line 20 1 8 ≡ codes "full: 20 events, 1 of 8 harts halted\n"
unfolding full_line digits
a_full_room = refl
