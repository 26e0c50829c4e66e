-- Who may write a byte in a phase, and to what it settles (this project's own).
use Rattle.std.specs.Prelude.{ℕ, zero, suc, ◌+◌, ◌*◌, ◌/◌, ◌%◌, Bool, false, ◌&&◌, ◌||◌, nat_lt, ◌==◌, List, [], ◌∷◌}
use Rattle.std.specs.Prelude.{Option, Some, None, if◌then◌else◌}
use Rattle.tm_plan_cases.specs.declared.program.Program.{Program}
use Rattle.tm_plan_cases.specs.declared.cases.Cases.{Cases}
use Rattle.tm_plan_cases.specs.declared.cases.Stream.{Stream}
use Rattle.tm_table.specs.declared.instr.Instr.{Instr}
use Rattle.tm_plan_cases.specs.Collected.{is_declared, collector}
use Rattle.tm_plan_cases.specs.Streams.{stream_in}
use Rattle.tm_base.specs.Lists.{any, count_from}
use Rattle.tm_plan_map.specs.Slots.{instr_of, stores_to}
use Rattle.tm_world.specs.Lists.{those, or_else}
use Rattle.tm_world.specs.Place.{harts, round_count, case_of_round, passes, exit_of, is_flag, is_verdict, is_private}
use Rattle.tm_world.specs.Place.{is_window, image_byte}
use Rattle.tm_world.specs.Run.{Step, own, last_write, in_phase}

-- ---- streams

-- the word is a store that covers byte b
abbrev pub is_store_to : ℕ → ℕ → Bool
is_store_to b w = of_instr (instr_of w)
  where
    of_instr : Option Instr → Bool
    of_instr None = false
    of_instr (Some i) = stores_to b i

-- some word of the stream, if there is one, is a store that covers b
abbrev pub some_store_to : ℕ → Option Stream → Bool
some_store_to b None = false
some_store_to b (Some s) = any (is_store_to b) s.words

-- Some store slot of hart h's stream of case c covers b, executed or not.
abbrev pub may_store : Cases → ℕ → ℕ → ℕ → Bool
may_store cases c h b = some_store_to b (stream_in cases c h)

-- ---- phases

-- the run phase of pass k of round case e
abbrev pub run_phase : Program → ℕ → ℕ → ℕ
run_phase p e k = 2 * (e * passes p + k) + 1

-- the round case whose run phase q is
abbrev pub round_of_phase : Program → ℕ → Option ℕ
round_of_phase p q =
    if (q % 2 == 1) && nat_lt (q / 2) (round_count p * passes p) then Some (q / 2 / passes p) else None

-- the case that is run in phase q
abbrev pub case_of_phase : Program → ℕ → Option ℕ
case_of_phase p q =
    if (q % 2 == 1) && nat_lt (q / 2) (round_count p * passes p) then Some (case_of_round p (q / 2 / passes p))
    else None

-- In the run phase of a case a shared byte may be written by each hart with a store slot that covers it.
abbrev pub may_write_running : Program → Option ℕ → ℕ → ℕ → Bool
may_write_running p None h b = false
may_write_running p (Some c) h b = is_declared p.cases b && may_store p.cases c h b

-- In an even phase a window's byte may be written by the collector of its line.
abbrev pub may_write_window : Program → ℕ → ℕ → ℕ → Bool
may_write_window p q h b = if q % 2 == 0 then collector p.cases b == h else may_write_running p (case_of_phase p q) h b

-- Hart h may write byte b in phase q: its own flag, verdict cells and private area always, and windows as said.
abbrev pub may_write : Program → ℕ → ℕ → ℕ → Bool
may_write p q h b = is_flag h b || (is_verdict p h b || (is_private h b || (is_window b && may_write_window p q h b)))

-- all harts that may write b in phase q
abbrev pub writers : Program → ℕ → ℕ → List ℕ
writers p q b = those (λ h. may_write p q h b) (count_from 0 (harts p))

-- ---- settling

-- what hart h wrote last at b in its phase q
abbrev pub wrote : Program → List Step → ℕ → ℕ → ℕ → Option ℕ
wrote p past q b h = last_write b (in_phase (exit_of p h) q (own h past))

-- With no writer a byte stays, with one it is that writer's last write if there is one, and with more it is open.
abbrev pub settle : (ℕ → Option ℕ) → Option ℕ → List ℕ → Option ℕ
settle wrote before [] = before
settle wrote before (h ∷ []) = or_else (wrote h) before
settle wrote before (h ∷ g ∷ more) = None

-- The byte to which b has settled for phase q, after the steps past, or None where it is open.
abbrev pub settled : Program → List Step → ℕ → ℕ → Option ℕ
settled p past zero b = Some (image_byte p b)
settled p past (suc q) b = settle (wrote p past q b) (settled p past q b) (writers p q b)
