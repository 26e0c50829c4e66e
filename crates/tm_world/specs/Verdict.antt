-- End values, and the verdict over them, on one hart's own steps (this project's own).
use Rattle.std.specs.Prelude.{◌≡◌, ℕ, ◌+◌, ◌-◌, ◌*◌, ◌/◌, ◌%◌, ◌^◌, ◌<◌, Bool, ◌&&◌, not, nat_lt, ◌==◌, List, [], ◌∷◌}
use Rattle.std.specs.Prelude.{length, slice_index, slice_get, Option, Some, None, IsTrue, All, map, if◌then◌else◌}
use Rattle.std.specs.Prelude.{option_map}
use Rattle.tm_table.specs.declared.state.Access.TheVariants.{Write}
use Rattle.tm_table.specs.State.{Hart}
use Rattle.tm_plan_cases.specs.declared.program.Program.{Program}
use Rattle.tm_plan_cases.specs.declared.masks.CaseMask.{CaseMask}
use Rattle.tm_plan_map.specs.Map.{verdict_at, windows_base}
use Rattle.tm_plan_cases.specs.Collected.{owned}
use Rattle.tm_base.specs.Lists.{count_from}
use Rattle.tm_world.specs.Place.{round_count, case_of_round, passes, exit_of, inside}
use Rattle.tm_world.specs.Run.{Step, now, access_of, got, phase, earliest, Always}
use Rattle.tm_world.specs.Writers.{run_phase}

-- ---- end values

-- the hart's state after the first step that leaves stream (h, c) in phase q
abbrev pub left_with : Program → ℕ → ℕ → ℕ → Hart → List Step → Option Hart
left_with p h c q first = earliest (λ past s.
    if (phase (exit_of p h) past == q) && (inside p h c (now first past).pc && not (inside p h c s.after.pc))
    then Some s.after else None)

-- what the hart's first read of b in phase q returned
abbrev pub first_read : Program → ℕ → ℕ → ℕ → List Step → Option ℕ
first_read p h b q = earliest (λ past s. if phase (exit_of p h) past == q then got (access_of s) b else None)

-- what is compared: a register, or a shared byte
pub data Part : Type 0 where
  Register : (r : ℕ) → Part
  Byte : (b : ℕ) → Part

-- The end value of a register of hart h, or of a byte that hart h collects, in pass k of round case e: the register's
-- value where the hart leaves the stream, and what the hart's first read of the byte in the phase after it returned.
abbrev pub end_value : Program → ℕ → ℕ → ℕ → Hart → List Step → Part → Option ℕ
end_value p h e k first own (Register r) =
    option_map (λ (s : Hart). slice_index s.x r) (left_with p h (case_of_round p e) (run_phase p e k) first own)
end_value p h e k first own (Byte b) = first_read p h b (run_phase p e k + 1) own

-- ---- the verdict

-- The parts of saved dword i of hart h: x1 to x30 in dwords 0 to 29, and from dword 30 on the bytes of the dwords
-- that it collects.
abbrev pub parts : Program → ℕ → ℕ → List Part
parts p h i = if nat_lt i 30 then Register (i + 1) ∷ []
    else map (λ j. Byte (slice_index (owned p.cases h) (i - 30) + j)) (count_from 0 8)

-- how many dwords hart h saves in a pass
abbrev pub saved : Program → ℕ → ℕ
saved p h = 30 + length (owned p.cases h)

-- the mask has the part as checked
abbrev pub is_checked : CaseMask → ℕ → Part → Bool
is_checked m h (Register r) = slice_index m.regs h / 2 ^ r % 2 == 1
is_checked m h (Byte b) = slice_index m.bytes (b - windows_base) == 255

-- Dword i has the same checked parts at the end of pass k of round case e as at the end of pass 0.
abbrev pub Same : Program → CaseMask → ℕ → ℕ → Hart → List Step → ℕ → ℕ → Type 0
Same p m h e first own k i = All (λ part. IsTrue (is_checked m h part)
    → end_value p h e k first own part ≡ end_value p h e 0 first own part) (parts p h i)

-- The verdict on round case e is 0 where no checked part differs between a pass and pass 0. Else it names the least
-- pass with a difference, k, and in it the least dword that differs, i, as k * 2 ^ 32 + i + 1. (That the end values
-- are there where a verdict is written follows from the course: see HasEnds.)
pub data IsVerdict (p : Program) (m : CaseMask) (h e : ℕ) (first : Hart) (own : List Step) : ℕ → Type 0 where
  agree : ((k i : ℕ) → k < passes p → i < saved p h → Same p m h e first own k i) → IsVerdict p m h e first own 0
  differ : (k i : ℕ) → k < passes p → i < saved p h
      → (Same p m h e first own k i → ⊥)
      → ((k' i' : ℕ) → k' < k → i' < saved p h → Same p m h e first own k' i')
      → ((i' : ℕ) → i' < i → Same p m h e first own k i')
      → IsVerdict p m h e first own (k * 2 ^ 32 + i + 1)

-- Each number that is written to a verdict cell of hart h is the verdict over what was before.
abbrev pub WritesExactly : Program → ℕ → Hart → List Step → Type 0
WritesExactly p h first = Always (λ past s. (e : ℕ) (m : CaseMask) (v : ℕ)
    → slice_get p.masks.cases (case_of_round p e) ≡ Some m
    → access_of s ≡ Write (verdict_at e h) 8 v → IsVerdict p m h e first past v)

-- Where hart h writes its verdict on a round case, each part that it saves has its end value in every pass.
abbrev pub HasEnds : Program → ℕ → Hart → List Step → Type 0
HasEnds p h first = Always (λ past s. (e v : ℕ) → e < round_count p → access_of s ≡ Write (verdict_at e h) 8 v
    → (k i : ℕ) → k < passes p → i < saved p h → All (λ part. (u : ℕ)
    × (end_value p h e k first past part ≡ Some u)) (parts p h i))
