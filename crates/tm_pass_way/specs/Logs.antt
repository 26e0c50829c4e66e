-- What the log of a hart tells (this project's own). It is that of tm_world's words on steps, said of entries.
use Rattle.std.specs.Prelude.{◌≡◌, ℕ, ◌+◌, ◌*◌, ◌^◌, ◌<◌, Bool, ◌&&◌, not, ◌==◌, List, []}
use Rattle.std.specs.Prelude.{◌∷◌, Option, None, Some, IsTrue, All, if◌then◌else◌, option_map}
use Rattle.tm_plan_cases.specs.declared.masks.CaseMask.{CaseMask}
use Rattle.tm_plan_cases.specs.declared.program.Program.{Program}
use Rattle.tm_plan_map.specs.Map.{verdict_at}
use Rattle.tm_world.specs.Lists.{or_else}
use Rattle.tm_world.specs.Place.{passes, exit_of, inside}
use Rattle.tm_world.specs.Run.{got}
use Rattle.tm_world.specs.Kinds.{stream_at}
use Rattle.tm_world.specs.Course.{writes_in}
use Rattle.tm_world.specs.Verdict.{Part, Register, Byte, parts, saved, is_checked}
use Rattle.tm_world.specs.Writers.{run_phase}
use Rattle.tm_stays.specs.Stays.{one_outside}
use Rattle.tm_runs.specs.Machine.{Entry, Table}
use Rattle.tm_runs.specs.Phases.{phase_in, lately_at}

-- ---- end values

-- the registers after the first step of phase q that leaves stream (h, c)
abbrev pub left_in : Program → (h c q : ℕ) → List Entry → Option Table
left_in p h c q [] = None
left_in p h c q (e
    ∷ past) = or_else (left_in p h c q past) (if (phase_in (exit_of p h) past == q)
    && (inside p h c e.pc && not (inside p h c e.next)) then Some e.regs else None)

-- what the first read of b in phase q returned
abbrev pub read_in : Program → (h q b : ℕ) → List Entry → Option ℕ
read_in p h q b [] = None
read_in p h q b (e ∷ past) = or_else (read_in p h q b past) (if phase_in (exit_of p h) past == q then got e.access b
    else None)

-- an end value
abbrev pub end_in : Program → (h c k : ℕ) → List Entry → Part → Option ℕ
end_in p h c k log (Register r) = option_map (λ (f : Table). f r) (left_in p h c (run_phase p c k) log)
end_in p h c k log (Byte b) = read_in p h (run_phase p c k + 1) b log

-- dword i has the same checked parts at the end of pass k as at the end of pass 0
abbrev pub SameIn : Program → CaseMask → (h c : ℕ) → List Entry → (k i : ℕ) → Type 0
SameIn p m h c log k i = All (λ part. IsTrue (is_checked m h part)
    → end_in p h c k log part ≡ end_in p h c 0 log part) (parts p h i)

-- the verdict
pub data IsVerdictIn (p : Program) (m : CaseMask) (h c : ℕ) (log : List Entry) : ℕ → Type 0 where
  agree : ((k i : ℕ) → k < passes p → i < saved p h → SameIn p m h c log k i) → IsVerdictIn p m h c log 0
  differ : (k i : ℕ) → k < passes p → i < saved p h
      → (SameIn p m h c log k i → ⊥)
      → ((k' i' : ℕ) → k' < k → i' < saved p h → SameIn p m h c log k' i')
      → ((i' : ℕ) → i' < i → SameIn p m h c log k i')
      → IsVerdictIn p m h c log (k * 2 ^ 32 + i + 1)

-- ---- tests of an entry

-- it writes hart h's verdict on case c
abbrev pub reports : (c h : ℕ) → Entry → Bool
reports c h e = writes_in (verdict_at c h) 8 e.access

-- ---- work outside streams

-- how many entries of phase q outside streams are work
abbrev pub work_in : Program → (h q : ℕ) → List Entry → ℕ
work_in p h q [] = 0
work_in p h q (e ∷ past) =
    if lately_at p h 4 (e ∷ past) then work_in p h q past
    else (if phase_in (exit_of p h) past == q then one_outside (stream_at p h e.pc) (work_in p h q past)
    else work_in p h q past)
