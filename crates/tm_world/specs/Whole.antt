-- The parts of the course that speak of the text, of all harts, and of legal runs; and the course (this project's own).
use Rattle.std.specs.Prelude.{◌≡◌, ◌≢◌, ◌⊎◌, ℕ, ◌+◌, ◌-◌, ◌*◌, ◌/◌, ◌%◌, ◌<◌, ◌≤◌, false, List, [], ◌∷◌, length}
use Rattle.std.specs.Prelude.{slice_get, slice_index, Some, IsTrue, AllPairs, All, flat_map, map}
use Rattle.tm_plan_cases.specs.declared.program.Program.{Program}
use Rattle.tm_plan_cases.specs.declared.cases.Case.{Case}
use Rattle.tm_plan_cases.specs.declared.cases.Stream.{Stream}
use Rattle.tm_plan_map.specs.Map.{text_base, windows_base}
use Rattle.tm_plan_cases.specs.Collected.{is_declared}
use Rattle.tm_base.specs.Lists.{count_from}
use Rattle.tm_world.specs.Place.{harts, case_count, case_of_round, first_dwords, start_of, end_of, exit_of, halt_of}
use Rattle.tm_world.specs.Place.{inside, byte_of, word_at}
use Rattle.tm_world.specs.Run.{Run, own, Always, now, access_of, hart_of, Writes}
use Rattle.tm_world.specs.Writers.{may_write, settled}
use Rattle.tm_plan_cases.specs.Streams.{stream_in}
use Rattle.tm_world.specs.Kinds.{Legal, phase_of, first_of_hart}
use Rattle.tm_world.specs.Marks.{Enter, comes_to}
use Rattle.tm_world.specs.Course.{HartCourse}

-- ---- the text

-- the addresses of a hart's marks
abbrev pub marks_of : Program → ℕ → List ℕ
marks_of p h = exit_of p h ∷ halt_of p h ∷ flat_map (λ c. start_of p h c ∷ end_of p h c
    ∷ []) (count_from 0 (case_count p))

-- the addresses of all marks
abbrev pub mark_addresses : Program → List ℕ
mark_addresses p = flat_map (marks_of p) (count_from 0 (harts p))

-- the ranges of all streams, each from its start up to its end
abbrev pub stream_ranges : Program → List (ℕ × ℕ)
stream_ranges p = flat_map (λ h. map (λ c. (start_of p h c, end_of p h c)) (count_from 0 (case_count p)))
    (count_from 0 (harts p))

-- All marks are different addresses, and none is the text's first word, which lies in no stream; the streams don't
-- overlap; the word at each halt mark is a jump to itself; and from a stream's start to its end stand exactly the
-- stream's words.
pub record Laid (p : Program) : Type 0 where
  pub apart : AllPairs (λ a b. a ≢ b) (mark_addresses p)
  pub entry : All (λ a. a ≢ text_base) (mark_addresses p)
  pub outside : (h c : ℕ) → h < harts p → c < case_count p → inside p h c text_base ≡ false
  pub streams : AllPairs (λ (a : ℕ × ℕ) (b : ℕ × ℕ). (a.1 ≤ b.0) ⊎ (b.1 ≤ a.0)) (stream_ranges p)
  pub halt : (h : ℕ) → h < harts p → word_at p (halt_of p h) ≡ Some 0x0000006F
  pub long : (h c : ℕ) (stream : Stream) → h < harts p → stream_in p.cases c h ≡ Some stream
      → end_of p h c ≡ start_of p h c + 4 * length stream.words
  pub words : (h c i : ℕ) (stream : Stream) → h < harts p → stream_in p.cases c h ≡ Some stream
      → i < length stream.words
      → word_at p (start_of p h c + 4 * i) ≡ slice_get stream.words i

-- ---- writes on legal runs

-- Each write of a run covers bytes that its hart may write, inside a stream too.
abbrev pub WritesRight : Program → Run → Type 0
WritesRight p r =
    Always (λ past s. Writes (λ b. IsTrue (may_write p (phase_of p past (hart_of s)) (hart_of s) b)) (access_of s))
    r.steps

-- ---- first bytes on legal runs

-- the first byte at b, where these 768 dwords stand for the 6144 bytes of the windows
abbrev pub first_byte : List ℕ → ℕ → ℕ
first_byte dwords b = byte_of (slice_index dwords ((b - windows_base) / 8)) ((b - windows_base) % 8)

-- Where a hart has come into a stream of the case of a round case, each byte of a declared line has settled to the
-- round case's first byte, in the phase that the hart is in after the entering step.
abbrev pub SettlesFirst : Program → Run → Type 0
SettlesFirst p r = Always (λ past s. (e b : ℕ) (case : Case) → slice_get p.cases.cases (case_of_round p e) ≡ Some case
    → IsTrue (comes_to p (hart_of s) (Enter (case_of_round p e))
    (now (first_of_hart r (hart_of s)) (own (hart_of s) past)).pc s.after.pc)
    → IsTrue (is_declared p.cases b)
    → settled p (s ∷ past) (phase_of p (s ∷ past) (hart_of s)) b ≡ Some (first_byte (first_dwords p e case) b)) r.steps

-- ---- the course

-- A program keeps the course.
pub record Course (p : Program) : Type 0 where
  pub laid : Laid p
  pub hart : (h : ℕ) → h < harts p → HartCourse p h
  pub legal_writes : (r : Run) → Legal p r → WritesRight p r
  pub first : (r : Run) → Legal p r → SettlesFirst p r
