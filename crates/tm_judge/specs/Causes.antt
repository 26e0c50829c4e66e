-- What a recorded run may be, and why one more event makes it none (this project's own).
use Rattle.std.specs.Prelude.{◌≡◌, ◌≢◌, ℕ, ◌+◌, ◌<◌, ◌≤◌, List, Option, Some, None, IfSome, MatchOption}
use Rattle.tm_table.specs.declared.state.Access.{Access}
use Rattle.tm_table.specs.declared.state.Access.TheVariants.{Quiet, Read, Write}
use Rattle.tm_table.specs.State.{Hart}
use Rattle.tm_table.specs.Row.{row_word}
use Rattle.tm_plan_cases.specs.declared.event.Event.{Event}
use Rattle.tm_plan_cases.specs.declared.program.Program.{Program}
use Rattle.tm_world.specs.Place.{harts, halt_of, word_at, byte_of}
use Rattle.tm_world.specs.Run.{Step, Run, own, Reads, read_value}
use Rattle.tm_world.specs.Kinds.{Paths, Plain, Legal, Follows, Met, plain_owed, legal_owed, phase_of, flag_writes}
use Rattle.tm_world.specs.Work.{HasNext}
use Rattle.tm_world.specs.Replay.{state_after}
use Rattle.tm_judge.specs.Recorded.{step_of}
use Rattle.tm_judge.specs.declared.answers.Why.{Why}
use Rattle.tm_judge.specs.declared.answers.Why.TheVariants.{AfterHalt, Pc, Word, Stuck, Early, Byte}
use Rattle.tm_judge.specs.declared.answers.Why.TheVariants as whys

-- what is asked of a recorded run
pub data Question : Type 0 where
  OfPath : Question
  OfPlain : Question
  OfLegal : Question

-- it is a path, plain or legal
abbrev pub IsOne : Question → Program → Run → Type 0
IsOne OfPath = Paths
IsOne OfPlain = Plain
IsOne OfLegal = Legal

-- ---- what stands alone at one event of a hart

-- Row gives another access: of another kind, address, width or written value.
abbrev pub GivesAnother : Hart → Event → Type 0
GivesAnother before e = (made : Hart × Access) × (row_word before e.word (read_value e.access) ≡ Some made)
    × (made.1 ≢ e.access)

-- The first five causes, of an event of a hart with this state before it.
abbrev pub Strays : Program → Hart → Event → Why → Type 0
Strays p before e AfterHalt = before.pc ≡ halt_of p e.hart
Strays p before e (Pc wanted) = (wanted ≡ before.pc) × (e.pc ≢ wanted)
Strays p before e (Word wanted) = (word_at p e.pc ≡ Some wanted) × (e.word ≢ wanted)
Strays p before e Stuck = ¬ HasNext p before
Strays p before e whys.Step = GivesAnother before e
Strays p before e (Early g) = ⊥
Strays p before e (Byte addr held) = ⊥

-- ---- what is owed

-- Another hart's flag writes are fewer than the phase of an event of hart h: its phase-th one isn't earlier.
abbrev pub IsMissing : Program → List Step → ℕ → ℕ → Type 0
IsMissing p past h g = (g < harts p) × (g ≢ h) × (flag_writes g (own g past) < phase_of p past h)

-- the least such hart
abbrev pub IsLeastMissing : Program → List Step → ℕ → ℕ → Type 0
IsLeastMissing p past h g = IsMissing p past h g × ((k : ℕ) → k < g → ¬ IsMissing p past h k)

-- for legal alone
abbrev pub MissesFlag : Question → Program → List Step → ℕ → ℕ → Type 0
MissesFlag OfPath p past h g = ⊥
MissesFlag OfPlain p past h g = ⊥
MissesFlag OfLegal p past h g = IsLeastMissing p past h g

-- what the byte at b is to be where hart h reads it
abbrev pub owed : Question → Program → List Step → ℕ → ℕ → Option ℕ
owed OfPath p past h b = None
owed OfPlain p past h b = plain_owed p past b
owed OfLegal p past h b = legal_owed p past h (phase_of p past h) b

-- The least byte read, at addr, that isn't the owed one, which is held.
abbrev pub ReadsWrong : (ℕ → Option ℕ) → Access → ℕ → ℕ → Type 0
ReadsWrong owed Quiet addr held = ⊥
ReadsWrong owed (Write from width value) addr held = ⊥
ReadsWrong owed (Read from width value) addr held = (i : ℕ) × (i < width) × (addr ≡ from + i) × (owed addr ≡ Some held)
    × (byte_of value i ≢ held) × ((j : ℕ) → j < i → IfSome (owed (from + j)) (λ b. byte_of value j ≡ b))

-- ---- the causes

-- The cause holds of an event after these steps.
abbrev pub Holds : Question → Program → List Step → Event → Why → Type 0
Holds q p past e (Early g) = MissesFlag q p past e.hart g
Holds q p past e (Byte addr held) = ReadsWrong (owed q p past e.hart) e.access addr held
Holds q p past e AfterHalt = Strays p (state_after past e.hart) e AfterHalt
Holds q p past e (Pc wanted) = Strays p (state_after past e.hart) e (Pc wanted)
Holds q p past e (Word wanted) = Strays p (state_after past e.hart) e (Word wanted)
Holds q p past e Stuck = Strays p (state_after past e.hart) e Stuck
Holds q p past e whys.Step = Strays p (state_after past e.hart) e whys.Step

-- the order of the causes
abbrev pub rank : Why → ℕ
rank AfterHalt = 1
rank (Pc wanted) = 2
rank (Word wanted) = 3
rank Stuck = 4
rank whys.Step = 5
rank (Early g) = 6
rank (Byte addr held) = 7

-- the first cause that holds
pub record IsFirst (q : Question) (p : Program) (past : List Step) (e : Event) (why : Why) : Type 0 where
  pub holds : Holds q p past e why
  pub first : (w : Why) → rank w < rank why → ¬ Holds q p past e w

-- the first of the first five causes that holds
pub record IsFirstStray (p : Program) (before : Hart) (e : Event) (why : Why) : Type 0 where
  pub holds : Strays p before e why
  pub early : rank why ≤ 5
  pub first : (w : Why) → rank w < rank why → ¬ Strays p before e w

-- What a question asks of one event more.
abbrev pub Goes : Question → Program → List Step → Event → Type 0
Goes OfPath p past e = Follows p e.hart (state_after past e.hart) (step_of past e)
Goes OfPlain p past e = Follows p e.hart (state_after past e.hart) (step_of past e)
    × Reads (plain_owed p past) e.access
Goes OfLegal p past e = Follows p e.hart (state_after past e.hart) (step_of past e) × Met p past (step_of past e)
    × Reads (legal_owed p past e.hart (phase_of p past e.hart)) e.access

-- what is found of one event more
abbrev pub Found : Question → Program → List Step → Event → Option Why → Type 0
Found q p past e fault = MatchOption fault (Goes q p past e) (λ why. IsFirst q p past e why)
