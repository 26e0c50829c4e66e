-- What a program and the support code of one of its harts have to keep, so that legal runs are half runs (this
-- project's own).
use Rattle.std.specs.Prelude.{ℕ, ◌||◌, List, Option, None, Some, IsFalse}
use Rattle.tm_table.specs.State.{Hart}
use Rattle.tm_plan_cases.specs.declared.program.Program.{Program}
use Rattle.tm_plan_cases.specs.Shaped.{IsProgram, IsTyped}
use Rattle.tm_world.specs.Place.{is_text, is_table}
use Rattle.tm_world.specs.Run.{Step, Always, now, access_of, Writes}
use Rattle.tm_world.specs.Kinds.{stream_at}
use Rattle.tm_world.specs.Course.{OnHalf, KeepsOrder, EntersFresh}
use Rattle.tm_world.specs.Whole.{Laid}

-- A program that the calls of the workspace take, with what the types of its parts give, whose text has its marks and
-- streams where they belong.
pub record Formed (p : Program) : Type 0 where
  pub program : IsProgram p
  pub typed : IsTyped p
  pub laid : Laid p

-- a step outside streams writes no byte of text or tables
abbrev pub OutsideSpares : Program → Option ℕ → Step → Type 0
OutsideSpares p None s = Writes (λ b. IsFalse (is_text p b || is_table p b)) (access_of s)
OutsideSpares p (Some c) s = Unit {0}

-- Outside streams the hart writes no byte of text or tables.
abbrev pub SparesImage : Program → ℕ → Hart → List Step → Type 0
SparesImage p h first = Always (λ past s. OutsideSpares p (stream_at p h (now first past).pc) s)

-- On half runs hart h comes to its marks in order, enters its streams with fresh registers, and spares text and tables.
pub record Tame (p : Program) (h : ℕ) : Type 0 where
  pub order : OnHalf p h (KeepsOrder p h)
  pub fresh : OnHalf p h (EntersFresh p h)
  pub spares : OnHalf p h (SparesImage p h)
