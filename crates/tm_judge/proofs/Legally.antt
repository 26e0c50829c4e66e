-- What a legal run owes, of one event more.
use Rattle.std.proofs.Common.{◌≡◌, ◌≢◌, ℕ, ◌<◌, ◌≤◌, List, Option, None, Some, inl, inr, refl, sym, ap, ◌∙◌, subst}
use Rattle.std.proofs.Common.{arith}
use Rattle.std.specs.Prelude.{MatchOption}
use Rattle.std.proofs.lemmas.Bool.{cases_lt}
use Rattle.tm_table.specs.declared.state.Access.{Access}
use Rattle.tm_plan_cases.specs.declared.program.Program.{Program}
use Rattle.tm_plan_cases.specs.declared.event.Event.{Event}
use Rattle.tm_world.specs.Place.{harts}
use Rattle.tm_world.specs.Run.{Step, own, Reads}
use Rattle.tm_world.specs.Kinds.{Met, legal_owed, phase_of, flag_writes}
use Rattle.tm_judge.specs.declared.answers.Why.{Why}
use Rattle.tm_judge.specs.declared.answers.Why.TheVariants.{AfterHalt, Pc, Word, Stuck, Early, Byte}
use Rattle.tm_judge.specs.declared.answers.Why.TheVariants as whys
use Rattle.tm_judge.specs.Recorded.{step_of}
use Rattle.tm_judge.specs.Causes.{OfPath, OfLegal, Goes, Holds, IsFirst, Found, IsMissing, IsLeastMissing, rank}
use Rattle.tm_judge.specs.Rows.{IsWrong}
use Rattle.tm_judge.proofs.Deciding.{none-stray}

module _ (p : Program) (past : List Step) (e : Event) (f : Goes OfPath p past e) where
  -- another hart's flag is missing
  pub early-found : (g : ℕ) → IsLeastMissing p past e.hart g → Found OfLegal p past e (Some (Early g))
  early-found g m = record { holds = m; first = first }
    where
      first : (w : Why) → rank w < 6 → ¬ Holds OfLegal p past e w
      first AfterHalt l = none-stray OfLegal p past e AfterHalt (omega arith) f
      first (Pc x) l = none-stray OfLegal p past e (Pc x) (omega arith) f
      first (Word x) l = none-stray OfLegal p past e (Word x) (omega arith) f
      first Stuck l = none-stray OfLegal p past e Stuck (omega arith) f
      first whys.Step l = none-stray OfLegal p past e whys.Step (omega arith) f
      first (Early k) l = absurd (omega (arith, l))
      first (Byte a b) l = absurd (omega (arith, l))

  -- no flag is missing
  met : ((g : ℕ) → ¬ IsMissing p past e.hart g) → Met p past (step_of past e)
  met none g l n = elim (cases_lt (flag_writes g (own g past)) (phase_of p past e.hart)) [
    | inl m ↦ absurd (none g (l, n, m))
    | inr m ↦ m
  ]

  pub reads-found : (fault : Option Why) → ((g : ℕ) → ¬ IsMissing p past e.hart g)
      → MatchOption fault (Reads (legal_owed p past e.hart (phase_of p past e.hart)) e.access)
      (λ why. IsWrong (legal_owed p past e.hart (phase_of p past e.hart)) e.access why)
      → Found OfLegal p past e fault
  reads-found None none h = (f, met none, h)
  reads-found (Some why) none h = wrong why h
    where
      first : (w : Why) → rank w < 7 → ¬ Holds OfLegal p past e w
      first AfterHalt l = none-stray OfLegal p past e AfterHalt (omega arith) f
      first (Pc x) l = none-stray OfLegal p past e (Pc x) (omega arith) f
      first (Word x) l = none-stray OfLegal p past e (Word x) (omega arith) f
      first Stuck l = none-stray OfLegal p past e Stuck (omega arith) f
      first whys.Step l = none-stray OfLegal p past e whys.Step (omega arith) f
      first (Early k) l = λ m. none k m.0
      first (Byte a b) l = absurd (omega (arith, l))

      wrong : (w : Why) → IsWrong (legal_owed p past e.hart (phase_of p past e.hart)) e.access w
          → IsFirst OfLegal p past e w
      wrong (Byte addr held) k = record { holds = k; first = first }
      wrong AfterHalt k = absurd k
      wrong (Pc x) k = absurd k
      wrong (Word x) k = absurd k
      wrong Stuck k = absurd k
      wrong whys.Step k = absurd k
      wrong (Early g) k = absurd k
