-- Bytes that were read, and what was owed.
use Rattle.std.proofs.Common.{◌≡◌, ◌≢◌, ℕ, zero, suc, ◌+◌, ◌-◌, ◌*◌, ◌/◌, ◌%◌, ◌^◌, ◌<◌, ◌≤◌, List, Option, None, Some}
use Rattle.std.proofs.Common.{refl, sym, ap, ◌∙◌, subst, arith}
use Rattle.std.specs.Prelude.{IfSome, MatchOption, unwrap_or}
use Rattle.tm_table.specs.declared.state.Access.{Access}
use Rattle.tm_table.specs.declared.state.Access.TheVariants.{Quiet, Read, Write}
use Rattle.tm_plan_cases.specs.declared.program.Program.{Program}
use Rattle.tm_plan_cases.specs.declared.event.Event.{Event}
use Rattle.tm_ram.specs.Region.{Region}
use Rattle.tm_runs.proofs.Bytes.{byte-shift}
use Rattle.tm_world.specs.Place.{byte_of, image_byte}
use Rattle.tm_world.specs.Run.{Step, Reads, last_write}
use Rattle.tm_world.specs.Kinds.{IsPossible, plain_owed}
use Rattle.tm_guest.specs.Memory.{owed_of, byte_at}
use Rattle.tm_guest.specs.Fields.{IsMemory}
use Rattle.tm_judge.specs.declared.answers.Why.{Why}
use Rattle.tm_judge.specs.declared.answers.Why.TheVariants.{AfterHalt, Pc, Word, Stuck, Early, Byte}
use Rattle.tm_judge.specs.declared.answers.Why.TheVariants as whys
use Rattle.tm_judge.specs.Causes.{OfPath, OfPlain, Goes, Holds, IsFirst, Found, ReadsWrong, rank}
use Rattle.tm_judge.specs.Rows.{IsWrong}
use Rattle.tm_judge.proofs.Deciding.{none-stray}

-- ---- what is owed alike

-- two views of what is owed agree on the bytes of an access
abbrev pub AgreeOn : (ℕ → Option ℕ) → (ℕ → Option ℕ) → Access → Type 0
AgreeOn f g (Read addr width value) = (i : ℕ) → i < width → f (addr + i) ≡ g (addr + i)
AgreeOn f g Quiet = Unit {0}
AgreeOn f g (Write addr width value) = Unit {0}

pub reads-agree : (f g : ℕ → Option ℕ) (a : Access) → AgreeOn f g a → Reads f a → Reads g a
reads-agree f g Quiet s r = tt
reads-agree f g (Write addr width value) s r = tt
reads-agree f g (Read addr width value) s r =
    λ i l. subst (λ (o : Option ℕ). IfSome o (λ b. byte_of value i ≡ b)) (s i l) (r i l)

pub wrong-agree : (f g : ℕ → Option ℕ) (a : Access) (addr held : ℕ) → AgreeOn f g a → ReadsWrong f a addr held
    → ReadsWrong g a addr held
wrong-agree f g Quiet addr held s w = w
wrong-agree f g (Write from width value) addr held s w = w
wrong-agree f g (Read from width value) addr held s w =
    let (i, l, at, is, ne, before) = w in
    let same : f addr ≡ g addr = ap f at ∙ (s i l ∙ ap g (sym at)) in (
      i,
      l,
      at,
      sym same ∙ is,
      ne,
      λ j m. subst (λ (o : Option ℕ). IfSome o (λ b. byte_of value j ≡ b)) (s j (omega (arith, l, m))) (before j m),
    )

-- memory's bytes are what is owed on a plain run
memory-agrees : (p : Program) (past : List Step) (r : Region) (a : Access) → IsMemory p past r → IsPossible a
    → AgreeOn (owed_of r) (plain_owed p past) a
memory-agrees p past r Quiet m q = tt
memory-agrees p past r (Write addr width value) m q = tt
memory-agrees p past r (Read addr width value) m q =
    λ i l. ap (λ (b : ℕ). Some b) (m.bytes (addr + i) (omega (arith, q.1)) (omega (arith, q.2, l)))

pub plain-found : (p : Program) (past : List Step) (r : Region) (e : Event) (fault : Option Why) → IsMemory p past r
    → Goes OfPath p past e
    → MatchOption fault (Reads (owed_of r) e.access) (λ why. IsWrong (owed_of r) e.access why)
    → Found OfPlain p past e fault
plain-found p past r e fault m f h = by fault h
  where
    agrees : AgreeOn (owed_of r) (plain_owed p past) e.access
    agrees = memory-agrees p past r e.access m f.possible

    first : (addr held : ℕ) (w : Why) → rank w < 7 → ¬ Holds OfPlain p past e w
    first addr held AfterHalt l = none-stray OfPlain p past e AfterHalt (omega arith) f
    first addr held (Pc x) l = none-stray OfPlain p past e (Pc x) (omega arith) f
    first addr held (Word x) l = none-stray OfPlain p past e (Word x) (omega arith) f
    first addr held Stuck l = none-stray OfPlain p past e Stuck (omega arith) f
    first addr held whys.Step l = none-stray OfPlain p past e whys.Step (omega arith) f
    first addr held (Early g) l = λ z. z
    first addr held (Byte a b) l = absurd (omega (arith, l))

    wrong : (why : Why) → IsWrong (owed_of r) e.access why → IsFirst OfPlain p past e why
    wrong (Byte addr held) w = record {
      holds = wrong-agree (owed_of r) (plain_owed p past) e.access addr held agrees w;
      first = first addr held;
    }
    wrong AfterHalt w = absurd w
    wrong (Pc x) w = absurd w
    wrong (Word x) w = absurd w
    wrong Stuck w = absurd w
    wrong whys.Step w = absurd w
    wrong (Early g) w = absurd w

    by : (o : Option Why) → MatchOption o (Reads (owed_of r) e.access) (λ why. IsWrong (owed_of r) e.access why)
        → Found OfPlain p past e o
    by None k = (f, reads-agree (owed_of r) (plain_owed p past) e.access agrees k)
    by (Some why) k = wrong why k

-- ---- the bytes of a value, one after another

-- rest holds the bytes of value from byte i on
abbrev pub IsRest : ℕ → ℕ → ℕ → Type 0
IsRest value i rest = (j : ℕ) → byte_of rest j ≡ byte_of value (i + j)

pub rest-more : (value i rest : ℕ) → IsRest value i rest → IsRest value (i + 1) (rest / 256)
rest-more value i rest h j =
    let at : i + suc j ≡ i + 1 + j = omega arith in
    sym (byte-shift rest j) ∙ (h (suc j) ∙ ap (byte_of value) at)

pub rest-byte : (value i rest : ℕ) → IsRest value i rest → byte_of value i ≡ rest % 256
rest-byte value i rest h =
    let at : i + 0 ≡ i = omega arith in
    let low : byte_of rest 0 ≡ rest % 256 = omega arith in
    sym (h 0 ∙ ap (byte_of value) at) ∙ low

-- what is owed to a byte that was read, told of an equal one
pub some-same : (o w : Option ℕ) (a b : ℕ) → o ≡ w → b ≡ a → IfSome o (λ (x : ℕ). a ≡ x) → IfSome w (λ (x : ℕ). b ≡ x)
some-same o w a b e s h =
    subst (λ (r : Option ℕ). IfSome r (λ (x : ℕ). b ≡ x)) e (subst (λ (n : ℕ). IfSome o (λ (x : ℕ). n ≡ x)) (sym s) h)
