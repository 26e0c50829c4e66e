-- What depends on a race, by trails (this project's own). Dependence goes by names: `xor x7, x6, x6` depends on x6.
use Rattle.std.specs.Prelude.{ℕ, suc, List, [], ◌∷◌, Contains}
use Rattle.tm_world.specs.Slots.{Slot, Reads, Writes, Races, Jumps, Decides, Covers, SurelyOverwrites}

-- What a trail may say.
pub data Fact : Type 0 where
  -- resource r, before slot j
  At : (r j : ℕ) → Fact
  -- slot i is steered: which way it goes, or whether it is made at all, may differ
  Steered : (i : ℕ) → Fact

-- The fact follows by one of six rules from known ones:
pub data Follows (stream : ℕ → Slot) (Known : Fact → Type 0) : Fact → Type 0 where
  -- slot i loads a byte with another may-writer, and writes r
  raced : (i r : ℕ) → Races stream i → Writes stream i r → Follows stream Known (At r (suc i))
  -- slot i reads a dependent resource, and writes r
  passed : (i r s : ℕ) → Known (At s i) → Reads stream i s → Writes stream i r → Follows stream Known (At r (suc i))
  -- a steered slot covers slot i, which writes r
  missed : (i r k : ℕ) → Known (Steered k) → Covers stream k i → Writes stream i r → Follows stream Known (At r (suc i))
  -- slot i doesn't surely overwrite the dependent r
  kept : (i r : ℕ) → Known (At r i) → (SurelyOverwrites stream i r → ⊥) → Follows stream Known (At r (suc i))
  -- slot i is a branch that reads a dependent resource
  turned : (i s : ℕ) → Known (At s i) → Decides stream i → Reads stream i s → Follows stream Known (Steered i)
  -- a steered slot covers slot i, which is a branch or JAL
  nested : (i k t : ℕ) → Known (Steered k) → Covers stream k i → Jumps stream i t → Follows stream Known (Steered i)

-- A trail: each fact of the list, of which the latest stands first, follows from facts before it.
abbrev pub IsTrail : (ℕ → Slot) → List Fact → Type 0
IsTrail stream [] = Unit {0}
IsTrail stream (fact ∷ before) = Follows stream (Contains before) fact × IsTrail stream before

-- Some trail has the fact.
abbrev pub Derived : (ℕ → Slot) → Fact → Type 0
Derived stream fact = (trail : List Fact) × IsTrail stream trail × Contains trail fact

-- Resource r is race-dependent after slot j - 1.
abbrev pub RaceDependent : (ℕ → Slot) → ℕ → ℕ → Type 0
RaceDependent stream r j = Derived stream (At r j)
