-- Histories: whose their entries are, and how one goes on from another (this project's own).
use Rattle.std.specs.Prelude.{◌≡◌, ◌⊎◌, ◌==◌, ◌≤◌, ℕ, if◌then◌else◌, List, [], ◌∷◌, ◌++◌}

module _ {E : Type 0} where
  -- The entries of the seat with this number, in order.
  abbrev pub made_by : (maker : E → ℕ) (number : ℕ) → List E → List E
  made_by maker number [] = []
  made_by maker number (e ∷ es) =
      if maker e == number then e ∷ made_by maker number es else made_by maker number es

  -- The history begins with what was seen.
  abbrev pub BeginsWith : (history seen : List E) → Type 0
  BeginsWith history seen = (rest : List E) × (history ≡ seen ++ rest)

  -- The history is what was seen, or that and then one entry of the seat with this number.
  abbrev pub AddsAtMostOne : (maker : E → ℕ) (number : ℕ) (seen history : List E) → Type 0
  AddsAtMostOne maker number seen history =
      (history ≡ seen) ⊎ ((e : E) × (history ≡ seen ++ e ∷ []) × (maker e ≡ number))

  -- No entry is of a seat with a number from n on.
  abbrev pub HasNoneFrom : (maker : E → ℕ) (n : ℕ) → List E → Type 0
  HasNoneFrom maker n history = (k : ℕ) → n ≤ k → made_by maker k history ≡ []
