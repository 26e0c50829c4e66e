-- The marks that a hart's runs come to, and the parts that a way is made of (this project's own).
use Rattle.std.specs.Prelude.{◌≡◌, ℕ, ◌≤◌, List, [], ◌∷◌, ◌++◌}
use Rattle.tm_world.specs.Marks.{Mark}
use Rattle.tm_runs.specs.Machine.{World, State, Entry}
use Rattle.tm_runs.specs.Runs.{KeepsUntil}

-- the marks that steps come to, the first of them first, where a step from one address to another comes to some
abbrev pub trail : (ℕ → ℕ → List Mark) → List Entry → List Mark
trail arrive [] = []
trail arrive (e ∷ es) = trail arrive es ++ arrive e.pc e.next

-- some of these marks were come to after those
pub record Grows (before ms after : List Mark) : Type 0 where
  pub done : List Mark
  pub left : List Mark
  pub sum : done ++ left ≡ ms
  pub is : after ≡ before ++ done

-- From P every run comes to these marks, in this order, and then to Q, if it goes on.
pub record Part (w : World) (arrive : ℕ → ℕ → List Mark) (P : State → Type 0) (ms : List Mark) (Q : State
    → Type 0) : Type 0 where
  pub keeps : (s : State) → P s → KeepsUntil w (λ t. Grows (trail arrive s.log) ms (trail arrive t.log)) (λ t. Q t
      × (trail arrive t.log ≡ trail arrive s.log ++ ms)) s

-- F holds of each entry of a log and of what stands before it.
abbrev pub Story : (List Entry → Entry → Type 0) → List Entry → Type 0
Story F [] = Unit {0}
Story F (e ∷ past) = F past e × Story F past

-- What a log tells so far: the marks that were come to; a fact of each entry and of what was before it; and how large
-- it is by a measure, at most.
pub record Sofar (arrive : ℕ → ℕ → List Mark) (F : List Entry → Entry → Type 0) (size : List Entry
    → ℕ) (ms : List Mark) (n : ℕ) (log : List Entry) : Type 0 where
  pub way : trail arrive log ≡ ms
  pub story : Story F log
  pub few : size log ≤ n

-- The same of some front of a way, with a bound on the measure.
pub record Good (arrive : ℕ → ℕ → List Mark) (F : List Entry → Entry → Type 0) (size : List Entry
    → ℕ) (way : List Mark) (most : ℕ) (log : List Entry) : Type 0 where
  pub marks : List Mark
  pub rest : List Mark
  pub front : way ≡ marks ++ rest
  pub sofar : Sofar arrive F size marks most log

-- An entry that comes to no mark, and of which F holds whatever was before it.
pub record Calm (arrive : ℕ → ℕ → List Mark) (F : List Entry → Entry → Type 0) (e : Entry) : Type 0 where
  pub mark : arrive e.pc e.next ≡ []
  pub fact : (past : List Entry) → F past e
