-- What each step at a line's table tells the seat that makes it: of the seat m before it, the number r that is found,
-- and the seat m' after it (this project's own).
use Rattle.std.specs.Prelude.{◌≡◌, ℕ, ◌%◌, ◌^◌, ◌==◌, ◌<◌, ◌≤◌, max, true, false, List, [], ◌∷◌, length}
use Rattle.std.specs.Prelude.{Option, Some, None, MatchBool}
use Rattle.atomic_table.specs.Table.{Me, Step}
use Rattle.tm_turn.specs.declared.table.View.{View}
use Rattle.tm_turn.specs.History.{made_by, BeginsWith}
use Rattle.tm_turn.specs.Views.{recorded}

module _ {T E F : Type 0} (maker : E → ℕ) (history : T → List E) (fixed_of : T → F) where
  -- What a seat knows, and the slots that are out with it.
  abbrev pub Mine : Type 0
  Mine = Me (Option T) (View E F)

  -- A ticket was drawn. The word is its remainder.
  abbrev pub Draws : Step (Option T) → Mine → ℕ → Mine → Type 0
  Draws st m r m' = (n : ℕ) × (r ≡ n % 2 ^ 64) × (m' ≡ (record m.0 { ticket = Some n }, m.1))

  -- The seat's turn has come, and it has the slot with the value.
  pub record Comes (m m' : Mine) : Type 0 where
    pub value : T
    pub slot : m'.1 ≡ (0, Some value) ∷ []
    pub view_is : m'.0 ≡ record m.0 { inside = true; seen = history value }
    pub fixed_is : m.0.fixed ≡ Some (fixed_of value)
    pub begins : BeginsWith (history value) m.0.seen
    pub own : made_by maker m.0.number (history value) ≡ m.0.mine
    pub counted : m.0.counted ≤ length (history value)
    pub small : length (history value) < 2 ^ 64

  -- The turn has come where the word is the ticket's remainder; else nothing is learned.
  abbrev pub Looks : Step (Option T) → Mine → ℕ → Mine → Type 0
  Looks st m r m' = (n : ℕ) → m.0.ticket ≡ Some n → MatchBool (r == n % 2 ^ 64) (Comes m m') (m' ≡ m)

  -- The seat recorded these entries.
  abbrev pub Records : (news : List E) → Step (Option T) → Mine → ℕ → Mine → Type 0
  Records news st m r m' = m' ≡ (recorded m.0 news, m.1)

  -- The seat is outside, and has no ticket and no slot.
  abbrev pub Passes : Step (Option T) → Mine → ℕ → Mine → Type 0
  Passes st m r m' = m' ≡ (record m.0 { ticket = None; inside = false }, [])

  -- The count was read. It never falls.
  abbrev pub Counts : Step (Option T) → Mine → ℕ → Mine → Type 0
  Counts st m r m' =
      (length m.0.seen ≤ r) × (m.0.counted ≤ r) × (m' ≡ (record m.0 { counted = max m.0.counted r }, m.1))

  -- A seat that isn't inside and holds the ticket with this remainder.
  pub record WaitsFor (ticket : ℕ) (m : Mine) : Type 0 where
    pub number : ℕ
    pub is : ticket ≡ number % 2 ^ 64
    pub live : m.0.live ≡ true
    pub outside : m.0.inside ≡ false
    pub ticket_is : m.0.ticket ≡ Some number
    pub empty : m.1 ≡ []
