-- Lines and their seats, as contracts see them (this project's own).
use Rattle.std.specs.Prelude.{◌≡◌, ◌⊎◌, ℕ, ◌+◌, ◌<◌, ◌≤◌, Bool, true, false, List, [], ◌∷◌, length}
use Rattle.std.specs.Prelude.{Option, Some, None, slice_get}
use mathlib.Core.Option.{some}
use lib.ListN.{get_elem?}
use Rattle.atomic_table.specs.Seated.{TableId}
use Rattle.atomic_table.specs.Table.{Me}
use Rattle.tm_turn.specs.declared.table.View.{View}
use Rattle.tm_turn.specs.declared.table.Facts.{Facts}
use Rattle.tm_turn.specs.History.{made_by, BeginsWith}
use Rattle.tm_turn.specs.Views.{facts_of}

-- A line: which table it has, the fixed part of its value, which every line has, and how many seats it has.
pub record LineId (F : Type 0) : Type 0 where
  pub table : TableId
  pub fixed : Option F
  pub seats : ℕ

-- A seat: its line, its number, whether it is inside, the history as it last saw it, the entries that it made, and the
-- greatest count of entries that it has read.
pub record SeatState (E F : Type 0) : Type 0 where
  pub line : LineId F
  pub number : ℕ
  pub inside : Bool
  pub seen : List E
  pub mine : List E
  pub counted : ℕ

module _ {E F : Type 0} where
  -- A seat of a line that has just started.
  abbrev pub new_seat : (line : LineId F) (number : ℕ) → SeatState E F
  new_seat line number =
      record { line = line; number = number; inside = false; seen = []; mine = []; counted = 0 }

  -- They are seats of a line that has just started, with the numbers from n on, in order.
  abbrev pub AreNew : (line : LineId F) (n : ℕ) → List (SeatState E F) → Type 0
  AreNew line n seats =
      (k : ℕ) (s : SeatState E F) → slice_get seats k ≡ Some s → s ≡ new_seat line (n + k)

  -- They are seats of the line, and none is inside.
  abbrev pub AreOutside : (line : LineId F) → List (SeatState E F) → Type 0
  AreOutside line seats =
      (k : ℕ) (s : SeatState E F) → slice_get seats k ≡ Some s → (s.line ≡ line) × (s.inside ≡ false)

  -- The seat with this number is among them.
  abbrev pub HasNumber : (number : ℕ) → List (SeatState E F) → Type 0
  HasNumber number seats =
      (k : ℕ) × (s : SeatState E F) × (slice_get seats k ≡ Some s) × (s.number ≡ number)

  -- They are all seats of the line, in any order, and none is inside.
  pub record AreAllOutside (line : LineId F) (seats : List (SeatState E F)) : Type 0 where
    pub outside : AreOutside line seats
    pub all : (n : ℕ) → n < line.seats → HasNumber n seats

  -- What the history at the end says of each seat: it begins with what the seat has seen, its entries of the seat's
  -- number are exactly the seat's own, in order, and it has at least as many entries as the seat has read.
  abbrev pub BearsOutAll : (maker : E → ℕ) (history : List E) → List (SeatState E F) → Type 0
  BearsOutAll maker history seats = (k : ℕ) (s : SeatState E F) → slice_get seats k ≡ Some s
      → BeginsWith history s.seen × (made_by maker s.number history ≡ s.mine) × (s.counted ≤ length history)

  -- What contracts see of a seat at a table.
  abbrev pub seat_state : TableId → View E F → SeatState E F
  seat_state table v = record {
    line = record { table = table; fixed = v.fixed; seats = v.seats };
    number = v.number;
    inside = v.inside;
    seen = v.seen;
    mine = v.mine;
    counted = v.counted;
  }

  -- What a seat knows of the history.
  abbrev pub facts_of_seat : SeatState E F → Facts E
  facts_of_seat s = record { number = s.number; seen = s.seen; mine = s.mine; counted = s.counted }

  -- What the seats from the place a on knew was told to the view.
  abbrev pub ToldFrom : (a : ℕ) (v : View E F) → List (SeatState E F) → Type 0
  ToldFrom a v seats = (k : ℕ) (s : SeatState E F) → a ≤ k → slice_get seats k ≡ Some s
      → (i : ℕ) × (get_elem? v.joined i ≡ some (facts_of_seat s))

  -- The first seat, with the view v, was taken out of all, and the rest is left.
  pub record IsFirstOut (line : LineId F) (all rest : List (SeatState E F)) (v : View E F) : Type 0 where
    pub live : v.live ≡ true
    pub outside : v.inside ≡ false
    pub given : v.given ≡ line.seats
    pub joined : v.joined ≡ []
    pub others : AreOutside line rest
    pub rest_has : (n : ℕ) → 0 < n → n < line.seats → HasNumber n rest
    -- each of all is this one, or in the rest
    pub each : (k : ℕ) (s : SeatState E F) → slice_get all k ≡ Some s
        → (facts_of_seat s ≡ facts_of v) ⊎ ((i : ℕ) × (slice_get rest i ≡ Some s))

module _ {T E F : Type 0} (maker : E → ℕ) where
  -- What a seat at the table knows and has between two calls, where this is its number, and where the value had so
  -- many entries when the seat took it.
  pub record IsSeat (number entries : ℕ) (me : Me (Option T) (View E F)) : Type 0 where
    pub live : me.0.live ≡ true
    pub number_is : me.0.number ≡ number
    pub outside : me.0.inside ≡ false → (me.1 ≡ []) × (me.0.ticket ≡ None)
    pub inside : me.0.inside ≡ true → (me.1 ≡ (0, None) ∷ []) × (entries ≡ length me.0.seen)
    pub own : made_by maker number me.0.seen ≡ me.0.mine
    -- the first seat has given every number, and was told nothing yet
    pub first : number ≡ 0 → (me.0.given ≡ me.0.seats) × (me.0.joined ≡ [])
