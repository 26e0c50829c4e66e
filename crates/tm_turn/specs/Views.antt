-- What the seats at a line's table know, and how it changes (this project's own).
use Rattle.std.specs.Prelude.{ℕ, ◌+◌, true, false, List, [], ◌∷◌, ◌++◌, Option, Some, None}
use Rattle.tm_turn.specs.declared.table.View.{View}
use Rattle.tm_turn.specs.declared.table.Facts.{Facts}

-- How many tickets a seat has, none or one.
abbrev pub ticket_count : Option ℕ → ℕ
ticket_count None = 0
ticket_count (Some t) = 1

module _ {E F : Type 0} where
  -- How many tickets all seats have.
  abbrev pub tickets_of : List (View E F) → ℕ
  tickets_of [] = 0
  tickets_of (v ∷ vs) = ticket_count v.ticket + tickets_of vs

  -- A seat that isn't inside and has neither seen nor made an entry.
  abbrev pub fresh_view : Option F → (number seats given : ℕ) → View E F
  fresh_view fixed number seats given = record {
    live = true;
    number = number;
    seats = seats;
    given = given;
    ticket = None;
    inside = false;
    seen = [];
    mine = [];
    counted = 0;
    fixed = fixed;
    joined = [];
  }

  -- The first seat of a line. It has given its own number.
  abbrev pub first_view : F → (seats : ℕ) → View E F
  first_view fixed seats = fresh_view (Some fixed) 0 seats 1

  -- The seat, once it has given the next number.
  abbrev pub after_giving : View E F → View E F
  after_giving v = record v { given = v.given + 1 }

  -- The seat to which it gives that number.
  abbrev pub given_view : View E F → View E F
  given_view v = fresh_view v.fixed v.given v.seats 0

  -- A seat that was joined into another.
  abbrev pub spent_view : View E F
  spent_view = record {
    live = false;
    number = 0;
    seats = 0;
    given = 0;
    ticket = None;
    inside = false;
    seen = [];
    mine = [];
    counted = 0;
    fixed = None;
    joined = [];
  }

  -- What a seat knows of the history.
  abbrev pub facts_of : View E F → Facts E
  facts_of v = record { number = v.number; seen = v.seen; mine = v.mine; counted = v.counted }

  -- The seat, once it has been told what another knew.
  abbrev pub with_facts : View E F → Facts E → View E F
  with_facts v f = record v { joined = v.joined ++ f ∷ [] }

  -- The seat v, once the seat w was joined into it.
  abbrev pub joined_view : (v w : View E F) → View E F
  joined_view v w = with_facts v (facts_of w)

  -- The seat, once it has recorded these entries as its own.
  abbrev pub recorded : View E F → (news : List E) → View E F
  recorded v news = record v { seen = v.seen ++ news; mine = v.mine ++ news }
