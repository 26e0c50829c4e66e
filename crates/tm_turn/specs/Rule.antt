-- The rule of a line's table: what its words, its slot and its seats are at any time (this project's own).
use Rattle.std.specs.Prelude.{◌≡◌, ℕ, ◌+◌, ◌%◌, ◌^◌, ◌<◌, ◌≤◌, true, false, List, [], ◌∷◌, length, Option, Some}
use mathlib.Core.Option.{some, none}
use mathlib.Core.Option as maybe
use lib.ListN.{get_elem?}
use Rattle.atomic_table.specs.Table.{State}
use Rattle.tm_turn.specs.declared.table.View.{View}
use Rattle.tm_turn.specs.declared.table.Facts.{Facts}
use Rattle.tm_turn.specs.History.{made_by, BeginsWith, HasNoneFrom}
use Rattle.tm_turn.specs.Views.{tickets_of}

-- The history bears out what a seat knows: it begins with what the seat has seen, its entries of the seat's number are
-- the seat's own, and it is at least as long as the greatest count that the seat has read.
abbrev pub BearsOut : {E : Type 0} → (maker : E → ℕ) → (history : List E) → Facts E → Type 0
BearsOut maker history f =
    BeginsWith history f.seen × (made_by maker f.number history ≡ f.mine) × (f.counted ≤ length history)

module _ {E F : Type 0} where
  -- The seat in this place was joined into another.
  abbrev pub IsGone : (views : List (View E F)) (place : ℕ) → Type 0
  IsGone views place = (u : View E F) → get_elem? views place ≡ some u → u.live ≡ false

  -- What the rule says of the view v in the place j. The tickets below drawn were drawn, and it is the turn of the
  -- ticket served.
  pub record Knows
      (maker : E → ℕ) (fixed : F) (drawn served : ℕ) (history : List E) (views : List (View E F)) (j : ℕ)
      (v : View E F) : Type 0 where
    -- its number is its place
    pub place : v.live ≡ true → (v.number ≡ j) × (v.fixed ≡ Some fixed)
    -- its ticket was drawn, and its turn isn't over
    pub waits : (t : ℕ) → v.ticket ≡ Some t → (served ≤ t) × (t < drawn)
    -- where it is inside, it is its turn, and nobody else adds to the history
    pub turn : v.inside ≡ true → (v.live ≡ true) × (v.ticket ≡ Some served) × (v.seen ≡ history)
    -- the one that gives numbers is the first, and every seat's number was given
    pub giver : 0 < v.given → (j ≡ 0) × (v.given ≡ length views)
    pub begins : BeginsWith history v.seen
    pub own : v.live ≡ true → made_by maker j history ≡ v.mine
    pub counted : v.counted ≤ length history
    -- what it knows of seats that were joined into it still holds
    pub gone : (k : ℕ) (f : Facts E) → get_elem? v.joined k ≡ some f
        → (f.number < length views) × IsGone views f.number × BearsOut maker history f

  -- What every seat but the first knew was told to this one.
  abbrev pub KnowsAll : View E F → Type 0
  KnowsAll v = (j : ℕ) → 0 < j → j < v.given
      → (k : ℕ) × (f : Facts E) × (get_elem? v.joined k ≡ some f) × (f.number ≡ j)

  -- No seat is inside.
  abbrev pub NobodyIsInside : List (View E F) → Type 0
  NobodyIsInside views = (j : ℕ) (v : View E F) → get_elem? views j ≡ some v → v.inside ≡ false

module _ {T E F : Type 0} (maker : E → ℕ) (history : T → List E) (fixed_of : T → F) (fixed : F) where
  -- The slot is out and a seat is inside; or it is at home with the value, and nobody is inside.
  abbrev pub IsSlot : (log : List E) (views : List (View E F)) → maybe.Option (Option T) → Type 0
  IsSlot log views none = (j : ℕ) × (v : View E F) × (get_elem? views j ≡ some v) × (v.inside ≡ true)
  IsSlot log views (some y) =
      (x : T) × (y ≡ Some x) × (fixed_of x ≡ fixed) × (history x ≡ log) × NobodyIsInside views

  -- The rule: so many tickets were drawn, it is the turn of the ticket served, the log is the history with what the
  -- seat that is inside has recorded, and the slot is at home or out.
  pub record IsQueued (s : State (Option T) (View E F)) : Type 0 where
    pub drawn : ℕ
    pub served : ℕ
    pub log : List E
    pub home : maybe.Option (Option T)
    pub words : s.words ≡ drawn % 2 ^ 64 ∷ served % 2 ^ 64 ∷ length log ∷ []
    pub homes : s.homes ≡ home ∷ []
    pub slot : IsSlot log s.views home
    -- so few that two tickets which are out differ modulo 2 ^ 64
    pub few : length s.views ≤ 2 ^ 32
    -- each ticket from served up to drawn is out with a seat
    pub out : served + tickets_of s.views ≡ drawn
    pub small : length log < 2 ^ 64
    -- a number that wasn't given has no entry
    pub strangers : HasNoneFrom maker (length s.views) log
    pub each : (j : ℕ) (v : View E F) → get_elem? s.views j ≡ some v
        → Knows maker fixed drawn served log s.views j v
    -- no two seats have one ticket
    pub apart : (i j : ℕ) (v w : View E F) (t : ℕ) → get_elem? s.views i ≡ some v → get_elem? s.views j ≡ some w
        → v.ticket ≡ Some t → w.ticket ≡ Some t → i ≡ j
