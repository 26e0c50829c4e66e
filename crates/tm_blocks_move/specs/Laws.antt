-- What moving dwords does, told of a list of moves (this project's own). A move is an address that is read and one
-- that is written.
use Rattle.std.specs.Prelude.{◌≡◌, ◌≢◌, ◌⊎◌, ℕ, zero, suc, ◌+◌, ◌*◌, ◌^◌, ◌<◌, List, [], ◌∷◌, ◌++◌, false, IsTrue, map}
use Rattle.tm_table.specs.declared.state.Access.{Access}
use Rattle.tm_table.specs.declared.state.Access.TheVariants.{Read, Write}
use Rattle.tm_base.specs.Lists.{count_from}
use Rattle.tm_runs.specs.Machine.{Table, State, World, put, get, MayAccess}
use Rattle.tm_blocks_base.specs.Laws.{RegistersFit, accesses}

-- a move: the address that is read, and the one that is written
abbrev pub Move : Type 0
Move = ℕ × ℕ

-- memory after these values were written, each by its move
abbrev pub moved_memory : Table → List Move → List ℕ → Table
moved_memory mem [] vs = mem
moved_memory mem (m ∷ ms) [] = mem
moved_memory mem (m ∷ ms) (v ∷ vs) = moved_memory (put mem m.1 v) ms vs

-- the accesses of these moves, the newest first: each read is followed by its write
abbrev pub moved_accesses : List Move → List ℕ → List Access
moved_accesses [] vs = []
moved_accesses (m ∷ ms) [] = []
moved_accesses (m ∷ ms) (v ∷ vs) = moved_accesses ms vs ++ Write m.1 8 v ∷ Read m.0 8 v ∷ []

-- These values were read, one for each move: what the memory had by then where it reads back, and anything elsewhere.
abbrev pub Moves : World → Table → List Move → List ℕ → Type 0
Moves w mem [] [] = Unit {0}
Moves w mem [] (v ∷ vs) = ⊥
Moves w mem (m ∷ ms) [] = ⊥
Moves w mem (m ∷ ms) (v ∷ vs) = (v < 2 ^ 64) × (IsTrue (w.own m.0) → v ≡ mem m.0) × Moves w (put mem m.1 v) ms vs

-- P holds of each move
abbrev pub EachMove : (Move → Type 0) → List Move → Type 0
EachMove P [] = Unit {0}
EachMove P (m ∷ ms) = P m × EachMove P ms

-- A move that may be made: what is written can be changed.
pub record Movable (w : World) (m : Move) : Type 0 where
  pub read : MayAccess w m.0
  pub read_low : m.0 < 2 ^ 64
  pub write : MayAccess w m.1
  pub write_low : m.1 < 2 ^ 64
  pub free : w.fixed m.1 ≡ false

-- All these moves were made, in order, by x1 to x4 alone.
pub record HasMoved (w : World) (ms : List Move) (s t : State) : Type 0 where
  pub values : List ℕ
  pub moves : Moves w s.mem ms values
  pub mem : t.mem ≡ moved_memory s.mem ms values
  pub accesses : accesses t.log ≡ moved_accesses ms values ++ accesses s.log
  pub regs : (r : ℕ) → r ≢ 1 → r ≢ 2 → r ≢ 3 → r ≢ 4 → get t.regs r ≡ get s.regs r
  pub fits : RegistersFit s → RegistersFit t

-- ---- lines

-- n dwords from one address on to another
abbrev pub line_moves : (p q n : ℕ) → List Move
line_moves p q n = map (λ i. (p + 8 * i, q + 8 * i)) (count_from 0 n)

-- k lines of n dwords, the next a and b bytes on
abbrev pub lines_moves : (p q n a b k : ℕ) → List Move
lines_moves p q n a b zero = []
lines_moves p q n a b (suc k) = line_moves p q n ++ lines_moves (p + a) (q + b) n a b k

-- a dword is in a list
abbrev pub Among : ℕ → List ℕ → Type 0
Among x [] = ⊥
Among x (y ∷ ys) = (x ≡ y) ⊎ Among x ys
