-- What every run of the words does that set and collect shared memory, told over the list of the dwords that a hart
-- collects (this project's own).
use Rattle.std.specs.Prelude.{◌≡◌, ℕ, ◌+◌, ◌*◌, ◌%◌, ◌^◌, ◌<◌, ◌≤◌, ◌⊎◌, List, [], ◌∷◌, ◌++◌, length}
use Rattle.tm_table.specs.declared.instr.Instr.{Instr}
use Rattle.tm_table.specs.declared.state.Access.{Access}
use Rattle.tm_plan_cases.specs.declared.cases.Cases.{Cases}
use Rattle.tm_plan_cases.specs.declared.program.Program.{Program}
use Rattle.tm_plan_map.specs.Map.{guest_base, guest_end, windows_size, private_at, save_at}
use Rattle.tm_plan_cases.specs.Shaped.{AreShaped}
use Rattle.tm_plan_cases.specs.Collected.{owned}
use Rattle.tm_runs.specs.Machine.{World, State, get}
use Rattle.tm_runs.specs.Runs.{Takes, At, Within}
use Rattle.tm_runs.specs.World.{Sizes, world_of}
use Rattle.tm_blocks_base.specs.Laws.{Uses}
use Rattle.tm_blocks_move.specs.Laws.{Move, Movable, EachMove, HasMoved, line_moves}
use Rattle.tm_blocks_move.specs.Lines.{first_bytes, collect_all, set_moves, collect_moves}

-- the move is one of the list
abbrev pub In : Move → List Move → Type 0
In m [] = ⊥
In m (k ∷ ks) = (m ≡ k) ⊎ In m ks

-- no access, or one of these moves'
abbrev pub UsesMoves : List Move → Access → Type 0
UsesMoves ms = Uses (λ a. (m : Move) × In m ms × (m.0 ≡ a)) (λ a. (m : Move) × In m ms × (m.1 ≡ a))

-- the run is behind these words, and has made these moves
pub record HasDone (w : World) (code : List Instr) (ms : List Move) (s t : State) : Type 0 where
  pub pc : t.pc ≡ s.pc + 4 * length code
  pub moved : HasMoved w ms s t

-- Each declared dword that hart h collects is written once, in address order, with what stands as far from `from`.
abbrev pub FirstBytesRuns : Cases → (h from : ℕ) → Type 0
FirstBytesRuns cases h from = (w : World) (s : State) → AreShaped cases → h < cases.harts → from < 2 ^ 63
    → EachMove (Movable w) (set_moves from (owned cases h)) → At w.text s.pc (first_bytes cases h from)
    → Takes w (Within s.pc (s.pc + 4 * length (first_bytes cases h from)) (UsesMoves (set_moves from (owned cases h))))
    (HasDone w (first_bytes cases h from) (set_moves from (owned cases h)) s) (69 + 4 * length (owned cases h)) s

-- what is moved by collecting: the 30 dwords at b, and then the declared dwords that hart h collects, in address order
abbrev pub all_collected : Cases → (h b save : ℕ) → List Move
all_collected cases h b save = line_moves b save 30 ++ collect_moves (owned cases h) (save + 240)

-- Each of them is read once, and goes to its place from save on.
abbrev pub CollectAllRuns : Cases → ℕ → Type 0
CollectAllRuns cases h = (w : World) (s : State) (b save : ℕ) → AreShaped cases → h < cases.harts → get s.regs 31 ≡ b
    → get s.regs 9 ≡ save → save < 2 ^ 63 → EachMove (Movable w) (all_collected cases h b save)
    → At w.text s.pc (collect_all cases h)
    → Takes w (Within s.pc (s.pc + 4 * length (collect_all cases h)) (UsesMoves (all_collected cases h b save)))
    (HasDone w (collect_all cases h) (all_collected cases h b save) s) (97 + 4 * length (owned cases h)) s

-- In the world of a program's hart these moves may be made: the first values of the windows stand anywhere in the
-- guest's memory outside the windows, and a save area is one of the hart's.
pub record MovesFit (p : Program) (h : ℕ) : Type 0 where
  pub first : (from : ℕ) → from % 8 ≡ 0 → guest_base ≤ from → from + windows_size ≤ guest_end
      → EachMove (Movable (world_of p h)) (set_moves from (owned p.cases h))
  pub collect : (k : ℕ) → k < 8
      → EachMove (Movable (world_of p h)) (all_collected p.cases h (private_at h) (save_at h k))

-- in a program of the stated sizes all moves of hart h can be made
abbrev pub FitsIn : Program → ℕ → Type 0
FitsIn p h = Sizes p → AreShaped p.cases → h < p.cases.harts → MovesFit p h
