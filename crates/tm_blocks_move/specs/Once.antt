-- That each dword which a hart collects is read once, at each step of collecting (this project's own).
use Rattle.std.specs.Prelude.{◌≡◌, ℕ, ◌+◌, ◌*◌, ◌%◌, ◌^◌, ◌<◌, ◌≤◌, List, [], ◌∷◌, ◌++◌, length, true, false, IsTrue}
use Rattle.std.specs.Prelude.{Some}
use Rattle.tm_table.specs.declared.instr.Instr.{Instr}
use Rattle.tm_table.specs.declared.state.Access.{Access}
use Rattle.tm_table.specs.declared.state.Access.TheVariants.{Read}
use Rattle.tm_plan_cases.specs.declared.cases.Cases.{Cases}
use Rattle.tm_plan_map.specs.Map.{windows_base}
use Rattle.tm_plan_cases.specs.Shaped.{AreShaped}
use Rattle.tm_plan_cases.specs.Collected.{owned}
use Rattle.tm_base.specs.Lists.{any}
use Rattle.tm_world.specs.Course.{reads_in}
use Rattle.tm_runs.specs.Machine.{World, State, Entry, get}
use Rattle.tm_runs.specs.Runs.{Takes, At}
use Rattle.tm_blocks_base.specs.Laws.{accesses}
use Rattle.tm_blocks_move.specs.Laws.{Movable, EachMove, Among}
use Rattle.tm_blocks_move.specs.Lines.{collect_all}
use Rattle.tm_blocks_move.specs.Runs.{HasDone, all_collected}

-- An access to one of these dwords reads it with width 8, and nothing behind it read it.
abbrev pub FirstTime : List ℕ → List Access → Access → Type 0
FirstTime dwords past x = (a : ℕ) → Among a dwords → reads_in a 8 x ≡ true
    → ((v : ℕ) × (x ≡ Read a 8 v)) × (any (reads_in a 8) past ≡ false)

-- R holds of each access and of what was before it, with `base` behind them all
abbrev pub PastOn : (List Access → Access → Type 0) → (base : List Access) → List Access → Type 0
PastOn R base [] = Unit {0}
PastOn R base (x ∷ xs) = R (xs ++ base) x × PastOn R base xs

-- of what was done since s, each access to a dword that hart h collects reads it for the first time
abbrev pub ReadOnce : Cases → (h : ℕ) → State → List Entry → Type 0
ReadOnce cases h s log = (es : List Entry) → log ≡ es ++ s.log → PastOn (FirstTime (owned cases h)) [] (accesses es)

-- Where registers and what reads back hold 64 bits, collecting reads each dword that hart h collects once, at each of
-- its steps.
abbrev pub CollectsOnce : Cases → ℕ → Type 0
CollectsOnce cases h = (w : World) (s : State) (b save : ℕ) → ((a : ℕ) (i : Instr) → w.text a ≡ Some i → a + 4 < 2 ^ 64)
    → ((r : ℕ) → get s.regs r < 2 ^ 64) → ((a : ℕ) → IsTrue (w.own a) → s.mem a < 2 ^ 64)
    → AreShaped cases → h < cases.harts → get s.regs 31 ≡ b → get s.regs 9 ≡ save → save < 2 ^ 63 → b % 8 ≡ 0
    → b + 240 ≤ windows_base
    → EachMove (Movable w) (all_collected cases h b save) → At w.text s.pc (collect_all cases h)
    → Takes w (λ t. ReadOnce cases h s t.log) (HasDone w (collect_all cases h) (all_collected cases h b save) s)
    (97 + 4 * length (owned cases h)) s
