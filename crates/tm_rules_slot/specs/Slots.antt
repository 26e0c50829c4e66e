-- The rules of one slot of a body (this project's own). A rule of a statement is a check: the fault where it is broken.
use Rattle.std.specs.Prelude.{ℕ, ◌+◌, ◌-◌, ◌*◌, ◌/◌, ◌%◌, ◌==◌, nat_le, nat_lt, Bool, false, ◌&&◌, ◌||◌, not}
use Rattle.std.specs.Prelude.{ℤ, pos, negsuc, List, [], ◌∷◌, ◌++◌, find, get_or, Option, Some, None, option_map}
use Rattle.std.specs.Prelude.{is_some, Result, Ok, Err, if◌then◌else◌}
use Rattle.std.specs.List.{list_any}
use Rattle.tm_table.specs.declared.instr.Op.{Op}
use Rattle.tm_table.specs.declared.instr.Instr.{Instr}
use Rattle.tm_asm_line.specs.declared.fault.AsmFault.{AsmFault}
use Rattle.tm_asm_line.specs.Reading.{line_of}
use Rattle.tm_topo.specs.declared.system.Topology.{Topology}
use Rattle.tm_tmpl_types.specs.declared.template.Selector.{Selector}
use Rattle.tm_plan_map.specs.declared.windows.Window.{Window}
use Rattle.tm_base.specs.declared.limits.TheConstants.{MOST_WEIGHTS}
use Rattle.tm_plan_map.specs.Map.{window_at, within}
use Rattle.tm_plan_map.specs.Slots.{is_access, is_barred, is_product, is_jump, load_width, store_width, slot_addr}
use Rattle.tm_place.specs.Allowed.{may_store_at, may_load_at}
use Rattle.tm_refusals.specs.declared.rule.RuleFault.{RuleFault}
use Rattle.tm_refusals.specs.declared.rule.RuleFault.TheVariants.{NoWindow, Register, Asm, NotAllowed, BadPlace}
use Rattle.tm_refusals.specs.declared.rule.RuleFault.TheVariants.{NotOwner, Target, NoWeight}
use Rattle.tm_rules_slot.specs.Teams.{harts_of, team}

-- ---- checks

-- the first rule that is broken
abbrev pub first : List (Option RuleFault) → Option RuleFault
first [] = None
first (None ∷ more) = first more
first (Some fault ∷ more) = Some fault

-- a rule that is broken where a test says so
abbrev pub broken : Bool → RuleFault → Option RuleFault
broken b fault = if b then Some fault else None

-- ---- an instruction as it is written

-- JALR, ECALL and EBREAK have no place in a stream, and images of version 1 have no products
abbrev pub is_refused : Op → Bool
is_refused op = is_barred op || is_product op

-- the op is one that a stream may have
abbrev pub barred : Instr → Option RuleFault
barred i = broken (is_refused i.op) (NotAllowed i.op)

-- a register is one of x0 to x27
abbrev pub within_registers : ℕ → Option RuleFault
within_registers x = broken (nat_lt 27 x) (Register x)

-- whether rs1 may be the instruction's: x28, x29 or x30 for a load or store, one of x0 to x27 for every other op
abbrev pub is_source : Instr → Bool
is_source i = if is_access i.op then nat_le 28 i.rs1 && nat_le i.rs1 30 else nat_le i.rs1 27

-- the register rs1 is one that may stand there
abbrev pub source_fault : Instr → Option RuleFault
source_fault i = broken (not (is_source i)) (Register i.rs1)

-- the number of the window whose base a register holds: 0 of x28, 1 of x29, 2 of x30
abbrev pub base_window : ℕ → ℕ
base_window x = x - 28

-- a load's or store's window is declared
unfoldable pub window_fault : List (Option Window) → Instr → Option RuleFault
window_fault shape i =
    broken (is_access i.op && not (is_some (get_or shape (base_window i.rs1) None))) (NoWindow (base_window i.rs1))

-- whether width bytes at addr are aligned and begin in a declared line of window w, where it is declared
abbrev pub is_placed : (line w width addr : ℕ) → Option Window → Bool
is_placed line w width addr None = false
is_placed line w width addr (Some v) = addr % width == 0 && within (window_at w) (v.lines * line) addr

-- the bytes that a load or store moves
abbrev pub width_of : Instr → ℕ
width_of i = load_width i.op + store_width i.op

-- a load's or store's address is a multiple of its width, in a declared line of its base's window
unfoldable pub place_fault : (line : ℕ) → List (Option Window) → Instr → Option RuleFault
place_fault line shape i =
    broken (is_access i.op
    && not (is_placed line (base_window i.rs1) (width_of i) (slot_addr i) (get_or shape (base_window i.rs1) None)))
    (BadPlace (slot_addr i))

-- whether hart h may make the load or store
unfoldable pub may_access : (harts line part : ℕ) → List (Option Window) → Instr → ℕ → Bool
may_access harts line part shape i h =
    if nat_lt 0 (load_width i.op) then may_load_at harts line part shape h (slot_addr i) (load_width i.op)
    else may_store_at harts line part shape h (slot_addr i) (store_width i.op)

-- each hart of the body may make the load or store; the fault names the least that may not
unfoldable pub owner_fault : (line part : ℕ) → List (Option Window) → Topology → Selector → Instr → Option RuleFault
owner_fault line part shape topo whom i =
    if is_access i.op
    then option_map (λ h. NotOwner h (slot_addr i))
    (find (λ h. not (may_access (harts_of topo) line part shape i h)) (team topo whom))
    else None

-- whether a jump from slot n by an offset in bytes goes to a later slot of len, or to the end
abbrev pub is_forward : (n len : ℕ) → ℤ → Bool
is_forward n len (pos offset) = (offset % 4 == 0 && nat_le 4 offset) && nat_le (n + offset / 4) len
is_forward n len (negsuc k) = false

-- a branch or JAL goes forward
abbrev pub target_fault : (n len : ℕ) → Instr → Option RuleFault
target_fault n len i = broken (is_jump i.op && not (is_forward n len i.imm)) (Target n i.imm)

-- the rules of the registers rd, rs1 and rs2
abbrev pub register_checks : Instr → List (Option RuleFault)
register_checks i = within_registers i.rd ∷ source_fault i ∷ within_registers i.rs2 ∷ []

-- the rules of a load's or store's window, place and harts
abbrev pub access_checks : (line part : ℕ) → List (Option Window) → Topology → Selector → Instr
    → List (Option RuleFault)
access_checks line part shape topo whom i = window_fault shape i ∷ place_fault line shape i
    ∷ owner_fault line part shape topo whom i ∷ []

-- The rules of an instruction in slot n of len: its op, its registers, its window, its place, its harts, its target.
unfoldable pub emit_checks : (line part : ℕ) → List (Option Window) → Topology → Selector → (n len : ℕ) → Instr
    → List (Option RuleFault)
emit_checks line part shape topo whom n len i =
    (barred i ∷ []) ++ register_checks i ++ access_checks line part shape topo whom i ++ (target_fault n len i ∷ [])

-- the fault of a line that was read
abbrev pub fault_of : Result Instr AsmFault → (Instr → Option RuleFault) → Option RuleFault
fault_of (Err e) rules = Some (Asm e)
fault_of (Ok i) rules = rules i

-- The fault of a line in slot n of len: it spells no instruction, or the instruction breaks a rule.
unfoldable pub emit_fault : (line part : ℕ) → List (Option Window) → Topology → Selector → (n len : ℕ) → List ℕ
    → Option RuleFault
emit_fault line part shape topo whom n len text =
    fault_of (line_of text) (λ i. first (emit_checks line part shape topo whom n len i))

-- ---- a slot that is drawn

-- the sum of the four weights is 1 to 1,000,000
abbrev pub weight_fault : ℕ → Option RuleFault
weight_fault sum = broken (not (nat_le 1 sum && nat_le sum MOST_WEIGHTS)) (NoWeight sum)

-- a window is declared where loads or stores have a weight
abbrev pub any_window_fault : List (Option Window) → ℕ → Option RuleFault
any_window_fault shape accesses = broken (nat_lt 0 accesses && not (list_any is_some shape)) (NoWindow 0)

-- The fault of four weights.
unfoldable pub mix_fault : List (Option Window) → (alu load store branch : ℕ) → Option RuleFault
mix_fault shape alu load store branch = first (weight_fault (alu + load + store + branch)
    ∷ any_window_fault shape (load + store) ∷ [])
