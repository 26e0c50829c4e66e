-- One hart as support code sees it: what an instruction does to its registers, to the dwords that it reads back, and
-- to its log (this project's own).
use Rattle.std.specs.Prelude.{◌≡◌, ℕ, zero, suc, ◌+◌, ◌-◌, ◌%◌, ◌^◌, ◌<◌, ◌≤◌, List, ◌∷◌, Bool, false, Option, nat_eq}
use Rattle.std.specs.Prelude.{if◌then◌else◌, ℤ, pos, negsuc, IsTrue}
use Rattle.tm_table.specs.declared.instr.Op.{Op}
use Rattle.tm_table.specs.declared.instr.Op.TheVariants.{Jalr}
use Rattle.tm_table.specs.declared.instr.Instr.{Instr}
use Rattle.tm_table.specs.declared.state.Access.{Access}
use Rattle.tm_table.specs.declared.state.Access.TheVariants.{Quiet, Read, Write}
use Rattle.tm_table.specs.Words.{low, word_of}
use Rattle.tm_table.specs.Row.{Effect, Gives, Loads, Stores, Branches, Jumps, effect}

-- a map from numbers to numbers: registers by number, dwords by address
abbrev pub Table : Type 0
Table = ℕ → ℕ

-- a table with another value at one place
abbrev pub put : Table → ℕ → ℕ → Table
put f r v = λ x. if nat_eq x r then v else f x

-- x0 is 0, whatever was put there (RV64I 2.1)
abbrev pub get : Table → ℕ → ℕ
get f zero = 0
get f (suc r) = f (suc r)

-- where a branch or JAL at an address goes (RV64I 2.1)
abbrev pub target : ℕ → ℤ → ℕ
target pc (pos n) = pc + n
target pc (negsuc n) = pc - suc n

-- What one step did: the program counter before and after it, its word, its access, and the registers after it.
pub record Entry : Type 0 where
  pub pc : ℕ
  pub next : ℕ
  pub word : ℕ
  pub access : Access
  pub regs : Table

-- A hart with its log, of which the latest entry stands first, so that each end value is a function of the log.
pub record State : Type 0 where
  pub pc : ℕ
  pub regs : Table
  pub mem : Table
  pub log : List Entry

-- What a hart runs in: the instructions of its support code by address; which dwords read back what stands in its
-- memory, and which of these no store changes; which dwords may be accessed; the first address of the stream that
-- holds an address, and the address behind its last word; and which bytes a stream may write.
pub record World : Type 0 where
  pub text : ℕ → Option Instr
  pub own : ℕ → Bool
  pub fixed : ℕ → Bool
  pub guest : ℕ → Bool
  pub stream : ℕ → Option (ℕ × ℕ)
  pub window : ℕ → Bool

-- a state after a step with this access
abbrev pub moved : Instr → State → Access → ℕ → Table → Table → State
moved i s access pc regs mem = record {
  pc = pc;
  regs = regs;
  mem = mem;
  log = record { pc = s.pc; next = pc; word = word_of i; access = access; regs = get regs } ∷ s.log;
}

-- a value into rd
abbrev pub computes : Instr → State → ℕ → State
computes i s x = moved i s Quiet (s.pc + 4) (put s.regs i.rd x) s.mem

-- a load of v from an address
abbrev pub loaded : Instr → ℕ → ℕ → State → State
loaded i a v s = moved i s (Read a 8 v) (s.pc + 4) (put s.regs i.rd v) s.mem

-- memory after a store, which leaves a fixed dword as it is
abbrev pub stored : World → Table → ℕ → ℕ → Table
stored w mem a v = if w.fixed a then mem else put mem a v

-- where a jump lands: JALR where its effect goes, JAL at its target
abbrev pub lands : Op → ℕ → ℕ → ℕ
lands Jalr goes near = goes
lands _ goes near = near

-- The state after an effect, where v is what it reads.
abbrev pub act : Effect → World → Instr → ℕ → State → State
act (Gives value) w i v s = computes i s value
act (Loads addr width with_sign) w i v s = loaded i addr v s
act (Stores addr width value) w i v s = moved i s (Write addr 8 value) (s.pc + 4) s.regs (stored w s.mem addr value)
act (Branches taken) w i v s = moved i s Quiet (if taken then target s.pc i.imm else s.pc + 4) s.regs s.mem
act (Jumps link goes) w i v s = moved i s Quiet (lands i.op goes (target s.pc i.imm)) (put s.regs i.rd (s.pc + 4)) s.mem

-- an instruction's effect in a state, by the instruction table (RV64I 2.1)
abbrev pub effect_in : Instr → State → Effect
effect_in i s = effect i.op s.pc (get s.regs i.rs1) (get s.regs i.rs2) (low 64 i.imm)

-- the state after an instruction that reads v, if it reads
abbrev pub after : World → Instr → ℕ → State → State
after w i v s = act (effect_in i s) w i v s

-- the dword at an address may be accessed
abbrev pub MayAccess : World → ℕ → Type 0
MayAccess w a = (a % 8 ≡ 0) × IsTrue (w.guest a)

-- the access of an effect, if it has one, may be made
abbrev pub MayAct : Effect → World → Type 0
MayAct (Loads addr width with_sign) w = (width ≡ 8) × (with_sign ≡ false) × MayAccess w addr
MayAct (Stores addr width value) w = (width ≡ 8) × MayAccess w addr
MayAct _ w = Unit {0}

-- the instruction's access, if it makes one, may be made
abbrev pub May : World → Instr → State → Type 0
May w i s = MayAct (effect_in i s) w

-- a load or a store of less than a dword, which support code doesn't make
abbrev pub IsNarrow : Effect → Type 0
IsNarrow (Loads addr width with_sign) = width < 8
IsNarrow (Stores addr width value) = width < 8
IsNarrow _ = ⊥

-- an effect that loads may read v
abbrev pub ReadsAs : Effect → World → State → ℕ → Type 0
ReadsAs (Loads addr width with_sign) w s v = (v < 2 ^ 64) × (IsTrue (w.own addr) → v ≡ s.mem addr)
ReadsAs _ w s v = Unit {0}

-- v may be read: anything that 64 bits hold, but what reads back is what the memory has
abbrev pub Reads : World → Instr → State → ℕ → Type 0
Reads w i s v = ReadsAs (effect_in i s) w s v

-- an access that a stream may make
abbrev pub StreamAccess : World → Access → Type 0
StreamAccess w Quiet = Unit {0}
StreamAccess w (Read a width v) = Unit {0}
StreamAccess w (Write a width v) = (1 ≤ width) × ((i : ℕ) → i < width → IsTrue (w.window (a + i)))

-- any step inside a stream, of which little is known
pub record Strays (w : World) (lo hi : ℕ) (s t : State) : Type 0 where
  pub entry : Entry
  pub log : t.log ≡ entry ∷ s.log
  pub from : entry.pc ≡ s.pc
  pub next : entry.next ≡ t.pc
  pub access : StreamAccess w entry.access
  pub regs : (r : ℕ) → entry.regs r ≡ get t.regs r
  pub fits : (r : ℕ) → get t.regs r < 2 ^ 64
  pub kept : (r : ℕ) → 28 ≤ r → get t.regs r ≡ get s.regs r
  pub own : (a : ℕ) → IsTrue (w.own a) → t.mem a ≡ s.mem a
  pub least : lo ≤ t.pc
  pub most : t.pc ≤ hi
  pub aligned : t.pc % 4 ≡ 0
