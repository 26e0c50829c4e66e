-- A stream as far as dependence goes: what each slot reads and writes, whether it races, and where it may go (this
-- project's own). A resource is a number: a register below 32, or the address of a byte that the hart alone may
-- write.
use Rattle.std.specs.Prelude.{◌≡◌, ℕ, ◌<◌, Bool, true, false, ◌&&◌, not, ◌==◌, List, [], ◌∷◌, ◌++◌, slice_get, Option}
use Rattle.std.specs.Prelude.{Some, None, Contains, if◌then◌else◌}
use Rattle.tm_table.specs.declared.instr.Instr.{Instr}
use Rattle.tm_plan_cases.specs.declared.cases.Cases.{Cases}
use Rattle.tm_plan_cases.specs.declared.cases.Stream.{Stream}
use Rattle.tm_plan_cases.specs.Collected.{is_declared}
use Rattle.tm_base.specs.Lists.{any, count_from}
use Rattle.tm_plan_map.specs.Slots.{instr_of, load_width, store_width, is_branch, is_jump, slot_addr, slot_target}
use Rattle.tm_world.specs.Lists.{those}
use Rattle.tm_world.specs.Writers.{may_store}
use Rattle.tm_plan_cases.specs.Streams.{stream_in}

-- A slot: the resources that it reads and writes, and how it may go on.
pub record Slot : Type 0 where
  pub reads : List ℕ
  pub writes : List ℕ
  -- it loads a byte with another may-writer
  pub races : Bool
  -- the target slot of a branch or JAL
  pub target : Option ℕ
  -- it is a branch
  pub decides : Bool

-- registers other than x0
abbrev pub named : List ℕ → List ℕ
named registers = those (λ r. not (r == 0)) registers

-- another hart than h may write b in case c
abbrev pub another_may_store : Cases → ℕ → ℕ → ℕ → Bool
another_may_store cases c h b = any (λ g. not (g == h) && may_store cases c g b) (count_from 0 cases.harts)

-- b is a shared byte whose only may-writer in case c is h
abbrev pub is_own_byte : Cases → ℕ → ℕ → ℕ → Bool
is_own_byte cases c h b = is_declared cases b && (may_store cases c h b && not (another_may_store cases c h b))

-- the bytes that a load reads and that a store writes
abbrev pub load_bytes : Instr → List ℕ
load_bytes i = count_from (slot_addr i) (load_width i.op)

-- the bytes that a store writes
abbrev pub store_bytes : Instr → List ℕ
store_bytes i = count_from (slot_addr i) (store_width i.op)

-- the target slot of a branch or JAL at slot n
abbrev pub target_of : ℕ → Instr → Option ℕ
target_of n i = if is_jump i.op then Some (slot_target n i) else None

-- slot n of hart h's stream of case c. Fields that an op doesn't have are 0, and x0 is no resource.
abbrev pub slot_of : Cases → ℕ → ℕ → ℕ → Instr → Slot
slot_of cases c h n i = record {
  reads = named (i.rs1 ∷ i.rs2 ∷ []) ++ load_bytes i;
  writes = named (i.rd ∷ []) ++ those (is_own_byte cases c h) (store_bytes i);
  races = any (another_may_store cases c h) (load_bytes i);
  target = target_of n i;
  decides = is_branch i.op;
}

-- past its end a stream does nothing
abbrev pub no_slot : Slot
no_slot = record { reads = []; writes = []; races = false; target = None; decides = false }

-- the slot of an instruction, if there is one
abbrev pub slot_or_none : Cases → ℕ → ℕ → ℕ → Option Instr → Slot
slot_or_none cases c h n None = no_slot
slot_or_none cases c h n (Some i) = slot_of cases c h n i

-- the slot of a word, if there is one
abbrev pub word_slot : Cases → ℕ → ℕ → ℕ → Option ℕ → Slot
word_slot cases c h n None = no_slot
word_slot cases c h n (Some w) = slot_or_none cases c h n (instr_of w)

-- the slots of a stream, if there is one
abbrev pub words_slots : Cases → ℕ → ℕ → Option Stream → ℕ → Slot
words_slots cases c h None n = no_slot
words_slots cases c h (Some s) n = word_slot cases c h n (slice_get s.words n)

-- hart h's stream of case c, slot by slot
unfoldable pub slots_in : Cases → ℕ → ℕ → ℕ → Slot
slots_in cases c h = words_slots cases c h (stream_in cases c h)

-- ---- what a slot does

abbrev pub Reads : (ℕ → Slot) → ℕ → ℕ → Type 0
Reads stream i r = Contains (stream i).reads r

-- slot i writes r
abbrev pub Writes : (ℕ → Slot) → ℕ → ℕ → Type 0
Writes stream i r = Contains (stream i).writes r

-- slot i loads a byte with another may-writer
abbrev pub Races : (ℕ → Slot) → ℕ → Type 0
Races stream i = (stream i).races ≡ true

-- slot i is a branch or JAL with target slot t
abbrev pub Jumps : (ℕ → Slot) → ℕ → ℕ → Type 0
Jumps stream i t = (stream i).target ≡ Some t

-- slot i is a branch
abbrev pub Decides : (ℕ → Slot) → ℕ → Type 0
Decides stream i = (stream i).decides ≡ true

-- A branch or JAL at slot k with target slot t covers the slots from k + 1 to t - 1.
abbrev pub Covers : (ℕ → Slot) → ℕ → ℕ → Type 0
Covers stream k i = (t : ℕ) × Jumps stream k t × (k < i) × (i < t)

-- Slot i writes r, and no branch or JAL covers slot i.
abbrev pub SurelyOverwrites : (ℕ → Slot) → ℕ → ℕ → Type 0
SurelyOverwrites stream i r = Writes stream i r × ((k : ℕ) → Covers stream k i → ⊥)
