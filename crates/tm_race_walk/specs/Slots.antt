-- What a slot's instruction keeps in shaped streams, and the slot as planes tell it (this project's own).
use Rattle.std.specs.Prelude.{◌≡◌, ◌≢◌, ℕ, ◌<◌, ◌≤◌, List, [], ◌∷◌, ◌++◌, Some, IsTrue}
use Rattle.tm_table.specs.declared.instr.Instr.{Instr}
use Rattle.tm_base.specs.Lists.{any}
use Rattle.tm_base.specs.declared.limits.TheConstants.{MOST_SLOTS}
use Rattle.tm_plan_map.specs.Slots.{IsBase, instr_of, load_width, store_width, is_branch, is_jump, slot_addr}
use Rattle.tm_plan_map.specs.Slots.{slot_target}
use Rattle.tm_world.specs.Lists.{those}
use Rattle.tm_world.specs.Slots.{Slot, named, load_bytes, store_bytes, target_of}
use Rattle.tm_plane.specs.Plane.{in_plane, IsNear}

-- a load goes by a window's base, to bytes of the windows
pub record IsLoad (i : Instr) : Type 0 where
  pub base : load_width i.op ≢ 0 → IsBase i.rs1
  pub near : load_width i.op ≢ 0 → IsNear (slot_addr i) (load_width i.op)

-- and so does a store
pub record IsStore (i : Instr) : Type 0 where
  pub base : store_width i.op ≢ 0 → IsBase i.rs1
  pub near : store_width i.op ≢ 0 → IsNear (slot_addr i) (store_width i.op)

-- the instruction of a word is so, if there is one
pub record IsStoreWord (w : ℕ) : Type 0 where
  pub store : (i : Instr) → instr_of w ≡ Some i → IsStore i

-- a jump at slot n goes to a slot that can be named
abbrev pub IsNamed : ℕ → Instr → Type 0
IsNamed n i = IsTrue (is_jump i.op) → slot_target n i ≤ MOST_SLOTS

-- what the instruction in slot n keeps
pub record IsTracked (n : ℕ) (i : Instr) : Type 0 where
  pub result : i.rd < 32
  pub first : i.rs1 < 32
  pub second : i.rs2 < 32
  pub load : IsLoad i
  pub store : IsStore i
  pub target : IsNamed n i

-- what an instruction reads: its source registers other than x0, and the bytes that it loads
abbrev pub reads_of : Instr → List ℕ
reads_of i = named (i.rs1 ∷ i.rs2 ∷ []) ++ load_bytes i

-- Slot n, as planes tell it: of the bytes with another may-writer, and of those that the hart alone may write.
abbrev pub plane_slot : (others own : List ℕ) → ℕ → Instr → Slot
plane_slot others own n i = record {
  reads = reads_of i;
  writes = named (i.rd ∷ []) ++ those (in_plane own) (store_bytes i);
  races = any (in_plane others) (load_bytes i);
  target = target_of n i;
  decides = is_branch i.op;
}
