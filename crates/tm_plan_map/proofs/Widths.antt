-- An op's widths: no op both loads and stores.
use Rattle.std.proofs.Common.{◌≡◌, ◌⊎◌, inl, inr, refl}
use Rattle.tm_table.specs.declared.instr.Op.{Op}
use Rattle.tm_table.specs.declared.instr.Op.TheVariants.{Lb, Lh, Lw, Ld, Lbu, Lhu, Lwu}
use Rattle.tm_plan_map.specs.Slots.{load_width, store_width}

pub one-width : (op : Op) → (load_width op ≡ 0) ⊎ (store_width op ≡ 0)
one-width Lb = inr refl
one-width Lh = inr refl
one-width Lw = inr refl
one-width Ld = inr refl
one-width Lbu = inr refl
one-width Lhu = inr refl
one-width Lwu = inr refl
one-width _ = inl refl
