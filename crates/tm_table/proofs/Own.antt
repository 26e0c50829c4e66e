-- Facts of the table, by computing each row.
use Rattle.std.proofs.Common.{◌≡◌, ◌/◌, ◌^◌, ◌<◌, arith, Bool, true, ◌&&◌, nat_lt, Some, find, refl}
use Rattle.std.proofs.lemmas.Bool.{cond-true, lt-ltb}
use Rattle.tm_table.specs.declared.instr.Op.{Op}
use Rattle.tm_table.specs.declared.instr.Op.TheVariants.{Lui, Fence}
use Rattle.tm_table.specs.declared.instr.Instr.{Instr}
use Rattle.tm_table.specs.Table.{row_of, table}
use Rattle.tm_table.specs.Words.{low, is_of, parts_as, parts_of}
use Rattle.tm_table.proofs.Signs.{low-lt}

-- the word of an instruction is of no row before its own
own_row_at : (op : Op) (i : Instr) → find (is_of (parts_as (row_of op).layout (row_of op) i)) table ≡ Some (row_of op)
own_row_at Lui i = refl
own_row_at Fence i = cond-true (nat_lt (low 8 i.imm / 64) 4) _ _
    (lt-ltb _ _ (let h : low 8 i.imm < 2 ^ 8 = low-lt 8 i.imm in omega arith))
own_row_at _ i = refl

pub own_row : (i : Instr) → find (is_of (parts_of i)) table ≡ Some (row_of i.op)
own_row i = own_row_at i.op i

pub row-op : (op : Op) → (row_of op).op ≡ op
row-op Lui = refl
row-op _ = refl

abbrev pub is_right : Op → Bool
is_right op = let r = row_of op in nat_lt r.opcode 128 && nat_lt r.funct3 8 && nat_lt r.funct6 64 && nat_lt r.extra 2

pub row-right : (op : Op) → is_right op ≡ true
row-right Lui = refl
row-right _ = refl
