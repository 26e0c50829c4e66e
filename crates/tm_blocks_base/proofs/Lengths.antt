-- How many instructions the blocks have.
use Rattle.std.proofs.Common.{◌≡◌, ℕ, zero, suc, ◌+◌, ◌*◌, List, [], ◌∷◌, ◌++◌, length, flat_map, refl, ap, arith}
use Rattle.std.proofs.Common.{length-append}
use Rattle.tm_table.specs.declared.instr.Instr.{Instr}
use Rattle.tm_base.specs.Lists.{count_from}
use Rattle.tm_blocks_base.specs.Instrs.{ld}
use Rattle.tm_blocks_base.specs.Blocks.{constant, load_registers, load_registers_but_last, save_registers, copy_dword}
use Rattle.tm_blocks_base.specs.Blocks.{copy_dwords}
use Rattle.tm_table.specs.Words.{words_of}

pub length-words_of : (code : List Instr) → length (words_of code) ≡ length code
length-words_of [] = refl
length-words_of (i ∷ code) = ap suc (length-words_of code)

-- blocks of k instructions each
length-blocks : (block : ℕ → List Instr) (k : ℕ) → ((i : ℕ) → length (block i) ≡ k) → (a n : ℕ)
    → length (flat_map block (count_from a n)) ≡ n * k
length-blocks block k each a zero = omega arith
length-blocks block k each a (suc n) =
    let more : length (flat_map block (count_from (suc a) n)) ≡ n * k = length-blocks block k each (suc a) n in
    let one : length (block a) ≡ k = each a in
    let whole : length (block a ++ flat_map block (count_from (suc a) n))
    ≡ length (block a) + length (flat_map block (count_from (suc a) n)) =
    length-append (block a) (flat_map block (count_from (suc a) n)) in
    let product : suc n * k ≡ n * k + k = grind arith in
    omega (arith, more, one, whole, product)

pub length-constant : (rd value : ℕ) → length (constant rd value) ≡ 11
unfolding constant
length-constant rd value = refl

pub length-load_registers : (table : ℕ) → length (load_registers table) ≡ 42
unfolding load_registers constant
length-load_registers table = refl

pub length-load_registers_but_last : (table : ℕ) → length (load_registers_but_last table) ≡ 41
unfolding load_registers_but_last constant
length-load_registers_but_last table = refl

pub load_registers_parts : (table : ℕ) → load_registers table ≡ load_registers_but_last table ++ ld 31 240 31 ∷ []
unfolding load_registers load_registers_but_last constant
load_registers_parts table = refl

pub length-save_registers : length save_registers ≡ 30
unfolding save_registers
length-save_registers = refl

pub length-copy_dwords : (from a to b n : ℕ) → length (copy_dwords from a to b n) ≡ 2 * n
unfolding copy_dwords
length-copy_dwords from a to b n = let e : length (flat_map (copy_dword from a to b) (count_from 0 n)) ≡ n * 2 =
    length-blocks (copy_dword from a to b) 2 (λ j. refl) 0 n in omega (arith, e)
