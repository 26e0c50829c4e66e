-- The instructions of support code fit into their words.
use Rattle.std.proofs.Common.{◌≡◌, ℕ, ◌%◌, ◌<◌, ◌≤◌, rules}
use Rattle.std.proofs.lemmas.Int.{ints}
use Rattle.tm_table.specs.Words.{Fits}
use Rattle.tm_blocks_base.specs.Instrs.{addi, slli, add, xor, and, ld, sd, beq, bne, jump, jump_back, subi, bne_back}
use Rattle.tm_blocks_base.specs.Instrs.{bltu_back, go_to, fence}

pub addi_fits : (rd rs1 n : ℕ) → rd < 32 → rs1 < 32 → n < 2048 → Fits (addi rd rs1 n)
unfolding Fits
addi_fits rd rs1 n d s h = search (rules, ints)

pub slli_fits : (rd rs1 n : ℕ) → rd < 32 → rs1 < 32 → n < 64 → Fits (slli rd rs1 n)
unfolding Fits
slli_fits rd rs1 n d s h = search (rules, ints)

pub add_fits : (rd rs1 rs2 : ℕ) → rd < 32 → rs1 < 32 → rs2 < 32 → Fits (add rd rs1 rs2)
unfolding Fits
add_fits rd rs1 rs2 d s t = search (rules, ints)

pub xor_fits : (rd rs1 rs2 : ℕ) → rd < 32 → rs1 < 32 → rs2 < 32 → Fits (xor rd rs1 rs2)
unfolding Fits
xor_fits rd rs1 rs2 d s t = search (rules, ints)

pub and_fits : (rd rs1 rs2 : ℕ) → rd < 32 → rs1 < 32 → rs2 < 32 → Fits (and rd rs1 rs2)
unfolding Fits
and_fits rd rs1 rs2 d s t = search (rules, ints)

pub ld_fits : (rd n base : ℕ) → rd < 32 → base < 32 → n < 2048 → Fits (ld rd n base)
unfolding Fits
ld_fits rd n base d s h = search (rules, ints)

pub sd_fits : (source n base : ℕ) → source < 32 → base < 32 → n < 2048 → Fits (sd source n base)
unfolding Fits
sd_fits source n base d s h = search (rules, ints)

pub beq_fits : (rs1 rs2 n : ℕ) → rs1 < 32 → rs2 < 32 → n % 2 ≡ 0 → n ≤ 4094 → Fits (beq rs1 rs2 n)
unfolding Fits
beq_fits rs1 rs2 n s t e h = search (rules, ints)

pub bne_fits : (rs1 rs2 n : ℕ) → rs1 < 32 → rs2 < 32 → n % 2 ≡ 0 → n ≤ 4094 → Fits (bne rs1 rs2 n)
unfolding Fits
bne_fits rs1 rs2 n s t e h = search (rules, ints)

pub jump_fits : (n : ℕ) → n % 2 ≡ 0 → n ≤ 1048574 → Fits (jump n)
unfolding Fits
jump_fits n e h = search (rules, ints)

pub jump_back_fits : (n : ℕ) → n % 2 ≡ 0 → 2 ≤ n → n ≤ 1048576 → Fits (jump_back n)
unfolding Fits
jump_back_fits n e l h = search (rules, ints)

pub subi_fits : (rd rs1 n : ℕ) → rd < 32 → rs1 < 32 → 1 ≤ n → n ≤ 2048 → Fits (subi rd rs1 n)
unfolding Fits
subi_fits rd rs1 n a b l h = search (rules, ints)

pub bne_back_fits : (rs1 rs2 n : ℕ) → rs1 < 32 → rs2 < 32 → n % 2 ≡ 0 → 2 ≤ n → n ≤ 4096 → Fits (bne_back rs1 rs2 n)
unfolding Fits
bne_back_fits rs1 rs2 n a b e l h = search (rules, ints)

pub bltu_back_fits : (rs1 rs2 n : ℕ) → rs1 < 32 → rs2 < 32 → n % 2 ≡ 0 → 2 ≤ n → n ≤ 4096 → Fits (bltu_back rs1 rs2 n)
unfolding Fits
bltu_back_fits rs1 rs2 n a b e l h = search (rules, ints)

pub go_to_fits : (rs1 : ℕ) → rs1 < 32 → Fits (go_to rs1)
unfolding Fits
go_to_fits rs1 a = search (rules, ints)

pub fence_fits : Fits fence
unfolding Fits
fence_fits = search (rules, ints)
