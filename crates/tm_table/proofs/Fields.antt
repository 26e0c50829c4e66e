-- A word and its parts.
use Rattle.std.proofs.Common.{◌≡◌, ℕ, ◌/◌, ◌%◌, ◌^◌, ◌<◌, arith}
use Rattle.tm_table.specs.declared.table.Fields.{Fields}
use Rattle.tm_table.specs.Words.{split, join, InRange}

pub join-split : (w : ℕ) → w < 2 ^ 32 → join (split w) ≡ w
join-split w h = omega arith

pub split-in_range : (w : ℕ) → w < 2 ^ 32 → InRange (split w)
split-in_range w h = omega arith

pub split-join : (f : Fields) → InRange f → split (join f) ≡ f
split-join f r =
    let n = join f in
    let opcode : n % 2 ^ 7 ≡ f.opcode = omega arith in
    let rd : n / 2 ^ 7 % 2 ^ 5 ≡ f.rd = omega arith in
    let funct3 : n / 2 ^ 12 % 2 ^ 3 ≡ f.funct3 = omega arith in
    let rs1 : n / 2 ^ 15 % 2 ^ 5 ≡ f.rs1 = omega arith in
    let rs2 : n / 2 ^ 20 % 2 ^ 5 ≡ f.rs2 = omega arith in
    let bit25 : n / 2 ^ 25 % 2 ≡ f.bit25 = omega arith in
    let funct6 : n / 2 ^ 26 ≡ f.funct6 = omega arith in
    λ i. record {
      opcode = opcode i;
      rd = rd i;
      funct3 = funct3 i;
      rs1 = rs1 i;
      rs2 = rs2 i;
      bit25 = bit25 i;
      funct6 = funct6 i;
    }

pub join-lt : (f : Fields) → InRange f → join f < 2 ^ 32
join-lt f r = omega arith
