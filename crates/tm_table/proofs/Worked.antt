-- Worked rows of the instruction table, computed: words as assemblers write them, and the step of each.
use Rattle.std.proofs.Common.{◌≡◌, ℕ, [], ◌∷◌, pos, negsuc, Some, None, refl}
use Rattle.tm_table.specs.declared.instr.Op.TheVariants.{Jal, Beq, Ld, Sd, Addi, Slliw, Fence, Mul, Div}
use Rattle.tm_table.specs.declared.instr.Instr.{Instr}
use Rattle.tm_table.specs.declared.state.Access.TheVariants.{Quiet, Read, Write}
use Rattle.tm_table.specs.State.{Hart}
use Rattle.tm_table.specs.Words.{split, decoded, word_of}
use Rattle.tm_table.specs.Row.{put, effect, after, row, row_word}
use Rattle.tm_table.specs.declared.add.Add.{Add}
use Rattle.tm_table.specs.Adds.{add_of, add_word, sum_after, hart_after}

-- ---- words

-- the instruction has the word, and the word is read as the instruction
abbrev Has : Instr → ℕ → Type 0
Has i word = (word_of i ≡ word) × (decoded (split word) ≡ Some i)

-- addi x5, x6, -1
addi_word : Has (record { op = Addi; rd = 5; rs1 = 6; rs2 = 0; imm = negsuc 0 }) 4294115987
unfolding word_of decoded
addi_word = (refl, refl)

-- ld x7, 8(x28)
ld_word : Has (record { op = Ld; rd = 7; rs1 = 28; rs2 = 0; imm = pos 8 }) 9319299
unfolding word_of decoded
ld_word = (refl, refl)

-- sd x7, 16(x29)
sd_word : Has (record { op = Sd; rd = 0; rs1 = 29; rs2 = 7; imm = pos 16 }) 8304675
unfolding word_of decoded
sd_word = (refl, refl)

-- beq x5, x6, 8
beq_word : Has (record { op = Beq; rd = 0; rs1 = 5; rs2 = 6; imm = pos 8 }) 6456419
unfolding word_of decoded
beq_word = (refl, refl)

-- jal x0, 0
jal_word : Has (record { op = Jal; rd = 0; rs1 = 0; rs2 = 0; imm = pos 0 }) 111
unfolding word_of decoded
jal_word = (refl, refl)

-- fence rw, rw
fence_word : Has (record { op = Fence; rd = 0; rs1 = 0; rs2 = 0; imm = pos 51 }) 53477391
unfolding word_of decoded
fence_word = (refl, refl)

-- slliw x0, x0, 0
slliw_word : Has (record { op = Slliw; rd = 0; rs1 = 0; rs2 = 0; imm = pos 0 }) 4123
unfolding word_of decoded
slliw_word = (refl, refl)

-- mul x5, x6, x7
mul_word : Has (record { op = Mul; rd = 5; rs1 = 6; rs2 = 7; imm = pos 0 }) 0x027302B3
unfolding word_of decoded
mul_word = (refl, refl)

-- div x5, x6, x7
div_word : Has (record { op = Div; rd = 5; rs1 = 6; rs2 = 7; imm = pos 0 }) 0x027342B3
unfolding word_of decoded
div_word = (refl, refl)

-- funct7 3, which no row has
no_product : decoded (split 0x067302B3) ≡ None
unfolding decoded
no_product = refl

-- a word of zeros: no row
zeros : decoded (split 0) ≡ None
unfolding decoded
zeros = refl

-- slliw x0, x0, 32, a shift of 32 bits by 6 bits: no row
slliw_32 : decoded (split 33558555) ≡ None
unfolding decoded
slliw_32 = refl

-- slli x5, x6, 64: no row
slli_64 : decoded (split 67310227) ≡ None
unfolding decoded
slli_64 = refl

-- fence.tso: no row of this table
fence_tso : decoded (split 2200961039) ≡ None
unfolding decoded
fence_tso = refl

-- ---- steps

-- the program counter, x5, x6 and x7; x28 is 2 ^ 31 and x29 is 2 ^ 32
abbrev hart : ℕ → ℕ → ℕ → ℕ → Hart
hart pc x5 x6 x7 = record {
  pc = pc;
  x = 0 ∷ 0 ∷ 0 ∷ 0 ∷ 0 ∷ x5 ∷ x6 ∷ x7 ∷ 0 ∷ 0 ∷ 0 ∷ 0 ∷ 0 ∷ 0 ∷ 0 ∷ 0 ∷ 0 ∷ 0 ∷ 0
      ∷ 0 ∷ 0 ∷ 0 ∷ 0 ∷ 0 ∷ 0 ∷ 0 ∷ 0 ∷ 0 ∷ 2147483648 ∷ 4294967296 ∷ 0 ∷ 0 ∷ [];
}

-- the same, with a link in x1
abbrev linked : ℕ → Hart → Hart
linked x1 h = record { pc = h.pc; x = put h.x 1 x1 }

-- addi x5, x6, -1
addi : row_word (hart 4096 5 1 7) 4294115987 0 ≡ Some (hart 4100 0 1 7, Quiet)
unfolding decoded put effect after row row_word
addi = refl

-- addi x5, x6, -1, modulo 2 ^ 64
addi_wraps : row_word (hart 4096 5 0 7) 4294115987 0 ≡ Some (hart 4100 18446744073709551615 0 7, Quiet)
unfolding decoded put effect after row row_word
addi_wraps = refl

-- addi x0, x6, 1, which leaves x0
addi_x0 : row_word (hart 4096 5 6 7) 1245203 0 ≡ Some (hart 4100 5 6 7, Quiet)
unfolding decoded put effect after row row_word
addi_x0 = refl

-- lui x5, 0x80000
lui : row_word (hart 4096 5 6 7) 2147484343 0 ≡ Some (hart 4100 18446744071562067968 6 7, Quiet)
unfolding decoded put effect after row row_word
lui = refl

-- slli x5, x6, 63
slli : row_word (hart 4096 5 3 7) 66261651 0 ≡ Some (hart 4100 9223372036854775808 3 7, Quiet)
unfolding decoded put effect after row row_word
slli = refl

-- add x5, x6, x7, modulo 2 ^ 64
add : row_word (hart 4096 5 18446744073709551615 2) 7537331 0 ≡ Some (hart 4100 1 18446744073709551615 2, Quiet)
unfolding decoded put effect after row row_word
add = refl

-- xor x5, x6, x7
xor : row_word (hart 4096 0 6 3) 7553715 0 ≡ Some (hart 4100 5 6 3, Quiet)
unfolding decoded put effect after row row_word
xor = refl

-- and x5, x6, x7
and : row_word (hart 4096 0 6 3) 7566003 0 ≡ Some (hart 4100 2 6 3, Quiet)
unfolding decoded put effect after row row_word
and = refl

-- ld x7, 8(x28), where x28 is 2 ^ 31
ld : row_word (hart 4096 5 6 7) 9319299 258 ≡ Some (hart 4100 5 6 258, Read 2147483656 8 258)
unfolding decoded put effect after row row_word
ld = refl

-- sd x7, 16(x29), where x29 is 2 ^ 32
sd : row_word (hart 4096 5 6 7) 8304675 0 ≡ Some (hart 4100 5 6 7, Write 4294967312 8 7)
unfolding decoded put effect after row row_word
sd = refl

-- beq x5, x6, 8
beq_taken : row_word (hart 4096 6 6 7) 6456419 0 ≡ Some (hart 4104 6 6 7, Quiet)
unfolding decoded put effect after row row_word
beq_taken = refl

-- beq x5, x6, 8
beq_not_taken : row_word (hart 4096 5 6 7) 6456419 0 ≡ Some (hart 4100 5 6 7, Quiet)
unfolding decoded put effect after row row_word
beq_not_taken = refl

-- bne x5, x6, -4
bne_taken : row_word (hart 4096 5 6 7) 4267876067 0 ≡ Some (hart 4092 5 6 7, Quiet)
unfolding decoded put effect after row row_word
bne_taken = refl

-- bne x5, x6, -4
bne_not_taken : row_word (hart 4096 6 6 7) 4267876067 0 ≡ Some (hart 4100 6 6 7, Quiet)
unfolding decoded put effect after row row_word
bne_not_taken = refl

-- jal x5, 2048
jal : row_word (hart 4096 5 6 7) 1049327 0 ≡ Some (hart 6144 4100 6 7, Quiet)
unfolding decoded put effect after row row_word
jal = refl

-- jal x0, 0
jal_to_itself : row_word (hart 4096 5 6 7) 111 0 ≡ Some (hart 4096 5 6 7, Quiet)
unfolding decoded put effect after row row_word
jal_to_itself = refl

-- fence rw, rw, which changes nothing but the program counter
fence : row_word (hart 4096 5 6 7) 53477391 0 ≡ Some (hart 4100 5 6 7, Quiet)
unfolding decoded put effect after row row_word
fence = refl

-- ecall, a step that only goes on
ecall : row_word (hart 4096 5 6 7) 115 0 ≡ Some (hart 4100 5 6 7, Quiet)
unfolding decoded put effect after row row_word
ecall = refl

-- addiw x5, x6, 1
addiw : row_word (hart 4096 5 2147483647 7) 1245851 0 ≡ Some (hart 4100 18446744071562067968 2147483647 7, Quiet)
unfolding decoded put effect after row row_word
addiw = refl

-- sltiu x5, x6, -1
sltiu_below : row_word (hart 4096 5 5 7) 4294128275 0 ≡ Some (hart 4100 1 5 7, Quiet)
unfolding decoded put effect after row row_word
sltiu_below = refl

-- sltiu x5, x6, -1
sltiu_same : row_word (hart 4096 5 18446744073709551615 7) 4294128275 0
    ≡ Some (hart 4100 0 18446744073709551615 7, Quiet)
unfolding decoded put effect after row row_word
sltiu_same = refl

-- slti x5, x6, -1, where x6 is -2
slti : row_word (hart 4096 5 18446744073709551614 7) 4294124179 0 ≡ Some (hart 4100 1 18446744073709551614 7, Quiet)
unfolding decoded put effect after row row_word
slti = refl

-- sraiw x5, x6, 31
sraiw : row_word (hart 4096 5 2147483648 7) 1106465435 0 ≡ Some (hart 4100 18446744073709551615 2147483648 7, Quiet)
unfolding decoded put effect after row row_word
sraiw = refl

-- jalr x1, 5(x5)
jalr : row_word (hart 2147483904 2147483648 6 7) 5406951 0
    ≡ Some (linked 2147483908 (hart 2147483652 2147483648 6 7), Quiet)
unfolding decoded put effect after row row_word
jalr = refl

-- auipc x5, 0x80000
auipc : row_word (hart 4096 5 6 7) 2147484311 0 ≡ Some (hart 4100 18446744071562072064 6 7, Quiet)
unfolding decoded put effect after row row_word
auipc = refl

-- srai x5, x6, 1
srai : row_word (hart 4096 5 18446744073709551613 7) 1075008147 0
    ≡ Some (hart 4100 18446744073709551614 18446744073709551613 7, Quiet)
unfolding decoded put effect after row row_word
srai = refl

-- srl x5, x6, x7, by the low 6 bits
srl : row_word (hart 4096 5 9223372036854775808 65) 7557811 0
    ≡ Some (hart 4100 4611686018427387904 9223372036854775808 65, Quiet)
unfolding decoded put effect after row row_word
srl = refl

-- sub x5, x6, x7
sub : row_word (hart 4096 5 6 7) 1081279155 0 ≡ Some (hart 4100 18446744073709551615 6 7, Quiet)
unfolding decoded put effect after row row_word
sub = refl

-- srlw x5, x6, x7
srlw : row_word (hart 4096 5 10737418240 0) 7557819 0 ≡ Some (hart 4100 18446744071562067968 10737418240 0, Quiet)
unfolding decoded put effect after row row_word
srlw = refl

-- subw x5, x6, x7
subw : row_word (hart 4096 5 4294967296 1) 1081279163 0 ≡ Some (hart 4100 18446744073709551615 4294967296 1, Quiet)
unfolding decoded put effect after row row_word
subw = refl

-- lb x5, 1(x28), of the byte 128
lb : row_word (hart 4096 5 6 7) 1966723 128 ≡ Some (hart 4100 18446744073709551488 6 7, Read 2147483649 1 128)
unfolding decoded put effect after row row_word
lb = refl

-- lbu x5, 1(x28)
lbu : row_word (hart 4096 5 6 7) 1983107 128 ≡ Some (hart 4100 128 6 7, Read 2147483649 1 128)
unfolding decoded put effect after row row_word
lbu = refl

-- lwu x5, 4(x28)
lwu : row_word (hart 4096 5 6 7) 5137027 2147483648 ≡ Some (hart 4100 2147483648 6 7, Read 2147483652 4 2147483648)
unfolding decoded put effect after row row_word
lwu = refl

-- sh x7, -2(x29), of its two low bytes
sh : row_word (hart 4096 5 6 305419896) 4269711139 0 ≡ Some (hart 4100 5 6 305419896, Write 4294967294 2 22136)
unfolding decoded put effect after row row_word
sh = refl

-- blt x5, x6, 8, where x5 is -1
blt : row_word (hart 4096 18446744073709551615 1 7) 6472803 0 ≡ Some (hart 4104 18446744073709551615 1 7, Quiet)
unfolding decoded put effect after row row_word
blt = refl

-- bltu x5, x6, 8
bltu : row_word (hart 4096 18446744073709551615 1 7) 6480995 0 ≡ Some (hart 4100 18446744073709551615 1 7, Quiet)
unfolding decoded put effect after row row_word
bltu = refl

-- bge x5, x6, 8
bge_same : row_word (hart 4096 6 6 7) 6476899 0 ≡ Some (hart 4104 6 6 7, Quiet)
unfolding decoded put effect after row row_word
bge_same = refl

-- div x5, x6, x7 of 5 by 0
div_by_0 : row_word (hart 4096 5 5 0) 41108147 0 ≡ Some (hart 4100 18446744073709551615 5 0, Quiet)
unfolding decoded put effect after row row_word
div_by_0 = refl

-- rem x5, x6, x7 of 5 by 0
rem_by_0 : row_word (hart 4096 5 5 0) 41116339 0 ≡ Some (hart 4100 5 5 0, Quiet)
unfolding decoded put effect after row row_word
rem_by_0 = refl

-- mulhu x5, x6, x7
mulhu : row_word (hart 4096 5 18446744073709551615 2) 41104051 0 ≡ Some (hart 4100 1 18446744073709551615 2, Quiet)
unfolding decoded put effect after row row_word
mulhu = refl

-- mulhsu x5, x6, x7 of -1 by 2
mulhsu : row_word (hart 4096 5 18446744073709551615 2) 41099955 0
    ≡ Some (hart 4100 18446744073709551615 18446744073709551615 2, Quiet)
unfolding decoded put effect after row row_word
mulhsu = refl

-- divuw x5, x6, x7
divuw : row_word (hart 4096 5 2147483648 1) 41112251 0 ≡ Some (hart 4100 18446744071562067968 2147483648 1, Quiet)
unfolding decoded put effect after row row_word
divuw = refl

-- remw x5, x6, x7 of the least number by -1
remw : row_word (hart 4096 5 2147483648 4294967295) 41116347 0 ≡ Some (hart 4100 0 2147483648 4294967295, Quiet)
unfolding decoded put effect after row row_word
remw = refl

-- div x5, x6, x7 of the least number by -1
div_least : row_word (hart 4096 5 9223372036854775808 18446744073709551615) 41108147 0
    ≡ Some (hart 4100 9223372036854775808 9223372036854775808 18446744073709551615, Quiet)
unfolding decoded put effect after row row_word
div_least = refl

-- rem x5, x6, x7 of the least number by -1
rem_least : row_word (hart 4096 5 9223372036854775808 18446744073709551615) 41116339 0
    ≡ Some (hart 4100 0 9223372036854775808 18446744073709551615, Quiet)
unfolding decoded put effect after row row_word
rem_least = refl

-- div x5, x6, x7 of -7 by 2, towards 0
div_signs : row_word (hart 4096 5 18446744073709551609 2) 41108147 0
    ≡ Some (hart 4100 18446744073709551613 18446744073709551609 2, Quiet)
unfolding decoded put effect after row row_word
div_signs = refl

-- rem x5, x6, x7 of -7 by 2, with the sign of -7
rem_signs : row_word (hart 4096 5 18446744073709551609 2) 41116339 0
    ≡ Some (hart 4100 18446744073709551615 18446744073709551609 2, Quiet)
unfolding decoded put effect after row row_word
rem_signs = refl

-- mulh x5, x6, x7 of -1 by -1
mulh : row_word (hart 4096 5 18446744073709551615 18446744073709551615) 41095859 0
    ≡ Some (hart 4100 0 18446744073709551615 18446744073709551615, Quiet)
unfolding decoded put effect after row row_word
mulh = refl

-- mul x5, x6, x7, modulo 2 ^ 64
mul : row_word (hart 4096 5 18446744073709551615 3) 41091763 0
    ≡ Some (hart 4100 18446744073709551613 18446744073709551615 3, Quiet)
unfolding decoded put effect after row row_word
mul = refl

-- divw x5, x6, x7 of the least number by -1
divw_least : row_word (hart 4096 5 2147483648 4294967295) 41108155 0
    ≡ Some (hart 4100 18446744071562067968 2147483648 4294967295, Quiet)
unfolding decoded put effect after row row_word
divw_least = refl

-- divu x5, x6, x7 of 5 by 0
divu_by_0 : row_word (hart 4096 5 5 0) 41112243 0 ≡ Some (hart 4100 18446744073709551615 5 0, Quiet)
unfolding decoded put effect after row row_word
divu_by_0 = refl

-- remu x5, x6, x7 by 0
remu_by_0 : row_word (hart 4096 5 18446744073709551611 0) 41120435 0
    ≡ Some (hart 4100 18446744073709551611 18446744073709551611 0, Quiet)
unfolding decoded put effect after row row_word
remu_by_0 = refl

-- remuw x5, x6, x7 by 0 on 32 bits
remuw_by_0 : row_word (hart 4096 5 4294967301 4294967296) 41120443 0 ≡ Some (hart 4100 5 4294967301 4294967296, Quiet)
unfolding decoded put effect after row row_word
remuw_by_0 = refl

-- mulw x5, x6, x7
mulw : row_word (hart 4096 5 65536 32768) 41091771 0 ≡ Some (hart 4100 18446744071562067968 65536 32768, Quiet)
unfolding decoded put effect after row row_word
mulw = refl

-- ---- adds to memory

-- amoadd.d x5, x6, (x28)
abbrev amoadd : Add
amoadd = record { rd = 5; rs1 = 28; rs2 = 6 }

amoadd_word : (add_word amoadd ≡ 0x006E32AF) × (add_of 0x006E32AF ≡ Some amoadd)
unfolding add_word add_of
amoadd_word = (refl, refl)

-- amoadd.d.rl x5, x6, (x28), with bit 25 set: no add of this table
amoadd_release : add_of 0x026E32AF ≡ None
unfolding add_of
amoadd_release = refl

-- amoadd.w x5, x6, (x28): no add of this table
amoadd_w : add_of 0x006E22AF ≡ None
unfolding add_of
amoadd_w = refl

-- amoadd.d x5, x6, (x28), modulo 2 ^ 64
amoadd_wraps : (sum_after (hart 4096 5 2 7) amoadd 18446744073709551615 ≡ 1)
    × (hart_after (hart 4096 5 2 7) amoadd 18446744073709551615 ≡ hart 4100 18446744073709551615 2 7)
unfolding put
amoadd_wraps = (refl, refl)

-- amoadd.d x0, x6, (x28), which leaves x0
amoadd_x0 : hart_after (hart 4096 5 2 7) (record { rd = 0; rs1 = 28; rs2 = 6 }) 3 ≡ hart 4100 5 2 7
unfolding put
amoadd_x0 = refl

-- amoadd.d x6, x6, (x28), which adds what x6 was before
amoadd_same : (sum_after (hart 4096 5 2 7) (record { rd = 6; rs1 = 28; rs2 = 6 }) 3 ≡ 5)
    × (hart_after (hart 4096 5 2 7) (record { rd = 6; rs1 = 28; rs2 = 6 }) 3 ≡ hart 4100 5 3 7)
unfolding put
amoadd_same = (refl, refl)
