-- Numbers with the same bytes, once they are xored with one number.
use Rattle.std.proofs.Common.{◌≡◌, ℕ, zero, suc, ◌/◌, ◌%◌, ◌^◌, ◌<◌, sym, ap, ◌∙◌, arith}
use Rattle.std.specs.Prelude.{bit_xor}
use Rattle.std.specs.Int.Bits.{xor_self, xor_zero_r, xor_assoc}
use Rattle.std.proofs.lemmas.Nat.{xor_mod, xor_shr}
use Rattle.std.proofs.Math.Nat.{pow-succ'}
use Rattle.tm_world.specs.Place.{byte_of}
use Rattle.tm_runs.proofs.Bytes.{byte-shift}

-- what is xored twice is as before
pub xor-twice : (a x : ℕ) → bit_xor (bit_xor a x) x ≡ a
xor-twice a x = xor_assoc a x x ∙ (ap (bit_xor a) (xor_self x) ∙ xor_zero_r a)

xor-same : (a b x : ℕ) → bit_xor a x ≡ bit_xor b x → a ≡ b
xor-same a b x e = sym (xor-twice a x) ∙ (ap (λ (n : ℕ). bit_xor n x) e ∙ xor-twice b x)

-- the next byte of a xored number is one of the numbers without their lowest bytes
next-byte : (v x i : ℕ) → byte_of (bit_xor v x) (suc i) ≡ byte_of (bit_xor (v / 256) (x / 256)) i
next-byte v x i = byte-shift (bit_xor v x) i ∙ ap (λ (n : ℕ). byte_of n i) (xor_shr v x 8)

pub same-xored : (n x v u : ℕ) → v < 256 ^ n → u < 256 ^ n
    → ((i : ℕ) → i < n → byte_of (bit_xor v x) i ≡ byte_of (bit_xor u x) i) → v ≡ u
same-xored zero x v u l m h = omega arith
same-xored (suc n) x v u l m h =
    let power = pow-succ' 256 n in
    let low-xored : bit_xor v x % 256 ≡ bit_xor u x % 256 = let e = h 0 (omega arith) in omega arith in
    let low-byte : v % 256 ≡ u % 256 =
    xor-same (v % 256) (u % 256) (x % 256) (sym (xor_mod v x 8) ∙ (low-xored ∙ xor_mod u x 8)) in
    let rest : v / 256 ≡ u / 256 =
    same-xored n (x / 256) (v / 256) (u / 256) (omega arith) (omega arith)
    (λ i k. sym (next-byte v x i) ∙ (h (suc i) (omega arith) ∙ next-byte u x i)) in
    omega arith
