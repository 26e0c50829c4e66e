-- The verdict as a number, apart from the machine that computes it (this project's own).
use Rattle.std.specs.Prelude.{◌≡◌, ℕ, zero, suc, ◌+◌, ◌-◌, ◌*◌, ◌/◌, ◌%◌, ◌^◌, ◌<◌, Bool, ◌&&◌, not, nat_lt, ◌==◌}
use Rattle.std.specs.Prelude.{if◌then◌else◌, bit_and, bit_xor, ◌⊎◌}
use Rattle.tm_world.specs.Place.{byte_of}

-- Dword i of two saved states, a and b, differs where it is checked: dword i below 30 is register i + 1, checked
-- where that bit of registers is set; of dword 30 + j the bits that are set in mask j are checked.
unfoldable pub differs : (registers : ℕ) → (mask a b : ℕ → ℕ) → ℕ → Bool
differs registers mask a b i =
    if nat_lt i 30 then (registers / 2 ^ (i + 1) % 2 == 1) && not (a i == b i)
    else not (bit_and (bit_xor (a i) (b i)) (mask (i - 30)) == 0)

-- one more than the first of n numbers, from i on, that passes the test; 0 where none does
abbrev pub first_from : (ℕ → Bool) → (i n : ℕ) → ℕ
first_from test i zero = 0
first_from test i (suc n) = if test i then suc i else first_from test (suc i) n

-- a number other than 0 gets the pass above its 32 bits
abbrev pub above : (k : ℕ) → ℕ → ℕ
above k zero = 0
above k (suc i) = k * 2 ^ 32 + suc i

-- the verdict on pass k: 0 where none of the 30 registers and n dwords differs, else k * 2 ^ 32 + i + 1 for the first
-- that does, i
unfoldable pub verdict_number : (registers : ℕ) → (mask a b : ℕ → ℕ) → (k n : ℕ) → ℕ
verdict_number registers mask a b k n = above k (first_from (differs registers mask a b) 0 (30 + n))

-- A number is the verdict on pass k over n dwords: 0 where all are the same, and k * 2 ^ 32 + i + 1 where dword i is
-- the least that is not.
pub data IsNumber (Same : ℕ → Type 0) (k n : ℕ) : ℕ → Type 0 where
  agree : ((i : ℕ) → i < n → Same i) → IsNumber Same k n 0
  differ : (i : ℕ) → i < n → (Same i → ⊥) → ((j : ℕ) → j < i → Same j) → IsNumber Same k n (k * 2 ^ 32 + i + 1)

-- ---- in terms of registers and bytes

-- Dword i of two saved states has the same value where it is a register that is checked, and else the same bytes
-- where the byte of its mask is 255.
pub record Agrees (registers : ℕ) (mask a b : ℕ → ℕ) (i : ℕ) : Type 0 where
  pub register : i < 30 → registers / 2 ^ (i + 1) % 2 ≡ 1 → a i ≡ b i
  pub bytes : (j l : ℕ) → i ≡ 30 + j → l < 8 → byte_of (mask j) l ≡ 255 → byte_of (a i) l ≡ byte_of (b i) l

-- each byte of a dword is 0 or 255
abbrev pub IsMaskDword : ℕ → Type 0
IsMaskDword m = (m < 2 ^ 64) × ((l : ℕ) → l < 8 → (byte_of m l ≡ 0) ⊎ (byte_of m l ≡ 255))

-- the number of any two saved states is the verdict on them, by registers and bytes
abbrev pub NamesLeast : (k n : ℕ) → Type 0
NamesLeast k n = (registers : ℕ) (mask a b : ℕ → ℕ) → ((j : ℕ) → j < n → IsMaskDword (mask j))
    → IsNumber (Agrees registers mask a b) k (30 + n) (verdict_number registers mask a b k n)
