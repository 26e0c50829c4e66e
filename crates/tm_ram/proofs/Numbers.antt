-- Numbers in lists of bytes, and the bytes of numbers.
use Rattle.std.proofs.Common.{◌≡◌, ℕ, zero, suc, ◌+◌, ◌*◌, ◌/◌, ◌%◌, ◌^◌, ◌<◌, ◌≤◌, ◌≢◌, ◌⊎◌, inl, inr, List, length}
use Rattle.std.proofs.Common.{refl, sym, ap, ◌∙◌, arith, get_or-set_same, get_or-set_other}
use Rattle.std.specs.Prelude.{slice_index, slice_set}
use Rattle.std.proofs.Math.Nat.{div-div-eq-div-mul, pow-succ'}
use Rattle.std.proofs.Math.ListN.{length-set}
use Rattle.tm_ram.specs.Region.{number_at, with_number}

byte-shift : (v i : ℕ) → v / 256 ^ suc i % 256 ≡ v / 256 / 256 ^ i % 256
byte-shift v i =
    ap (λ (d : ℕ). v / d % 256) (pow-succ' 256 i)
    ∙ ap (λ (q : ℕ). q % 256) (sym (div-div-eq-div-mul v 256 (256 ^ i)))

-- byte i of the number at a place is the i-th byte from there
pub byte-number : (s : List ℕ) (a n i : ℕ) → ((k : ℕ) → slice_index s k < 256) → i < n
    → number_at s a n / 256 ^ i % 256 ≡ slice_index s (a + i)
unfolding number_at
byte-number s a zero i small h = absurd (omega arith)
byte-number s a (suc n) zero small h =
    let b = small a in
    let at : a ≡ a + 0 = omega arith in
    let e : (slice_index s a + 256 * number_at s (a + 1) n) / 256 ^ 0 % 256 ≡ slice_index s a = omega arith in
    e ∙ ap (slice_index s) at
byte-number s a (suc n) (suc i) small h =
    let b = small a in
    let q = number_at s (a + 1) n in
    let e : (slice_index s a + 256 * q) / 256 ≡ q = omega arith in
    let at : a + 1 + i ≡ a + suc i = omega arith in
    byte-shift (slice_index s a + 256 * q) i
    ∙ (ap (λ (x : ℕ). x / 256 ^ i % 256) e
    ∙ (byte-number s (a + 1) n i small (omega arith) ∙ ap (slice_index s) at))

-- a byte outside the number's place stays
pub with-outside : (s : List ℕ) (a n v k : ℕ) → (k < a) ⊎ (a + n ≤ k)
    → slice_index (with_number s a n v) k ≡ slice_index s k
unfolding with_number
with-outside s a zero v k h = refl
with-outside s a (suc n) v k h =
    let o : (k < a + 1) ⊎ (a + 1 + n ≤ k) = elim h [ inl l ↦ inl (omega arith) | inr g ↦ inr (omega arith) ] in
    let ne : k ≢ a = elim h [ inl l ↦ omega arith | inr g ↦ omega arith ] in
    with-outside (slice_set s a (v % 256)) (a + 1) n (v / 256) k o ∙ get_or-set_other s a k (v % 256) 0 ne

-- byte i from its place on is the number's
pub with-inside : (s : List ℕ) (a n v i : ℕ) → a + n ≤ length s → i < n
    → slice_index (with_number s a n v) (a + i) ≡ v / 256 ^ i % 256
unfolding with_number
with-inside s a zero v i room h = absurd (omega arith)
with-inside s a (suc n) v zero room h =
    let t = slice_set s a (v % 256) in
    let at : a + 0 ≡ a = omega arith in
    let one : v / 256 ^ 0 % 256 ≡ v % 256 = omega arith in
    ap (slice_index (with_number t (a + 1) n (v / 256))) at
    ∙ (with-outside t (a + 1) n (v / 256) a (inl (omega arith))
    ∙ (get_or-set_same s a (v % 256) 0 (omega arith) ∙ sym one))
with-inside s a (suc n) v (suc i) room h =
    let t = slice_set s a (v % 256) in
    let at : a + suc i ≡ a + 1 + i = omega arith in
    let len = length-set s a (v % 256) in
    ap (slice_index (with_number t (a + 1) n (v / 256))) at
    ∙ (with-inside t (a + 1) n (v / 256) i (omega arith) (omega arith) ∙ sym (byte-shift v i))
