-- Dwords that are compared under a mask, by their bytes.
use Rattle.std.proofs.Common.{◌≡◌, ◌≢◌, ℕ, zero, suc, ◌+◌, ◌-◌, ◌/◌, ◌%◌, ◌^◌, ◌<◌, ◌≤◌, ◌⊎◌, inl, inr, true, false}
use Rattle.std.proofs.Common.{true≢false, refl, sym, ap, ap₂, ◌∙◌, arith, subst}
use Rattle.std.specs.Prelude.{Bool, bit_and, bit_xor, nat_eq}
use Rattle.std.specs.Int.Bits.{and_zero_r, xor_self, xor_add_and}
use Rattle.std.proofs.lemmas.Bool.{cases_lt, eqb-true, eqb-false}
use Rattle.std.proofs.lemmas.Nat.{and_shr, xor_shr, and_mod, xor_mod, and_mask, and_le_l, and_le_r}
use Rattle.tm_world.specs.Place.{byte_of}
use Rattle.tm_runs.proofs.Bytes.{byte-shift, byte-lt, same_dword}
use Rattle.tm_blocks_base.specs.Verdict.{differs, verdict_number, Agrees, IsMaskDword, NamesLeast}
use Rattle.tm_blocks_base.proofs.Verdicts.{dword_same, dword_other, register_unchecked, register_same, register_other}
use Rattle.tm_blocks_base.proofs.Verdicts.{unset, set, number_map, verdict_is}

byte-and : (i a b : ℕ) → byte_of (bit_and a b) i ≡ bit_and (byte_of a i) (byte_of b i)
byte-and zero a b =
    let e : (x : ℕ) → byte_of x 0 ≡ x % 256 = λ x. omega arith in
    e (bit_and a b) ∙ (and_mod a b 8 ∙ sym (ap₂ bit_and (e a) (e b)))
byte-and (suc i) a b =
    byte-shift (bit_and a b) i ∙ (ap (λ (x : ℕ). byte_of x i) (and_shr a b 8) ∙
    (byte-and i (a / 256) (b / 256) ∙ sym (ap₂ bit_and (byte-shift a i) (byte-shift b i))))

byte-xor : (i a b : ℕ) → byte_of (bit_xor a b) i ≡ bit_xor (byte_of a i) (byte_of b i)
byte-xor zero a b =
    let e : (x : ℕ) → byte_of x 0 ≡ x % 256 = λ x. omega arith in
    e (bit_xor a b) ∙ (xor_mod a b 8 ∙ sym (ap₂ bit_xor (e a) (e b)))
byte-xor (suc i) a b =
    byte-shift (bit_xor a b) i ∙ (ap (λ (x : ℕ). byte_of x i) (xor_shr a b 8) ∙
    (byte-xor i (a / 256) (b / 256) ∙ sym (ap₂ bit_xor (byte-shift a i) (byte-shift b i))))

byte-zero : (i : ℕ) → byte_of 0 i ≡ 0
byte-zero zero = omega arith
byte-zero (suc i) = byte-shift 0 i ∙ byte-zero i

same_of_xor : (x y : ℕ) → bit_xor x y ≡ 0 → x ≡ y
same_of_xor x y e =
    let sum = xor_add_and x y in
    let left = and_le_l x y in
    let right = and_le_r x y in
    omega arith

-- a byte under a mask byte
masked-byte : (a b m l : ℕ) → byte_of (bit_and (bit_xor a b) m) l
    ≡ bit_and (bit_xor (byte_of a l) (byte_of b l)) (byte_of m l)
masked-byte a b m l = byte-and l (bit_xor a b) m ∙ ap (λ (x : ℕ). bit_and x (byte_of m l)) (byte-xor l a b)

-- no difference under a mask: no difference in the bytes where the mask is 255
pub bytes_of_masked : (a b m : ℕ) → bit_and (bit_xor a b) m ≡ 0 → (l : ℕ) → byte_of m l ≡ 255
    → byte_of a l ≡ byte_of b l
bytes_of_masked a b m none l full =
    let x = bit_xor (byte_of a l) (byte_of b l) in
    let e : bit_and x 255 ≡ 0 =
    ap (bit_and x) (sym full) ∙ (sym (masked-byte a b m l) ∙ (ap (λ (y : ℕ). byte_of y l) none ∙ byte-zero l)) in
    let low : x % 256 ≡ 0 = sym (and_mask x 8) ∙ e in
    let whole : x ≡ byte_of (bit_xor a b) l = sym (byte-xor l a b) in
    let small = byte-lt (bit_xor a b) l in
    same_of_xor (byte_of a l) (byte_of b l) (omega arith)

-- and back, for masks of whole bytes
pub masked_of_bytes : (a b m : ℕ) → IsMaskDword m → ((l : ℕ) → l < 8 → byte_of m l ≡ 255 → byte_of a l ≡ byte_of b l)
    → bit_and (bit_xor a b) m ≡ 0
masked_of_bytes a b m is h =
    let le = and_le_r (bit_xor a b) m in
    let small = is.0 in
    same_dword (bit_and (bit_xor a b) m) 0 (omega arith) (omega arith)
    (λ l p. masked-byte a b m l ∙ (by l p (is.1 l p) ∙ sym (byte-zero l)))
  where
    by : (l : ℕ) → l < 8 → (byte_of m l ≡ 0) ⊎ (byte_of m l ≡ 255)
        → bit_and (bit_xor (byte_of a l) (byte_of b l)) (byte_of m l) ≡ 0
    by l p (inl e) = ap (bit_and (bit_xor (byte_of a l) (byte_of b l))) e ∙ and_zero_r
        (bit_xor (byte_of a l) (byte_of b l))
    by l p (inr e) = ap (λ (x : ℕ). bit_and (bit_xor x (byte_of b l)) (byte_of m l)) (h l p e) ∙ ap
        (λ (x : ℕ). bit_and x (byte_of m l)) (xor_self (byte_of b l))

module _ (M : ℕ) (mask a b : ℕ → ℕ) where
  -- where nothing differs, the checked parts are the same
  pub agrees : (i : ℕ) → differs M mask a b i ≡ false → Agrees M mask a b i
  agrees i same = record {
    register = λ l one. register l one (nat_eq (a i) (b i)) refl;
    bytes = λ j l is p full. bytes j l is full (nat_eq (bit_and (bit_xor (a i) (b i)) (mask j)) 0) refl;
  }
    where
      register : i < 30 → M / 2 ^ (i + 1) % 2 ≡ 1 → (c : Bool) → nat_eq (a i) (b i) ≡ c → a i ≡ b i
      register l one true e = eqb-true (a i) (b i) e
      register l one false e =
          absurd (true≢false
          (sym (register_other M mask a b i l (λ z. unset M mask a b i (M / 2 ^ (i + 1) % 2) refl z one)
          (eqb-false (a i) (b i) e)) ∙ same))

      bytes : (j l : ℕ) → i ≡ 30 + j → byte_of (mask j) l ≡ 255 → (c : Bool)
          → nat_eq (bit_and (bit_xor (a i) (b i)) (mask j)) 0 ≡ c → byte_of (a i) l ≡ byte_of (b i) l
      bytes j l is full true e = bytes_of_masked (a i) (b i) (mask j) (eqb-true _ 0 e) l full
      bytes j l is full false e =
          let other : differs M mask a b (30 + j) ≡ true =
          dword_other M mask a b j (subst (λ (x : ℕ). bit_and (bit_xor (a x) (b x)) (mask j) ≢ 0) is
          (eqb-false _ 0 e)) in
          absurd (true≢false (sym (ap (differs M mask a b) is ∙ other) ∙ same))

  -- and back, where the masks are of whole bytes
  pub agrees_not : (i : ℕ) → ((j : ℕ) → i ≡ 30 + j → IsMaskDword (mask j)) → Agrees M mask a b i → differs M mask a b i
      ≡ false
  agrees_not i masks h = by (cases_lt i 30)
    where
      checked : i < 30 → (c : Bool) → nat_eq (bit_and (2 ^ suc i) M) 0 ≡ c → differs M mask a b i ≡ false
      checked l true e = register_unchecked M mask a b i l (eqb-true _ 0 e)
      checked l false e =
          register_same M mask a b i l (h.register l
          (set M mask a b i (M / 2 ^ (i + 1) % 2) refl (omega arith) (eqb-false _ 0 e)))

      by : (i < 30) ⊎ (30 ≤ i) → differs M mask a b i ≡ false
      by (inl l) = checked l (nat_eq (bit_and (2 ^ suc i) M) 0) refl
      by (inr l) =
          let is : i ≡ 30 + (i - 30) = omega arith in
          ap (differs M mask a b) is ∙ dword_same M mask a b (i - 30)
          (subst (λ (x : ℕ). bit_and (bit_xor (a x) (b x)) (mask (i - 30)) ≡ 0) is
          (masked_of_bytes (a i) (b i) (mask (i - 30)) (masks (i - 30) is) (λ k p full. h.bytes (i - 30) k is p full)))

-- The verdict's number is the verdict by registers and bytes.
pub verdict_agrees : (k n : ℕ) → NamesLeast k n
verdict_agrees k n registers mask a b masks =
    number_map (λ i. differs registers mask a b i ≡ false) (Agrees registers mask a b) k (30 + n)
    (verdict_number registers mask a b k n)
    (λ i l same. agrees registers mask a b i same)
    (λ i l same. agrees_not registers mask a b i (λ j is. masks j (omega arith)) same)
    (verdict_is registers mask a b k n)
