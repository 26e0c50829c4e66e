-- The verdict's number: what differs, and that it names the least that does.
use Rattle.std.proofs.Common.{◌≡◌, ◌≢◌, ℕ, zero, suc, ◌+◌, ◌-◌, ◌*◌, ◌/◌, ◌%◌, ◌^◌, ◌<◌, ◌≤◌, ◌⊎◌, inl, inr, Bool}
use Rattle.std.proofs.Common.{true, false, true≢false, not, refl, sym, ap, ap₂, ◌∙◌, arith, subst, eq-eqb, ne_eqb}
use Rattle.std.specs.Prelude.{bit_and, bit_xor, ◌==◌, ◌&&◌, if◌then◌else◌}
use Rattle.std.proofs.lemmas.Bool.{cases_lt, lt-ltb, le-ltb}
use Rattle.std.proofs.lemmas.Nat.{and_comm, pow_pos}
use Rattle.std.proofs.lemmas.Nat.Bits.{and_pow}
use Rattle.tm_blocks_base.specs.Verdict.{differs, first_from, above, verdict_number, IsNumber, agree, differ}

module _ (M : ℕ) (mask a b : ℕ → ℕ) where
  -- a collected dword
  dword : (j : ℕ) → differs M mask a b (30 + j) ≡ not (bit_and (bit_xor (a (30 + j)) (b (30 + j))) (mask j) == 0)
  unfolding differs
  dword j =
      let e : 30 + j - 30 ≡ j = omega arith in
      ap (λ (c : Bool). if c then (M / 2 ^ (30 + j + 1) % 2 == 1) && not (a (30 + j) == b (30 + j))
      else not (bit_and (bit_xor (a (30 + j)) (b (30 + j))) (mask (30 + j - 30)) == 0))
      (le-ltb (30 + j) 30 (omega arith))
      ∙ ap (λ (x : ℕ). not (bit_and (bit_xor (a (30 + j)) (b (30 + j))) (mask x) == 0)) e

  pub dword_same : (j : ℕ) → bit_and (bit_xor (a (30 + j)) (b (30 + j))) (mask j) ≡ 0 → differs M mask a b (30 + j)
      ≡ false
  dword_same j e = dword j ∙ ap not (eq-eqb _ _ e)

  pub dword_other : (j : ℕ) → bit_and (bit_xor (a (30 + j)) (b (30 + j))) (mask j) ≢ 0 → differs M mask a b (30 + j)
      ≡ true
  dword_other j e = dword j ∙ ap not (ne_eqb _ _ e)

  -- a register
  register : (i : ℕ) → i < 30 → differs M mask a b i ≡ ((M / 2 ^ (i + 1) % 2 == 1) && not (a i == b i))
  unfolding differs
  register i l = ap (λ (c : Bool). if c then (M / 2 ^ (i + 1) % 2 == 1) && not (a i == b i)
      else not (bit_and (bit_xor (a i) (b i)) (mask (i - 30)) == 0)) (lt-ltb i 30 l)

  -- its bit of the mask
  bit : (i : ℕ) → bit_and (2 ^ suc i) M ≡ M / 2 ^ (i + 1) % 2 * 2 ^ suc i
  bit i =
      let e : suc i ≡ i + 1 = omega arith in
      and_comm (2 ^ suc i) M ∙ (and_pow M (suc i) ∙ ap (λ (x : ℕ). M / 2 ^ x % 2 * 2 ^ suc i) e)

  pub unset : (i x : ℕ) → x ≡ M / 2 ^ (i + 1) % 2 → bit_and (2 ^ suc i) M ≡ 0 → x ≢ 1
  unset i x e h one =
      let p = pow_pos (suc i) in
      let q : bit_and (2 ^ suc i) M ≡ 1 * 2 ^ suc i = bit i ∙ ap (λ (y : ℕ). y * 2 ^ suc i) (sym e ∙ one) in
      omega arith

  pub set : (i x : ℕ) → x ≡ M / 2 ^ (i + 1) % 2 → x < 2 → bit_and (2 ^ suc i) M ≢ 0 → x ≡ 1
  set i zero e l h = let q : bit_and (2 ^ suc i) M ≡ 0 * 2 ^ suc i = bit i ∙ ap (λ (y : ℕ). y * 2 ^ suc i) (sym e) in
      absurd (h (omega arith))
  set i (suc zero) e l h = refl
  set i (suc (suc x)) e l h = absurd (omega arith)

  -- whether it is set
  pub bit_off : (i : ℕ) → bit_and (2 ^ suc i) M ≡ 0 → (M / 2 ^ (i + 1) % 2 == 1) ≡ false
  bit_off i h = ne_eqb _ _ (unset i (M / 2 ^ (i + 1) % 2) refl h)

  pub bit_on : (i : ℕ) → bit_and (2 ^ suc i) M ≢ 0 → (M / 2 ^ (i + 1) % 2 == 1) ≡ true
  bit_on i h = eq-eqb _ _ (set i (M / 2 ^ (i + 1) % 2) refl (omega arith) h)

  pub register_unchecked : (i : ℕ) → i < 30 → bit_and (2 ^ suc i) M ≡ 0 → differs M mask a b i ≡ false
  register_unchecked i l h = register i l ∙ ap (λ (c : Bool). c && not (a i == b i)) (bit_off i h)

  pub register_same : (i : ℕ) → i < 30 → a i ≡ b i → differs M mask a b i ≡ false
  register_same i l e =
      register i l ∙ (ap (λ (c : Bool). (M / 2 ^ (i + 1) % 2 == 1) && not c) (eq-eqb _ _ e) ∙ none (M / 2 ^ (i + 1) % 2
      == 1))
    where
      none : (c : Bool) → (c && false) ≡ false
      none true = refl
      none false = refl

  pub register_other : (i : ℕ) → i < 30 → bit_and (2 ^ suc i) M ≢ 0 → a i ≢ b i → differs M mask a b i ≡ true
  register_other i l h e = register i l ∙ ap₂ (λ (c d : Bool). c && not d) (bit_on i h) (ne_eqb _ _ e)

-- the test fails
abbrev Fails : (ℕ → Bool) → ℕ → Type 0
Fails test i = test i ≡ false

-- the number of the first that differs is the verdict
first_is : (test : ℕ → Bool) (k i n : ℕ) → ((l : ℕ) → l < i → test l ≡ false)
    → IsNumber (Fails test) k (i + n) (above k (first_from test i n))
first_is test k i zero h = agree (λ l p. h l (omega arith))
first_is test k i (suc n) h = by (test i) refl (first_is test k (suc i) n)
  where
    least : test i ≡ false → (l : ℕ) → l < suc i → test l ≡ false
    least e l p = here (cases_lt l i)
      where
        here : (l < i) ⊎ (i ≤ l) → test l ≡ false
        here (inl q) = h l q
        here (inr q) = let same : l ≡ i = omega arith in ap test same ∙ e

    by : (c : Bool) → test i ≡ c → (((l : ℕ) → l < suc i → test l ≡ false)
        → IsNumber (Fails test) k (suc i + n) (above k (first_from test (suc i) n)))
        → IsNumber (Fails test) k (i + suc n) (above k (if c then suc i else first_from test (suc i) n))
    by true e f =
        let number : k * 2 ^ 32 + i + 1 ≡ k * 2 ^ 32 + suc i = omega arith in
        subst (IsNumber (Fails test) k (i + suc n)) number (differ i (omega arith) (λ z. true≢false (sym e ∙ z)) h)
    by false e f =
        let all : suc i + n ≡ i + suc n = omega arith in
        subst (λ (m : ℕ). IsNumber (Fails test) k m (above k (first_from test (suc i) n))) all (f (least e))

pub verdict_is : (registers : ℕ) (mask a b : ℕ → ℕ) (k n : ℕ)
    → IsNumber (Fails (differs registers mask a b)) k (30 + n) (verdict_number registers mask a b k n)
unfolding verdict_number
verdict_is registers mask a b k n =
    let e : 0 + (30 + n) ≡ 30 + n = omega arith in
    subst (λ (m : ℕ). IsNumber (Fails (differs registers mask a b)) k m
    (above k (first_from (differs registers mask a b) 0 (30 + n)))) e
    (first_is (differs registers mask a b) k 0 (30 + n) (λ l p. absurd (omega arith)))

-- another way to say which are the same
pub number_map : (S T : ℕ → Type 0) (k n v : ℕ) → ((i : ℕ) → i < n → S i → T i) → ((i : ℕ) → i < n → T i → S i)
    → IsNumber S k n v → IsNumber T k n v
number_map S T k n v to from (agree h) = agree (λ i l. to i l (h i l))
number_map S T k n v to from (differ i l d h) = differ i l (λ t. d (from i l t)) (λ j p. to j (omega arith) (h j p))

-- worked rows: x2 differs and is checked; no register is checked; byte 1 of the collected dword is checked, and is
-- the same; it differs
row_register : verdict_number 4 (λ j. 0) (λ i. i) (λ i. 0) 1 0 ≡ 4294967298
unfolding verdict_number differs
row_register = refl

row_unchecked : verdict_number 0 (λ j. 0) (λ i. i) (λ i. 0) 1 0 ≡ 0
unfolding verdict_number differs
row_unchecked = refl

row_same : verdict_number 0 (λ j. 65280) (λ i. 4660) (λ i. 4661) 1 1 ≡ 0
unfolding verdict_number differs
row_same = refl

row_byte : verdict_number 0 (λ j. 65280) (λ i. 4660) (λ i. 4916) 3 1 ≡ 12884901919
unfolding verdict_number differs
row_byte = refl
