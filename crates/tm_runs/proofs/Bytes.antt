-- Numbers and their bytes, the lowest first.
use Rattle.std.proofs.Common.{◌≡◌, ℕ, zero, suc, ◌+◌, ◌-◌, ◌*◌, ◌/◌, ◌%◌, ◌^◌, ◌<◌}
use Rattle.std.proofs.Common.{sym, ap, ◌∙◌, arith}
use Rattle.std.proofs.Math.Nat.{div-div-eq-div-mul, pow-succ'}
use Rattle.tm_world.specs.Place.{byte_of}
use Rattle.tm_runs.specs.World.{joined}

pub byte-shift : (v i : ℕ) → byte_of v (suc i) ≡ byte_of (v / 256) i
byte-shift v i = ap (λ (d : ℕ). v / d % 256) (pow-succ' 256 i) ∙ ap (λ (q : ℕ). q % 256)
    (sym (div-div-eq-div-mul v 256 (256 ^ i)))

pub byte-lt : (v i : ℕ) → byte_of v i < 256
byte-lt v i = omega arith

-- k bytes hold x
abbrev Fit : ℕ → ℕ → Type 0
Fit x zero = x ≡ 0
Fit x (suc k) = Fit (x / 256) k

same : (k x y : ℕ) → Fit x k → Fit y k → ((i : ℕ) → i < k → byte_of x i ≡ byte_of y i) → x ≡ y
same zero x y f g h = f ∙ sym g
same (suc k) x y f g h =
    let low : x % 256 ≡ y % 256 = let e = h 0 (omega arith) in omega arith in
    let high : x / 256 ≡ y / 256 =
    same k (x / 256) (y / 256) f g (λ i p. sym (byte-shift x i) ∙ (h (suc i) (omega arith) ∙ byte-shift y i)) in
    omega arith

-- 8 bytes tell a dword
pub same_dword : (x y : ℕ) → x < 2 ^ 64 → y < 2 ^ 64 → ((i : ℕ) → i < 8 → byte_of x i ≡ byte_of y i) → x ≡ y
same_dword x y f g h = same 8 x y (omega arith) (omega arith) h

pub joined-byte : (f : ℕ → ℕ) (n i : ℕ) → ((j : ℕ) → f j < 256) → i < n → byte_of (joined f n) i ≡ f i
joined-byte f zero i h l = absurd (omega arith)
joined-byte f (suc n) zero h l = let b = h 0 in omega arith
joined-byte f (suc n) (suc i) h l =
    let q = joined (λ j. f (suc j)) n in
    let e : (f 0 + 256 * q) / 256 ≡ q = let b = h 0 in omega arith in
    byte-shift (f 0 + 256 * q) i ∙ (ap (λ (x : ℕ). byte_of x i) e ∙ joined-byte (λ j. f (suc j)) n i (λ j. h (suc j))
    (omega arith))

pub joined-lt : (f : ℕ → ℕ) (n : ℕ) → ((j : ℕ) → f j < 256) → joined f n < 256 ^ n
joined-lt f zero h = omega arith
joined-lt f (suc n) h =
    let b = h 0 in
    let q = joined-lt (λ j. f (suc j)) n (λ j. h (suc j)) in
    let e = pow-succ' 256 n in
    omega arith
