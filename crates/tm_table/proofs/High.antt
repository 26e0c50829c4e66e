-- The high half of a product of two numbers with a sign.
use Rattle.std.proofs.Common.{◌≡◌, ℕ, suc, ◌-◌, ◌^◌, ◌<◌, ◌≤◌, ◌⊎◌, inl, inr, ℤ, pos, negsuc, ◌*ℤ◌}
use Rattle.std.proofs.Common.{to_z, of_z, w64, sym, ap, ap₂, ◌∙◌, arith, nat_lt, FitsSigned}
use Rattle.std.specs.Int.{w128}
use Rattle.std.proofs.lemmas.Int.{ints, to_z-of_z, fits_signed_mul}
use Rattle.std.proofs.lemmas.Bool.{cases_lt, lt-ltb, le-ltb, cond-true, cond-false}
use lib.Signed.{mag, shr_z, nat_abs-le}
use mir.Facts.{to_z-neg}
use Rattle.tm_table.specs.Row.{shifted_down, signed64}

-- both ways to read 64 bits with a sign
signed-is : (n : ℕ) → n < 2 ^ 64 → to_z w64 n ≡ signed64 n
signed-is n l = by (cases_lt n (2 ^ 63))
  where
    by : (n < 2 ^ 63) ⊎ (2 ^ 63 ≤ n) → to_z w64 n ≡ signed64 n
    by (inl a) =
        let e : to_z w64 n ≡ pos n = omega (arith, ints) in
        e ∙ sym (cond-true (nat_lt n (2 ^ 63)) (pos n) (negsuc (2 ^ 64 - 1 - n)) (lt-ltb n (2 ^ 63) a))
    by (inr a) =
        let k : ℕ = 2 ^ 64 - 1 - n in
        let back : n ≡ 2 ^ 64 - suc k = omega arith in
        let e : to_z w64 n ≡ negsuc (2 ^ 64 - 1 - n) = ap (to_z w64) back ∙ to_z-neg w64 k (omega arith) in
        e ∙ sym (cond-false (nat_lt n (2 ^ 63)) (pos n) (negsuc (2 ^ 64 - 1 - n)) (le-ltb n (2 ^ 63) a))

high-fits : (p : ℤ) → mag p < 2 ^ 127 → FitsSigned w64 (shr_z p 18446744073709551616)
high-fits (pos n) l = record { sfits = omega arith }
high-fits (negsuc n) l = record { sfits = omega arith }

high-wide : (p : ℤ) → mag p < 2 ^ 127 → FitsSigned w128 (shr_z p 18446744073709551616)
high-wide (pos n) l = record { sfits = omega arith }
high-wide (negsuc n) l = record { sfits = omega arith }

high-low : (p : ℤ) → mag p < 2 ^ 127 → of_z w64 (shr_z p 18446744073709551616) ≡ shifted_down 64 p
high-low (pos n) l = omega arith
high-low (negsuc n) l = omega arith

-- numbers of 64 bits with a sign, multiplied with 128 bits and shifted right
pub high-product : (r a b : ℕ) (x y u v : ℤ) → a < 2 ^ 64 → b < 2 ^ 64 → mag x < 2 ^ 63 → mag y < 2 ^ 63
    → x ≡ to_z w64 a → y ≡ to_z w64 b → u ≡ to_z w64 (of_z w64 x) → v ≡ to_z w64 (of_z w64 y)
    → r ≡ of_z w64 (to_z w64 (of_z w64 (to_z w128 (of_z w128 (shr_z (to_z w128 (of_z w128
    (to_z w128 (of_z w128 u) *ℤ to_z w128 (of_z w128 v)))) 18446744073709551616)))))
    → r ≡ shifted_down 64 (signed64 a *ℤ signed64 b)
high-product r a b x y u v la lb lx ly ex ey eu ev is =
    let fx : FitsSigned w64 x = record { sfits = lx } in
    let fy : FitsSigned w64 y = record { sfits = ly } in
    let gx : FitsSigned w128 x = record { sfits = omega (arith, lx) } in
    let gy : FitsSigned w128 y = record { sfits = omega (arith, ly) } in
    let ux : u ≡ x = eu ∙ to_z-of_z w64 x fx in
    let vy : v ≡ y = ev ∙ to_z-of_z w64 y fy in
    let wide : ℤ → ℤ = λ z. to_z w128 (of_z w128 z) in
    let wx : wide u ≡ x = ap wide ux ∙ to_z-of_z w128 x gx in
    let wy : wide v ≡ y = ap wide vy ∙ to_z-of_z w128 y gy in
    let p : ℤ = x *ℤ y in
    let fp : FitsSigned w128 p = fits_signed_mul w128 x y (2 ^ 63) (2 ^ 63) (nat_abs-le x lx) (nat_abs-le y ly)
    (omega arith) in
    let lp = fp.sfits in
    let wp : wide (wide u *ℤ wide v) ≡ p = ap₂ (λ (s t : ℤ). wide (s *ℤ t)) wx wy ∙ to_z-of_z w128 p fp in
    let shift : ℤ → ℤ = λ z. shr_z z 18446744073709551616 in
    let last : ℤ → ℕ = λ z. of_z w64 (to_z w64 (of_z w64 (wide (shift z)))) in
    let end : last p ≡ of_z w64 (shift p) =
    ap (λ (z : ℤ). of_z w64 (to_z w64 (of_z w64 z))) (to_z-of_z w128 (shift p) (high-wide p lp))
    ∙ ap (of_z w64) (to_z-of_z w64 (shift p) (high-fits p lp)) in
    is ∙ (ap last wp ∙ (end ∙ (high-low p lp
    ∙ ap₂ (λ (s t : ℤ). shifted_down 64 (s *ℤ t)) (ex ∙ signed-is a la) (ey ∙ signed-is b lb))))
