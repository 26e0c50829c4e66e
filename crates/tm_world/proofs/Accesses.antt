-- Bytes and dwords of accesses.
use Rattle.std.proofs.Common.{◌≡◌, ◌⊎◌, ℕ, ◌+◌, ◌-◌, ◌%◌, ◌<◌, ◌≤◌, Bool, true, false, None, Some, refl, ap, subst}
use Rattle.std.proofs.Common.{arith}
use Rattle.std.specs.Prelude.{if◌then◌else◌}
use Rattle.std.proofs.lemmas.Bool.Decides.{nat_tests}
use Rattle.tm_table.specs.declared.state.Access.{Access}
use Rattle.tm_table.specs.declared.state.Access.TheVariants.{Quiet, Read, Write}
use Rattle.tm_plan_map.specs.Map.{within}
use Rattle.tm_plan_map.proofs.Within.{within-parts, within-true, within-false}
use Rattle.tm_world.specs.Place.{byte_of}
use Rattle.tm_world.specs.Run.{written, Writes}
use Rattle.tm_world.specs.Course.{reads_in, writes_in}

-- what a write leaves at a byte
pub written-inside : (a n v b : ℕ) → a ≤ b → b < a + n → written (Write a n v) b ≡ Some (byte_of v (b - a))
written-inside a n v b p q = ap (λ (c : Bool). if c then Some (byte_of v (b - a)) else None) (within-true a n b p q)

pub written-outside : (a n v b : ℕ) → (b < a) ⊎ (a + n ≤ b) → written (Write a n v) b ≡ None
written-outside a n v b h = ap (λ (c : Bool). if c then Some (byte_of v (b - a)) else None) (within-false a n b h)

-- a byte that is written is one that may be
pub writes-may : (P : ℕ → Type 0) (a : Access) (b w : ℕ) → Writes P a → written a b ≡ Some w → P b
writes-may P Quiet b w h e = cc
writes-may P (Read addr width value) b w h e = cc
writes-may P (Write addr width value) b w h e = by (within addr width b) refl e
  where
    by : (t : Bool) → within addr width b ≡ t → (if t then Some (byte_of value (b - addr)) else None) ≡ Some w → P b
    by true f g =
        let q = within-parts addr width b f in
        let s : addr + (b - addr) ≡ b = omega (arith, q) in
        subst P s (h (b - addr) (omega (arith, q)))
    by false f g = cc

-- aligned dwords that overlap are one
pub one-dword : (a b v : ℕ) → a % 8 ≡ 0 → b % 8 ≡ 0 → reads_in a 8 (Read b 8 v) ≡ true → b ≡ a
one-dword a b v e f g =
    let x : b < a + 8 = grind (arith, nat_tests) in
    let y : a < b + 8 = grind (arith, nat_tests) in
    omega arith

-- a write of a dword is one of its bytes
pub writes-itself : (a v : ℕ) → writes_in a 8 (Write a 8 v) ≡ true
writes-itself a v = grind (arith, nat_tests)
