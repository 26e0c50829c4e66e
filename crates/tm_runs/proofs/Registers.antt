-- Registers as a list and as a table.
use Rattle.std.proofs.Common.{◌≡◌, ◌≢◌, ℕ, zero, suc, ◌-◌, ◌^◌, ◌<◌, ◌≤◌, List, length, Bool}
use Rattle.std.proofs.Common.{true, false, true≢false, ◌⊎◌, inl, inr, refl, sym, ◌∙◌}
use Rattle.std.proofs.Common.{subst, arith, eq-eqb, eqb-true}
use Rattle.std.specs.Prelude.{nat_eq, slice_index}
use Rattle.std.proofs.Math.ListN.{set}
use Rattle.std.proofs.lemmas.List.{get_or-set_same, get_or-set_other, length-set}
use Rattle.tm_table.specs.Row.{put as set_register, loaded as value_of}
use Rattle.tm_table.proofs.Signs.{low-lt}
use Rattle.tm_world.specs.Run.{IsFitting}
use Rattle.tm_runs.specs.Machine.{Table, put, get}
use Rattle.tm_runs.proofs.Tables.{put_same, get_put_other, get_put_zero}

-- a list of registers as a map
pub get-list : (x : List ℕ) → slice_index x 0 ≡ 0 → (r : ℕ) → get (λ q. slice_index x q) r ≡ slice_index x r
get-list x e zero = sym e
get-list x e (suc r) = refl

pub put-list : (f : Table) (x : List ℕ) (rd v : ℕ) → ((r : ℕ) → get f r ≡ slice_index x r) → length x ≡ 32 → rd < 32
    → (r : ℕ) → get (put f rd v) r ≡ slice_index (set_register x rd v) r
unfolding set_register
put-list f x zero v h l b r = get_put_zero f v r ∙ h r
put-list f x (suc q) v h l b r = by (nat_eq r (suc q)) refl
  where
    by : (c : Bool) → nat_eq r (suc q) ≡ c → get (put f (suc q) v) r ≡ slice_index (set x (suc q) v) r
    by true e = subst (λ (z : ℕ). get (put f (suc q) v) z ≡ slice_index (set x (suc q) v) z)
        (sym (eqb-true r (suc q) e)) (put_same f (suc q) v ∙ sym (get_or-set_same x (suc q) v 0 (omega arith)))
    by false e =
        let n : r ≢ suc q = λ z. true≢false (sym (eq-eqb r (suc q) z) ∙ e) in
        get_put_other f (suc q) v r n ∙ (h r ∙ sym (get_or-set_other x (suc q) r v 0 n))

pub put-length : (x : List ℕ) (rd v : ℕ) → length (set_register x rd v) ≡ length x
unfolding set_register
put-length x zero v = refl
put-length x (suc q) v = length-set x (suc q) v

-- what a load puts into a register
pub width-fits : (width v : ℕ) → IsFitting width v → v < 2 ^ 64
width-fits width v f = by f.0
  where
    at : (w : ℕ) → width ≡ w → 256 ^ w ≤ 2 ^ 64 → v < 2 ^ 64
    at w e l = let b : v < 256 ^ w = subst (λ (n : ℕ). v < 256 ^ n) e f.1 in omega arith

    by : (width ≡ 1) ⊎ ((width ≡ 2) ⊎ ((width ≡ 4) ⊎ (width ≡ 8))) → v < 2 ^ 64
    by (inl e) = at 1 e (omega arith)
    by (inr (inl e)) = at 2 e (omega arith)
    by (inr (inr (inl e))) = at 4 e (omega arith)
    by (inr (inr (inr e))) = at 8 e (omega arith)

pub value-fits : (with_sign : Bool) (width v : ℕ) → IsFitting width v → value_of with_sign width v < 2 ^ 64
value-fits false width v f = width-fits width v f
value-fits true width v f = low-lt 64 _
