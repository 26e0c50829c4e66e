-- What a write of one byte leaves.
use Rattle.std.proofs.Common.{◌≡◌, ◌≢◌, ℕ, ◌+◌, ◌-◌, ◌<◌, ◌≤◌, List, Bool, true, false, ◌&&◌, ◌==◌, Option, None}
use Rattle.std.proofs.Common.{Some, ◌⊎◌}
use Rattle.std.proofs.Common.{inl, inr, refl, sym, ap, ◌∙◌, subst, length, get_or, set, arith, get_or-set_same}
use Rattle.std.proofs.Common.{get_or-set_other, eq-eqb, ne_eqb}
use Rattle.std.specs.Prelude.{IsTrue, if◌then◌else◌}
use Rattle.std.specs.BTreeMap.{BTreeMap, get}
use Rattle.std.specs.Ordering.{nat_cmp}
use Rattle.std.proofs.Math.ListN.{length-set}
use Rattle.std.proofs.lemmas.Bool.{cases_eq, true≢false, and_parts}
use Rattle.std.proofs.lemmas.List.{get_or_default}
use Rattle.tm_table.specs.declared.state.Access.TheVariants.{Write}
use Rattle.tm_plan_cases.specs.declared.program.Program.{Program}
use Rattle.tm_plan_map.specs.declared.addresses.TheConstants.{WINDOWS_ADDRESS, WINDOWS_BYTES}
use Rattle.tm_plan_map.specs.Map.{windows_base, windows_size}
use Rattle.tm_plan_map.proofs.Within.{within-parts}
use Rattle.tm_world.specs.Place.{is_window}
use Rattle.tm_world.specs.Run.{written}
use Rattle.tm_world.specs.Writers.{writers, may_write}
use Rattle.tm_world.specs.Kinds.{another}
use Rattle.tm_owing.specs.declared.writes.Latest.{Latest}
use Rattle.tm_owing.specs.declared.writes.Writes.{Writes}
use Rattle.tm_owing.specs.Writes.{IsPut, last_at}
use Rattle.tm_owing.specs.May.{alone}
use Rattle.tm_owing.specs.Owed.{Notes, newer}
use Rattle.tm_owing.proofs.Noting.{written-one, written-else}

-- where a byte of the windows stands
pub window-place : (b : ℕ) → is_window b ≡ true → (WINDOWS_ADDRESS ≤ b) × (b < WINDOWS_ADDRESS + WINDOWS_BYTES)
unfolding windows_base windows_size
window-place b e = let q = within-parts windows_base windows_size b e in (omega (arith, q), omega (arith, q))

pub alone-place : (p : Program) (q h b : ℕ) → alone p q h b ≡ true → (WINDOWS_ADDRESS ≤ b) ×
    (b < WINDOWS_ADDRESS + WINDOWS_BYTES)
alone-place p q h b t = window-place b (and_parts (is_window b) _ t).0

pub base-is : windows_base ≡ WINDOWS_ADDRESS
unfolding windows_base
base-is = refl

-- what has one entry more
put-here : {X : Type 0} (k r : ℕ) (v : X) (old new : ℕ → Option X)
    → ((j : ℕ) → new j ≡ (if j == k then Some v else old j)) → r ≡ k → new r ≡ Some v
put-here k r v old new put e = put r ∙ ap (λ (t : Bool). if t then Some v else old r) (eq-eqb r k e)

put-there : {X : Type 0} (k r : ℕ) (v : X) (old new : ℕ → Option X)
    → ((j : ℕ) → new j ≡ (if j == k then Some v else old j)) → (r ≡ k → ⊥) → new r ≡ old r
put-there k r v old new put n = put r ∙ ap (λ (t : Bool). if t then Some v else old r) (ne_eqb r k n)

module _ (p : Program) (h q b v : ℕ) (last : List Writes) (marks : List (BTreeMap ℕ ℕ)) (small : v < 256)
    (inside : h < length last) (old new : Writes) (was : old ≡ get_or last h old)
    (put : (k : ℕ) → last_at new k ≡ (if k == b then Some (record { phase = q; value = v }) else last_at old k)) where
  mine-put : (d : Writes) (k : ℕ)
      → last_at (get_or (set last h new) h d) k ≡ newer (written (Write b 1 v) k) q (last_at (get_or last h d) k)
  mine-put d k =
      ap (λ (m : Writes). last_at m k) (get_or-set_same last h new d inside) ∙ by (cases_eq k b)
    where
      by : (k ≡ b) ⊎ (k ≡ b → ⊥)
          → last_at new k ≡ newer (written (Write b 1 v) k) q (last_at (get_or last h d) k)
      by (inl e) =
          put-here b k (record { phase = q; value = v }) (last_at old) (last_at new) put e
          ∙ sym (ap (λ (w : Option ℕ). newer w q (last_at (get_or last h d) k))
          (ap (written (Write b 1 v)) e ∙ written-one b v small))
      by (inr n) =
          put-there b k (record { phase = q; value = v }) (last_at old) (last_at new) put n
          ∙ (ap (λ (m : Writes). last_at m k) (was ∙ get_or_default last h old d inside)
          ∙ sym (ap (λ (w : Option ℕ). newer w q (last_at (get_or last h d) k)) (written-else b v k n)))

  some-byte : (k x : ℕ) → written (Write b 1 v) k ≡ Some x → k ≡ b
  some-byte k x e = elim (cases_eq k b) [
    | inl s ↦ s
    | inr n ↦ absurd (none-some (written (Write b 1 v) k) (written-else b v k n) e)
  ]
    where
      none-some : (o : Option ℕ) → o ≡ None → o ≡ Some x → ⊥
      none-some o d f = cc

  -- where nothing settles
  pub notes-away : alone p q h b ≡ false → Notes p h q (Write b 1 v) last (set last h new) marks marks
  notes-away f = record {
    lasts = length-set last h new;
    mine = mine-put;
    others = λ g d k n. ap (λ (m : Writes). last_at m k) (get_or-set_other last h g new d n);
    counts = refl;
    here = λ k d l x e t.
        let s = some-byte (windows_base + k) x e in
        absurd (true≢false (sym t ∙ (ap (alone p q h) s ∙ f)));
    there = λ k d r l n. refl;
  }

  -- where it settles
  module _ (long : length marks ≡ WINDOWS_BYTES) (t : alone p q h b ≡ true) (m n : BTreeMap ℕ ℕ)
      (stood : m ≡ get_or marks (b - WINDOWS_ADDRESS) m) (mark : IsPut q v m n) where
    place : windows_base + (b - WINDOWS_ADDRESS) ≡ b
    place = let l = alone-place p q h b t in omega (arith, base-is, l)

    room : b - WINDOWS_ADDRESS < length marks
    room = let l = alone-place p q h b t in omega (arith, l, long)

    at-place : (k : ℕ) → windows_base + k ≡ b → k ≡ b - WINDOWS_ADDRESS
    at-place k e = omega (arith, base-is, e)

    set-at : (k : ℕ) (d : BTreeMap ℕ ℕ) → windows_base + k ≡ b → get_or (set marks (b - WINDOWS_ADDRESS) n) k d ≡ n
    set-at k d e =
        ap (λ (j : ℕ). get_or (set marks (b - WINDOWS_ADDRESS) n) j d) (at-place k e)
        ∙ get_or-set_same marks (b - WINDOWS_ADDRESS) n d room

    was-at : (k : ℕ) (d : BTreeMap ℕ ℕ) → windows_base + k ≡ b → m ≡ get_or marks k d
    was-at k d e =
        stood ∙ (get_or_default marks (b - WINDOWS_ADDRESS) m d room
        ∙ ap (λ (j : ℕ). get_or marks j d) (sym (at-place k e)))

    here-put : (k : ℕ) (d : BTreeMap ℕ ℕ) → k < WINDOWS_BYTES → (x : ℕ) → written (Write b 1 v) (windows_base + k) ≡
        Some x
        → IsTrue (alone p q h (windows_base + k))
        → get nat_cmp (get_or (set marks (b - WINDOWS_ADDRESS) n) k d) q ≡ Some x
    here-put k d l x e u =
        let s = some-byte (windows_base + k) x e in
        ap (λ (z : BTreeMap ℕ ℕ). get nat_cmp z q) (set-at k d s)
        ∙ (put-here q q v (get nat_cmp m) (get nat_cmp n) mark refl
        ∙ (sym (written-one b v small) ∙ (ap (written (Write b 1 v)) (sym s) ∙ e)))

    there-put : (k : ℕ) (d : BTreeMap ℕ ℕ) (r : ℕ) → k < WINDOWS_BYTES
        → (r ≡ q → IsTrue (alone p q h (windows_base + k)) → written (Write b 1 v) (windows_base + k) ≡ None)
        → get nat_cmp (get_or (set marks (b - WINDOWS_ADDRESS) n) k d) r ≡ get nat_cmp (get_or marks k d) r
    there-put k d r l none = by (cases_eq (windows_base + k) b) (cases_eq r q)
      where
        none-some : (o : Option ℕ) → o ≡ None → o ≡ Some v → ⊥
        none-some o x y = cc

        by : (windows_base + k ≡ b) ⊎ (windows_base + k ≡ b → ⊥) → (r ≡ q) ⊎ (r ≡ q → ⊥)
            → get nat_cmp (get_or (set marks (b - WINDOWS_ADDRESS) n) k d) r ≡ get nat_cmp (get_or marks k d) r
        by (inr z) w =
            ap (λ (y : BTreeMap ℕ ℕ). get nat_cmp y r)
            (get_or-set_other marks (b - WINDOWS_ADDRESS) k n d (λ e. z (ap (λ (j : ℕ). windows_base + j) e ∙ place)))
        by (inl s) (inr w) =
            ap (λ (y : BTreeMap ℕ ℕ). get nat_cmp y r) (set-at k d s)
            ∙ (put-there q r v (get nat_cmp m) (get nat_cmp n) mark w ∙ ap (λ (y : BTreeMap ℕ ℕ). get nat_cmp y r)
            (was-at k d s))
        by (inl s) (inl w) =
            absurd (none-some (written (Write b 1 v) (windows_base + k)) (none w (ap (alone p q h) s ∙ t))
            (ap (written (Write b 1 v)) s ∙ written-one b v small))

    pub notes-put : Notes p h q (Write b 1 v) last (set last h new) marks (set marks (b - WINDOWS_ADDRESS) n)
    notes-put = record {
      lasts = length-set last h new;
      mine = mine-put;
      others = λ g d k z. ap (λ (y : Writes). last_at y k) (get_or-set_other last h g new d z);
      counts = length-set marks (b - WINDOWS_ADDRESS) n;
      here = here-put;
      there = there-put;
    }
