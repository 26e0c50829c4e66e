-- Where one hart alone, or nobody, may write.
use Rattle.std.proofs.Common.{◌≡◌, ◌≢◌, ℕ, ◌+◌, ◌%◌, ◌<◌, ◌≤◌, Bool, true, false, ◌&&◌, ◌||◌, ◌==◌, not, ◌⊎◌, inl, inr}
use Rattle.std.proofs.Common.{refl, sym, ap, ◌∙◌, arith, eq-eqb, ne_eqb}
use Rattle.std.proofs.lemmas.Bool.{cases_eq, cases_lt, and_right}
use Rattle.tm_base.specs.Lists.{any, count_from}
use Rattle.tm_base.proofs.ListLemmas.{any-number, any-no-number}
use Rattle.tm_plan_cases.specs.declared.program.Program.{Program}
use Rattle.tm_plan_cases.specs.Shaped.{IsProgram}
use Rattle.tm_plan_cases.specs.Collected.{collector}
use Rattle.tm_plan_map.specs.declared.addresses.TheConstants.{FLAGS_ADDRESS}
use Rattle.tm_plan_map.specs.Map.{flag_at, verdict_at, private_at, private_size, windows_base, windows_size, within}
use Rattle.tm_plan_map.proofs.Within.{within-false, within-parts}
use Rattle.tm_world.specs.Place.{harts, case_count, is_flag, is_verdict, is_private, is_window}
use Rattle.tm_world.specs.Writers.{may_write, may_write_window, writers}
use Rattle.tm_world.specs.Kinds.{another}
use Rattle.tm_owing.proofs.Late.{window-may}
use Rattle.tm_legal.proofs.Areas.{even-may}
use Rattle.tm_owing.proofs.Maying.{another-any}

-- in none of the areas that a hart may write
may-not : (p : Program) (q g b : ℕ) → is_flag g b ≡ false → is_verdict p g b ≡ false → is_private g b ≡ false
    → is_window b ≡ false → may_write p q g b ≡ false
may-not p q g b f v s w =
    ap (λ (t : Bool). t || (is_verdict p g b || (is_private g b || (is_window b && may_write_window p q g b)))) f
    ∙ (ap (λ (t : Bool). t || (is_private g b || (is_window b && may_write_window p q g b))) v
    ∙ (ap (λ (t : Bool). t || (is_window b && may_write_window p q g b)) s
    ∙ ap (λ (t : Bool). t && may_write_window p q g b) w))

-- below the flags nobody may write
low-none : (p : Program) (q g b : ℕ) → b < FLAGS_ADDRESS → may_write p q g b ≡ false
unfolding flag_at verdict_at private_at private_size windows_base windows_size
low-none p q g b low =
    may-not p q g b (within-false (flag_at g) 8 b (inl (omega arith)))
    (any-no-number (λ c. within (verdict_at c g) 8 b) (case_count p) 0
    (λ c _ m. within-false (verdict_at c g) 8 b (inl (omega arith))))
    (within-false (private_at g) private_size b (inl (omega arith)))
    (within-false windows_base windows_size b (inl (omega arith)))

-- two private areas are apart
areas-apart : (h g b : ℕ) → g ≢ h → private_at h ≤ b → b < private_at h + private_size
    → (b < private_at g) ⊎ (private_at g + private_size ≤ b)
unfolding private_at private_size
areas-apart h g b other from to = elim (cases_lt g h) [
  | inl l ↦ inr (omega (arith, l, from))
  | inr m ↦ let l : h < g = by (cases_eq g h) m in inl (omega (arith, l, to))
]
  where
    by : (g ≡ h) ⊎ (g ≡ h → ⊥) → h ≤ g → h < g
    by (inl e) m = absurd (other e)
    by (inr n) m = omega (arith, n, m)

-- in a hart's private area no other hart may
private-none : (p : Program) (q h g b : ℕ) → IsProgram p → h < 8 → g < 8 → g ≢ h → is_private h b ≡ true
    → may_write p q g b ≡ false
unfolding flag_at verdict_at private_at private_size windows_base windows_size
private-none p q h g b shaped few less other mine =
    let place = within-parts (private_at h) private_size b mine in
    let count = shaped.cases.count in
    may-not p q g b (within-false (flag_at g) 8 b (inr (omega (arith, place.0, less))))
    (any-no-number (λ c. within (verdict_at c g) 8 b) (case_count p) 0
    (λ c _ m. within-false (verdict_at c g) 8 b (inr (omega (arith, place.0, less, m, count)))))
    (within-false (private_at g) private_size b (areas-apart h g b other place.0 place.1))
    (within-false windows_base windows_size b (inl (omega (arith, place.1, few))))

-- ---- no other hart, and one alone

another-not : (p : Program) (q h b : ℕ) → ((g : ℕ) → g < harts p → g ≢ h → may_write p q g b ≡ false)
    → another h (writers p q b) ≡ false
another-not p q h b none =
    another-any h (λ g. may_write p q g b) (count_from 0 (harts p))
    ∙ any-no-number (λ g. not (g == h) && may_write p q g b) (harts p) 0 (λ g _ l. by g (omega arith) (cases_eq g h))
  where
    by : (g : ℕ) → g < harts p → (g ≡ h) ⊎ (g ≡ h → ⊥) → (not (g == h) && may_write p q g b) ≡ false
    by g l (inl e) = ap (λ (t : Bool). not t && may_write p q g b) (eq-eqb g h e)
    by g l (inr n) = and_right (not (g == h)) (may_write p q g b) (none g l n)

pub another-low : (p : Program) (q h b : ℕ) → b < FLAGS_ADDRESS → another h (writers p q b) ≡ false
another-low p q h b low = another-not p q h b (λ g l n. low-none p q g b low)

pub another-private : (p : Program) (q h b : ℕ) → IsProgram p → h < harts p → is_private h b ≡ true
    → another h (writers p q b) ≡ false
another-private p q h b shaped l mine =
    let limit = shaped.cases.harts in
    another-not p q h b (λ g m n. private-none p q h g b shaped (omega (arith, l, limit)) (omega (arith, m, limit)) n
    mine)

-- in an even phase a byte of the windows has one writer, the collector of its line
pub another-even : (p : Program) (q h b : ℕ) → IsProgram p → is_window b ≡ true → q % 2 ≡ 0
    → collector p.cases b < harts p → another h (writers p q b) ≡ not (collector p.cases b == h)
another-even p q h b shaped w even inside = by (cases_eq (collector p.cases b) h)
  where
    few : (g : ℕ) → g < harts p → g < 8
    few g l = let limit = shaped.cases.harts in omega (arith, l, limit)

    may-is : (g : ℕ) → g < harts p → may_write p q g b ≡ (collector p.cases b == g)
    may-is g l = window-may p q g b shaped (few g l) w ∙ even-may p q g b even

    by : (collector p.cases b ≡ h) ⊎ (collector p.cases b ≡ h → ⊥)
        → another h (writers p q b) ≡ not (collector p.cases b == h)
    by (inl e) =
        another-not p q h b (λ g l n. may-is g l ∙ ne_eqb (collector p.cases b) g (λ z. n (sym z ∙ e)))
        ∙ sym (ap not (eq-eqb (collector p.cases b) h e))
    by (inr n) =
        another-any h (λ g. may_write p q g b) (count_from 0 (harts p))
        ∙ any-number (λ g. not (g == h) && may_write p q g b) (harts p) 0 (collector p.cases b) (omega arith)
        (omega (arith, inside))
        (ap (λ (t : Bool). not t && may_write p q (collector p.cases b) b) (ne_eqb (collector p.cases b) h n)
        ∙ (may-is (collector p.cases b) inside ∙ eq-eqb (collector p.cases b) (collector p.cases b) refl))
        ∙ sym (ap not (ne_eqb (collector p.cases b) h n))
