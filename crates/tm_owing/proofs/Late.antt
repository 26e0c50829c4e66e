-- After the last run phase a byte of the windows has one writer at most.
use Rattle.std.proofs.Common.{◌≡◌, ◌≢◌, ℕ, zero, suc, ◌+◌, ◌*◌, ◌/◌, ◌%◌, ◌<◌, ◌≤◌, List, [], ◌∷◌, length, Bool}
use Rattle.std.proofs.Common.{true, false}
use Rattle.std.proofs.Common.{◌&&◌, ◌||◌, ◌==◌, ◌⊎◌, inl, inr, refl, sym, ap, ◌∙◌, subst, arith, nat_lt}
use Rattle.std.specs.Prelude.{if◌then◌else◌, Option, None, Some}
use Rattle.std.proofs.lemmas.Bool.{cases_eq, cases_lt, eq-eqb, ne_eqb, and_right, le-ltb}
use Rattle.tm_plan_cases.specs.declared.program.Program.{Program}
use Rattle.tm_plan_cases.specs.Shaped.{IsProgram}
use Rattle.tm_plan_cases.specs.Collected.{collector}
use Rattle.tm_plan_map.specs.Map.{flag_at, verdict_at, private_at, private_size, within}
use Rattle.tm_base.proofs.ListLemmas.{any-no-number}
use Rattle.tm_legal.proofs.Areas.{those-one, those-none, even-may}
use Rattle.tm_plan_map.proofs.Within.{within-false}
use Rattle.tm_world.specs.Place.{harts, case_count, passes, round_count, is_flag, is_verdict, is_private, is_window}
use Rattle.tm_world.specs.Writers.{may_write, may_write_window, may_write_running, case_of_phase, writers}
use Rattle.tm_owing.specs.May.{is_many}
use Rattle.tm_owing.proofs.Putting.{window-place}

-- what a byte of the windows may be written by
pub window-may : (p : Program) (q h b : ℕ) → IsProgram p → h < 8 → is_window b ≡ true
    → may_write p q h b ≡ may_write_window p q h b
unfolding flag_at verdict_at private_at private_size
window-may p q h b shaped l e =
    let place = window-place b e in
    let few = shaped.cases.count in
    let a : is_flag h b ≡ false = within-false (flag_at h) 8 b (inr (omega (arith, place.0, l))) in
    let v : is_verdict p h b ≡ false = any-no-number (λ c. within (verdict_at c h) 8 b) (case_count p) 0
    (λ c _ m. within-false (verdict_at c h) 8 b (inr (omega (arith, place.0, l, m, few)))) in
    let w : is_private h b ≡ false = within-false (private_at h) private_size b (inr (omega (arith, place.0, l))) in
    ap (λ (t : Bool). t || (is_verdict p h b || (is_private h b || (is_window b && may_write_window p q h b)))) a
    ∙ (ap (λ (t : Bool). t || (is_private h b || (is_window b && may_write_window p q h b))) v
    ∙ (ap (λ (t : Bool). t || (is_window b && may_write_window p q h b)) w
    ∙ ap (λ (t : Bool). t && may_write_window p q h b) e))

late-may : (p : Program) (q h b : ℕ) → (q % 2 ≡ 0 → ⊥) → round_count p * passes p ≤ q / 2
    → may_write_window p q h b ≡ false
late-may p q h b odd late =
    let case : case_of_phase p q ≡ None =
    ap (λ (t : Bool). if t then Some (q / 2 / passes p) else None)
    (and_right (q % 2 == 1) (nat_lt (q / 2) (round_count p * passes p))
    (le-ltb (q / 2) (round_count p * passes p) late))
    in
    ap (λ (t : Bool). if t then collector p.cases b == h else may_write_running p (case_of_phase p q) h b)
    (ne_eqb (q % 2) 0 odd)
    ∙ ap (λ (o : Option ℕ). may_write_running p o h b) case

many-one : (ws : List ℕ) (h : ℕ) → ws ≡ h ∷ [] → is_many ws ≡ false
many-one ws h e = ap is_many e

many-none : (ws : List ℕ) → ws ≡ [] → is_many ws ≡ false
many-none ws e = ap is_many e

pub late-few : (p : Program) (q b : ℕ) → IsProgram p → is_window b ≡ true → 2 * (round_count p * passes p) ≤ q
    → is_many (writers p q b) ≡ false
late-few p q b shaped e late = by (cases_eq (q % 2) 0) (cases_less (collector p.cases b) (harts p))
  where
    few : (h : ℕ) → h < harts p → h < 8
    few h l = let limit = shaped.cases.harts in omega (arith, l, limit)

    cases_less : (a n : ℕ) → (a < n) ⊎ (n ≤ a)
    cases_less a n = cases_lt a n

    by : (q % 2 ≡ 0) ⊎ (q % 2 ≡ 0 → ⊥) → (collector p.cases b < harts p) ⊎ (harts p ≤ collector p.cases b)
        → is_many (writers p q b) ≡ false
    by (inr odd) c =
        many-none (writers p q b) (those-none (λ g. may_write p q g b) (harts p) 0
        (λ g _ l. window-may p q g b shaped (few g (omega (arith, l))) e
        ∙ late-may p q g b odd (omega (arith, late))))
    by (inl even) (inl c) =
        many-one (writers p q b) (collector p.cases b)
        (those-one (λ g. may_write p q g b) (harts p) 0 (collector p.cases b) (omega arith) (omega (arith, c))
        (window-may p q (collector p.cases b) b shaped (few (collector p.cases b) c) e
        ∙ (even-may p q (collector p.cases b) b even ∙ eq-eqb (collector p.cases b) (collector p.cases b) refl))
        (λ g _ l n. window-may p q g b shaped (few g (omega (arith, l))) e
        ∙ (even-may p q g b even ∙ ne_eqb (collector p.cases b) g (λ z. n (sym z)))))
    by (inl even) (inr c) =
        many-none (writers p q b) (those-none (λ g. may_write p q g b) (harts p) 0
        (λ g _ l. window-may p q g b shaped (few g (omega (arith, l))) e
        ∙ (even-may p q g b even ∙ ne_eqb (collector p.cases b) g (λ z. omega (arith, z, c, l)))))
