-- Who may write a shared byte: in a run phase the harts with a store slot that covers it, in a phase after it its
-- collector alone.
use Rattle.std.proofs.Common.{◌≡◌, ℕ, zero, suc, ◌+◌, ◌%◌, ◌<◌, ◌≤◌, List, [], ◌∷◌, Bool, true, false, ◌&&◌, ◌||◌}
use Rattle.std.proofs.Common.{not, ◌==◌, Option, Some, inr, refl, sym, ap, ap₂, ◌∙◌, arith, eq-eqb, ne_eqb}
use Rattle.std.specs.Prelude.{if◌then◌else◌}
use Rattle.tm_plan_cases.specs.declared.program.Program.{Program}
use Rattle.tm_plan_map.specs.Map.{flag_at, verdict_at, private_at, private_size, windows_base, windows_size, within}
use Rattle.tm_plan_cases.specs.Collected.{is_declared, collector}
use Rattle.tm_base.specs.Lists.{count_from}
use Rattle.tm_base.proofs.ListLemmas.{any-no-number}
use Rattle.tm_world.specs.Lists.{those}
use Rattle.tm_world.specs.Place.{harts, case_count, is_flag, is_verdict, is_private, is_window}
use Rattle.tm_world.specs.Writers.{may_store, case_of_phase, may_write, may_write_running, may_write_window, writers}
use Rattle.tm_world.specs.Kinds.{another}
use Rattle.tm_world.specs.Slots.{another_may_store}
use Rattle.tm_plan_map.proofs.Within.{within-parts, within-false}
use Rattle.tm_legal.specs.Tame.{Formed}
use Rattle.tm_legal.proofs.Streams.{declared-window}
use Rattle.tm_stays.proofs.Right.{run-odd}
use Rattle.tm_stays.proofs.Dwords.{lies}
use Rattle.tm_quiet.proofs.Lists.{any-those}
use Rattle.tm_legal.proofs.Formed.{formed-sizes}
use Rattle.tm_legal.proofs.Areas.{those-one}

-- two tests that are alike pass the same
those-alike : (f g : ℕ → Bool) (n a : ℕ) → ((c : ℕ) → a ≤ c → c < a + n → f c ≡ g c) → those f (count_from a n)
    ≡ those g (count_from a n)
those-alike f g zero a h = refl
those-alike f g (suc n) a h = ap₂ (λ (b : Bool) (xs : List ℕ). if b then a ∷ xs
    else xs) (h a (omega arith) (omega arith)) (those-alike f g n (suc a) (λ c l m. h c (omega arith) (omega arith)))

module _ (p : Program) (formed : Formed p) (b : ℕ) (shared : is_declared p.cases b ≡ true) where
  pub in-window : is_window b ≡ true
  in-window = let l = lies p.cases b formed.program.cases shared in
      declared-window p.cases.line b l.window l.shaped l.holds

  -- it is no byte of flags, verdict cells and private areas
  window-alone : (q g : ℕ) → g < harts p → may_write p q g b ≡ may_write_window p q g b
  unfolding flag_at verdict_at private_at private_size windows_base windows_size
  window-alone q g l =
      let place = within-parts windows_base windows_size b in-window in
      let limit = (formed-sizes formed).harts in
      let few = formed.program.cases.count in
      let a : is_flag g b ≡ false = within-false (flag_at g) 8 b (inr (omega arith)) in
      let v : is_verdict p g b ≡ false = any-no-number (λ c. within (verdict_at c g) 8 b) (case_count p) 0
      (λ c _ y. within-false (verdict_at c g) 8 b (inr (omega (arith, place, few, limit)))) in
      let d : is_private g b ≡ false = within-false (private_at g) private_size b (inr (omega (arith, place, limit))) in
      ap (λ (t : Bool). t || (is_verdict p g b || (is_private g b || (is_window b && may_write_window p q g b)))) a
      ∙ (ap (λ (t : Bool). t || (is_private g b || (is_window b && may_write_window p q g b))) v
      ∙ (ap (λ (t : Bool). t || (is_window b && may_write_window p q g b)) d
      ∙ ap (λ (t : Bool). t && may_write_window p q g b) in-window))

  -- in a run phase
  pub run-writers : (q c : ℕ) → case_of_phase p q ≡ Some c
      → writers p q b ≡ those (λ g. may_store p.cases c g b) (count_from 0 (harts p))
  run-writers q c run = those-alike (λ g. may_write p q g b) (λ g. may_store p.cases c g b) (harts p) 0
      (λ g _ l. window-alone q g (omega arith) ∙ in-run g)
    where
      in-run : (g : ℕ) → may_write_window p q g b ≡ may_store p.cases c g b
      in-run g =
          ap (λ (t : Bool). if t then collector p.cases b == g else may_write_running p (case_of_phase p q) g b)
          (run-odd p q c run)
          ∙ (ap (λ (z : Option ℕ). may_write_running p z g b) run ∙ ap (λ (t : Bool). t && may_store p.cases c g b)
          shared)

  -- another hart may write it in the run phase where another hart may store to it
  pub run-another : (q c h : ℕ) → case_of_phase p q ≡ Some c → another h (writers p q b)
      ≡ another_may_store p.cases c h b
  run-another q c h run = ap (another h) (run-writers q c run) ∙ any-those (λ g. not (g == h))
      (λ g. may_store p.cases c g b) (count_from 0 (harts p))

  -- in an even phase
  pub even-writers : (q : ℕ) → q % 2 ≡ 0 → writers p q b ≡ collector p.cases b ∷ []
  unfolding collector
  even-writers q e =
      let some = formed.program.cases.harts.0 in
      those-one (λ g. may_write p q g b) (harts p) 0 (collector p.cases b) (omega arith) (omega arith)
      (window-alone q (collector p.cases b) (omega arith) ∙
      (even (collector p.cases b) ∙ eq-eqb (collector p.cases b) (collector p.cases b) refl))
      (λ g _ l n. window-alone q g (omega arith) ∙ (even g ∙ ne_eqb (collector p.cases b) g (λ z. n (sym z))))
    where
      even : (g : ℕ) → may_write_window p q g b ≡ (collector p.cases b == g)
      even g = ap (λ (t : Bool). if t then collector p.cases b == g else may_write_running p (case_of_phase p q) g b)
          (eq-eqb (q % 2) 0 e)
