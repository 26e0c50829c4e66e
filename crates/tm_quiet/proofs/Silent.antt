-- Passes agree on all that is checked, so each true verdict is 0.
use Rattle.std.proofs.Common.{◌≡◌, ℕ, ◌<◌, List, [], ◌∷◌, Option, None, Some, refl, sym, ap, ◌∙◌, subst, arith}
use Rattle.std.specs.Prelude.{IsTrue, All, slice_get}
use Rattle.std.specs.List.{AllByRecursion as Each}
use Rattle.std.proofs.lemmas.List.Elements.{All-from_recursion, recursion_from_All}
use Rattle.tm_base.proofs.ListLemmas.{none-past}
use Rattle.tm_table.specs.declared.state.Access.TheVariants.{Write}
use Rattle.tm_table.specs.State.{Hart}
use Rattle.tm_plan_cases.specs.declared.program.Program.{Program}
use Rattle.tm_plan_cases.specs.declared.masks.CaseMask.{CaseMask}
use Rattle.tm_plan_map.specs.Map.{verdict_at}
use Rattle.tm_world.specs.Place.{harts, case_count, passes}
use Rattle.tm_world.specs.Run.{Step, own, first_state, hart_of, access_of}
use Rattle.tm_world.specs.Kinds.{Legal}
use Rattle.tm_world.specs.Course.{OnHalf, KeepsVerdicts, writes_in}
use Rattle.tm_world.specs.Verdict.{Part, end_value, saved, parts, is_checked, Same, IsVerdict, agree, differ}
use Rattle.tm_world.specs.Verdict.{WritesExactly}
use Rattle.tm_world.specs.Reported.{NotReported}
use Rattle.tm_world.proofs.Prefix.{earlier, Legal-earlier}
use Rattle.tm_legal.proofs.Own.{own-here}
use Rattle.tm_world.specs.Verdict.{HasEnds}
use Rattle.tm_quiet.specs.Laws.{IsCompared, Tracked, Silent}
use Rattle.tm_quiet.proofs.Legal.{holds-on}
use Rattle.tm_quiet.proofs.Saved.{saved-compared}
use Rattle.tm_quiet.proofs.Exists.{ends-there}
use Rattle.tm_quiet.proofs.Agree.{formed-of, masked-case, parts-agree}

pub each-joined : (P Q R S : Part → Type 0) → ((part : Part) → P part → Q part → R part → S part) → (ps : List Part)
    → Each P ps → Each Q ps → Each R ps → Each S ps
each-joined P Q R S f [] x y z = tt
each-joined P Q R S f (part ∷ ps) x y z = (f part x.0 y.0 z.0, each-joined P Q R S f ps x.1 y.1 z.1)

-- a number that is the verdict where no part differs is 0
pub no-verdict : (p : Program) (m : CaseMask) (h c : ℕ) (first : Hart) (own : List Step) (v : ℕ)
    → ((k i : ℕ) → k < passes p → i < saved p h → Same p m h c first own k i) → IsVerdict p m h c first own v → v ≡ 0
no-verdict p m h c first own v same (agree f) = refl
no-verdict p m h c first own v same (differ k i l li d f g) = absurd (d (same k i l li))

module _ (p : Program) (t : Tracked p) (exact : (h : ℕ) → h < harts p → OnHalf p h (WritesExactly p h)) (o : ℕ
    → List ℕ) where
  same-dword : (past : List Step) → Legal p (earlier o past) → (h c : ℕ) → h < harts p
      → ((k i : ℕ) → k < passes p → i < saved p h → All (λ part. (u : ℕ)
      × (end_value p h c k (first_state (o h)) (own h past) part ≡ Some u)) (parts p h i))
      → (m : CaseMask) → slice_get p.masks.cases c ≡ Some m → (k i : ℕ) → k < passes p → i < saved p h
      → Same p m h c (first_state (o h)) (own h past) k i
  same-dword past legal h c number all m masked k i l li =
      let first = first_state (o h) in
      let (case, at) = masked-case p t c m masked in
      let Has = λ (j : ℕ) (part : Part). (u : ℕ) × (end_value p h c j first (own h past) part ≡ Some u) in
      let Is = λ (part : Part). IsTrue (is_checked m h part) → end_value p h c k first (own h past) part
      ≡ end_value p h c 0 first (own h past) part in
      let some = t.program.cases.passes.0 in
      All-from_recursion Is (parts p h i)
      (each-joined (IsCompared p h) (Has k) (Has 0) Is (λ part f x y checked.
      x.1 ∙ (ap Some (parts-agree p t c m masked (earlier o past) legal case at h number part f checked k 0 x.0 y.0
      l (omega arith) x.1 y.1) ∙ sym y.1)) (parts p h i)
      (saved-compared p h i t.program.cases li)
      (recursion_from_All (Has k) (parts p h i) (all k i l li))
      (recursion_from_All (Has 0) (parts p h i) (all 0 i (omega arith) li)))

  step-silent : (s : Step) (past : List Step) → Legal p (earlier o (s ∷ past)) → (g : ℕ) → g < harts p → hart_of s ≡ g
      → (c h : ℕ) → c < case_count p → h < harts p → IsTrue (writes_in (verdict_at c h) 8 (access_of s))
      → access_of s ≡ Write (verdict_at c h) 8 0
  step-silent s past legal g number mine c h few l covers =
      let first = first_state (o g) in
      let formed = formed-of p t in
      let here = own-here g s past mine in
      let verdicts : KeepsVerdicts p g first (s ∷ own g past) =
      subst (KeepsVerdicts p g first) here (holds-on p formed t.course o (s ∷ past) legal g number
      (KeepsVerdicts p g) (t.course.hart g number).verdicts) in
      let it = verdicts.0 c h few l covers in
      let h-is : h ≡ g = it.0 in
      let (v, writes) = it.1.value in
      let at-h : access_of s ≡ Write (verdict_at c h) 8 v =
      writes ∙ ap (λ (n : ℕ). Write (verdict_at c n) 8 v) (sym h-is) in
      let truths : WritesExactly p g first (s ∷ own g past) =
      subst (WritesExactly p g first) here (holds-on p formed t.course o (s ∷ past) legal g number
      (WritesExactly p g) (exact g number)) in
      let there : HasEnds p g first (s ∷ own g past) =
      subst (HasEnds p g first) here (holds-on p formed t.course o (s ∷ past) legal g number (HasEnds p g)
      (ends-there p formed g number (t.course.hart g number))) in
      let before = Legal-earlier p o (s ∷ []) past legal in
      at-h ∙ ap (Write (verdict_at c h) 8) (by v (slice_get p.masks.cases c) refl
      (λ m at. no-verdict p m g c first (own g past) v
      (same-dword past before g c number (there.0 c v few writes) m at) (truths.0 c m v at writes)))
    where
      by : (v : ℕ) (z : Option CaseMask) → slice_get p.masks.cases c ≡ z
          → ((m : CaseMask) → slice_get p.masks.cases c ≡ Some m → v ≡ 0) → v ≡ 0
      by v (Some m) at f = f m at
      by v None at f = let same = t.program.masks.count in absurd (none-past p.masks.cases c (omega arith) at)

  all-silent : (steps : List Step) → Legal p (earlier o steps) → NotReported p (earlier o steps)
  all-silent [] legal = tt
  all-silent (s ∷ past) legal = (
    step-silent s past legal (hart_of s) legal.paths.only.0 refl,
    all-silent past (Legal-earlier p o (s ∷ []) past legal),
  )

pub silent : (p : Program) → Silent p
silent p t exact r legal = all-silent p t exact r.opening r.steps legal
