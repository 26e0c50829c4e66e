-- Hart by hart: a hart's own steps, as a run of their own.
use Rattle.std.proofs.Common.{◌≡◌, ◌≢◌, ℕ, ◌+◌, ◌<◌, List, [], ◌∷◌, Bool, Option, ◌⊎◌, inl, inr, refl, sym, ap, ◌∙◌}
use Rattle.std.proofs.Common.{subst, eq-eqb, ne_eqb}
use Rattle.std.specs.Prelude.{if◌then◌else◌, IfSome}
use Rattle.std.proofs.lemmas.Bool.{cases_eq}
use Rattle.tm_table.specs.declared.state.Access.{Access}
use Rattle.tm_table.specs.declared.state.Access.TheVariants.{Quiet, Read, Write}
use Rattle.tm_table.specs.State.{Hart}
use Rattle.tm_plan_cases.specs.declared.program.Program.{Program}
use Rattle.tm_world.specs.Place.{harts, byte_of}
use Rattle.tm_world.specs.Run.{Step, Always, own, hart_of, first_state, Reads}
use Rattle.tm_world.specs.Kinds.{IsOpening, Half, HalfPath}
use Rattle.tm_world.specs.Course.{OnHalf}
use Rattle.tm_world.proofs.Prefix.{earlier}

pub own-here : (h : ℕ) (s : Step) (past : List Step) → hart_of s ≡ h → own h (s ∷ past) ≡ s ∷ own h past
own-here h s past e = ap (λ (b : Bool). if b then s ∷ own h past else own h past) (eq-eqb (hart_of s) h e)

pub own-there : (h : ℕ) (s : Step) (past : List Step) → (hart_of s ≡ h → ⊥) → own h (s ∷ past) ≡ own h past
own-there h s past e = ap (λ (b : Bool). if b then s ∷ own h past else own h past) (ne_eqb (hart_of s) h e)

-- all steps are hart h's
abbrev pub Owns : ℕ → List Step → Type 0
Owns h = Always (λ past s. hart_of s ≡ h)

pub owns : (h : ℕ) (steps : List Step) → Owns h (own h steps)
owns h [] = tt
owns h (s ∷ past) = by (cases_eq (hart_of s) h) (owns h past)
  where
    by : (hart_of s ≡ h) ⊎ (hart_of s ≡ h → ⊥) → Owns h (own h past) → Owns h (own h (s ∷ past))
    by (inl e) rest = subst (Owns h) (sym (own-here h s past e)) (e, rest)
    by (inr n) rest = subst (Owns h) (sym (own-there h s past n)) rest

own-all : (h : ℕ) (steps : List Step) → Owns h steps → own h steps ≡ steps
own-all h [] a = refl
own-all h (s ∷ past) a = own-here h s past a.0 ∙ ap (λ (l : List Step). s ∷ l) (own-all h past a.1)

own-none : (h g : ℕ) (steps : List Step) → Owns h steps → g ≢ h → own g steps ≡ []
own-none h g [] a n = refl
own-none h g (s ∷ past) a n = own-there g s past (λ e. n (sym e ∙ a.0)) ∙ own-none h g past a.1 n

below : (h n : ℕ) (steps : List Step) → Owns h steps → h < n → Always (λ past s. hart_of s < n) steps
below h n [] a l = tt
below h n (s ∷ past) a l = (subst (λ (g : ℕ). g < n) (sym a.0) l, below h n past a.1 l)

module _ (p : Program) (h : ℕ) (number : h < harts p) (o : ℕ → List ℕ) (opens : (g : ℕ) → g < harts p
    → IsOpening g (o g)) where
  -- A hart's own steps of a half run are, with those of no other hart, a half run.
  solo : (steps : List Step) → Owns h steps → HalfPath p h (first_state (o h)) steps → Half p (earlier o steps)
  solo steps a path = record {
    opening = opens;
    only = below h (harts p) steps a number;
    each = λ g _. by g (cases_eq g h);
  }
    where
      by : (g : ℕ) → (g ≡ h) ⊎ (g ≡ h → ⊥) → HalfPath p g (first_state (o g)) (own g steps)
      by g (inl e) = subst (λ (k : ℕ). HalfPath p k (first_state (o k)) (own k steps)) (sym e)
          (subst (HalfPath p h (first_state (o h))) (sym (own-all h steps a)) path)
      by g (inr n) = subst (HalfPath p g (first_state (o g))) (sym (own-none h g steps a n)) tt

  -- So what holds on half runs holds of such steps.
  pub of-half : (P : Hart → List Step → Type 0) → OnHalf p h P → (steps : List Step) → Owns h steps
      → HalfPath p h (first_state (o h)) steps → P (first_state (o h)) steps
  of-half P k steps a path = subst (P (first_state (o h))) (own-all h steps a) (k (earlier o steps) (solo steps a path))

-- reads are judged by what is owed
pub reads-same : (f g : ℕ → Option ℕ) (a : Access) → ((b : ℕ) → f b ≡ g b) → Reads f a → Reads g a
reads-same f g Quiet e r = tt
reads-same f g (Write addr width value) e r = tt
reads-same f g (Read addr width value) e r = λ i l. subst (λ (o : Option ℕ). IfSome o (λ b. byte_of value i ≡ b))
    (e (addr + i)) (r i l)
