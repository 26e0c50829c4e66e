-- How phases go on by a step.
use Rattle.std.proofs.Common.{◌≡◌, ℕ, suc, ◌<◌, ◌≤◌, List, [], ◌∷◌, Bool, true, false, ◌==◌, Option, Some, None, ◌⊎◌}
use Rattle.std.proofs.Common.{inl, inr, refl, ap, ◌∙◌, arith, eq-eqb, ne_eqb}
use Rattle.std.specs.Prelude.{if◌then◌else◌, unwrap_or}
use Rattle.std.proofs.lemmas.Bool.{cases_Bool, cases_eq}
use Rattle.tm_world.specs.Lists.{or_else}
use Rattle.tm_world.specs.Run.{Step, Always, pc_of, access_of, phase, in_phase, written, last_write}

pub phase-exit : (x : ℕ) (s : Step) (past : List Step) → (pc_of s == x) ≡ true → phase x (s ∷ past) ≡ suc (phase x past)
phase-exit x s past e = ap (λ (b : Bool). if b then suc (phase x past) else phase x past) e

pub phase-other : (x : ℕ) (s : Step) (past : List Step) → (pc_of s == x) ≡ false → phase x (s ∷ past) ≡ phase x past
phase-other x s past e = ap (λ (b : Bool). if b then suc (phase x past) else phase x past) e

-- a step belongs to the phase that it stands in
pub in_phase-here : (x q : ℕ) (s : Step) (past : List Step) → phase x past ≡ q → in_phase x q (s ∷ past)
    ≡ s ∷ in_phase x q past
in_phase-here x q s past e = ap (λ (b : Bool). if b then s ∷ in_phase x q past else in_phase x q past)
    (eq-eqb (phase x past) q e)

pub in_phase-there : (x q : ℕ) (s : Step) (past : List Step) → (phase x past ≡ q → ⊥) → in_phase x q (s ∷ past)
    ≡ in_phase x q past
in_phase-there x q s past e = ap (λ (b : Bool). if b then s ∷ in_phase x q past else in_phase x q past)
    (ne_eqb (phase x past) q e)

pub phase-le : (x : ℕ) (s : Step) (past : List Step) → phase x past ≤ phase x (s ∷ past)
phase-le x s past =
    elim (cases_Bool (pc_of s == x)) [
      | inl e ↦ omega (arith, phase-exit x s past e)
      | inr e ↦ omega (
        arith,
        phase-other x s past e,
      )
    ]

-- no step stands in a later phase
pub in_phase-above : (x q : ℕ) (past : List Step) → phase x past < q → in_phase x q past ≡ []
in_phase-above x q [] h = refl
in_phase-above x q (s ∷ past) h =
    let b : phase x past < q = omega (arith, phase-le x s past) in
    let ne : phase x past ≡ q → ⊥ = λ e. omega arith in
    in_phase-there x q s past ne ∙ in_phase-above x q past b

-- ---- last writes

pub or-assoc : (a b c : Option ℕ) → or_else (or_else a b) c ≡ or_else a (or_else b c)
or-assoc (Some x) b c = refl
or-assoc None b c = refl

pub or-last : (a o : Option ℕ) (d : ℕ) → or_else a (Some (unwrap_or o d)) ≡ Some (unwrap_or (or_else a o) d)
or-last (Some x) o d = refl
or-last None o d = refl

-- No step writes b.
abbrev pub Spares : ℕ → List Step → Type 0
Spares b = Always (λ past s. written (access_of s) b ≡ None)

pub spared : (x q b : ℕ) (past : List Step) → Spares b past → last_write b (in_phase x q past) ≡ None
spared x q b [] k = refl
spared x q b (s ∷ past) k = by (cases_eq (phase x past) q) (spared x q b past k.1)
  where
    by : (phase x past ≡ q) ⊎ (phase x past ≡ q → ⊥) → last_write b (in_phase x q past) ≡ None
        → last_write b (in_phase x q (s ∷ past)) ≡ None
    by (inl e) later = ap (last_write b) (in_phase-here x q s past e) ∙
        (ap (λ (o : Option ℕ). or_else o (last_write b (in_phase x q past))) k.0 ∙ later)
    by (inr n) later = ap (last_write b) (in_phase-there x q s past n) ∙ later
