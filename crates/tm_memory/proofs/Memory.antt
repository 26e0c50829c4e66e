-- Each run of one memory is a half run: a hart's private area is its own, and nobody writes text or tables.
use Rattle.std.proofs.Common.{◌≡◌, ℕ, ◌+◌, ◌%◌, ◌<◌, List, [], ◌∷◌, Bool, true, false, ◌||◌, Option, None, Some, ◌⊎◌}
use Rattle.std.proofs.Common.{inl, inr, refl, sym, ap, ap₂, ◌∙◌, subst}
use Rattle.std.specs.Prelude.{IsTrue, IsFalse, IfSome, if◌then◌else◌, unwrap_or}
use Rattle.std.proofs.lemmas.Bool.{cases_eq}
use Rattle.tm_table.specs.declared.state.Access.{Access}
use Rattle.tm_table.specs.declared.state.Access.TheVariants.{Quiet, Read, Write}
use Rattle.tm_table.specs.State.{Hart}
use Rattle.tm_plan_cases.specs.declared.program.Program.{Program}
use Rattle.tm_plan_cases.specs.Collected.{is_declared}
use Rattle.tm_world.specs.Lists.{or_else}
use Rattle.tm_world.specs.Place.{harts, image_byte, byte_of, is_private, is_text, is_table, is_window}
use Rattle.tm_world.specs.Run.{Step, Always, own, hart_of, access_of, now, first_state, Reads, Writes, written}
use Rattle.tm_world.specs.Run.{last_write}
use Rattle.tm_world.specs.Writers.{may_write}
use Rattle.tm_world.specs.Kinds.{Half, HalfPath, HalfStep, half_owed, plain_owed, phase_of, stream_at}
use Rattle.tm_world.specs.Course.{OnHalf, KeepsWrites, OutsideWrites}
use Rattle.tm_world.proofs.Prefix.{earlier, Half-earlier}
use Rattle.tm_world.proofs.Accesses.{writes-may}
use Rattle.tm_legal.specs.Tame.{Formed}
use Rattle.tm_legal.proofs.Own.{own-here, own-there}
use Rattle.tm_legal.proofs.Inside.{writes-map}
use Rattle.tm_legal.proofs.Areas.{private-zero}
use Rattle.tm_legal.proofs.Half.{written-none}
use Rattle.tm_memory.specs.Memory.{MemoryStep, OneMemory}
use Rattle.tm_memory.specs.Laws.{MemoryIsHalf}
use Rattle.tm_memory.proofs.Owners.{MayKeep, private-keeper, keeps-image}

-- ---- each write keeps to its place

-- Each write is of bytes that its hart may write, or of the windows.
abbrev pub AreKept : Program → List Step → Type 0
AreKept p = Always (λ past s. Writes (MayKeep p (phase_of p past (hart_of s)) (hart_of s)) (access_of s))

-- a step of a half run
step-kept : (p : Program) (h q : ℕ) (o : Option ℕ) (before : Hart) (past : List Step) (s : Step)
    → HalfStep p h o before past s → OutsideWrites p h o q s → Writes (MayKeep p q h) (access_of s)
step-kept p h q None before past s f w = writes-map (λ b. IsTrue (may_write p q h b)
    × (q % 2 ≡ 1 → IsFalse (is_declared p.cases b))) (MayKeep p q h) (access_of s) (λ b z. inl z.0) w
step-kept p h q (Some c) before past s f w = writes-map (λ b. IsTrue (is_window b)) (MayKeep p q h) (access_of s)
    (λ b z. inr z) f.stores

module _ (p : Program) (writes : (h : ℕ) → h < harts p → OnHalf p h (KeepsWrites p h)) (o : ℕ → List ℕ) where
  pub half-kept : (steps : List Step) → Half p (earlier o steps) → AreKept p steps
  half-kept [] half = tt
  half-kept (s ∷ past) half =
      let h = hart_of s in
      let l = half.only.0 in
      let here = own-here h s past refl in
      let path : HalfPath p h (first_state (o h)) (s ∷ own h past) =
      subst (HalfPath p h (first_state (o h))) here (half.each h l) in
      let keeps : KeepsWrites p h (first_state (o h)) (s ∷ own h past) =
      subst (KeepsWrites p h (first_state (o h))) here (writes h l (earlier o (s ∷ past)) half) in (
        step-kept p h (phase_of p past h) (stream_at p h (now (first_state (o h)) (own h past)).pc)
            (now (first_state (o h)) (own h past)) (own h past) s path.0 keeps.0,
        half-kept past (Half-earlier p o (s ∷ []) past half),
      )

-- ---- what is read

-- where all writes of b are h's, the last one is h's
last-own : (h b : ℕ) (past : List Step) → Always (λ before s. (written (access_of s) b ≡ None) ⊎ (hart_of s ≡ h)) past
    → last_write b past ≡ last_write b (own h past)
last-own h b [] a = refl
last-own h b (s ∷ past) a = elim (cases_eq (hart_of s) h) [
  | inl e ↦ ap (or_else (written (access_of s) b)) (last-own h b past a.1) ∙ sym
      (ap (last_write b) (own-here h s past e))
  | inr n ↦ elim a.0 [
    | inl w ↦ ap (λ (z : Option ℕ). or_else z (last_write b past)) w ∙
        (last-own h b past a.1 ∙ sym (ap (last_write b) (own-there h s past n)))
    | inr e ↦ absurd (n e)
  ]
]

private-own : (p : Program) → Formed p → (h b : ℕ) → h < harts p → is_private h b ≡ true → (past : List Step)
    → Always (λ before s. hart_of s < harts p) past → AreKept p past
    → Always (λ before s. (written (access_of s) b ≡ None) ⊎ (hart_of s ≡ h)) past
private-own p formed h b l e [] only r = tt
private-own p formed h b l e (s ∷ past) only r = (
  by (written (access_of s) b) refl,
  private-own p formed h b l e past only.1 r.1,
)
  where
    by : (z : Option ℕ) → written (access_of s) b ≡ z → (written (access_of s) b ≡ None) ⊎ (hart_of s ≡ h)
    by None w = inl w
    by (Some v) w =
        inr (private-keeper p (phase_of p past (hart_of s)) h (hart_of s) b formed l only.0 e
        (writes-may (MayKeep p (phase_of p past (hart_of s)) (hart_of s)) (access_of s) b v r.0 w))

image-spared : (p : Program) → Formed p → (b : ℕ) → (is_text p b || is_table p b) ≡ true → (past : List Step)
    → AreKept p past → last_write b past ≡ None
image-spared p formed b e [] r = refl
image-spared p formed b e (s ∷ past) r =
    let q = phase_of p past (hart_of s) in
    let none = written-none (MayKeep p q (hart_of s)) (access_of s) b r.0 (keeps-image p q (hart_of s) b formed e) in
    ap (λ (z : Option ℕ). or_else z (last_write b past)) none ∙ image-spared p formed b e past r.1

half-byte : (p : Program) → Formed p → (past : List Step) → Always (λ before s. hart_of s < harts p) past
    → AreKept p past → (h : ℕ) → h < harts p → (b u : ℕ) → u ≡ unwrap_or (last_write b past) (image_byte p b)
    → IfSome (half_owed p h (own h past) b) (λ n. u ≡ n)
half-byte p formed past only kept h l b u e = by (is_private h b) (is_text p b || is_table p b) refl refl
  where
    by : (y z : Bool) → is_private h b ≡ y → (is_text p b || is_table p b) ≡ z
        → IfSome (if y then Some (unwrap_or (last_write b (own h past)) 0)
        else (if z then Some (image_byte p b) else None)) (λ n. u ≡ n)
    by true z f g = e ∙ ap₂ (λ (o : Option ℕ) (n : ℕ). unwrap_or o n)
        (last-own h b past (private-own p formed h b l f past only kept)) (private-zero p h b formed l f)
    by false true f g = e ∙ ap (λ (o : Option ℕ). unwrap_or o (image_byte p b)) (image-spared p formed b g past kept)
    by false false f g = tt

half-reads : (p : Program) → Formed p → (past : List Step) → Always (λ before s. hart_of s < harts p) past
    → AreKept p past → (h : ℕ) → h < harts p → (a : Access) → Reads (plain_owed p past) a
    → Reads (half_owed p h (own h past)) a
half-reads p formed past only kept h l Quiet r = tt
half-reads p formed past only kept h l (Write addr width value) r = tt
half-reads p formed past only kept h l (Read addr width value) r =
    λ i m. half-byte p formed past only kept h l (addr + i) (byte_of value i) (r i m)

-- ---- the whole run

module _ (p : Program) (formed : Formed p) (writes : (h : ℕ) → h < harts p → OnHalf p h (KeepsWrites p h)) (o : ℕ
    → List ℕ) where
  one-more : (s : Step) (past : List Step) → OneMemory p (earlier o (s ∷ past)) → Half p (earlier o past) → (h : ℕ)
      → h < harts p → HalfPath p h (first_state (o h)) (own h (s ∷ past))
  one-more s past r before h l = by (cases_eq (hart_of s) h)
    where
      kept : AreKept p past
      kept = half-kept p writes o past before

      step : (c : Option ℕ) → MemoryStep p h c (now (first_state (o h)) (own h past)) past s
          → HalfStep p h c (now (first_state (o h)) (own h past)) (own h past) s
      step None f = (f.0, half-reads p formed past before.only kept h l (access_of s) f.1)
      step (Some c) f = f.0

      by : (hart_of s ≡ h) ⊎ (hart_of s ≡ h → ⊥) → HalfPath p h (first_state (o h)) (own h (s ∷ past))
      by (inr n) = subst (HalfPath p h (first_state (o h))) (sym (own-there h s past n)) (before.each h l)
      by (inl e) =
          let Moves : ℕ → Type 0 = λ g. MemoryStep p g (stream_at p g (now (first_state (o g)) (own g past)).pc)
          (now (first_state (o g)) (own g past)) past s in
          subst (HalfPath p h (first_state (o h))) (sym (own-here h s past e))
          (step (stream_at p h (now (first_state (o h)) (own h past)).pc) (subst Moves e r.steps.0), before.each h l)

  memory-earlier : (s : Step) (past : List Step) → OneMemory p (earlier o (s ∷ past)) → OneMemory p (earlier o past)
  memory-earlier s past r = record { opening = r.opening; only = r.only.1; steps = r.steps.1 }

  all-half : (steps : List Step) → OneMemory p (earlier o steps) → Half p (earlier o steps)
  all-half [] r = record { opening = r.opening; only = r.only; each = λ h l. tt }
  all-half (s ∷ past) r = record {
    opening = r.opening;
    only = r.only;
    each = one-more s past r (all-half past (memory-earlier s past r));
  }

pub memory-half : (p : Program) → MemoryIsHalf p
memory-half p formed writes r memory = all-half p formed writes r.opening r.steps memory
