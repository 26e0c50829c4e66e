-- What is found in the save areas is the verdict.
use Rattle.std.proofs.Common.{◌≡◌, ◌⊎◌, inl, inr, ℕ, zero, suc, ◌+◌, ◌-◌, ◌*◌, ◌<◌, ◌≤◌, Bool, true, false, nat_lt}
use Rattle.std.proofs.Common.{List, [], ◌∷◌, length, Option, Some, refl, sym, ap, ◌∙◌, subst, arith}
use Rattle.std.specs.Prelude.{slice_index, IsTrue, All, map, if◌then◌else◌, option_map}
use Rattle.std.proofs.lemmas.Bool.{cases_lt}
use Rattle.std.proofs.lemmas.Bool.Decides.{nat_tests}
use Rattle.tm_plan_cases.specs.declared.masks.CaseMask.{CaseMask}
use Rattle.tm_plan_cases.specs.declared.program.Program.{Program}
use Rattle.tm_plan_map.specs.Map.{save_at}
use Rattle.tm_plan_cases.specs.Collected.{owned}
use Rattle.tm_base.specs.Lists.{count_from}
use Rattle.tm_world.specs.Place.{passes, byte_of}
use Rattle.tm_world.specs.Verdict.{Part, Register, Byte, parts, saved, is_checked}
use Rattle.tm_runs.specs.Machine.{Entry, Table}
use Rattle.tm_pass_way.specs.Logs.{end_in, SameIn, IsVerdictIn, agree, differ}
use Rattle.tm_pass_way.specs.Parts.{PassTold, Alike, IsFound, alike, found}
use Rattle.tm_pass_way.specs.Judges.{FoundIsVerdict}

all-map : {A : Type 0} (P : A → Type 0) (f : ℕ → A) (a n : ℕ) → ((l : ℕ) → a ≤ l → l < a + n → P (f l))
    → All P (map f (count_from a n))
all-map P f a zero h k d l = absurd (omega arith)
all-map P f a (suc n) h zero d l = h a (omega arith) (omega arith)
all-map P f a (suc n) h (suc k) d l = all-map P f (suc a) n (λ i p q. h i (omega arith) (omega arith)) k d
    (let e : length (map f (count_from a (suc n))) ≡ suc (length (map f (count_from (suc a) n))) = refl in omega arith)

map-all : {A : Type 0} (P : A → Type 0) (f : ℕ → A) (a n : ℕ) → All P (map f (count_from a n)) → (l : ℕ) → a ≤ l
    → l < a + n → P (f l)
map-all P f a zero h l p q = absurd (omega arith)
map-all P f a (suc n) h l p q =
    let more : length (map f (count_from a (suc n))) ≡ suc (length (map f (count_from (suc a) n))) = refl in
    elim (cases_lt a l) [
      | inl x ↦ map-all P f (suc a) n (λ k d m. h (suc k) d (omega arith)) l (omega arith) (omega arith)
      | inr x ↦ let e : a ≡ l = omega arith in subst (λ (k : ℕ). P (f k)) e (h 0 (f a) (omega arith))
    ]

all-one : {A : Type 0} (P : A → Type 0) (x : A) → P x → All P (x ∷ [])
all-one P x h zero d l = h
all-one P x h (suc k) d l = absurd (omega arith)

some-same : {a b : ℕ} → Some a ≡ Some b → a ≡ b
some-same e = cc

module _ (p : Program) (h c : ℕ) (m : CaseMask) (past : List Entry) (mem : Table) (some : 1 ≤ passes p) (told : (j : ℕ)
    → j < passes p → PassTold p h c j past mem) where
  abbrev dwords : List ℕ
  dwords = owned p.cases h

  abbrev Agrees : ℕ → Part → Type 0
  Agrees k part = IsTrue (is_checked m h part) → end_in p h c k past part ≡ end_in p h c 0 past part

  low : (i : ℕ) → i < 30 → parts p h i ≡ Register (i + 1) ∷ []
  low i l = ap (λ (b : Bool). if b then Register (i + 1) ∷ []
      else map (λ j. Byte (slice_index dwords (i - 30) + j)) (count_from 0 8)) (let e : nat_lt i 30 ≡ true =
      grind (arith, nat_tests) in e)

  high : (i : ℕ) → 30 ≤ i → parts p h i ≡ map (λ j. Byte (slice_index dwords (i - 30) + j)) (count_from 0 8)
  high i l = ap (λ (b : Bool). if b then Register (i + 1) ∷ []
      else map (λ j. Byte (slice_index dwords (i - 30) + j)) (count_from 0 8)) (let e : nat_lt i 30 ≡ false =
      grind (arith, nat_tests) in e)

  -- the end values are those that were saved
  register : (k i : ℕ) → k < passes p → i < 30 → end_in p h c k past (Register (i + 1))
      ≡ Some (mem (save_at h k + 8 * i))
  register k i l n = let t = told k l in ap (λ (o : Option Table). option_map (λ (f : Table). f (i + 1)) o) t.told ∙ ap
      (λ (v : ℕ). Some v) (sym (t.saved i n))

  byte : (k i j : ℕ) → k < passes p → 30 ≤ i → i < saved p h → j < 8
      → end_in p h c k past (Byte (slice_index dwords (i - 30) + j)) ≡ Some (byte_of (mem (save_at h k + 8 * i)) j)
  byte k i j l n s g = let t = told k l in let e : 30 + (i - 30) ≡ i = omega arith in
      t.read (i - 30) j (omega arith) g ∙ ap (λ (x : ℕ). Some (byte_of (mem (save_at h k + 8 * x)) j)) e

  to-same : (k i : ℕ) → k < passes p → i < saved p h → Alike p m h mem k i → SameIn p m h c past k i
  to-same k i l s a = by (cases_lt i 30)
    where
      by : (i < 30) ⊎ (30 ≤ i) → SameIn p m h c past k i
      by (inl x) = subst (λ (ps : List Part). All (Agrees k) ps) (sym (low i x))
          (all-one (Agrees k) (Register (i + 1)) (λ e.
          register k i l x ∙ (ap (λ (v : ℕ). Some v) (a.register x e) ∙ sym (register 0 i (omega arith) x))))
      by (inr x) =
          subst (λ (ps : List Part). All (Agrees k) ps) (sym (high i x))
          (all-map (Agrees k) (λ j. Byte (slice_index dwords (i - 30) + j)) 0 8
          (λ j y z e. byte k i j l x s (omega arith) ∙
          (ap (λ (v : ℕ). Some v) (a.bytes x j (omega arith) e) ∙ sym
          (byte 0 i j (omega arith) x s (omega arith)))))

  from-same : (k i : ℕ) → k < passes p → i < saved p h → SameIn p m h c past k i → Alike p m h mem k i
  from-same k i l s a = record {
    register = λ x e.
        let at = subst (λ (ps : List Part). All (Agrees k) ps) (low i x) a in
        some-same (sym (register k i l x) ∙ (at 0 (Register (i + 1)) (omega arith) e ∙ register 0 i (omega arith) x));
    bytes = λ x j n e.
        let at = subst (λ (ps : List Part). All (Agrees k) ps) (high i x) a in
        some-same (sym (byte k i j l x s n) ∙ (map-all (Agrees k) (λ j. Byte (slice_index dwords (i - 30) + j)) 0 8 at j
        (omega arith) (omega arith) e ∙ byte 0 i j (omega arith) x s n));
  }

  pub judged : (v : ℕ) → IsFound p m h mem v → IsVerdictIn p m h c past v
  judged v (alike f) = agree (λ k i a b. to-same k i a b (f k i a b))
  judged v (found k i a b n f g) = differ k i a b (λ z. n (from-same k i a b z))
      (λ k' i' y z. to-same k' i' (omega arith) z (f k' i' y z)) (λ i' z. to-same k i' a (omega arith) (g i' z))

pub found-verdict : (p : Program) → FoundIsVerdict p
found-verdict p h c m past mem some told v f = judged p h c m past mem some told v f
