-- Who sets the dwords that it collects sets their bytes.
use Rattle.std.proofs.Common.{◌≡◌, ℕ, ◌+◌, ◌-◌, ◌*◌, ◌/◌, ◌%◌, ◌<◌, List, [], ◌∷◌, Some, ◌⊎◌, inl, inr, sym, ap, ◌∙◌}
use Rattle.std.proofs.Common.{subst, arith}
use Rattle.std.specs.Prelude.{IsTrue, All, slice_index}
use Rattle.tm_table.specs.State.{Hart}
use Rattle.tm_plan_cases.specs.declared.program.Program.{Program}
use Rattle.tm_plan_cases.specs.declared.cases.Cases.{Cases}
use Rattle.tm_plan_cases.specs.declared.cases.Case.{Case}
use Rattle.tm_plan_map.specs.Map.{windows_base}
use Rattle.tm_plan_cases.specs.Collected.{is_declared, collector, owned}
use Rattle.tm_plan_cases.specs.Shaped.{AreShaped}
use Rattle.tm_world.specs.Place.{byte_of}
use Rattle.tm_world.specs.Run.{Step, own, last_write}
use Rattle.tm_world.specs.Kinds.{first_of_hart}
use Rattle.tm_world.specs.Course.{this_phase}
use Rattle.tm_world.specs.Whole.{first_byte}
use Rattle.tm_legal.specs.Tame.{Formed}
use Rattle.tm_stays.proofs.Dwords.{lies, dword_of, dword-place, of-owned}
use Rattle.tm_meet.specs.First.{SetsBeforeSignal}
use Rattle.tm_stays.specs.First.{SetsDwords}
use Rattle.tm_meet.specs.Laws.{DwordsSet}

-- a line holds whole dwords
same-line : (x line : ℕ) → (line ≡ 32) ⊎ ((line ≡ 64) ⊎ (line ≡ 128)) → 8 * (x / 8) / line ≡ x / line
same-line x line (inl e) = subst (λ (n : ℕ). 8 * (x / 8) / n ≡ x / n) (sym e) (omega arith)
same-line x line (inr (inl e)) = subst (λ (n : ℕ). 8 * (x / 8) / n ≡ x / n) (sym e) (omega arith)
same-line x line (inr (inr e)) = subst (λ (n : ℕ). 8 * (x / 8) / n ≡ x / n) (sym e) (omega arith)

pub dword-collector : (cases : Cases) (b : ℕ) → AreShaped cases → collector cases (dword_of b) ≡ collector cases b
unfolding collector
dword-collector cases b a =
    let x = b - windows_base in
    ap (λ (n : ℕ). n / cases.line % cases.harts) (let z : dword_of b - windows_base ≡ 8 * (x / 8) = omega arith in z)
    ∙ ap (λ (n : ℕ). n % cases.harts) (same-line x cases.line a.line)

-- the bytes of dword a are set
abbrev IsSet : Case → List Step → ℕ → Type 0
IsSet case steps a = (i : ℕ) → i < 8 → last_write (a + i) steps
    ≡ Some (byte_of (slice_index case.first ((a - windows_base) / 8)) i)

byte-set : (cases : Cases) (h b : ℕ) (case : Case) (steps : List Step) → AreShaped cases → IsTrue (is_declared cases b)
    → collector cases b ≡ h → All (IsSet case steps) (owned cases h)
    → last_write b steps ≡ Some (first_byte case.first b)
byte-set cases h b case steps a shared mine all =
    let (from, to, few, declared) = dword-place cases b (lies cases b a shared) in
    let set : IsSet case steps (dword_of b) =
    of-owned (IsSet case steps) cases h b few declared (dword-collector cases b a ∙ mine) all in
    let i = (b - windows_base) % 8 in
    let place : dword_of b + i ≡ b = omega arith in
    let number : (dword_of b - windows_base) / 8 ≡ (b - windows_base) / 8 = omega arith in
    ap (λ (n : ℕ). last_write n steps) (sym place) ∙
    (set i (omega arith) ∙ ap (λ (n : ℕ). Some (byte_of (slice_index case.first n) i)) number)

steps-set : (p : Program) → Formed p → (h : ℕ) (first : Hart) (own : List Step) → SetsDwords p h first own
    → SetsBeforeSignal p h first own
steps-set p formed h first [] d = tt
steps-set p formed h first (s ∷ past) d = (
  λ t c b case run is shared mine. byte-set p.cases h b case (this_phase p h past) formed.program.cases shared mine
      (d.0 t c case run is),
  steps-set p formed h first past d.1,
)

pub dwords-set : (p : Program) → DwordsSet p
dwords-set p formed h d r half = steps-set p formed h (first_of_hart r h) (own h r.steps) (d r half)
