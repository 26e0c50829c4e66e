-- What the log tells of a hart's steps is so of the steps.
use Rattle.std.proofs.Common.{◌≡◌, ℕ, ◌+◌, Bool, true, false, ◌&&◌, not, ◌==◌, List, [], ◌∷◌, Option}
use Rattle.std.proofs.Common.{None, Some, refl, sym, ap, ap₂, ◌∙◌}
use Rattle.std.specs.Prelude.{slice_index, if◌then◌else◌, option_map}
use Rattle.tm_table.specs.State.{Hart}
use Rattle.tm_plan_cases.specs.declared.masks.CaseMask.{CaseMask}
use Rattle.tm_plan_cases.specs.declared.program.Program.{Program}
use Rattle.tm_world.specs.Lists.{or_else}
use Rattle.tm_world.specs.Place.{exit_of, inside}
use Rattle.tm_world.specs.Run.{Step, now, first_state, pc_of, access_of, got, written, phase, last_write}
use Rattle.tm_world.specs.Kinds.{HalfPath, stream_at}
use Rattle.tm_world.specs.Verdict.{Part, Register, Byte, left_with, first_read, end_value, Same, IsVerdict, agree}
use Rattle.tm_world.specs.Verdict.{differ}
use Rattle.tm_world.specs.Writers.{run_phase}
use Rattle.tm_world.specs.Work.{idle_lately}
use Rattle.tm_stays.specs.Stays.{one_outside}
use Rattle.tm_runs.specs.Machine.{Table}
use Rattle.tm_runs.specs.Shadow.{entries_of}
use Rattle.tm_runs.proofs.Entries.{lately-tells}
use Rattle.tm_runs.proofs.Paths.{stands, phase-entries}
use Rattle.tm_pass_way.specs.Logs.{left_in, read_in, end_in, SameIn, IsVerdictIn}
use Rattle.tm_runs.specs.Phases.{phase_in}
use Rattle.tm_pass_way.specs.Logs.{agree as agree_in, differ as differ_in, work_in}
use Rattle.tm_runs.specs.Phases.{lately_at}
use Rattle.tm_pass_way.specs.Facts.{last_in}
use Rattle.tm_stays.specs.Pace.{phase_work}

pub last-entries : (b : ℕ) (own : List Step) → last_write b own ≡ last_in b (entries_of own)
last-entries b [] = refl
last-entries b (s ∷ past) = ap (λ (o : Option ℕ). or_else (written (access_of s) b) o) (last-entries b past)

-- ---- end values

map-or : {A B : Type 0} (f : A → B) (a b : Option A) → option_map f (or_else a b)
    ≡ or_else (option_map f a) (option_map f b)
map-or f None b = refl
map-or f (Some x) b = refl

pub read-entries : (p : Program) (h b q : ℕ) (own : List Step) → first_read p h b q own
    ≡ read_in p h q b (entries_of own)
read-entries p h b q [] = refl
read-entries p h b q (s ∷ past) =
    ap₂ (λ (o : Option ℕ) (n : ℕ). or_else o (if n == q then got (access_of s) b else None)) (read-entries p h b q past)
    (phase-entries (exit_of p h) past)

module _ (p : Program) (h : ℕ) (x : List ℕ) where
  abbrev first : Hart
  first = first_state x

  place : (s : Step) (past : List Step) → HalfPath p h first (s ∷ past) → pc_of s ≡ (now first past).pc
  place s past path = stands p h (stream_at p h (now first past).pc) (now first past) past s path.0

  pub left-entries : (c q r : ℕ) (own : List Step) → HalfPath p h first own
      → option_map (λ (s : Hart). slice_index s.x r) (left_with p h c q first own)
      ≡ option_map (λ (f : Table). f r) (left_in p h c q (entries_of own))
  left-entries c q r [] path = refl
  left-entries c q r (s ∷ past) path =
      let here = (phase_in (exit_of p h) (entries_of past) == q)
      && (inside p h c (pc_of s) && not (inside p h c s.after.pc)) in
      map-or (λ (t : Hart). slice_index t.x r) (left_with p h c q first past) (if (phase (exit_of p h) past == q)
      && (inside p h c (now first past).pc && not (inside p h c s.after.pc)) then Some s.after else None)
      ∙ (ap₂ (λ (o : Option ℕ) (b : Bool). or_else o (option_map (λ (t : Hart). slice_index t.x r) (if b
      then Some s.after else None))) (left-entries c q r past path.1)
      (ap₂ (λ (n a : ℕ). (n == q) && (inside p h c a && not (inside p h c s.after.pc)))
      (phase-entries (exit_of p h) past) (sym (place s past path)))
      ∙ (ap (λ (o : Option ℕ). or_else (option_map (λ (f : Table). f r) (left_in p h c q (entries_of past))) o)
      (by here)
      ∙ sym (map-or (λ (f : Table). f r) (left_in p h c q (entries_of past)) (if here
      then Some (λ r. slice_index s.after.x r) else None))))
    where
      by : (b : Bool) → option_map (λ (t : Hart). slice_index t.x r) (if b then Some s.after else None)
          ≡ option_map (λ (f : Table). f r) (if b then Some (λ r. slice_index s.after.x r) else None)
      by true = refl
      by false = refl

  pub end-entries : (c k : ℕ) (own : List Step) → HalfPath p h first own → (part : Part)
      → end_value p h c k first own part ≡ end_in p h c k (entries_of own) part
  end-entries c k own path (Register r) = left-entries c (run_phase p c k) r own path
  end-entries c k own path (Byte b) = read-entries p h b (run_phase p c k + 1) own

  -- ---- verdicts

  same-to : (m : CaseMask) (c k i : ℕ) (own : List Step) → HalfPath p h first own → SameIn p m h c (entries_of own) k i
      → Same p m h c first own k i
  same-to m c k i own path s j d l = λ e. end-entries c k own path _ ∙ (s j d l e ∙ sym (end-entries c 0 own path _))

  same-back : (m : CaseMask) (c k i : ℕ) (own : List Step) → HalfPath p h first own → Same p m h c first own k i
      → SameIn p m h c (entries_of own) k i
  same-back m c k i own path s j d l = λ e. sym (end-entries c k own path _) ∙ (s j d l e ∙ end-entries c 0 own path _)

  pub verdict-entries : (m : CaseMask) (c v : ℕ) (own : List Step) → HalfPath p h first own
      → IsVerdictIn p m h c (entries_of own) v → IsVerdict p m h c first own v
  verdict-entries m c v own path (agree_in f) = agree (λ k i a b. same-to m c k i own path (f k i a b))
  verdict-entries m c v own path (differ_in k i a b n f g) =
      differ k i a b (λ z. n (same-back m c k i own path z)) (λ k' i' y z. same-to m c k' i' own path (f k' i' y z))
      (λ i' z. same-to m c k i' own path (g i' z))

  -- ---- work

  pub work-entries : (q : ℕ) (own : List Step) → HalfPath p h first own → phase_work p h first q own
      ≡ work_in p h q (entries_of own)
  work-entries q [] path = refl
  work-entries q (s ∷ past) path =
      by (idle_lately p h 4 (s ∷ past)) (lately_at p h 4 (entries_of (s ∷ past))) (lately-tells p h 4 (s ∷ past))
      (phase (exit_of p h) past == q) (phase_in (exit_of p h) (entries_of past) == q)
      (ap (λ (n : ℕ). n == q) (phase-entries (exit_of p h) past))
      (ap₂ (λ (a n : ℕ). one_outside (stream_at p h a) n) (sym (place s past path)) (work-entries q past path.1))
      (work-entries q past path.1)
    where
      by : (a b : Bool) → a ≡ b → (c d : Bool) → c ≡ d → {m n j k : ℕ} → j ≡ k → m ≡ n
          → (if a then m else (if c then j else m)) ≡ (if b then n else (if d then k else n))
      by a b e c d f g i = ap₂ (λ (t : Bool × Bool) (u : ℕ × ℕ). if t.0 then u.1 else (if t.1 then u.0 else u.1))
          (ap₂ (λ (x y : Bool). (x, y)) e f) (ap₂ (λ (x y : ℕ). (x, y)) g i)
