-- What is known of the steps of a run of one memory whose harts meet.
use Rattle.std.proofs.Common.{ℕ, ◌<◌, List, [], ◌∷◌, Option, None, Some, ◌⊎◌, inl, inr, subst}
use Rattle.std.specs.Prelude.{IsTrue}
use Rattle.std.proofs.lemmas.Bool.{cases_eq}
use Rattle.tm_table.specs.State.{Hart}
use Rattle.tm_plan_cases.specs.declared.program.Program.{Program}
use Rattle.tm_world.specs.Place.{harts, is_window}
use Rattle.tm_world.specs.Run.{Step, Run, Always, own, hart_of, access_of, now, HasShape, Reads}
use Rattle.tm_world.specs.Kinds.{Legal, first_of_hart, plain_owed, stream_at}
use Rattle.tm_world.specs.Course.{KeepsBarrier}
use Rattle.tm_legal.proofs.Own.{own-here, own-there}
use Rattle.tm_legal.proofs.Half.{on-legal}
use Rattle.tm_memory.specs.Meet.{AllMeet}
use Rattle.tm_memory.specs.Memory.{ReadsOf, MemoryStep, OneMemory}
use Rattle.tm_meet.proofs.Counts.{BarrierKept}
use Rattle.tm_memory.proofs.Meets.{tame}
use Rattle.tm_memory.proofs.Memory.{AreKept, half-kept, memory-half}

-- each hart keeps the barrier on its own steps
abbrev pub AllKeep : Program → List Step → Type 0
AllKeep p steps = (h : ℕ) → h < harts p → BarrierKept p h (own h steps)

pub keep-before : (p : Program) (s : Step) (past : List Step) → AllKeep p (s ∷ past) → AllKeep p past
keep-before p s past k h l = elim (cases_eq (hart_of s) h) [
  | inl e ↦ let z : BarrierKept p h (s ∷ own h past) = subst (BarrierKept p h) (own-here h s past e) (k h l) in z.1
  | inr n ↦ subst (BarrierKept p h) (own-there h s past n) (k h l)
]

pub legal-keeps : (p : Program) → AllMeet p → (r : Run) → Legal p r → AllKeep p r.steps
legal-keeps p m r legal h l = on-legal p m.formed h l (tame p m h l) (KeepsBarrier p h) (m.each h l).barrier r legal

-- a step reads what was written last, or bytes of the windows
abbrev pub Told-reads : Program → List Step → Step → Type 0
Told-reads p past s = Reads (plain_owed p past) (access_of s) ⊎ ReadsOf (λ b. IsTrue (is_window b)) (access_of s)

-- Steps that read what was written last, or bytes of the windows, and write what they may, or such bytes, of harts
-- that keep the barrier.
pub record Told (p : Program) (steps : List Step) : Type 0 where
  pub only : Always (λ past s. hart_of s < harts p) steps
  pub shaped : Always (λ past s. HasShape (access_of s)) steps
  pub reads : Always (Told-reads p) steps
  pub kept : AreKept p steps
  pub keep : AllKeep p steps

pub told-before : (p : Program) (s : Step) (past : List Step) → Told p (s ∷ past) → Told p past
told-before p s past t = record {
  only = t.only.1;
  shaped = t.shaped.1;
  reads = t.reads.1;
  kept = t.kept.1;
  keep = keep-before p s past t.keep;
}

-- ---- one step

step-shaped : (p : Program) (h : ℕ) (o : Option ℕ) (before : Hart) (past : List Step) (s : Step)
    → MemoryStep p h o before past s → HasShape (access_of s)
step-shaped p h None before past s f = f.0.shape
step-shaped p h (Some c) before past s f = f.0.shape

step-reads : (p : Program) (h : ℕ) (o : Option ℕ) (before : Hart) (past : List Step) (s : Step)
    → MemoryStep p h o before past s → Told-reads p past s
step-reads p h None before past s f = inl f.1
step-reads p h (Some c) before past s f = inr f.1

-- P of each step of a run of one memory
abbrev pub StepsBy : Program → (ℕ → Hart) → List Step → Type 0
StepsBy p first =
    Always (λ past s.
    MemoryStep p (hart_of s) (stream_at p (hart_of s) (now (first (hart_of s)) (own (hart_of s) past)).pc)
    (now (first (hart_of s)) (own (hart_of s) past)) past s)

all-shaped : (p : Program) (first : ℕ → Hart) (steps : List Step) → StepsBy p first steps
    → Always (λ past s. HasShape (access_of s)) steps
all-shaped p first [] f = tt
all-shaped p first (s ∷ past) f = (
  step-shaped p (hart_of s) (stream_at p (hart_of s) (now (first (hart_of s)) (own (hart_of s) past)).pc)
      (now (first (hart_of s)) (own (hart_of s) past)) past s f.0,
  all-shaped p first past f.1,
)

all-reads : (p : Program) (first : ℕ → Hart) (steps : List Step) → StepsBy p first steps → Always (Told-reads p) steps
all-reads p first [] f = tt
all-reads p first (s ∷ past) f = (
  step-reads p (hart_of s) (stream_at p (hart_of s) (now (first (hart_of s)) (own (hart_of s) past)).pc)
      (now (first (hart_of s)) (own (hart_of s) past)) past s f.0,
  all-reads p first past f.1,
)

-- So it is of a run of one memory.
pub told : (p : Program) → AllMeet p → (r : Run) → OneMemory p r → Told p r.steps
told p m r memory =
    let half = memory-half p m.formed (λ h l. (m.each h l).writes) r memory in
    record {
      only = memory.only;
      shaped = all-shaped p (first_of_hart r) r.steps memory.steps;
      reads = all-reads p (first_of_hart r) r.steps memory.steps;
      kept = half-kept p (λ h l. (m.each h l).writes) r.opening r.steps half;
      keep = λ h l. (m.each h l).barrier r half;
    }
