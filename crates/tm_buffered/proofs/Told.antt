-- What is known of the moments of a buffered run whose harts meet.
use Rattle.std.proofs.Common.{◌≡◌, ℕ, ◌<◌, List, [], ◌∷◌, ◌++◌, true, refl, subst}
use Rattle.tm_plan_cases.specs.declared.program.Program.{Program}
use Rattle.tm_world.specs.Place.{harts, exit_of}
use Rattle.tm_world.specs.Run.{Step, Always, own, hart_of, access_of, first_state, HasShape, phase}
use Rattle.tm_world.specs.Kinds.{Path, Paths, phase_of}
use Rattle.tm_world.specs.Course.{Barrier, signals}
use Rattle.tm_world.proofs.Prefix.{earlier, Path-earlier, Always-earlier, own-append}
use Rattle.tm_legal.specs.Tame.{Formed}
use Rattle.tm_legal.proofs.Own.{own-here}
use Rattle.tm_memory.specs.Meet.{AllMeet}
use Rattle.tm_world.proofs.Accesses.{writes-may}
use Rattle.tm_memory.proofs.Accesses.{flag-byte}
use Rattle.tm_memory.proofs.Owners.{MayKeep, flag-keeper}
use Rattle.tm_memory.proofs.Memory.{half-kept}
use Rattle.tm_meet.proofs.Counts.{BarrierKept}
use Rattle.tm_meet.proofs.Told.{AllKeep, keep-before}
use Rattle.tm_buffered.specs.Moments.{opened_with}
use Rattle.tm_buffered.specs.Moments.{Moment, Makes, Drains, steps_of, Entry, IsMoment, AtEach, Buffered}
use Rattle.tm_buffered.proofs.Drains.{From, from-always}
use Rattle.tm_buffered.proofs.Halves.{Kept, entry-kept, entry-few, all-half}

-- Moments as said, of harts that write what they may, or bytes of the windows, and keep the barrier.
pub record Told (p : Program) (list : List Moment) : Type 0 where
  pub kept : Kept p (steps_of list)
  pub shaped : Always (λ past s. HasShape (access_of s)) (steps_of list)
  pub keep : AllKeep p (steps_of list)
  pub moments : AtEach (IsMoment p) list

pub made-told : (p : Program) (s : Step) (before : List Moment) → Told p (Makes s ∷ before) → Told p before
made-told p s before t = record {
  kept = record { only = t.kept.only.1; kept = t.kept.kept.1 };
  shaped = t.shaped.1;
  keep = keep-before p s (steps_of before) t.keep;
  moments = t.moments.1;
}

pub drained-told : (p : Program) (h w : ℕ) (before : List Moment) → Told p (Drains h w ∷ before) → Told p before
drained-told p h w before t = record { kept = t.kept; shaped = t.shaped; keep = t.keep; moments = t.moments.1 }

all-shaped : (p : Program) (o : ℕ → List ℕ) (steps : List Step) → Paths p (earlier o steps)
    → Always (λ past s. HasShape (access_of s)) steps
all-shaped p o [] r = tt
all-shaped p o (s ∷ past) r =
    let h = hart_of s in
    let path : Path p h (first_state (o h)) (s ∷ own h past) =
    subst (Path p h (first_state (o h))) (own-here h s past refl) (r.each h r.only.0) in
    (path.0.shape, all-shaped p o past (Path-earlier p o (s ∷ []) past r))

-- So it is of a buffered run of harts that meet.
pub told : (p : Program) → AllMeet p → (o : ℕ → List ℕ) (list : List Moment) → Buffered p (opened_with o list) → Told p list
told p m o list b =
    let half = all-half p m o list b in
    record {
      kept = record {
        only = half.only;
        kept = half-kept p (λ h l. (m.each h l).writes) o (steps_of list) half;
      };
      shaped = all-shaped p o (steps_of list) b.paths;
      keep = λ h l. (m.each h l).barrier (earlier o (steps_of list)) half;
      moments = b.moments;
    }

-- ---- entries that signal

-- the phase in which an entry's write stands
abbrev pub phase_at : Program → Entry → ℕ
phase_at p e = phase_of p e.past (hart_of e.step)

-- a write of a flag is its hart's
pub signals-own : (p : Program) → Formed p → (g h : ℕ) → g < harts p → (list : List Moment) → Told p list → (e : Entry)
    → From h (steps_of list) e → signals g e.step ≡ true → hart_of e.step ≡ g
signals-own p formed g h l list t e f s =
    let shape = from-always (λ past s. HasShape (access_of s)) h (steps_of list) e f t.shaped in
    let (b, w, is, wr) = flag-byte g (access_of e.step) shape s in
    flag-keeper p (phase_at p e) g (hart_of e.step) b formed l (entry-few p h (steps_of list) e t.kept f) is
    (writes-may (MayKeep p (phase_at p e) (hart_of e.step)) (access_of e.step) b w
    (entry-kept p h (steps_of list) e t.kept f) wr)

-- what hart g keeps up to its write
pub entry-keeps : (p : Program) (g : ℕ) → g < harts p → (list : List Moment) → Told p list → (e : Entry)
    → From g (steps_of list) e → BarrierKept p g (e.step ∷ own g e.past)
entry-keeps p g l list t e f =
    let all : BarrierKept p g (own g (f.later ++ (e.step ∷ e.past))) =
    subst (λ (steps : List Step). BarrierKept p g (own g steps)) f.is (t.keep g l) in
    let parts : BarrierKept p g (own g f.later ++ own g (e.step ∷ e.past)) =
    subst (BarrierKept p g) (own-append g f.later (e.step ∷ e.past)) all in
    subst (BarrierKept p g) (own-here g e.step e.past f.hart)
    (Always-earlier (λ past s. Barrier p g (phase (exit_of p g) past) past s) (own g f.later)
    (own g (e.step ∷ e.past)) parts)
