-- Each plain run of harts that meet is legal, step by step: it is a half run, so its harts keep the barrier; where it
-- has been legal so far, writes are right, so bytes have settled to what was written last.
use Rattle.std.proofs.Common.{ℕ, List, [], ◌∷◌, refl, subst}
use Rattle.tm_plan_cases.specs.declared.program.Program.{Program}
use Rattle.tm_world.specs.Run.{Step, own, hart_of, access_of}
use Rattle.tm_world.specs.Kinds.{Legal, Plain}
use Rattle.tm_world.proofs.Prefix.{earlier, Plain-earlier}
use Rattle.tm_legal.proofs.Own.{own-here}
use Rattle.tm_memory.specs.Meet.{AllMeet}
use Rattle.tm_meet.specs.Laws.{PlainIsLegal}
use Rattle.tm_meet.proofs.Counts.{BarrierKept}
use Rattle.tm_memory.proofs.Meets.{writes-right}
use Rattle.tm_memory.proofs.PlainMemory.{plain-memory, plain-half}
use Rattle.tm_meet.proofs.Told.{told}
use Rattle.tm_meet.proofs.Meeting.{phases-le}
use Rattle.tm_meet.proofs.Owed.{reads-legal}

one-more : (p : Program) → AllMeet p → (o : ℕ → List ℕ) (s : Step) (past : List Step) → Plain p (earlier o (s ∷ past))
    → Legal p (earlier o past) → Legal p (earlier o (s ∷ past))
one-more p m o s past plain before =
    let h = hart_of s in
    let l = plain.paths.only.0 in
    let t = told p m (earlier o past) (plain-memory p m (earlier o past) (Plain-earlier p o (s ∷ []) past plain)) in
    let right = writes-right p m (earlier o past) before in
    let half = plain-half p m (earlier o (s ∷ past)) plain in
    let k : BarrierKept p h (s ∷ own h past) =
    subst (BarrierKept p h) (own-here h s past refl) ((m.each h l).barrier (earlier o (s ∷ past)) half) in
    record {
      paths = plain.paths;
      met = (λ g few n. phases-le p m.formed h g l few n past t, before.met);
      reads = (reads-legal p m.formed past t right h l (access_of s) k.0.still plain.reads.0, before.reads);
    }

all-legal : (p : Program) → AllMeet p → (o : ℕ → List ℕ) (steps : List Step) → Plain p (earlier o steps)
    → Legal p (earlier o steps)
all-legal p m o [] plain = record { paths = plain.paths; met = tt; reads = tt }
all-legal p m o (s ∷ past) plain =
    one-more p m o s past plain (all-legal p m o past (Plain-earlier p o (s ∷ []) past plain))

pub plain-legal : (p : Program) → PlainIsLegal p
plain-legal p m r plain = all-legal p m r.opening r.steps plain
