-- A hart whose blocks stand in their places goes its way.
use Rattle.std.proofs.Common.{◌≡◌, ℕ, suc, ◌+◌, ◌*◌, ◌%◌, true, ◌==◌, [], ◌∷◌, ◌++◌, subst, arith}
use Rattle.std.specs.Prelude.{if◌then◌else◌}
use Rattle.tm_plan_cases.specs.declared.program.Program.{Program}
use Rattle.tm_base.specs.Lists.{any}
use Rattle.tm_world.specs.Place.{passes, end_of, exit_of}
use Rattle.tm_world.specs.Marks.{Exit, Enter, End}
use Rattle.tm_runs.specs.Machine.{Entry}
use Rattle.tm_runs.specs.Phases.{now_in}
use Rattle.tm_pass_way.specs.Facts.{Told, AreSet}
use Rattle.tm_pass_way.specs.Parts.{Places, Hold, Ready, Same, Counts, Saves, CollectsTo, Leads, phase_at, way_to}
use Rattle.tm_pass_way.specs.Parts.{turns}
use Rattle.tm_pass_way.specs.Steps.{Calls, Before, Behind}
use Rattle.tm_pass_way.proofs.Course.{parts-keep}
use Rattle.tm_pass_way.proofs.Fronts.{none-before-run}
use Rattle.tm_pass_way.proofs.Joining.{steps-turn}
use Rattle.tm_pass_way.proofs.Paces.{limits-serve}
use Rattle.tm_pass_way.specs.Pace.{pace_of, limit_at}
use Rattle.tm_world.specs.Kinds.{first_of_hart}
use Rattle.tm_world.specs.Run.{own}
use Rattle.tm_pass_steps.specs.Sites.{CallSite}
use Rattle.tm_pass_steps.specs.Judging.{mark_behind}
use Rattle.tm_pass_steps.specs.Placed.{HartPlaced, costs_of, BlocksMakeSteps, PlacedHartKeeps, PlacedHartKeepsPace}
use Rattle.tm_pass_steps.proofs.Beginning.{gates-lead}
use Rattle.tm_pass_steps.proofs.Collecting.{pass-collected}
use Rattle.tm_pass_steps.proofs.Counting.{counter-reset}
use Rattle.tm_pass_steps.proofs.Entering.{registers-loaded}
use Rattle.tm_pass_steps.proofs.Judging.{case-judged}
use Rattle.tm_pass_steps.proofs.Meet.{call-meets}
use Rattle.tm_pass_steps.proofs.Saving.{registers-saved}
use Rattle.tm_pass_steps.proofs.Setting.{first-set}
use Rattle.tm_pass_steps.proofs.Turning.{pass-turns}

call-site : (p : Program) (h : ℕ) (at : Places) (placed : HartPlaced p h at) (place link : ℕ) → Calls p at place link
    → CallSite p h placed.entry place link
call-site p h at placed place link (Before c l) = placed.calls c l
call-site p h at placed place link (Behind c l) = placed.recalls c l

even-phase : (p : Program) (c k : ℕ) → phase_at p c k % 2 ≡ 0
even-phase p c k = let n = turns p c k in even n
  where
    even : (n : ℕ) → 2 * n % 2 ≡ 0
    even n = omega arith

pub blocks-step : (p : Program) → BlocksMakeSteps p
blocks-step p formed fit h number at placed limit = record {
  begin = λ s opens room.
      let b = placed.begin in
      subst (λ (a : ℕ). Leads p h limit s (λ t. Ready p h a 0 0 (costs_of p h).begin [] t × Told p h limit t.log)) b.to
      (gates-lead p formed fit h number b.base b.far b.gates b.clear limit s opens room);
  reset = λ c o s l room ready told.
      let b = placed.reset c l in
      subst (λ (a : ℕ). Leads p h limit s (λ t. Ready p h a (phase_at p c 0) c (o + 1) (way_to p c 0) t
      × Counts p h 0 s t × Told p h limit t.log)) b.to
      (counter-reset p formed fit h number (at.head c) b.code b.clear limit (phase_at p c 0) c o (way_to p c 0) s
      (omega arith) room ready told);
  set = λ c k o s l m room ready told.
      let b = placed.first c l in
      subst (λ (a : ℕ). Leads p h limit s (λ t. Ready p h a (phase_at p c k) c (o + (costs_of p h).first) (way_to p c k)
      t × Same p h s t × AreSet p h c (now_in (exit_of p h) t.log) × Told p h limit t.log)) b.to
      (first-set p formed fit h number c b.from (at.set c) b.table b.code b.clear limit (phase_at p c k) c o
      (way_to p c k) s (even-phase p c k) room ready told);
  meet = λ place link q c o ms s calls l before room front ready ended set told.
      call-meets p formed fit h number placed.entry place link placed.barrier (call-site p h at placed place link calls)
      limit q c o ms s l before room front ready ended set told;
  load = λ c k s l m room hold told. let b = placed.load c l in
      registers-loaded p formed fit h number c k (at.load c) b.table l m b.registers b.code b.to b.clear
      (placed.streams c l) limit s room hold told;
  save = λ c k o s l m room hold ended told.
      let b = placed.save c l in
      subst (λ (a : ℕ). Leads p h limit s (λ t. Hold p h a (phase_at p c k + 1) c (o + 30) (way_to p c k ++ Exit
      ∷ Enter c ∷ End c ∷ []) t × Saves p h s t
      × (any (λ (e : Entry). e.next == end_of p h c) (now_in (exit_of p h) t.log) ≡ true) × Told p h limit t.log))
      b.to
      (registers-saved p formed fit h number (end_of p h c) b.code b.clear limit (phase_at p c k + 1) c o (way_to p c k
      ++ Exit ∷ Enter c ∷ End c ∷ []) s (λ (e : Entry). e.next == end_of p h c) (omega arith)
      (none-before-run p (turns p c k)) room hold ended told);
  collect = λ c k s l m room hold count now told.
      let b = placed.collect c l in
      subst (λ (a : ℕ). Leads p h limit s (λ t. Ready p h a (phase_at p c (suc k)) c (costs_of p h).collect
      (way_to p c (suc k)) t × CollectsTo p h k (phase_at p c (suc k)) s t × Told p h limit t.log)) b.to
      (pass-collected p formed fit h number (at.collect c) b.aims b.code b.clear limit (phase_at p c (suc k)) c k
      (way_to p c (suc k)) s m room hold count now told);
  turn = λ c k o s l m room ready count told.
      let b = placed.turn c l in
      subst (λ (a : ℕ). Leads p h limit s (λ t. Ready p h (if suc k == passes p then a else at.set c)
      (phase_at p c (suc k)) c (o + 6) (way_to p c (suc k)) t × Counts p h (suc k) s t × Told p h limit t.log)) b.to
      (pass-turns p formed fit h number (at.turn c) (at.set c) b.back b.site limit (phase_at p c (suc k)) c k o
      (way_to p c (suc k)) s (omega arith) m room ready count told);
  compare = λ c o m s l mask room ready passed told.
      let b = placed.compare c m l mask in
      subst (λ (a : ℕ). Leads p h limit s (λ t. Ready p h a (phase_at p (suc c) 0) (suc c) (o + (costs_of p h).compare)
      (way_to p (suc c) 0 ++ mark_behind p c) t × Told p h limit t.log)) b.to
      (case-judged p formed fit h number c (at.compare c) b.last b.masks b.bytes m l mask b.site limit o s room ready
      passed told);
}

pub placed-keeps : (p : Program) → PlacedHartKeeps p
placed-keeps p formed fit h number at placed halts limit rooms =
    parts-keep p formed fit h number at (costs_of p h) limit halts rooms
    (steps-turn p formed fit h number at (costs_of p h) limit placed.streams
    (blocks-step p formed fit h number at placed limit))

pub placed-paces : (p : Program) → PlacedHartKeepsPace p
placed-paces p formed fit h number at placed halts =
    let serve = limits-serve p (costs_of p h) (let b = formed.program.cases.harts in
    omega arith) (let k = formed.program.cases.passes in omega arith) in
    let keeps = placed-keeps p formed fit h number at placed halts (limit_at p (pace_of (costs_of p h))) serve.rooms in
    (keeps, λ r half. serve.keeps h (first_of_hart r h) (own h r.steps) (keeps.work r half))
