-- Harts never wait for each other all at once: whoever is behind all others waits at most for a signal to drain.
use Rattle.std.proofs.Common.{◌≡◌, ◌≢◌, ℕ, ◌<◌, ◌≤◌}
use Rattle.std.proofs.Common.{inl, inr, arith, le_refl}
use Rattle.tm_plan_cases.specs.declared.program.Program.{Program}
use Rattle.tm_world.specs.Place.{harts}
use Rattle.tm_world.specs.Run.{own}
use Rattle.tm_world.specs.Kinds.{phase_of}
use Rattle.tm_world.specs.Course.{last_phase}
use Rattle.tm_meet.specs.Waits.{Waits}
use Rattle.tm_meet.proofs.Counts.{signals-more, phase-most}
use Rattle.tm_meet.proofs.Waiting.{waits-or, someone}
use Rattle.tm_meet.proofs.Halts.{halt-last}
use Rattle.tm_buffered.specs.Moments.{steps_of, run_of}
use Rattle.tm_buffered.proofs.Halves.{buffered-half}
use Rattle.tm_buffered.proofs.Told.{told}
use Rattle.tm_buffered_meet.specs.Laws.{SomeGoesOnHere, SignalWaits, WaitsHere}
use Rattle.tm_buffered_meet.proofs.Landing.{signal-lands}

pub some-goes_on : (p : Program) → SomeGoesOnHere p
some-goes_on p m r b h l out =
    let steps = steps_of r.list in
    let t = told p m r.opening r.list b in
    let half = buffered-half p m r b in
    let drains : (g : ℕ) → (Waits p steps g → ⊥) → (w : WaitsHere p r.list g) → (k : ℕ) × (k < harts p) × SignalWaits k r.list =
    λ g free w. elim (signal-lands p m.formed w.other w.few r.list t) [
      | inl z ↦ absurd (free (record {
        signalled = w.signalled;
        other = w.other;
        few = w.few;
        differs = w.differs;
        behind =
            omega (arith, w.behind);
      }))
      | inr z ↦ (w.other, w.few, z.0)
    ] in
    elim (waits-or p steps h) [
      | inr free ↦ (h, l, out, drains h free)
      | inl w ↦
          let (g, k, le, free) = someone p steps t.keep (phase_of p steps h) h l (le_refl _) in
          let more : phase_of p steps h ≢ last_phase p =
          signals-more p h (phase_of p steps h) (own h steps) (t.keep h l) w.signalled in
          let most : phase_of p steps h ≤ last_phase p = phase-most p h (own h steps) (t.keep h l) in (
            g,
            k,
            λ z. let e : phase_of p steps g ≡ last_phase p = halt-last p m (run_of r) half g k z in
                absurd (omega arith),
            drains g free,
          )
    ]
