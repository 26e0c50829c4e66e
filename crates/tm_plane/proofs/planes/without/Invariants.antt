use Rattle.std.proofs.Common.{◌≡◌, ◌<◌, ℕ, length, ◌↔◌}
use Rattle.std.specs.Prelude.{slice_index}
use Rattle.tm_plane.specs.Plane.{Bit}
use Rattle.tm_plane.proofs.planes.without.Given as goal
use Rattle.tm_plane.specs.declared.planes.TheConstants.{PLANE_WORDS}

abbrev pub invariant-loop-e : goal.invariant-loop-e
invariant-loop-e l = record {
  room : length l.out ≡ PLANE_WORDS;
  made : (k : ℕ) → k < l.e → (r : ℕ) → Bit (slice_index l.out k) r
      ↔ (Bit (slice_index l.x k) r × (Bit (slice_index l.y k) r → ⊥));
}
