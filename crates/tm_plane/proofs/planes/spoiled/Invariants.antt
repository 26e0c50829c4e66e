use Rattle.std.proofs.Common.{◌≡◌, ◌<◌, ℕ, length, bit_and, bit_or}
use Rattle.std.specs.Prelude.{slice_index}
use Rattle.tm_plane.proofs.planes.spoiled.Given as goal
use Rattle.tm_plane.specs.declared.planes.TheConstants.{PLANE_WORDS}

abbrev pub invariant-loop-e : goal.invariant-loop-e
invariant-loop-e l = record {
  room : length l.out ≡ PLANE_WORDS;
  made : (k : ℕ) → k < l.e → slice_index l.out k ≡ bit_or (slice_index l.before k)
      (bit_and (slice_index l.mine k) (bit_or (slice_index l.others k) (slice_index l.held k)));
}
