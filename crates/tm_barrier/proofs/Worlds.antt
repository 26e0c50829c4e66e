-- The worlds of a program's harts have what a barrier takes.
use Rattle.std.proofs.Common.{◌≡◌, ℕ, ◌+◌, ◌<◌, ◌≤◌, ◌||◌, ap, Bool, true, false, refl, arith}
use Rattle.std.proofs.lemmas.Bool.Decides.{nat_tests}
use Rattle.tm_plan_cases.specs.declared.program.Program.{Program}
use Rattle.tm_plan_map.specs.Map.{guest_base, guest_end, private_at, private_size, flag_at}
use Rattle.tm_world.specs.Place.{harts}
use Rattle.tm_runs.specs.World.{Sizes, is_fixed_dword, is_private_dword, is_guest_dword, world_of}
use Rattle.tm_runs.proofs.Places.{fixed-place, guest-true}
use Rattle.tm_barrier.specs.Laws.{Meeting}
use Rattle.tm_runs.proofs.Worlds.{not-fixed}

private-here : (h : ℕ) → is_private_dword h (private_at h + 256) ≡ true
unfolding is_private_dword private_size
private-here h = grind (arith, nat_tests)

guest-at : (a : ℕ) → flag_at 0 ≤ a → a + 8 ≤ 0x81000000 → is_guest_dword a ≡ true
unfolding guest_base guest_end flag_at
guest-at a p q = guest-true a (omega arith) (omega arith)

pub meeting_of : (p : Program) (h : ℕ) → Sizes p → h < harts p → Meeting (world_of p h) h (harts p) (private_at h + 256)
unfolding flag_at private_at
meeting_of p h s l =
    let low : h < 16 = omega (arith, s.harts) in
    record {
      mine = l;
      few = omega (arith, s.harts);
      low = omega arith;
      above = omega arith;
      aligned = omega arith;
      own = ap (λ (b : Bool). b || is_fixed_dword p (private_at h + 256)) (private-here h);
      free = not-fixed p (private_at h + 256) s (omega arith);
      count = guest-at (private_at h + 256) (omega arith) (omega arith);
      flags = λ g b. guest-at (flag_at g) (omega arith) (omega (arith, s.harts));
      writable = not-fixed p (flag_at h) s (omega arith);
    }
