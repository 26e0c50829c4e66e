-- The moves may be made in the world of each hart.
use Rattle.std.proofs.Common.{◌≡◌, ℕ, zero, suc, ◌+◌, ◌-◌, ◌*◌, ◌%◌, ◌≤◌, List, [], ◌∷◌, ◌++◌, length}
use Rattle.std.proofs.Common.{map, Bool, true, false, refl, arith}
use Rattle.tm_plan_cases.specs.declared.program.Program.{Program}
use Rattle.tm_plan_map.specs.Map.{guest_base, guest_end, windows_base, windows_size, private_at, save_at}
use Rattle.tm_plan_cases.specs.Collected.{owned}
use Rattle.tm_base.specs.Lists.{count_from}
use Rattle.tm_plan_owned.proofs.Collected.{Dwords, owned-dwords, owned-short}
use Rattle.tm_runs.specs.World.{Sizes, world_of, is_fixed_dword}
use Rattle.tm_runs.proofs.Places.{fixed-place, guest-true}
use Rattle.tm_blocks_move.specs.Laws.{Move, Movable, EachMove, line_moves}
use Rattle.tm_blocks_move.specs.Lines.{set_moves, collect_moves}
use Rattle.tm_blocks_move.specs.Runs.{FitsIn}
use Rattle.tm_runs.proofs.Worlds.{not-fixed}

module _ (p : Program) (h : ℕ) (s : Sizes p) where
  movable : (a b : ℕ) → a % 8 ≡ 0 → b % 8 ≡ 0 → guest_base ≤ a → a + 8 ≤ guest_end → 2160066560 ≤ b → b + 8 ≤ guest_end
      → Movable (world_of p h) (a, b)
  unfolding guest_base guest_end
  movable a b al bl x y z q = record {
    read = (al, guest-true a x y);
    read_low = omega arith;
    write = (bl, guest-true b (omega arith) q);
    write_low = omega arith;
    free = not-fixed p b s z;
  }

  sets : (from : ℕ) → from % 8 ≡ 0 → guest_base ≤ from → from + windows_size ≤ guest_end → (xs : List ℕ) → Dwords xs
      → EachMove (Movable (world_of p h)) (set_moves from xs)
  unfolding guest_base guest_end windows_size windows_base
  sets from al x y [] d = tt
  sets from al x y (a ∷ xs) d = let lo = d.0.low in let up = d.0.high in let ev = d.0.aligned in (
    movable (from + (a - 2162688000)) a (omega arith) ev (omega arith) (omega arith) (omega arith) (omega arith),
    sets from al x y xs d.1,
  )

  collects : (xs : List ℕ) (q : ℕ) → Dwords xs → q % 8 ≡ 0 → 2160066560 ≤ q → q + 8 * length xs ≤ guest_end
      → EachMove (Movable (world_of p h)) (collect_moves xs q)
  unfolding guest_base guest_end
  collects [] q d al x y = tt
  collects (a ∷ xs) q d al x y = let lo = d.0.low in let up = d.0.high in let ev = d.0.aligned in (
    movable a q ev al (omega arith) (omega arith) x (omega arith),
    collects xs (q + 8) d.1 (omega arith) (omega arith) (omega arith),
  )

  lines : (n j a b : ℕ) → a % 8 ≡ 0 → b % 8 ≡ 0 → guest_base ≤ a → a + 8 * (j + n) ≤ guest_end → 2160066560 ≤ b
      → b + 8 * (j + n) ≤ guest_end
      → EachMove (Movable (world_of p h)) (map (λ i. (a + 8 * i, b + 8 * i)) (count_from j n))
  unfolding guest_base guest_end
  lines zero j a b al bl x y z q = tt
  lines (suc n) j a b al bl x y z q = (
    movable (a + 8 * j) (b + 8 * j) (omega arith) (omega arith) (omega arith) (omega arith) (omega arith)
        (omega arith),
    lines n (suc j) a b al bl x (omega arith) z (omega arith),
  )

both : (P' : Move → Type 0) (xs ys : List Move) → EachMove P' xs → EachMove P' ys → EachMove P' (xs ++ ys)
both P' [] ys a b = b
both P' (x ∷ xs) ys a b = (a.0, both P' xs ys a.1 b)

pub fits_in : (p : Program) (h : ℕ) → FitsIn p h
unfolding private_at save_at guest_base guest_end
fits_in p h s shaped mine = record {
  first = λ from al x y. sets p h s from al x y (owned p.cases h) (owned-dwords p h);
  collect = λ k l. let n = owned-short p h in let few = s.harts in
      both (Movable (world_of p h)) (line_moves (private_at h) (save_at h k) 30)
      (collect_moves (owned p.cases h) (save_at h k + 240))
      (lines p h s 30 0 (private_at h) (save_at h k) (omega arith) (omega arith) (omega arith) (omega arith)
      (omega arith) (omega arith))
      (collects p h s (owned p.cases h) (save_at h k + 240) (owned-dwords p h) (omega arith) (omega arith)
      (omega arith));
}
