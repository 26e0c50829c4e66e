-- Placements of three windows, without hot lines.
use Rattle.std.proofs.Common.{◌≡◌, ◌≤◌, ℕ, zero, suc, [], ◌∷◌, Option, Some, slice_get, slice_index, IsTrue}
use Rattle.std.proofs.Common.{refl}
use Rattle.tm_plan_map.specs.declared.windows.Window.{Window}
use Rattle.tm_base.specs.Limits.{image_version, most_harts, is_line_size}
use Rattle.tm_place.specs.Numbers.{part_size}
use Rattle.tm_place.specs.Limits.{IsWindowAt, IsPlacement}

-- what stands at place w is window w
abbrev pub IsStanding : (harts line w : ℕ) → Option Window → Type 0
IsStanding harts line w o = (v : Window) → o ≡ Some v → IsWindowAt harts line w v

windows-three : (harts line : ℕ) (a b c : Option Window) → IsStanding harts line 0 a → IsStanding harts line 1 b
    → IsStanding harts line 2 c
    → (w : ℕ) (v : Window) → slice_get (a ∷ b ∷ c ∷ []) w ≡ Some (Some v) → IsWindowAt harts line w v
windows-three harts line a b c one two three zero v h = one v cc
windows-three harts line a b c one two three (suc zero) v h = two v cc
windows-three harts line a b c one two three (suc (suc zero)) v h = three v cc
windows-three harts line a b c one two three (suc (suc (suc n))) v h = cc

zeros-at : (w : ℕ) → slice_index (0 ∷ 0 ∷ 0 ∷ []) w ≡ 0
zeros-at zero = refl
zeros-at (suc zero) = refl
zeros-at (suc (suc zero)) = refl
zeros-at (suc (suc (suc n))) = refl

pub placement-three : (harts line part : ℕ) (a b c : Option Window) → 1 ≤ harts → harts ≤ most_harts image_version
    → IsTrue (is_line_size line)
    → part ≡ part_size line harts
    → IsStanding harts line 0 a → IsStanding harts line 1 b → IsStanding harts line 2 c
    → IsPlacement harts line part (a ∷ b ∷ c ∷ []) (0 ∷ 0 ∷ 0 ∷ [])
placement-three harts line part a b c some few size share one two three = record {
  count = (some, few);
  size = size;
  share = share;
  windows = windows-three harts line a b c one two three;
  hot_line = λ w v h. let some = (windows-three harts line a b c one two three w v h).window.shaped.some in
      rw (zeros-at w) some;
  no_line = λ w h. zeros-at w;
}
