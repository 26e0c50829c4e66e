-- Worked rows.
use Rattle.std.proofs.Common.{◌≡◌, ℕ, Option, Some, None, zero, suc, ◌≤◌, refl, arith, ap, subst}
use Rattle.tm_plan_map.specs.declared.windows.Window.{Window}
use Rattle.tm_plan_map.specs.declared.windows.Kind2.TheVariants.{False}
use Rattle.tm_plan_map.specs.declared.windows.Kind2.{Kind2}
use Rattle.tm_plan_map.specs.Map.{window_at, windows_base}
use Rattle.tm_place.specs.Sharing.{Sharing, StoresAt, MayStoreByte, MayLoadByte}
use Rattle.tm_place.specs.Numbers.{choice, part_size}

chosen_26 : choice 0xFFFFFFFF 27 ≡ 26
chosen_26 = refl

chosen_50 : choice 0x80000000 100 ≡ 50
chosen_50 = refl

chosen_0 : choice 0 8 ≡ 0
chosen_0 = refl

part_16 : part_size 64 3 ≡ 16
unfolding part_size
part_16 = refl

part_4 : part_size 32 8 ≡ 4
unfolding part_size
part_4 = refl

part_128 : part_size 128 1 ≡ 128
unfolding part_size
part_128 = refl

-- ---- a false window of one line of 64 bytes, which 8 harts share: parts of 8 bytes

shared : Window
shared = record { number = 0; kind = False; lines = 1 }

abbrev only : ℕ → Option Window
only zero = Some shared
only (suc n) = None

eight : Sharing
eight = record { harts = 8; line = 64; part = 8; window = only }

-- hart 1 may store to byte 8
second-stores : MayStoreByte eight 1 0x80E80008
unfolding shared eight window_at windows_base
second-stores = record {
  window = shared;
  line = 0;
  byte = 8;
  stands = record { declared = refl; line = omega arith; byte = omega arith; place = refl };
  may = (omega arith, omega arith);
}

some-one : (v : Window) → Some shared ≡ Some v → v ≡ shared
some-one v e = cc

only_shared : (n : ℕ) (v : Window) → only n ≡ Some v → v ≡ shared
only_shared zero v e = some-one v e
only_shared (suc n) v e = cc

part-after : (v : Window) (j r : ℕ) → v ≡ shared → StoresAt v.kind eight 1 j r → 8 ≤ r
unfolding shared eight
part-after v j r e may = let kind : v.kind ≡ False = ap (λ (x : Window). x.kind) e in
    let within = subst (λ (k : Kind2). StoresAt k eight 1 j r) kind may in omega (arith, within.0)

-- hart 1 may not store to byte 0, but may load it
first-is_not_stored : ¬ MayStoreByte eight 1 0x80E80000
unfolding shared eight window_at windows_base
first-is_not_stored m =
    let e = only_shared m.window.number m.window m.stands.declared in
    let after = part-after m.window m.line m.byte e m.may in
    let place = m.stands.place in omega arith

first-is_loaded : MayLoadByte eight 1 0x80E80000
unfolding shared eight window_at windows_base
first-is_loaded = record {
  window = shared;
  line = 0;
  byte = 0;
  stands = record { declared = refl; line = omega arith; byte = omega arith; place = refl };
  may = tt;
}
