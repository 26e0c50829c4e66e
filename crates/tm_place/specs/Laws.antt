-- What keeps the harts apart (this project's own).
use Rattle.std.specs.Prelude.{ℕ, ◌*◌, ◌≤◌, ◌≡◌, ◌≢◌}
use Rattle.tm_plan_map.specs.declared.windows.Window.{Window}
use Rattle.tm_plan_map.specs.declared.windows.Kind2.TheVariants.{True}
use Rattle.tm_place.specs.Sharing.{Sharing, StandsAt, MayStoreByte, MayLoadByte}

-- No byte of a false or own window may be stored to by two harts.
abbrev pub OneStores : Sharing → Type 0
OneStores s = (g h b : ℕ) (v : Window) (j r : ℕ) → StandsAt s b v j r → v.kind ≢ True → MayStoreByte s g b
    → MayStoreByte s h b → g ≡ h

-- What a hart may store to, it may load.
abbrev pub StoresAreLoads : Sharing → Type 0
StoresAreLoads s = (h b : ℕ) → MayStoreByte s h b → MayLoadByte s h b

-- The parts of all harts fit in a line.
abbrev pub PartsFit : Sharing → Type 0
PartsFit s = s.harts * s.part ≤ s.line
