-- What is checked, and the masks that say so (this project's own).
use Rattle.std.specs.Prelude.{◌≡◌, ◌⊎◌, ◌↔◌, ℕ, ◌+◌, ◌-◌, ◌/◌, ◌%◌, ◌^◌, ◌<◌, ◌≤◌, length, slice_get, slice_index}
use Rattle.std.specs.Prelude.{Some, IsTrue, IsFalse}
use Rattle.tm_plan_cases.specs.declared.cases.Cases.{Cases}
use Rattle.tm_plan_cases.specs.declared.cases.Stream.{Stream}
use Rattle.tm_plan_cases.specs.declared.masks.Masks.{Masks}
use Rattle.tm_plan_cases.specs.declared.masks.CaseMask.{CaseMask}
use Rattle.tm_plan_map.specs.Map.{windows_base, windows_size}
use Rattle.tm_plan_cases.specs.Collected.{is_declared}
use Rattle.tm_world.specs.Writers.{may_store}
use Rattle.tm_plan_cases.specs.Streams.{stream_in}
use Rattle.tm_world.specs.Slots.{slots_in, another_may_store}
use Rattle.tm_world.specs.Trails.{RaceDependent}

-- Register r of hart h is checked in case c: it is one of x1 to x30, and isn't race-dependent at the end of the
-- hart's stream.
pub record IsCheckedRegister (cases : Cases) (c h r : ℕ) (stream : Stream) : Type 0 where
  pub range : (1 ≤ r) × (r ≤ 30)
  pub calm : RaceDependent (slots_in cases c h) r (length stream.words) → ⊥

-- Byte b is checked in case c: it is a byte of a declared line, and has no may-writer; or it has one, at the end of
-- whose stream it isn't race-dependent.
pub record IsCheckedByte (cases : Cases) (c b : ℕ) : Type 0 where
  pub declared : IsTrue (is_declared cases b)
  pub single : (h : ℕ) (stream : Stream) → h < cases.harts → stream_in cases c h ≡ Some stream
      → IsTrue (may_store cases c h b)
      → IsFalse (another_may_store cases c h b) × (RaceDependent (slots_in cases c h) b (length stream.words) → ⊥)

-- The masks of shaped cases are exactly the checked ones.
pub record AreChecked (cases : Cases) (masks : Masks) : Type 0 where
  pub registers : (c h r : ℕ) (m : CaseMask) (stream : Stream) → slice_get masks.cases c ≡ Some m
      → stream_in cases c h ≡ Some stream → r < 32
      → (slice_index m.regs h / 2 ^ r % 2 ≡ 1) ↔ IsCheckedRegister cases c h r stream
  pub bytes : (c b : ℕ) (m : CaseMask) → slice_get masks.cases c ≡ Some m → windows_base ≤ b
      → b < windows_base + windows_size
      → ((slice_index m.bytes (b - windows_base) ≡ 255) ↔ IsCheckedByte cases c b)
      × ((slice_index m.bytes (b - windows_base) ≡ 255) ⊎ (slice_index m.bytes (b - windows_base) ≡ 0))
