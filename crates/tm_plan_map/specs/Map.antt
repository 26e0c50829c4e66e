-- The map of the guest's memory (this project's own). Addresses and lengths are in bytes.
use Rattle.std.specs.Prelude.{ℕ, ◌+◌, ◌*◌, Bool, ◌&&◌, nat_le, nat_lt}
use Rattle.tm_base.specs.declared.limits.TheConstants.{GUEST_ADDRESS, GUEST_BYTES, HART_ROOM, WINDOW_BYTES}
use Rattle.tm_plan_map.specs.declared.addresses.TheConstants.{TEXT_ADDRESS, TABLES_ADDRESS, FLAGS_ADDRESS, FLAG_STEP}
use Rattle.tm_plan_map.specs.declared.addresses.TheConstants.{VERDICTS_ADDRESS, PRIVATE_ADDRESS, PRIVATE_BYTES}
use Rattle.tm_plan_map.specs.declared.addresses.TheConstants.{SAVES_OFFSET, SAVE_STEP, WINDOWS_ADDRESS, WINDOWS_BYTES}
use Rattle.tm_plan_map.specs.declared.addresses.TheConstants.{HART_TABLE_BYTES, WINDOWS_TABLE_BYTES}

-- the guest's memory: 16 MiB from here
unfoldable pub guest_base : ℕ
guest_base = GUEST_ADDRESS

-- where the guest's memory ends
unfoldable pub guest_end : ℕ
guest_end = GUEST_ADDRESS + GUEST_BYTES

-- the text, at most 8 MiB; each hart begins at its first word
unfoldable pub text_base : ℕ
text_base = TEXT_ADDRESS

-- the tables, at most 4 MiB
unfoldable pub tables_base : ℕ
tables_base = TABLES_ADDRESS

-- the 8 bytes of hart h's flag, at which the harts meet
unfoldable pub flag_at : ℕ → ℕ
flag_at h = FLAGS_ADDRESS + FLAG_STEP * h

-- the 8 bytes to which hart h writes its verdict on case c
unfoldable pub verdict_at : ℕ → ℕ → ℕ
verdict_at c h = VERDICTS_ADDRESS + 8 * (HART_ROOM * c + h)

-- hart h's private area: these bytes from here
unfoldable pub private_at : ℕ → ℕ
private_at h = PRIVATE_ADDRESS + PRIVATE_BYTES * h

-- how long a private area is
unfoldable pub private_size : ℕ
private_size = PRIVATE_BYTES

-- where hart h saves the end state of pass k, in its private area
unfoldable pub save_at : ℕ → ℕ → ℕ
save_at h k = private_at h + SAVES_OFFSET + SAVE_STEP * k

-- the three windows of 2048 bytes stand side by side
unfoldable pub windows_base : ℕ
windows_base = WINDOWS_ADDRESS

-- how long the three windows are together
unfoldable pub windows_size : ℕ
windows_size = WINDOWS_BYTES

-- the first byte of window w
unfoldable pub window_at : ℕ → ℕ
window_at w = windows_base + WINDOW_BYTES * w

-- the table of case c of a test with this many harts
unfoldable pub table_at : ℕ → ℕ → ℕ
table_at harts c = tables_base + c * (HART_TABLE_BYTES * harts + WINDOWS_TABLE_BYTES)

-- b is one of the n bytes from a
abbrev pub within : ℕ → ℕ → ℕ → Bool
within a n b = nat_le a b && nat_lt b (a + n)
