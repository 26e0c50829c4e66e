-- A region of memory, and little-endian numbers in it. Numbers stand with the lowest byte first (RV64I 2.1); the
-- region is this project's own.
use Rattle.std.specs.Prelude.{◌≡◌, ℕ, zero, suc, ◌+◌, ◌*◌, ◌/◌, ◌%◌, ◌^◌, ◌<◌, ◌≤◌, List, length, slice_index}
use Rattle.std.specs.Prelude.{slice_set}
use Rattle.tm_base.specs.declared.limits.TheConstants.{GUEST_BYTES}
use Rattle.tm_table.specs.Row.{IsWidth}

-- the bytes from an address on
pub record Region : Type 0 where
  pub base : ℕ
  pub bytes : List ℕ

-- What each `Ram` keeps: it begins and ends at multiples of 8, has 8 bytes up to 16 MiB, and ends below 2 ^ 64.
pub record IsRegion (r : Region) : Type 0 where
  pub base : r.base % 8 ≡ 0
  pub whole : length r.bytes % 8 ≡ 0
  pub some : 8 ≤ length r.bytes
  pub few : length r.bytes ≤ GUEST_BYTES
  pub end : r.base + length r.bytes < 2 ^ 64

-- so many bytes at an address lie in the region, at a multiple of their number
pub record IsPlace (r : Region) (addr width : ℕ) : Type 0 where
  pub wide : IsWidth width
  pub aligned : addr % width ≡ 0
  pub from : r.base ≤ addr
  pub to : addr + width ≤ r.base + length r.bytes

-- the number whose n bytes stand from a place on
unfoldable pub number_at : List ℕ → ℕ → ℕ → ℕ
number_at bytes place zero = 0
number_at bytes place (suc n) = slice_index bytes place + 256 * number_at bytes (place + 1) n

-- the bytes, with the low n bytes of a number from a place on
unfoldable pub with_number : List ℕ → ℕ → ℕ → ℕ → List ℕ
with_number bytes place zero value = bytes
with_number bytes place (suc n) value =
    with_number (slice_set bytes place (value % 256)) (place + 1) n (value / 256)
