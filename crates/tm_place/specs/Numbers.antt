-- How a number is chosen by a word, and how a line is parted among the harts (this project's own).
use Rattle.std.specs.Prelude.{ℕ, zero, suc, ◌*◌, ◌/◌, ◌^◌, ◌≤◌, ◌≡◌, nat_le, if◌then◌else◌}

-- one of n numbers, by a word: the word times n, without its low 32 bits
abbrev pub choice : ℕ → ℕ → ℕ
choice word n = word * n / 2 ^ 32

-- the greatest power of two that is at most n and at most 2 ^ k, where n is at least 1
abbrev pub power_within : ℕ → ℕ → ℕ
power_within zero n = 1
power_within (suc k) n = if nat_le (2 ^ suc k) n then 2 ^ suc k else power_within k n

-- a hart's part of each line of a false window: the greatest power of two that is at most line / harts, for lines of
-- at most 128 bytes
unfoldable pub part_size : ℕ → ℕ → ℕ
part_size line harts = power_within 7 (line / harts)

-- Part is the greatest power of two that is at most line / harts.
pub record IsPart (line harts part : ℕ) : Type 0 where
  pub power : (k : ℕ) × (part ≡ 2 ^ k)
  pub fits : part ≤ line / harts
  pub greatest : (k : ℕ) → 2 ^ k ≤ line / harts → 2 ^ k ≤ part
