-- The call fits into its word.
use Rattle.std.proofs.Common.{◌≡◌, ℕ, ◌%◌, ◌≤◌, rules}
use Rattle.std.proofs.lemmas.Int.{ints}
use Rattle.tm_table.specs.Words.{Fits}
use Rattle.tm_pass_text.specs.Words.{call}

pub call_fits : (n : ℕ) → n % 2 ≡ 0 → n ≤ 1048574 → Fits (call n)
unfolding Fits
call_fits n e h = search (rules, ints)
