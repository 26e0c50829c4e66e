use Rattle.std.proofs.Common.{◌≡◌, ℕ, ◌<◌, length, get_or}
use Rattle.tm_judge.specs.declared.text.Row.{Row}
use Rattle.tm_judge.specs.Text.{IsRow}
use Rattle.tm_judge.proofs.text.rows_of.Given as goal

abbrev pub invariant-loop-word : goal.invariant-loop-word
invariant-loop-word l = (length l.rows.items ≡ l.word-index)
    × ((k : ℕ) (d : Row) → k < l.word-index → IsRow (get_or l.text k 0) (get_or l.rows.items k d))
