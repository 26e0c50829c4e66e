use Rattle.std.proofs.Common.{◌≡◌, ℕ, ◌<◌, length, get_or}
use Rattle.tm_guest.specs.declared.decoded.Decoded.{Decoded}
use Rattle.tm_guest.specs.Fields.{IsDecoded}
use Rattle.tm_guest.proofs.decoded.decoded_text.Given as goal

abbrev pub invariant-loop-word : goal.invariant-loop-word
invariant-loop-word l = (length l.decodes.items ≡ l.word-index)
    × ((k : ℕ) (d : Decoded) → k < l.word-index → IsDecoded (get_or l.text k 0) (get_or l.decodes.items k d))
