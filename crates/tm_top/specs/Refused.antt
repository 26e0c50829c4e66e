-- What is said of words that are no command, or of which none could be read (this project's own).
use Rattle.std.specs.Prelude.{◌≡◌, ℕ, []}
use Rattle.tm_words.specs.declared.command.WordsFault.{WordsFault}
use Rattle.tm_words.specs.declared.command.WordsFault.TheVariants.{Refused, NoMemory}
use Rattle.tm_top_owed.specs.Changes.{SinkChange, TookFronts}
use Rattle.tm_top_owed.specs.Steps.{Told}
use Rattle.tm_top_owed.specs.Texts.{usage}

-- the usage text and status 2, or want of memory and status 6
abbrev pub WordsTold : WordsFault → SinkChange → ℕ → Type 0
WordsTold Refused err status = Told err usage 2 status
WordsTold NoMemory err status = (status ≡ 6) × TookFronts err []
