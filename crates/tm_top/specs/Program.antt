-- What the program owes for the words that it was started with (this project's own).
use Rattle.std.specs.Prelude.{◌≡◌, ◌≢◌, ℕ, false, [], None, Option, List, Vec, Result, Ok, Err, IfErr, IsErrAnd}
use Rattle.std.specs.IoError.{error_kind}
use Rattle.std.specs.declared.io.Error.{Error}
use Rattle.std.specs.declared.io.ErrorKind.TheVariants as kinds
use Rattle.std.specs.declared.string.String.{String}
use Rattle.std.specs.declared.alloc.Global.{Global}
use Rattle.tm_words.specs.Words.{bytes_of_words}
use Rattle.tm_plan_cases.specs.declared.event.Event.{Event}
use Rattle.tm_top_owed.specs.Changes.{DeskChange, SinkChange, FilesStay, Silent, TookFronts}
use Rattle.tm_top_owed.specs.Owed.{OwesWords}
use Rattle.tm_top.specs.declared.program.NoWords.{NoWords}
use Rattle.tm_top.specs.declared.program.NoWords.TheVariants.{NotText, NoMemory}

-- what is owed for words, or where they couldn't be had: words that are no text count as none, and without memory for
-- them all stays as it was
abbrev pub OwesFor : Result (Vec (String Global) Global) NoWords → DeskChange → SinkChange → SinkChange
    → Option (List Event) → ℕ → Type 0
OwesFor (Ok words) desk out err journal status =
    OwesWords false (bytes_of_words words.items) desk out err journal status
OwesFor (Err NotText) desk out err journal status = OwesWords false [] desk out err journal status
OwesFor (Err NoMemory) desk out err journal status =
    (status ≡ 6) × (journal ≡ None) × FilesStay desk × Silent out × TookFronts err []

-- why the arguments give no words: one isn't text; or there was no memory, for them or for the words
abbrev pub IsCauseOf : {X : Type 0} → NoWords → Result X Error → Type 0
IsCauseOf NotText args = IsErrAnd args (λ fault. error_kind fault ≢ kinds.OutOfMemory)
IsCauseOf NoMemory args = IfErr args (λ fault. error_kind fault ≡ kinds.OutOfMemory)

-- The status is one that is owed for words, with some journal or none.
pub record EndsFor (words : Result (Vec (String Global) Global) NoWords) (desk : DeskChange) (out err : SinkChange)
    (status : ℕ) : Type 0 where
  pub journal : Option (List Event)
  pub owed : OwesFor words desk out err journal status

-- The status is one that is owed for some words, and some changes of a desk and two sinks. Which words those are that
-- the program was started with, and which stream is which sink, no clause can say.
pub data IsOwed (status : ℕ) : Type 0 where
  ends : {words : Result (Vec (String Global) Global) NoWords} {desk : DeskChange} {out err : SinkChange}
      → EndsFor words desk out err status → IsOwed status
