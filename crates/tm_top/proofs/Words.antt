-- What words ask for, and how a call ended whose words ask for nothing or couldn't be read.
use Rattle.std.proofs.Common.{◌≡◌, ◌≢◌, ◌∙◌, ℕ, zero, suc, Bool, List, [], ◌∷◌, ◌++◌, take, Option, None, Some, Ok}
use Rattle.std.proofs.Common.{refl, sym, ap}
use Rattle.tm_words.specs.declared.command.Command.{Command}
use Rattle.tm_words.specs.declared.command.WordsFault.{WordsFault}
use Rattle.tm_words.specs.declared.command.WordsFault.TheVariants.{Refused, NoMemory}
use Rattle.tm_words.specs.Form.{Ask, IsAskedFor}
use Rattle.tm_words.specs.Parser.{IsOrNoMemory}
use Rattle.tm_top_owed.specs.Texts.{usage, no_memory as no_memory_text}
use Rattle.tm_top_owed.specs.Changes.{DeskChange, SinkChange, FilesStay, Silent, TookFronts}
use Rattle.tm_top_owed.specs.Owed.{Ended}
use Rattle.tm_top_owed.specs.Owed.Ended.{no_command, no_memory_for_usage, no_memory}
use Rattle.tm_top_owed.specs.Owed.MayBegin.{no_line}
use Rattle.tm_top_owed.specs.Owed.IsUnfinished.{untouched}
use Rattle.tm_top_owed.specs.Steps.{Told}
use Rattle.tm_top_owed.specs.Steps.Told.{told_whole, told_short}
use Rattle.tm_top.specs.Refused.{WordsTold}
use Rattle.tm_top.proofs.Owing.{rest_stays}

-- ---- what words ask for

-- the command that was read
pub asks_for : (round_alone : Bool) (words : List (List ℕ)) (o : Option Command) (c : Command)
    → Ask round_alone words o → IsAskedFor round_alone words c
    → ((d : Command) → IsAskedFor round_alone words d → IsOrNoMemory d (Ok c)) → o ≡ Some c
asks_for round_alone words (Some d) c ask asked only = ap Some (sym (only d ask))
asks_for round_alone words None c ask asked only = absurd (ask c asked)

-- or none
pub asks_none : (round_alone : Bool) (words : List (List ℕ)) (o : Option Command) → Ask round_alone words o
    → ((c : Command) → IsAskedFor round_alone words c → ⊥) → o ≡ None
asks_none round_alone words (Some c) ask none = absurd (none c ask)
asks_none round_alone words None ask none = refl

-- ---- how the call ended

take_none : (n : ℕ) → ◌≡◌ {A = List ℕ} (take n []) []
take_none zero = refl
take_none (suc n) = refl

take_first : (xs : List ℕ) → take 0 xs ≡ []
take_first [] = refl
take_first (x ∷ xs) = refl

-- a front of nothing is one of the usage text
more_fronts : (err : SinkChange) → TookFronts err [] → TookFronts err usage
more_fronts err fronts = λ told. let (n, m, is) = fronts told in (
  0,
  m,
  is ∙ ap (λ (front : List ℕ). err.taken ++ front ++ take m no_memory_text) (take_none n ∙ sym (take_first usage)),
)

told_usage : (o : Option Command) (desk : DeskChange) (out err : SinkChange) (status : ℕ) → o ≡ None
    → Told err usage 2 status → FilesStay desk → Silent out → Ended o desk out err None status
told_usage o desk out err status none (told_whole two said) stay silent = no_command two refl none stay silent said
told_usage o desk out err status none (told_short six fronts) stay silent =
    no_memory_for_usage six refl none stay silent fronts

unread : (o : Option Command) (desk : DeskChange) (out err : SinkChange) (status : ℕ) → status ≡ 6
    → TookFronts err [] → FilesStay desk → Silent out → Ended o desk out err None status
unread None desk out err status six fronts stay silent =
    no_memory_for_usage six refl refl stay silent (more_fronts err fronts)
unread (Some c) desk out err status six fronts stay silent =
    no_memory c [] six refl refl (rest_stays c desk stay)
    (no_line refl (untouched (record { files = stay; output = silent }))) fronts

-- words of which no command was read
pub ended_words : (fault : WordsFault) (o : Option Command) (desk : DeskChange) (out err : SinkChange) (status : ℕ)
    → (fault ≢ NoMemory → o ≡ None) → WordsTold fault err status → FilesStay desk → Silent out
    → Ended o desk out err None status
ended_words Refused o desk out err status none told stay silent =
    told_usage o desk out err status (none (λ is. cc)) told stay silent
ended_words NoMemory o desk out err status none (six, fronts) stay silent =
    unread o desk out err status six fronts stay silent
