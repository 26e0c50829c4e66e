-- How `clap` is asked to read the words behind a command: what it is told of the names and the options, and the
-- words that it is given at all (words of private contracts).
use Rattle.std.specs.Prelude.{◌≡◌, ◌+◌, ◌==◌, Bool, true, false, ◌&&◌, ◌||◌, if◌then◌else◌, List, [], ◌∷◌}
use Rattle.std.specs.Prelude.{nat_eq}
use Rattle.std.specs.Prelude.{codes, drop, position, Option, None, Some, unwrap_or, Result, Ok, Err}
use Rattle.std.specs.List.{starts_with}
use Rattle.std.specs.Option.{option_map_or}
use Rattle.std.specs.Str.{bytes_eq}
use Rattle.clap.specs.Words.{App, Row, Rule, new_rule, new_app, with_rule, all_of, first_of}
use Rattle.clap.specs.declared.builder.action.ArgAction.TheVariants.{Set, Append}
use Rattle.tm_words.specs.Words.{Text, is_name, build_asked, list_asked, run_asked, sample_asked, judge_asked}
use Rattle.tm_words.specs.declared.command.Command.{Command}
use Rattle.tm_words.specs.declared.command.WordsFault.{WordsFault}
use Rattle.tm_words.specs.declared.command.WordsFault.TheVariants.{Refused, NoMemory}
use Rattle.tm_words.specs.declared.command.Verb.{Verb}
use Rattle.tm_words.specs.declared.command.Verb.TheVariants as verb
use Rattle.tm_words.specs.Form.{Given, Spell, is_among, value_of, waits_for_nobody}

-- ---- the parser

-- the file names, each of which is a use of one argument
abbrev pub names_rule : Rule
names_rule = record (new_rule (codes "names")) { action = Some Append }

-- an option with one value
abbrev pub option_rule : Text → Rule
option_rule option = record (new_rule option) { long = Some option; action = Some Set }

-- a parser of names alone
abbrev pub app_of_names : Text → App
app_of_names name = with_rule (record (new_app name) {
  top = record (new_app name).top { no_binary_name = true; disable_help_flag = true };
}) names_rule

-- a parser with one option more
abbrev pub with_option : App → Text → App
with_option app option = with_rule app (option_rule option)

-- a parser with these options more
abbrev pub with_options : App → List Text → App
with_options app [] = app
with_options app (option ∷ more) = with_options (with_option app option) more

-- the parser of the words behind a command
abbrev pub parser_of : (name : Text) → List Text → App
parser_of name options = with_options (app_of_names name) options

-- ---- the words that it is given

-- what stands behind the two dashes of a word: where it has a value, that is a name
abbrev pub has_fit_value : Text → Bool
has_fit_value option = option_map_or (λ place. is_name (drop (place + 1) option)) (position (λ b. b == 61) option) true

-- a word before `--`
abbrev pub is_clean : Text → Bool
is_clean word = if starts_with nat_eq word (45 ∷ 45 ∷ []) then has_fit_value (drop 2 word) else is_name word

-- a word, before or behind `--`
abbrev pub is_fit : (behind : Bool) → Text → Bool
is_fit true word = is_name word
is_fit false word = is_clean word

-- all words from one on
abbrev pub are_fit : (behind : Bool) → List Text → Bool
are_fit behind [] = true
are_fit behind (word ∷ more) = is_fit behind word && are_fit (behind || bytes_eq word (45 ∷ 45 ∷ [])) more

-- ---- what it finds

-- the names that were found, in order
abbrev pub names_found : List Row → List Text
names_found rows = unwrap_or (all_of (codes "names") rows) []

-- what was found is these names, and of each of these options its value among these
pub record Holds (options : List Text) (rows : List Row) (names : List Text) (given : List Given) : Type 0 where
  pub all_names : names_found rows ≡ names
  pub values : (option : Text) → is_among options option ≡ true → first_of option rows ≡ value_of option given

-- what was found in words for a command with these options: they spell names and options, and each names and options
-- that they spell were found
pub record IsRead (options : List Text) (words : List Text) (rows : List Row) : Type 0 where
  pub some_names : List Text
  pub some_given : List Given
  pub spell : Spell options words some_names some_given
  pub each : (names : List Text) (given : List Given) → Spell options words names given → Holds options rows names given

-- words spell nothing for a command with these options
abbrev pub IsUnspelled : (options : List Text) → List Text → Type 0
IsUnspelled options words = (names : List Text) (given : List Given) → Spell options words names given → ⊥

-- ---- commands

-- the word of a command
abbrev pub verb_named : Text → Option Verb
verb_named word =
    if bytes_eq word (codes "build") then Some verb.Build
    else if bytes_eq word (codes "list") then Some verb.List
    else if bytes_eq word (codes "run") then Some verb.Run
    else if bytes_eq word (codes "sample") then Some verb.Sample
    else if bytes_eq word (codes "judge") then Some verb.Judge else None

-- what is asked for by what a command's parser found
abbrev pub asked_by : Verb → List Row → Option Command
asked_by verb.Build rows = build_asked (names_found rows) (first_of (codes "seed") rows)
asked_by verb.List rows = list_asked (names_found rows)
asked_by verb.Run rows =
    run_asked (names_found rows) (first_of (codes "events") rows) (first_of (codes "order") rows)
    (first_of (codes "faults") rows) (first_of (codes "trace") rows)
asked_by verb.Sample rows = sample_asked (names_found rows)
asked_by verb.Judge rows = judge_asked (names_found rows)

-- the command, where it may be asked for
abbrev pub if_asked : (round_alone : Bool) → Command → Result Command WordsFault
if_asked true command = if waits_for_nobody command then Ok command else Err Refused
if_asked false command = Ok command

-- the answer is this command, or want of memory
abbrev pub IsOrNoMemory : Command → Result Command WordsFault → Type 0
IsOrNoMemory command (Ok c) = c ≡ command
IsOrNoMemory command (Err e) = e ≡ NoMemory
