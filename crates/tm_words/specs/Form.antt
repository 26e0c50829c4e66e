-- The form of the command line's words: which words spell a command (this project's own).
use Rattle.std.specs.Prelude.{◌≡◌, Bool, true, false, not, ◌&&◌, if◌then◌else◌, List, [], ◌∷◌, ◌++◌}
use Rattle.std.specs.Prelude.{codes, Option, None, Some}
use Rattle.std.specs.List.{list_all, list_any}
use Rattle.std.specs.Str.{bytes_eq}
use Rattle.tm_words.specs.Words.{Text, is_name, build_asked, list_asked, run_asked, sample_asked, judge_asked}
use Rattle.tm_words.specs.declared.command.Command.{Command}
use Rattle.tm_words.specs.declared.command.Command.TheVariants as commands
use Rattle.tm_words.specs.declared.command.Verb.{Verb}
use Rattle.tm_words.specs.declared.command.Verb.TheVariants as verb

-- ---- the words behind a command

-- a part of a command: a file's name, or an option with its value, as two words or as one
pub data Part : Type 0 where
  a_name : (name : Text) → Part
  apart : (option value : Text) → Part
  joined : (option value : Text) → Part

-- the word of an option: two dashes and its name
abbrev pub dashed : Text → Text
dashed option = 45 ∷ 45 ∷ option

-- the words of a part: NAME, or --OPTION VALUE, or --OPTION=VALUE
abbrev pub spelled : Part → List Text
spelled (a_name name) = name ∷ []
spelled (apart option value) = dashed option ∷ value ∷ []
spelled (joined option value) = (dashed option ++ 61 ∷ value) ∷ []

-- the words of parts, one behind the other
abbrev pub all_spelled : List Part → List Text
all_spelled [] = []
all_spelled (part ∷ more) = spelled part ++ all_spelled more

-- the words behind the parts: nothing, or `--` and names
abbrev pub ending : Option (List Text) → List Text
ending None = []
ending (Some names) = (45 ∷ 45 ∷ []) ∷ names

-- the names behind `--`
abbrev pub behind : Option (List Text) → List Text
behind None = []
behind (Some names) = names

-- the names among parts, in order
abbrev pub names_in : List Part → List Text
names_in [] = []
names_in (a_name name ∷ more) = name ∷ names_in more
names_in (apart option value ∷ more) = names_in more
names_in (joined option value ∷ more) = names_in more

-- an option with its value
abbrev pub Given : Type 0
Given = Text × Text

-- the options among parts with their values, in order
abbrev pub options_in : List Part → List Given
options_in [] = []
options_in (a_name name ∷ more) = options_in more
options_in (apart option value ∷ more) = (option, value) ∷ options_in more
options_in (joined option value ∷ more) = (option, value) ∷ options_in more

-- the text is one of these
abbrev pub is_among : List Text → Text → Bool
is_among texts text = list_any (λ t. bytes_eq t text) texts

-- a part has a name, or one of these options and a value
abbrev pub is_part_of : List Text → Part → Bool
is_part_of options (a_name name) = is_name name
is_part_of options (apart option value) = is_among options option && is_name value
is_part_of options (joined option value) = is_among options option && is_name value

-- no option comes twice, and none of those before comes again
abbrev pub come_once : (before : List Text) → List Given → Bool
come_once before [] = true
come_once before (g ∷ more) = not (is_among before g.0) && come_once (g.0 ∷ before) more

-- words spell names and options with values, for a command that has these options
pub record Spell (options : List Text) (words : List Text) (names : List Text) (given : List Given) : Type 0 where
  pub parts : List Part
  pub rest : Option (List Text)
  pub spells : words ≡ all_spelled parts ++ ending rest
  pub fit : list_all (is_part_of options) parts ≡ true
  pub fit_behind : list_all is_name (behind rest) ≡ true
  pub are_names : names ≡ names_in parts ++ behind rest
  pub are_given : given ≡ options_in parts
  pub once : come_once [] given ≡ true

-- ---- the commands

-- how the word is written that begins a command
abbrev pub verb_word : Verb → Text
verb_word verb.Build = codes "build"
verb_word verb.List = codes "list"
verb_word verb.Run = codes "run"
verb_word verb.Sample = codes "sample"
verb_word verb.Judge = codes "judge"

-- the options that the command may have
abbrev pub options_of : Verb → List Text
options_of verb.Build = codes "seed" ∷ []
options_of verb.List = []
options_of verb.Run = codes "events" ∷ codes "order" ∷ codes "faults" ∷ codes "trace" ∷ []
options_of verb.Sample = []
options_of verb.Judge = []

-- the value that is given to an option, if one is
abbrev pub value_of : Text → List Given → Option Text
value_of option [] = None
value_of option (g ∷ more) = if bytes_eq g.0 option then Some g.1 else value_of option more

-- the command that names and options ask for, if they ask for one
abbrev pub asked : Verb → List Text → List Given → Option Command
asked verb.Build names given = build_asked names (value_of (codes "seed") given)
asked verb.List names given = list_asked names
asked verb.Run names given = run_asked names (value_of (codes "events") given) (value_of (codes "order") given)
    (value_of (codes "faults") given) (value_of (codes "trace") given)
asked verb.Sample names given = sample_asked names
asked verb.Judge names given = judge_asked names

-- ---- the form

-- the words behind a command's own word spell this command
pub record SpellsBehind (v : Verb) (words : List Text) (command : Command) : Type 0 where
  pub names : List Text
  pub given : List Given
  pub spell : Spell (options_of v) words names given
  pub asks : asked v names given ≡ Some command

-- the words spell this command: the word of a command, and behind it names and options that ask for it
abbrev pub IsForm : List Text → Command → Type 0
IsForm [] command = ⊥
IsForm (word ∷ words) command = (v : Verb) × (word ≡ verb_word v) × SpellsBehind v words command

-- ---- which commands may be asked for

-- the command waits for nobody: it is no run whose harts are driven by threads
abbrev pub waits_for_nobody : Command → Bool
waits_for_nobody (commands.Run r) = not r.threads
waits_for_nobody _ = true

-- the words spell this command, and where only those that wait for nobody may be asked for, it is one
abbrev pub IsAskedFor : (round_alone : Bool) → List Text → Command → Type 0
IsAskedFor true words command = IsForm words command × (waits_for_nobody command ≡ true)
IsAskedFor false words command = IsForm words command

-- the words ask for this command, or for none
abbrev pub Ask : (round_alone : Bool) → List Text → Option Command → Type 0
Ask round_alone words (Some command) = IsAskedFor round_alone words command
Ask round_alone words None = (command : Command) → IsAskedFor round_alone words command → ⊥
