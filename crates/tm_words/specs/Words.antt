-- What the command line may ask for, and how its names and values say it (this project's own).
use Rattle.std.specs.Prelude.{◌≡◌, ◌≤◌, ℕ, Bool, true, false, not, ◌&&◌, ◌==◌, nat_le, if◌then◌else◌}
use Rattle.std.specs.Prelude.{List, [], ◌∷◌, map, codes, Option, None, Some, option_map, Result, Ok, Err}
use Rattle.std.specs.Str.{bytes_eq}
use Rattle.std.specs.Borrow.{Bor}
use Rattle.std.specs.String.{string_bytes}
use Rattle.std.specs.declared.string.String.{String}
use Rattle.std.specs.declared.alloc.Global.{Global}
use Rattle.tm_base.specs.Numbers.{number_of}
use Rattle.tm_base.specs.declared.numbers.NumberFault.{NumberFault}
use Rattle.tm_base.specs.declared.limits.TheConstants.{DEFAULT_EVENTS, MOST_EVENTS}
use Rattle.tm_words.specs.declared.command.Command.{Command}
use Rattle.tm_words.specs.declared.command.Command.TheVariants as commands
use Rattle.tm_words.specs.declared.command.WordsFault.{WordsFault}
use Rattle.tm_words.specs.declared.command.WordsFault.TheVariants.{Refused, NoMemory}

-- the bytes of a word, a name or a value
abbrev pub Text : Type 0
Text = List ℕ

-- ---- names and values

-- a name is not empty and doesn't begin with a dash; nor does a value
abbrev pub is_name : Text → Bool
is_name [] = false
is_name (first ∷ rest) = not (first == 45)

-- ---- a build

-- the command of three names and what a word reads as
abbrev pub build_of : (topo template out : Text) → Result ℕ NumberFault → Option Command
build_of topo template out (Ok seed) =
    Some (commands.Build (record { topo = topo; template = template; out = out; seed = seed }))
build_of topo template out (Err fault) = None

-- the build that names and the value of `--seed` ask for: there are three names and a seed
abbrev pub build_asked : List Text → (seed : Option Text) → Option Command
build_asked (topo ∷ template ∷ out ∷ []) (Some seed) = build_of topo template out (number_of seed)
build_asked _ _ = None

-- ---- a listing

-- the listing that names ask for: there is one
abbrev pub list_asked : List Text → Option Command
list_asked (image ∷ []) = Some (commands.List image)
list_asked _ = None

-- ---- a run

-- so many events, where they are 1 to the most that there may be
abbrev pub events_of : Result ℕ NumberFault → Option ℕ
events_of (Ok n) = if nat_le 1 n && nat_le n MOST_EVENTS then Some n else None
events_of (Err fault) = None

-- how many events the value of `--events` asks for
abbrev pub events_asked : Option Text → Option ℕ
events_asked None = Some DEFAULT_EVENTS
events_asked (Some value) = events_of (number_of value)

-- the order of a run, by its name
abbrev pub order_of : Text → Option Bool
order_of name =
    if bytes_eq name (codes "threads") then Some true
    else if bytes_eq name (codes "round") then Some false else None

-- whether the value of `--order` asks for threads
abbrev pub order_asked : Option Text → Option Bool
order_asked None = Some true
order_asked (Some value) = order_of value

-- the run of an image with these events, this order and these further files
abbrev pub run_of : (image : Text) → (events : Option ℕ) → (threads : Option Bool) → (faults trace : Option Text)
    → Option Command
run_of image (Some events) (Some threads) faults trace = Some (commands.Run (record {
  image = image;
  events = events;
  threads = threads;
  faults = faults;
  trace = trace;
}))
run_of image _ _ faults trace = None

-- the run that names and the values of its options ask for: there is one name
abbrev pub run_asked : List Text → (events order faults trace : Option Text) → Option Command
run_asked (image ∷ []) events order faults trace =
    run_of image (events_asked events) (order_asked order) faults trace
run_asked _ events order faults trace = None

-- ---- a sample

-- the sample of the number that a word reads as
abbrev pub sample_of : Result ℕ NumberFault → Option Command
sample_of (Ok number) = Some (commands.Sample number)
sample_of (Err fault) = None

-- the sample that names ask for: there is one, and it is a number
abbrev pub sample_asked : List Text → Option Command
sample_asked (number ∷ []) = sample_of (number_of number)
sample_asked _ = None

-- ---- a judgement

-- the judgement of a trace over an image
abbrev pub judge_of : (image trace : Text) → Option Command
judge_of image trace = Some (commands.Judge (record { image = image; trace = trace }))

-- the judgement that names ask for: there are two
abbrev pub judge_asked : List Text → Option Command
judge_asked (image ∷ trace ∷ []) = judge_of image trace
judge_asked _ = None

-- ---- what the code holds

-- the bytes of the words
abbrev pub bytes_of_words : List (String Global) → List Text
bytes_of_words words = map string_bytes words

-- the text behind a reference, if there is one
abbrev pub text_in : Option (Bor Text) → Option Text
text_in = option_map (λ s. s.now)

-- The answer tells what is asked for: this command, or none. Or there was no memory.
abbrev pub Tells : Option Command → Result Command WordsFault → Type 0
Tells asked (Ok command) = asked ≡ Some command
Tells asked (Err Refused) = asked ≡ None
Tells asked (Err NoMemory) = Unit {0}

-- ---- which commands there are

-- a run within the limit of events; and every other command
abbrev pub IsInRange : Command → Type 0
IsInRange (commands.Run r) = (1 ≤ r.events) × (r.events ≤ MOST_EVENTS)
IsInRange _ = Unit {0}

-- a command that waits for nobody: a run in round order; and every other command
abbrev pub IsStill : Command → Type 0
IsStill (commands.Run r) = r.threads ≡ false
IsStill _ = Unit {0}
