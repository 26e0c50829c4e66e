-- A command that words ask for has its numbers in range; one that waits for nobody is in round order, where it is a
-- run.
use Rattle.std.proofs.Common.{◌≡◌, ◌≤◌, ℕ, Bool, true, false, List, [], ◌∷◌, Option, None, Some, Result, Ok, Err}
use Rattle.std.proofs.Common.{refl, subst, sym, lit≤, not, true≢false, IfOk, IsTrue}
use Rattle.std.specs.Prelude.{if◌then◌else◌, nat_le, ◌&&◌}
use Rattle.std.proofs.lemmas.Bool.{leb-true, and_parts}
use Rattle.tm_base.specs.declared.limits.TheConstants.{MOST_EVENTS}
use Rattle.tm_base.specs.Numbers.{number_of}
use Rattle.tm_base.specs.declared.numbers.NumberFault.{NumberFault}
use Rattle.tm_words.specs.declared.command.Command.{Command}
use Rattle.tm_words.specs.declared.command.Command.TheVariants as commands
use Rattle.tm_words.specs.declared.command.Verb.TheVariants as verb
use Rattle.tm_words.specs.declared.command.Verb.{Verb}
use Rattle.tm_words.specs.declared.command.WordsFault.{WordsFault}
use Rattle.tm_words.specs.Words.{Text, IsInRange, IsStill, build_of, build_asked, list_asked, events_of, events_asked}
use Rattle.tm_words.specs.Words.{order_asked, run_of, run_asked, sample_of, sample_asked, judge_asked}
use Rattle.tm_words.specs.Form.{Given, asked, IsForm, IsAskedFor, waits_for_nobody}

-- the number of events, where there is one, is in range
abbrev EventsFit : Option ℕ → Type 0
EventsFit None = Unit {0}
EventsFit (Some n) = (1 ≤ n) × (n ≤ MOST_EVENTS)

-- the command, where there is one, is in range
abbrev Fits : Option Command → Type 0
Fits None = Unit {0}
Fits (Some c) = IsInRange c

events-if : (b : Bool) (n : ℕ) → (b ≡ true → EventsFit (Some n)) → EventsFit (if b then Some n else None)
events-if true n h = h refl
events-if false n h = tt

events-of : (r : Result ℕ NumberFault) → EventsFit (events_of r)
events-of (Ok n) = events-if (nat_le 1 n && nat_le n MOST_EVENTS) n
    (λ e. let both = and_parts (nat_le 1 n) (nat_le n MOST_EVENTS) e in
    (leb-true 1 n both.0, leb-true n MOST_EVENTS both.1))
events-of (Err fault) = tt

events-fit : (value : Option Text) → EventsFit (events_asked value)
events-fit None = (lit≤ tt, lit≤ tt)
events-fit (Some value) = events-of (number_of value)

build-fits : (topo template out : Text) (r : Result ℕ NumberFault) → Fits (build_of topo template out r)
build-fits topo template out (Ok seed) = tt
build-fits topo template out (Err fault) = tt

builds-fit : (names : List Text) (seed : Option Text) → Fits (build_asked names seed)
builds-fit [] seed = tt
builds-fit (a ∷ []) seed = tt
builds-fit (a ∷ b ∷ []) seed = tt
builds-fit (a ∷ b ∷ c ∷ []) None = tt
builds-fit (a ∷ b ∷ c ∷ []) (Some seed) = build-fits a b c (number_of seed)
builds-fit (a ∷ b ∷ c ∷ d ∷ more) seed = tt

lists-fit : (names : List Text) → Fits (list_asked names)
lists-fit [] = tt
lists-fit (a ∷ []) = tt
lists-fit (a ∷ b ∷ more) = tt

run-fits : (image : Text) (events : Option ℕ) (threads : Option Bool) (faults trace : Option Text) → EventsFit events
    → Fits (run_of image events threads faults trace)
run-fits image None threads faults trace h = tt
run-fits image (Some n) None faults trace h = tt
run-fits image (Some n) (Some t) faults trace h = h

runs-fit : (names : List Text) (events order faults trace : Option Text)
    → Fits (run_asked names events order faults trace)
runs-fit [] events order faults trace = tt
runs-fit (a ∷ []) events order faults trace =
    run-fits a (events_asked events) (order_asked order) faults trace (events-fit events)
runs-fit (a ∷ b ∷ more) events order faults trace = tt

sample-fits : (r : Result ℕ NumberFault) → Fits (sample_of r)
sample-fits (Ok number) = tt
sample-fits (Err fault) = tt

samples-fit : (names : List Text) → Fits (sample_asked names)
samples-fit [] = tt
samples-fit (a ∷ []) = sample-fits (number_of a)
samples-fit (a ∷ b ∷ more) = tt

judges-fit : (names : List Text) → Fits (judge_asked names)
judges-fit [] = tt
judges-fit (a ∷ []) = tt
judges-fit (a ∷ b ∷ []) = tt
judges-fit (a ∷ b ∷ d ∷ more) = tt

asked-fits : (v : Verb) (names : List Text) (given : List Given) → Fits (asked v names given)
asked-fits verb.Build names given = builds-fit names _
asked-fits verb.List names given = lists-fit names
asked-fits verb.Run names given = runs-fit names _ _ _ _
asked-fits verb.Sample names given = samples-fit names
asked-fits verb.Judge names given = judges-fit names

form-fits : (words : List Text) (c : Command) → IsForm words c → IsInRange c
form-fits [] c f = absurd f
form-fits (word ∷ words) c f = subst Fits f.2.asks (asked-fits f.0 f.2.names f.2.given)

still-run : (b : Bool) → not b ≡ true → b ≡ false
still-run true h = absurd (true≢false (sym h))
still-run false h = refl

is-still : (c : Command) → waits_for_nobody c ≡ true → IsStill c
is-still (commands.Build b) h = tt
is-still (commands.List image) h = tt
is-still (commands.Run r) h = still-run r.threads h
is-still (commands.Sample n) h = tt
is-still (commands.Judge j) h = tt

pub in_range : (round : Bool) (words : List Text) (r : Result Command WordsFault)
    → IfOk r (λ c. IsAskedFor round words c)
    → IfOk r IsInRange
in_range true words (Ok c) h = form-fits words c h.0
in_range false words (Ok c) h = form-fits words c h
in_range round words (Err e) h = tt

still-here : (words : List Text) (r : Result Command WordsFault) → IfOk r (λ c. IsAskedFor true words c)
    → IfOk r IsStill
still-here words (Ok c) h = is-still c h.1
still-here words (Err e) h = tt

pub still : (round : Bool) → IsTrue round → (words : List Text) (r : Result Command WordsFault)
    → IfOk r (λ c. IsAskedFor round words c) → IfOk r IsStill
still true is words r h = still-here words r h
still false is words r h = absurd (true≢false (sym is))
