-- The parsers of the commands, and what they find.
use Rattle.std.proofs.Common.{◌≡◌, ◌≢◌, ◌∙◌, Bool, cond, true, false, refl, sym, ap, ap₂, subst}
use Rattle.std.proofs.Common.{List, [], ◌∷◌, Option, Some, None, Result, Ok, Err, IfOk, IfErr}
use Rattle.std.proofs.Common.{option_map, codes, true≢false, inl, inr, ◌⊎◌, bytes_eq}
use Rattle.std.specs.Option.{unwrap_or}
use Rattle.clap.specs.Words.{App, Row, rows_of, found_of, first_of, fault_of, is_simple, is_simple_and_free}
use Rattle.clap.specs.Words.{HasMatchesOf, matches_of, raw_values, matched_of}
use Rattle.clap.specs.declared.parser.matches.Found.{Found}
use Rattle.clap.proofs.WalkLemmas.{raw_values-rows}
use Rattle.tm_words.specs.declared.command.Command.{Command}
use Rattle.clap.specs.Simple.{built}
use Rattle.clap.specs.declared.parser.matches.ArgMatches.{ArgMatches}
use Rattle.clap.proofs.OnLiterals.{clap_on_literals}
use Rattle.tm_words.specs.Words.{Text, Tells, build_asked, list_asked, run_asked, sample_asked, judge_asked}
use Rattle.tm_words.specs.Form.{Given, Spell, SpellsBehind, IsForm, IsAskedFor, Ask, verb_word, options_of, asked}
use Rattle.tm_words.specs.Form.{value_of, waits_for_nobody}
use Rattle.tm_words.specs.declared.command.Verb.{Verb}
use Rattle.tm_words.specs.declared.command.Verb.TheVariants as verb
use Rattle.tm_words.specs.Parser.{parser_of, are_fit, names_found, Holds, IsRead, IsUnspelled, verb_named, asked_by}
use Rattle.tm_words.specs.Parser.{if_asked, IsOrNoMemory}
use Rattle.tm_words.specs.declared.command.WordsFault.{WordsFault}
use Rattle.tm_words.specs.declared.command.WordsFault.TheVariants.{NoMemory, Refused}
use Rattle.tm_words.proofs.Plain.{same_text, false_or_true, is_nil, nil_is}
use Rattle.tm_words.proofs.Rules.{built_shape, are_good}
use Rattle.tm_words.proofs.Found.{is_read, is_unspelled, found}
use Rattle.std.proofs.lemmas.Bool.{and_parts}
use Rattle.std.proofs.lemmas.Option.{same_Some}

-- ---- the parsers

abbrev pub parser : Verb → App
parser v = parser_of (verb_word v) (options_of v)

good : (v : Verb) → are_good (options_of v) ≡ true
good verb.Build = refl
good verb.List = refl
good verb.Run = refl
good verb.Sample = refl
good verb.Judge = refl

built_of : (v : Verb) → ◌≡◌ {A =
    App} (built (parser v)) (record { top = built_shape (verb_word v) (options_of v); subs = [] })
built_of verb.Build = refl
built_of verb.List = refl
built_of verb.Run = refl
built_of verb.Sample = refl
built_of verb.Judge = refl

bare : (v : Verb) → (parser v).top.no_binary_name ≡ true
bare verb.Build = refl
bare verb.List = refl
bare verb.Run = refl
bare verb.Sample = refl
bare verb.Judge = refl

pub simple : (v : Verb) → is_simple_and_free (parser v) ≡ true
unfolding clap_on_literals
simple verb.Build = refl
simple verb.List = refl
simple verb.Run = refl
simple verb.Sample = refl
simple verb.Judge = refl

-- ---- what they find

read_ok : (v : Verb) (words : List Text) (m : ArgMatches) → are_fit false words ≡ true → fault_of (parser v) words ≡ []
    → HasMatchesOf (parser v) words m
    → IsRead (options_of v) words (rows_of (found_of m))
read_ok v words m fit fine matches =
    is_read (options_of v) (good v) (verb_word v) (parser v) (built_of v) (bare v) words (rows_of (found_of m))
    (matches (and_parts (is_simple (parser v)) _ (simple v)).0).0 fit fine

pub found_in : (v : Verb) (app : App) (words : List Text) (r : Result ArgMatches WordsFault) → app ≡ parser v
    → IfOk r (λ m. are_fit false words ≡ true)
    → IfOk r (λ m. fault_of app words ≡ []) → IfOk r (HasMatchesOf app words) → IfOk r (λ m. IsRead (options_of v) words
    (rows_of (found_of m)))
found_in v app words (Ok m) is fit fine matches =
    read_ok v words m fit (ap (λ a. fault_of a words) (sym is) ∙ fine) (subst (λ a. HasMatchesOf a words m) is matches)
found_in v app words (Err e) is fit fine matches = tt

pub unspelled_in : (v : Verb) (app : App) (words : List Text) (r : Result ArgMatches WordsFault) → app ≡ parser v
    → IfErr r (λ e. e ≢ NoMemory → are_fit false words ≡ true → fault_of app words ≡ [] → ⊥) → IfErr r (λ e. e ≢
    NoMemory → IsUnspelled (options_of v) words)
unspelled_in v app words (Ok m) is bad = tt
unspelled_in v app words (Err e) is bad = λ other.
    is_unspelled (options_of v) (good v) (verb_word v) (parser v) (built_of v) (bare v) words (λ fit fine. bad other fit
    (ap (λ a. fault_of a words) is ∙ fine))

-- ---- the commands

pub run_same : (ns ms : List Text) (e d o p f g t u : Option Text) → ns ≡ ms → e ≡ d → o ≡ p → f ≡ g → t ≡ u
    → run_asked ns e o f t ≡ run_asked ms d p g u
run_same ns ms e d o p f g t u a b c x y = λ i. run_asked (a i) (b i) (c i) (x i) (y i)

asked_is : (v : Verb) (rows : List Row) (names : List Text) (given : List Given) → Holds (options_of v) rows names given
    → asked_by v rows ≡ asked v names given
asked_is verb.Build rows names given h = ap₂ build_asked h.all_names (h.values (codes "seed") refl)
asked_is verb.List rows names given h = ap list_asked h.all_names
asked_is verb.Run rows names given h =
    run_same (names_found rows) names (first_of (codes "events") rows) (value_of (codes "events") given) (first_of
    (codes "order") rows) (value_of (codes "order") given)
    (first_of (codes "faults") rows) (value_of (codes "faults") given) (first_of (codes "trace") rows) (value_of (codes
    "trace") given)
    h.all_names (h.values (codes "events") refl) (h.values (codes "order") refl) (h.values (codes "faults") refl)
    (h.values (codes "trace") refl)
asked_is verb.Sample rows names given h = ap sample_asked h.all_names
asked_is verb.Judge rows names given h = ap judge_asked h.all_names

pub spelled_behind : (v : Verb) (words : List Text) (rows : List Row) (c : Command) → IsRead (options_of v) words rows
    → asked_by v rows ≡ Some c
    → SpellsBehind v words c
spelled_behind v words rows c read is = record {
  names = read.some_names;
  given = read.some_given;
  spell = read.spell;
  asks =
      sym (asked_is v rows read.some_names read.some_given (read.each read.some_names read.some_given read.spell)) ∙ is;
}

abbrev some_or : {A : Type 0} → A → Option A → A
some_or a (Some b) = b
some_or a None = a

abbrev is_refused : WordsFault → Bool
is_refused Refused = true
is_refused NoMemory = false

some≢none : {X : Type 0} (x : X) → Some x ≡ None → ⊥
some≢none x e = true≢false (ap (λ o. Rattle.std.specs.Option.is_some o) e)

pub none_spelled : (v : Verb) (words : List Text) (rows : List Row) → IsRead (options_of v) words rows
    → asked_by v rows ≡ None → (c : Command)
    → SpellsBehind v words c → ⊥
none_spelled v words rows read none c sp =
    some≢none c (sym sp.asks ∙ sym (asked_is v rows sp.names sp.given (read.each sp.names sp.given sp.spell)) ∙ none)

pub none_read : (v : Verb) (words : List Text) → IsUnspelled (options_of v) words → (c : Command)
    → SpellsBehind v words c → ⊥
none_read v words none c sp = none sp.names sp.given sp.spell

-- ---- the code's steps

pub names_some : (f : Found) (ns : List Text) → Some ns ≡ option_map raw_values (matched_of f (codes "names"))
    → ns ≡ names_found (rows_of f)
names_some f ns e = ap (λ m. unwrap_or m []) (e ∙ raw_values-rows f (codes "names"))

pub names_none : (f : Found) → None ≡ option_map raw_values (matched_of f (codes "names"))
    → names_found (rows_of f) ≡ []
names_none f e = sym (ap (λ m. unwrap_or m []) (e ∙ raw_values-rows f (codes "names")))

-- what is asked for, from what the same is asked for
pub asked_as : (r : Result Command WordsFault) (a b : Option Command) → a ≡ b → Tells a r → Tells b r
asked_as r a b same h = subst (λ o. Tells o r) same h

pub said_ok : (v : Verb) (words : List Text) (rows : List Row) (r : Result Command WordsFault)
    → IsRead (options_of v) words rows → Tells (asked_by v rows) r → IfOk r (λ c. SpellsBehind v words c)
said_ok v words rows (Ok c) read h = spelled_behind v words rows c read h
said_ok v words rows (Err e) read h = tt

pub said_refused : (v : Verb) (words : List Text) (rows : List Row) (r : Result Command WordsFault)
    → IsRead (options_of v) words rows → Tells (asked_by v rows) r
    → IfErr r (λ e. e ≢ NoMemory → (c : Command) → SpellsBehind v words c → ⊥)
said_refused v words rows (Ok c) read h = tt
said_refused v words rows (Err Refused) read h = λ other. none_spelled v words rows read h
said_refused v words rows (Err NoMemory) read h = λ other. absurd (other refl)

-- ---- the first word

choice : {A : Type 0} (b : Bool) (first : A) (o : Option A) (a : A) → cond b (Some first) o ≡ Some a
    → ((b ≡ true) × (first ≡ a)) ⊎ (o ≡ Some a)
choice true first o a e = inl (refl, same_Some first a e)
choice false first o a e = inr e

word_of : (w : Text) (first v : Verb) → bytes_eq w (verb_word first) ≡ true → first ≡ v → w ≡ verb_word v
word_of w first v e same = same_text w (verb_word first) e ∙ ap verb_word same

named_is : (w : Text) (v : Verb) → verb_named w ≡ Some v → w ≡ verb_word v
named_is w v e = elim (choice (bytes_eq w (codes "build")) verb.Build _ v e) [
  | inl h ↦ word_of w verb.Build v h.0 h.1
  | inr e ↦ elim (choice (bytes_eq w (codes "list")) verb.List _ v e) [
    | inl h ↦ word_of w verb.List v h.0 h.1
    | inr e ↦ elim (choice (bytes_eq w (codes "run")) verb.Run _ v e) [
      | inl h ↦ word_of w verb.Run v h.0 h.1
      | inr e ↦ elim (choice (bytes_eq w (codes "sample")) verb.Sample _ v e) [
        | inl h ↦ word_of w verb.Sample v h.0 h.1
        | inr e ↦ elim (choice (bytes_eq w (codes "judge")) verb.Judge None v e) [
          | inl h ↦ word_of w verb.Judge v h.0 h.1
          | inr e ↦ absurd (some≢none v (sym e))
        ]
      ]
    ]
  ]
]

own_word : (v : Verb) → verb_named (verb_word v) ≡ Some v
own_word verb.Build = refl
own_word verb.List = refl
own_word verb.Run = refl
own_word verb.Sample = refl
own_word verb.Judge = refl

is_named : (w : Text) (v : Verb) → w ≡ verb_word v → verb_named w ≡ Some v
is_named w v e = ap verb_named e ∙ own_word v

pub form_ok : (w : Text) (ws : List Text) (v : Verb) (r : Result Command WordsFault) → verb_named w ≡ Some v
    → IfOk r (λ c. SpellsBehind v ws c)
    → IfOk r (λ c. IsForm (w ∷ ws) c)
form_ok w ws v (Ok c) e h = (v, named_is w v e, h)
form_ok w ws v (Err x) e h = tt

pub form_refused : (w : Text) (ws : List Text) (v : Verb) (r : Result Command WordsFault) → verb_named w ≡ Some v
    → IfErr r (λ e. e ≢ NoMemory → (c : Command) → SpellsBehind v ws c → ⊥) → IfErr r (λ e. e ≢ NoMemory → (c : Command)
    → IsForm (w ∷ ws) c → ⊥)
form_refused w ws v (Ok c) e h = tt
form_refused w ws v (Err x) e h = λ other c f.
    h other c (subst (λ t. SpellsBehind t ws c) (same_Some f.0 v (sym (is_named w f.0 f.1) ∙ e)) f.2)

pub form_none : (w : Text) (ws : List Text) → verb_named w ≡ None → (c : Command) → IsForm (w ∷ ws) c → ⊥
form_none w ws e c f = some≢none f.0 (sym (is_named w f.0 f.1) ∙ e)

-- ---- words spell one command at most

one_behind : (v : Verb) (ws : List Text) (c d : Command) → SpellsBehind v ws c → SpellsBehind v ws d → c ≡ d
one_behind v ws c d p q =
    let rows = matches_of (parser v) ws in
    let holds = λ (names : List Text) (given : List Given) (sp : Spell (options_of v) ws names given).
    found (options_of v) (good v) (verb_word v) (parser v) (built_of v) (bare v) ws names given sp rows refl in
    same_Some c d (sym p.asks ∙ sym (asked_is v rows p.names p.given (holds p.names p.given p.spell)) ∙ asked_is v rows
    q.names q.given (holds q.names q.given q.spell) ∙ q.asks)

pub one_command : (words : List Text) (c d : Command) → IsForm words c → IsForm words d → c ≡ d
one_command [] c d p q = absurd p
one_command (w ∷ ws) c d p q =
    let same = same_Some q.0 p.0 (sym (is_named w q.0 q.1) ∙ is_named w p.0 p.1) in
    one_behind p.0 ws c d p.2 (subst (λ t. SpellsBehind t ws d) same q.2)

-- ---- which may be asked for

form_of_asked : (still : Bool) (words : List Text) (c : Command) → IsAskedFor still words c → IsForm words c
form_of_asked true words c a = a.0
form_of_asked false words c a = a

pub asked_ok : (still : Bool) (words : List Text) (c : Command) (r : Result Command WordsFault) → r ≡ if_asked still c
    → IsForm words c
    → IfOk r (λ k. IsAskedFor still words k)
asked_ok true words c r is f = go (waits_for_nobody c) refl
  where
    go : (b : Bool) → waits_for_nobody c ≡ b → IfOk r (λ k. IsAskedFor true words k)
    go true waits =
        subst (λ x. IfOk x (λ k. IsAskedFor true words k)) (sym (is ∙ ap (λ b. cond b (Ok c) (Err Refused)) waits)) (
          f,
          waits,
        )
    go false waits =
        subst (λ x. IfOk x (λ k. IsAskedFor true words k)) (sym (is ∙ ap (λ b. cond b (Ok c) (Err Refused)) waits)) tt
asked_ok false words c r is f = subst (λ x. IfOk x (λ k. IsAskedFor false words k)) (sym is) f

pub asked_refused : (still : Bool) (words : List Text) (c : Command) (r : Result Command WordsFault)
    → r ≡ if_asked still c → IsForm words c
    → IfErr r (λ e. e ≢ NoMemory → (k : Command) → IsAskedFor still words k → ⊥)
asked_refused true words c r is f = go (waits_for_nobody c) refl
  where
    go : (b : Bool) → waits_for_nobody c ≡ b → IfErr r (λ e. e ≢ NoMemory → (k : Command) → IsAskedFor true words k → ⊥)
    go true waits =
        subst (λ x. IfErr x (λ e. e ≢ NoMemory → (k : Command) → IsAskedFor true words k → ⊥)) (sym (is ∙ ap (λ b. cond
        b (Ok c) (Err Refused)) waits)) tt
    go false waits =
        subst (λ x. IfErr x (λ e. e ≢ NoMemory → (k : Command) → IsAskedFor true words k → ⊥)) (sym (is ∙ ap (λ b. cond
        b (Ok c) (Err Refused)) waits))
        (λ other k a. true≢false (sym a.1 ∙ ap waits_for_nobody (one_command words k c a.0 f) ∙ waits))
asked_refused false words c r is f =
    subst (λ x. IfErr x (λ e. e ≢ NoMemory → (k : Command) → IsAskedFor false words k → ⊥)) (sym is) tt

pub none_asked : (still : Bool) (words : List Text) → ((c : Command) → IsForm words c → ⊥) → (c : Command)
    → IsAskedFor still words c → ⊥
none_asked still words none c a = none c (form_of_asked still words c a)

memory_or : (e : WordsFault) → (e ≢ NoMemory → ⊥) → e ≡ NoMemory
memory_or NoMemory h = refl
memory_or Refused h = absurd (h (λ same. true≢false (ap is_refused same)))

pub asked_only : (still : Bool) (words : List Text) (r : Result Command WordsFault)
    → IfOk r (λ k. IsAskedFor still words k)
    → IfErr r (λ e. e ≢ NoMemory → (k : Command) → IsAskedFor still words k → ⊥) → (c : Command)
    → IsAskedFor still words c → IsOrNoMemory c r
asked_only still words (Ok k) ok bad c a =
    one_command words k c (form_of_asked still words k ok) (form_of_asked still words c a)
asked_only still words (Err e) ok bad c a = memory_or e (λ other. bad other c a)

-- ---- it can be told what words ask for

-- by a command, whether the words behind it spell one
told_behind : (v : Verb) (ws : List Text) → ((c : Command) × SpellsBehind v ws c) ⊎ ((c : Command) → SpellsBehind v ws c
    → ⊥)
told_behind v ws = elim (false_or_true (are_fit false ws)) [
  | inr unfit ↦ inr (none_read v ws (is_unspelled (options_of v) (good v) (verb_word v) (parser v) (built_of v) (bare v)
      ws (λ fit fine. true≢false (sym fit ∙ unfit))))
  | inl fit ↦ elim (false_or_true (is_nil (fault_of (parser v) ws))) [
    | inr faulty ↦ inr (none_read v ws (is_unspelled (options_of v) (good v) (verb_word v) (parser v) (built_of v) (bare
        v) ws (λ fit fine. true≢false (sym (ap is_nil fine) ∙ faulty))))
    | inl fine ↦ by fit fine (asked_by v (matches_of (parser v) ws)) refl
  ]
]
  where
    by : are_fit false ws ≡ true → is_nil (fault_of (parser v) ws) ≡ true → (o : Option Command)
        → asked_by v (matches_of (parser v) ws) ≡ o
        → ((c : Command) × SpellsBehind v ws c) ⊎ ((c : Command) → SpellsBehind v ws c → ⊥)
    by fit fine (Some c) is =
        inl (
          c,
          spelled_behind v ws (matches_of (parser v) ws) c
              (is_read (options_of v) (good v) (verb_word v) (parser v) (built_of v) (bare v) ws
              (matches_of (parser v) ws) refl fit (nil_is (fault_of (parser v) ws) fine)) is,
        )
    by fit fine None is =
        inr (none_spelled v ws (matches_of (parser v) ws) (is_read (options_of v) (good v) (verb_word v) (parser v)
        (built_of v) (bare v) ws (matches_of (parser v) ws) refl fit (nil_is (fault_of (parser v) ws) fine)) is)

told_words : (words : List Text) → ((c : Command) × IsForm words c) ⊎ ((c : Command) → IsForm words c → ⊥)
told_words [] = inr (λ c f. f)
told_words (w ∷ ws) = by (verb_named w) refl
  where
    behind : (v : Verb) → verb_named w ≡ Some v → ((c : Command) × SpellsBehind v ws c) ⊎ ((c : Command)
        → SpellsBehind v ws c → ⊥)
        → ((c : Command) × IsForm (w ∷ ws) c) ⊎ ((c : Command) → IsForm (w ∷ ws) c → ⊥)
    behind v is (inl h) = inl (h.0, (v, named_is w v is, h.1))
    behind v is (inr n) =
        inr (λ c f. n c (subst (λ t. SpellsBehind t ws c) (same_Some f.0 v (sym (is_named w f.0 f.1) ∙ is)) f.2))

    by : (o : Option Verb) → verb_named w ≡ o → ((c : Command) × IsForm (w ∷ ws) c) ⊎ ((c : Command) → IsForm (w ∷ ws) c
        → ⊥)
    by (Some v) is = behind v is (told_behind v ws)
    by None is = inr (form_none w ws is)

-- of words that spell a command, which is asked for
asked_of : (words : List Text) (c : Command) → IsForm words c → (b : Bool) → waits_for_nobody c ≡ b
    → (o : Option Command) × Ask true words o
asked_of words c f true waits = (Some c, (f, waits))
asked_of words c f false waits =
    (None, λ d a. true≢false (sym a.1 ∙ ap waits_for_nobody (one_command words d c a.0 f) ∙ waits))

pub told : (still : Bool) (words : List Text) → (o : Option Command) × Ask still words o
told still words = by still (told_words words)
  where
    by : (b : Bool) → ((c : Command) × IsForm words c) ⊎ ((c : Command) → IsForm words c → ⊥)
        → (o : Option Command) × Ask b words o
    by true (inl h) = asked_of words h.0 h.1 (waits_for_nobody h.0) refl
    by true (inr n) = (None, λ c a. n c a.0)
    by false (inl h) = (Some h.0, h.1)
    by false (inr n) = (None, n)

-- and they ask for one thing alone
pub one_asked : (still : Bool) (words : List Text) (o p : Option Command) → Ask still words o → Ask still words p
    → o ≡ p
one_asked still words (Some c) (Some d) a b =
    ap Some (one_command words c d (form_of_asked still words c a) (form_of_asked still words d b))
one_asked still words (Some c) None a b = absurd (b c a)
one_asked still words None (Some d) a b = absurd (a d b)
one_asked still words None None a b = refl
