-- What a list of lines changes, from its last line to its first.
use Rattle.std.proofs.Common.{◌≡◌, ℕ, zero, suc, ◌-◌, ◌<◌, List, [], ◌∷◌, Bool, true, false, refl, sym, ap, subst, ◌∙◌, length}
use Rattle.std.proofs.Common.{drop}
use Rattle.std.proofs.Common.{map, get_or, arith, ap₂, true≢false, eqb-true, ◌+◌, ◌*◌, ◌^◌, ◌≤◌, ◌==◌, Option}
use Rattle.std.proofs.Common.{None, Some}
use Rattle.std.specs.Prelude.{if◌then◌else◌, slice_get}
use Rattle.std.proofs.lemmas.Bool.{and_parts}
use Rattle.std.proofs.lemmas.List.{get_or_default}
use Rattle.std.proofs.lemmas.Option.{get_or_from_slice_get}
use Rattle.std.proofs.Math.Seq.{drop-cons, drop-length}
use Rattle.tm_plan_cases.specs.declared.program.Program.{Program}
use Rattle.tm_plan_script.specs.declared.faults.FaultLine.{FaultLine}
use Rattle.tm_plan_script.specs.declared.faults.Action.{Action}
use Rattle.tm_plan_script.specs.declared.faults.Action.TheVariants.{Result, Loaded, Stored, Drop, Turn}
use Rattle.tm_world.specs.Lists.{those}
use Rattle.tm_world.specs.Faulted.{Change, nothing}
use Rattle.tm_world.specs.Script.{names, names_in, pass_of_phase, is_of_pass, change_by, change_of}
use Rattle.tm_world.specs.Place.{start_of, inside}
use Rattle.tm_world.specs.Writers.{case_of_phase}
use Rattle.tm_plan_map.specs.Map.{text_base}
use Rattle.tm_changes.specs.Made.{with_action}
use Rattle.tm_base.proofs.ListLemmas.{get-some}
use Rattle.tm_changes.specs.Scripted.{Scripted, slot_of_line, place_of, IsAt, IsLast, KeepsChains}

pub none-changes : (p : Program) (h q pc : ℕ) → change_of p [] h q pc ≡ nothing
unfolding change_of
none-changes p h q pc = refl

one-more : (action : Action) (more : List Action) → change_by (action ∷ more) ≡ with_action action (change_by more)
one-more (Result x) more = refl
one-more (Loaded x) more = refl
one-more (Stored x) more = refl
one-more Drop more = refl
one-more Turn more = refl

-- a line more, which speaks of the step or doesn't
pub line-more : (p : Program) (line : FaultLine) (lines : List FaultLine) (h q pc : ℕ)
    → change_of p (line ∷ lines) h q pc
    ≡ (if names p line h q pc then with_action line.action (change_of p lines h q pc) else change_of p lines h q pc)
unfolding change_of
line-more p line lines h q pc = by (names p line h q pc)
  where
    rest : List FaultLine
    rest = those (λ line. names p line h q pc) lines

    by : (b : Bool) → change_by (map (λ (line : FaultLine). line.action) (if b then line ∷ rest else rest))
        ≡ (if b then with_action line.action (change_by (map (λ (line : FaultLine). line.action) rest))
        else change_by (map (λ (line : FaultLine). line.action) rest))
    by true = one-more line.action (map (λ (line : FaultLine). line.action) rest)
    by false = refl

-- from the lines behind a place to those from it on
from-here : (p : Program) (lines : List FaultLine) (n m : ℕ) (d : FaultLine) (h q pc : ℕ) (b : Bool)
    (before after : Change) → m ≡ suc n → m ≤ length lines → b ≡ names p (get_or lines n d) h q pc
    → before ≡ change_of p (drop m lines) h q pc
    → after ≡ (if b then with_action (get_or lines n d).action before else before)
    → after ≡ change_of p (drop n lines) h q pc
from-here p lines n m d h q pc b before after next room named was made =
    let line = get_or lines n d in
    let rest = drop (suc n) lines in
    let old : before ≡ change_of p rest h q pc =
    was ∙ ap (λ (k : ℕ). change_of p (drop k lines) h q pc) next in
    made
    ∙ (ap (λ (ch : Change). if b then with_action line.action ch else ch) old
    ∙ (ap (λ (x : Bool). if x then with_action line.action (change_of p rest h q pc) else change_of p rest h q pc) named
    ∙ (sym (line-more p line rest h q pc)
    ∙ ap (λ (x : List FaultLine). change_of p x h q pc) (sym (drop-cons lines n d (omega (arith, next, room)))))))

pub all-behind : (p : Program) (lines : List FaultLine) (h q pc : ℕ) (before : Change) → before ≡ nothing
    → before ≡ change_of p (drop (length lines) lines) h q pc
all-behind p lines h q pc before none =
    none ∙ (sym (none-changes p h q pc)
    ∙ ap (λ (x : List FaultLine). change_of p x h q pc) (sym (drop-length lines)))

-- ---- lines that don't speak of a step

-- A line that speaks of a hart's step at pc: it is the hart's, and its slot, which lies in its stream, stands at pc.
pub record Speaks (p : Program) (line : FaultLine) (h pc : ℕ) : Type 0 where
  pub its_hart : line.hart ≡ h
  pub within : inside p line.hart line.case pc ≡ true
  pub stands : slot_of_line p line ≡ pc

pub speaks : (p : Program) (line : FaultLine) (h q pc : ℕ) → names p line h q pc ≡ true → Speaks p line h pc
unfolding names
speaks p line h q pc e = by (case_of_phase p q) e
  where
    by : (o : Option ℕ) → names_in p line h (pass_of_phase p q) pc o ≡ true → Speaks p line h pc
    by None f = absurd (true≢false (sym f))
    by (Some c) f =
        let (its_hart, rest) = and_parts (line.hart == h) _ f in
        let (its_case, more) = and_parts (line.case == c) _ rest in
        let (its_pass, slot) = and_parts (is_of_pass line.pass (pass_of_phase p q)) _ more in
        let (inside_it, stands) = and_parts (inside p h c pc) _ slot in
        let hart = eqb-true line.hart h its_hart in
        let case = eqb-true line.case c its_case in
        record {
          its_hart = hart;
          within = ap₂ (λ (g d : ℕ). inside p g d pc) hart case ∙ inside_it;
          stands = ap₂ (λ (g d : ℕ). start_of p g d + 4 * line.slot) hart case
              ∙ eqb-true (start_of p h c + 4 * line.slot) pc stands;
        }

pub none-here : (p : Program) (lines : List FaultLine) (h q pc : ℕ)
    → ((k : ℕ) (line : FaultLine) → slice_get lines k ≡ Some line → names p line h q pc ≡ false)
    → change_of p lines h q pc ≡ nothing
none-here p [] h q pc none = none-changes p h q pc
none-here p (line ∷ lines) h q pc none =
    line-more p line lines h q pc
    ∙ (ap (λ (b : Bool). if b then with_action line.action (change_of p lines h q pc) else change_of p lines h q pc)
    (none 0 line refl)
    ∙ none-here p lines h q pc (λ k other found. none (suc k) other found))

-- where a line isn't at the word of a step, it doesn't speak of the step
not-here : (p : Program) (line : FaultLine) (h q pc : ℕ) → pc < 2 ^ 64 → text_base ≤ pc
    → (¬ IsAt p line (place_of pc)) → names p line h q pc ≡ false
not-here p line h q pc fits from off = by (names p line h q pc) refl
  where
    by : (b : Bool) → names p line h q pc ≡ b → b ≡ false
    by false e = refl
    by true e =
        let stands = (speaks p line h q pc e).stands in
        absurd (off (
          subst (λ (x : ℕ). x < 2 ^ 64) (sym stands) fits,
          subst (λ (x : ℕ). text_base ≤ x) (sym stands) from,
          ap place_of stands,
        ))

-- lines that aren't at the word of a step change nothing there
skips : (p : Program) (lines : List FaultLine) (h q pc : ℕ) → pc < 2 ^ 64 → text_base ≤ pc → (d n : ℕ)
    → n + d ≤ length lines
    → ((k : ℕ) (line : FaultLine) → n ≤ k → k < n + d → slice_get lines k ≡ Some line → ¬ IsAt p line (place_of pc))
    → change_of p (drop (n + d) lines) h q pc ≡ change_of p (drop n lines) h q pc
skips p lines h q pc fits from zero n room none = ap (λ (k : ℕ). change_of p (drop k lines) h q pc) (omega arith)
skips p lines h q pc fits from (suc d) n room none =
    let (line, found) = get-some lines n (omega (arith, room)) in
    let silent = not-here p line h q pc fits from (none n line (omega arith) (omega arith) found) in
    let is = get_or_from_slice_get lines n line line found in
    ap (λ (k : ℕ). change_of p (drop k lines) h q pc) (omega arith)
    ∙ (skips p lines h q pc fits from d (suc n) (omega (arith, room))
    (λ k other above below at. none k other (omega (arith, above)) (omega (arith, below)) at)
    ∙ from-here p lines n (suc n) line h q pc false _ _ refl (omega (arith, room))
    (sym (ap (λ (x : FaultLine). names p x h q pc) is ∙ silent)) refl refl)

-- from a place in the script to the last line before it at the word of a step
pub to-last : (p : Program) (lines : List FaultLine) (n number : ℕ) (h q pc : ℕ) (change : Change) → pc < 2 ^ 64
    → text_base ≤ pc → n ≤ length lines → IsLast p lines (place_of pc) n number
    → change ≡ change_of p (drop n lines) h q pc → change ≡ change_of p (drop number lines) h q pc
to-last p lines n number h q pc change fits from room last was =
    let more : number + (n - number) ≡ n = omega (arith, last.within) in
    was ∙ (ap (λ (k : ℕ). change_of p (drop k lines) h q pc) (sym more)
    ∙ skips p lines h q pc fits from (n - number) number (omega (arith, more, room))
    (λ k line above below found. last.none_later k line above (omega (arith, below, more)) found))

-- a script without lines changes nothing
pub no-lines : (p : Program) (lines : List FaultLine) (h q pc : ℕ) → lines ≡ [] → nothing ≡ change_of p lines h q pc
no-lines p lines h q pc none =
    sym (ap (λ (x : List FaultLine). change_of p x h q pc) none ∙ none-changes p h q pc)

-- ---- the tables of a program that is seen otherwise

pub kept-shown : (v : Scripted) (p : Program) (shown lines : List FaultLine) (lasts befores : List ℕ)
    → ◌≡◌ {A = Scripted} (record { program = p; lines = shown }) v → lines ≡ shown → KeepsChains p shown lasts befores
    → KeepsChains v.program lines lasts befores
kept-shown v p shown lines lasts befores is same kept =
    subst (λ (x : List FaultLine). KeepsChains v.program x lasts befores)
    (sym (same ∙ ap (λ (w : Scripted). w.lines) is))
    (subst (λ (w : Scripted). KeepsChains w.program w.lines lasts befores) is kept)

-- the last of all lines at a word of the text, or none
pub found-last : (p : Program) (lines : List FaultLine) (lasts befores : List ℕ) (pc number : ℕ)
    → KeepsChains p lines lasts befores → place_of pc < length p.text → number ≡ get_or lasts (place_of pc) number
    → IsLast p lines (place_of pc) (length lines) number
found-last p lines lasts befores pc number kept few is =
    let room : place_of pc < length lasts = omega (arith, few, kept.words) in
    subst (IsLast p lines (place_of pc) (length lines))
    (get_or_default lasts (place_of pc) 0 number room ∙ sym is)
    (kept.chained.last (place_of pc) room)

-- what the first lines change, to the last of them at the word of a step
pub from-last : (p : Program) (lines : List FaultLine) (h q pc number : ℕ) (change : Change) → pc < 2 ^ 64
    → text_base ≤ pc → IsLast p lines (place_of pc) (length lines) number → change ≡ nothing
    → change ≡ change_of p (drop number lines) h q pc
from-last p lines h q pc number change fits from last none =
    to-last p lines (length lines) number h q pc change fits from (omega arith) last
    (all-behind p lines h q pc change none)

-- One line more is looked at, and the number of the one before it at its word is the next.
pub record OneMore (p : Program) (lines : List FaultLine) (number next h q pc : ℕ) (after : Change) : Type 0 where
  pub less : next < number
  pub last : IsLast p lines (place_of pc) (number - 1) next
  pub behind : after ≡ change_of p (drop next lines) h q pc

pub one-more-line : (v : Scripted) (p : Program) (lines : List FaultLine) (lasts befores : List ℕ) (number next : ℕ)
    (d : FaultLine) (h q pc : ℕ) (before after : Change) → p ≡ v.program → KeepsChains v.program lines lasts befores
    → pc < 2 ^ 64 → text_base ≤ pc → place_of pc < length v.program.text → 0 < number → number ≤ length lines
    → ((k : ℕ) (line : FaultLine) → number ≡ suc k → slice_get lines k ≡ Some line
    → IsAt v.program line (place_of pc))
    → next ≡ get_or befores (number - 1) next → before ≡ change_of v.program (drop number lines) h q pc
    → after ≡ (if names p (get_or lines (number - 1) d) h q pc
    then with_action (get_or lines (number - 1) d).action before else before)
    → OneMore v.program lines number next h q pc after
one-more-line v p lines lasts befores number next d h q pc before after is kept fits from few some room at found was
    made =
    let k = number - 1 in
    let (line, here) = get-some lines k (omega (arith, some, room)) in
    let last : IsLast v.program lines (place_of pc) k next =
    subst (IsLast v.program lines (place_of pc) k)
    (get_or_default befores k 0 next (omega (arith, some, room, kept.count)) ∙ sym found)
    (kept.chained.before k (place_of pc) line (omega (arith, some, room)) (omega (arith, few, kept.words)) here
    (at k line (omega (arith, some)) here)) in
    let now : after ≡ change_of v.program (drop k lines) h q pc =
    from-here v.program lines k number d h q pc (names p (get_or lines k d) h q pc) before after (omega (arith, some))
    room (ap (λ (x : Program). names x (get_or lines k d) h q pc) is) was made in
    record {
      less = omega (arith, last.within, some);
      last = last;
      behind = to-last v.program lines k next h q pc after fits from (omega (arith, room)) last now;
    }
