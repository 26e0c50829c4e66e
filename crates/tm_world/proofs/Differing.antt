-- Lines of an accepted script that speak of one step do different kinds of action to it.
use Rattle.std.proofs.Common.{◌≡◌, ℕ, suc, ◌+◌, ◌*◌, List, [], ◌∷◌, Bool, true, false, ◌==◌, ◌&&◌, Option, None, Some}
use Rattle.std.proofs.Common.{map, refl, sym, ◌∙◌, arith, eqb-true, eq-eqb}
use Rattle.std.specs.Prelude.{if◌then◌else◌, All, AllPairs}
use Rattle.std.proofs.lemmas.Bool.{and_parts, and_from, false≢true, true≢false}
use Rattle.std.proofs.lemmas.List.Elements.{All-nil, All-cons, All-head, All-tail}
use Rattle.std.proofs.lemmas.List.Kept.{AllPairs-cons}
use Rattle.tm_plan_cases.specs.declared.program.Program.{Program}
use Rattle.tm_plan_script.specs.declared.faults.FaultLine.{FaultLine}
use Rattle.tm_plan_script.specs.declared.faults.Action.{Action}
use Rattle.tm_world.specs.Lists.{those}
use Rattle.tm_world.specs.Place.{start_of, inside}
use Rattle.tm_world.specs.Writers.{case_of_phase}
use Rattle.tm_world.specs.Script.{is_of_pass, pass_of_phase, is_slot_at, names_in, names}
use Rattle.tm_plan_script.specs.Accepted.{same_kind, meet, are_twice}
use Rattle.tm_world.specs.Laws.{ActionsDiffer}

-- ---- two lines

abbrev Differ : Action → Action → Type 0
Differ a b = same_kind a b ≡ false

abbrev Apart : FaultLine → FaultLine → Type 0
Apart a b = are_twice a b ≡ false

passes-meet : (a b : Option ℕ) (k : ℕ) → is_of_pass a k ≡ true → is_of_pass b k ≡ true → meet a b ≡ true
passes-meet None b k e f = refl
passes-meet (Some n) None k e f = refl
passes-meet (Some n) (Some m) k e f = eq-eqb n m (eqb-true n k e ∙ sym (eqb-true m k f))

module _ (p : Program) (a b : FaultLine) (h k pc : ℕ) where
  differ-in : (o : Option ℕ) → names_in p a h k pc o ≡ true → names_in p b h k pc o ≡ true → Apart a b
      → Differ a.action b.action
  differ-in None e f apart = absurd (false≢true e)
  differ-in (Some c) e f apart = by (same_kind a.action b.action) refl
    where
      by : (t : Bool) → same_kind a.action b.action ≡ t → t ≡ false
      by false g = refl
      by true g =
          let (ah, a1) = and_parts (a.hart == h) ((a.case == c) && (is_of_pass a.pass k && is_slot_at p a h c pc)) e in
          let (ac, a2) = and_parts (a.case == c) (is_of_pass a.pass k && is_slot_at p a h c pc) a1 in
          let (ap, a3) = and_parts (is_of_pass a.pass k) (is_slot_at p a h c pc) a2 in
          let (ai, at) = and_parts (inside p h c pc) (start_of p h c + 4 * a.slot == pc) a3 in
          let (bh, b1) = and_parts (b.hart == h) ((b.case == c) && (is_of_pass b.pass k && is_slot_at p b h c pc)) f in
          let (bc, b2) = and_parts (b.case == c) (is_of_pass b.pass k && is_slot_at p b h c pc) b1 in
          let (bp, b3) = and_parts (is_of_pass b.pass k) (is_slot_at p b h c pc) b2 in
          let (bi, bt) = and_parts (inside p h c pc) (start_of p h c + 4 * b.slot == pc) b3 in
          let slot-a : start_of p h c + 4 * a.slot ≡ pc = eqb-true _ pc at in
          let slot-b : start_of p h c + 4 * b.slot ≡ pc = eqb-true _ pc bt in
          let hart = eq-eqb a.hart b.hart (eqb-true a.hart h ah ∙ sym (eqb-true b.hart h bh)) in
          let case = eq-eqb a.case b.case (eqb-true a.case c ac ∙ sym (eqb-true b.case c bc)) in
          let slot = eq-eqb a.slot b.slot (omega arith) in
          let meets = passes-meet a.pass b.pass k ap bp in
          let both = and_from (same_kind a.action b.action) (meet a.pass b.pass) g meets in
          let rest = and_from (a.slot == b.slot) (same_kind a.action b.action && meet a.pass b.pass) slot both in
          let twice : are_twice a b ≡ true = and_from _ _ hart (and_from _ _ case rest) in
          absurd (true≢false (sym twice ∙ apart))

differ : (p : Program) (h q pc : ℕ) (a b : FaultLine) → names p a h q pc ≡ true → names p b h q pc ≡ true
    → Apart a b → Differ a.action b.action
unfolding names
differ p h q pc a b = differ-in p a b h (pass_of_phase p q) pc (case_of_phase p q)

-- ---- all lines

abbrev action_of : FaultLine → Action
action_of line = line.action

-- two lines that pass the test, and aren't twice the same, do different actions
abbrev Telling : (FaultLine → Bool) → Type 0
Telling test = (a b : FaultLine) → test a ≡ true → test b ≡ true → Apart a b → Differ a.action b.action

module _ (test : FaultLine → Bool) (tells : Telling test) where
  abbrev actions : List FaultLine → List Action
  actions lines = map action_of (those test lines)

  abbrev with : Bool → FaultLine → List FaultLine → List Action
  with t line lines = map action_of (if t then line ∷ those test lines else those test lines)

  from-line : (line : FaultLine) → test line ≡ true → (lines : List FaultLine) → All (Apart line) lines
      → All (Differ line.action) (actions lines)
  from-line line e [] s = All-nil (Differ line.action)
  from-line line e (next ∷ lines) s =
      by (test next) refl (All-head (Apart line) next lines s)
      (from-line line e lines (All-tail (Apart line) next lines s))
    where
      by : (t : Bool) → test next ≡ t → Apart line next → All (Differ line.action) (actions lines)
          → All (Differ line.action) (with t next lines)
      by true f apart rest = All-cons (Differ line.action) next.action (actions lines) (tells line next e f apart) rest
      by false f apart rest = rest

  all-differ : (lines : List FaultLine) → AllPairs Apart lines → AllPairs Differ (actions lines)
  all-differ [] s = λ i j d l m. absurd (omega arith)
  all-differ (line ∷ lines) s =
      by (test line) refl (λ j d l. s 0 (suc j) d (omega arith) (omega arith))
      (all-differ lines (λ i j d l m. s (suc i) (suc j) d (omega arith) (omega arith)))
    where
      by : (t : Bool) → test line ≡ t → All (Apart line) lines → AllPairs Differ (actions lines)
          → AllPairs Differ (with t line lines)
      by true e apart rest = AllPairs-cons Differ line.action (actions lines) (from-line line e lines apart) rest
      by false e apart rest = rest

pub actions-differ : (p : Program) → ActionsDiffer p
actions-differ p lines accepted h q pc = all-differ (λ line. names p line h q pc) (differ p h q pc) lines accepted.once
