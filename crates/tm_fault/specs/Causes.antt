-- Which fault a script has, in the form's own words: the first token of its first line with a fault that doesn't stand
-- at its place, and why (this project's own).
use Rattle.std.specs.Prelude.{ℕ, ◌≡◌, ◌⊎◌, ◌≤◌, ◌<◌, ◌*◌, ◌^◌, true, List, [], ◌∷◌, ◌++◌, length, Option, Some}
use Rattle.std.specs.Prelude.{IfSome, IsTrue, Ok, Err, codes}
use Rattle.tm_lex.specs.Lexing.{tokens_of}
use Rattle.tm_lex.specs.declared.token.Token.{Token}
use Rattle.tm_lex.specs.declared.token.LexFault.{LexFault}
use Rattle.tm_lex.specs.Lines.{Lexeme, lexemes}
use Rattle.tm_table.specs.declared.instr.Instr.{Instr}
use Rattle.tm_plan_cases.specs.declared.cases.Cases.{Cases}
use Rattle.tm_plan_cases.specs.Streams.{stream_in}
use Rattle.tm_plan_map.specs.Slots.{load_width, store_width}
use Rattle.tm_plan_script.specs.declared.faults.FaultLine.{FaultLine}
use Rattle.tm_plan_script.specs.declared.faults.Action.{Action}
use Rattle.tm_plan_script.specs.declared.faults.Action.TheVariants.{Result, Loaded, Stored, Drop, Turn}
use Rattle.tm_plan_script.specs.Accepted.{slot_of, IsAccepted, AreAccepted}
use Rattle.tm_fault.specs.declared.fault.FaultScriptFault.{FaultScriptFault}
use Rattle.tm_fault.specs.declared.fault.FaultScriptFault.TheVariants.{Lex, Expected, OutOfRange, NoEffect, Twice}
use Rattle.tm_fault.specs.declared.fault.Want2.TheVariants as want
use Rattle.tm_fault.specs.declared.line.Kind.{Kind}
use Rattle.tm_fault.specs.declared.line.Kind.TheVariants as kind
use Rattle.tm_fault.specs.Script.{suits, slot_count, is_twice}
use Rattle.tm_fault.specs.Spelled.{Fits, AreFit, pass_piece, line_pieces, all_pieces}
use Rattle.tm_fault.specs.Spelled.Piece.{fixed, a_number, the_end}

-- ---- the places of a line

-- What has to stand at one token, with what the token says there: a fixed word; a number below a limit; a pass of so
-- many, or all of them; the word of an action that suits a slot's instruction; the action's number, below a limit; the
-- line's end.
pub data Place : Type 0 where
  word_place : List ℕ → Place
  index_place : (says limit : ℕ) → Place
  pass_place : (says : Option ℕ) → (passes : ℕ) → Place
  action_place : (says : Kind) → (slot : Option Instr) → Place
  xor_place : (says limit : ℕ) → Place
  end_place : Place

-- the word of a kind of action
abbrev pub kind_text : Kind → List ℕ
kind_text kind.Result = codes "result"
kind_text kind.Loaded = codes "loaded"
kind_text kind.Stored = codes "stored"
kind_text kind.Drop = codes "drop"
kind_text kind.Turn = codes "turn"

-- the slot has an instruction, and actions of this kind do something to it
abbrev pub HasEffect : Kind → Option Instr → Type 0
HasEffect k slot = (i : Instr) × (slot ≡ Some i) × (suits k i ≡ true)

-- a number of an action: not 0, and below a limit
abbrev pub IsXor : (limit n : ℕ) → Type 0
IsXor limit n = (1 ≤ n) × (n < limit)

-- a token stands at a place, and says there what the place has it say
abbrev pub Stands : Place → Lexeme → Type 0
Stands (word_place w) x = Fits (fixed w) x
Stands (index_place n limit) x = Fits (a_number n) x × (n < limit)
Stands (pass_place p passes) x = Fits (pass_piece p) x × IfSome p (λ k. k < passes)
Stands (action_place k slot) x = Fits (fixed (kind_text k)) x × HasEffect k slot
Stands (xor_place n limit) x = Fits (a_number n) x × IsXor limit n
Stands end_place x = Fits the_end x

-- ---- why a token doesn't stand at a place, whatever it might say there

-- where a number of a kind is wanted: it is no number, or a number of another kind
abbrev pub FailsNumber : (ℕ → Type 0) → Lexeme → FaultScriptFault → Type 0
FailsNumber P x e =
    (((n : ℕ) → Fits (a_number n) x → ⊥) × (e ≡ Expected x.0.at want.Number))
    ⊎ ((n : ℕ) × Fits (a_number n) x × (P n → ⊥) × (e ≡ OutOfRange x.0.at n))

-- where an action on a slot is wanted: it is no action's word, or that of an action without effect on the slot
abbrev pub FailsAction : Option Instr → Lexeme → FaultScriptFault → Type 0
FailsAction slot x e =
    (((k : Kind) → Fits (fixed (kind_text k)) x → ⊥) × (e ≡ Expected x.0.at want.Action))
    ⊎ ((k : Kind) × Fits (fixed (kind_text k)) x × (HasEffect k slot → ⊥) × (e ≡ NoEffect x.0.at))

-- a token is at fault at a place: the fault, with the token's own place in the text
abbrev pub Fails : Place → Lexeme → FaultScriptFault → Type 0
Fails (word_place w) x e = (Fits (fixed w) x → ⊥) × (e ≡ Expected x.0.at want.Word)
Fails (index_place n limit) x e = FailsNumber (λ k. k < limit) x e
Fails (pass_place p passes) x e = (Fits (fixed (codes "*")) x → ⊥) × FailsNumber (λ k. k < passes) x e
Fails (action_place k slot) x e = FailsAction slot x e
Fails (xor_place n limit) x e = FailsNumber (IsXor limit) x e
Fails end_place x e = (Fits the_end x → ⊥) × (e ≡ Expected x.0.at want.LineEnd)

-- of tokens at places in order the first that is at fault has this fault; those before it stand at their places
abbrev pub FailsAt : List Place → List Lexeme → FaultScriptFault → Type 0
FailsAt [] xs e = ⊥
FailsAt (p ∷ ps) [] e = ⊥
FailsAt (p ∷ ps) (x ∷ xs) e = Fails p x e ⊎ (Stands p x × FailsAt ps xs e)

-- ---- lines

-- what the number of an action on a slot is below: two to the bits of what it is xored to
abbrev pub xor_limit : Kind → Option Instr → ℕ
xor_limit kind.Loaded (Some i) = 2 ^ (8 * load_width i.op)
xor_limit kind.Stored (Some i) = 2 ^ (8 * store_width i.op)
xor_limit _ _ = 2 ^ 64

-- the places of an action on a slot
abbrev pub action_places : Option Instr → Action → List Place
action_places slot (Result n) = action_place kind.Result slot ∷ xor_place n (xor_limit kind.Result slot) ∷ []
action_places slot (Loaded n) = action_place kind.Loaded slot ∷ xor_place n (xor_limit kind.Loaded slot) ∷ []
action_places slot (Stored n) = action_place kind.Stored slot ∷ xor_place n (xor_limit kind.Stored slot) ∷ []
action_places slot Drop = action_place kind.Drop slot ∷ []
action_places slot Turn = action_place kind.Turn slot ∷ []

-- the places of a line that says this: hart H case C pass P slot S ACTION
abbrev pub places : Cases → FaultLine → List Place
places cases l =
    word_place (codes "hart") ∷ index_place l.hart cases.harts
    ∷ word_place (codes "case") ∷ index_place l.case (length cases.cases)
    ∷ word_place (codes "pass") ∷ pass_place l.pass cases.passes
    ∷ word_place (codes "slot") ∷ index_place l.slot (slot_count (stream_in cases l.case l.hart))
    ∷ (action_places (slot_of cases l) l.action ++ end_place ∷ [])

-- Tokens are no line: for what their tokens before say, the next is at fault. What a line would say behind that one has
-- no part in it.
abbrev pub IsNoLine : Cases → List Lexeme → FaultScriptFault → Type 0
IsNoLine cases xs e = (l : FaultLine) × FailsAt (places cases l) xs e

-- tokens begin with an accepted line that an earlier one repeats; the fault stands at its first token
pub record Repeats (cases : Cases) (lines : List FaultLine) (x : Lexeme) (behind : List Lexeme) (e : FaultScriptFault)
    : Type 0 where
  pub line : FaultLine
  pub front : List Lexeme
  pub rest : List Lexeme
  pub whole : x ∷ behind ≡ front ++ rest
  pub spelled : AreFit (line_pieces line) front
  pub accepted : IsAccepted cases line
  pub earlier : IsTrue (is_twice lines line)
  pub fault : e ≡ Twice x.0.at

-- tokens have this fault: some lines stand first that are accepted, and it is the fault of the line behind them
pub record HaveFault (cases : Cases) (xs : List Lexeme) (e : FaultScriptFault) : Type 0 where
  pub lines : List FaultLine
  pub front : List Lexeme
  pub x : Lexeme
  pub behind : List Lexeme
  pub whole : xs ≡ front ++ x ∷ behind
  pub spelled : AreFit (all_pieces lines) front
  pub accepted : AreAccepted cases lines
  pub fault : IsNoLine cases (x ∷ behind) e ⊎ Repeats cases lines x behind e

-- the fault of a text: that of its tokens, or where it has tokens that of its first line with one
unfoldable pub IsFaultOf : Cases → List ℕ → FaultScriptFault → Type 0
IsFaultOf cases text e =
    ((f : LexFault) × (tokens_of text ≡ Err f) × (e ≡ Lex f))
    ⊎ ((ts : List Token) × (tokens_of text ≡ Ok ts) × HaveFault cases (lexemes text ts) e)
