-- How the reader goes on from line to line.
use Rattle.std.proofs.Common.{◌≡◌, ◌∙◌, ◌<◌, ◌≤◌, ℕ, cond, true, false, zero, suc}
use Rattle.std.proofs.Common.{refl, sym, ap, arith, List, [], ◌∷◌, ◌++◌, length}
use Rattle.std.proofs.Common.{Result, Ok, Err, true≢false, All}
use Rattle.std.proofs.Common.{is_err, OnOk}
use Rattle.tm_lex.specs.declared.token.Token.{Token}
use Rattle.tm_plan_cases.specs.declared.cases.Cases.{Cases}
use Rattle.tm_plan_script.specs.declared.faults.FaultLine.{FaultLine}
use Rattle.tm_fault.specs.declared.fault.FaultScriptFault.{FaultScriptFault}
use Rattle.tm_fault.specs.declared.fault.FaultScriptFault.TheVariants.{Twice}
use Rattle.tm_lex.specs.Lines.{Lexeme, lexemes, IsSpan}
use Rattle.tm_fault.specs.Script.{IsLeft, Reading, line_reading, first_at, is_twice, unless_twice, next_line}
use Rattle.tm_fault.specs.Script.{behind_line, lines_from}
use Rattle.tm_fault.proofs.Scripts.{no_more}

-- ---- how the reader goes on

-- the reading of all tokens is that of those that are left, behind these lines
pub record Going (cases : Cases) (text : List ℕ) (all : List Token) (before : List FaultLine)
    (rest : List Token) : Type 0 where
  pub most : ℕ
  pub few : length rest ≤ most
  pub same : lines_from (length all) cases [] (lexemes text all) ≡ lines_from most cases before (lexemes text rest)
  pub spans : All (IsSpan text) rest

pub going_begins : (cases : Cases) (text : List ℕ) (all : List Token) → All (IsSpan text) all
    → Going cases text all [] all
going_begins cases text all spans = record { most = length all; few = omega arith; same = refl; spans = spans }

-- one line less
step_on : (k : ℕ) (cases : Cases) (text : List ℕ) (before : List FaultLine) (rest : List Token) (line : FaultLine)
    (behind : List Token) → length rest ≤ k
    → next_line cases before (lexemes text rest) ≡ Ok (line, lexemes text behind) → length behind < length rest
    → (n : ℕ) × (length behind ≤ n)
    × (lines_from k cases before (lexemes text rest) ≡ lines_from n cases (before ++ line ∷ []) (lexemes text behind))
unfolding lines_from
step_on k cases text before [] line behind few e less = absurd (omega arith)
step_on zero cases text before (t ∷ ts) line behind few e less = absurd (omega arith)
step_on (suc k) cases text before (t ∷ ts) line behind few e less =
    (k, omega (arith, few, less), ap (behind_line (lines_from k cases) before) e)

pub going_on : (cases : Cases) (text : List ℕ) (all : List Token) (before after : List FaultLine) (rest : List Token)
    (line : FaultLine) (behind : List Token) → Going cases text all before rest
    → next_line cases before (lexemes text rest) ≡ Ok (line, lexemes text behind) → IsLeft text rest behind
    → after ≡ before ++ line ∷ [] → Going cases text all after behind
going_on cases text all before after rest line behind g e left put =
    let step = step_on g.most cases text before rest line behind g.few e left.1 in
    record {
      most = step.0;
      few = step.1;
      same = g.same ∙ step.2 ∙ ap (λ ls. lines_from step.0 cases ls (lexemes text behind)) (sym put);
      spans = left.0;
    }

pub going_ends : (cases : Cases) (text : List ℕ) (all : List Token) (before : List FaultLine) (rest : List Token)
    → Going cases text all before rest → length rest ≡ 0
    → lines_from (length all) cases [] (lexemes text all) ≡ Ok before
going_ends cases text all before [] g none = g.same ∙ no_more g.most cases before
going_ends cases text all before (t ∷ ts) g none = absurd (omega arith)

fails_on : (k : ℕ) (cases : Cases) (text : List ℕ) (before : List FaultLine) (rest : List Token)
    (e : FaultScriptFault) → length rest ≤ k → 0 < length rest
    → next_line cases before (lexemes text rest) ≡ Err e → lines_from k cases before (lexemes text rest) ≡ Err e
unfolding lines_from
fails_on k cases text before [] e few some is = absurd (omega arith)
fails_on zero cases text before (t ∷ ts) e few some is = absurd (omega arith)
fails_on (suc k) cases text before (t ∷ ts) e few some is = ap (behind_line (lines_from k cases) before) is

pub going_fails : (cases : Cases) (text : List ℕ) (all : List Token) (before : List FaultLine) (rest : List Token)
    (e : FaultScriptFault) → Going cases text all before rest → 0 < length rest
    → next_line cases before (lexemes text rest) ≡ Err e → lines_from (length all) cases [] (lexemes text all) ≡ Err e
going_fails cases text all before rest e g some is = g.same ∙ fails_on g.most cases text before rest e g.few some is

-- ---- the code's next line

pub next_ok : (cases : Cases) (before : List FaultLine) (xs : List Lexeme) (l : FaultLine) (rest : List Lexeme)
    → line_reading cases xs ≡ Ok (l, rest) → is_twice before l ≡ false
    → next_line cases before xs ≡ Ok (l, rest)
unfolding next_line
next_ok cases before xs l rest e new =
    ap (unless_twice (first_at xs) before) e
    ∙ ap (λ b. cond {A = Reading FaultLine} b (Err (Twice (first_at xs))) (Ok (l, rest))) new

pub next_twice : (cases : Cases) (before : List FaultLine) (xs : List Lexeme) (l : FaultLine) (rest : List Lexeme)
    → line_reading cases xs ≡ Ok (l, rest) → is_twice before l ≡ true
    → next_line cases before xs ≡ Err (Twice (first_at xs))
unfolding next_line
next_twice cases before xs l rest e old =
    ap (unless_twice (first_at xs) before) e
    ∙ ap (λ b. cond {A = Reading FaultLine} b (Err (Twice (first_at xs))) (Ok (l, rest))) old

pub next_err : (cases : Cases) (before : List FaultLine) (xs : List Lexeme) (e : FaultScriptFault)
    → line_reading cases xs ≡ Err e → next_line cases before xs ≡ Err e
unfolding next_line
next_err cases before xs e is = ap (unless_twice (first_at xs) before) is
