-- A script is refused exactly for its first fault.
use Rattle.std.proofs.Common.{◌≡◌, ◌≢◌, ◌∙◌, ◌≤◌, ℕ, Bool, cond, true, false, zero, suc}
use Rattle.std.proofs.Common.{refl, sym, ap, subst, arith, List, [], ◌∷◌, ◌++◌, length}
use Rattle.std.proofs.Common.{Result, Ok, Err, IfOk, IfErr, true≢false, inl, inr, ◌⊎◌, append_assoc}
use Rattle.std.proofs.Common.{append-nil, length-append}
use Rattle.tm_lex.specs.Lexing.{tokens_of}
use Rattle.tm_lex.specs.declared.token.Token.{Token}
use Rattle.tm_lex.specs.declared.token.LexFault.{LexFault}
use Rattle.tm_plan_cases.specs.declared.cases.Cases.{Cases}
use Rattle.tm_plan_script.specs.declared.faults.FaultLine.{FaultLine}
use Rattle.tm_plan_script.specs.Accepted.{AreAccepted}
use Rattle.tm_fault.specs.declared.fault.FaultScriptFault.{FaultScriptFault}
use Rattle.tm_fault.specs.declared.fault.FaultScriptFault.TheVariants.{Lex, Expected, OutOfRange, NoEffect, Twice}
use Rattle.tm_fault.specs.declared.fault.FaultScriptFault.TheVariants.{NoMemory}
use Rattle.tm_lex.specs.Lines.{Lexeme, lexemes}
use Rattle.tm_fault.specs.Script.{Reading, line_reading, is_twice, unless_twice, next_line}
use Rattle.tm_fault.specs.Script.{behind_line, lines_from, of_tokens, script_of}
use Rattle.tm_fault.specs.Spelled.{AreFit, line_pieces, all_pieces, IsScript, IsOrNoMemory}
use Rattle.tm_fault.specs.Spelled.{IsFaultOrNoMemory}
use Rattle.tm_fault.specs.Causes.{IsNoLine, Repeats, HaveFault, IsFaultOf}
use Rattle.tm_fault.proofs.Reading.{err≢ok, ok-same, err-same, fit_parts}
use Rattle.tm_fault.proofs.Lines.{line_got, line_reads}
use Rattle.tm_fault.proofs.Ends.{has_end, lexed_well, text_ends, lexed, left_well, has_one}
use Rattle.tm_fault.proofs.Failing.{no_line}
use Rattle.tm_fault.proofs.Refusing.{line_refused}
use Rattle.tm_fault.proofs.Scripts.{some_tokens, line_step, next_got, put_accepted, one_accepted}
use Rattle.tm_fault.proofs.Scripts.{none_accepted, fit_more, as_many, script_got, script_reads}

-- ---- faults

-- the line behind some accepted ones isn't read
pub record FaultAt (cases : Cases) (xs : List Lexeme) (e : FaultScriptFault) : Type 0 where
  pub lines : List FaultLine
  pub front : List Lexeme
  pub x : Lexeme
  pub behind : List Lexeme
  pub whole : xs ≡ front ++ x ∷ behind
  pub spelled : AreFit (all_pieces lines) front
  pub accepted : AreAccepted cases lines
  pub fault : next_line cases lines (x ∷ behind) ≡ Err e

fault_next : (k : ℕ) (cases : Cases) (before : List FaultLine) (front : List Lexeme) (x : Lexeme) (xs : List Lexeme)
    (e : FaultScriptFault) (r : Reading FaultLine)
    → next_line cases before (x ∷ xs) ≡ r → behind_line (lines_from k cases) before r ≡ Err e
    → AreFit (all_pieces before) front → AreAccepted cases before → length (x ∷ xs) ≤ suc k
    → ((b : List FaultLine) (done rest : List Lexeme) → lines_from k cases b rest ≡ Err e → AreFit (all_pieces b) done
    → AreAccepted cases b → length rest ≤ k
    → FaultAt cases (done ++ rest) e)
    → FaultAt cases (front ++ x ∷ xs) e
fault_next k cases before front x xs e (Err d) is b f all long more = record {
  lines = before;
  front = front;
  x = x;
  behind = xs;
  whole = refl;
  spelled = f;
  accepted = all;
  fault = is ∙ ap Err (err-same d e b);
}
fault_next k cases before front x xs e (Ok p) is b f all long more =
    let nx = next_got cases before (x ∷ xs) p.0 p.1 is in
    let g = nx.got.got in
    let some = some_tokens p.0 g.front g.fit in
    let short : length p.1 ≤ k = let both = ap length g.whole in let sum = length-append g.front p.1 in omega
    (arith, both, sum, some, long) in
    subst (λ t. FaultAt cases t e) (append_assoc front g.front p.1 ∙ ap (λ t. front ++ t) (sym g.whole))
    (more (before ++ p.0 ∷ []) (front ++ g.front) p.1 b (fit_more before p.0 front g.front f g.fit)
    (put_accepted cases before p.0 all nx.got.accepted nx.new) short)

fault_all : (n : ℕ) (cases : Cases) (before : List FaultLine) (front xs : List Lexeme) (e : FaultScriptFault)
    → lines_from n cases before xs ≡ Err e
    → AreFit (all_pieces before) front → AreAccepted cases before → length xs ≤ n → FaultAt cases (front ++ xs) e
unfolding lines_from
fault_all zero cases before front [] e b f all long = absurd (err≢ok e before (sym b))
fault_all zero cases before front (x ∷ xs) e b f all long = absurd (omega arith)
fault_all (suc k) cases before front [] e b f all long = absurd (err≢ok e before (sym b))
fault_all (suc k) cases before front (x ∷ xs) e b f all long =
    fault_next k cases before front x xs e (next_line cases before (x ∷ xs)) refl b f all long
    (λ c done rest b f all long. fault_all k cases c done rest e b f all long)

-- it has a token at fault, or repeats an earlier one
line_at_fault : (cases : Cases) (lines : List FaultLine) (x : Lexeme) (behind : List Lexeme) (e : FaultScriptFault)
    → has_end (x ∷ behind) ≡ true → next_line cases lines (x ∷ behind) ≡ Err e
    → IsNoLine cases (x ∷ behind) e ⊎ Repeats cases lines x behind e
unfolding next_line
line_at_fault cases lines x behind e ends is = go (line_reading cases (x ∷ behind)) refl is
  where
    repeated : (p : FaultLine × List Lexeme) → line_reading cases (x ∷ behind) ≡ Ok p → (b : Bool)
        → is_twice lines p.0 ≡ b
        → cond {A = Reading FaultLine} b (Err (Twice x.0.at)) (Ok p) ≡ Err e
        → IsNoLine cases (x ∷ behind) e ⊎ Repeats cases lines x behind e
    repeated p read true old is =
        let got = line_got cases (x ∷ behind) p.0 p.1 read in inr (record {
          line = p.0;
          front = got.got.front;
          rest = p.1;
          whole = got.got.whole;
          spelled = got.got.fit;
          accepted = got.accepted;
          earlier = old;
          fault = sym (err-same (Twice x.0.at) e is);
        })
    repeated p read false old is = absurd (err≢ok e p (sym is))

    go : (r : Reading FaultLine) → line_reading cases (x ∷ behind) ≡ r → unless_twice x.0.at lines r ≡ Err e
        → IsNoLine cases (x ∷ behind) e ⊎ Repeats cases lines x behind e
    go (Err d) read is = inl (no_line cases (x ∷ behind) e ends (read ∙ is))
    go (Ok p) read is = repeated p read (is_twice lines p.0) refl is

-- and a line with a token at fault, or that repeats an earlier one, isn't read
line_not_read : (cases : Cases) (lines : List FaultLine) (x : Lexeme) (behind : List Lexeme) (e : FaultScriptFault)
    → IsNoLine cases (x ∷ behind) e ⊎ Repeats cases lines x behind e → next_line cases lines (x ∷ behind) ≡ Err e
unfolding next_line
line_not_read cases lines x behind e (inl h) =
    ap (unless_twice x.0.at lines) (line_refused cases h.0 (x ∷ behind) e h.1)
line_not_read cases lines x behind e (inr r) =
    ap (unless_twice x.0.at lines) (ap (line_reading cases) r.whole
    ∙ line_reads cases r.line r.front r.rest r.spelled r.accepted)
    ∙ (ap (λ b. cond {A = Reading FaultLine} b (Err (Twice x.0.at)) (Ok (r.line, r.rest))) r.earlier
    ∙ ap Err (sym r.fault))

found : (cases : Cases) (text : List ℕ) (ts : List Token) (e : FaultScriptFault) → tokens_of text ≡ Ok ts
    → FaultAt cases (lexemes text ts) e → HaveFault cases (lexemes text ts) e
found cases text ts e is f =
    let well : lexed_well (f.front ++ f.x ∷ f.behind) ≡ true =
    ap lexed_well (sym f.whole) ∙ lexed text ts (text_ends text ts is) in record {
      lines = f.lines;
      front = f.front;
      x = f.x;
      behind = f.behind;
      whole = f.whole;
      spelled = f.spelled;
      accepted = f.accepted;
      fault = line_at_fault cases f.lines f.x f.behind e (has_one f.x f.behind (left_well f.front f.x f.behind well))
          f.fault;
    }

-- accepted lines are read, up to one that isn't
refuses : (cases : Cases) (more : List FaultLine) (n : ℕ) (before : List FaultLine) (front : List Lexeme) (x : Lexeme)
    (behind : List Lexeme) (e : FaultScriptFault) → AreFit (all_pieces more) front → AreAccepted cases (before ++ more)
    → next_line cases (before ++ more) (x ∷ behind) ≡ Err e → length (front ++ x ∷ behind) ≤ n
    → lines_from n cases before (front ++ x ∷ behind) ≡ Err e
unfolding lines_from
refuses cases [] zero before [] x behind e f all is long = absurd (omega arith)
refuses cases [] (suc k) before [] x behind e f all is long =
    ap (behind_line (lines_from k cases) before)
    (ap (λ (ls : List FaultLine). next_line cases ls (x ∷ behind)) (sym (append-nil before)) ∙ is)
refuses cases [] n before (y ∷ front) x behind e f all is long = absurd f
refuses cases (l ∷ ls) n before front x behind e f all is long =
    let p = fit_parts (line_pieces l) (all_pieces ls) front f in
    let here = one_accepted cases before l ls all in
    let same : (before ++ l ∷ []) ++ ls ≡ before ++ l ∷ ls = append_assoc before (l ∷ []) ls in
    let behind_it : AreAccepted cases ((before ++ l ∷ []) ++ ls) = subst (AreAccepted cases) (sym same) all in
    let next : next_line cases ((before ++ l ∷ []) ++ ls) (x ∷ behind) ≡ Err e =
    ap (λ (ms : List FaultLine). next_line cases ms (x ∷ behind)) same ∙ is in
    let cut : front ++ x ∷ behind ≡ p.front ++ (p.back ++ x ∷ behind) =
    ap (λ t. t ++ x ∷ behind) p.whole ∙ append_assoc p.front p.back (x ∷ behind) in
    let short : length (p.front ++ (p.back ++ x ∷ behind)) ≤ n = subst (λ t. length t ≤ n) cut long in
    ap (lines_from n cases before) cut
    ∙ line_step n cases before l p.front (p.back ++ x ∷ behind) (Err e) p.first here.0 here.1 short
    (λ k less. refuses cases ls k (before ++ l ∷ []) p.back x behind e p.second behind_it next less)

-- ---- texts

pub script_fault : (cases : Cases) (text : List ℕ) (e : FaultScriptFault) → script_of cases text ≡ Err e
    → IsFaultOf cases text e
unfolding script_of IsFaultOf
script_fault cases text e b = go (tokens_of text) refl b
  where
    go : (r : Result (List Token) LexFault) → tokens_of text ≡ r → of_tokens cases text r ≡ Err e
        → ((f : LexFault) × (tokens_of text ≡ Err f) × (e ≡ Lex f))
        ⊎ ((ts : List Token) × (tokens_of text ≡ Ok ts) × HaveFault cases (lexemes text ts) e)
    go (Err x) is b = inl (x, is, sym (err-same (Lex x) e b))
    go (Ok ts) is b =
        inr (
          ts,
          is,
          found cases text ts e is
              (fault_all (length ts) cases [] [] (lexemes text ts) e b tt (none_accepted cases)
              (let many = as_many text ts in omega (arith, many))),
        )

pub script_refuses : (cases : Cases) (text : List ℕ) (e : FaultScriptFault) → IsFaultOf cases text e
    → script_of cases text ≡ Err e
unfolding script_of IsFaultOf
script_refuses cases text e (inl f) = ap (of_tokens cases text) f.1 ∙ ap Err (sym f.2)
script_refuses cases text e (inr f) =
    let ts = f.0 in
    let h = f.2 in
    let many = as_many text ts in
    let long : length (h.front ++ h.x ∷ h.behind) ≤ length ts =
    subst (λ t. length t ≤ length ts) h.whole (omega (arith, many)) in
    ap (of_tokens cases text) f.1
    ∙ (ap (lines_from (length ts) cases []) h.whole
    ∙ refuses cases h.lines (length ts) [] h.front h.x h.behind e h.spelled h.accepted
    (line_not_read cases h.lines h.x h.behind e h.fault) long)

-- ---- the answers

pub script_result : (cases : Cases) (text : List ℕ) (r : Result (List FaultLine) FaultScriptFault)
    → IfOk r (λ lines. script_of cases text ≡ Ok lines)
    → IfOk r (IsScript cases text)
script_result cases text (Ok lines) e = script_got cases text lines e
script_result cases text (Err x) e = tt

pub fault_result : (cases : Cases) (text : List ℕ) (r : Result (List FaultLine) FaultScriptFault)
    → IfErr r (λ e. e ≢ NoMemory → script_of cases text ≡ Err e)
    → IfErr r (λ e. e ≢ NoMemory → IsFaultOf cases text e)
fault_result cases text (Ok lines) h = tt
fault_result cases text (Err e) h = λ other. script_fault cases text e (h other)

abbrev is_memory : FaultScriptFault → Bool
is_memory NoMemory = true
is_memory _ = false

memory_or_not : (e : FaultScriptFault) → (e ≡ NoMemory) ⊎ (e ≢ NoMemory)
memory_or_not NoMemory = inl refl
memory_or_not (Lex f) = inr (λ same. true≢false (sym (ap is_memory same)))
memory_or_not (Expected p w) = inr (λ same. true≢false (sym (ap is_memory same)))
memory_or_not (OutOfRange p v) = inr (λ same. true≢false (sym (ap is_memory same)))
memory_or_not (NoEffect p) = inr (λ same. true≢false (sym (ap is_memory same)))
memory_or_not (Twice p) = inr (λ same. true≢false (sym (ap is_memory same)))

pub only_result : (cases : Cases) (text : List ℕ) (r : Result (List FaultLine) FaultScriptFault)
    → IfOk r (λ lines. script_of cases text ≡ Ok lines)
    → IfErr r (λ e. e ≢ NoMemory → script_of cases text ≡ Err e) → (lines : List FaultLine)
    → IsScript cases text lines → IsOrNoMemory lines r
only_result cases text (Ok r) ok err lines sp = ok-same r lines (sym ok ∙ script_reads cases text lines sp)
only_result cases text (Err e) ok err lines sp = elim (memory_or_not e) [
  | inl none ↦ none
  | inr other ↦ absurd (err≢ok e lines (sym (err other) ∙ script_reads cases text lines sp))
]

pub refused_result : (cases : Cases) (text : List ℕ) (r : Result (List FaultLine) FaultScriptFault)
    → IfOk r (λ lines. script_of cases text ≡ Ok lines)
    → IfErr r (λ e. e ≢ NoMemory → script_of cases text ≡ Err e) → (e : FaultScriptFault) → IsFaultOf cases text e
    → IsFaultOrNoMemory e r
refused_result cases text (Ok lines) ok err e f = err≢ok e lines (sym (script_refuses cases text e f) ∙ ok)
refused_result cases text (Err d) ok err e f = elim (memory_or_not d) [
  | inl none ↦ inr none
  | inr other ↦ inl (err-same d e (sym (err other) ∙ script_refuses cases text e f))
]
