-- Single tokens, and what they are read as.
use Rattle.std.proofs.Common.{◌≡◌, ◌∙◌, ◌<◌, ◌≤◌, ◌&&◌, ℕ, Bool, cond, true, false}
use Rattle.std.proofs.Common.{refl, sym, ap, subst, arith, List, [], ◌∷◌, ◌++◌, Option, Some}
use Rattle.std.proofs.Common.{None, Result, Ok, Err, true≢false, nat_lt, nat_le, inl, inr, ◌⊎◌, IfSome, codes}
use Rattle.std.specs.Str.{bytes_eq}
use Rattle.std.proofs.lemmas.Slice.Eq.{bytes_eq-Decides}
use Rattle.std.proofs.lemmas.Bool.Decides.{nat_tests}
use Rattle.std.proofs.lemmas.Bool.{and_parts, ltb-true, lt-ltb, leb-true, le-leb}
use Rattle.tm_base.specs.Numbers.{number_of, digits_reading, reading_at}
use Rattle.tm_base.specs.declared.numbers.NumberFault.TheVariants.{BadDigit}
use Rattle.tm_base.specs.declared.numbers.NumberFault.{NumberFault}
use Rattle.tm_lex.specs.declared.token.TokenKind.{TokenKind}
use Rattle.tm_lex.specs.declared.token.TokenKind.TheVariants.{Word, Raw, LineEnd}
use Rattle.tm_table.specs.declared.instr.Instr.{Instr}
use Rattle.tm_plan_script.specs.declared.faults.Action.{Action}
use Rattle.tm_fault.specs.declared.fault.FaultScriptFault.TheVariants.{OutOfRange, NoEffect}
use Rattle.tm_fault.specs.declared.fault.Want2.TheVariants as want
use Rattle.tm_fault.specs.declared.line.Kind.{Kind}
use Rattle.tm_fault.specs.declared.line.Kind.TheVariants as kind
use Rattle.tm_lex.specs.Lines.{Lexeme, is_word, is_line_end, keyword, line_end}
use Rattle.tm_fault.specs.Script.{Reading, ok_number, number, kind_of, action_kind, one, below, index, named, is_star}
use Rattle.tm_fault.specs.Script.{some_pass, pass_index, named_pass, suits, effective, kind_at, kind_reading}
use Rattle.tm_fault.specs.Script.{is_in_range, from_one, xor, with_number}
use Rattle.tm_fault.specs.Spelled.{Fits, AreFit, pass_piece}
use Rattle.tm_fault.specs.Causes.{kind_text}
use Rattle.tm_fault.specs.Spelled.Piece.{fixed, a_number, the_end}
use Rattle.tm_fault.proofs.Reading.{err≢ok, ok-same, bound}
use Rattle.tm_fault.proofs.Reading.{one_read, Got}
use Rattle.std.proofs.lemmas.Option.{same_Some, none-some}
use Rattle.tm_lex.proofs.KindLemmas.{word_is, end_is, if_some}

-- ---- single tokens

pub word_fits : (w : List ℕ) (x : Lexeme) (u : Unit {0}) → keyword w x ≡ Some u → Fits (fixed w) x
word_fits w x u e =
    let hit = if_some (is_word x.0.kind && bytes_eq x.1 w) (Some tt) u e in
    let parts = and_parts (is_word x.0.kind) (bytes_eq x.1 w) hit.0 in
    (word_is x.0.kind parts.0, (bytes_eq-Decides x.1 w).0 parts.1)

pub fits_word : (w : List ℕ) (x : Lexeme) → Fits (fixed w) x → keyword w x ≡ Some tt
fits_word w x f = rw (f.0, (bytes_eq-Decides x.1 w).1 f.1) refl

ok_is : (r : Result ℕ NumberFault) (n : ℕ) → ok_number r ≡ Some n → r ≡ Ok n
ok_is (Ok m) n e = ap Ok (same_Some m n e)
ok_is (Err x) n e = absurd (none-some n e)

pub number_fits : (x : Lexeme) (n : ℕ) → number x ≡ Some n → Fits (a_number n) x
number_fits x n e =
    let hit = if_some (is_word x.0.kind) (ok_number (number_of x.1)) n e in
    (word_is x.0.kind hit.0, ok_is (number_of x.1) n hit.1)

pub fits_number : (x : Lexeme) (n : ℕ) → Fits (a_number n) x → number x ≡ Some n
fits_number x n f = rw (f.0, f.1) refl

pub end_fits : (x : Lexeme) (u : Unit {0}) → line_end x ≡ Some u → Fits the_end x
end_fits x u e = end_is x.0.kind (if_some (is_line_end x.0.kind) (Some tt) u e).0

pub fits_end : (x : Lexeme) → Fits the_end x → line_end x ≡ Some tt
fits_end x f = rw f refl

-- ---- a number below a limit

pub record Index (limit : ℕ) (xs : List Lexeme) (n : ℕ) (rest : List Lexeme) : Type 0 where
  pub x : Lexeme
  pub whole : xs ≡ x ∷ rest
  pub fits : Fits (a_number n) x
  pub low : n < limit

pub index_read : (limit : ℕ) (xs : List Lexeme) (n : ℕ) (rest : List Lexeme) → index limit xs ≡ Ok (n, rest)
    → Index limit xs n rest
index_read limit [] n rest e = absurd (err≢ok _ (n, rest) e)
index_read limit (x ∷ xs) n rest e = go (number x) refl e
  where
    inside : (m : ℕ) → number x ≡ Some m → (b : Bool) → nat_lt m limit ≡ b
        → cond {A = Reading ℕ} b (Ok (m, xs)) (Err (OutOfRange x.0.at m)) ≡ Ok (n, rest)
        → Index limit (x ∷ xs) n rest
    inside m is true low e =
        let same = ok-same (m, xs) (n, rest) e in
        record {
          x = x;
          whole = ap (λ p. x ∷ p.1) same;
          fits = number_fits x n (is ∙ ap (λ p. Some p.0) same);
          low = ltb-true n limit (ap (λ p. nat_lt p.0 limit) (sym same) ∙ low);
        }
    inside m is false low e = absurd (err≢ok _ (n, rest) e)

    go : (o : Option ℕ) → number x ≡ o → below limit x xs o ≡ Ok (n, rest) → Index limit (x ∷ xs) n rest
    go None is e = absurd (err≢ok _ (n, rest) e)
    go (Some m) is e = inside m is (nat_lt m limit) refl e

pub named_got : (w : List ℕ) (limit : ℕ) (xs : List Lexeme) (n : ℕ) (rest : List Lexeme)
    → named w limit xs ≡ Ok (n, rest)
    → Got (fixed w ∷ a_number n ∷ []) xs rest × (n < limit)
named_got w limit xs n rest e =
    let parts = bound (one want.Word (keyword w) xs) (λ _ mid. index limit mid) n rest e in
    let word = one_read want.Word (keyword w) xs parts.a parts.mid parts.first in
    let number_at = index_read limit parts.mid n rest parts.second in (
      record {
        front = word.x ∷ number_at.x ∷ [];
        whole = word.whole ∙ ap (λ t. word.x ∷ t) number_at.whole;
        fit = (word_fits w word.x parts.a word.is, (number_at.fits, tt));
      },
      number_at.low,
    )

pub named_reads : (w : List ℕ) (limit n : ℕ) (xs rest : List Lexeme) → AreFit (fixed w ∷ a_number n ∷ []) xs
    → n < limit → named w limit (xs ++ rest) ≡ Ok (n, rest)
named_reads w limit n [] rest f low = absurd f
named_reads w limit n (x ∷ []) rest f low = absurd f.1
named_reads w limit n (x ∷ y ∷ []) rest f low = rw (fits_word w x f.0, fits_number y n f.1.0, lt-ltb n limit low) refl
named_reads w limit n (x ∷ y ∷ z ∷ xs) rest f low = absurd f.1.1

-- ---- a pass

pub star_fits : (x : Lexeme) → is_star x ≡ true → Fits (fixed (codes "*")) x
star_fits x e =
    let parts = and_parts (is_word x.0.kind) (bytes_eq x.1 (codes "*")) e in
    (word_is x.0.kind parts.0, (bytes_eq-Decides x.1 (codes "*")).0 parts.1)

pub record PassIndex (passes : ℕ) (xs : List Lexeme) (p : Option ℕ) (rest : List Lexeme) : Type 0 where
  pub x : Lexeme
  pub whole : xs ≡ x ∷ rest
  pub fits : Fits (pass_piece p) x
  pub low : IfSome p (λ k. k < passes)

some_pass_is : (r : Reading ℕ) (p : Option ℕ) (rest : List Lexeme) → some_pass r ≡ Ok (p, rest)
    → (n : ℕ) × (p ≡ Some n) × (r ≡ Ok (n, rest))
some_pass_is (Ok q) p rest e =
    let same = ok-same (Some q.0, q.1) (p, rest) e in
    (q.0, sym (ap (λ t. t.0) same), ap (λ t. Ok (q.0, t.1)) same)
some_pass_is (Err x) p rest e = absurd (err≢ok x (p, rest) e)

pub pass_read : (passes : ℕ) (xs : List Lexeme) (p : Option ℕ) (rest : List Lexeme)
    → pass_index passes xs ≡ Ok (p, rest) → PassIndex passes xs p rest
pass_read passes [] p rest e = absurd (err≢ok _ (p, rest) e)
pass_read passes (x ∷ xs) p rest e = go (is_star x) refl e
  where
    go : (b : Bool) → is_star x ≡ b
        → cond {A = Reading (Option ℕ)} b (Ok (None, xs)) (some_pass (below passes x xs (number x))) ≡ Ok (p, rest)
        → PassIndex passes (x ∷ xs) p rest
    go true is e =
        let same = ok-same (None, xs) (p, rest) e in
        record {
          x = x;
          whole = ap (λ t. x ∷ t.1) same;
          fits = subst (λ (t : Option ℕ). Fits (pass_piece t) x) (ap (λ t. t.0) same) (star_fits x is);
          low = subst (λ (t : Option ℕ). IfSome t (λ k. k < passes)) (ap (λ t. t.0) same) tt;
        }
    go false is e =
        let some = some_pass_is (below passes x xs (number x)) p rest e in
        let at = index_read passes (x ∷ xs) some.0 rest some.2 in
        record {
          x = at.x;
          whole = at.whole;
          fits = subst (λ (t : Option ℕ). Fits (pass_piece t) at.x) (sym some.1) at.fits;
          low = subst (λ (t : Option ℕ). IfSome t (λ k. k < passes)) (sym some.1) at.low;
        }

pub pass_got : (passes : ℕ) (xs : List Lexeme) (p : Option ℕ) (rest : List Lexeme) → named_pass passes xs ≡ Ok (p, rest)
    → Got (fixed (codes "pass") ∷ pass_piece p ∷ []) xs rest × IfSome p (λ k. k < passes)
pass_got passes xs p rest e =
    let parts = bound (one want.Word (keyword (codes "pass")) xs) (λ _ mid. pass_index passes mid) p rest e in
    let word = one_read want.Word (keyword (codes "pass")) xs parts.a parts.mid parts.first in
    let at = pass_read passes parts.mid p rest parts.second in (
      record {
        front = word.x ∷ at.x ∷ [];
        whole = word.whole ∙ ap (λ t. word.x ∷ t) at.whole;
        fit = (word_fits (codes "pass") word.x parts.a word.is, (at.fits, tt));
      },
      at.low,
    )

star_is_no_number : number_of (codes "*") ≡ Err (BadDigit 0)
unfolding number_of digits_reading reading_at
star_is_no_number = refl

-- no number is `*`
pub no_star : (x : Lexeme) (n : ℕ) → Fits (a_number n) x → is_star x ≡ false
no_star x n f = go (bytes_eq x.1 (codes "*")) refl
  where
    star : number_of (codes "*") ≡ Ok n → ⊥
    star e = err≢ok (BadDigit 0) n (sym star_is_no_number ∙ e)

    go : (b : Bool) → bytes_eq x.1 (codes "*") ≡ b → is_star x ≡ false
    go true is = absurd (star (sym (ap number_of ((bytes_eq-Decides x.1 (codes "*")).0 is)) ∙ f.1))
    go false is = rw (f.0, is) refl

pub pass_reads : (passes : ℕ) (p : Option ℕ) (xs rest : List Lexeme)
    → AreFit (fixed (codes "pass") ∷ pass_piece p ∷ []) xs → IfSome p (λ k. k < passes)
    → named_pass passes (xs ++ rest) ≡ Ok (p, rest)
pass_reads passes p [] rest f low = absurd f
pass_reads passes p (x ∷ []) rest f low = absurd f.1
pass_reads passes None (x ∷ y ∷ []) rest f low =
    let star : is_star y ≡ true = rw (f.1.0.0, (bytes_eq-Decides y.1 (codes "*")).1 f.1.0.1) refl in
    rw (fits_word (codes "pass") x f.0, star) refl
pass_reads passes (Some n) (x ∷ y ∷ []) rest f low = rw
    (fits_word (codes "pass") x f.0, no_star y n f.1.0, fits_number y n f.1.0, lt-ltb n passes low) refl
pass_reads passes p (x ∷ y ∷ z ∷ xs) rest f low = absurd f.1.1

-- ---- an action

abbrev Choice : Bool → Kind → Option Kind → Kind → Type 0
Choice b first o k = ((b ≡ true) × (first ≡ k)) ⊎ (o ≡ Some k)

choice : (b : Bool) (first : Kind) (o : Option Kind) (k : Kind) → cond b (Some first) o ≡ Some k → Choice b first o k
choice true first o k e = inl (refl, same_Some first k e)
choice false first o k e = inr e

text_of : (w : List ℕ) (first k : Kind) → bytes_eq w (kind_text first) ≡ true → first ≡ k → w ≡ kind_text k
text_of w first k e same = (bytes_eq-Decides w (kind_text first)).0 e ∙ ap kind_text same

pub kind_is : (w : List ℕ) (k : Kind) → kind_of w ≡ Some k → w ≡ kind_text k
kind_is w k e = elim (choice (bytes_eq w (codes "result")) kind.Result _ k e) [
  | inl h ↦ text_of w kind.Result k h.0 h.1
  | inr e ↦ elim (choice (bytes_eq w (codes "loaded")) kind.Loaded _ k e) [
    | inl h ↦ text_of w kind.Loaded k h.0 h.1
    | inr e ↦ elim (choice (bytes_eq w (codes "stored")) kind.Stored _ k e) [
      | inl h ↦ text_of w kind.Stored k h.0 h.1
      | inr e ↦ elim (choice (bytes_eq w (codes "drop")) kind.Drop _ k e) [
        | inl h ↦ text_of w kind.Drop k h.0 h.1
        | inr e ↦ elim (choice (bytes_eq w (codes "turn")) kind.Turn None k e) [
          | inl h ↦ text_of w kind.Turn k h.0 h.1
          | inr e ↦ absurd (none-some k e)
        ]
      ]
    ]
  ]
]

pub record KindAt (slot : Option Instr) (xs : List Lexeme) (k : Kind) (i : Instr) (rest : List Lexeme) : Type 0 where
  pub x : Lexeme
  pub whole : xs ≡ x ∷ rest
  pub fits : Fits (fixed (kind_text k)) x
  pub slot_is : slot ≡ Some i
  pub suits_it : suits k i ≡ true

pub kind_read : (slot : Option Instr) (xs : List Lexeme) (k : Kind) (i : Instr) (rest : List Lexeme)
    → kind_reading slot xs ≡ Ok ((k, i), rest) → KindAt slot xs k i rest
kind_read slot [] k i rest e = absurd (err≢ok _ ((k, i), rest) e)
kind_read slot (x ∷ xs) k i rest e = go (action_kind x) refl e
  where
    inside : (m : Kind) (j : Instr) → action_kind x ≡ Some m → slot ≡ Some j → (b : Bool) → suits m j ≡ b
        → cond {A = Reading (Kind × Instr)} b (Ok ((m, j), xs)) (Err (NoEffect x.0.at)) ≡ Ok ((k, i), rest)
        → KindAt slot (x ∷ xs) k i rest
    inside m j is at true fine e =
        let same = ok-same ((m, j), xs) ((k, i), rest) e in
        let hit = if_some (is_word x.0.kind) (kind_of x.1) k (is ∙ ap (λ p. Some p.0.0) same) in
        record {
          x = x;
          whole = ap (λ p. x ∷ p.1) same;
          fits = (word_is x.0.kind hit.0, kind_is x.1 k hit.1);
          slot_is = at ∙ ap (λ p. Some p.0.1) same;
          suits_it = ap (λ p. suits p.0.0 p.0.1) (sym same) ∙ fine;
        }
    inside m j is at false fine e = absurd (err≢ok _ ((k, i), rest) e)

    slots : (m : Kind) → action_kind x ≡ Some m → (o : Option Instr) → slot ≡ o
        → effective x xs m o ≡ Ok ((k, i), rest) → KindAt slot (x ∷ xs) k i rest
    slots m is None at e = absurd (err≢ok _ ((k, i), rest) e)
    slots m is (Some j) at e = inside m j is at (suits m j) refl e

    go : (o : Option Kind) → action_kind x ≡ o → kind_at slot x xs o ≡ Ok ((k, i), rest) → KindAt slot (x ∷ xs) k i rest
    go None is e = absurd (err≢ok _ ((k, i), rest) e)
    go (Some m) is e = slots m is slot refl e

pub in_range_is : (limit n : ℕ) → 1 ≤ n → n < limit → is_in_range limit n ≡ true
in_range_is limit n some low = rw (le-leb 1 n some, lt-ltb n limit low) refl

pub range_is : (limit n : ℕ) → is_in_range limit n ≡ true → (1 ≤ n) × (n < limit)
range_is limit n e = let parts = and_parts (nat_le 1 n) (nat_lt n limit) e in
    (leb-true 1 n parts.0, ltb-true n limit parts.1)

-- a kind that was read is of a slot with an instruction
pub slot_read : (slot : Option Instr) (xs : List Lexeme) (k : Kind) (i : Instr) (rest : List Lexeme)
    → kind_reading slot xs ≡ Ok ((k, i), rest) → slot ≡ Some i
slot_read slot xs k i rest e = (kind_read slot xs k i rest e).slot_is

pub record Xor (limit : ℕ) (xs : List Lexeme) (n : ℕ) (rest : List Lexeme) : Type 0 where
  pub x : Lexeme
  pub whole : xs ≡ x ∷ rest
  pub fits : Fits (a_number n) x
  pub some : 1 ≤ n
  pub low : n < limit

pub xor_read : (limit : ℕ) (xs : List Lexeme) (n : ℕ) (rest : List Lexeme) → xor limit xs ≡ Ok (n, rest)
    → Xor limit xs n rest
xor_read limit [] n rest e = absurd (err≢ok _ (n, rest) e)
xor_read limit (x ∷ xs) n rest e = go (number x) refl e
  where
    inside : (m : ℕ) → number x ≡ Some m → (b : Bool) → is_in_range limit m ≡ b
        → cond {A = Reading ℕ} b (Ok (m, xs)) (Err (OutOfRange x.0.at m)) ≡ Ok (n, rest)
        → Xor limit (x ∷ xs) n rest
    inside m is true range e =
        let same = ok-same (m, xs) (n, rest) e in
        let parts = and_parts (nat_le 1 n) (nat_lt n limit) (ap (λ p. is_in_range limit p.0) (sym same) ∙ range) in
        record {
          x = x;
          whole = ap (λ p. x ∷ p.1) same;
          fits = number_fits x n (is ∙ ap (λ p. Some p.0) same);
          some = leb-true 1 n parts.0;
          low = ltb-true n limit parts.1;
        }
    inside m is false range e = absurd (err≢ok _ (n, rest) e)

    go : (o : Option ℕ) → number x ≡ o → from_one limit x xs o ≡ Ok (n, rest) → Xor limit (x ∷ xs) n rest
    go None is e = absurd (err≢ok _ (n, rest) e)
    go (Some m) is e = inside m is (is_in_range limit m) refl e

pub xor_reads : (limit n : ℕ) (y : Lexeme) (rest : List Lexeme) → Fits (a_number n) y → 1 ≤ n → n < limit
    → xor limit (y ∷ rest) ≡ Ok (n, rest)
xor_reads limit n y rest f some low = rw (fits_number y n f, le-leb 1 n some, lt-ltb n limit low) refl

pub numbered_is : (f : ℕ → Action) (r : Reading ℕ) (a : Action) (rest : List Lexeme) → with_number f r ≡ Ok (a, rest)
    → (n : ℕ) × (f n ≡ a) × (r ≡ Ok (n, rest))
numbered_is f (Ok q) a rest e =
    let same = ok-same (f q.0, q.1) (a, rest) e in
    (q.0, ap (λ t. t.0) same, ap (λ t. Ok (q.0, t.1)) same)
numbered_is f (Err x) a rest e = absurd (err≢ok x (a, rest) e)

pub word_at : (k : Kind) (x : Lexeme) → Fits (fixed (kind_text k)) x → action_kind x ≡ Some k
word_at kind.Result x f = rw (f.0, f.1) refl
word_at kind.Loaded x f = rw (f.0, f.1) refl
word_at kind.Stored x f = rw (f.0, f.1) refl
word_at kind.Drop x f = rw (f.0, f.1) refl
word_at kind.Turn x f = rw (f.0, f.1) refl

pub kind_reads : (k : Kind) (i : Instr) (x : Lexeme) (rest : List Lexeme) → Fits (fixed (kind_text k)) x
    → suits k i ≡ true → kind_reading (Some i) (x ∷ rest) ≡ Ok ((k, i), rest)
kind_reads k i x rest f fine = rw (word_at k x f, fine) refl
