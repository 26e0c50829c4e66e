-- A token is read at its place, or is at fault there.
use Rattle.std.proofs.Common.{◌≡◌, ◌∙◌, ◌<◌, ◌||◌, ℕ, Bool, cond, true, false, refl, sym, ap, subst}
use Rattle.std.proofs.Common.{List}
use Rattle.std.proofs.Common.{[], ◌∷◌, Option, Some, None, Ok, Err, true≢false, nat_lt, inl, inr, codes}
use Rattle.std.proofs.lemmas.Slice.Eq.{bytes_eq-Decides}
use Rattle.tm_lex.specs.declared.token.TokenKind.{TokenKind}
use Rattle.tm_lex.specs.declared.token.TokenKind.TheVariants.{Word}
use Rattle.tm_lex.specs.Lines.{Lexeme, is_word, is_line_end, keyword, line_end, fitting}
use Rattle.tm_table.specs.declared.instr.Instr.{Instr}
use Rattle.tm_fault.specs.declared.fault.FaultScriptFault.{FaultScriptFault}
use Rattle.tm_fault.specs.declared.fault.FaultScriptFault.TheVariants.{Expected, OutOfRange, NoEffect}
use Rattle.tm_fault.specs.declared.fault.Want2.TheVariants as want
use Rattle.tm_fault.specs.declared.line.Kind.{Kind}
use Rattle.tm_fault.specs.Script.{Reading, number, kind_of, action_kind, one, below, index, is_star, some_pass}
use Rattle.tm_fault.specs.Script.{pass_index}
use Rattle.tm_fault.specs.Script.{suits, effective, kind_at, kind_reading, is_in_range, from_one, xor}
use Rattle.tm_fault.specs.Spelled.{Fits}
use Rattle.tm_fault.specs.Spelled.Piece.{fixed}
use Rattle.tm_fault.specs.Causes.{Place, Stands, HasEffect, IsXor, FailsNumber, FailsAction, Fails, FailsAt, kind_text}
use Rattle.tm_fault.specs.Causes.Place.{word_place, index_place, pass_place, action_place, xor_place, end_place}
use Rattle.tm_fault.proofs.Ends.{has_end}
use Rattle.tm_fault.proofs.Reading.{err≢ok, err-same, one_read}
use Rattle.tm_fault.proofs.Tokens.{word_fits, fits_word, number_fits, fits_number, fits_end}
use Rattle.tm_fault.proofs.Tokens.{end_fits}
use Rattle.tm_fault.proofs.Tokens.{index_read, pass_read, kind_is, kind_read}
use Rattle.tm_fault.proofs.Tokens.{word_at, xor_read, star_fits, in_range_is, range_is}
use Rattle.std.proofs.lemmas.Bool.{ltb-true, lt-ltb}
use Rattle.std.proofs.lemmas.Option.{same_Some, none-some}
use Rattle.tm_lex.proofs.KindLemmas.{word_is, if_some}

-- ---- one token

-- the next token stands at a place
pub record Took (p : Place) (xs rest : List Lexeme) : Type 0 where
  pub x : Lexeme
  pub whole : xs ≡ x ∷ rest
  pub stands : Stands p x

-- the next token is at fault at a place
pub record Failed (p : Place) (xs : List Lexeme) (e : FaultScriptFault) : Type 0 where
  pub x : Lexeme
  pub behind : List Lexeme
  pub whole : xs ≡ x ∷ behind
  pub fails : Fails p x e

pub first_fails : (p : Place) (ps : List Place) (xs : List Lexeme) (e : FaultScriptFault) → Failed p xs e
    → FailsAt (p ∷ ps) xs e
first_fails p ps xs e f = subst (λ t. FailsAt (p ∷ ps) t e) (sym f.whole) (inl f.fails)

pub later_fails : (p : Place) (ps : List Place) (xs rest : List Lexeme) (e : FaultScriptFault) → Took p xs rest
    → FailsAt ps rest e → FailsAt (p ∷ ps) xs e
later_fails p ps xs rest e t more = subst (λ s. FailsAt (p ∷ ps) s e) (sym t.whole) (inr (t.stands, more))

-- every place but the line's end has a word
abbrev pub is_inner : Place → Bool
is_inner end_place = false
is_inner _ = true

inner_word : (p : Place) (x : Lexeme) → is_inner p ≡ true → Stands p x → x.0.kind ≡ Word
inner_word (word_place w) x inner s = s.0
inner_word (index_place n limit) x inner s = s.0.0
inner_word (pass_place None passes) x inner s = s.0.0
inner_word (pass_place (Some k) passes) x inner s = s.0.0
inner_word (action_place k slot) x inner s = s.0.0
inner_word (xor_place n limit) x inner s = s.0.0
inner_word end_place x inner s = absurd (true≢false (sym inner))

-- behind a word the line's end is still to come
pub ends_on : (p : Place) (xs rest : List Lexeme) → is_inner p ≡ true → Took p xs rest → has_end xs ≡ true
    → has_end rest ≡ true
ends_on p xs rest inner t ends =
    let word = inner_word p t.x inner t.stands in
    sym (ap (λ (k : TokenKind). is_line_end k || has_end rest) word) ∙ (ap has_end (sym t.whole) ∙ ends)

-- ---- what wasn't read is at fault

pub word_failed : (w : List ℕ) (xs : List Lexeme) (e : FaultScriptFault) → has_end xs ≡ true
    → one want.Word (keyword w) xs ≡ Err e → Failed (word_place w) xs e
word_failed w [] e ends is = absurd (true≢false (sym ends))
word_failed w (x ∷ xs) e ends is = go (keyword w x) refl is
  where
    go : (o : Option (Unit {0})) → keyword w x ≡ o → fitting (Expected x.0.at want.Word) xs o ≡ Err e
        → Failed (word_place w) (x ∷ xs) e
    go None at is = record {
      x = x;
      behind = xs;
      whole = refl;
      fails = (λ f. none-some tt (sym at ∙ fits_word w x f), sym (err-same (Expected x.0.at want.Word) e is));
    }
    go (Some u) at is = absurd (err≢ok e (u, xs) (sym is))

pub end_failed : (xs : List Lexeme) (e : FaultScriptFault) → has_end xs ≡ true → one want.LineEnd line_end xs ≡ Err e
    → Failed end_place xs e
end_failed [] e ends is = absurd (true≢false (sym ends))
end_failed (x ∷ xs) e ends is = go (line_end x) refl is
  where
    go : (o : Option (Unit {0})) → line_end x ≡ o → fitting (Expected x.0.at want.LineEnd) xs o ≡ Err e
        → Failed end_place (x ∷ xs) e
    go None at is = record {
      x = x;
      behind = xs;
      whole = refl;
      fails = (λ f. none-some tt (sym at ∙ fits_end x f), sym (err-same (Expected x.0.at want.LineEnd) e is));
    }
    go (Some u) at is = absurd (err≢ok e (u, xs) (sym is))

no_number : (P : ℕ → Type 0) (x : Lexeme) (e : FaultScriptFault) → number x ≡ None → Expected x.0.at want.Number ≡ e
    → FailsNumber P x e
no_number P x e at is = inl (λ n f. none-some n (sym at ∙ fits_number x n f), sym is)

below_failed : (limit : ℕ) (x : Lexeme) (xs : List Lexeme) (e : FaultScriptFault) → below limit x xs (number x) ≡ Err e
    → FailsNumber (λ k. k < limit) x e
below_failed limit x xs e is = go (number x) refl is
  where
    range : (n : ℕ) → number x ≡ Some n → (b : Bool) → nat_lt n limit ≡ b
        → cond {A = Reading ℕ} b (Ok (n, xs)) (Err (OutOfRange x.0.at n)) ≡ Err e → FailsNumber (λ k. k < limit) x e
    range n at true low is = absurd (err≢ok e (n, xs) (sym is))
    range n at false low is = inr (
      n,
      number_fits x n at,
      λ lt. true≢false (sym (lt-ltb n limit lt) ∙ low),
      sym (err-same (OutOfRange x.0.at n) e is),
    )

    go : (o : Option ℕ) → number x ≡ o → below limit x xs o ≡ Err e → FailsNumber (λ k. k < limit) x e
    go None at is = no_number (λ k. k < limit) x e at (err-same (Expected x.0.at want.Number) e is)
    go (Some n) at is = range n at (nat_lt n limit) refl is

pub index_failed : (says limit : ℕ) (xs : List Lexeme) (e : FaultScriptFault) → has_end xs ≡ true
    → index limit xs ≡ Err e → Failed (index_place says limit) xs e
index_failed says limit [] e ends is = absurd (true≢false (sym ends))
index_failed says limit (x ∷ xs) e ends is =
    record { x = x; behind = xs; whole = refl; fails = below_failed limit x xs e is }

some_failed : (r : Reading ℕ) (e : FaultScriptFault) → some_pass r ≡ Err e → r ≡ Err e
some_failed (Ok p) e is = absurd (err≢ok e (Some p.0, p.1) (sym is))
some_failed (Err d) e is = ap Err (err-same d e is)

star_is : (x : Lexeme) → Fits (fixed (codes "*")) x → is_star x ≡ true
star_is x f = rw (f.0, (bytes_eq-Decides x.1 (codes "*")).1 f.1) refl

pub pass_failed : (says : Option ℕ) (passes : ℕ) (xs : List Lexeme) (e : FaultScriptFault) → has_end xs ≡ true
    → pass_index passes xs ≡ Err e → Failed (pass_place says passes) xs e
pass_failed says passes [] e ends is = absurd (true≢false (sym ends))
pass_failed says passes (x ∷ xs) e ends is = go (is_star x) refl is
  where
    go : (b : Bool) → is_star x ≡ b
        → cond {A = Reading (Option ℕ)} b (Ok (None, xs)) (some_pass (below passes x xs (number x))) ≡ Err e
        → Failed (pass_place says passes) (x ∷ xs) e
    go true star is = absurd (err≢ok e (None, xs) (sym is))
    go false star is = record {
      x = x;
      behind = xs;
      whole = refl;
      fails = (
        λ f. true≢false (sym (star_is x f) ∙ star),
        below_failed passes x xs e (some_failed (below passes x xs (number x)) e is),
      );
    }

kind_named : (x : Lexeme) (k : Kind) → action_kind x ≡ Some k → Fits (fixed (kind_text k)) x
kind_named x k at =
    let hit = if_some (is_word x.0.kind) (kind_of x.1) k at in (word_is x.0.kind hit.0, kind_is x.1 k hit.1)

no_effect : (slot : Option Instr) (k : Kind) (i : Instr) → slot ≡ Some i → suits k i ≡ false → HasEffect k slot → ⊥
no_effect slot k i at never h =
    true≢false (sym h.2 ∙ (ap (suits k) (same_Some h.0 i (sym h.1 ∙ at)) ∙ never))

pub action_failed : (says : Kind) (slot : Option Instr) (xs : List Lexeme) (e : FaultScriptFault) → has_end xs ≡ true
    → kind_reading slot xs ≡ Err e → Failed (action_place says slot) xs e
action_failed says slot [] e ends is = absurd (true≢false (sym ends))
action_failed says slot (x ∷ xs) e ends is =
    record { x = x; behind = xs; whole = refl; fails = go (action_kind x) refl is }
  where
    without : (k : Kind) → action_kind x ≡ Some k → (HasEffect k slot → ⊥) → NoEffect x.0.at ≡ e → FailsAction slot x e
    without k named never is = inr (k, kind_named x k named, never, sym is)

    fits : (k : Kind) (i : Instr) → action_kind x ≡ Some k → slot ≡ Some i → (b : Bool) → suits k i ≡ b
        → cond {A = Reading (Kind × Instr)} b (Ok ((k, i), xs)) (Err (NoEffect x.0.at)) ≡ Err e → FailsAction slot x e
    fits k i named at true fine is = absurd (err≢ok e ((k, i), xs) (sym is))
    fits k i named at false fine is =
        without k named (no_effect slot k i at fine) (err-same (NoEffect x.0.at) e is)

    slots : (k : Kind) → action_kind x ≡ Some k → (o : Option Instr) → slot ≡ o → effective x xs k o ≡ Err e
        → FailsAction slot x e
    slots k named None at is =
        without k named (λ h. none-some h.0 (sym at ∙ h.1)) (err-same (NoEffect x.0.at) e is)
    slots k named (Some i) at is = fits k i named at (suits k i) refl is

    go : (o : Option Kind) → action_kind x ≡ o → kind_at slot x xs o ≡ Err e → FailsAction slot x e
    go None named is =
        inl (λ k f. none-some k (sym named ∙ word_at k x f), sym (err-same (Expected x.0.at want.Action) e is))
    go (Some k) named is = slots k named slot refl is

from_one_failed : (limit : ℕ) (x : Lexeme) (xs : List Lexeme) (e : FaultScriptFault)
    → from_one limit x xs (number x) ≡ Err e → FailsNumber (IsXor limit) x e
from_one_failed limit x xs e is = go (number x) refl is
  where
    range : (n : ℕ) → number x ≡ Some n → (b : Bool) → is_in_range limit n ≡ b
        → cond {A = Reading ℕ} b (Ok (n, xs)) (Err (OutOfRange x.0.at n)) ≡ Err e → FailsNumber (IsXor limit) x e
    range n at true low is = absurd (err≢ok e (n, xs) (sym is))
    range n at false low is = inr (
      n,
      number_fits x n at,
      λ r. true≢false (sym (in_range_is limit n r.0 r.1) ∙ low),
      sym (err-same (OutOfRange x.0.at n) e is),
    )

    go : (o : Option ℕ) → number x ≡ o → from_one limit x xs o ≡ Err e → FailsNumber (IsXor limit) x e
    go None at is = no_number (IsXor limit) x e at (err-same (Expected x.0.at want.Number) e is)
    go (Some n) at is = range n at (is_in_range limit n) refl is

pub xor_failed : (says limit : ℕ) (xs : List Lexeme) (e : FaultScriptFault) → has_end xs ≡ true → xor limit xs ≡ Err e
    → Failed (xor_place says limit) xs e
xor_failed says limit [] e ends is = absurd (true≢false (sym ends))
xor_failed says limit (x ∷ xs) e ends is =
    record { x = x; behind = xs; whole = refl; fails = from_one_failed limit x xs e is }

-- ---- what was read stands at its place

pub word_took : (w : List ℕ) (xs : List Lexeme) (u : Unit {0}) (rest : List Lexeme)
    → one want.Word (keyword w) xs ≡ Ok (u, rest) → Took (word_place w) xs rest
word_took w xs u rest is =
    let at = one_read want.Word (keyword w) xs u rest is in
    record { x = at.x; whole = at.whole; stands = word_fits w at.x u at.is }

pub index_took : (limit : ℕ) (xs : List Lexeme) (n : ℕ) (rest : List Lexeme) → index limit xs ≡ Ok (n, rest)
    → Took (index_place n limit) xs rest
index_took limit xs n rest is =
    let at = index_read limit xs n rest is in record { x = at.x; whole = at.whole; stands = (at.fits, at.low) }

pub pass_took : (passes : ℕ) (xs : List Lexeme) (p : Option ℕ) (rest : List Lexeme)
    → pass_index passes xs ≡ Ok (p, rest)
    → Took (pass_place p passes) xs rest
pass_took passes xs p rest is =
    let at = pass_read passes xs p rest is in record { x = at.x; whole = at.whole; stands = (at.fits, at.low) }

pub action_took : (slot : Option Instr) (xs : List Lexeme) (k : Kind) (i : Instr) (rest : List Lexeme)
    → kind_reading slot xs ≡ Ok ((k, i), rest) → Took (action_place k slot) xs rest
action_took slot xs k i rest is =
    let at = kind_read slot xs k i rest is in
    record { x = at.x; whole = at.whole; stands = (at.fits, (i, at.slot_is, at.suits_it)) }

pub xor_took : (limit : ℕ) (xs : List Lexeme) (n : ℕ) (rest : List Lexeme) → xor limit xs ≡ Ok (n, rest)
    → Took (xor_place n limit) xs rest
xor_took limit xs n rest is =
    let at = xor_read limit xs n rest is in record { x = at.x; whole = at.whole; stands = (at.fits, (at.some, at.low)) }

-- ---- what is at fault isn't read

pub word_fails : (w : List ℕ) (x : Lexeme) (xs : List Lexeme) (e : FaultScriptFault) → Fails (word_place w) x e
    → one want.Word (keyword w) (x ∷ xs) ≡ Err e
word_fails w x xs e f = go (keyword w x) refl
  where
    go : (o : Option (Unit {0})) → keyword w x ≡ o → fitting (Expected x.0.at want.Word) xs o ≡ Err e
    go None at = ap Err (sym f.1)
    go (Some u) at = absurd (f.0 (word_fits w x u at))

pub end_fails : (x : Lexeme) (xs : List Lexeme) (e : FaultScriptFault) → Fails end_place x e
    → one want.LineEnd line_end (x ∷ xs) ≡ Err e
end_fails x xs e f = go (line_end x) refl
  where
    go : (o : Option (Unit {0})) → line_end x ≡ o → fitting (Expected x.0.at want.LineEnd) xs o ≡ Err e
    go None at = ap Err (sym f.1)
    go (Some u) at = absurd (f.0 (end_fits x u at))

not_lt : (n limit : ℕ) → (n < limit → ⊥) → nat_lt n limit ≡ false
not_lt n limit never = go (nat_lt n limit) refl
  where
    go : (b : Bool) → nat_lt n limit ≡ b → nat_lt n limit ≡ false
    go true is = absurd (never (ltb-true n limit is))
    go false is = is

below_fails : (limit : ℕ) (x : Lexeme) (xs : List Lexeme) (e : FaultScriptFault) → FailsNumber (λ k. k < limit) x e
    → below limit x xs (number x) ≡ Err e
below_fails limit x xs e (inl f) = go (number x) refl
  where
    go : (o : Option ℕ) → number x ≡ o → below limit x xs o ≡ Err e
    go None at = ap Err (sym f.1)
    go (Some n) at = absurd (f.0 n (number_fits x n at))
below_fails limit x xs e (inr f) = rw (fits_number x f.0 f.1, not_lt f.0 limit f.2) (ap Err (sym f.3))

pub index_fails : (says limit : ℕ) (x : Lexeme) (xs : List Lexeme) (e : FaultScriptFault)
    → Fails (index_place says limit) x e → index limit (x ∷ xs) ≡ Err e
index_fails says limit x xs e f = below_fails limit x xs e f

pub pass_fails : (says : Option ℕ) (passes : ℕ) (x : Lexeme) (xs : List Lexeme) (e : FaultScriptFault)
    → Fails (pass_place says passes) x e → pass_index passes (x ∷ xs) ≡ Err e
pass_fails says passes x xs e f = go (is_star x) refl
  where
    go : (b : Bool) → is_star x ≡ b
        → cond {A = Reading (Option ℕ)} b (Ok (None, xs)) (some_pass (below passes x xs (number x))) ≡ Err e
    go true star = absurd (f.0 (star_fits x star))
    go false star = ap some_pass (below_fails passes x xs e f.1)

not_suits : (k : Kind) (i : Instr) → (HasEffect k (Some i) → ⊥) → suits k i ≡ false
not_suits k i never = go (suits k i) refl
  where
    go : (b : Bool) → suits k i ≡ b → suits k i ≡ false
    go true is = absurd (never (i, refl, is))
    go false is = is

without_effect : (k : Kind) (slot : Option Instr) (x : Lexeme) (xs : List Lexeme) → (HasEffect k slot → ⊥)
    → effective x xs k slot ≡ Err (NoEffect x.0.at)
without_effect k None x xs never = refl
without_effect k (Some i) x xs never = rw (not_suits k i never) refl

pub action_fails : (says : Kind) (slot : Option Instr) (x : Lexeme) (xs : List Lexeme) (e : FaultScriptFault)
    → Fails (action_place says slot) x e → kind_reading slot (x ∷ xs) ≡ Err e
action_fails says slot x xs e (inl f) = go (action_kind x) refl
  where
    go : (o : Option Kind) → action_kind x ≡ o → kind_at slot x xs o ≡ Err e
    go None named = ap Err (sym f.1)
    go (Some k) named = absurd (f.0 k (kind_named x k named))
action_fails says slot x xs e (inr f) =
    ap (kind_at slot x xs) (word_at f.0 x f.1) ∙ (without_effect f.0 slot x xs f.2 ∙ ap Err (sym f.3))

not_in_range : (limit n : ℕ) → (IsXor limit n → ⊥) → is_in_range limit n ≡ false
not_in_range limit n never = go (is_in_range limit n) refl
  where
    go : (b : Bool) → is_in_range limit n ≡ b → is_in_range limit n ≡ false
    go true is = absurd (never (range_is limit n is))
    go false is = is

pub xor_fails : (says limit : ℕ) (x : Lexeme) (xs : List Lexeme) (e : FaultScriptFault)
    → Fails (xor_place says limit) x e → xor limit (x ∷ xs) ≡ Err e
xor_fails says limit x xs e (inl f) = go (number x) refl
  where
    go : (o : Option ℕ) → number x ≡ o → from_one limit x xs o ≡ Err e
    go None at = ap Err (sym f.1)
    go (Some n) at = absurd (f.0 n (number_fits x n at))
xor_fails says limit x xs e (inr f) = rw (fits_number x f.0 f.1, not_in_range limit f.0 f.2) (ap Err (sym f.3))
