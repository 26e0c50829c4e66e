-- What is read of tokens, one behind the other.
use Rattle.std.proofs.Common.{◌≡◌, ◌∙◌, ℕ, Bool, true, false}
use Rattle.std.proofs.Common.{refl, sym, ap, arith, List, [], ◌∷◌, ◌++◌, Option, Some}
use Rattle.std.proofs.Common.{None, Result, Ok, Err, true≢false, append_assoc}
use Rattle.std.specs.Borrow.{Bor}
use Rattle.tm_lex.specs.declared.token.Token.{Token}
use Rattle.tm_fault.specs.declared.fault.FaultScriptFault.{FaultScriptFault}
use Rattle.tm_fault.specs.declared.fault.FaultScriptFault.TheVariants.{Expected}
use Rattle.tm_fault.specs.declared.fault.Want2.{Want2}
use Rattle.tm_lex.specs.Lines.{Lexeme, ◌>>=◌, fitting}
use Rattle.tm_fault.specs.Script.{Reading, one, Reads, ReadsIn}
use Rattle.tm_fault.specs.Spelled.{Piece, AreFit}

-- ---- results

abbrev is_read : {A E : Type 0} → Result A E → Bool
is_read (Ok a) = true
is_read (Err e) = false

pub err≢ok : {A E : Type 0} (e : E) (a : A) → ◌≡◌ {A = Result A E} (Err e) (Ok a) → ⊥
err≢ok e a same = true≢false (sym (ap is_read same))

abbrev got_or : {A E : Type 0} → A → Result A E → A
got_or a (Ok b) = b
got_or a (Err e) = a

pub ok-same : {A E : Type 0} (a b : A) → ◌≡◌ {A = Result A E} (Ok a) (Ok b) → a ≡ b
ok-same a b same = ap (got_or a) same

abbrev fault_or : {A E : Type 0} → E → Result A E → E
fault_or e (Ok b) = e
fault_or e (Err d) = d

pub err-same : {A E : Type 0} (d e : E) → ◌≡◌ {A = Result A E} (Err d) (Err e) → d ≡ e
err-same d e same = ap (fault_or d) same

abbrev some_or : {A : Type 0} → A → Option A → A
some_or a (Some b) = b
some_or a None = a

abbrev is_there : {A : Type 0} → Option A → Bool
is_there (Some a) = true
is_there None = false

-- ---- one behind the other

-- what two readers read, one behind the other
pub record Bound {A B : Type 0} (r : Reading A) (f : A → List Lexeme → Reading B) (b : B)
    (rest : List Lexeme) : Type 0 where
  pub a : A
  pub mid : List Lexeme
  pub first : r ≡ Ok (a, mid)
  pub second : f a mid ≡ Ok (b, rest)

pub bound : {A B : Type 0} (r : Reading A) (f : A → List Lexeme → Reading B) (b : B) (rest : List Lexeme)
    → r >>= f ≡ Ok (b, rest) → Bound r f b rest
bound (Ok p) f b rest e = record { a = p.0; mid = p.1; first = refl; second = e }
bound (Err x) f b rest e = absurd (err≢ok x (b, rest) e)

-- what one token was read as
pub record One {A : Type 0} (read : Lexeme → Option A) (xs : List Lexeme) (a : A) (rest : List Lexeme) : Type 0 where
  pub x : Lexeme
  pub whole : xs ≡ x ∷ rest
  pub is : read x ≡ Some a

pub one_read : {A : Type 0} (w : Want2) (read : Lexeme → Option A) (xs : List Lexeme) (a : A) (rest : List Lexeme)
    → one w read xs ≡ Ok (a, rest) → One read xs a rest
one_read w read [] a rest e = absurd (err≢ok _ (a, rest) e)
one_read w read (x ∷ xs) a rest e = go (read x) refl e
  where
    go : (o : Option _) → read x ≡ o → fitting (Expected x.0.at w) xs o ≡ Ok (a, rest) → One read (x ∷ xs) a rest
    go None is e = absurd (err≢ok _ (a, rest) e)
    go (Some b) is e =
        let same = ok-same (b, xs) (a, rest) e in
        record { x = x; whole = ap (λ p. x ∷ p.1) same; is = is ∙ ap (λ p. Some p.0) same }

-- ---- pieces

-- tokens that stand for pieces, before others
pub record Got (qs : List Piece) (xs rest : List Lexeme) : Type 0 where
  pub front : List Lexeme
  pub whole : xs ≡ front ++ rest
  pub fit : AreFit qs front

pub fit_both : (qs ps : List Piece) (xs ys : List Lexeme) → AreFit qs xs → AreFit ps ys → AreFit (qs ++ ps) (xs ++ ys)
fit_both [] ps [] ys f g = g
fit_both [] ps (x ∷ xs) ys f g = absurd f
fit_both (q ∷ qs) ps [] ys f g = absurd f
fit_both (q ∷ qs) ps (x ∷ xs) ys f g = (f.0, fit_both qs ps xs ys f.1 g)

pub got_both : (qs ps : List Piece) (xs mid rest : List Lexeme) → Got qs xs mid → Got ps mid rest
    → Got (qs ++ ps) xs rest
got_both qs ps xs mid rest g h = record {
  front = g.front ++ h.front;
  whole = g.whole ∙ ap (λ t. g.front ++ t) h.whole ∙ sym (append_assoc g.front h.front rest);
  fit = fit_both qs ps g.front h.front g.fit h.fit;
}

-- tokens that stand for pieces in two parts
pub record Parted (qs ps : List Piece) (xs : List Lexeme) : Type 0 where
  pub front : List Lexeme
  pub back : List Lexeme
  pub whole : xs ≡ front ++ back
  pub first : AreFit qs front
  pub second : AreFit ps back

pub fit_parts : (qs ps : List Piece) (xs : List Lexeme) → AreFit (qs ++ ps) xs → Parted qs ps xs
fit_parts [] ps xs f = record { front = []; back = xs; whole = refl; first = tt; second = f }
fit_parts (q ∷ qs) ps [] f = absurd f
fit_parts (q ∷ qs) ps (x ∷ xs) f =
    let rest = fit_parts qs ps xs f.1 in
    record {
      front = x ∷ rest.front;
      back = rest.back;
      whole = ap (λ t. x ∷ t) rest.whole;
      first =
          (f.0, rest.first);
      second = rest.second;
    }

-- ---- the code's steps

pub reads_in : {A : Type 0} (text : List ℕ) (f : List Lexeme → Reading A) (tokens : List Token)
    (r : Result (A × Bor (List Token)) FaultScriptFault) → Reads text f tokens r → ReadsIn text f tokens r
reads_in text f tokens (Ok r) h = (h.0, (h.1.0, omega (arith, h.1.1)))
reads_in text f tokens (Err e) h = h
