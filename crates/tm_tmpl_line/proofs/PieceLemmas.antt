-- Tokens that stand for pieces, cut at the ends of lines.
use Rattle.std.proofs.Common.{◌≡◌, Bool, true, false, List, [], ◌∷◌, ◌++◌, refl, sym, ap, ◌∙◌}
use Rattle.std.proofs.lemmas.Bool.{true≢false}
use Rattle.tm_lex.specs.Lines.{Lexeme, is_line_end}
use Rattle.tm_tmpl_line.specs.Pieces.{Piece, opening, fixed, a_name, a_number, asm_line, the_end, Fits, AreFit}

abbrev pub is_end : Piece → Bool
is_end the_end = true
is_end _ = false

abbrev pub ends_line : Lexeme → Bool
ends_line x = is_line_end x.0.kind

pub fit-end : (q : Piece) (x : Lexeme) → Fits q x → ends_line x ≡ is_end q
fit-end (opening p w bytes) x h = rw h.0
fit-end (fixed w bytes) x h = rw h.0
fit-end (a_name n) x h = rw h.0
fit-end (a_number n) x h = rw h.0
fit-end (asm_line a) x h = rw h.0
fit-end the_end x h = rw h

-- ---- joining and cutting

pub fit-join : (qs rs : List Piece) (xs ys : List Lexeme) → AreFit qs xs → AreFit rs ys → AreFit (qs ++ rs) (xs ++ ys)
fit-join [] rs [] ys h k = k
fit-join [] rs (x ∷ xs) ys h k = absurd h
fit-join (q ∷ qs) rs [] ys h k = absurd h
fit-join (q ∷ qs) rs (x ∷ xs) ys h k = (h.0, fit-join qs rs xs ys h.1 k)

-- the tokens of two lists of pieces
pub record TwoTokens (qs rs : List Piece) (xs : List Lexeme) : Type 0 where
  pub front : List Lexeme
  pub back : List Lexeme
  pub whole : xs ≡ front ++ back
  pub first : AreFit qs front
  pub second : AreFit rs back

pub cut-tokens : (qs rs : List Piece) (xs : List Lexeme) → AreFit (qs ++ rs) xs → TwoTokens qs rs xs
cut-tokens [] rs xs h = record { front = []; back = xs; whole = refl; first = tt; second = h }
cut-tokens (q ∷ qs) rs [] h = absurd h
cut-tokens (q ∷ qs) rs (x ∷ xs) h =
    let more = cut-tokens qs rs xs h.1 in
    record {
      front = x ∷ more.front;
      back = more.back;
      whole = ap (λ l. x ∷ l) more.whole;
      first = (h.0, more.first);
      second = more.second;
    }

-- the pieces of two lists of tokens
pub record TwoPieces (qs : List Piece) (xs ys : List Lexeme) : Type 0 where
  pub front : List Piece
  pub back : List Piece
  pub whole : qs ≡ front ++ back
  pub first : AreFit front xs
  pub second : AreFit back ys

pub cut-pieces : (qs : List Piece) (xs ys : List Lexeme) → AreFit qs (xs ++ ys) → TwoPieces qs xs ys
cut-pieces qs [] ys h = record { front = []; back = qs; whole = refl; first = tt; second = h }
cut-pieces [] (x ∷ xs) ys h = absurd h
cut-pieces (q ∷ qs) (x ∷ xs) ys h =
    let more = cut-pieces qs xs ys h.1 in
    record {
      front = q ∷ more.front;
      back = more.back;
      whole = ap (λ l. q ∷ l) more.whole;
      first = (h.0, more.first);
      second = more.second;
    }

-- ---- lists that end at their first end

module _ {A : Type 0} (test : A → Bool) where
  abbrev pub EndsOnce : List A → Type 0
  EndsOnce [] = ⊥
  EndsOnce (x ∷ []) = test x ≡ true
  EndsOnce (x ∷ y ∷ ys) = (test x ≡ false) × EndsOnce (y ∷ ys)

  abbrev pub IsOpen : List A → Type 0
  IsOpen [] = Unit {0}
  IsOpen (x ∷ xs) = (test x ≡ false) × IsOpen xs

  -- two such lists at the front of one list are the same
  pub same-front : (us vs ws zs : List A) → EndsOnce us → EndsOnce vs → us ++ ws ≡ vs ++ zs → (us ≡ vs) × (ws ≡ zs)
  same-front [] vs ws zs h k same = absurd h
  same-front (a ∷ us) [] ws zs h k same = absurd k
  same-front (a ∷ []) (c ∷ []) ws zs h k same = (cc, cc)
  same-front (a ∷ []) (c ∷ e ∷ vs) ws zs h k same = let here : a ≡ c = cc in
      absurd (true≢false (sym h ∙ ap test here ∙ k.0))
  same-front (a ∷ b ∷ us) (c ∷ []) ws zs h k same = let here : a ≡ c = cc in
      absurd (true≢false (sym k ∙ ap test (sym here) ∙ h.0))
  same-front (a ∷ b ∷ us) (c ∷ e ∷ vs) ws zs h k same =
      let here : a ≡ c = cc in
      let rest : (b ∷ us) ++ ws ≡ (e ∷ vs) ++ zs = cc in
      let more = same-front (b ∷ us) (e ∷ vs) ws zs h.1 k.1 rest in
      let tails : b ∷ us ≡ e ∷ vs = more.0 in
      (rw (here, tails), more.1)

  -- what is open at the front of one ends before its end
  pub within-front : (us done ws more : List A) (q : A) → EndsOnce us → IsOpen done → us ++ ws ≡ done ++ q ∷ more
      → (left : List A) × (us ≡ done ++ q ∷ left)
  within-front [] done ws more q h k same = absurd h
  within-front (a ∷ us) [] ws more q h k same = let here : a ≡ q = cc in (us, ap (λ x. x ∷ us) here)
  within-front (a ∷ []) (d ∷ done) ws more q h k same = let here : a ≡ d = cc in
      absurd (true≢false (sym h ∙ ap test here ∙ k.0))
  within-front (a ∷ b ∷ us) (d ∷ done) ws more q h k same =
      let here : a ≡ d = cc in
      let rest : (b ∷ us) ++ ws ≡ done ++ q ∷ more = cc in
      let inner = within-front (b ∷ us) done ws more q h.1 k.1 rest in
      let tails : b ∷ us ≡ done ++ q ∷ inner.0 = inner.1 in
      (inner.0, rw (here, tails))

  pub open-front : (before behind : List A) (x : A) → EndsOnce (before ++ x ∷ behind) → IsOpen before
  open-front [] behind x h = tt
  open-front (b ∷ []) behind x h = (h.0, tt)
  open-front (b ∷ c ∷ before) behind x h = (h.0, open-front (c ∷ before) behind x h.1)

  pub ends-not-open : (xs : List A) → EndsOnce xs → IsOpen xs → ⊥
  ends-not-open [] h k = h
  ends-not-open (x ∷ []) h k = true≢false (sym h ∙ k.0)
  ends-not-open (x ∷ y ∷ ys) h k = ends-not-open (y ∷ ys) h.1 k.1

pub ends-fit : (qs : List Piece) (xs : List Lexeme) → AreFit qs xs → EndsOnce is_end qs → EndsOnce ends_line xs
ends-fit [] xs h k = absurd k
ends-fit (q ∷ qs) [] h k = absurd h
ends-fit (q ∷ []) (x ∷ []) h k = fit-end q x h.0 ∙ k
ends-fit (q ∷ []) (x ∷ y ∷ ys) h k = absurd h.1
ends-fit (q ∷ r ∷ qs) (x ∷ []) h k = absurd h.1
ends-fit (q ∷ r ∷ qs) (x ∷ y ∷ ys) h k = (fit-end q x h.0 ∙ k.0, ends-fit (r ∷ qs) (y ∷ ys) h.1 k.1)

pub ends-back : (qs : List Piece) (xs : List Lexeme) → AreFit qs xs → EndsOnce ends_line xs → EndsOnce is_end qs
ends-back qs [] h k = absurd k
ends-back [] (x ∷ xs) h k = absurd h
ends-back (q ∷ []) (x ∷ []) h k = sym (fit-end q x h.0) ∙ k
ends-back (q ∷ []) (x ∷ y ∷ ys) h k = absurd h.1
ends-back (q ∷ r ∷ qs) (x ∷ []) h k = absurd h.1
ends-back (q ∷ r ∷ qs) (x ∷ y ∷ ys) h k = (sym (fit-end q x h.0) ∙ k.0, ends-back (r ∷ qs) (y ∷ ys) h.1 k.1)

pub open-back : (qs : List Piece) (xs : List Lexeme) → AreFit qs xs → IsOpen ends_line xs → IsOpen is_end qs
open-back [] xs h k = tt
open-back (q ∷ qs) [] h k = absurd h
open-back (q ∷ qs) (x ∷ xs) h k = (sym (fit-end q x h.0) ∙ k.0, open-back qs xs h.1 k.1)
