-- The statements of lines, by the pieces for which their tokens stand.
use Rattle.std.proofs.Common.{◌≡◌, ℕ, true, List, [], ◌∷◌, ◌++◌, codes, Option, None, Some, Result, Ok, Err, refl}
use Rattle.std.proofs.Common.{sym, ap, subst, arith, ◌∙◌, inl, inr, ◌⊎◌, append_assoc}
use Rattle.std.specs.Fmt.{decimal}
use Rattle.std.proofs.lemmas.Bool.{cases_Bool}
use Rattle.tm_base.specs.declared.Pos.{Pos}
use Rattle.tm_base.proofs.PrintLemmas.{decimal_reads_back}
use Rattle.tm_lex.specs.declared.token.TokenKind.TheVariants.{Word, LineEnd}
use Rattle.tm_lex.specs.Lines.{Lexeme, is_line_end}
use Rattle.tm_tmpl_types.specs.declared.template.Want.{Want}
use Rattle.tm_tmpl_types.specs.declared.template.Want.TheVariants as want
use Rattle.tm_tmpl_types.specs.declared.template.TmplFault.{TmplFault}
use Rattle.tm_tmpl_types.specs.declared.template.TmplFault.TheVariants.{Lex, Early, Expected, NoMemory}
use Rattle.tm_tmpl_line.specs.Readings.{Statement, template, passes, window, case_of, body, slot}
use Rattle.tm_tmpl_line.specs.Readings.{At}
use Rattle.tm_tmpl_read.specs.Grammar.{Before, start, head, windows, cases, slots, early, at_end, more, then_more}
use Rattle.tm_tmpl_read.specs.Grammar.{place_after, line_reading, token_lines, onto_first, statements, IsStatedFault}
use Rattle.tm_tmpl_line.specs.Pieces.{Piece, opening, want_of, pieces_of, AreFit}
use Rattle.tm_tmpl_read.specs.Spelled.{all_pieces}
use Rattle.tm_tmpl_line.proofs.PieceLemmas.{is_end, ends_line, EndsOnce, IsOpen, cut-tokens, cut-pieces, fit-join}
use Rattle.tm_tmpl_line.proofs.PieceLemmas.{same-front, within-front, open-front, ends-not-open, ends-fit, ends-back}
use Rattle.tm_tmpl_line.proofs.PieceLemmas.{open-back}
use Rattle.tm_tmpl_line.proofs.TokenLemmas.{token_of}
use Rattle.tm_tmpl_line.proofs.FormLemmas.{Stuck, StuckAt, Bars, Blamed}
use Rattle.tm_tmpl_line.proofs.StatementLemmas.{head_of, tail_of}
use Rattle.tm_tmpl_read.proofs.LineLemmas.{at_or, want_at, word_of, may, wanted, Lines, IsLine, pieces-are}
use Rattle.tm_tmpl_read.proofs.LineLemmas.{ends-pieces, first-wanted, opens, line-complete, line-sound, line-blames}

-- statements that may stand behind what stands before them, up to the end of a text
abbrev pub AreAllowed : Before → List At → Type 0
AreAllowed b [] = early b ≡ None
AreAllowed b (s ∷ ss) = (may b (head_of s.1) ≡ true) × AreAllowed (place_after s.1) ss

abbrev pub AreLines : List (List Lexeme) → Type 0
AreLines [] = Unit {0}
AreLines (l ∷ ls) = IsLine l × AreLines ls

abbrev flat : List (List Lexeme) → List Lexeme
flat [] = []
flat (l ∷ ls) = l ++ flat ls

flat_lines : (xs : List Lexeme) → flat (token_lines xs) ≡ xs
unfolding token_lines
flat_lines [] = refl
flat_lines (x ∷ xs) = elim (cases_Bool (is_line_end x.0.kind)) [
  | inl here ↦ rw here (ap (λ l. x ∷ l) (flat_lines xs))
  | inr other ↦ rw other (onto (token_lines xs) ∙ ap (λ l. x ∷ l) (flat_lines xs))
] where
  onto : (ls : List (List Lexeme)) → flat (onto_first x ls) ≡ x ∷ flat ls
  onto [] = refl
  onto (l ∷ ls) = refl

-- ---- ends of lines

ends_more : (p : Pos) (w : Want) (bytes : List ℕ) (qs : List Piece) → EndsOnce is_end qs
    → EndsOnce is_end (opening p w bytes ∷ qs)
ends_more p w bytes [] h = absurd h
ends_more p w bytes (q ∷ qs) h = (refl, h)

ends_whole : (s : At) → EndsOnce is_end (pieces_of s)
ends_whole s = subst (EndsOnce is_end) (sym (pieces-are s.0 s.1))
    (ends_more s.0 (want_at (head_of s.1)) (word_of (head_of s.1)) (tail_of s.1) (ends-pieces s.1))

pub line-ends : (line : List Lexeme) → IsLine line → EndsOnce ends_line line
line-ends [] h = h
line-ends (x ∷ []) h = absurd h.1
line-ends (x ∷ y ∷ ys) h = (rw h.0, h.1)

-- a line in front of others
pub first-line-of : (line rest : List Lexeme) → EndsOnce ends_line line → token_lines (line ++ rest)
    ≡ line ∷ token_lines rest
unfolding token_lines
first-line-of [] rest h = absurd h
first-line-of (x ∷ []) rest h = rw h
first-line-of (x ∷ y ∷ ys) rest h = rw (h.0, first-line-of (y ∷ ys) rest h.1)

-- ---- what is read of lines

at_end_ok : (o : Option TmplFault) (ss : List At) → at_end o ≡ Ok ss → (o ≡ None) × (ss ≡ [])
at_end_ok None ss h = (refl, (let same : [] ≡ ss = cc in sym same))
at_end_ok (Some e) ss h = absurd (cc)

-- a first statement was read, and those behind it
record FirstRead (r : Result At TmplFault) (rest : Before → Result (List At) TmplFault) (ss : List At) : Type 0 where
  s : At
  us : List At
  whole : ss ≡ s ∷ us
  first : r ≡ Ok s
  behind : rest (place_after s.1) ≡ Ok us

first_ok : (r : Result At TmplFault) (rest : Before → Result (List At) TmplFault) (ss : List At)
    → then_more rest r ≡ Ok ss → FirstRead r rest ss
first_ok (Err e) rest ss h = absurd (cc)
first_ok (Ok s) rest ss h = by_rest (rest (place_after s.1)) refl h where
  by_rest : (o : Result (List At) TmplFault) → rest (place_after s.1) ≡ o → more s o ≡ Ok ss → FirstRead (Ok s) rest ss
  by_rest (Err e) same h = absurd (cc)
  by_rest (Ok us) same h = let whole : s ∷ us ≡ ss = cc in
      record { s = s; us = us; whole = sym whole; first = refl; behind = same }

-- a first statement is at fault, or those behind it are
record LaterFault (r : Result At TmplFault) (rest : Before → Result (List At) TmplFault) (e : TmplFault) : Type 0 where
  s : At
  first : r ≡ Ok s
  behind : rest (place_after s.1) ≡ Err e

first_err : (r : Result At TmplFault) (rest : Before → Result (List At) TmplFault) (e : TmplFault)
    → then_more rest r ≡ Err e → (r ≡ Err e) ⊎ LaterFault r rest e
first_err (Err d) rest e h = let same : d ≡ e = cc in inl (ap Err same)
first_err (Ok s) rest e h = by_rest (rest (place_after s.1)) refl h where
  by_rest : (o : Result (List At) TmplFault) → rest (place_after s.1) ≡ o → more s o ≡ Err e → (Ok s ≡ Err e)
      ⊎ LaterFault (Ok s) rest e
  by_rest (Err d) same h = let here : d ≡ e = cc in inr (record { s = s; first = refl; behind = same ∙ ap Err here })
  by_rest (Ok us) same h = absurd (cc)

lines_sound : (lines : List (List Lexeme)) (b : Before) (ss : List At) → AreLines lines → statements lines b ≡ Ok ss
    → AreAllowed b ss × AreFit (all_pieces ss) (flat lines)
unfolding statements
lines_sound [] b ss h read = let none = at_end_ok (early b) ss read in
    (subst (AreAllowed b) (sym none.1) none.0, rw none.1 tt)
lines_sound (line ∷ rest) b ss h read =
    let got = first_ok (line_reading b line) (statements rest) ss read in
    let first = line-sound b got.s line h.0 got.first in
    let more = lines_sound rest (place_after got.s.1) got.us h.1 got.behind in (
      subst (AreAllowed b) (sym got.whole) (first.0, more.0),
      subst (λ us. AreFit (all_pieces us) (line ++ flat rest)) (sym got.whole)
          (fit-join (pieces_of got.s) (all_pieces got.us) line (flat rest) first.1 more.1),
    )

pub text-sound : (xs : List Lexeme) (b : Before) (ss : List At) → AreLines (token_lines xs)
    → statements (token_lines xs) b ≡ Ok ss → AreAllowed b ss × AreFit (all_pieces ss) xs
text-sound xs b ss h read = let got = lines_sound (token_lines xs) b ss h read in
    (got.0, subst (AreFit (all_pieces ss)) (flat_lines xs) got.1)

nothing_read : (b : Before) → early b ≡ None → statements (token_lines []) b ≡ Ok []
unfolding statements token_lines
nothing_read b h = rw h

pub text-complete : (ss : List At) (b : Before) (xs : List Lexeme) → AreAllowed b ss → AreFit (all_pieces ss) xs
    → statements (token_lines xs) b ≡ Ok ss
unfolding statements
text-complete [] b [] h fit = nothing_read b h
text-complete [] b (x ∷ xs) h fit = absurd fit
text-complete (s ∷ ss) b xs h fit =
    let two = cut-tokens (pieces_of s) (all_pieces ss) xs fit in
    let cut = ap token_lines two.whole ∙ first-line-of two.front two.back
    (ends-fit (pieces_of s) two.front two.first (ends_whole s)) in
    let first = line-complete b s two.front h.0 two.first in
    let behind = text-complete ss (place_after s.1) two.back h.1 two.second in
    rw (cut, first) (rw behind)

-- ---- faults

-- the statements that may stand there up to the end, with their pieces
abbrev pub Texts : Before → List Piece → Type 0
Texts b qs = (ss : List At) × AreAllowed b ss × (qs ≡ all_pieces ss)

-- what a fault says of the tokens of a text: they end early only before one of the first two statements
abbrev pub Blames : (List Piece → Type 0) → List Lexeme → TmplFault → Type 0
Blames Lang xs (Early w) = Stuck Lang xs w (λ _. Unit {0}) × IsStatedFault (Early w)
Blames Lang xs (Expected p w) = StuckAt Lang xs p w
Blames Lang xs (Lex e) = ⊥
Blames Lang xs NoMemory = ⊥

-- each statement has some behind it that end a text
record Closing (b : Before) : Type 0 where
  ss : List At
  xs : List Lexeme
  ok : AreAllowed b ss
  fits : AreFit (all_pieces ss) xs

no_more : (b : Before) → early b ≡ None → Closing b
no_more b none = record { ss = []; xs = []; ok = none; fits = tt }

closing : (s : Statement) → Closing (place_after s)
unfolding pieces_of
closing (template n) = record {
  ss = (record { line = 1; col = 1 }, passes 0) ∷ [];
  xs = token_of Word (codes "passes") ∷ token_of Word (decimal 0) ∷ token_of LineEnd [] ∷ [];
  ok = (refl, refl);
  fits = ((refl, refl, refl), ((refl, decimal_reads_back 0 (omega arith), omega arith), (refl, tt)));
}
closing (passes n) = no_more windows refl
closing (window w k n) = no_more windows refl
closing (case_of n) = no_more cases refl
closing (body s) = no_more slots refl
closing (slot s) = no_more slots refl

not_none : (done more : List Piece) (q : Piece) → done ++ q ∷ more ≡ [] → ⊥
not_none [] more q h = absurd (cc)
not_none (d ∷ done) more q h = absurd (cc)

-- a first piece is its statement's
first_piece : (s : At) (ps more : List Piece) (q : Piece) → q ∷ more ≡ pieces_of s ++ ps → (rest : List Piece)
    × (q ∷ rest ≡ pieces_of s)
first_piece s ps more q h =
    let whole : q ∷ more ≡ opening s.0 (want_at (head_of s.1)) (word_of (head_of s.1)) ∷ (tail_of s.1 ++ ps) =
    h ∙ ap (λ qs. qs ++ ps) (pieces-are s.0 s.1) in
    let here : q ≡ opening s.0 (want_at (head_of s.1)) (word_of (head_of s.1)) = cc in
    (tail_of s.1, ap (λ v. v ∷ tail_of s.1) here ∙ sym (pieces-are s.0 s.1))

-- where nothing is left, but a statement may come
nothing_stuck : (b : Before) → Stuck (Texts b) [] (wanted b) (λ _. Unit {0})
nothing_stuck b =
    let some = opens b in
    let more = closing some.s.1 in
    record {
      whole = pieces_of some.s ++ all_pieces more.ss;
      next = some.next;
      behind = some.behind ++ more.xs;
      said = (some.s ∷ more.ss, (some.ok, more.ok), refl);
      fits = fit-join (pieces_of some.s) (all_pieces more.ss) (some.next ∷ some.behind) more.xs some.fits more.fits;
      wants = wants;
    } where
      first : (more : List Piece) (q : Piece) (ss : List At) → AreAllowed b ss → q ∷ more ≡ all_pieces ss
          → want_of q ≡ wanted b
      first more q [] ok same = absurd (cc)
      first more q (s ∷ ss) ok same = let here = first_piece s (all_pieces ss) more q same in
          first-wanted b q here.0 (s, ok.0, here.1)

      wants : (done more : List Piece) (q : Piece) → Texts b (done ++ q ∷ more) → AreFit done []
          → (want_of q ≡ wanted b) × Unit {0}
      wants (d ∷ done) more q h fit = absurd fit
      wants [] more q h fit = (first more q h.0 h.1 h.2, tt)

-- stuck in the first line
line_stuck : (b : Before) (before : List Lexeme) (w : Want) (P : Piece → Type 0) → IsOpen ends_line before
    → Stuck (Lines b) before w P → Stuck (Texts b) before w P
line_stuck b before w P open_line k =
    let more = closing k.said.0.1 in
    record {
      whole = k.whole ++ all_pieces more.ss;
      next = k.next;
      behind = k.behind ++ more.xs;
      said = (k.said.0 ∷ more.ss, (k.said.1, more.ok), ap (λ qs. qs ++ all_pieces more.ss) k.said.2);
      fits = subst (AreFit (k.whole ++ all_pieces more.ss)) (append_assoc before (k.next ∷ k.behind) more.xs)
          (fit-join k.whole (all_pieces more.ss) (before ++ k.next ∷ k.behind) more.xs k.fits more.fits);
      wants = λ done more q h fit. wants done more q h.0 h.1 h.2 fit;
    } where
      wants : (done more : List Piece) (q : Piece) (ss : List At) → AreAllowed b ss → done ++ q ∷ more ≡ all_pieces ss
          → AreFit done before → (want_of q ≡ w) × P q
      wants done more q [] ok same fit = absurd (not_none done more q same)
      wants done more q (s ∷ ss) ok same fit =
          let inner = within-front is_end (pieces_of s) done (all_pieces ss) more q (ends_whole s)
          (open-back done before fit open_line) (sym same) in
          k.wants done inner.0 q (s, ok.0, sym inner.1) fit

-- stuck behind a first line
later_stuck : (b : Before) (line : List Lexeme) (s : At) (before : List Lexeme) (w : Want) (P : Piece → Type 0)
    → IsLine line → line_reading b line ≡ Ok s
    → Stuck (Texts (place_after s.1)) before w P → Stuck (Texts b) (line ++ before) w P
later_stuck b line s before w P is read k =
    let first = line-sound b s line is read in
    record {
      whole = pieces_of s ++ k.whole;
      next = k.next;
      behind = k.behind;
      said = (s ∷ k.said.0, (first.0, k.said.1), ap (λ qs. pieces_of s ++ qs) k.said.2);
      fits = subst (AreFit (pieces_of s ++ k.whole)) (sym (append_assoc line before (k.next ∷ k.behind)))
          (fit-join (pieces_of s) k.whole line (before ++ k.next ∷ k.behind) first.1 k.fits);
      wants = λ done more q h fit. wants done more q h.0 h.1 h.2 fit;
    } where
      wants : (done more : List Piece) (q : Piece) (ss : List At) → AreAllowed b ss → done ++ q ∷ more ≡ all_pieces ss
          → AreFit done (line ++ before) → (want_of q ≡ w) × P q
      wants done more q [] ok same fit = absurd (not_none done more q same)
      wants done more q (u ∷ us) ok same fit =
          let two = cut-pieces done line before fit in
          let joined = sym same ∙ ap (λ qs. qs ++ q ∷ more) two.whole ∙ append_assoc two.front two.back (q ∷ more) in
          let fronts = same-front is_end (pieces_of u) two.front (all_pieces us) (two.back ++ q ∷ more) (ends_whole u)
          (ends-back two.front line two.first (line-ends line is)) joined in
          let other = line-complete b u line ok.0 (subst (λ qs. AreFit qs line) (sym fronts.0) two.first) in
          let alike : u ≡ s = ap (λ r. at_or s r) (sym other ∙ read) in
          k.wants two.back more q (us, subst (λ v. AreAllowed (place_after v.1) us) alike ok.1, sym fronts.1) two.second

lines_blame : (lines : List (List Lexeme)) (b : Before) (e : TmplFault) → AreLines lines → statements lines b ≡ Err e
    → Blames (Texts b) (flat lines) e
unfolding statements
lines_blame [] b e h read = at_the_end b e read where
  at_the_end : (b : Before) (e : TmplFault) → at_end (early b) ≡ Err e → Blames (Texts b) [] e
  at_the_end start e read = let same : Early want.Template ≡ e = cc in
      subst (Blames (Texts start) []) same (nothing_stuck start, inl refl)
  at_the_end head e read = let same : Early want.Passes ≡ e = cc in
      subst (Blames (Texts head) []) same (nothing_stuck head, inr refl)
  at_the_end windows e read = absurd (cc)
  at_the_end cases e read = absurd (cc)
  at_the_end slots e read = absurd (cc)
lines_blame (line ∷ rest) b e h read = elim (first_err (line_reading b line) (statements rest) e read) [
  | inl here ↦ in_line e (line-blames b line e h.0 here)
  | inr more ↦ behind more.s more.first e (lines_blame rest (place_after more.s.1) e h.1 more.behind)
] where
  in_line : (e : TmplFault) → Blamed (Lines b) line e → Blames (Texts b) (line ++ flat rest) e
  in_line (Lex d) k = k
  in_line (Early w) k = absurd (ends-not-open ends_line line (line-ends line h.0) k)
  in_line (Expected p w) k = record {
    before = k.before;
    x = k.x;
    behind = k.behind ++ flat rest;
    split = ap (λ l. l ++ flat rest) k.split ∙ append_assoc k.before (k.x ∷ k.behind) (flat rest);
    place = k.place;
    stuck = line_stuck b k.before w (Bars k.x) (open-front ends_line k.before k.behind k.x
        (subst (EndsOnce ends_line) k.split (line-ends line h.0))) k.stuck;
  }
  in_line NoMemory k = k

  behind : (s : At) → line_reading b line ≡ Ok s → (e : TmplFault) → Blames (Texts (place_after s.1)) (flat rest) e
      → Blames (Texts b) (line ++ flat rest) e
  behind s first (Lex d) k = k
  behind s first (Early w) k = (later_stuck b line s (flat rest) w (λ _. Unit {0}) h.0 first k.0, k.1)
  behind s first (Expected p w) k = record {
    before = line ++ k.before;
    x = k.x;
    behind = k.behind;
    split = ap (λ l. line ++ l) k.split ∙ sym (append_assoc line k.before (k.x ∷ k.behind));
    place = k.place;
    stuck = later_stuck b line s k.before w (Bars k.x) h.0 first k.stuck;
  }
  behind s first NoMemory k = k

pub text-blames : (xs : List Lexeme) (b : Before) (e : TmplFault) → AreLines (token_lines xs)
    → statements (token_lines xs) b ≡ Err e → Blames (Texts b) xs e
text-blames xs b e h read = subst (λ l. Blames (Texts b) l e) (flat_lines xs) (lines_blame (token_lines xs) b e h read)
