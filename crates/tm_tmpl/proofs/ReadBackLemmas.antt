-- A printed template is read back.
use Rattle.std.proofs.Common.{◌≡◌, ◌<◌, ℕ, ◌+◌, ◌-◌, ◌^◌, Bool, true, false, eqb, nat_lt, nat_le, ◌&&◌, List, []}
use Rattle.std.proofs.Common.{◌∷◌, ◌++◌, length, take, drop, map, All, codes, None, Ok, refl, sym, ap, subst, ◌∙◌}
use Rattle.std.proofs.Common.{arith, append_assoc}
use Rattle.std.specs.List.{list_all, slice_split}
use Rattle.std.specs.Str.{bytes_eq}
use Rattle.std.specs.Fmt.{decimal}
use Rattle.std.proofs.lemmas.Bool.{not-true}
use Rattle.std.proofs.lemmas.Bool.Decides.{nat_tests}
use Rattle.std.proofs.lemmas.Grind.{common_steps}
use Rattle.std.proofs.lemmas.List.Splits.{slice_split_at}
use Rattle.tm_base.specs.Numbers.{number_of}
use Rattle.tm_base.proofs.PrintLemmas.{decimal_reads_back}
use Rattle.tm_base.specs.declared.limits.TheConstants.{WORD_BYTES}
use Rattle.tm_lex.specs.declared.token.TokenKind.TheVariants.{Word, Raw, LineEnd}
use Rattle.tm_lex.specs.declared.token.Token.{Token}
use Rattle.tm_lex.specs.Lexing.{is_word, words, spans, line_fault, line_tokens, lines_reading, token_at, as_words}
use Rattle.tm_lex.specs.Tiling.{may_stand}
use Rattle.tm_lex.specs.Lines.{Lexeme, lexemes}
use Rattle.tm_tmpl_types.specs.declared.template.Kind.{Kind}
use Rattle.tm_tmpl_types.specs.declared.template.Kind.TheVariants.{True, False, Own}
use Rattle.tm_tmpl_types.specs.declared.template.Selector.TheVariants as whose
use Rattle.tm_tmpl_types.specs.declared.template.SlotText.TheVariants.{Emit, Mix}
use Rattle.tm_tmpl_line.specs.Readings.{Statement, template, passes, window, case_of, body, slot, At}
use Rattle.tm_tmpl_line.specs.Pieces.{kind_word, pieces_of, AreFit}
use Rattle.tm_tmpl_read.specs.Spelled.{all_pieces}
use Rattle.tm_tmpl_read.specs.Writable.{IsAsm, IsSayable, AreSayable}
use Rattle.tm_tmpl_line.proofs.PieceLemmas.{fit-join}
use Rattle.tm_tmpl_read.proofs.LexemeLemmas.{lexemes-join, tokens-join}
use Rattle.tm_tmpl.specs.Printed.{spaced, words_of, line_of, lines_of}
use Rattle.tm_tmpl.proofs.SpacedLemmas.{IsPlain, ArePlain, name-plain, number-plain, spans_from, spans-plain}
use Rattle.tm_tmpl.proofs.SpacedLemmas.{spans-emit, plain-stands, emit-stands, content-whole, no-bad-byte}
use Rattle.tm_tmpl.proofs.SpacedLemmas.{no-line-end, plain-short, emit-short, lexeme, word_lexemes, lexeme-at}
use Rattle.tm_tmpl.proofs.SpacedLemmas.{lexemes-words}

-- the lexemes of a statement's line without its end
unfoldable pub lexemes_of : ℕ → ℕ → Statement → List Lexeme
lexemes_of n from (slot (Emit asm)) = lexeme n from Word 0 (codes "emit") ∷ lexeme n from Raw 5 asm ∷ []
lexemes_of n from s = word_lexemes n from 0 (words_of s)

reads_small : (n : ℕ) → n < 2 ^ 32 → number_of (decimal n) ≡ Ok n
reads_small n h = decimal_reads_back n (omega arith)

-- a statement's line stands for its pieces
pub line-fits : (s : Statement) → IsSayable s → (n from : ℕ) (e : Lexeme) → e.0.kind ≡ LineEnd
    → AreFit (pieces_of (record { line = n; col = 1 }, s)) (lexemes_of n from s ++ e ∷ [])
unfolding pieces_of words_of word_lexemes lexemes_of
line-fits (template name) good n from e end = ((refl, refl, refl), ((refl, refl, good), (end, tt)))
line-fits (passes k) good n from e end = ((refl, refl, refl), ((refl, reads_small k good, good), (end, tt)))
line-fits (window w k l) good n from e end = (
  (refl, refl, refl),
  (
    (refl, reads_small w good.0, good.0),
    ((refl, refl), ((refl, reads_small l good.1, good.1), (end, tt))),
  ),
)
line-fits (case_of name) good n from e end = ((refl, refl, refl), ((refl, refl, good), (end, tt)))
line-fits (body whose.All) good n from e end = ((refl, refl, refl), ((refl, refl), (end, tt)))
line-fits (body (whose.Hart k)) good n from e end =
    ((refl, refl, refl), ((refl, refl), ((refl, reads_small k good, good), (end, tt))))
line-fits (body (whose.Core k)) good n from e end =
    ((refl, refl, refl), ((refl, refl), ((refl, reads_small k good, good), (end, tt))))
line-fits (body (whose.Thread k)) good n from e end =
    ((refl, refl, refl), ((refl, refl), ((refl, reads_small k good, good), (end, tt))))
line-fits (slot (Emit asm)) good n from e end = ((refl, refl, refl), ((refl, refl), (end, tt)))
line-fits (slot (Mix k a l s b)) good n from e end = (
  (refl, refl, refl),
  (
    (refl, reads_small k good.0, good.0),
    (
      (refl, refl),
      (
        (refl, reads_small a good.1, good.1),
        (
          (refl, refl),
          (
            (refl, reads_small l good.2, good.2),
            (
              (refl, refl),
              (
                (refl, reads_small s good.3, good.3),
                ((refl, refl), ((refl, reads_small b good.4, good.4), (end, tt))),
              ),
            ),
          ),
        ),
      ),
    ),
  ),
)

-- ---- a statement's line has its tokens

-- the token at the end of a line, with its bytes
abbrev end_lexeme : List ℕ → ℕ → ℕ → ℕ → Lexeme
end_lexeme text n from m = (token_at n from (LineEnd, (m, m)), take (from + m - (from + m)) (drop (from + m) text))

-- a line has no fault, and these tokens
record IsLexed (text : List ℕ) (n from : ℕ) (line : List ℕ) (ls : List Lexeme) : Type 0 where
  stands : list_all may_stand line ≡ true
  fine : line_fault n line ≡ None
  tokens : lexemes text (line_tokens n from line) ≡ ls ++ end_lexeme text n from (length line) ∷ []

plain_lexed : (text pre post : List ℕ) (n from : ℕ) (w : List ℕ) (ws : List (List ℕ)) → ArePlain (w ∷ ws)
    → bytes_eq w (codes "emit") ≡ false
    → text ≡ pre ++ (spaced (w ∷ ws) ++ post) → from ≡ length pre
    → IsLexed text n from (spaced (w ∷ ws)) (word_lexemes n from 0 (w ∷ ws))
unfolding line_fault line_tokens spans_from
plain_lexed text pre post n from w ws plain other same place =
    let stands = plain-stands (w ∷ ws) plain in
    let whole = content-whole (spaced (w ∷ ws)) stands in
    let parts = spans-plain w ws plain other in
    let lexed = lexemes-words text pre post n from 0 (w ∷ ws) same (omega arith) in
    record {
      stands = stands;
      fine = rw (whole, no-bad-byte (spaced (w ∷ ws)) stands, parts, plain-short 0 (w ∷ ws) plain);
      tokens = rw (
        whole,
        parts,
      ) (ap (lexemes text) (tokens-join n from (as_words (spans_from 0 (w ∷ ws)))
          ((LineEnd, (length (spaced (w ∷ ws)), length (spaced (w ∷ ws)))) ∷ []))
          ∙ lexemes-join text (map (token_at n from) (as_words (spans_from 0 (w ∷ ws)))) _ ∙ ap (λ ls. ls
          ++ end_lexeme text n from (length (spaced (w ∷ ws))) ∷ []) lexed);
    }

emit_lexed : (text pre post : List ℕ) (n from : ℕ) (asm : List ℕ) → IsAsm asm
    → text ≡ pre ++ (spaced (codes "emit" ∷ asm ∷ []) ++ post) → from ≡ length pre
    → IsLexed text n from (spaced (codes "emit" ∷ asm ∷ [])) (lexemes_of n from (slot (Emit asm)))
unfolding line_fault line_tokens lexemes_of
emit_lexed text pre post n from asm good same place =
    let stands = emit-stands asm good in
    let whole = content-whole (spaced (codes "emit" ∷ asm ∷ [])) stands in
    let parts = spans-emit asm good in
    let first : take (from + 4 - (from + 0)) (drop (from + 0) text) ≡ codes "emit" =
    lexeme-at text pre (codes "emit") (32 ∷ asm ++ post) n from 0 Word same (omega arith) in
    let further : pre ++ ((codes "emit " ++ asm) ++ post) ≡ (pre ++ codes "emit ") ++ (asm ++ post) =
    simp append_assoc in
    let second : take (from + (5 + length asm) - (from + 5)) (drop (from + 5) text) ≡ asm =
    lexeme-at text (pre ++ codes "emit ") asm post n from 5 Raw (same ∙ further) (grind (arith, common_steps)) in
    record {
      stands = stands;
      fine = rw (whole, no-bad-byte (spaced (codes "emit" ∷ asm ∷ [])) stands, parts, emit-short asm good);
      tokens = rw (whole, parts) (rw (first, second));
    }

abbrev is_keyword : List ℕ → Bool
is_keyword w = (nat_lt 0 (length w) && nat_le (length w) WORD_BYTES) && list_all is_word w

keyword : (w : List ℕ) → is_keyword w ≡ true → IsPlain w
keyword w h = record {
  some = grind (arith, nat_tests);
  short = grind (arith, nat_tests);
  bytes = grind (arith, nat_tests);
}

kind_plain : (k : Kind) → IsPlain (kind_word k)
unfolding is_word
kind_plain True = keyword (codes "true") refl
kind_plain False = keyword (codes "false") refl
kind_plain Own = keyword (codes "own") refl

statement-lexed : (s : Statement) → IsSayable s → (text pre post : List ℕ) (n from : ℕ)
    → text ≡ pre ++ (spaced (words_of s) ++ post) → from ≡ length pre
    → IsLexed text n from (spaced (words_of s)) (lexemes_of n from s)
unfolding words_of lexemes_of is_word
statement-lexed (template name) good text pre post n from same place =
    plain_lexed text pre post n from (codes "template") (name ∷ []) (
      keyword (codes "template") refl,
      (name-plain name good, tt),
    ) refl same place
statement-lexed (passes k) good text pre post n from same place =
    plain_lexed text pre post n from (codes "passes") (decimal k ∷ []) (
      keyword (codes "passes") refl,
      (number-plain k good, tt),
    ) refl same place
statement-lexed (window w k l) good text pre post n from same place =
    plain_lexed text pre post n from (codes "window") (decimal w ∷ kind_word k ∷ decimal l ∷ [])
    (keyword (codes "window") refl, (number-plain w good.0, (kind_plain k, (number-plain l good.1, tt)))) refl same
    place
statement-lexed (case_of name) good text pre post n from same place =
    plain_lexed text pre post n from (codes "case") (name ∷ []) (
      keyword (codes "case") refl,
      (name-plain name good, tt),
    ) refl same place
statement-lexed (body whose.All) good text pre post n from same place =
    plain_lexed text pre post n from (codes "body") (codes "all" ∷ []) (
      keyword (codes "body") refl,
      (keyword (codes "all") refl, tt),
    ) refl same place
statement-lexed (body (whose.Hart k)) good text pre post n from same place =
    plain_lexed text pre post n from (codes "body") (codes "hart" ∷ decimal k ∷ []) (
      keyword (codes "body") refl,
      (keyword (codes "hart") refl, (number-plain k good, tt)),
    ) refl same place
statement-lexed (body (whose.Core k)) good text pre post n from same place =
    plain_lexed text pre post n from (codes "body") (codes "core" ∷ decimal k ∷ []) (
      keyword (codes "body") refl,
      (keyword (codes "core") refl, (number-plain k good, tt)),
    ) refl same place
statement-lexed (body (whose.Thread k)) good text pre post n from same place =
    plain_lexed text pre post n from (codes "body") (codes "thread" ∷ decimal k ∷ []) (
      keyword (codes "body") refl,
      (keyword (codes "thread") refl, (number-plain k good, tt)),
    ) refl same place
statement-lexed (slot (Emit asm)) good text pre post n from same place =
    emit_lexed text pre post n from asm good same place
statement-lexed (slot (Mix k a l s b)) good text pre post n from same place =
    plain_lexed text pre post n from (codes "mix") (decimal k ∷ codes "alu" ∷ decimal a ∷ codes "load" ∷ decimal l
    ∷ codes "store" ∷ decimal s ∷ codes "branch" ∷ decimal b ∷ []) (
      keyword (codes "mix") refl,
      (
        number-plain k good.0,
        (
          keyword (codes "alu") refl,
          (
            number-plain a good.1,
            (
              keyword (codes "load") refl,
              (
                number-plain l good.2,
                (
                  keyword (codes "store") refl,
                  (
                    number-plain s good.3,
                    (keyword (codes "branch") refl, (number-plain b good.4, tt)),
                  ),
                ),
              ),
            ),
          ),
        ),
      ),
    ) refl same place

-- ---- lines behind one another

-- what statements say, without their places
abbrev pub said : List At → List Statement
said [] = []
said (s ∷ ss) = s.1 ∷ said ss

-- lines behind a place of a text have tokens that stand for statements
pub record AreRead (text : List ℕ) (n from : ℕ) (lines : List (List ℕ)) (ss : List At) : Type 0 where
  pub ts : List Token
  pub got : List At
  pub lexed : lines_reading n from lines ≡ Ok ts
  pub fits : AreFit (all_pieces got) (lexemes text ts)
  pub same : said got ≡ said ss

no_statement : (text : List ℕ) (n from : ℕ) → AreRead text n from ([] ∷ []) []
unfolding lines_reading line_fault line_tokens spans words
no_statement text n from = record { ts = []; got = []; lexed = refl; fits = tt; same = refl }

one_statement : (text : List ℕ) (n from : ℕ) (lines : List (List ℕ)) (s : At) (ss : List At) → IsSayable s.1
    → IsLexed text n from (spaced (words_of s.1)) (lexemes_of n from s.1)
    → AreRead text (n + 1) (from + length (spaced (words_of s.1)) + 1) lines ss
    → AreRead text n from (spaced (words_of s.1) ∷ lines) (s ∷ ss)
unfolding lines_reading
one_statement text n from lines s ss good line more =
    let joined = lexemes-join text (line_tokens n from (spaced (words_of s.1))) more.ts ∙ ap (λ l. l
    ++ lexemes text more.ts) line.tokens in
    let first = line-fits s.1 good n from (end_lexeme text n from (length (spaced (words_of s.1)))) refl in
    record {
      ts = line_tokens n from (spaced (words_of s.1)) ++ more.ts;
      got = (record { line = n; col = 1 }, s.1) ∷ more.got;
      lexed = rw (line.fine, more.lexed);
      fits = subst (AreFit _) (sym joined) (fit-join _ _ _ _ first more.fits);
      same = ap (λ ss. s.1 ∷ ss) more.same;
    }

-- statements that are printed behind a text are read
pub printed-read : (ss : List At) → AreSayable ss → (text pre : List ℕ) (n from : ℕ) → text ≡ pre ++ lines_of ss
    → from ≡ length pre
    → AreRead text n from (slice_split (λ b. eqb b 10) (lines_of ss)) ss
unfolding lines_of line_of
printed-read [] good text pre n from same place = no_statement text n from
printed-read (s ∷ ss) good text pre n from same place =
    let tail : (spaced (words_of s.1) ++ 10 ∷ []) ++ lines_of ss ≡ spaced (words_of s.1) ++ (10 ∷ lines_of ss) =
    append_assoc (spaced (words_of s.1)) (10 ∷ []) (lines_of ss) in
    let line = statement-lexed s.1 good.0 text pre (10 ∷ lines_of ss) n from (same ∙ ap (λ l. pre ++ l) tail) place in
    let further : pre ++ (spaced (words_of s.1) ++ (10 ∷ lines_of ss)) ≡ (pre ++ (spaced (words_of s.1) ++ 10 ∷ []))
    ++ lines_of ss = simp append_assoc in
    let next : from + length (spaced (words_of s.1)) + 1 ≡ length (pre ++ (spaced (words_of s.1) ++ 10 ∷ [])) =
    grind (arith, common_steps) in
    let more = printed-read ss good.1 text (pre ++ (spaced (words_of s.1) ++ 10 ∷ [])) (n + 1)
    (from + length (spaced (words_of s.1)) + 1)
    (same ∙ ap (λ l. pre ++ l) tail ∙ further) next in
    rw (
      tail,
      slice_split_at (λ b. eqb b 10) (spaced (words_of s.1)) 10 (lines_of ss)
          (apart (spaced (words_of s.1)) line.stands) refl,
    )
    (one_statement text n from _ s ss good.0 line more) where
      apart : (bs : List ℕ) → list_all may_stand bs ≡ true → All (λ x. eqb x 10 ≡ false) bs
      apart bs h k d below = not-true _ (no-line-end bs h k d below)
