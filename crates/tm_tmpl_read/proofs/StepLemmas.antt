-- A reader's step: the first line of the tokens that are left, and the statements behind it.
use Rattle.std.proofs.Common.{◌≡◌, ◌<◌, ℕ, suc, ◌-◌, true, false, List, [], ◌∷◌, ◌++◌, length, take, drop, get_or}
use Rattle.std.proofs.Common.{codes, Result, Ok, Err, OnOk, refl, sym, ap, ◌∙◌, arith, inl, inr, append_assoc}
use Rattle.std.proofs.Common.{append-nil}
use Rattle.std.specs.Result.{is_err}
use Rattle.std.specs.Str.{bytes_eq}
use Rattle.std.proofs.lemmas.Bool.{cases_Bool, true≢false}
use Rattle.std.proofs.lemmas.Slice.Eq.{bytes_eq-Decides}
use Rattle.std.proofs.lemmas.Grind.{common_steps}
use Rattle.tm_lex.specs.declared.token.Token.{Token}
use Rattle.tm_lex.specs.declared.token.TokenKind.TheVariants.{Word}
use Rattle.tm_lex.specs.Lines.{Lexeme, lexemes, is_line_end}
use Rattle.tm_tmpl_types.specs.declared.template.Want.TheVariants as want
use Rattle.tm_tmpl_types.specs.declared.template.TmplFault.{TmplFault}
use Rattle.tm_tmpl_types.specs.declared.template.TmplFault.TheVariants.{Early, Expected}
use Rattle.tm_tmpl_line.specs.Readings.{Statement, Reading, template_line, passes_line}
use Rattle.tm_tmpl_line.specs.Readings.{window_line, case_line, body_line, emit_line, mix_line, At}
use Rattle.tm_tmpl_read.specs.Grammar.{Before, start, head, windows, cases, slots, token_lines, statements, choice}
use Rattle.tm_tmpl_read.specs.Grammar.{place_after, more, then_more, line_reading}
use Rattle.tm_tmpl_types.specs.declared.template.SlotDecl.{SlotDecl}
use Rattle.tm_tmpl_types.specs.declared.template.BodyDecl.{BodyDecl}
use Rattle.tm_tmpl_types.specs.declared.template.CaseDecl.{CaseDecl}
use Rattle.tm_tmpl_types.specs.declared.template.WindowDecl.{WindowDecl}
use Rattle.tm_tmpl_read.specs.Steps.{line_len, opens_with, first_at, follows, case_next, body_next, more_all}
use Rattle.tm_tmpl_read.specs.Steps.{windows_at, window_at, slots_at, slot_at, bodies_at, body_at, cases_at, case_at}

-- the bytes of a token
abbrev bytes_of : List ℕ → Token → List ℕ
bytes_of text t = take (t.to - t.from) (drop t.from text)

-- the first line, and the lines behind it
pub first-line : (text : List ℕ) (t : Token) (ts : List Token) (n : ℕ) → n ≡ line_len (t ∷ ts)
    → token_lines (lexemes text (t ∷ ts)) ≡ lexemes text (take n (t ∷ ts))
    ∷ token_lines (lexemes text (drop n (t ∷ ts)))
unfolding token_lines
first-line text t [] n size = elim (cases_Bool (is_line_end t.kind)) [
  | inl here ↦ let one : n ≡ 1 = size ∙ rw here in rw (one, here)
  | inr other ↦ let one : n ≡ 1 = size ∙ rw other in rw (one, other)
]
first-line text t (u ∷ us) n size = elim (cases_Bool (is_line_end t.kind)) [
  | inl here ↦ let one : n ≡ 1 = size ∙ rw here (omega arith) in rw (one, here)
  | inr other ↦
      let more : n ≡ suc (line_len (u ∷ us)) = size ∙ rw other (omega arith) in
      rw (more, other) (rw (first-line text u us (line_len (u ∷ us)) refl))
]

-- a word that a token is
word_is : (text : List ℕ) (t : Token) (ts : List Token) (w : List ℕ) → opens_with text (t ∷ ts) w ≡ true
    → bytes_of text t ≡ w
unfolding opens_with
word_is text t ts w h = (bytes_eq-Decides (bytes_of text t) w).0 h

other_word : (text : List ℕ) (t : Token) (ts : List Token) (w : List ℕ) → opens_with text (t ∷ ts) w ≡ false
    → bytes_eq (bytes_of text t) w ≡ false
unfolding opens_with
other_word text t ts w h = h

-- the statements of tokens, by what their first line is read as
by_line : (text : List ℕ) (t : Token) (ts : List Token) (b : Before) (m : ℕ) → suc m ≡ line_len (t ∷ ts)
    → follows text (t ∷ ts) b ≡ then_more (λ d. follows text (drop m ts) d)
    (line_reading b ((t, bytes_of text t) ∷ lexemes text (take m ts)))
unfolding follows statements
by_line text t ts b m size = rw (first-line text t ts (suc m) size)

-- of any tokens: the length of their first line less one
tail_len : (t : Token) (ts : List Token) → (m : ℕ) × (suc m ≡ line_len (t ∷ ts))
tail_len t ts = (line_len (t ∷ ts) - 1, some) where
  some : suc (line_len (t ∷ ts) - 1) ≡ line_len (t ∷ ts)
  some = elim (cases_Bool (is_line_end t.kind)) [
    | inl here ↦ rw here (omega arith)
    | inr other ↦ rw other (omega arith)
  ]

-- two places at which a first word is read alike
same_reading : (text : List ℕ) (t : Token) (ts : List Token) (b d : Before)
    → ((xs : List Lexeme) → choice xs b (bytes_of text t) (t, bytes_of text t)
    ≡ choice xs d (bytes_of text t) (t, bytes_of text t))
    → follows text (t ∷ ts) b ≡ follows text (t ∷ ts) d
same_reading text t ts b d same =
    let cut = tail_len t ts in
    rw (by_line text t ts b cut.0 cut.1, by_line text t ts d cut.0 cut.1, same (lexemes text (take cut.0 ts)))

-- a place at which a first word may not stand
refused_reading : (text : List ℕ) (t : Token) (ts : List Token) (b : Before) (e : TmplFault)
    → ((xs : List Lexeme) → choice xs b (bytes_of text t) (t, bytes_of text t) ≡ Err e) → follows text (t ∷ ts) b
    ≡ Err e
refused_reading text t ts b e none =
    let cut = tail_len t ts in
    rw (by_line text t ts b cut.0 cut.1, none (lexemes text (take cut.0 ts)))

-- the first line is of the form of its first word
module _ (text : List ℕ) (b : Before) (word : List ℕ) (form : List Lexeme → Reading Statement)
    (chosen : (x : Lexeme) (xs : List Lexeme) → choice xs b word x ≡ form xs)
    (n : ℕ) (line rest : List Token) where
  pub read-ok : (tokens : List Token) → n ≡ line_len tokens → line ≡ take n tokens → rest ≡ drop n tokens
      → opens_with text tokens word ≡ true
      → (s : Statement) (xs : List Lexeme) → form (lexemes text (drop 1 line)) ≡ Ok (s, xs)
      → follows text tokens b ≡ more (first_at tokens, s) (follows text rest (place_after s))
  unfolding opens_with
  read-ok [] size line_is rest_is opens s xs read = absurd (true≢false (sym opens))
  read-ok (t ∷ ts) size line_is rest_is opens s xs read =
      let cut = tail_len t ts in
      let whole : n ≡ suc cut.0 = size ∙ sym cut.1 in
      let is_word = word_is text t ts word opens in
      let line_tail : drop 1 line ≡ take cut.0 ts = (rw (line_is, whole) refl) in
      let tail : rest ≡ drop cut.0 ts = (rw (rest_is, whole) refl) in
      let here : choice (lexemes text (take cut.0 ts)) b (bytes_of text t) (t, bytes_of text t) ≡ Ok (s, xs) =
      rw (is_word, chosen) (rw line_tail at read) in
      rw (by_line text t ts b cut.0 cut.1, here, tail)

  pub read-err : (tokens : List Token) → n ≡ line_len tokens → line ≡ take n tokens → opens_with text tokens word ≡ true
      → (e : TmplFault) → form (lexemes text (drop 1 line)) ≡ Err e → follows text tokens b ≡ Err e
  unfolding opens_with
  read-err [] size line_is opens e read = absurd (true≢false (sym opens))
  read-err (t ∷ ts) size line_is opens e read =
      let cut = tail_len t ts in
      let whole : n ≡ suc cut.0 = size ∙ sym cut.1 in
      let is_word = word_is text t ts word opens in
      let line_tail : drop 1 line ≡ take cut.0 ts = (rw (line_is, whole) refl) in
      let here : choice (lexemes text (take cut.0 ts)) b (bytes_of text t) (t, bytes_of text t) ≡ Err e =
      rw (is_word, chosen) (rw line_tail at read) in
      rw (by_line text t ts b cut.0 cut.1, here)

-- ---- the same, as the code cuts the tokens

left_whole : (tokens : List Token) (n : ℕ) → take (length tokens - n) (drop n tokens) ≡ drop n tokens
left_whole tokens n = grind (arith, common_steps)

first_read : (tokens : List Token) (d : Token) → 0 < length tokens → get_or tokens 0 d ≡ get_or tokens 0 d
    → (get_or tokens 0 d).at ≡ first_at tokens
first_read [] d some _ = absurd (omega arith)
first_read (t ∷ ts) d some _ = refl

module _ (text : List ℕ) (b : Before) (word : List ℕ) (form : List Lexeme → Reading Statement)
    (chosen : (x : Lexeme) (xs : List Lexeme) → choice xs b word x ≡ form xs)
    (tokens : List Token) (n : ℕ) (size : n ≡ line_len tokens) (opens : opens_with text tokens word ≡ true) where
  pub line-ok : (d : Token) → 0 < length tokens → (s : Statement) (xs : List Lexeme)
      → form (lexemes text (drop 1 (take n tokens))) ≡ Ok (s, xs)
      → follows text tokens b ≡ more (
        (get_or tokens 0 d).at,
        s,
      ) (follows text (take (length tokens - n) (drop n tokens)) (place_after s))
  line-ok d some s xs read =
      rw (left_whole tokens n, first_read tokens d some refl)
      (read-ok text b word form chosen n (take n tokens) (drop n tokens) tokens size refl refl opens s xs read)

  pub line-err : (e : TmplFault) → form (lexemes text (drop 1 (take n tokens))) ≡ Err e → follows text tokens b ≡ Err e
  line-err e read = read-err text b word form chosen n (take n tokens) (drop n tokens) tokens size refl opens e read

pub any_token : Token
any_token = record { kind = Word; at = record { line = 0; col = 0 }; from = 0; to = 0 }

pub first-place : (tokens : List Token) (d : Token) → 0 < length tokens → first_at tokens ≡ (get_or tokens 0 d).at
first-place tokens d some = sym (first_read tokens d some refl)

pub more-one : (s : At) (r : Result (List At) TmplFault) → more s r ≡ more_all (s ∷ []) r
more-one s (Ok ss) = refl
more-one s (Err e) = refl

pub more-more : (s : At) (ss : List At) (r : Result (List At) TmplFault) → more s (more_all ss r) ≡ more_all (s ∷ ss) r
more-more s ss (Ok more) = refl
more-more s ss (Err e) = refl

pub more-all-more-all : (ss us : List At) (r : Result (List At) TmplFault) → more_all ss (more_all us r)
    ≡ more_all (ss ++ us) r
more-all-more-all ss us (Ok more) = ap Ok (sym (append_assoc ss us more))
more-all-more-all ss us (Err e) = refl

-- ---- the words of each place

pub at-template : (x : Lexeme) (xs : List Lexeme) → choice xs start (codes "template") x ≡ template_line xs
unfolding choice
at-template x xs = refl

pub at-passes : (x : Lexeme) (xs : List Lexeme) → choice xs head (codes "passes") x ≡ passes_line xs
unfolding choice
at-passes x xs = refl

pub at-window : (x : Lexeme) (xs : List Lexeme) → choice xs windows (codes "window") x ≡ window_line xs
unfolding choice
at-window x xs = refl

pub at-case : (x : Lexeme) (xs : List Lexeme) → choice xs cases (codes "case") x ≡ case_line xs
unfolding choice
at-case x xs = refl

pub at-body : (x : Lexeme) (xs : List Lexeme) → choice xs cases (codes "body") x ≡ body_line xs
unfolding choice
at-body x xs = refl

pub at-emit : (x : Lexeme) (xs : List Lexeme) → choice xs slots (codes "emit") x ≡ emit_line xs
unfolding choice
at-emit x xs = refl

pub at-mix : (x : Lexeme) (xs : List Lexeme) → choice xs slots (codes "mix") x ≡ mix_line xs
unfolding choice
at-mix x xs = refl

pub no-template : (text : List ℕ) (tokens : List Token) → 0 < length tokens → opens_with text tokens (codes "template")
    ≡ false
    → follows text tokens start ≡ Err (Expected (first_at tokens) want.Template)
unfolding choice
no-template text [] some h = absurd (omega arith)
no-template text (t ∷ ts) some h = refused_reading text t ts start _ (λ xs. rw (other_word text t ts _ h))

pub no-passes : (text : List ℕ) (tokens : List Token) → 0 < length tokens → opens_with text tokens (codes "passes")
    ≡ false
    → follows text tokens head ≡ Err (Expected (first_at tokens) want.Passes)
unfolding choice
no-passes text [] some h = absurd (omega arith)
no-passes text (t ∷ ts) some h = refused_reading text t ts head _ (λ xs. rw (other_word text t ts _ h))

pub nothing-at-start : (text : List ℕ) (tokens : List Token) → length tokens ≡ 0 → follows text tokens start
    ≡ Err (Early want.Template)
unfolding follows statements token_lines
nothing-at-start text [] h = refl
nothing-at-start text (t ∷ ts) h = absurd (omega arith)

pub nothing-at-head : (text : List ℕ) (tokens : List Token) → length tokens ≡ 0 → follows text tokens head
    ≡ Err (Early want.Passes)
unfolding follows statements token_lines
nothing-at-head text [] h = refl
nothing-at-head text (t ∷ ts) h = absurd (omega arith)

-- ---- where only a case, or a body or a case, may come next

pub case-opens : (text : List ℕ) (tokens : List Token) → opens_with text tokens (codes "case") ≡ true
    → case_next text tokens ≡ follows text tokens cases
unfolding case_next
case-opens text tokens h = rw h

pub no-case : (text : List ℕ) (tokens : List Token) → 0 < length tokens → opens_with text tokens (codes "case") ≡ false
    → case_next text tokens ≡ Err (Expected (first_at tokens) want.Statement)
unfolding case_next
no-case text [] some h = absurd (omega arith)
no-case text (t ∷ ts) some h = rw h

pub no-more : (text : List ℕ) (tokens : List Token) → length tokens ≡ 0 → case_next text tokens ≡ Ok []
unfolding case_next opens_with
no-more text [] h = refl
no-more text (t ∷ ts) h = absurd (omega arith)

pub body-opens : (text : List ℕ) (tokens : List Token) → opens_with text tokens (codes "body") ≡ true
    → body_next text tokens ≡ follows text tokens cases
unfolding body_next
body-opens text tokens h = rw h

pub no-body : (text : List ℕ) (tokens : List Token) → opens_with text tokens (codes "body") ≡ false
    → body_next text tokens ≡ case_next text tokens
unfolding body_next
no-body text tokens h = rw h

pub no-window : (text : List ℕ) (tokens : List Token) → opens_with text tokens (codes "window") ≡ false
    → follows text tokens windows ≡ case_next text tokens
unfolding case_next choice follows statements token_lines opens_with
no-window text [] h = refl
no-window text (t ∷ ts) h =
    elim (cases_Bool (bytes_eq (bytes_of text t) (codes "case"))) [
      | inl here ↦ rw here (same_reading text t ts windows cases
          (λ xs. rw ((bytes_eq-Decides (bytes_of text t) (codes "case")).0 here)))
      | inr other ↦ rw other (refused_reading text t ts windows _ (λ xs. rw (h, other)))
    ]

pub after-case : (text : List ℕ) (tokens : List Token) → follows text tokens cases ≡ body_next text tokens
unfolding body_next case_next choice follows statements token_lines opens_with
after-case text [] = refl
after-case text (t ∷ ts) =
    elim (cases_Bool (bytes_eq (bytes_of text t) (codes "body"))) [
      | inl here ↦ rw here
      | inr no_body ↦ elim (cases_Bool (bytes_eq (bytes_of text t) (codes "case"))) [
        | inl here ↦ rw (no_body, here)
        | inr other ↦ rw (no_body, other) (refused_reading text t ts cases _ (λ xs. rw (no_body, other)))
      ]
    ]

nothing_behind : (text : List ℕ) → follows text [] slots ≡ body_next text []
unfolding body_next case_next follows statements token_lines opens_with
nothing_behind text = refl

pub after-slots : (text : List ℕ) (tokens : List Token) → opens_with text tokens (codes "emit") ≡ false
    → opens_with text tokens (codes "mix") ≡ false
    → follows text tokens slots ≡ body_next text tokens
unfolding choice opens_with
after-slots text [] emit mix = nothing_behind text
after-slots text (t ∷ ts) emit mix =
    same_reading text t ts slots cases (λ xs. rw (emit, mix)) ∙ after-case text (t ∷ ts)

-- ---- parts in front of others

pub windows-more : (ws : List WindowDecl) (w : WindowDecl) → windows_at (ws ++ w ∷ []) ≡ windows_at ws ++ window_at w
    ∷ []
windows-more [] w = refl
windows-more (v ∷ ws) w = ap (λ ss. window_at v ∷ ss) (windows-more ws w)

pub slots-more : (ds : List SlotDecl) (d : SlotDecl) → slots_at (ds ++ d ∷ []) ≡ slots_at ds ++ slot_at d ∷ []
slots-more [] d = refl
slots-more (c ∷ ds) d = ap (λ ss. slot_at c ∷ ss) (slots-more ds d)

pub bodies-more : (bs : List BodyDecl) (b : BodyDecl) → bodies_at (bs ++ b ∷ []) ≡ bodies_at bs ++ body_at b
bodies-more [] b = append-nil _
bodies-more (a ∷ bs) b =
    ap (λ ss. body_at a ++ ss) (bodies-more bs b) ∙ sym (append_assoc (body_at a) (bodies_at bs) (body_at b))

pub cases-more : (cs : List CaseDecl) (c : CaseDecl) → cases_at (cs ++ c ∷ []) ≡ cases_at cs ++ case_at c
cases-more [] c = append-nil _
cases-more (a ∷ cs) c =
    ap (λ ss. case_at a ++ ss) (cases-more cs c) ∙ sym (append_assoc (case_at a) (cases_at cs) (case_at c))

-- one part more was read
module _ {A : Type 0} (whole : Result (List At) TmplFault) (ats : A → List At) (all : List A → List At)
    (all_more : (xs : List A) (x : A) → all (xs ++ x ∷ []) ≡ all xs ++ ats x) where
  pub one-more : (xs new : List A) (x : A) (here next : Result (List At) TmplFault) → whole ≡ more_all (all xs) here
      → here ≡ more_all (ats x) next → new ≡ xs ++ x ∷ []
      → whole ≡ more_all (all new) next
  one-more xs new x here next same read pushed = same ∙ ap (more_all (all xs)) read ∙ more-all-more-all (all xs) (ats x)
      next ∙ ap (λ ss. more_all ss next) (sym (ap all pushed ∙ all_more xs x))
