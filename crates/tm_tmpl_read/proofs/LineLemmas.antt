-- A line is read as a statement exactly where it stands for the pieces of one that may stand there.
use Rattle.std.proofs.Common.{◌≡◌, Bool, true, false, if◌then◌else◌, List, [], ◌∷◌, ◌++◌, codes, ℕ, Result, Ok, Err}
use Rattle.std.proofs.Common.{refl, sym, ap, subst, ◌∙◌, inl, inr, ◌⊎◌, append-nil}
use Rattle.std.specs.Str.{bytes_eq}
use Rattle.std.proofs.lemmas.Bool.{cases_Bool, true≢false}
use Rattle.std.proofs.lemmas.Slice.Eq.{bytes_eq-Decides}
use Rattle.tm_base.specs.declared.Pos.{Pos}
use Rattle.tm_lex.specs.declared.token.TokenKind.TheVariants.{Word}
use Rattle.tm_lex.specs.Lines.{Lexeme}
use Rattle.tm_tmpl_types.specs.declared.template.Want.{Want}
use Rattle.tm_tmpl_types.specs.declared.template.Want.TheVariants as want
use Rattle.tm_tmpl_types.specs.declared.template.Selector.TheVariants.{All, Hart, Core, Thread}
use Rattle.tm_tmpl_types.specs.declared.template.SlotText.TheVariants.{Emit, Mix}
use Rattle.tm_tmpl_types.specs.declared.template.TmplFault.{TmplFault}
use Rattle.tm_tmpl_types.specs.declared.template.TmplFault.TheVariants.{Lex, Early, Expected, NoMemory}
use Rattle.tm_tmpl_line.specs.Readings.{Reading, Statement, template, passes, window, case_of, body, slot, At}
use Rattle.tm_tmpl_read.specs.Grammar.{Before, start, head, windows, cases, slots, choice, placed, line_reading}
use Rattle.tm_tmpl_line.specs.Pieces.{Piece, opening, want_of, pieces_of, Fits, AreFit}
use Rattle.tm_tmpl_line.proofs.PieceLemmas.{is_end, ends_line, EndsOnce, ends-fit, same-front}
use Rattle.tm_tmpl_line.proofs.TokenLemmas.{token_of}
use Rattle.tm_tmpl_line.proofs.FormLemmas.{Stuck, Bars, Blamed, Said}
use Rattle.tm_tmpl_line.proofs.StatementLemmas.{Head, template_head, passes_head, window_head, case_head, body_head}
use Rattle.tm_tmpl_line.proofs.StatementLemmas.{emit_head, mix_head, head_of, form_of, tail_of, Of, form-exact}

-- ---- first words

abbrev pub word_of : Head → List ℕ
word_of template_head = codes "template"
word_of passes_head = codes "passes"
word_of window_head = codes "window"
word_of case_head = codes "case"
word_of body_head = codes "body"
word_of emit_head = codes "emit"
word_of mix_head = codes "mix"

abbrev pub want_at : Head → Want
want_at template_head = want.Template
want_at passes_head = want.Passes
want_at _ = want.Statement

abbrev pub wanted : Before → Want
wanted start = want.Template
wanted head = want.Passes
wanted _ = want.Statement

-- which first word may stand where
abbrev pub may : Before → Head → Bool
may start template_head = true
may head passes_head = true
may windows window_head = true
may windows case_head = true
may cases case_head = true
may cases body_head = true
may slots case_head = true
may slots body_head = true
may slots emit_head = true
may slots mix_head = true
may _ _ = false

pub want-may : (b : Before) (h : Head) → may b h ≡ true → want_at h ≡ wanted b
want-may start template_head ok = refl
want-may head passes_head ok = refl
want-may windows window_head ok = refl
want-may windows case_head ok = refl
want-may cases case_head ok = refl
want-may cases body_head ok = refl
want-may slots case_head ok = refl
want-may slots body_head ok = refl
want-may slots emit_head ok = refl
want-may slots mix_head ok = refl
want-may _ _ ok = absurd (true≢false (sym ok))

-- the words differ
abbrev named : List ℕ → Head
named w = if bytes_eq w (codes "template") then template_head else if bytes_eq w (codes "passes") then passes_head
    else if bytes_eq w (codes "window") then window_head
    else if bytes_eq w (codes "case") then case_head else if bytes_eq w (codes "body") then body_head
    else if bytes_eq w (codes "emit") then emit_head else mix_head

named_word : (h : Head) → named (word_of h) ≡ h
named_word template_head = refl
named_word passes_head = refl
named_word window_head = refl
named_word case_head = refl
named_word body_head = refl
named_word emit_head = refl
named_word mix_head = refl

same_head : (h k : Head) → word_of h ≡ word_of k → h ≡ k
same_head h k same = sym (named_word h) ∙ ap named same ∙ named_word k

pub pieces-are : (p : Pos) (s : Statement) → pieces_of (p, s) ≡ opening p (want_at (head_of s)) (word_of (head_of s))
    ∷ tail_of s
unfolding pieces_of tail_of
pieces-are p (template n) = refl
pieces-are p (passes n) = refl
pieces-are p (window w k n) = refl
pieces-are p (case_of n) = refl
pieces-are p (body s) = refl
pieces-are p (slot (Emit a)) = refl
pieces-are p (slot (Mix n a l s b)) = refl

pub ends-pieces : (s : Statement) → EndsOnce is_end (tail_of s)
unfolding pieces_of tail_of
ends-pieces (template n) = (refl, refl)
ends-pieces (passes n) = (refl, refl)
ends-pieces (window w k n) = (refl, (refl, (refl, refl)))
ends-pieces (case_of n) = (refl, refl)
ends-pieces (body All) = (refl, refl)
ends-pieces (body (Hart n)) = (refl, (refl, refl))
ends-pieces (body (Core n)) = (refl, (refl, refl))
ends-pieces (body (Thread n)) = (refl, (refl, refl))
ends-pieces (slot (Emit a)) = (refl, refl)
ends-pieces (slot (Mix n a l s b)) = (refl, (refl, (refl, (refl, (refl, (refl, (refl, (refl, (refl, refl)))))))))

-- ---- the choice by the first word

pub chosen : (b : Before) (h : Head) (xs : List Lexeme) (x : Lexeme) → may b h ≡ true → choice xs b (word_of h) x
    ≡ form_of h xs
unfolding choice
chosen start template_head xs x ok = refl
chosen head passes_head xs x ok = refl
chosen windows window_head xs x ok = refl
chosen windows case_head xs x ok = refl
chosen cases case_head xs x ok = refl
chosen cases body_head xs x ok = refl
chosen slots case_head xs x ok = refl
chosen slots body_head xs x ok = refl
chosen slots emit_head xs x ok = refl
chosen slots mix_head xs x ok = refl
chosen _ _ xs x ok = absurd (true≢false (sym ok))

-- a first word that may stand there
record Taken (b : Before) (w : List ℕ) : Type 0 where
  h : Head
  ok : may b h ≡ true
  same : w ≡ word_of h

-- none of those that may
abbrev differs : List ℕ → Head → Type 0
differs w h = bytes_eq w (word_of h) ≡ false

abbrev Refused : Before → List ℕ → Type 0
Refused start w = differs w template_head
Refused head w = differs w passes_head
Refused windows w = differs w window_head × differs w case_head
Refused cases w = differs w body_head × differs w case_head
Refused slots w = differs w emit_head × differs w mix_head × differs w body_head × differs w case_head

refused_fault : (b : Before) (w : List ℕ) (xs : List Lexeme) (x : Lexeme) → Refused b w
    → choice xs b w x ≡ Err (Expected x.0.at (wanted b))
unfolding choice
refused_fault start w xs x h = rw h
refused_fault head w xs x h = rw h
refused_fault windows w xs x h = rw (h.0, h.1)
refused_fault cases w xs x h = rw (h.0, h.1)
refused_fault slots w xs x h = rw (h.0, h.1, h.2, h.3)

refused_word : (b : Before) (h : Head) (w : List ℕ) → may b h ≡ true → Refused b w → differs w h
refused_word start template_head w ok other = other
refused_word head passes_head w ok other = other
refused_word windows window_head w ok other = other.0
refused_word windows case_head w ok other = other.1
refused_word cases case_head w ok other = other.1
refused_word cases body_head w ok other = other.0
refused_word slots case_head w ok other = other.3
refused_word slots body_head w ok other = other.2
refused_word slots emit_head w ok other = other.0
refused_word slots mix_head w ok other = other.1
refused_word _ _ w ok other = absurd (true≢false (sym ok))

try_word : (b : Before) (h : Head) (w : List ℕ) → may b h ≡ true → Taken b w ⊎ differs w h
try_word b h w ok = elim (cases_Bool (bytes_eq w (word_of h))) [
  | inl here ↦ inl (record { h = h; ok = ok; same = (bytes_eq-Decides w (word_of h)).0 here })
  | inr other ↦ inr other
]

either : (A B C : Type 0) → A ⊎ B → (B → A ⊎ C) → A ⊎ C
either A B C (inl a) f = inl a
either A B C (inr b) f = f b

by_word : (b : Before) (w : List ℕ) → Taken b w ⊎ Refused b w
by_word start w = try_word start template_head w refl
by_word head w = try_word head passes_head w refl
by_word windows w = either _ _ _ (try_word windows window_head w refl)
    (λ a. either _ _ _ (try_word windows case_head w refl) (λ b. inr (a, b)))
by_word cases w = either _ _ _ (try_word cases body_head w refl)
    (λ a. either _ _ _ (try_word cases case_head w refl) (λ b. inr (a, b)))
by_word slots w =
    either _ _ _ (try_word slots emit_head w refl) (λ a. either _ _ _ (try_word slots mix_head w refl)
    (λ b. either _ _ _ (try_word slots body_head w refl)
    (λ c. either _ _ _ (try_word slots case_head w refl) (λ d. inr (a, b, c, d)))))

-- ---- lines

-- the statements that may stand there, with their pieces
abbrev pub Lines : Before → List Piece → Type 0
Lines b qs = (s : At) × (may b (head_of s.1) ≡ true) × (qs ≡ pieces_of s)

-- a line: a word first, and a line end only at its end
abbrev pub IsLine : List Lexeme → Type 0
IsLine [] = ⊥
IsLine (x ∷ xs) = (x.0.kind ≡ Word) × EndsOnce ends_line xs

pub line-complete : (b : Before) (s : At) (line : List Lexeme) → may b (head_of s.1) ≡ true → AreFit (pieces_of s) line
    → line_reading b line ≡ Ok s
line-complete b (p, s) line ok fit = read line (subst (λ qs. AreFit qs line) (pieces-are p s) fit) where
  read : (line : List Lexeme) → AreFit (opening p (want_at (head_of s)) (word_of (head_of s)) ∷ tail_of s) line
      → line_reading b line ≡ Ok (p, s)
  read [] fit = absurd fit
  read (x ∷ xs) fit =
      let got = (form-exact (head_of s)).complete s (tail_of s) xs [] (refl, refl) fit.1 in
      let whole : form_of (head_of s) xs ≡ Ok (s, []) = rw append-nil at got in
      ap (λ w. placed x.0.at (choice xs b w x)) fit.0.1 ∙ ap (placed x.0.at) (chosen b (head_of s) xs x ok ∙ whole) ∙ ap
      (λ q. Ok (q, s)) fit.0.2

abbrev pub at_or : At → Result At TmplFault → At
at_or d (Ok s) = s
at_or d (Err e) = d

placed_ok : (at : Pos) (r : Reading Statement) (p : Pos) (s : Statement) → placed at r ≡ Ok (p, s)
    → (rest : List Lexeme) × (r ≡ Ok (s, rest)) × (at ≡ p)
placed_ok at (Err e) p s h = absurd (cc)
placed_ok at (Ok q) p s h = (
  q.1,
  ap (λ u. Ok (u, q.1)) (ap (λ o. (at_or (at, q.0) o).1) h),
  ap (λ o. (at_or (at, q.0) o).0) h,
)

placed_err : (at : Pos) (r : Reading Statement) (e : TmplFault) → placed at r ≡ Err e → r ≡ Err e
placed_err at (Ok q) e h = absurd (cc)
placed_err at (Err d) e h = let same : d ≡ e = cc in ap Err same

-- a line by its first word
taken_reading : (b : Before) (x : Lexeme) (xs : List Lexeme) (t : Taken b x.1) → choice xs b x.1 x ≡ form_of t.h xs
taken_reading b x xs t = ap (λ w. choice xs b w x) t.same ∙ chosen b t.h xs x t.ok

pub line-sound : (b : Before) (s : At) (line : List Lexeme) → IsLine line → line_reading b line ≡ Ok s
    → (may b (head_of s.1) ≡ true) × AreFit (pieces_of s) line
line-sound b s [] line h = absurd line
line-sound b (p, s) (x ∷ xs) line h = elim (by_word b x.1) [
  | inl taken ↦ whole taken (placed_ok x.0.at (choice xs b x.1 x) p s h)
  | inr refused ↦ (let read = placed_ok x.0.at (choice xs b x.1 x) p s h in
      let fault = refused_fault b x.1 xs x refused in absurd (cc))
] where
  whole : (t : Taken b x.1) → (rest : List Lexeme) × (choice xs b x.1 x ≡ Ok (s, rest)) × (x.0.at ≡ p)
      → (may b (head_of s) ≡ true) × AreFit (pieces_of (p, s)) (x ∷ xs)
  whole t read =
      let got = (form-exact t.h).sound xs s read.0 (sym (taken_reading b x xs t) ∙ read.1) in
      let ends = ends-fit got.pieces got.front got.fits (subst (EndsOnce is_end) (sym got.said.1) (ends-pieces s)) in
      let all = same-front ends_line got.front xs read.0 [] ends line.1 (sym got.whole ∙ sym (append-nil xs)) in
      let fits : AreFit (tail_of s) xs =
      subst (λ l. AreFit (tail_of s) l) all.0 (subst (λ qs. AreFit qs got.front) got.said.1 got.fits) in
      let first : x.1 ≡ word_of (head_of s) = t.same ∙ ap word_of (sym got.said.0) in (
        subst (λ h. may b h ≡ true) (sym got.said.0) t.ok,
        subst (λ qs. AreFit qs (x ∷ xs)) (sym (pieces-are p s)) ((line.0, first, read.2), fits),
      )

-- ---- faults

-- a statement that may stand at each place
some_head : (b : Before) → (h : Head) × (may b h ≡ true)
some_head start = (template_head, refl)
some_head head = (passes_head, refl)
some_head windows = (case_head, refl)
some_head cases = (case_head, refl)
some_head slots = (case_head, refl)

-- what a statement's first piece wants
pub first-wanted : (b : Before) (q : Piece) (more : List Piece) → Lines b (q ∷ more) → want_of q ≡ wanted b
first-wanted b q more h =
    let whole = h.2 ∙ pieces-are h.0.0 h.0.1 in
    let here : q ≡ opening h.0.0 (want_at (head_of h.0.1)) (word_of (head_of h.0.1)) = cc in
    ap want_of here ∙ want-may b (head_of h.0.1) h.1

-- something may stand at each place
pub record Opens (b : Before) : Type 0 where
  pub s : At
  pub ok : may b (head_of s.1) ≡ true
  pub next : Lexeme
  pub behind : List Lexeme
  pub fits : AreFit (pieces_of s) (next ∷ behind)

pub opens : (b : Before) → Opens b
opens b =
    let h = some_head b in
    let some = (form-exact h.0).some in
    let ok : may b (head_of some.s) ≡ true = subst (λ k. may b k ≡ true) (sym some.said.0) h.1 in
    let fits : AreFit (tail_of some.s) some.xs = subst (λ qs. AreFit qs some.xs) some.said.1 some.fits in
    let next : Lexeme = token_of Word (word_of (head_of some.s)) in
    let place : Pos = record { line = 1; col = 1 } in
    let whole : AreFit (opening place (want_at (head_of some.s)) (word_of (head_of some.s)) ∷ tail_of some.s) (next
    ∷ some.xs) = ((refl, refl, refl), fits) in
    record {
      s = (place, some.s);
      ok = ok;
      next = next;
      behind = some.xs;
      fits = subst (λ qs. AreFit qs (next ∷ some.xs)) (sym (pieces-are place some.s)) whole;
    }

refused_stuck : (b : Before) (x : Lexeme) → Refused b x.1 → Stuck (Lines b) [] (wanted b) (Bars x)
refused_stuck b x refused =
    let some = opens b in
    record {
      whole = pieces_of some.s;
      next = some.next;
      behind = some.behind;
      said = (some.s, some.ok, refl);
      fits = some.fits;
      wants = wants;
    } where
      wants : (done more : List Piece) (q : Piece) → Lines b (done ++ q ∷ more) → AreFit done []
          → (want_of q ≡ wanted b) × Bars x q
      wants (d ∷ done) more q h fit = absurd fit
      wants [] more q h fit = (
        first-wanted b q more h,
        λ fits.
            let whole = h.2 ∙ pieces-are h.0.0 h.0.1 in
            let here : q ≡ opening h.0.0 (want_at (head_of h.0.1)) (word_of (head_of h.0.1)) = cc in
            let first = subst (λ v. Fits v x) here fits in
            true≢false (sym ((bytes_eq-Decides x.1 (word_of (head_of h.0.1))).1 first.1) ∙ refused_word b
            (head_of h.0.1) x.1 h.1 refused),
      )

taken_stuck : (b : Before) (x : Lexeme) (t : Taken b x.1) → x.0.kind ≡ Word
    → (before : List Lexeme) (w : Want) (P : Piece → Type 0)
    → Stuck (Said (Of t.h)) before w P → Stuck (Lines b) (x ∷ before) w P
taken_stuck b x t word before w P k =
    record {
      whole = opening x.0.at (want_at t.h) (word_of t.h) ∷ k.whole;
      next = k.next;
      behind = k.behind;
      said = ((x.0.at, k.said.0), subst (λ h. may b h ≡ true) (sym k.said.1.0) t.ok, pieces);
      fits = ((word, t.same, refl), k.fits);
      wants = wants;
    } where
      pieces : opening x.0.at (want_at t.h) (word_of t.h) ∷ k.whole ≡ pieces_of (x.0.at, k.said.0)
      pieces = ap (λ h. opening x.0.at (want_at h) (word_of h) ∷ k.whole) (sym k.said.1.0)
          ∙ ap (λ qs. opening x.0.at (want_at (head_of k.said.0)) (word_of (head_of k.said.0)) ∷ qs) k.said.1.1 ∙ sym
          (pieces-are x.0.at k.said.0)

      wants : (done more : List Piece) (q : Piece) → Lines b (done ++ q ∷ more) → AreFit done (x ∷ before)
          → (want_of q ≡ w) × P q
      wants [] more q h fit = absurd fit
      wants (d ∷ done) more q h fit =
          let whole = h.2 ∙ pieces-are h.0.0 h.0.1 in
          let here : d ≡ opening h.0.0 (want_at (head_of h.0.1)) (word_of (head_of h.0.1)) = cc in
          let rest : done ++ q ∷ more ≡ tail_of h.0.1 = cc in
          let first = subst (λ v. Fits v x) here fit.0 in
          k.wants done more q (h.0.1, (same_head (head_of h.0.1) t.h (sym first.1 ∙ t.same), rest)) fit.1

pub line-blames : (b : Before) (line : List Lexeme) (e : TmplFault) → IsLine line → line_reading b line ≡ Err e
    → Blamed (Lines b) line e
line-blames b [] e line h = absurd line
line-blames b (x ∷ xs) e line h = elim (by_word b x.1) [
  | inl taken ↦ (let read = sym (taken_reading b x xs taken) ∙ placed_err x.0.at (choice xs b x.1 x) e h in
      by_fault taken e ((form-exact taken.h).blames xs e read))
  | inr refused ↦
      let fault : Expected x.0.at (wanted b) ≡ e = (let read = placed_err x.0.at (choice xs b x.1 x) e h in
      let other = refused_fault b x.1 xs x refused in cc) in
      subst (λ d. Blamed (Lines b) (x ∷ xs) d) fault
      (record { before = []; x = x; behind = xs; split = refl; place = refl; stuck = refused_stuck b x refused })
] where
  by_fault : (t : Taken b x.1) (d : TmplFault) → Blamed (Said (Of t.h)) xs d → Blamed (Lines b) (x ∷ xs) d
  by_fault t (Lex d) k = k
  by_fault t (Early v) k = (rw line.0, k)
  by_fault t (Expected p v) k = record {
    before = x ∷ k.before;
    x = k.x;
    behind = k.behind;
    split = ap (λ l. x ∷ l) k.split;
    place = k.place;
    stuck = taken_stuck b x t line.0 k.before v (Bars k.x) k.stuck;
  }
  by_fault t NoMemory k = k
