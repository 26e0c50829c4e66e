-- Each form of statement reads exactly its statements.
use Rattle.std.proofs.Common.{◌≡◌, List, [], ◌∷◌, ◌++◌, drop, codes, ℕ, Ok, Err, refl, sym, ap, subst, ◌∙◌}
use Rattle.tm_lex.specs.Lines.{Lexeme, keyword, name, number, line_end, ◌>>=◌}
use Rattle.tm_tmpl_types.specs.declared.template.Want.TheVariants as want
use Rattle.tm_tmpl_types.specs.declared.template.Selector.TheVariants.{All, Hart, Core, Thread}
use Rattle.tm_tmpl_types.specs.declared.template.SlotText.TheVariants.{Emit, Mix}
use Rattle.tm_tmpl_line.specs.declared.words.Whom.{Whom}
use Rattle.tm_tmpl_line.specs.declared.words.Whom.TheVariants as whose
use Rattle.tm_tmpl_types.specs.declared.template.TmplFault.{TmplFault}
use Rattle.tm_tmpl_types.specs.declared.template.TmplFault.TheVariants.{Early, Expected}
use Rattle.tm_tmpl_line.specs.Readings.{kind, whom, asm, Reading, one}
use Rattle.tm_tmpl_line.specs.Readings.{Statement, template, passes, window, case_of, body, slot, ended, last_number}
use Rattle.tm_tmpl_line.specs.Readings.{weight, after_whom, template_line, passes_line, window_line, case_line}
use Rattle.tm_tmpl_line.specs.Readings.{body_line, emit_line, mix_line}
use Rattle.tm_tmpl_line.specs.Pieces.{Piece, fixed, a_name, a_number, asm_line, the_end, kind_word, pieces_of, AreFit}
use Rattle.tm_tmpl_line.proofs.TokenLemmas.{name-reads, number-reads, kind-reads, whom_word, whom-reads}
use Rattle.tm_tmpl_line.proofs.TokenLemmas.{keyword-reads, asm-reads, end-reads}
use Rattle.tm_tmpl_line.proofs.FormLemmas.{Blamed, Said, Exact, Then, exact-one}

-- ---- a reader that reads alike, and a language with other words

same_exact : (p q : List Lexeme → Reading Statement) (L : Statement → List Piece → Type 0)
    → ((xs : List Lexeme) → q xs ≡ p xs) → Exact p L → Exact q L
same_exact p q L same h = record {
  sound = λ xs s rest read. h.sound xs s rest (sym (same xs) ∙ read);
  complete = λ s qs xs rest said fit. same (xs ++ rest) ∙ h.complete s qs xs rest said fit;
  blames = λ xs e read. h.blames xs e (sym (same xs) ∙ read);
  some = h.some;
}

-- one language in the words of another
record SameWords (L M : Statement → List Piece → Type 0) : Type 0 where
  there : (s : Statement) (qs : List Piece) → L s qs → M s qs
  back : (s : Statement) (qs : List Piece) → M s qs → L s qs

retold : (L M : Statement → List Piece → Type 0) (xs : List Lexeme) (e : TmplFault) → SameWords L M
    → Blamed (Said L) xs e → Blamed (Said M) xs e
retold L M xs (Early w) same h = h
retold L M xs (Expected p w) same h = record {
  before = h.before;
  x = h.x;
  behind = h.behind;
  split = h.split;
  place = h.place;
  stuck = record {
    whole = h.stuck.whole;
    next = h.stuck.next;
    behind = h.stuck.behind;
    said = (h.stuck.said.0, same.there h.stuck.said.0 h.stuck.whole h.stuck.said.1);
    fits = h.stuck.fits;
    wants = λ done more q said fit. h.stuck.wants done more q (said.0, same.back said.0 _ said.1) fit;
  };
}
retold L M xs _ same h = absurd h

exact_as : (p : List Lexeme → Reading Statement) (L M : Statement → List Piece → Type 0) → SameWords L M → Exact p L
    → Exact p M
exact_as p L M same h = record {
  sound = λ xs s rest read.
      let got = h.sound xs s rest read in
      record {
        pieces = got.pieces;
        front = got.front;
        whole = got.whole;
        said = same.there s got.pieces got.said;
        fits = got.fits;
      };
  complete = λ s qs xs rest said fit. h.complete s qs xs rest (same.back s qs said) fit;
  blames = λ xs e read. retold L M xs e same (h.blames xs e read);
  some = record {
    s = h.some.s;
    pieces = h.some.pieces;
    xs = h.some.xs;
    said = same.there h.some.s h.some.pieces h.some.said;
    fits = h.some.fits;
  };
}

-- ---- the end of a line

abbrev Done : Statement → Statement → List Piece → Type 0
Done s u qs = (u ≡ s) × (qs ≡ [])

-- nothing is read
abbrev nothing : Statement → List Lexeme → Reading Statement
nothing s xs = Ok (s, xs)

abbrev read_or : Statement × List Lexeme → Reading Statement → Statement × List Lexeme
read_or d (Ok p) = p
read_or d (Err e) = d

exact_done : (s : Statement) → Exact (nothing s) (Done s)
exact_done s = record {
  sound = λ xs u rest read.
      let same : s ≡ u = ap (λ r. (read_or (s, xs) r).0) read in
      let left : xs ≡ rest = ap (λ r. (read_or (s, xs) r).1) read in
      record { pieces = []; front = []; whole = left; said = (sym same, refl); fits = tt };
  complete = all_read;
  blames = λ xs e read. absurd (cc);
  some = record { s = s; pieces = []; xs = []; said = (refl, refl); fits = tt };
} where
  all_read : (u : Statement) (qs : List Piece) (xs rest : List Lexeme) → Done s u qs → AreFit qs xs
      → nothing s (xs ++ rest) ≡ Ok (u, rest)
  all_read u qs [] rest h fit = rw h.0
  all_read u qs (x ∷ xs) rest h fit = absurd (subst (λ l. AreFit l (x ∷ xs)) h.1 fit)

abbrev Ended : Statement → Statement → List Piece → Type 0
Ended s = Then {A = Unit {0}} (λ _. the_end) (λ _. Done s)

exact_ended : (s : Statement) → Exact (ended s) (Ended s)
exact_ended s = exact-one want.LineEnd line_end (λ _. the_end) end-reads (λ _. nothing s) (λ _. Done s)
    (λ _. exact_done s) (λ _ xs v h. absurd (cc))

-- ---- pieces in front of others

with_name : (f : List ℕ → List Lexeme → Reading Statement) (L : List ℕ → Statement → List Piece → Type 0)
    → ((n : List ℕ) → Exact (f n) (L n))
    → Exact (λ xs. one want.Name name xs >>= f) (Then a_name L)
with_name f L exact = exact-one want.Name name a_name name-reads f L exact (λ _ _ _ _. refl)

with_number : (f : ℕ → List Lexeme → Reading Statement) (L : ℕ → Statement → List Piece → Type 0)
    → ((n : ℕ) → Exact (f n) (L n))
    → Exact (λ xs. one want.Number number xs >>= f) (Then a_number L)
with_number f L exact = exact-one want.Number number a_number number-reads f L exact (λ _ _ _ _. refl)

-- a class of a mix with its weight
abbrev Weighed : List ℕ → (ℕ → Statement → List Piece → Type 0) → Statement → List Piece → Type 0
Weighed class L = Then {A = Unit {0}} (λ _. fixed want.Class class) (λ _. Then a_number L)

weight_then : (class : List ℕ) (f : ℕ → List Lexeme → Reading Statement) (xs : List Lexeme)
    → (weight class xs >>= f)
    ≡ (one {A = Unit {0}} want.Class (keyword class) xs >>= (λ _ rest. one want.Number number rest >>= f))
weight_then class f xs = regroup (one want.Class (keyword class) xs) where
  regroup : (m : Reading (Unit {0})) → ((m >>= (λ _ rest. one want.Number number rest)) >>= f)
      ≡ (m >>= (λ _ rest. one want.Number number rest >>= f))
  regroup (Ok q) = refl
  regroup (Err e) = refl

with_weight : (class : List ℕ) (f : ℕ → List Lexeme → Reading Statement) (L : ℕ → Statement → List Piece → Type 0)
    → ((n : ℕ) → Exact (f n) (L n))
    → Exact (λ xs. weight class xs >>= f) (Weighed class L)
with_weight class f L exact =
    same_exact _ _ _ (weight_then class f)
    (exact-one want.Class (keyword class) (λ _. fixed want.Class class) (keyword-reads class) (λ _ rest.
    one want.Number number rest >>= f) (λ _. Then a_number L) (λ _. with_number f L exact) (λ _ _ _ _. refl))

-- a number that is the last word of its line
last_then : (f : ℕ → Statement) (xs : List Lexeme) → (last_number xs >>= (λ n rest. Ok (f n, rest)))
    ≡ (one want.Number number xs >>= (λ n rest. ended (f n) rest))
last_then f xs = regroup (one want.Number number xs) where
  at_end : (n : ℕ) (m : Reading (Unit {0})) → ((m >>= (λ _ rest. Ok (n, rest))) >>= (λ k rest. Ok (f k, rest)))
      ≡ (m >>= (λ _ rest. Ok (f n, rest)))
  at_end n (Ok q) = refl
  at_end n (Err e) = refl

  regroup : (m : Reading ℕ) → ((m >>= ended) >>= (λ n rest. Ok (f n, rest))) ≡ (m >>= (λ n rest. ended (f n) rest))
  regroup (Ok q) = at_end q.0 (one want.LineEnd line_end q.1)
  regroup (Err e) = refl

with_last : (f : ℕ → Statement) → Exact (λ xs. last_number xs >>= (λ n rest. Ok (f n, rest)))
    (Then a_number (λ n. Ended (f n)))
with_last f =
    same_exact _ _ _ (last_then f) (with_number (λ n rest. ended (f n) rest) (λ n. Ended (f n))
    (λ n. exact_ended (f n)))

-- ---- the forms, by their first words

-- what a statement begins with
pub data Head : Type 0 where
  template_head : Head
  passes_head : Head
  window_head : Head
  case_head : Head
  body_head : Head
  emit_head : Head
  mix_head : Head

abbrev pub head_of : Statement → Head
head_of (template n) = template_head
head_of (passes n) = passes_head
head_of (window w k n) = window_head
head_of (case_of n) = case_head
head_of (body s) = body_head
head_of (slot (Emit a)) = emit_head
head_of (slot (Mix n a l s b)) = mix_head

abbrev pub form_of : Head → List Lexeme → Reading Statement
form_of template_head = template_line
form_of passes_head = passes_line
form_of window_head = window_line
form_of case_head = case_line
form_of body_head = body_line
form_of emit_head = emit_line
form_of mix_head = mix_line

-- the pieces behind the first word
unfoldable pub tail_of : Statement → List Piece
tail_of s = drop 1 (pieces_of (record { line = 1; col = 1 }, s))

-- the statements that begin so, with their pieces
abbrev pub Of : Head → Statement → List Piece → Type 0
Of h s qs = (head_of s ≡ h) × (qs ≡ tail_of s)

abbrev TemplateForm : Statement → List Piece → Type 0
TemplateForm = Then a_name (λ n. Ended (template n))

template_words : SameWords TemplateForm (Of template_head)
unfolding tail_of pieces_of
template_words = record { there = to; back = from } where
  to : (s : Statement) (qs : List Piece) → TemplateForm s qs → Of template_head s qs
  to s qs h = rw (h.3.3.0, h.2, h.3.2, h.3.3.1) (refl, refl)

  from : (s : Statement) (qs : List Piece) → Of template_head s qs → TemplateForm s qs
  from (template n) qs h = (n, the_end ∷ [], h.1, (tt, [], refl, (refl, refl)))
  from (slot (Emit a)) qs h = absurd (cc)
  from (slot (Mix n a l s b)) qs h = absurd (cc)
  from _ qs h = absurd (cc)

abbrev PassesForm : Statement → List Piece → Type 0
PassesForm = Then a_number (λ n. Ended (passes n))

passes_words : SameWords PassesForm (Of passes_head)
unfolding tail_of pieces_of
passes_words = record { there = to; back = from } where
  to : (s : Statement) (qs : List Piece) → PassesForm s qs → Of passes_head s qs
  to s qs h = rw (h.3.3.0, h.2, h.3.2, h.3.3.1) (refl, refl)

  from : (s : Statement) (qs : List Piece) → Of passes_head s qs → PassesForm s qs
  from (passes n) qs h = (n, the_end ∷ [], h.1, (tt, [], refl, (refl, refl)))
  from (slot (Emit a)) qs h = absurd (cc)
  from (slot (Mix n a l s b)) qs h = absurd (cc)
  from _ qs h = absurd (cc)

abbrev WindowForm : Statement → List Piece → Type 0
WindowForm = Then a_number (λ w. Then (λ k. fixed want.Kind (kind_word k))
    (λ k. Then a_number (λ n. Ended (window w k n))))

window_words : SameWords WindowForm (Of window_head)
unfolding tail_of pieces_of
window_words = record { there = to; back = from } where
  to : (s : Statement) (qs : List Piece) → WindowForm s qs → Of window_head s qs
  to s qs h = let last = h.3.3.3 in rw (last.3.0, h.2, h.3.2, h.3.3.2, last.2, last.3.1) (refl, refl)

  from : (s : Statement) (qs : List Piece) → Of window_head s qs → WindowForm s qs
  from (window w k n) qs h = (w, _, h.1, (k, _, refl, (n, the_end ∷ [], refl, (tt, [], refl, (refl, refl)))))
  from (slot (Emit a)) qs h = absurd (cc)
  from (slot (Mix n a l s b)) qs h = absurd (cc)
  from _ qs h = absurd (cc)

abbrev CaseForm : Statement → List Piece → Type 0
CaseForm = Then a_name (λ n. Ended (case_of n))

case_words : SameWords CaseForm (Of case_head)
unfolding tail_of pieces_of
case_words = record { there = to; back = from } where
  to : (s : Statement) (qs : List Piece) → CaseForm s qs → Of case_head s qs
  to s qs h = rw (h.3.3.0, h.2, h.3.2, h.3.3.1) (refl, refl)

  from : (s : Statement) (qs : List Piece) → Of case_head s qs → CaseForm s qs
  from (case_of n) qs h = (n, the_end ∷ [], h.1, (tt, [], refl, (refl, refl)))
  from (slot (Emit a)) qs h = absurd (cc)
  from (slot (Mix n a l s b)) qs h = absurd (cc)
  from _ qs h = absurd (cc)

abbrev WhomForm : Whom → Statement → List Piece → Type 0
WhomForm whose.All = Ended (body All)
WhomForm whose.Hart = Then a_number (λ n. Ended (body (Hart n)))
WhomForm whose.Core = Then a_number (λ n. Ended (body (Core n)))
WhomForm whose.Thread = Then a_number (λ n. Ended (body (Thread n)))

abbrev BodyForm : Statement → List Piece → Type 0
BodyForm = Then (λ k. fixed want.Selector (whom_word k)) WhomForm

body_words : SameWords BodyForm (Of body_head)
unfolding tail_of pieces_of
body_words = record { there = λ s qs h. to h.0 s qs h.1 h.2 h.3; back = from } where
  to : (k : Whom) (s : Statement) (qs rest : List Piece) → qs ≡ fixed want.Selector (whom_word k) ∷ rest
      → WhomForm k s rest → Of body_head s qs
  to whose.All s qs rest same h = rw (h.3.0, same, h.2, h.3.1) (refl, refl)
  to whose.Hart s qs rest same h = rw (h.3.3.0, same, h.2, h.3.2, h.3.3.1) (refl, refl)
  to whose.Core s qs rest same h = rw (h.3.3.0, same, h.2, h.3.2, h.3.3.1) (refl, refl)
  to whose.Thread s qs rest same h = rw (h.3.3.0, same, h.2, h.3.2, h.3.3.1) (refl, refl)

  from : (s : Statement) (qs : List Piece) → Of body_head s qs → BodyForm s qs
  from (body All) qs h = (whose.All, _, h.1, (tt, [], refl, (refl, refl)))
  from (body (Hart n)) qs h = (whose.Hart, _, h.1, (n, the_end ∷ [], refl, (tt, [], refl, (refl, refl))))
  from (body (Core n)) qs h = (whose.Core, _, h.1, (n, the_end ∷ [], refl, (tt, [], refl, (refl, refl))))
  from (body (Thread n)) qs h = (whose.Thread, _, h.1, (n, the_end ∷ [], refl, (tt, [], refl, (refl, refl))))
  from (slot (Emit a)) qs h = absurd (cc)
  from (slot (Mix n a l s b)) qs h = absurd (cc)
  from _ qs h = absurd (cc)

abbrev EmitForm : Statement → List Piece → Type 0
EmitForm = Then asm_line (λ a. Ended (slot (Emit a)))

emit_words : SameWords EmitForm (Of emit_head)
unfolding tail_of pieces_of
emit_words = record { there = to; back = from } where
  to : (s : Statement) (qs : List Piece) → EmitForm s qs → Of emit_head s qs
  to s qs h = rw (h.3.3.0, h.2, h.3.2, h.3.3.1) (refl, refl)

  from : (s : Statement) (qs : List Piece) → Of emit_head s qs → EmitForm s qs
  from (slot (Emit a)) qs h = (a, the_end ∷ [], h.1, (tt, [], refl, (refl, refl)))
  from (slot (Mix n a l s b)) qs h = absurd (cc)
  from _ qs h = absurd (cc)

abbrev MixForm : Statement → List Piece → Type 0
MixForm = Then a_number (λ n. Weighed (codes "alu")
    (λ a. Weighed (codes "load") (λ l. Weighed (codes "store")
    (λ s. Weighed (codes "branch") (λ b. Ended (slot (Mix n a l s b)))))))

mix_words : SameWords MixForm (Of mix_head)
unfolding tail_of pieces_of
mix_words = record { there = to; back = from } where
  to : (s : Statement) (qs : List Piece) → MixForm s qs → Of mix_head s qs
  to s qs h =
      let alu = h.3 in
      let load = alu.3.3 in
      let store = load.3.3 in
      let branch = store.3.3 in
      let last = branch.3.3 in
      rw (
        last.3.0,
        h.2,
        alu.2,
        alu.3.2,
        load.2,
        load.3.2,
        store.2,
        store.3.2,
        branch.2,
        branch.3.2,
        last.2,
        last.3.1,
      ) (refl, refl)

  from : (s : Statement) (qs : List Piece) → Of mix_head s qs → MixForm s qs
  from (slot (Emit a)) qs h = absurd (cc)
  from (slot (Mix n a l s b)) qs h = (
    n,
    _,
    h.1,
    (
      tt,
      _,
      refl,
      (
        a,
        _,
        refl,
        (
          tt,
          _,
          refl,
          (l, _, refl, (tt, _, refl, (s, _, refl, (tt, _, refl, (b, _, refl, (tt, [], refl, (refl, refl))))))),
        ),
      ),
    ),
  )
  from _ qs h = absurd (cc)

whom_exact : (k : Whom) → Exact (after_whom k) (WhomForm k)
whom_exact whose.All = exact_ended (body All)
whom_exact whose.Hart = with_last (λ n. body (Hart n))
whom_exact whose.Core = with_last (λ n. body (Core n))
whom_exact whose.Thread = with_last (λ n. body (Thread n))

window_exact : Exact window_line WindowForm
window_exact =
    with_number _ _ (λ w. exact-one want.Kind kind (λ k. fixed want.Kind (kind_word k)) kind-reads _ _
    (λ k. with_number _ _ (λ n. exact_ended (window w k n))) (λ _ _ _ _. refl))

mix_exact : Exact mix_line MixForm
mix_exact = with_number _ _ (λ n. with_weight (codes "alu") _ _
    (λ a. with_weight (codes "load") _ _ (λ l. with_weight (codes "store") _ _
    (λ s. with_weight (codes "branch") _ _ (λ b. exact_ended (slot (Mix n a l s b)))))))

pub form-exact : (h : Head) → Exact (form_of h) (Of h)
form-exact template_head = exact_as _ _ _ template_words (with_name _ _ (λ n. exact_ended (template n)))
form-exact passes_head = exact_as _ _ _ passes_words (with_last passes)
form-exact window_head = exact_as _ _ _ window_words window_exact
form-exact case_head = exact_as _ _ _ case_words (with_name _ _ (λ n. exact_ended (case_of n)))
form-exact body_head =
    exact_as _ _ _ body_words (exact-one want.Selector whom (λ k. fixed want.Selector (whom_word k)) whom-reads
    after_whom WhomForm whom_exact (λ _ _ _ _. refl))
form-exact emit_head =
    exact_as _ _ _ emit_words (exact-one want.Asm asm asm_line asm-reads _ _ (λ a. exact_ended (slot (Emit a)))
    (λ _ _ _ _. refl))
form-exact mix_head = exact_as _ _ _ mix_words mix_exact
