-- A text is read as a template exactly where it spells it; else the fault is where it leaves every template.
use Rattle.std.proofs.Common.{◌≡◌, ◌≢◌, ℕ, IfOk, IfErr, List, [], ◌∷◌, ◌++◌, Result, Ok, Err, refl, sym, ap, subst}
use Rattle.std.proofs.Common.{◌∙◌, append_assoc, append-nil, inl, inr, ◌⊎◌}
use Rattle.tm_base.specs.declared.Pos.{Pos}
use Rattle.tm_lex.specs.declared.token.Token.{Token}
use Rattle.tm_lex.specs.declared.token.LexFault.{LexFault}
use Rattle.tm_lex.specs.Lexing.{tokens_of}
use Rattle.tm_tmpl_types.specs.declared.template.Want.{Want}
use Rattle.tm_tmpl_types.specs.declared.template.Template.{Template}
use Rattle.tm_tmpl_types.specs.declared.template.TmplFault.{TmplFault}
use Rattle.tm_tmpl_types.specs.declared.template.TmplFault.TheVariants.{Lex, Early, Expected, NoMemory}
use Rattle.tm_tmpl_line.specs.Readings.{template, passes, At}
use Rattle.tm_tmpl_read.specs.Steps.{windows_at, cases_at}
use Rattle.tm_tmpl_read.specs.Grammar.{start, token_lines, statements, put_all, no_parts, end_of, made_of, of_tokens}
use Rattle.tm_tmpl_read.specs.Grammar.{template_of, IsStatedFault}
use Rattle.tm_tmpl_read.proofs.MadeLemmas.{made-is}
use Rattle.tm_tmpl_line.specs.Pieces.{Piece, AreFit}
use Rattle.tm_tmpl_read.specs.Spelled.{all_pieces, statements_of, Spells, IsSpelled, GoesOn, Wants, Leaves, Stops}
use Rattle.tm_tmpl_read.specs.Spelled.{IsFaultOf, IsOrNoMemory}
use Rattle.tm_tmpl_read.specs.Writable.{IsWritable}
use Rattle.tm_lex.proofs.FaultLemmas.{tokens-are}
use Rattle.tm_lex.specs.Lines.{Lexeme, lexemes}
use Rattle.tm_tmpl_read.proofs.LexemeLemmas.{are-lines}
use Rattle.tm_tmpl_read.proofs.RawLemmas.{tokens-asm}
use Rattle.tm_tmpl_read.proofs.WritableLemmas.{writable}
use Rattle.tm_tmpl_line.proofs.PieceLemmas.{cut-pieces}
use Rattle.tm_tmpl_line.proofs.FormLemmas.{Stuck, StuckAt, Bars}
use Rattle.tm_tmpl_read.proofs.TextLemmas.{AreLines, Texts, Blames, text-sound, text-complete, text-blames}
use Rattle.tm_tmpl_read.proofs.TreeLemmas.{tree, all-allowed}

-- ---- what was read

-- statements that make a template
record Made (text : List ℕ) (r : Result (List At) TmplFault) (t : Template) : Type 0 where
  ss : List At
  read : r ≡ Ok ss
  made : (put_all ss (no_parts text)).made ≡ t

made_ok : (text : List ℕ) (r : Result (List At) TmplFault) (t : Template) → made_of text r ≡ Ok t → Made text r t
made_ok text (Err e) t h = absurd (cc)
made_ok text (Ok ss) t h = let same : (put_all ss (no_parts text)).made ≡ t = cc in
    record { ss = ss; read = refl; made = same }

made_err : (text : List ℕ) (r : Result (List At) TmplFault) (e : TmplFault) → made_of text r ≡ Err e → r ≡ Err e
made_err text (Ok ss) e h = absurd (cc)
made_err text (Err d) e h = let same : d ≡ e = cc in ap Err same

-- the template of a template's statements
pub made-whole : (text : List ℕ) (p : Pos) (t : Template) → (put_all (statements_of p t) (no_parts text)).made
    ≡ record t { end = end_of text }
made-whole text p t =
    subst (λ l. (put_all ((p, template t.name) ∷ (t.passes_at, passes t.passes) ∷ (windows_at t.windows ++ l))
    (no_parts text)).made ≡ record t { end = end_of text })
    (append-nil (cases_at t.cases)) (made-is text t.name t.passes p t.passes_at t.windows t.cases)

pub spelled : (text : List ℕ) (xs : List Lexeme) (t : Template) → AreLines (token_lines xs)
    → made_of text (statements (token_lines xs) start) ≡ Ok t
    → Spells xs t × (t.end ≡ end_of text)
unfolding Spells
spelled text xs t lines h =
    let got = made_ok text (statements (token_lines xs) start) t h in
    let whole = text-sound xs start got.ss lines got.read in
    let found = tree got.ss start whole.0 in
    let same : record found.1 { end = end_of text } ≡ t =
    sym (made-whole text found.0 found.1) ∙ ap (λ ss. (put_all ss (no_parts text)).made) (sym found.2) ∙ got.made in
    let fits : AreFit (all_pieces (statements_of found.0 (record found.1 { end = end_of text }))) xs =
    subst (λ ss. AreFit (all_pieces ss) xs) found.2 whole.1 in
    ((found.0, subst (λ u. AreFit (all_pieces (statements_of found.0 u)) xs) same fits), ap (λ u. u.end) (sym same))

pub spells-read : (text : List ℕ) (xs : List Lexeme) (t : Template) → Spells xs t → t.end ≡ end_of text
    → made_of text (statements (token_lines xs) start) ≡ Ok t
unfolding Spells
spells-read text xs t h end =
    ap (made_of text) (text-complete (statements_of h.0 t) start xs (all-allowed h.0 t) h.1) ∙ ap Ok
    (made-whole text h.0 t ∙ ap (λ e. record t { end = e }) (sym end))

-- ---- where tokens leave every template

goes_on : (before : List Lexeme) (w : Want) (P : Piece → Type 0) → Stuck (Texts start) before w P → GoesOn before
unfolding GoesOn Spells
goes_on before w P k =
    let found = tree k.said.0 start k.said.1 in (
      k.next ∷ k.behind,
      found.1,
      (found.0, subst (λ qs. AreFit qs (before ++ k.next ∷ k.behind)) (k.said.2 ∙ ap all_pieces found.2) k.fits),
    )

wanted : (before : List Lexeme) (w : Want) (P : Piece → Type 0) → Stuck (Texts start) before w P → Wants before w
wanted before w P k =
    let found = tree k.said.0 start k.said.1 in
    let two = cut-pieces k.whole before (k.next ∷ k.behind) k.fits in
    next_of found.0 found.1 two.front two.back (sym (ap all_pieces found.2) ∙ sym k.said.2 ∙ two.whole) two.first
    two.second where
      next_of : (p : Pos) (t : Template) (front back : List Piece) → all_pieces (statements_of p t) ≡ front ++ back
          → AreFit front before → AreFit back (k.next ∷ k.behind) → Wants before w
      next_of p t front [] whole first second = absurd second
      next_of p t front (q ∷ more) whole first second = record {
        next = q;
        some = record {
          t = t;
          place = p;
          done = front;
          more = more;
          behind = k.next ∷ k.behind;
          pieces = whole;
          begun = first;
          further = second;
        };
        each = λ r f. (k.wants f.done f.more r (
          statements_of f.place f.t,
          all-allowed f.place f.t,
          sym f.pieces,
        ) f.begun).0;
      }

barred : (before : List Lexeme) (x : Lexeme) (w : Want) → Stuck (Texts start) before w (Bars x)
    → GoesOn (before ++ x ∷ []) → ⊥
unfolding GoesOn Spells
barred before x w k g =
    let fits = subst (AreFit (all_pieces (statements_of g.2.0 g.1))) (append_assoc before (x ∷ []) g.0) g.2.1 in
    let two = cut-pieces (all_pieces (statements_of g.2.0 g.1)) before (x ∷ g.0) fits in
    none two.front two.back two.whole two.first two.second where
      none : (front back : List Piece) → all_pieces (statements_of g.2.0 g.1) ≡ front ++ back → AreFit front before
          → AreFit back (x ∷ g.0) → ⊥
      none front [] whole first second = second
      none front (q ∷ more) whole first second =
          (k.wants front more q (statements_of g.2.0 g.1, all-allowed g.2.0 g.1, sym whole) first).1 second.0

leaves : (xs : List Lexeme) (p : Pos) (w : Want) → StuckAt (Texts start) xs p w → Leaves xs p w
leaves xs p w k = record {
  before = k.before;
  x = k.x;
  behind = k.behind;
  split = k.split;
  place = k.place;
  fine = goes_on k.before w (Bars k.x) k.stuck;
  left = barred k.before k.x w k.stuck;
  wants = wanted k.before w (Bars k.x) k.stuck;
}

stops : (xs : List Lexeme) (w : Want) → statements (token_lines xs) start ≡ Err (Early w)
    → Stuck (Texts start) xs w (λ _. Unit {0}) → Stops xs w
unfolding Spells
stops xs w read k = record {
  fine = goes_on xs w (λ _. Unit {0}) k;
  short = λ t h. let other = text-complete (statements_of h.0 t) start xs (all-allowed h.0 t) h.1 in absurd (cc);
  wants = wanted xs w (λ _. Unit {0}) k;
}

-- what the statements of a text's tokens say of its fault
fault_of : (text : List ℕ) (ts : List Token) (e : TmplFault) → tokens_of text ≡ Ok ts
    → statements (token_lines (lexemes text ts)) start ≡ Err e → Blames (Texts start) (lexemes text ts) e
    → IsFaultOf text e
unfolding IsFaultOf
fault_of text ts (Lex d) same read k = absurd k
fault_of text ts (Early w) same read k = (ts, same, stops (lexemes text ts) w read k.0)
fault_of text ts (Expected p w) same read k = (ts, same, leaves (lexemes text ts) p w k)
fault_of text ts NoMemory same read k = tt

fault_stated : (xs : List Lexeme) (e : TmplFault) → Blames (Texts start) xs e → IsStatedFault e × (e ≢ NoMemory)
fault_stated xs (Lex d) k = absurd k
fault_stated xs (Early w) k = (k.1, λ same. absurd (cc))
fault_stated xs (Expected p w) k = (tt, λ same. absurd (cc))
fault_stated xs NoMemory k = absurd k

-- ---- a text has one fault at most

-- two places in a list
record Apart (us vs : List Lexeme) (x : Lexeme) : Type 0 where
  left : List Lexeme
  whole : vs ≡ us ++ x ∷ left

two_places : (us vs ws zs : List Lexeme) (x y : Lexeme) → us ++ x ∷ ws ≡ vs ++ y ∷ zs → ((us ≡ vs) × (x ≡ y))
    ⊎ (Apart us vs x ⊎ Apart vs us y)
two_places [] [] ws zs x y h = inl (refl, (let here : x ≡ y = cc in here))
two_places [] (v ∷ vs) ws zs x y h = let here : x ≡ v = cc in
    inr (inl (record { left = vs; whole = ap (λ z. z ∷ vs) (sym here) }))
two_places (u ∷ us) [] ws zs x y h = let here : u ≡ y = cc in
    inr (inr (record { left = us; whole = ap (λ z. z ∷ us) here }))
two_places (u ∷ us) (v ∷ vs) ws zs x y h =
    let here : u ≡ v = cc in
    let rest : us ++ x ∷ ws ≡ vs ++ y ∷ zs = cc in
    elim (two_places us vs ws zs x y rest) [
      | inl same ↦ (let tails : us ≡ vs = same.0 in inl (rw (here, tails), same.1))
      | inr other ↦ elim other [
        | inl more ↦ inr
            (inl (record {
              left = more.left;
              whole = ap (λ l. v ∷ l) more.whole ∙ ap (λ z. z ∷ (us ++ x ∷ more.left))
                  (sym here);
            }))
        | inr more ↦ inr
            (inr (record {
              left = more.left;
              whole = ap (λ l. u ∷ l) more.whole ∙ ap (λ z. z ∷ (vs ++ y ∷ more.left))
                  here;
            }))
      ]
    ]

-- what goes on with more goes on with less
less : (us left : List Lexeme) (x : Lexeme) → GoesOn (us ++ x ∷ left) → GoesOn (us ++ x ∷ [])
unfolding GoesOn
less us left x g = (
  left ++ g.0,
  g.1,
  subst (λ l. Spells l g.1) (append_assoc us (x ∷ left) g.0 ∙ sym (append_assoc us (x ∷ []) (left ++ g.0))) g.2,
)

one_want : (before : List Lexeme) (v w : Want) → Wants before v → Wants before w → v ≡ w
one_want before v w h k = sym (h.each h.next h.some) ∙ k.each h.next h.some

left_early : (xs : List Lexeme) (p : Pos) (w : Want) → Leaves xs p w → GoesOn xs → ⊥
left_early xs p w h g = h.left (less h.before h.behind h.x (subst GoesOn h.split g))

one_place : (xs : List Lexeme) (p q : Pos) (v w : Want) → Leaves xs p v → Leaves xs q w → Expected p v ≡ Expected q w
one_place xs p q v w h k = elim (two_places h.before k.before h.behind k.behind h.x k.x (sym h.split ∙ k.split)) [
  | inl same ↦
      let places : p ≡ q = sym h.place ∙ ap (λ x. x.0.at) same.1 ∙ k.place in
      let wants : v ≡ w = one_want k.before v w (subst (λ l. Wants l v) same.0 h.wants) k.wants in
      rw (places, wants)
  | inr other ↦ elim other [
    | inl more ↦ absurd (h.left (less h.before more.left h.x (subst GoesOn more.whole k.fine)))
    | inr more ↦ absurd (k.left (less k.before more.left k.x (subst GoesOn more.whole h.fine)))
  ]
]

one_fault : (text : List ℕ) (d e : TmplFault) → d ≢ NoMemory → e ≢ NoMemory → IsFaultOf text d → IsFaultOf text e
    → d ≡ e
unfolding IsFaultOf
one_fault text (Lex d) (Lex e) some any h k = let same : d ≡ e = cc in ap Lex same
one_fault text (Lex d) (Early w) some any h k = let tokens = k.1 in absurd (cc)
one_fault text (Lex d) (Expected p w) some any h k = let tokens = k.1 in absurd (cc)
one_fault text (Early v) (Lex e) some any h k = let tokens = h.1 in absurd (cc)
one_fault text (Early v) (Early w) some any h k =
    let same : h.0 ≡ k.0 = (let one = h.1 in let two = k.1 in cc) in
    ap Early (one_want (lexemes text k.0) v w (subst (λ ts. Wants (lexemes text ts) v) same h.2.wants) k.2.wants)
one_fault text (Early v) (Expected q w) some any h k =
    let same : h.0 ≡ k.0 = (let one = h.1 in let two = k.1 in cc) in
    absurd (left_early (lexemes text k.0) q w k.2 (subst (λ ts. GoesOn (lexemes text ts)) same h.2.fine))
one_fault text (Expected p v) (Lex e) some any h k = let tokens = h.1 in absurd (cc)
one_fault text (Expected p v) (Early w) some any h k =
    let same : k.0 ≡ h.0 = (let one = h.1 in let two = k.1 in cc) in
    absurd (left_early (lexemes text h.0) p v h.2 (subst (λ ts. GoesOn (lexemes text ts)) same k.2.fine))
one_fault text (Expected p v) (Expected q w) some any h k =
    let same : h.0 ≡ k.0 = (let one = h.1 in let two = k.1 in cc) in
    one_place (lexemes text k.0) p q v w (subst (λ ts. Leaves (lexemes text ts) p v) same h.2) k.2
one_fault text NoMemory e some any h k = absurd (some refl)
one_fault text d NoMemory some any h k = absurd (any refl)

-- a text with a template has no fault
fault_spelled : (text : List ℕ) (t : Template) (e : TmplFault) → e ≢ NoMemory → IsSpelled text t → IsFaultOf text e → ⊥
unfolding IsFaultOf IsSpelled GoesOn
fault_spelled text t (Lex d) some h k = let tokens = h.1 in absurd (cc)
fault_spelled text t (Early w) some h k =
    let same : h.0 ≡ k.0 = (let one = h.1 in let two = k.1 in cc) in
    k.2.short t (subst (λ ts. Spells (lexemes text ts) t) same h.2)
fault_spelled text t (Expected p w) some h k =
    let same : h.0 ≡ k.0 = (let one = h.1 in let two = k.1 in cc) in
    left_early (lexemes text k.0) p w k.2 (
      [],
      t,
      subst (λ l. Spells l t) (ap (lexemes text) same ∙ sym (append-nil _))
          h.2,
    )
fault_spelled text t NoMemory some h k = some refl

-- ---- the law

-- a text with its tokens, or the fault of its tokens
pub law-spelled : (text : List ℕ) (t : Template) → template_of text ≡ Ok t → IsSpelled text t
unfolding template_of IsSpelled
law-spelled text t h = by_tokens (tokens_of text) refl h where
  by_tokens : (r : Result (List Token) LexFault) → tokens_of text ≡ r → of_tokens text r ≡ Ok t → IsSpelled text t
  by_tokens (Err e) same h = absurd (cc)
  by_tokens (Ok ts) same h = let whole = spelled text (lexemes text ts) t (are-lines text ts (tokens-are text ts same))
      h in (ts, same, whole.0, whole.1)

pub law-read : (text : List ℕ) (t : Template) → IsSpelled text t → template_of text ≡ Ok t
unfolding template_of IsSpelled
law-read text t h = ap (of_tokens text) h.1 ∙ spells-read text (lexemes text h.0) t h.2 h.3

-- the fault of a text, one that is stated, and not want of memory
record Told (text : List ℕ) (e : TmplFault) : Type 0 where
  fault : IsFaultOf text e
  shape : IsStatedFault e
  memory : e ≢ NoMemory

told : (text : List ℕ) (e : TmplFault) → template_of text ≡ Err e → Told text e
unfolding template_of IsFaultOf
told text e h = by_tokens (tokens_of text) refl h where
  by_tokens : (r : Result (List Token) LexFault) → tokens_of text ≡ r → of_tokens text r ≡ Err e → Told text e
  by_tokens (Err d) same h =
      let here : Lex d ≡ e = cc in
      subst (Told text) here (record { fault = same; shape = tt; memory = λ other. absurd (cc) })
  by_tokens (Ok ts) same h =
      let read = made_err text (statements (token_lines (lexemes text ts)) start) e h in
      let blames = text-blames (lexemes text ts) start e (are-lines text ts (tokens-are text ts same)) read in
      let state = fault_stated (lexemes text ts) e blames in
      record { fault = fault_of text ts e same read blames; shape = state.0; memory = state.1 }

pub law-left : (text : List ℕ) (e : TmplFault) → template_of text ≡ Err e → IsFaultOf text e
law-left text e h = (told text e h).fault

pub law-fault : (text : List ℕ) (e : TmplFault) → e ≢ NoMemory → IsFaultOf text e → template_of text ≡ Err e
law-fault text e some h = by_result (template_of text) refl where
  by_result : (r : Result Template TmplFault) → template_of text ≡ r → template_of text ≡ Err e
  by_result (Ok t) same = absurd (fault_spelled text t e some (law-spelled text t same) h)
  by_result (Err d) same = let first = told text d same in
      same ∙ ap Err (one_fault text d e first.memory some first.fault h)

-- ---- what a call answers, by the law

module _ (text : List ℕ) (r : Result Template TmplFault) (ok : IfOk r (λ t. template_of text ≡ Ok t))
    (err : IfErr r (λ e. e ≢ NoMemory → template_of text ≡ Err e)) where
  pub spelled-result : IfOk r (IsSpelled text)
  spelled-result = by_result r ok where
    by_result : (r : Result Template TmplFault) → IfOk r (λ t. template_of text ≡ Ok t) → IfOk r (IsSpelled text)
    by_result (Ok t) h = law-spelled text t h
    by_result (Err e) h = h

  pub writable-result : IfOk r IsWritable
  unfolding IsSpelled
  writable-result = by_result r ok where
    by_result : (r : Result Template TmplFault) → IfOk r (λ t. template_of text ≡ Ok t) → IfOk r IsWritable
    by_result (Ok t) h =
        let found = law-spelled text t h in
        writable (lexemes text found.0) t (tokens-asm text found.0 (tokens-are text found.0 found.1)) found.2
    by_result (Err e) h = h

  pub left-result : IfErr r (IsFaultOf text)
  unfolding IsFaultOf
  left-result = by_result r err where
    by_result : (r : Result Template TmplFault) → IfErr r (λ e. e ≢ NoMemory → template_of text ≡ Err e)
        → IfErr r (IsFaultOf text)
    by_result (Ok t) h = h
    by_result (Err NoMemory) h = tt
    by_result (Err (Lex e)) h = law-left text (Lex e) (h (λ same. absurd (cc)))
    by_result (Err (Early w)) h = law-left text (Early w) (h (λ same. absurd (cc)))
    by_result (Err (Expected p w)) h = law-left text (Expected p w) (h (λ same. absurd (cc)))

  pub stated-result : IfErr r IsStatedFault
  stated-result = by_result r err where
    by_result : (r : Result Template TmplFault) → IfErr r (λ e. e ≢ NoMemory → template_of text ≡ Err e)
        → IfErr r IsStatedFault
    by_result (Ok t) h = h
    by_result (Err (Early w)) h = (told text (Early w) (h (λ same. absurd (cc)))).shape
    by_result (Err (Lex e)) h = tt
    by_result (Err (Expected p w)) h = tt
    by_result (Err NoMemory) h = tt

  pub only-result : (t : Template) → IsSpelled text t → IsOrNoMemory t r
  only-result t h = by_result r ok err where
    other : (e : TmplFault) → (e ≢ NoMemory → template_of text ≡ Err e) → e ≢ NoMemory → ⊥
    other e k some = let read = law-read text t h in let fault = k some in absurd (cc)

    by_result : (r : Result Template TmplFault) → IfOk r (λ u. template_of text ≡ Ok u)
        → IfErr r (λ e. e ≢ NoMemory → template_of text ≡ Err e) → IsOrNoMemory t r
    by_result (Ok u) k l = let read = law-read text t h in let same : u ≡ t = cc in same
    by_result (Err (Lex e)) k l = absurd (other (Lex e) l (λ same. absurd (cc)))
    by_result (Err (Early w)) k l = absurd (other (Early w) l (λ same. absurd (cc)))
    by_result (Err (Expected p w)) k l = absurd (other (Expected p w) l (λ same. absurd (cc)))
    by_result (Err NoMemory) k l = refl
