-- A statement's form reads exactly what stands for its pieces, and fails at the first token that doesn't.
use Rattle.std.proofs.Common.{◌≡◌, false, List, [], ◌∷◌, ◌++◌, Option, None, Some, Ok, Err, refl, ap, subst, ◌∙◌}
use Rattle.tm_lex.specs.Lines.{Lexeme, ◌>>=◌, fitting}
use Rattle.tm_base.specs.declared.Pos.{Pos}
use Rattle.tm_tmpl_types.specs.declared.template.Want.{Want}
use Rattle.tm_tmpl_types.specs.declared.template.TmplFault.{TmplFault}
use Rattle.tm_tmpl_types.specs.declared.template.TmplFault.TheVariants.{Lex, Early, Expected, NoMemory}
use Rattle.tm_tmpl_line.specs.Readings.{Reading, one, Statement}
use Rattle.tm_tmpl_line.specs.Pieces.{Piece, want_of, Fits, AreFit}
use Rattle.tm_tmpl_line.proofs.PieceLemmas.{is_end, ends_line, IsOpen, fit-end}
use Rattle.tm_tmpl_line.proofs.TokenLemmas.{Reads}

-- what may stand behind tokens, in words of a language of pieces: something does, and each piece that may is called
-- so and has a property
pub record Stuck (Lang : List Piece → Type 0) (before : List Lexeme) (w : Want) (P : Piece → Type 0) : Type 0 where
  pub whole : List Piece
  pub next : Lexeme
  pub behind : List Lexeme
  pub said : Lang whole
  pub fits : AreFit whole (before ++ next ∷ behind)
  pub wants : (done more : List Piece) (q : Piece) → Lang (done ++ q ∷ more) → AreFit done before → (want_of q ≡ w)
      × P q

-- no piece stands at a token
abbrev pub Bars : Lexeme → Piece → Type 0
Bars x q = Fits q x → ⊥

-- the token at a fault, with what stands before it
pub record StuckAt (Lang : List Piece → Type 0) (xs : List Lexeme) (p : Pos) (w : Want) : Type 0 where
  pub before : List Lexeme
  pub x : Lexeme
  pub behind : List Lexeme
  pub split : xs ≡ before ++ x ∷ behind
  pub place : x.0.at ≡ p
  pub stuck : Stuck Lang before w (Bars x)

-- what a fault says of the tokens of a line: a form is cut short only where no line end stands
abbrev pub Blamed : (List Piece → Type 0) → List Lexeme → TmplFault → Type 0
Blamed Lang xs (Expected p w) = StuckAt Lang xs p w
Blamed Lang xs (Early w) = IsOpen ends_line xs
Blamed Lang xs (Lex e) = ⊥
Blamed Lang xs NoMemory = ⊥

-- some statement has these pieces
abbrev pub Said : (Statement → List Piece → Type 0) → List Piece → Type 0
Said L qs = (s : Statement) × L s qs

-- tokens that were read as a statement
pub record Got (L : Statement → List Piece → Type 0) (xs : List Lexeme) (s : Statement) (rest : List Lexeme) : Type 0
  where
    pub pieces : List Piece
    pub front : List Lexeme
    pub whole : xs ≡ front ++ rest
    pub said : L s pieces
    pub fits : AreFit pieces front

-- a statement of a language that some tokens spell
pub record Some_ (L : Statement → List Piece → Type 0) : Type 0 where
  pub s : Statement
  pub pieces : List Piece
  pub xs : List Lexeme
  pub said : L s pieces
  pub fits : AreFit pieces xs

-- a reader reads exactly a language of statements with their pieces
pub record Exact (p : List Lexeme → Reading Statement) (L : Statement → List Piece → Type 0) : Type 0 where
  pub sound : (xs : List Lexeme) (s : Statement) (rest : List Lexeme) → p xs ≡ Ok (s, rest) → Got L xs s rest
  pub complete : (s : Statement) (qs : List Piece) (xs rest : List Lexeme) → L s qs → AreFit qs xs
      → p (xs ++ rest) ≡ Ok (s, rest)
  pub blames : (xs : List Lexeme) (e : TmplFault) → p xs ≡ Err e → Blamed (Said L) xs e
  pub some : Some_ L

-- ---- a piece in front of others

abbrev pub Then : {A : Type 0} → (A → Piece) → (A → Statement → List Piece → Type 0) → Statement → List Piece → Type 0
Then {A} piece L s qs = (a : A) × (rest : List Piece) × (qs ≡ piece a ∷ rest) × L a s rest

module _ {A : Type 0} (w : Want) (read : Lexeme → Option A) (piece : A → Piece) (r : Reads A w read piece)
    (f : A → List Lexeme → Reading Statement) (L : A → Statement → List Piece → Type 0) (exact : (a : A)
    → Exact (f a) (L a))
    (late : (a : A) (xs : List Lexeme) (v : Want) → f a xs ≡ Err (Early v) → is_end (piece a) ≡ false) where
  one_sound : (xs : List Lexeme) (s : Statement) (rest : List Lexeme) → (one w read xs >>= f) ≡ Ok (s, rest)
      → Got (Then piece L) xs s rest
  one_sound [] s rest h = absurd (cc)
  one_sound (x ∷ xs) s rest h = by_read (read x) refl h where
    by_read : (o : Option A) → read x ≡ o → (fitting (Expected x.0.at w) xs o >>= f) ≡ Ok (s, rest)
        → Got (Then piece L) (x ∷ xs) s rest
    by_read None same h = absurd (cc)
    by_read (Some a) same h =
        let inner = (exact a).sound xs s rest h in
        record {
          pieces = piece a ∷ inner.pieces;
          front = x ∷ inner.front;
          whole = ap (λ l. x ∷ l) inner.whole;
          said = (a, inner.pieces, refl, inner.said);
          fits = (r.fits x a same, inner.fits);
        }

  one_complete : (s : Statement) (qs : List Piece) (xs rest : List Lexeme) → Then piece L s qs → AreFit qs xs
      → (one w read (xs ++ rest) >>= f) ≡ Ok (s, rest)
  one_complete s qs [] rest h fit = absurd (subst (λ l. AreFit l []) h.2 fit)
  one_complete s qs (x ∷ xs) rest h fit =
      let fits : AreFit (piece h.0 ∷ h.1) (x ∷ xs) = subst (λ l. AreFit l (x ∷ xs)) h.2 fit in
      ap (λ o. fitting (Expected x.0.at w) (xs ++ rest) o >>= f) (r.reads x h.0 fits.0)
      ∙ (exact h.0).complete s h.1 xs rest h.3 fits.1

  -- the same value was read of a token
  same_value : (x : Lexeme) (a b : A) → read x ≡ Some a → Fits (piece b) x → b ≡ a
  same_value x a b same fit = let other : read x ≡ Some b = r.reads x b fit in cc

  nothing_before : (xs : List Lexeme) (x : Lexeme) → read x ≡ None → Stuck (Said (Then piece L)) [] w (Bars x)
  nothing_before xs x none =
      let more = (exact r.value).some in
      record {
        whole = piece r.value ∷ more.pieces;
        next = r.sample;
        behind = more.xs;
        said = (more.s, (r.value, more.pieces, refl, more.said));
        fits = (r.sample_fits, more.fits);
        wants = wanted;
      } where
        wanted : (done more : List Piece) (q : Piece) → Said (Then piece L) (done ++ q ∷ more) → AreFit done []
            → (want_of q ≡ w) × Bars x q
        wanted (d ∷ done) more q h fit = absurd fit
        wanted [] more q h fit =
            let here : q ≡ piece h.1.0 = (let whole = h.1.2 in cc) in (
              ap want_of here ∙ r.wants h.1.0,
              λ fits. let yes_read = r.reads x h.1.0 (subst (λ v. Fits v x) here fits)
                  in absurd (cc),
            )

  one_more : (x : Lexeme) (before : List Lexeme) (a : A) (v : Want) (P : Piece → Type 0) → read x ≡ Some a
      → Stuck (Said (L a)) before v P → Stuck (Said (Then piece L)) (x ∷ before) v P
  one_more x before a v P same h =
      record {
        whole = piece a ∷ h.whole;
        next = h.next;
        behind = h.behind;
        said = (h.said.0, (a, h.whole, refl, h.said.1));
        fits = (r.fits x a same, h.fits);
        wants = wanted;
      } where
        wanted : (done more : List Piece) (q : Piece) → Said (Then piece L) (done ++ q ∷ more)
            → AreFit done (x ∷ before) → (want_of q ≡ v) × P q
        wanted [] more q k fit = absurd fit
        wanted (d ∷ done) more q k fit =
            let whole = k.1.2 in
            let here : d ≡ piece k.1.0 = cc in
            let rest : k.1.1 ≡ done ++ q ∷ more = cc in
            let value : k.1.0 ≡ a = same_value x a k.1.0 same (subst (λ u. Fits u x) here fit.0) in
            let said : L a k.0 (done ++ q ∷ more) =
            subst (λ b. L b k.0 (done ++ q ∷ more)) value (subst (λ l. L k.1.0 k.0 l) rest k.1.3) in
            h.wants done more q (k.0, said) fit.1

  one_blames : (xs : List Lexeme) (e : TmplFault) → (one w read xs >>= f) ≡ Err e → Blamed (Said (Then piece L)) xs e
  one_blames [] e h = let same : Early w ≡ e = cc in subst (λ d. Blamed (Said (Then piece L)) [] d) same tt
  one_blames (x ∷ xs) e h = by_read (read x) refl h where
    by_fault : (a : A) (d : TmplFault) → read x ≡ Some a → f a xs ≡ Err d → Blamed (Said (L a)) xs d
        → Blamed (Said (Then piece L)) (x ∷ xs) d
    by_fault a (Lex d) same h k = k
    by_fault a (Early v) same h k = (fit-end (piece a) x (r.fits x a same) ∙ late a xs v h, k)
    by_fault a (Expected p v) same h k =
        record {
          before = x ∷ k.before;
          x = k.x;
          behind = k.behind;
          split = ap (λ l. x ∷ l) k.split;
          place = k.place;
          stuck = one_more x k.before a v (Bars k.x) same k.stuck;
        }
    by_fault a NoMemory same h k = k

    by_read : (o : Option A) → read x ≡ o → (fitting (Expected x.0.at w) xs o >>= f) ≡ Err e
        → Blamed (Said (Then piece L)) (x ∷ xs) e
    by_read None same h =
        let fault : Expected x.0.at w ≡ e = cc in
        subst (λ d. Blamed (Said (Then piece L)) (x ∷ xs) d) fault
        (record { before = []; x = x; behind = xs; split = refl; place = refl; stuck = nothing_before xs x same })
    by_read (Some a) same h = by_fault a e same h ((exact a).blames xs e h)

  pub exact-one : Exact (λ xs. one w read xs >>= f) (Then piece L)
  exact-one = record {
    sound = one_sound;
    complete = one_complete;
    blames = one_blames;
    some =
        let more = (exact r.value).some in
        record {
          s = more.s;
          pieces = piece r.value ∷ more.pieces;
          xs = r.sample ∷ more.xs;
          said = (r.value, more.pieces, refl, more.said);
          fits = (r.sample_fits, more.fits);
        };
  }
