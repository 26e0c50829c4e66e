-- What tokens spell, some line spells.
use Rattle.std.proofs.Common.{◌≡◌, true, List, [], ◌∷◌, ◌++◌, subst}
use Rattle.tm_lex.specs.Lines.{Lexeme, is_raw, is_name}
use Rattle.tm_tmpl_types.specs.declared.template.Selector.TheVariants.{All, Hart, Core, Thread}
use Rattle.tm_tmpl_types.specs.declared.template.SlotText.TheVariants.{Emit, Mix}
use Rattle.tm_tmpl_types.specs.declared.template.Template.{Template}
use Rattle.tm_tmpl_line.specs.Readings.{template, passes, window, case_of, body, slot, At}
use Rattle.tm_tmpl_read.specs.Steps.{windows_at, cases_at}
use Rattle.tm_tmpl_line.specs.Pieces.{Piece, opening, fixed, a_name, a_number, asm_line, the_end, pieces_of, Fits}
use Rattle.tm_tmpl_line.specs.Pieces.{AreFit}
use Rattle.tm_tmpl_read.specs.Spelled.{all_pieces, statements_of, Spells}
use Rattle.tm_tmpl_read.specs.Writable.{IsAsm, HaveAsm, IsSmall, IsSayable, AreSayable, IsWritable}

abbrev IsGood : Piece → Type 0
IsGood (a_name n) = is_name n ≡ true
IsGood (a_number n) = IsSmall n
IsGood (asm_line a) = IsAsm a
IsGood _ = Unit {0}

abbrev AreGood : List Piece → Type 0
AreGood [] = Unit {0}
AreGood (q ∷ qs) = IsGood q × AreGood qs

fit_good : (q : Piece) (x : Lexeme) → Fits q x → (is_raw x.0.kind ≡ true → IsAsm x.1) → IsGood q
fit_good (opening p w bytes) x h raw = tt
fit_good (fixed w bytes) x h raw = tt
fit_good (a_name n) x h raw = h.2
fit_good (a_number n) x h raw = h.2
fit_good (asm_line a) x h raw = subst IsAsm h.1 (raw (rw h.0))
fit_good the_end x h raw = tt

fits_good : (qs : List Piece) (xs : List Lexeme) → AreFit qs xs → HaveAsm xs → AreGood qs
fits_good [] xs h raws = tt
fits_good (q ∷ qs) [] h raws = absurd h
fits_good (q ∷ qs) (x ∷ xs) h raws = (fit_good q x h.0 raws.0, fits_good qs xs h.1 raws.1)

split_good : (qs rs : List Piece) → AreGood (qs ++ rs) → AreGood qs × AreGood rs
split_good [] rs h = (tt, h)
split_good (q ∷ qs) rs h = let more = split_good qs rs h.1 in ((h.0, more.0), more.1)

sayable : (s : At) → AreGood (pieces_of s) → IsSayable s.1
unfolding pieces_of
sayable (p, template n) h = h.1.0
sayable (p, passes n) h = h.1.0
sayable (p, window w k n) h = (h.1.0, h.1.1.1.0)
sayable (p, case_of n) h = h.1.0
sayable (p, body All) h = tt
sayable (p, body (Hart n)) h = h.1.1.0
sayable (p, body (Core n)) h = h.1.1.0
sayable (p, body (Thread n)) h = h.1.1.0
sayable (p, slot (Emit a)) h = h.1.0
sayable (p, slot (Mix n a l s b)) h = (h.1.0, h.1.1.1.0, h.1.1.1.1.1.0, h.1.1.1.1.1.1.1.0, h.1.1.1.1.1.1.1.1.1.0)

all_sayable : (ss : List At) → AreGood (all_pieces ss) → AreSayable ss
all_sayable [] h = tt
all_sayable (s ∷ ss) h = let two = split_good (pieces_of s) (all_pieces ss) h in (sayable s two.0, all_sayable ss two.1)

split_sayable : (ss us : List At) → AreSayable (ss ++ us) → AreSayable ss × AreSayable us
split_sayable [] us h = (tt, h)
split_sayable (s ∷ ss) us h = let more = split_sayable ss us h.1 in ((h.0, more.0), more.1)

-- a template that tokens spell is writable
pub writable : (xs : List Lexeme) (t : Template) → HaveAsm xs → Spells xs t → IsWritable t
unfolding Spells IsWritable
writable xs t raws h =
    let good = all_sayable (statements_of h.0 t) (fits_good _ xs h.1 raws) in
    let rest = split_sayable (windows_at t.windows) (cases_at t.cases) good.1.1 in
    (good.0, good.1.0, rest.0, rest.1)
