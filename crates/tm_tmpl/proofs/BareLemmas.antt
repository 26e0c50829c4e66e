-- A printed template is read back apart from its places.
use Rattle.std.proofs.Common.{◌≡◌, List, [], ◌∷◌, ◌++◌, true, refl, ap, subst, ◌∙◌}
use Rattle.tm_base.specs.declared.Pos.{Pos}
use Rattle.tm_lex.specs.Lexing.{tokens_of}
use Rattle.tm_lex.specs.Lines.{lexemes}
use Rattle.tm_tmpl_types.specs.declared.template.Template.{Template}
use Rattle.tm_tmpl_line.specs.Readings.{Statement, template, passes, window, case_of, body, slot, At}
use Rattle.tm_tmpl_read.specs.Grammar.{Before, start, Parts, put, put_all, no_parts, place_after, template_of}
use Rattle.tm_tmpl_read.specs.Steps.{windows_at, cases_at}
use Rattle.tm_tmpl.specs.Printed.{lines_of, printed, nowhere, bare_windows, bare_slots, bare_bodies, bare_cases}
use Rattle.tm_tmpl.specs.Printed.{without_places, ReadsBack}
use Rattle.tm_tmpl.proofs.PrintLemmas.{lines-join}
use Rattle.tm_tmpl_read.specs.Spelled.{statements_of}
use Rattle.tm_tmpl_read.specs.Writable.{AreSayable, IsWritable}
use Rattle.tm_tmpl_line.proofs.StatementLemmas.{head_of}
use Rattle.tm_tmpl_read.proofs.LineLemmas.{may}
use Rattle.tm_tmpl_read.proofs.TextLemmas.{AreAllowed, text-complete}
use Rattle.tm_tmpl_read.proofs.TreeLemmas.{all-allowed}
use Rattle.tm_tmpl_read.proofs.LawLemmas.{made-whole}
use Rattle.tm_tmpl.proofs.ReadBackLemmas.{said, printed-read}

-- ---- statements that say the same make the same, apart from places

record Alike (x y : Parts) : Type 0 where
  same_slots : bare_slots x.slots_left ≡ bare_slots y.slots_left
  same_bodies : bare_bodies x.bodies_left ≡ bare_bodies y.bodies_left
  same_windows : bare_windows x.windows_left ≡ bare_windows y.windows_left
  same_name : x.made.name ≡ y.made.name
  same_passes : x.made.passes ≡ y.made.passes
  same_made : bare_windows x.made.windows ≡ bare_windows y.made.windows
  same_cases : bare_cases x.made.cases ≡ bare_cases y.made.cases

alike_put : (s : Statement) (p q : Pos) (x y : Parts) → Alike x y → Alike (put (p, s) x) (put (q, s) y)
alike_put (template n) p q x y h = record {
  same_slots = h.same_slots;
  same_bodies = h.same_bodies;
  same_windows = h.same_windows;
  same_name = refl;
  same_passes = h.same_passes;
  same_made =
      h.same_windows;
  same_cases = h.same_cases;
}
alike_put (passes n) p q x y h = record {
  same_slots = h.same_slots;
  same_bodies = h.same_bodies;
  same_windows = h.same_windows;
  same_name = h.same_name;
  same_passes = refl;
  same_made = h.same_made;
  same_cases =
      h.same_cases;
}
alike_put (window w k n) p q x y h = record {
  same_slots = h.same_slots;
  same_bodies = h.same_bodies;
  same_windows = ap (λ ws. record { at = nowhere; number = w; kind = k; lines = n } ∷ ws) h.same_windows;
  same_name =
      h.same_name;
  same_passes = h.same_passes;
  same_made = h.same_made;
  same_cases = h.same_cases;
}
alike_put (case_of n) p q x y h = record {
  same_slots = h.same_slots;
  same_bodies = refl;
  same_windows = h.same_windows;
  same_name = h.same_name;
  same_passes = h.same_passes;
  same_made = h.same_made;
  same_cases =
      rw (h.same_bodies, h.same_cases);
}
alike_put (body s) p q x y h = record {
  same_slots = refl;
  same_bodies = rw (h.same_slots, h.same_bodies);
  same_windows = h.same_windows;
  same_name = h.same_name;
  same_passes = h.same_passes;
  same_made =
      h.same_made;
  same_cases = h.same_cases;
}
alike_put (slot d) p q x y h = record {
  same_slots = ap (λ ds. record { at = nowhere; what = d } ∷ ds) h.same_slots;
  same_bodies = h.same_bodies;
  same_windows = h.same_windows;
  same_name = h.same_name;
  same_passes =
      h.same_passes;
  same_made = h.same_made;
  same_cases = h.same_cases;
}

alike_self : (x : Parts) → Alike x x
alike_self x = record {
  same_slots = refl;
  same_bodies = refl;
  same_windows = refl;
  same_name = refl;
  same_passes = refl;
  same_made = refl;
  same_cases = refl;
}

alike_all : (ss us : List At) (x : Parts) → said ss ≡ said us → Alike (put_all ss x) (put_all us x)
unfolding put_all
alike_all [] [] x h = alike_self x
alike_all [] (u ∷ us) x h = absurd (cc)
alike_all (s ∷ ss) [] x h = absurd (cc)
alike_all ((p, s) ∷ ss) ((q, u) ∷ us) x h =
    let here : s ≡ u = cc in
    let rest : said ss ≡ said us = cc in
    subst (λ v. Alike (put (p, s) (put_all ss x)) (put (q, v) (put_all us x))) here
    (alike_put s p q (put_all ss x) (put_all us x) (alike_all ss us x rest))

bare_alike : (x y : Parts) → Alike x y → without_places x.made ≡ without_places y.made
unfolding without_places
bare_alike x y h = rw (h.same_name, h.same_passes, h.same_made, h.same_cases)

-- ---- the whole

-- statements that say the same may stand where the others may
allowed_alike : (ss us : List At) (b : Before) → said ss ≡ said us → AreAllowed b us → AreAllowed b ss
allowed_alike [] [] b h k = k
allowed_alike [] (u ∷ us) b h k = absurd (cc)
allowed_alike (s ∷ ss) [] b h k = absurd (cc)
allowed_alike (s ∷ ss) (u ∷ us) b h k =
    let here : u.1 ≡ s.1 = cc in
    let rest : said ss ≡ said us = cc in (
      subst (λ v. may b (head_of v) ≡ true) here k.0,
      allowed_alike ss us (place_after s.1) rest (subst (λ v. AreAllowed (place_after v) us) here k.1),
    )

sayable_join : (ss us : List At) → AreSayable ss → AreSayable us → AreSayable (ss ++ us)
sayable_join [] us h k = k
sayable_join (s ∷ ss) us h k = (h.0, sayable_join ss us h.1 k)

abbrev all_of : Template → List At
all_of t = statements_of nowhere t

all_lines : (t : Template) → printed t ≡ lines_of (all_of t)
unfolding printed lines_of
all_lines t = rw (lines-join (windows_at t.windows) (cases_at t.cases))

pub reads-back : (t : Template) → IsWritable t → ReadsBack (printed t) t
unfolding IsWritable template_of tokens_of without_places
reads-back t h =
    let good : AreSayable (all_of t) = (h.0, (h.1, sayable_join (windows_at t.windows) (cases_at t.cases) h.2 h.3)) in
    let got = printed-read (all_of t) good (lines_of (all_of t)) [] 1 0 refl refl in
    let allowed = allowed_alike got.got (all_of t) start got.same (all-allowed nowhere t) in
    let read = text-complete got.got start (lexemes (lines_of (all_of t)) got.ts) allowed got.fits in
    rw (all_lines t) (
      (put_all got.got (no_parts (lines_of (all_of t)))).made,
      rw (got.lexed, read),
      bare_alike _ _ (alike_all got.got (all_of t) (no_parts (lines_of (all_of t))) got.same) ∙ ap without_places
          (made-whole (lines_of (all_of t)) nowhere t),
    )
