-- Statements that may stand as they do are those of a template.
use Rattle.std.proofs.Common.{◌≡◌, ℕ, true, List, [], ◌∷◌, ◌++◌, refl, sym, ap, ◌∙◌, append_assoc}
use Rattle.std.proofs.lemmas.Bool.{true≢false}
use Rattle.tm_base.specs.declared.Pos.{Pos}
use Rattle.tm_tmpl_types.specs.declared.template.SlotDecl.{SlotDecl}
use Rattle.tm_tmpl_types.specs.declared.template.BodyDecl.{BodyDecl}
use Rattle.tm_tmpl_types.specs.declared.template.CaseDecl.{CaseDecl}
use Rattle.tm_tmpl_types.specs.declared.template.WindowDecl.{WindowDecl}
use Rattle.tm_tmpl_types.specs.declared.template.SlotText.{SlotText}
use Rattle.tm_tmpl_types.specs.declared.template.SlotText.TheVariants.{Emit, Mix}
use Rattle.tm_tmpl_types.specs.declared.template.Template.{Template}
use Rattle.tm_tmpl_line.specs.Readings.{Statement, template, passes, window, case_of, body, slot, At}
use Rattle.tm_tmpl_read.specs.Grammar.{Before, start, head, windows, cases, slots, place_after}
use Rattle.tm_tmpl_read.specs.Steps.{windows_at, slots_at, bodies_at, cases_at}
use Rattle.tm_tmpl_read.specs.Spelled.{statements_of}
use Rattle.tm_tmpl_line.proofs.StatementLemmas.{head_of}
use Rattle.tm_tmpl_read.proofs.LineLemmas.{may}
use Rattle.tm_tmpl_read.proofs.TextLemmas.{AreAllowed}

-- ---- from statements to a template

-- the parts of a template from a place on
abbrev pub Tree : Before → List At → Type 0
Tree start ss = (p : Pos) × (t : Template) × (ss ≡ statements_of p t)
Tree head ss = (q : Pos) × (n : ℕ) × (ws : List WindowDecl) × (cs : List CaseDecl)
    × (ss ≡ (q, passes n) ∷ (windows_at ws ++ cases_at cs))
Tree windows ss = (ws : List WindowDecl) × (cs : List CaseDecl) × (ss ≡ windows_at ws ++ cases_at cs)
Tree cases ss = (bs : List BodyDecl) × (cs : List CaseDecl) × (ss ≡ bodies_at bs ++ cases_at cs)
Tree slots ss = (ds : List SlotDecl) × (bs : List BodyDecl) × (cs : List CaseDecl)
    × (ss ≡ slots_at ds ++ (bodies_at bs ++ cases_at cs))

grow : (b : Before) (p : Pos) (s : Statement) (ss : List At) → may b (head_of s) ≡ true → Tree (place_after s) ss
    → Tree b ((p, s) ∷ ss)
grow start p (template n) ss ok r = (
  p,
  record {
    name = n;
    passes = r.1;
    passes_at = r.0;
    windows = r.2;
    cases = r.3;
    end = record { line = 1; col = 1 };
  },
  ap (λ us. (p, template n) ∷ us) r.4,
)
grow head p (passes n) ss ok r = (p, n, r.0, r.1, ap (λ us. (p, passes n) ∷ us) r.2)
grow windows p (window w k n) ss ok r = (
  record { at = p; number = w; kind = k; lines = n } ∷ r.0,
  r.1,
  ap (λ us. (p, window w k n) ∷ us) r.2,
)
grow windows p (case_of n) ss ok r = (
  [],
  record { at = p; name = n; bodies = r.0 } ∷ r.1,
  ap (λ us. (p, case_of n) ∷ us) r.2,
)
grow cases p (case_of n) ss ok r = (
  [],
  record { at = p; name = n; bodies = r.0 } ∷ r.1,
  ap (λ us. (p, case_of n) ∷ us) r.2,
)
grow cases p (body s) ss ok r = (
  record { at = p; whom = s; slots = r.0 } ∷ r.1,
  r.2,
  ap (λ us. (p, body s) ∷ us) (r.3 ∙ sym (append_assoc (slots_at r.0) (bodies_at r.1) (cases_at r.2))),
)
grow slots p (case_of n) ss ok r = (
  [],
  [],
  record { at = p; name = n; bodies = r.0 } ∷ r.1,
  ap (λ us. (p, case_of n) ∷ us) r.2,
)
grow slots p (body s) ss ok r = (
  [],
  record { at = p; whom = s; slots = r.0 } ∷ r.1,
  r.2,
  ap (λ us. (p, body s) ∷ us) (r.3 ∙ sym (append_assoc (slots_at r.0) (bodies_at r.1) (cases_at r.2))),
)
grow slots p (slot (Emit a)) ss ok r = (
  record { at = p; what = Emit a } ∷ r.0,
  r.1,
  r.2,
  ap (λ us. (p, slot (Emit a)) ∷ us) r.3,
)
grow slots p (slot (Mix n a l s b)) ss ok r = (
  record { at = p; what = Mix n a l s b } ∷ r.0,
  r.1,
  r.2,
  ap (λ us. (p, slot (Mix n a l s b)) ∷ us) r.3,
)
grow _ p (slot (Emit a)) ss ok r = absurd (true≢false (sym ok))
grow _ p (slot (Mix n a l s b)) ss ok r = absurd (true≢false (sym ok))
grow _ p _ ss ok r = absurd (true≢false (sym ok))

pub tree : (ss : List At) (b : Before) → AreAllowed b ss → Tree b ss
tree [] start h = absurd (cc)
tree [] head h = absurd (cc)
tree [] windows h = ([], [], refl)
tree [] cases h = ([], [], refl)
tree [] slots h = ([], [], [], refl)
tree ((p, s) ∷ ss) b h = grow b p s ss h.0 (tree ss (place_after s) h.1)

-- ---- the statements of a template may stand as they do

record Anywhere (ss : List At) : Type 0 where
  behind_windows : AreAllowed windows ss
  behind_cases : AreAllowed cases ss
  behind_slots : AreAllowed slots ss

slot_allowed : (s : SlotText) → may slots (head_of (slot s)) ≡ true
slot_allowed (Emit a) = refl
slot_allowed (Mix n a l s b) = refl

slots_allowed : (ds : List SlotDecl) (rest : List At) → AreAllowed slots rest → AreAllowed slots (slots_at ds ++ rest)
slots_allowed [] rest h = h
slots_allowed (d ∷ ds) rest h = (slot_allowed d.what, slots_allowed ds rest h)

bodies_allowed : (bs : List BodyDecl) (rest : List At) → Anywhere rest → AreAllowed cases (bodies_at bs ++ rest)
    × AreAllowed slots (bodies_at bs ++ rest)
bodies_allowed [] rest h = (h.behind_cases, h.behind_slots)
bodies_allowed (b ∷ bs) rest h =
    let more = slots_allowed b.slots (bodies_at bs ++ rest) (bodies_allowed bs rest h).1 in
    rw (append_assoc (slots_at b.slots) (bodies_at bs) rest) ((refl, more), (refl, more))

cases_allowed : (cs : List CaseDecl) → Anywhere (cases_at cs)
cases_allowed [] = record { behind_windows = refl; behind_cases = refl; behind_slots = refl }
cases_allowed (c ∷ cs) =
    let more = (bodies_allowed c.bodies (cases_at cs) (cases_allowed cs)).0 in
    record { behind_windows = (refl, more); behind_cases = (refl, more); behind_slots = (refl, more) }

windows_allowed : (ws : List WindowDecl) (rest : List At) → AreAllowed windows rest
    → AreAllowed windows (windows_at ws ++ rest)
windows_allowed [] rest h = h
windows_allowed (w ∷ ws) rest h = (refl, windows_allowed ws rest h)

pub all-allowed : (p : Pos) (t : Template) → AreAllowed start (statements_of p t)
all-allowed p t = (refl, (refl, windows_allowed t.windows (cases_at t.cases) (cases_allowed t.cases).behind_windows))
