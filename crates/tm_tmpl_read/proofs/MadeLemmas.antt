-- The template that statements make.
use Rattle.std.proofs.Common.{◌≡◌, ◌≤◌, ℕ, zero, suc, List, [], ◌∷◌, ◌++◌, length, All, refl, ap, ◌∙◌, arith}
use Rattle.std.proofs.Common.{append-nil, append_assoc}
use Rattle.tm_base.specs.declared.Pos.{Pos}
use Rattle.tm_lex.specs.declared.token.Token.{Token}
use Rattle.tm_lex.specs.Tiling.{AreInOrder}
use Rattle.tm_lex.specs.Lines.{IsSpan}
use Rattle.tm_tmpl_types.specs.declared.template.SlotDecl.{SlotDecl}
use Rattle.tm_tmpl_types.specs.declared.template.BodyDecl.{BodyDecl}
use Rattle.tm_tmpl_types.specs.declared.template.CaseDecl.{CaseDecl}
use Rattle.tm_tmpl_types.specs.declared.template.WindowDecl.{WindowDecl}
use Rattle.tm_tmpl_line.specs.Readings.{template, passes, At}
use Rattle.tm_tmpl_read.specs.Grammar.{Parts, put_all, no_parts, end_of}
use Rattle.tm_tmpl_read.specs.Steps.{windows_at, slots_at, bodies_at, cases_at}
use Rattle.tm_lex.proofs.SpanLemmas.{order_end}

put-slots : (ds : List SlotDecl) (ss : List At) (r : Parts)
    → put_all (slots_at ds ++ ss) r ≡ record (put_all ss r) { slots_left = ds ++ (put_all ss r).slots_left }
unfolding put_all
put-slots [] ss r = refl
put-slots (d ∷ ds) ss r = rw (put-slots ds ss r)

-- behind these parts no slot is left, and no body, and the windows and the template are those of others with these
-- cases
record Behind (q p : Parts) (bs : List BodyDecl) : Type 0 where
  no_slots : q.slots_left ≡ []
  bodies : q.bodies_left ≡ bs ++ p.bodies_left
  same_windows : q.windows_left ≡ p.windows_left
  same_made : q.made ≡ p.made

put-bodies : (bs : List BodyDecl) (ss : List At) (r : Parts) → (put_all ss r).slots_left ≡ []
    → Behind (put_all (bodies_at bs ++ ss) r) (put_all ss r) bs
unfolding put_all
put-bodies [] ss r none = record { no_slots = none; bodies = refl; same_windows = refl; same_made = refl }
put-bodies (b ∷ bs) ss r none =
    let more = put-bodies bs ss r none in
    rw (append_assoc (slots_at b.slots) (bodies_at bs) ss, put-slots b.slots (bodies_at bs ++ ss) r)
    (record {
      no_slots = refl;
      bodies = rw (more.no_slots, append-nil b.slots, more.bodies);
      same_windows = more.same_windows;
      same_made = more.same_made;
    })

record After (q p : Parts) (cs : List CaseDecl) : Type 0 where
  no_slots : q.slots_left ≡ []
  no_bodies : q.bodies_left ≡ []
  same_windows : q.windows_left ≡ p.windows_left
  cases : q.made ≡ record p.made { cases = cs ++ p.made.cases }

put-cases : (cs : List CaseDecl) (ss : List At) (r : Parts) → (put_all ss r).slots_left ≡ []
    → (put_all ss r).bodies_left ≡ [] → After (put_all (cases_at cs ++ ss) r) (put_all ss r) cs
unfolding put_all
put-cases [] ss r no_slots no_bodies = record {
  no_slots = no_slots;
  no_bodies = no_bodies;
  same_windows = refl;
  cases = refl;
}
put-cases (c ∷ cs) ss r no_slots no_bodies =
    let more = put-cases cs ss r no_slots no_bodies in
    let inner = put-bodies c.bodies (cases_at cs ++ ss) r more.no_slots in
    rw (append_assoc (bodies_at c.bodies) (cases_at cs) ss)
    (record {
      no_slots = inner.no_slots;
      no_bodies = refl;
      same_windows = inner.same_windows ∙ more.same_windows;
      cases = rw (inner.bodies, more.no_bodies, append-nil c.bodies, inner.same_made, more.cases);
    })

put-windows : (ws : List WindowDecl) (ss : List At) (r : Parts)
    → ((put_all (windows_at ws ++ ss) r).windows_left ≡ ws ++ (put_all ss r).windows_left)
    × ((put_all (windows_at ws ++ ss) r).made ≡ (put_all ss r).made)
unfolding put_all
put-windows [] ss r = (refl, refl)
put-windows (w ∷ ws) ss r = let more = put-windows ws ss r in (ap (λ vs. w ∷ vs) more.0, more.1)

pub made-is : (text name : List ℕ) (n : ℕ) (p q : Pos) (ws : List WindowDecl) (cs : List CaseDecl)
    → (put_all ((p, template name) ∷ (q, passes n) ∷ (windows_at ws ++ (cases_at cs ++ []))) (no_parts text)).made
    ≡ record { name = name; passes = n; passes_at = q; windows = ws; cases = cs; end = end_of text }
unfolding put_all
made-is text name n p q ws cs =
    let inner = put-cases cs [] (no_parts text) refl refl in
    let outer = put-windows ws (cases_at cs ++ []) (no_parts text) in
    rw (outer.0, outer.1, inner.same_windows, inner.cases, append-nil ws, append-nil cs)
