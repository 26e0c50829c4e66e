-- A line is read exactly where its tokens stand for its pieces, and it is accepted.
use Rattle.std.proofs.Common.{◌≡◌, ◌∙◌, ◌<◌, ◌^◌, ◌*◌, ℕ, true}
use Rattle.std.proofs.Common.{zero, suc, refl, sym, ap, ap₂, subst, arith, List, [], ◌∷◌, ◌++◌, length, Option, Some}
use Rattle.std.proofs.Common.{None, Ok, nat_le, codes}
use Rattle.std.proofs.Common.{append_assoc}
use Rattle.std.proofs.lemmas.Bool.{and_parts, ltb-true, lt-ltb, leb-true, le-leb}
use Rattle.tm_table.specs.declared.instr.Instr.{Instr}
use Rattle.tm_plan_cases.specs.declared.cases.Cases.{Cases}
use Rattle.tm_plan_cases.specs.declared.cases.Stream.{Stream}
use Rattle.tm_plan_map.specs.Slots.{load_width, store_width}
use Rattle.tm_plan_script.specs.declared.faults.FaultLine.{FaultLine}
use Rattle.tm_plan_script.specs.declared.faults.Action.{Action}
use Rattle.tm_plan_script.specs.declared.faults.Action.TheVariants as act
use Rattle.tm_plan_cases.specs.Streams.{stream_in}
use Rattle.tm_plan_script.specs.Accepted.{instr_at, slot_in, Suits, IsAccepted}
use Rattle.std.specs.List.{slice_get}
use Rattle.tm_fault.specs.declared.fault.Want2.TheVariants as want
use Rattle.tm_fault.specs.declared.line.Kind.{Kind}
use Rattle.tm_fault.specs.declared.line.Kind.TheVariants as kind
use Rattle.tm_lex.specs.Lines.{Lexeme, ◌>>=◌, line_end}
use Rattle.tm_fault.specs.Script.{one, named}
use Rattle.tm_fault.specs.Script.{named_pass, suits, kind_reading}
use Rattle.tm_fault.specs.Script.{xor, with_number, number_reading, action_reading, slot_count}
use Rattle.tm_fault.specs.Script.{slot_reading, line_reading}
use Rattle.tm_fault.specs.Spelled.{Piece, AreFit, pass_piece, action_pieces, line_pieces}
use Rattle.tm_fault.specs.Spelled.Piece.{fixed, a_number, the_end}
use Rattle.tm_fault.proofs.Reading.{ok-same, bound}
use Rattle.tm_fault.proofs.Reading.{one_read, Got, got_both, fit_parts}
use Rattle.tm_fault.proofs.Tokens.{end_fits, fits_end, named_got, named_reads, pass_got}
use Rattle.tm_fault.proofs.Tokens.{pass_reads, KindAt, kind_read, xor_read, xor_reads, numbered_is, kind_reads}
use Rattle.std.proofs.lemmas.Option.{none-some}

-- ---- an action

-- what is read of a slot's action
pub record ActionAt (slot : Option Instr) (xs : List Lexeme) (a : Action) (rest : List Lexeme) : Type 0 where
  pub got : Got (action_pieces a) xs rest
  pub instr : Instr
  pub slot_is : slot ≡ Some instr
  pub suits_it : Suits instr a

-- the same, where the action is another spelling of it
as_action : (slot : Option Instr) (xs : List Lexeme) (b a : Action) (rest : List Lexeme) → b ≡ a
    → ActionAt slot xs b rest → ActionAt slot xs a rest
as_action slot xs b a rest same h = subst (λ t. ActionAt slot xs t rest) same h

action_behind : (slot : Option Instr) (xs mid : List Lexeme) (k : Kind) (i : Instr) (a : Action) (rest : List Lexeme)
    → KindAt slot xs k i mid
    → number_reading k i mid ≡ Ok (a, rest) → ActionAt slot xs a rest
unfolding number_reading
action_behind slot xs mid kind.Result i a rest at e =
    let num = numbered_is act.Result (xor (2 ^ 64) mid) a rest e in
    let x = xor_read (2 ^ 64) mid num.0 rest num.2 in
    let fine = and_parts (nat_le 1 i.rd) (nat_le i.rd 27) at.suits_it in
    as_action slot xs (act.Result num.0) a rest num.1 (record {
      got = record {
        front = at.x ∷ x.x ∷ [];
        whole = at.whole
            ∙ ap (λ t. at.x ∷ t) x.whole;
        fit = (at.fits, (x.fits, tt));
      };
      instr = i;
      slot_is = at.slot_is;
      suits_it = (leb-true 1 i.rd fine.0, leb-true i.rd 27 fine.1, x.some, x.low);
    })
action_behind slot xs mid kind.Loaded i a rest at e =
    let num = numbered_is act.Loaded (xor (2 ^ (8 * load_width i.op)) mid) a rest e in
    let x = xor_read (2 ^ (8 * load_width i.op)) mid num.0 rest num.2 in
    as_action slot xs (act.Loaded num.0) a rest num.1 (record {
      got = record {
        front = at.x ∷ x.x ∷ [];
        whole = at.whole
            ∙ ap (λ t. at.x ∷ t) x.whole;
        fit = (at.fits, (x.fits, tt));
      };
      instr = i;
      slot_is = at.slot_is;
      suits_it = (ltb-true 0 (load_width i.op) at.suits_it, x.some, x.low);
    })
action_behind slot xs mid kind.Stored i a rest at e =
    let num = numbered_is act.Stored (xor (2 ^ (8 * store_width i.op)) mid) a rest e in
    let x = xor_read (2 ^ (8 * store_width i.op)) mid num.0 rest num.2 in
    as_action slot xs (act.Stored num.0) a rest num.1 (record {
      got = record {
        front = at.x ∷ x.x ∷ [];
        whole = at.whole
            ∙ ap (λ t. at.x ∷ t) x.whole;
        fit = (at.fits, (x.fits, tt));
      };
      instr = i;
      slot_is = at.slot_is;
      suits_it = (ltb-true 0 (store_width i.op) at.suits_it, x.some, x.low);
    })
action_behind slot xs mid kind.Drop i a rest at e =
    let same = ok-same (act.Drop, mid) (a, rest) e in
    as_action slot xs act.Drop a rest (ap (λ t. t.0) same) (record {
      got = record { front = at.x ∷ []; whole = at.whole ∙ ap (λ t. at.x ∷ t.1) same; fit = (at.fits, tt) };
      instr = i;
      slot_is = at.slot_is;
      suits_it = ltb-true 0 (store_width i.op) at.suits_it;
    })
action_behind slot xs mid kind.Turn i a rest at e =
    let same = ok-same (act.Turn, mid) (a, rest) e in
    as_action slot xs act.Turn a rest (ap (λ t. t.0) same) (record {
      got = record { front = at.x ∷ []; whole = at.whole ∙ ap (λ t. at.x ∷ t.1) same; fit = (at.fits, tt) };
      instr = i;
      slot_is = at.slot_is;
      suits_it = at.suits_it;
    })

pub action_got : (slot : Option Instr) (xs : List Lexeme) (a : Action) (rest : List Lexeme)
    → action_reading slot xs ≡ Ok (a, rest) → ActionAt slot xs a rest
unfolding action_reading
action_got slot xs a rest e =
    let parts = bound (kind_reading slot xs) (λ k mid. number_reading k.0 k.1 mid) a rest e in
    action_behind slot xs parts.mid parts.a.0 parts.a.1 a rest
    (kind_read slot xs parts.a.0 parts.a.1 parts.mid parts.first) parts.second

pub action_reads : (i : Instr) (a : Action) (xs rest : List Lexeme) → AreFit (action_pieces a) xs → Suits i a
    → action_reading (Some i) (xs ++ rest) ≡ Ok (a, rest)
unfolding action_reading number_reading
action_reads i (act.Result n) [] rest f s = absurd f
action_reads i (act.Result n) (x ∷ []) rest f s = absurd f.1
action_reads i (act.Result n) (x ∷ y ∷ []) rest f s =
    let fine : suits kind.Result i ≡ true = rw (le-leb 1 i.rd s.0, le-leb i.rd 27 s.1) refl in
    ap (λ r. r >>= (λ k mid. number_reading k.0 k.1 mid)) (kind_reads kind.Result i x (y ∷ rest) f.0 fine)
    ∙ ap (with_number act.Result) (xor_reads (2 ^ 64) n y rest f.1.0 s.2 s.3)
action_reads i (act.Result n) (x ∷ y ∷ z ∷ xs) rest f s = absurd f.1.1
action_reads i (act.Loaded n) [] rest f s = absurd f
action_reads i (act.Loaded n) (x ∷ []) rest f s = absurd f.1
action_reads i (act.Loaded n) (x ∷ y ∷ []) rest f s =
    ap (λ r. r >>= (λ k mid. number_reading k.0 k.1 mid))
    (kind_reads kind.Loaded i x (y ∷ rest) f.0 (lt-ltb 0 (load_width i.op) s.0))
    ∙ ap (with_number act.Loaded) (xor_reads (2 ^ (8 * load_width i.op)) n y rest f.1.0 s.1 s.2)
action_reads i (act.Loaded n) (x ∷ y ∷ z ∷ xs) rest f s = absurd f.1.1
action_reads i (act.Stored n) [] rest f s = absurd f
action_reads i (act.Stored n) (x ∷ []) rest f s = absurd f.1
action_reads i (act.Stored n) (x ∷ y ∷ []) rest f s =
    ap (λ r. r >>= (λ k mid. number_reading k.0 k.1 mid))
    (kind_reads kind.Stored i x (y ∷ rest) f.0 (lt-ltb 0 (store_width i.op) s.0))
    ∙ ap (with_number act.Stored) (xor_reads (2 ^ (8 * store_width i.op)) n y rest f.1.0 s.1 s.2)
action_reads i (act.Stored n) (x ∷ y ∷ z ∷ xs) rest f s = absurd f.1.1
action_reads i act.Drop [] rest f s = absurd f
action_reads i act.Drop (x ∷ []) rest f s =
    ap (λ r. r >>= (λ k mid. number_reading k.0 k.1 mid))
    (kind_reads kind.Drop i x rest f.0 (lt-ltb 0 (store_width i.op) s))
action_reads i act.Drop (x ∷ y ∷ xs) rest f s = absurd f.1
action_reads i act.Turn [] rest f s = absurd f
action_reads i act.Turn (x ∷ []) rest f s = ap (λ r. r >>= (λ k mid. number_reading k.0 k.1 mid))
    (kind_reads kind.Turn i x rest f.0 s)
action_reads i act.Turn (x ∷ y ∷ xs) rest f s = absurd f.1

-- ---- a line

end_got : (xs : List Lexeme) (u : Unit {0}) (rest : List Lexeme) → one want.LineEnd line_end xs ≡ Ok (u, rest)
    → Got (the_end ∷ []) xs rest
end_got xs u rest e =
    let at = one_read want.LineEnd line_end xs u rest e in
    record { front = at.x ∷ []; whole = at.whole; fit = (end_fits at.x u at.is, tt) }

end_reads : (xs rest : List Lexeme) → AreFit (the_end ∷ []) xs → one want.LineEnd line_end (xs ++ rest) ≡ Ok (tt, rest)
end_reads [] rest f = absurd f
end_reads (x ∷ []) rest f = rw (fits_end x f.0) refl
end_reads (x ∷ y ∷ xs) rest f = absurd f.1

-- the pieces of a line's slot and action
abbrev slot_pieces : FaultLine → List Piece
slot_pieces l = (fixed (codes "slot") ∷ a_number l.slot ∷ []) ++ (action_pieces l.action ++ the_end ∷ [])

-- a line whose slot and action were read
pub record SlotGot (stream : Option Stream) (before l : FaultLine) (xs rest : List Lexeme) : Type 0 where
  pub got : Got (slot_pieces l) xs rest
  pub instr : Instr
  pub slot_is : slot_in stream l.slot ≡ Some instr
  pub suits_it : Suits instr l.action
  pub same : l ≡ record before { slot = l.slot; action = l.action }

slot_got : (stream : Option Stream) (before l : FaultLine) (xs rest : List Lexeme)
    → slot_reading stream before xs ≡ Ok (l, rest) → SlotGot stream before l xs rest
unfolding slot_reading
slot_got stream before l xs rest e =
    let p = bound (named (codes "slot") (slot_count stream) xs)
    (λ slot xs. action_reading (slot_in stream slot) xs >>=
    (λ action xs. one want.LineEnd line_end xs >>=
    (λ _ xs. Ok (record before { slot = slot; action = action }, xs)))) l rest e in
    let q = bound (action_reading (slot_in stream p.a) p.mid)
    (λ action xs. one want.LineEnd line_end xs >>=
    (λ _ xs. Ok (record before { slot = p.a; action = action }, xs))) l rest p.second in
    let r = bound (one want.LineEnd line_end q.mid)
    (λ _ xs. Ok (record before { slot = p.a; action = q.a }, xs)) l rest q.second in
    let same = ok-same (record before { slot = p.a; action = q.a }, r.mid) (l, rest) r.second in
    let number_at = named_got (codes "slot") (slot_count stream) xs p.a p.mid p.first in
    let action_at = action_got (slot_in stream p.a) p.mid q.a q.mid q.first in
    let end_at = end_got q.mid r.a r.mid r.first in
    let made : FaultLine = record before { slot = p.a; action = q.a } in
    let whole : SlotGot stream before made xs r.mid = record {
      got = got_both (fixed (codes "slot") ∷ a_number p.a ∷ [])
          (action_pieces q.a ++ the_end ∷ []) xs p.mid r.mid number_at.0
          (got_both (action_pieces q.a) (the_end ∷ []) p.mid q.mid r.mid action_at.got end_at);
      instr = action_at.instr;
      slot_is = action_at.slot_is;
      suits_it = action_at.suits_it;
      same = refl;
    } in
    subst (λ (t : FaultLine × List Lexeme). SlotGot stream before t.0 xs t.1) same whole

-- what is read of a line
pub record LineGot (cases : Cases) (l : FaultLine) (xs rest : List Lexeme) : Type 0 where
  pub got : Got (line_pieces l) xs rest
  pub accepted : IsAccepted cases l

pub line_got : (cases : Cases) (xs : List Lexeme) (l : FaultLine) (rest : List Lexeme)
    → line_reading cases xs ≡ Ok (l, rest) → LineGot cases l xs rest
unfolding line_reading line_pieces
line_got cases xs l rest e =
    let p = bound (named (codes "hart") cases.harts xs)
    (λ hart xs. named (codes "case") (length cases.cases) xs >>=
    (λ case xs. named_pass cases.passes xs >>= (λ pass xs.
    slot_reading (stream_in cases case hart)
    (record { hart = hart; case = case; pass = pass; slot = 0; action = act.Drop }) xs))) l rest e in
    let q = bound (named (codes "case") (length cases.cases) p.mid)
    (λ case xs. named_pass cases.passes xs >>= (λ pass xs.
    slot_reading (stream_in cases case p.a)
    (record { hart = p.a; case = case; pass = pass; slot = 0; action = act.Drop }) xs)) l rest p.second in
    let r = bound (named_pass cases.passes q.mid) (λ pass xs.
    slot_reading (stream_in cases q.a p.a)
    (record { hart = p.a; case = q.a; pass = pass; slot = 0; action = act.Drop }) xs) l rest q.second in
    let before : FaultLine = record { hart = p.a; case = q.a; pass = r.a; slot = 0; action = act.Drop } in
    let hart_at = named_got (codes "hart") cases.harts xs p.a p.mid p.first in
    let case_at = named_got (codes "case") (length cases.cases) p.mid q.a q.mid q.first in
    let pass_at = pass_got cases.passes q.mid r.a r.mid r.first in
    let slot_at = slot_got (stream_in cases q.a p.a) before l r.mid rest r.second in
    let made : FaultLine = record before { slot = l.slot; action = l.action } in
    let whole : LineGot cases made xs rest = record {
      got = got_both (fixed (codes "hart") ∷ a_number p.a ∷ []) _ xs p.mid rest hart_at.0
          (got_both (fixed (codes "case") ∷ a_number q.a ∷ []) _ p.mid q.mid rest case_at.0
          (got_both (fixed (codes "pass") ∷ pass_piece r.a ∷ [])
          (slot_pieces l) q.mid r.mid rest pass_at.0 slot_at.got));
      accepted = record {
        hart = hart_at.1;
        case = case_at.1;
        pass = pass_at.1;
        instr = slot_at.instr;
        slot = slot_at.slot_is;
        suits = slot_at.suits_it;
      };
    } in
    subst (λ (t : FaultLine). LineGot cases t xs rest) (sym slot_at.same) whole

get_low : (ws : List ℕ) (n : ℕ) (i : Instr) → instr_at (slice_get ws n) ≡ Some i → n < length ws
get_low [] n i e = absurd (none-some i e)
get_low (w ∷ ws) zero i e = omega arith
get_low (w ∷ ws) (suc n) i e = let rest = get_low ws n i e in omega arith

slot_low : (stream : Option Stream) (n : ℕ) (i : Instr) → slot_in stream n ≡ Some i → n < slot_count stream
slot_low None n i e = absurd (none-some i e)
slot_low (Some s) n i e = get_low s.words n i e

slot_reads : (stream : Option Stream) (before : FaultLine) (slot : ℕ) (i : Instr) (a : Action) (xs rest : List Lexeme)
    → AreFit ((fixed (codes "slot") ∷ a_number slot ∷ []) ++ (action_pieces a ++ the_end ∷ [])) xs
    → slot_in stream slot ≡ Some i → Suits i a
    → slot_reading stream before (xs ++ rest) ≡ Ok (record before { slot = slot; action = a }, rest)
unfolding slot_reading
slot_reads stream before slot i a xs rest f at fine =
    let p = fit_parts (fixed (codes "slot") ∷ a_number slot ∷ []) (action_pieces a ++ the_end ∷ []) xs f in
    let q = fit_parts (action_pieces a) (the_end ∷ []) p.back p.second in
    ap (slot_reading stream before) (ap (λ t. t ++ rest) p.whole ∙ append_assoc p.front p.back rest)
    ∙ ap (λ r. r >>= (λ slot xs. action_reading (slot_in stream slot) xs >>=
    (λ action xs. one want.LineEnd line_end xs >>= (λ _ xs. Ok (record before { slot = slot; action = action }, xs)))))
    (named_reads (codes "slot") (slot_count stream) slot p.front (p.back ++ rest) p.first (slot_low stream slot i at))
    ∙ ap₂ (λ s xs. action_reading s xs >>=
    (λ action xs. one want.LineEnd line_end xs >>= (λ _ xs. Ok (record before { slot = slot; action = action }, xs))))
    at (ap (λ t. t ++ rest) q.whole ∙ append_assoc q.front q.back rest)
    ∙ ap (λ r. r >>= (λ action xs. one want.LineEnd line_end xs >>=
    (λ _ xs. Ok (record before { slot = slot; action = action }, xs))))
    (action_reads i a q.front (q.back ++ rest) q.first fine)
    ∙ ap (λ r. r >>= (λ _ xs. Ok (record before { slot = slot; action = a }, xs))) (end_reads q.back rest q.second)

pub line_reads : (cases : Cases) (l : FaultLine) (xs rest : List Lexeme) → AreFit (line_pieces l) xs
    → IsAccepted cases l → line_reading cases (xs ++ rest) ≡ Ok (l, rest)
unfolding line_reading line_pieces
line_reads cases l xs rest f ok =
    let p = fit_parts (fixed (codes "hart") ∷ a_number l.hart ∷ [])
    (fixed (codes "case") ∷ a_number l.case ∷ fixed (codes "pass") ∷ pass_piece l.pass ∷ slot_pieces l) xs f in
    let q = fit_parts (fixed (codes "case") ∷ a_number l.case ∷ [])
    (fixed (codes "pass") ∷ pass_piece l.pass ∷ slot_pieces l) p.back p.second in
    let r = fit_parts (fixed (codes "pass") ∷ pass_piece l.pass ∷ []) (slot_pieces l) q.back q.second in
    ap (line_reading cases) (ap (λ t. t ++ rest) p.whole ∙ append_assoc p.front p.back rest)
    ∙ ap (λ r. r >>= (λ hart xs. named (codes "case") (length cases.cases) xs >>=
    (λ case xs. named_pass cases.passes xs >>= (λ pass xs.
    slot_reading (stream_in cases case hart)
    (record { hart = hart; case = case; pass = pass; slot = 0; action = act.Drop }) xs))))
    (named_reads (codes "hart") cases.harts l.hart p.front (p.back ++ rest) p.first ok.hart)
    ∙ ap (λ xs. named (codes "case") (length cases.cases) xs >>= (λ case xs. named_pass cases.passes xs >>= (λ pass xs.
    slot_reading (stream_in cases case l.hart)
    (record { hart = l.hart; case = case; pass = pass; slot = 0; action = act.Drop }) xs)))
    (ap (λ t. t ++ rest) q.whole ∙ append_assoc q.front q.back rest)
    ∙ ap (λ r. r >>= (λ case xs. named_pass cases.passes xs >>= (λ pass xs.
    slot_reading (stream_in cases case l.hart)
    (record { hart = l.hart; case = case; pass = pass; slot = 0; action = act.Drop }) xs)))
    (named_reads (codes "case") (length cases.cases) l.case q.front (q.back ++ rest) q.first ok.case)
    ∙ ap (λ xs. named_pass cases.passes xs >>= (λ pass xs.
    slot_reading (stream_in cases l.case l.hart)
    (record { hart = l.hart; case = l.case; pass = pass; slot = 0; action = act.Drop }) xs))
    (ap (λ t. t ++ rest) r.whole ∙ append_assoc r.front r.back rest)
    ∙ ap (λ r. r >>= (λ pass xs.
    slot_reading (stream_in cases l.case l.hart)
    (record { hart = l.hart; case = l.case; pass = pass; slot = 0; action = act.Drop }) xs))
    (pass_reads cases.passes l.pass r.front (r.back ++ rest) r.first ok.pass)
    ∙ slot_reads (stream_in cases l.case l.hart)
    (record { hart = l.hart; case = l.case; pass = l.pass; slot = 0; action = act.Drop }) l.slot ok.instr l.action
    r.back rest r.second ok.slot ok.suits
