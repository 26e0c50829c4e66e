use Rattle.std.proofs.Common.{◌≡◌, ℕ, Some, sym, ap, ◌∙◌, subst, arith}
use mathlib.Core.Option.{some}
use lib.ListN.{get_elem?}
use Rattle.tm_turn.specs.declared.table.Facts.{Facts}
use Rattle.tm_turn.specs.History.{HasNoneFrom}
use Rattle.tm_turn.specs.Rule.{BearsOut}
use Rattle.tm_turn.specs.Seats.{LineId}
use Rattle.tm_turn.specs.Views.{facts_of}
use Rattle.tm_turn.proofs.Closing.{finds}
use Rattle.tm_turn.proofs.Places.{none_some, one_value}
use Rattle.tm_turn.proofs.line.closing.finish.Goals as goal

pub unreachable-requires : goal.unreachable-requires
unreachable-requires g c =
    let k = g.T.Kept in
    let L = LineId g.row.T-Fixed.Denot in
    let r = c.requires in
    let n : c.args.first.me.0.given ≡ c.line.inside.table.shared.key.seats =
    r.all.0 ∙ sym (ap (λ (z : L). z.seats) c.line.view_is) in
    let p = c.line.invariant.2 in
    let h = finds k.maker k.history k.fixed _ _ c.args.first.me.0 _ _ c.take-value.result r.outside.0 r.outside.1
    (omega arith) r.all.1 c.close_with-closed.ensures.values.2 c.take-value.ensures.value in
    none_some (sym c.in_default.is ∙ h.1)

pub returns : goal.returns
returns g c =
    let k = g.T.Kept in
    let L = LineId g.row.T-Fixed.Denot in
    let r = c.requires in
    let n : c.args.first.me.0.given ≡ c.line.inside.table.shared.key.seats =
    r.all.0 ∙ sym (ap (λ (z : L). z.seats) c.line.view_is) in
    let p = c.line.invariant.2 in
    let v = c.args.first.me.0 in
    let h = finds k.maker k.history k.fixed _ _ v _ _ c.take-value.result r.outside.0 r.outside.1 (omega arith) r.all.1
    c.close_with-closed.ensures.values.2 c.take-value.ensures.value in
    let same : h.0 ≡ c.in-Some.value = one_value (sym h.1 ∙ c.in-Some.is) in
    record {
      fixed = ap (λ (z : g.row.T-Fixed.Denot). Some z) (ap k.fixed (sym same) ∙ h.2.fixed_is)
          ∙ ap (λ (z : L). z.fixed) c.line.view_is;
      first = subst (λ (x : g.row.T.Denot). BearsOut k.maker (k.history x) (facts_of v)) same h.2.first;
      others = subst (λ (x : g.row.T.Denot). (i : ℕ) (f : Facts g.row.T-Entry.Denot) → get_elem? v.joined i ≡ some f
          → BearsOut k.maker (k.history x) f) same h.2.others;
      strangers = subst (λ (z : ℕ). HasNoneFrom k.maker z (k.history c.in-Some.value)) r.all.0
          (subst (λ (x : g.row.T.Denot). HasNoneFrom k.maker v.given (k.history x)) same h.2.strangers);
    }
