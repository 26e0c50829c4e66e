-- The rule holds when one seat was joined into another.
use Rattle.std.proofs.Common.{◌≡◌, ℕ, ◌<◌, true, false, List, length, set}
use Rattle.std.proofs.Common.{refl, sym, ap, ◌∙◌, subst, ⊎_elim, arith, le_refl, length-set, Option, Some, None}
use Rattle.std.proofs.lemmas.Bool.{false≢true}
use mathlib.Core.Option.{some, some-injective, some-ne-none}
use lib.ListN.{get_elem?}
use Rattle.atomic_table.specs.Table.{State, Joins}
use Rattle.atomic_table.proofs.Lists.{set_here, set_else}
use Rattle.tm_turn.specs.declared.table.View.{View}
use Rattle.tm_turn.specs.declared.table.Facts.{Facts}
use Rattle.tm_turn.specs.History.{made_by}
use Rattle.tm_turn.specs.Views.{ticket_count, facts_of, joined_view, spent_view}
use Rattle.tm_turn.specs.Rule.{BearsOut, IsGone, Knows, IsQueued}
use Rattle.tm_turn.proofs.Places.{none_some, within, snoc_cases}
use Rattle.tm_turn.proofs.Views.{tickets_of-set, all_set, Fading, Fading-set, same_log, gone_still, still}
use Rattle.tm_turn.proofs.Moving.{outside, IsSlot-set}

module _ {T E F : Type 0} (maker : E → ℕ) (history : T → List E) (fixed_of : T → F) (fixed : F) where
  abbrev W : Type 0
  W = View E F

  abbrev Rule : State (Option T) W → Type 0
  Rule = IsQueued maker history fixed_of fixed

  -- where a ticket was, before a seat with none was joined into another
  ticket_before : (vs : List W) (id other : ℕ) (v both : W) → get_elem? vs id ≡ some v → both.ticket ≡ v.ticket
      → (j : ℕ) (u : W) (t : ℕ) → get_elem? (set (set vs id both) other spent_view) j ≡ some u → u.ticket ≡ Some t
      → (u' : W) × (get_elem? vs j ≡ some u') × (u'.ticket ≡ Some t)
  ticket_before vs id other v both at same j u t e et =
      let P = λ (j : ℕ) (u : W). u.ticket ≡ Some t → (u' : W) × (get_elem? vs j ≡ some u') × (u'.ticket ≡ Some t) in
      all_set P (set vs id both) other spent_view (λ z. absurd (none_some z)) (λ j u ne e.
      all_set P vs id both (λ z. (v, at, sym same ∙ z)) (λ j u ne e z. (u, e, z)) j u e) j u e et

  -- a view has changed, and another one is spent
  Fading-join : (vs : List W) (id other : ℕ) (v both w : W) → get_elem? vs id ≡ some v
      → (v.live ≡ false → both.live ≡ false) → get_elem? (set vs id both) other ≡ some w
      → Fading vs (set (set vs id both) other spent_view)
  Fading-join vs id other v both w at dies there n u h e =
      let same = length-set vs id both in
      let f = Fading-set (set vs id both) other w spent_view there (λ _. refl) n u (omega arith) e in
      let f' = Fading-set vs id v both at dies n f.0 h f.1 in
      (f'.0, f'.1, λ z. f.2 (f'.2 z))

  -- what the rule says of a spent seat
  spent_knows : (drawn served : ℕ) (log : List E) (views : List W) (j : ℕ)
      → Knows maker fixed drawn served log views j spent_view
  spent_knows drawn served log views j = record {
    place = λ e. absurd (false≢true e);
    waits = λ t e. absurd (none_some e);
    turn = λ e. absurd (false≢true e);
    giver = λ h. absurd (omega arith);
    begins = (log, refl);
    own = λ e. absurd (false≢true e);
    counted = omega arith;
    gone = λ i f e. absurd (some-ne-none f (sym e));
  }

  pub joins : (id : ℕ) (v : W) (other : ℕ) (w : W) → w.live ≡ true → w.ticket ≡ None
      → Joins Rule id v other w (joined_view v w) spent_view
  joins id v other w live free s r at apart there =
      let both : W = joined_view v w in
      let mid : List W = set s.views id both in
      let gone_one : W = spent_view in
      let ws : List W = set mid other gone_one in
      let steady = same_log maker s.views id r.log in
      let here : get_elem? s.views other ≡ some w = sym (set_else s.views id other both apart) ∙ there in
      let k = r.each id v at in
      let kw = r.each other w here in
      let same = length-set s.views id both in
      let same' = length-set mid other gone_one in
      let away : w.inside ≡ false = outside maker history fixed_of fixed s r other w here free in
      let fade = Fading-join s.views id other v both w at (λ z. z) there in
      let out = r.out in
      let sum = tickets_of-set s.views id v both at in
      let sum' = tickets_of-set mid other w gone_one there in
      let nothing : ticket_count w.ticket ≡ 0 = ap ticket_count free in
      let few = r.few in
      let inside_list = within s.views other w here in
      let where_is : w.number ≡ other = (kw.place live).0 in
      let spent_there = ap (get_elem? ws) where_is ∙ set_here mid other gone_one (omega arith) in
      let last : (w.number < length ws) × IsGone ws w.number × BearsOut maker r.log (facts_of w) = (
        omega arith,
        (λ u e'. ap (λ (y : W). y.live) (sym (some-injective gone_one u (sym spent_there ∙ e')))),
        (kw.begins, ap (λ (z : ℕ). made_by maker z r.log) where_is ∙ kw.own live, kw.counted),
      ) in
      let bothKnow : Knows maker fixed r.drawn r.served r.log ws id both = record {
        place = k.place;
        waits = k.waits;
        turn = k.turn;
        giver = λ h. let g = k.giver h in (g.0, g.1 ∙ sym (same' ∙ same));
        begins = k.begins;
        own = k.own;
        counted = k.counted;
        gone = λ i f e. ⊎_elim
            (λ z. gone_still maker s.views id r.log r.log steady ws (omega arith) fade f (k.gone i f z))
            (λ (z : (i ≡ length v.joined) × (facts_of w ≡ f)).
            subst (λ (y : Facts E). (y.number < length ws) × IsGone ws y.number × BearsOut maker r.log y) z.1 last)
            (snoc_cases v.joined (facts_of w) f i e);
      } in record {
        drawn = r.drawn;
        served = r.served;
        log = r.log;
        home = r.home;
        words = r.words;
        homes = r.homes;
        slot = IsSlot-set maker history fixed_of fixed r.log mid other w gone_one r.home there (sym away)
            (IsSlot-set maker history fixed_of fixed r.log s.views id v both r.home at refl r.slot);
        few = omega arith;
        out = omega arith;
        small = r.small;
        strangers = λ n h. r.strangers n (omega arith);
        each = all_set (Knows maker fixed r.drawn r.served r.log ws) mid other gone_one
            (spent_knows r.drawn r.served r.log ws other)
            (λ j u ne e. all_set (Knows maker fixed r.drawn r.served r.log ws) s.views id both bothKnow
            (λ j u ne e. still maker s.views id r.log r.log steady fixed r.drawn r.served r.drawn r.served ws j u
            (le_refl r.drawn) (omega arith) fade ne (λ t et le. le) (λ z. (refl, refl)) (λ _. sym (same' ∙ same))
            (r.each j u e)) j u e);
        apart = λ x y p q t ex ey ep eq.
            let a = ticket_before s.views id other v both at refl x p t ex ep in
            let b = ticket_before s.views id other v both at refl y q t ey eq in
            r.apart x y a.0 b.0 t a.1 b.1 a.2 b.2;
      }
