-- The rule holds when a line starts, and while its seats are split from the first.
use Rattle.std.proofs.Common.{◌≡◌, ℕ, zero, suc, ◌+◌, ◌^◌, ◌<◌, true, false, List, [], ◌∷◌, ◌++◌, length}
use Rattle.std.proofs.Common.{set, refl, sym, ap, ◌∙◌, subst, ⊎_elim, arith, le_refl, length-set, length-append}
use Rattle.std.proofs.Common.{Option, Some, None}
use Rattle.std.proofs.lemmas.Bool.{false≢true}
use mathlib.Core.Option.{some, some-injective, some-ne-none}
use lib.ListN.{get_elem?}
use Rattle.atomic_table.specs.Seated.{TableId}
use Rattle.atomic_table.specs.Table.{State, opening, Splits}
use Rattle.tm_turn.specs.declared.table.View.{View}
use Rattle.tm_turn.specs.Views.{fresh_view, first_view, after_giving, given_view}
use Rattle.tm_turn.specs.Rule.{Knows, IsQueued}
use Rattle.tm_turn.specs.Steps.{Mine}
use Rattle.tm_turn.specs.Seats.{LineId, SeatState, new_seat, seat_state, AreNew}
use Rattle.tm_turn.proofs.Places.{none_some, before_last, last_cases}
use Rattle.tm_turn.proofs.Views.{tickets_of-set, tickets_of-snoc, all_set, all_snoc, Fading, Fading-set, same_log}
use Rattle.tm_turn.proofs.Views.{gone_still, still}
use Rattle.tm_turn.proofs.Moving.{IsSlot-set, IsSlot-snoc}

module _ {T E F : Type 0} (maker : E → ℕ) (history : T → List E) (fixed_of : T → F) where
  only : (f : F) (seats j : ℕ) (v : View E F) → get_elem? (first_view {E = E} f seats ∷ []) j ≡ some v
      → (j ≡ 0) × (first_view f seats ≡ v)
  only f seats zero v e = (refl, some-injective (first_view f seats) v e)
  only f seats (suc j) v e = absurd (some-ne-none v (sym e))

  -- the table as it is made
  pub opens : (seats : ℕ) (x : T) (slots : List (Option T)) (f : F) → slots ≡ Some x ∷ [] → f ≡ fixed_of x
      → history x ≡ []
      → IsQueued maker history fixed_of f (opening (0 ∷ 0 ∷ 0 ∷ []) slots (first_view f seats))
  opens seats x slots f is same empty =
      let first : View E F = first_view f seats in
      subst (λ (l : List (Option T)). IsQueued maker history fixed_of f (opening (0 ∷ 0 ∷ 0 ∷ []) l first)) (sym is)
      record {
        drawn = 0;
        served = 0;
        log = [];
        home = some (Some x);
        words = refl;
        homes = refl;
        slot = (x, refl, sym same, empty, λ j v e. ap (λ (y : View E F). y.inside) (sym (only f seats j v e).1));
        few = omega arith;
        out = refl;
        small = omega arith;
        strangers = λ k h. refl;
        each = λ j v e.
            let o = only f seats j v e in
            subst (λ (y : ℕ × View E F). Knows maker f 0 0 [] (first ∷ []) y.0 y.1) (λ i. (sym o.0 i, o.1 i)) record {
              place = λ _. (refl, refl);
              waits = λ t e. absurd (none_some e);
              turn = λ e. absurd (false≢true e);
              giver = λ _. (refl, refl);
              begins = ([], refl);
              own = λ _. refl;
              counted = omega arith;
              gone = λ i n e. absurd (some-ne-none n (sym e));
            };
        apart = λ i j v w t ei ej ev ew. (only f seats i v ei).0 ∙ sym (only f seats j w ej).0;
      }

module _ {T E F : Type 0} (maker : E → ℕ) (history : T → List E) (fixed_of : T → F) (fixed : F) where
  abbrev W : Type 0
  W = View E F

  abbrev Rule : State (Option T) W → Type 0
  Rule = IsQueued maker history fixed_of fixed

  abbrev M : Type 0
  M = Mine maker history fixed_of

  -- where a ticket was, before a seat was added that has none
  ticket_before : (vs : List W) (id : ℕ) (v w right : W) → get_elem? vs id ≡ some v → w.ticket ≡ v.ticket
      → right.ticket ≡ None → (j : ℕ) (u : W) (t : ℕ) → get_elem? (set vs id w ++ right ∷ []) j ≡ some u
      → u.ticket ≡ Some t → (u' : W) × (get_elem? vs j ≡ some u') × (u'.ticket ≡ Some t)
  ticket_before vs id v w right at same none_there j u t e et =
      let P = λ (j : ℕ) (u : W). u.ticket ≡ Some t → (u' : W) × (get_elem? vs j ≡ some u') × (u'.ticket ≡ Some t) in
      all_snoc P (set vs id w) right (λ z. absurd (none_some (sym none_there ∙ z)))
      (all_set P vs id w (λ z. (v, at, sym same ∙ z)) (λ j u ne e z. (u, e, z))) j u e et

  -- a view has changed, and there is one more
  Fading-split : (vs : List W) (id : ℕ) (v left right : W) → get_elem? vs id ≡ some v
      → (v.live ≡ false → left.live ≡ false) → Fading vs (set vs id left ++ right ∷ [])
  Fading-split vs id v left right at dies n u h e =
      let same = length-set vs id left in
      Fading-set vs id v left at dies n u h (before_last (set vs id left) right u n (omega arith) e)

  splits : (id : ℕ) (v : W) → v.live ≡ true → 0 < v.given → v.given < 2 ^ 32
      → Splits Rule id v (after_giving v) (given_view v)
  splits id v live some_given room s r at =
      let left : W = after_giving v in
      let right : W = given_view v in
      let k = r.each id v at in
      let g = k.giver some_given in
      let steady = same_log maker s.views id r.log in
      let mid : List W = set s.views id left in
      let ws : List W = mid ++ right ∷ [] in
      let same = length-set s.views id left in
      let more : length ws ≡ length s.views + 1 = omega (arith, length-append mid (right ∷ [])) in
      let fade = Fading-split s.views id v left right at (λ z. z) in
      let out = r.out in
      let sum = tickets_of-set s.views id v left at in
      let sum' = tickets_of-snoc mid right in
      let many = g.1 in
      let rightKnows : Knows maker fixed r.drawn r.served r.log ws (length mid) right = record {
        place = λ _. (many ∙ sym same, (k.place live).1);
        waits = λ t e. absurd (none_some e);
        turn = λ e. absurd (false≢true e);
        giver = λ h. absurd (omega arith);
        begins = (r.log, refl);
        own = λ _. r.strangers (length mid) (omega arith);
        counted = omega arith;
        gone = λ i f e. absurd (some-ne-none f (sym e));
      } in
      let leftKnows : Knows maker fixed r.drawn r.served r.log ws id left = record {
        place = k.place;
        waits = k.waits;
        turn = k.turn;
        giver = λ _. (g.0, omega arith);
        begins = k.begins;
        own = k.own;
        counted = k.counted;
        gone = λ i f e. gone_still maker s.views id r.log r.log steady ws (omega arith) fade f (k.gone i f e);
      } in record {
        drawn = r.drawn;
        served = r.served;
        log = r.log;
        home = r.home;
        words = r.words;
        homes = r.homes;
        slot = IsSlot-snoc maker history fixed_of fixed r.log mid right r.home refl
            (IsSlot-set maker history fixed_of fixed r.log s.views id v left r.home at refl r.slot);
        few = omega arith;
        out = omega arith;
        small = r.small;
        strangers = λ n h. r.strangers n (omega arith);
        each = all_snoc (Knows maker fixed r.drawn r.served r.log ws) mid right rightKnows
            (all_set (Knows maker fixed r.drawn r.served r.log ws) s.views id left leftKnows
            (λ j u ne e. still maker s.views id r.log r.log steady fixed r.drawn r.served r.drawn r.served ws j u
            (le_refl r.drawn) (omega arith) fade ne (λ t et le. le) (λ z. (refl, refl))
            (λ h. absurd (ne (((r.each j u e).giver h).0 ∙ sym g.0))) (r.each j u e)));
        apart = λ x y p q t ex ey ep eq.
            let a = ticket_before s.views id v left right at refl refl x p t ex ep in
            let b = ticket_before s.views id v left right at refl refl y q t ey eq in
            r.apart x y a.0 b.0 t a.1 b.1 a.2 b.2;
      }

  pub deals : (id : ℕ) (me : M) (f : Option F) (seats given : ℕ) → me ≡ (fresh_view f 0 seats given, [])
      → 0 < given → given < 2 ^ 32 → Splits Rule id me.0 (after_giving me.0) (given_view me.0)
  deals id me f seats given is some_given room =
      let e : me.0.given ≡ given = ap (λ (m : M). m.0.given) is in
      splits id me.0 (ap (λ (m : M). m.0.live) is) (omega arith) (omega arith)

module _ {E F : Type 0} where
  -- the seat that was split off
  pub dealt : (line : LineId F) (seats number : ℕ) (z : TableId) (v w : View E F) → line.seats ≡ seats
      → z ≡ line.table → w ≡ given_view v → v ≡ fresh_view line.fixed 0 seats number
      → seat_state z w ≡ new_seat line number
  dealt line seats number z v w hs hz hw hv = ap (seat_state z) (hw ∙ ap given_view hv)
      ∙ (λ i. new_seat record { table = hz i; fixed = line.fixed; seats = sym hs i } number)

  pub AreNew-push : (line : LineId F) (n : ℕ) (xs : List (SeatState E F)) (y : SeatState E F) (at : ℕ)
      → at ≡ n + length xs → AreNew line n xs → y ≡ new_seat line at → AreNew line n (xs ++ y ∷ [])
  AreNew-push line n xs y at is old new k s e = ⊎_elim
      (old k s)
      (λ (t : (k ≡ length xs) × (y ≡ s)).
      sym t.1 ∙ (new ∙ ap (new_seat line) (is ∙ ap (λ (z : ℕ). n + z) (sym t.0))))
      (last_cases xs y s k e)
