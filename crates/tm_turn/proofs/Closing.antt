-- A line ends: where the first seat was told what all others knew, the value is at home, and its history bears them
-- out.
use Rattle.std.proofs.Common.{◌≡◌, ◌≢◌, inl, inr, ⊎_elim, ℕ, ◌+◌, ◌<◌, ◌≤◌, true, false, List, [], ◌∷◌, ◌++◌}
use Rattle.std.proofs.Common.{length, refl, sym, ap, ◌∙◌, subst, arith, Option, Some, None, slice_get}
use Rattle.std.proofs.lemmas.Bool.{false≢true}
use Rattle.std.specs.List.{remove, HoldsAt, AllWithin}
use Rattle.std.specs.Option.{MatchOption}
use mathlib.Core.Option.{some, none, some-injective}
use mathlib.Core.Option as maybe
use mathlib.Core.Logic.{dite}
use native.Mathlib.Decide.{ℕ_discrete}
use lib.ListN.{get_elem?}
use Rattle.atomic_table.specs.Seated.{TableId}
use Rattle.atomic_table.specs.Table.{State, Me, Final, Seen}
use Rattle.atomic_table.proofs.Lists.{at_longer, at_last}
use Rattle.tm_turn.specs.declared.table.View.{View}
use Rattle.tm_turn.specs.declared.table.Facts.{Facts}
use Rattle.tm_turn.specs.History.{made_by, HasNoneFrom}
use Rattle.tm_turn.specs.Views.{facts_of, with_facts}
use Rattle.tm_turn.specs.Rule.{BearsOut, KnowsAll, IsSlot, IsQueued}
use Rattle.tm_turn.specs.Seats.{LineId, SeatState, seat_state, facts_of_seat, AreOutside, AreAllOutside, ToldFrom}
use Rattle.tm_turn.specs.Seats.{AreNew, BearsOutAll, IsSeat, IsFirstOut}
use Rattle.tm_turn.proofs.Places.{one_value, positive, within, got_last, got_before, got_within}
use Rattle.tm_turn.proofs.Places.{in_bounds, got_index, was_there, still_there}

module _ {T E F : Type 0} (maker : E → ℕ) (history : T → List E) (fixed_of : T → F) (fixed : F) where
  abbrev W : Type 0
  W = View E F

  abbrev Rule : State (Option T) W → Type 0
  Rule = IsQueued maker history fixed_of fixed

  -- once one seat that isn't inside knows all, the value is at home
  ends_home : (s : State (Option T) W) (r : Rule s) (id : ℕ) (v : W) → get_elem? s.views id ≡ some v
      → v.inside ≡ false → 0 < v.given → KnowsAll v → (h : maybe.Option (Option T))
      → IsSlot maker history fixed_of fixed r.log s.views h
      → (x : T) × (h ≡ some (Some x)) × (fixed_of x ≡ fixed) × (history x ≡ r.log)
  ends_home s r id v at out some_given all none o =
      let k = r.each id v at in
      let g = k.giver some_given in
      let j : ℕ = o.0 in
      let u : W = o.1 in
      let inside_list = within s.views j u o.2 in dite (ℕ_discrete j id)
      (λ (z : j ≡ id).
      let one : v ≡ u = some-injective v u (sym at ∙ (ap (get_elem? s.views) (sym z) ∙ o.2)) in
      absurd (false≢true (sym out ∙ (ap (λ (y : W). y.inside) one ∙ o.3))))
      (λ (z : j ≢ id).
      let many = g.1 in
      let zero_id = g.0 in
      let c = all j (positive j (λ e. z (e ∙ sym zero_id))) (omega arith) in
      let asleep = (k.gone c.0 c.1 c.2).1 u (ap (get_elem? s.views) c.3 ∙ o.2) in
      absurd (false≢true (sym asleep ∙ ((r.each j u o.2).turn o.3).0)))
  ends_home s r id v at out some_given all (some y) o = (o.0, ap some o.1, o.2, o.3)

  -- what is known of the value at the end
  pub record Ended (v : W) (x : T) : Type 0 where
    pub fixed_is : fixed_of x ≡ fixed
    pub first : BearsOut maker (history x) (facts_of v)
    pub others : (k : ℕ) (f : Facts E) → get_elem? v.joined k ≡ some f → BearsOut maker (history x) f
    pub strangers : HasNoneFrom maker v.given (history x)

  pub finds : (id : ℕ) (v : W) (ws : List ℕ) (xs : List (Option T)) (found : Option T) → v.live ≡ true
      → v.inside ≡ false → 0 < v.given → KnowsAll v → Final (Seen Rule id v) ws xs → get_elem? xs 0 ≡ some found
      → (x : T) × (found ≡ Some x) × Ended v x
  finds id v ws xs found live out some_given all f at =
      let r = f.1.0 in
      let here = f.1.1 in
      let h = ends_home f.0 r id v here out some_given all r.home r.slot in
      let k = r.each id v here in
      let there = f.4 0 (Some h.0) (ap (λ hs. get_elem? hs 0) r.homes ∙ ap some h.1) in
      let log_is = sym h.3 in (
        h.0,
        some-injective found (Some h.0) (sym at ∙ there),
        record {
          fixed_is = h.2;
          first = subst (λ (l : List E). BearsOut maker l (facts_of v)) log_is
              (k.begins, ap (λ (z : ℕ). made_by maker z r.log) (k.place live).0 ∙ k.own live, k.counted);
          others = λ i y e. subst (λ (l : List E). BearsOut maker l y) log_is (k.gone i y e).2;
          strangers = subst (λ (l : List E). HasNoneFrom maker v.given l) log_is
              (λ n h. r.strangers n (subst (λ (z : ℕ). z ≤ n) (k.giver some_given).1 h));
        },
      )

module _ {E F : Type 0} where
  -- seats in the order of their numbers are all seats of a line
  pub in_order : (line : LineId F) (seats : List (SeatState E F)) → length seats ≡ line.seats
      → ((k : ℕ) (s : SeatState E F) → slice_get seats k ≡ Some s
      → (s.line ≡ line) × (s.number ≡ k) × (s.inside ≡ false))
      → AreAllOutside line seats
  in_order line seats long each = record {
    outside = λ k s e. let a = each k s e in (a.0, a.2);
    all = λ n h. let s = got_within seats n (omega arith) in (n, s.0, s.1, (each n s.0 s.1).1);
  }

  -- the seats of a new line are all its seats, once work was done with each that kept its line and its number, and
  -- left it outside
  pub worked_through : (line : LineId F) (old new : List (SeatState E F)) → length old ≡ line.seats
      → length new ≡ length old → AreNew line 0 old
      → ((k : ℕ) (s t : SeatState E F) → slice_get old k ≡ Some s → slice_get new k ≡ Some t
      → (t.line ≡ line) × (t.number ≡ s.number) × (t.inside ≡ false))
      → AreAllOutside line new
  worked_through line old new count same are each = in_order line new (same ∙ count) (λ k t e.
      let inside = in_bounds new k t e in
      let s = got_within old k (omega arith) in
      let d = each k s.0 t s.1 e in
      let is = ap (λ (x : SeatState E F). x.number) (are k s.0 s.1) in
      let still = d.1 in
      (d.0, omega arith, d.2))

  -- what a search for the first seat answers
  abbrev pub IsSearched : (seats : List (SeatState E F)) → Option ℕ → Type 0
  IsSearched seats place = MatchOption place
      (AllWithin (λ s. s.number ≢ 0) seats 0 (length seats))
      (λ i. (i < length seats)
      × HoldsAt (λ s. s.number ≡ 0) seats i
      × AllWithin (λ s. s.number ≢ 0) seats 0 i)

  -- it finds the first seat among all
  pub finds_first : (line : LineId F) (seats : List (SeatState E F)) (place : Option ℕ) → AreAllOutside line seats
      → 0 < line.seats → IsSearched seats place
      → (i : ℕ)
      × (place ≡ Some i)
      × (i < length seats)
      × ((s : SeatState E F) → slice_get seats i ≡ Some s → s.number ≡ 0)
  finds_first line seats None are some_seats missed =
      let zeroth = are.all 0 some_seats in
      let k = zeroth.0 in
      let s = zeroth.1 in
      let is = ap (λ (t : SeatState E F). t.number) (got_index seats k s s zeroth.2) in
      absurd (missed k s (omega arith) (in_bounds seats k s zeroth.2) (is ∙ zeroth.3))
  finds_first line seats (Some i) are some_seats one =
      (i, refl, one.0, λ s e. ap (λ (t : SeatState E F). t.number) (sym (got_index seats i s s e)) ∙ one.1 s)

  -- the last seat, and those before it
  pub popped : (line : LineId F) (old new : List (SeatState E F)) (s : SeatState E F) → old ≡ new ++ s ∷ []
      → AreOutside line old → AreOutside line new × (s.line ≡ line) × (s.inside ≡ false)
  popped line old new s is all =
      let all' : AreOutside line (new ++ s ∷ []) = subst (AreOutside line) is all in
      let last = all' (length new) s (got_last new s) in
      ((λ k t e. all' k t (got_before new (s ∷ []) k t e)), last.0, last.1)

  -- one seat more was told
  pub ToldFrom-more : (v w : View E F) (new all : List (SeatState E F)) (s : SeatState E F)
      → w ≡ with_facts v (facts_of_seat s)
      → ((k : ℕ) (t : SeatState E F) → k ≡ length new → slice_get all k ≡ Some t → t ≡ s)
      → ToldFrom (length new + 1) v all → ToldFrom (length new) w all
  ToldFrom-more v w new all s is here old k t low got =
      let e : w.joined ≡ v.joined ++ facts_of_seat s ∷ [] = ap (λ (z : View E F). z.joined) is in
      dite (ℕ_discrete k (length new))
      (λ z. (
        length v.joined,
        ap (λ l. get_elem? l (length v.joined)) e
            ∙ (at_last v.joined (facts_of_seat s) (length v.joined) refl
            ∙ ap (λ (y : SeatState E F). some (facts_of_seat y)) (sym (here k t z got))),
      ))
      (λ z. let o = old k t (omega arith) got in
      (o.0, ap (λ l. get_elem? l o.0) e ∙ at_longer v.joined (facts_of_seat s ∷ []) o.0 (facts_of_seat t) o.1))

  -- a seat with another number is in another place
  other_place : (all : List (SeatState E F)) (place k : ℕ) (r s : SeatState E F) → slice_get all place ≡ Some r
      → slice_get all k ≡ Some s → r.number ≡ 0 → 0 < s.number → k ≢ place
  other_place all place k r s at there zeroth later e =
      let same : s ≡ r = one_value (sym there ∙ (ap (slice_get all) e ∙ at)) in
      let zero_too = ap (λ (t : SeatState E F). t.number) same in omega arith

  -- the first seat is taken out of all
  pub first_out : {T : Type 0} (maker : E → ℕ) (line : LineId F) (all rest : List (SeatState E F)) (z : TableId)
      (number entries place : ℕ) (me : Me (Option T) (View E F)) (r : SeatState E F) → AreAllOutside line all
      → slice_get all place ≡ Some r → rest ≡ remove all place → r.number ≡ 0
      → seat_state z me.0 ≡ r → IsSeat maker number entries me
      → (z ≡ line.table) × IsFirstOut line all rest me.0
  first_out maker line all rest z number entries place me r are at is zeroth seen sits =
      let mine = are.outside place r at in
      let l = ap (λ (s : SeatState E F). s.line) seen ∙ mine.0 in
      let number_is = sym sits.number_is ∙ (ap (λ (s : SeatState E F). s.number) seen ∙ zeroth) in
      let first = sits.first number_is in (
        ap (λ (i : LineId F). i.table) l,
        record {
          live = sits.live;
          outside = ap (λ (s : SeatState E F). s.inside) seen ∙ mine.1;
          given = first.0 ∙ ap (λ (i : LineId F). i.seats) l;
          joined = first.1;
          others = λ k s e.
              let o = was_there all place k s (ap (λ l. slice_get l k) (sym is) ∙ e) in are.outside o.0 s o.1;
          rest_has = λ n pos low.
              let a = are.all n low in
              let numbered = a.3 in
              let elsewhere = other_place all place a.0 r a.1 at a.2 zeroth (omega arith) in
              let o = still_there all place a.0 a.1 elsewhere a.2 in
              (o.0, a.1, ap (λ l. slice_get l o.0) is ∙ o.1, a.3);
          each = λ k s got. dite (ℕ_discrete k place)
              (λ e. inl (ap facts_of_seat (one_value (sym got ∙ (ap (slice_get all) e ∙ at)) ∙ sym seen)))
              (λ ne. let o = still_there all place k s ne got in inr (o.0, ap (λ l. slice_get l o.0) is ∙ o.1));
        },
      )

  -- the first seat knows all, once it was told of the rest
  pub KnowsAll-told : (line : LineId F) (all rest : List (SeatState E F)) (v w : View E F)
      → IsFirstOut line all rest v → w.given ≡ v.given → ToldFrom 0 w rest → KnowsAll w
  KnowsAll-told line all rest v w out same told j low high =
      let given = out.given in
      let s = out.rest_has j low (omega arith) in
      let q = told s.0 s.1 (omega arith) s.2 in
      (q.0, facts_of_seat s.1, q.1, s.3)

  -- the history bears out all seats, where it bears out the first and those that were joined into it
  pub BearsOutAll-told : (maker : E → ℕ) (log : List E) (line : LineId F) (all rest : List (SeatState E F))
      (v w : View E F) → IsFirstOut line all rest v → facts_of w ≡ facts_of v
      → BearsOut maker log (facts_of w)
      → ((i : ℕ) (f : Facts E) → get_elem? w.joined i ≡ some f → BearsOut maker log f)
      → ToldFrom 0 w rest → BearsOutAll maker log all
  BearsOutAll-told maker log line all rest v w out same first others told k s got = ⊎_elim
      (λ (e : facts_of_seat s ≡ facts_of v). subst (λ (f : Facts E). BearsOut maker log f) (same ∙ sym e) first)
      (λ (o : (i : ℕ) × (slice_get rest i ≡ Some s)).
      let q = told o.0 s (omega arith) o.1 in others q.0 (facts_of_seat s) q.1)
      (out.each k s got)
