-- The steps on the count keep the rule: record an entry, read the count.
use Rattle.std.proofs.Common.{◌≡◌, ℕ, ◌+◌, ◌%◌, ◌^◌, ◌<◌, true, false, List, [], ◌∷◌, ◌++◌, length, drop}
use Rattle.std.proofs.Common.{get_or, set, refl, sym, ap, ◌∙◌, subst, arith, le_refl, length-append, append-nil, max}
use Rattle.std.proofs.Common.{Option, Some, None}
use Rattle.std.proofs.Math.Nat.{mod-eq_of_lt}
use Rattle.std.proofs.lemmas.Bool.{false≢true}
use mathlib.Core.Option.{some, none}
use lib.ListN.{get_elem?}
use Rattle.atomic_table.specs.Table.{State, Me, step, keeps, rest, Allows}
use Rattle.atomic_table.proofs.Lists.{set_here}
use Rattle.tm_turn.specs.declared.table.View.{View}
use Rattle.tm_turn.specs.History.{made_by, AddsAtMostOne}
use Rattle.tm_turn.specs.Views.{recorded}
use Rattle.tm_turn.specs.Rule.{IsQueued}
use Rattle.tm_turn.specs.Steps.{Mine, Records, Counts}
use Rattle.tm_turn.specs.Seats.{IsSeat}
use Rattle.tm_turn.proofs.Places.{within}
use Rattle.tm_turn.proofs.Entries.{made_by-append, made_by-own, made_by-other, made_by-news}
use Rattle.tm_turn.proofs.Views.{tickets_of-set, Grows, same_log, renewed}
use Rattle.tm_turn.proofs.Moving.{moved, lone, lone_inside, same_turn, IsSlot-set, IsSlot-away}

module _ {T E F : Type 0} (maker : E → ℕ) (history : T → List E) (fixed_of : T → F) (fixed : F) where
  abbrev W : Type 0
  W = View E F

  abbrev Rule : State (Option T) W → Type 0
  Rule = IsQueued maker history fixed_of fixed

  abbrev M : Type 0
  M = Mine maker history fixed_of

  -- a history with one entry more, of a seat that is inside
  one_grows : (vs : List W) (id : ℕ) (v : W) (log : List E) (e : E) (news : List E) → news ≡ e ∷ []
      → get_elem? vs id ≡ some v → v.live ≡ true → maker e ≡ id → Grows maker vs id log (log ++ news)
  one_grows vs id v log e news one at live by_me = record {
    more = news;
    is = refl;
    others = λ j ne.
        let not_his = made_by-other maker j e (λ z. ne (sym z ∙ by_me)) in
        made_by-append maker j log news
        ∙ (ap (λ l. made_by maker j log ++ made_by maker j l) one
        ∙ (ap (λ l. made_by maker j log ++ l) not_his ∙ append-nil (made_by maker j log)));
    asleep = λ gone. absurd (false≢true (sym (gone v at) ∙ live));
  }

  pub records : (slots id : ℕ) (me : M) (e : E) (news : List E) → news ≡ e ∷ [] → me.0.live ≡ true
      → me.0.inside ≡ true → maker e ≡ me.0.number → length me.0.seen + 1 < 2 ^ 64
      → Allows Rule slots id me 2 (λ n. (n + 1) % 2 ^ 64)
      (Records maker history fixed_of news (step slots 2 1 0 none) me)
  records slots id me e news one live here own room s r count at small =
      let v : W = me.0 in
      let w : W = recorded v news in
      let k = r.each id v at in
      let turn = k.turn here in
      let mine : v.ticket ≡ Some r.served = turn.1 in
      let log' : List E = r.log ++ news in
      let by_me : maker e ≡ id = own ∙ (k.place live).0 in
      let one_long = ap length one in
      let both = length-append r.log news in
      let long : length r.log + 1 ≡ length log' = omega arith in
      let seen_all = ap length turn.2 in
      let out = r.out in
      let sum = tickets_of-set s.views id v w at in
      let grows = one_grows s.views id v r.log e news one at live by_me in
      let mine_too = ap (made_by maker id) one ∙ (made_by-own maker id e by_me ∙ sym one) in
      let counted = k.counted in
      let below : length r.log + 1 < 2 ^ 64 = omega arith in (
        w,
        keeps,
        tt,
        moved maker history fixed_of fixed s r id v w 2 ((get_or s.words 2 0 + 1) % 2 ^ 64) me.1 keeps r.drawn
            r.served log' r.home at grows
            (ap (λ ws. set ws 2 ((get_or ws 2 0 + 1) % 2 ^ 64)) r.words
            ∙ ap (λ (z : ℕ). r.drawn % 2 ^ 64 ∷ r.served % 2 ^ 64 ∷ z ∷ []) (mod-eq_of_lt below ∙ long))
            r.homes
            (IsSlot-away maker history fixed_of fixed r.log log' (set s.views id w) id w r.home
            (set_here s.views id w (within s.views id v at)) here
            (IsSlot-set maker history fixed_of fixed r.log s.views id v w r.home at refl r.slot))
            (omega arith)
            (le_refl r.drawn)
            (omega arith)
            (λ z. z)
            (renewed maker fixed r.drawn r.served r.drawn r.served r.log log' s.views id v v.ticket v.inside
            (v.seen ++ news) (v.mine ++ news) v.counted grows at k k.waits
            (λ _. (live, mine, ap (λ (l : List E). l ++ news) turn.2))
            ([], ap (λ (l : List E). l ++ news) (sym turn.2) ∙ sym (append-nil (v.seen ++ news)))
            (λ _. made_by-append maker id r.log news
            ∙ (ap (λ (l : List E). made_by maker id r.log ++ l) mine_too
            ∙ ap (λ (l : List E). l ++ news) (k.own live)))
            (omega arith))
            (λ j u ne e. (
              (λ t et le. le),
              (λ z. absurd (lone_inside maker history fixed_of fixed s r id j v u at e ne mine z)),
              (λ t et z. lone maker history fixed_of fixed s r id j v u t at e ne z et),
            )),
        refl,
      )

  pub counts : (slots id : ℕ) (me : M)
      → Allows Rule slots id me 2 (λ n. n) (Counts maker history fixed_of (step slots 2 0 0 none) me)
  counts slots id me s r count at small =
      let v : W = me.0 in
      let found : ℕ = get_or s.words 2 0 in
      let is : found ≡ length r.log = ap (λ ws. get_or ws 2 0) r.words in
      let w : W = record v { counted = max v.counted found } in
      let k = r.each id v at in
      let steady = same_log maker s.views id r.log in
      let sum = tickets_of-set s.views id v w at in
      let out = r.out in
      let counted = k.counted in
      let whole = ap length k.begins.1 in (
        w,
        keeps,
        tt,
        moved maker history fixed_of fixed s r id v w 2 found me.1 keeps r.drawn r.served r.log r.home at steady
            (ap (λ ws. set ws 2 (get_or ws 2 0)) r.words) r.homes
            (IsSlot-set maker history fixed_of fixed r.log s.views id v w r.home at refl r.slot) (omega arith)
            (le_refl r.drawn) r.small (λ z. z)
            (renewed maker fixed r.drawn r.served r.drawn r.served r.log r.log s.views id v v.ticket v.inside v.seen
            v.mine (max v.counted found) steady at k k.waits k.turn k.begins k.own (omega arith))
            (same_turn maker history fixed_of fixed s r id v at),
        (omega (arith, length-append v.seen k.begins.0), omega arith, refl),
      )

  -- a seat that holds the slot may change what is in it
  pub has_slot : (m : List (ℕ × Option T)) (x : Option T) → m ≡ (0, x) ∷ []
      → (y : Option T) × (m ≡ (0, y) ∷ rest m)
  has_slot m x e = (x, e ∙ sym (ap (λ c. (0, x) ∷ rest c) e))

-- A seat that has left is a seat between two calls: after it recorded its entry, put the value x into the slot, and
-- passed the turn on.
pub IsSeat-left : {T E F : Type 0} (maker : E → ℕ) (number entries : ℕ)
    (me recording giving end : Me (Option T) (View E F)) (x : Option T) (log : List E)
    → IsSeat maker number entries me → AddsAtMostOne maker me.0.number me.0.seen log
    → recording ≡ (recorded me.0 (drop (length me.0.seen) log), me.1)
    → giving ≡ (recording.0, (0, x) ∷ rest recording.1)
    → end ≡ (record giving.0 { ticket = None; inside = false }, [])
    → IsSeat maker number entries end
IsSeat-left {T} {E} {F} maker number entries me recording giving end x log sits next wrote gave passed =
    let M = Me (Option T) (View E F) in
    let news = drop (length me.0.seen) log in
    let left : M → M = λ m. (record m.0 { ticket = None; inside = false }, []) in
    let is : end ≡ left (recorded me.0 news, me.1) = passed ∙ (ap left gave ∙ ap left wrote) in
    let next' = subst (λ (n : ℕ). AddsAtMostOne maker n me.0.seen log) sits.number_is next in
    subst (λ (m : M). IsSeat maker number entries m) (sym is) record {
      live = sits.live;
      number_is = sits.number_is;
      outside = λ _. (refl, refl);
      inside = λ e. absurd (false≢true e);
      own = made_by-append maker number me.0.seen news
          ∙ (λ i. sits.own i ++ made_by-news maker number me.0.seen log next' i);
      first = sits.first;
    }
