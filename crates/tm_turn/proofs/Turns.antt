-- The steps of a turn keep the rule: draw, look, pass on.
use Rattle.std.proofs.Common.{◌≡◌, ◌≢◌, ℕ, ◌+◌, ◌%◌, ◌^◌, Bool, true, false, List, [], ◌∷◌}
use Rattle.std.proofs.Common.{◌++◌, length, get_or, set, refl, sym, ap, ◌∙◌, subst, arith, le_refl, append-nil}
use Rattle.std.proofs.Common.{eq-eqb, ne_eqb, MatchBool, Option, Some, None}
use Rattle.std.proofs.Math.Nat.{mod-add-mod}
use Rattle.std.proofs.lemmas.Bool.{false≢true}
use mathlib.Core.Option.{some, none}
use mathlib.Core.Logic.{dite}
use native.Mathlib.Decide.{ℕ_discrete}
use lib.ListN.{get_elem?}
use Rattle.atomic_table.specs.Table.{State, Act, step, keeps, takes, gives, stepped, homes_after, carried_after}
use Rattle.atomic_table.specs.Table.{rest, Valid, Allows}
use Rattle.atomic_table.proofs.Lists.{set_here, one_turn}
use Rattle.tm_turn.specs.declared.table.View.{View}
use Rattle.tm_turn.specs.History.{made_by}
use Rattle.tm_turn.specs.Views.{ticket_count, recorded}
use Rattle.tm_turn.specs.Rule.{IsQueued}
use Rattle.tm_turn.specs.Steps.{Mine, Draws, Comes, Looks, Passes, WaitsFor}
use Rattle.tm_turn.proofs.Places.{one_value, none_some, untrue, within}
use Rattle.tm_turn.proofs.Views.{tickets_of-few, tickets_of-set, all_set, same_log, renewed}
use Rattle.tm_turn.proofs.Moving.{moved, lone, lone_inside, same_turn, outside, IsSlot-set, at_home}

module _ {T E F : Type 0} (maker : E → ℕ) (history : T → List E) (fixed_of : T → F) (fixed : F) where
  abbrev W : Type 0
  W = View E F

  abbrev Rule : State (Option T) W → Type 0
  Rule = IsQueued maker history fixed_of fixed

  abbrev M : Type 0
  M = Mine maker history fixed_of

  pub draws : (slots id : ℕ) (me : M) → me.0.ticket ≡ None
      → Allows Rule slots id me 0 (λ n. (n + 1) % 2 ^ 64) (Draws maker history fixed_of (step slots 0 1 0 none) me)
  draws slots id me free s r count at small =
      let v : W = me.0 in
      let w : W = record v { ticket = Some r.drawn } in
      let k = r.each id v at in
      let out = r.out in
      let sum = tickets_of-set s.views id v w at in
      let nothing : ticket_count v.ticket ≡ 0 = ap ticket_count free in
      let away = outside maker history fixed_of fixed s r id v at free in
      let steady = same_log maker s.views id r.log in (
        w,
        keeps,
        tt,
        moved maker history fixed_of fixed s r id v w 0 ((get_or s.words 0 0 + 1) % 2 ^ 64) me.1 keeps
            (r.drawn + 1) r.served r.log r.home at steady
            (ap (λ ws. set ws 0 ((get_or ws 0 0 + 1) % 2 ^ 64)) r.words
            ∙ ap (λ (z : ℕ). z ∷ r.served % 2 ^ 64 ∷ length r.log ∷ []) (mod-add-mod r.drawn (2 ^ 64) 1))
            r.homes
            (IsSlot-set maker history fixed_of fixed r.log s.views id v w r.home at refl r.slot)
            (omega arith)
            (omega arith)
            r.small
            (λ z. z)
            (renewed maker fixed r.drawn r.served (r.drawn + 1) r.served r.log r.log s.views id v (Some r.drawn)
            v.inside v.seen v.mine v.counted steady at k
            (λ n e. let same : r.drawn ≡ n = one_value e in (omega arith, omega arith))
            (λ e. absurd (false≢true (sym away ∙ e)))
            k.begins k.own k.counted)
            (λ j u ne e. (
              (λ t et le. le),
              (λ z. (refl, refl)),
              (λ t et z.
                  let same : r.drawn ≡ t = one_value z in
                  let b = (r.each j u e).waits t et in
                  let c = b.1 in
                  omega arith),
            )),
        (r.drawn, ap (λ ws. get_or ws 0 0) r.words, refl),
      )

  -- what a look owes
  abbrev LooksRight : (slots id : ℕ) (me : M) → State (Option T) W → Type 0
  LooksRight slots id me s = (w : W)
      × (a : Act (Option T))
      × Valid s.homes me.1 a
      × Rule (stepped s 1 (get_or s.words 1 0) id me.1 w a)
      × Looks maker history fixed_of (step slots 1 0 0 none) me (get_or s.words 1 0) (w, carried_after me.1 a)

  -- the turn has come, and the slot becomes the seat's
  hits : (slots id : ℕ) (me : M) (n : ℕ) → me.0.live ≡ true → me.0.inside ≡ false → me.0.ticket ≡ Some n → me.1 ≡ []
      → (s : State (Option T) W) (r : Rule s) → get_elem? s.views id ≡ some me.0
      → get_or s.words 1 0 ≡ n % 2 ^ 64 → r.served ≡ n → LooksRight slots id me s
  hits slots id me n live out mine empty s r at hit now =
      let v : W = me.0 in
      let k = r.each id v at in
      let found : ℕ = get_or s.words 1 0 in
      let all = r.out in
      let steady = same_log maker s.views id r.log in
      let mine' : v.ticket ≡ Some r.served = mine ∙ ap (λ (z : ℕ). Some z) (sym now) in
      let h = at_home maker history fixed_of fixed s r id v at out mine' r.home r.slot in
      let x = h.0 in
      let w : W = record v { inside = true; seen = history x } in
      let m' : M = (w, (0, Some x) ∷ me.1) in
      let sum = tickets_of-set s.views id v w at in
      let long = ap length h.3 in (
        w,
        takes 0 (Some x),
        ap (λ hs. get_elem? hs 0) r.homes ∙ ap some h.1,
        moved maker history fixed_of fixed s r id v w 1 found me.1 (takes 0 (Some x)) r.drawn r.served r.log none at
            steady (ap (λ ws. set ws 1 (get_or ws 1 0)) r.words) (ap (λ hs. set hs 0 none) r.homes)
            (id, w, set_here s.views id w (within s.views id v at), refl) (omega arith) (le_refl r.drawn) r.small
            (λ z. z)
            (renewed maker fixed r.drawn r.served r.drawn r.served r.log r.log s.views id v v.ticket true (history x)
            v.mine v.counted steady at k k.waits (λ _. (live, mine', h.3))
            ([], sym h.3 ∙ sym (append-nil (history x))) k.own k.counted)
            (same_turn maker history fixed_of fixed s r id v at),
        λ m em.
            let same : n ≡ m = one_value (sym mine ∙ em) in
            subst (λ (b : Bool). MatchBool b (Comes maker history fixed_of me m') (m' ≡ me))
            (sym (eq-eqb found (m % 2 ^ 64) (hit ∙ ap (λ (z : ℕ). z % 2 ^ 64) same)))
            record {
              value = x;
              slot = ap (λ c. (0, Some x) ∷ c) empty;
              view_is = refl;
              fixed_is = (k.place live).1 ∙ ap (λ (z : F). Some z) (sym h.2);
              begins = (k.begins.0, h.3 ∙ k.begins.1);
              own = ap (λ (l : List E). made_by maker v.number l) h.3
                  ∙ (ap (λ (z : ℕ). made_by maker z r.log) (k.place live).0 ∙ k.own live);
              counted = let a = k.counted in omega arith;
              small = let a = r.small in omega arith;
            },
      )

  -- the turn hasn't come, and nothing changes
  misses : (slots id : ℕ) (me : M) (n : ℕ) → me.0.ticket ≡ Some n
      → (s : State (Option T) W) (r : Rule s) → get_elem? s.views id ≡ some me.0
      → get_or s.words 1 0 ≢ n % 2 ^ 64 → LooksRight slots id me s
  misses slots id me n mine s r at miss =
      let v : W = me.0 in
      let k = r.each id v at in
      let found : ℕ = get_or s.words 1 0 in
      let all = r.out in
      let steady = same_log maker s.views id r.log in
      let sum = tickets_of-set s.views id v v at in (
        v,
        keeps,
        tt,
        moved maker history fixed_of fixed s r id v v 1 found me.1 keeps r.drawn r.served r.log r.home at
            steady (ap (λ ws. set ws 1 (get_or ws 1 0)) r.words) r.homes
            (IsSlot-set maker history fixed_of fixed r.log s.views id v v r.home at refl r.slot) (omega arith)
            (le_refl r.drawn) r.small (λ z. z)
            (renewed maker fixed r.drawn r.served r.drawn r.served r.log r.log s.views id v v.ticket v.inside v.seen
            v.mine v.counted steady at k k.waits k.turn k.begins k.own k.counted)
            (same_turn maker history fixed_of fixed s r id v at),
        λ m em.
            let same : m ≡ n = one_value (sym em ∙ mine) in
            subst (λ (b : Bool). MatchBool b (Comes maker history fixed_of me me) (me ≡ me))
            (sym (ne_eqb found (m % 2 ^ 64) (λ z. miss (z ∙ ap (λ (y : ℕ). y % 2 ^ 64) same))))
            refl,
      )

  looks : (slots id : ℕ) (me : M) (n : ℕ) → me.0.live ≡ true → me.0.inside ≡ false → me.0.ticket ≡ Some n
      → me.1 ≡ []
      → Allows Rule slots id me 1 (λ x. x) (Looks maker history fixed_of (step slots 1 0 0 none) me)
  looks slots id me n live out mine empty s r count at small =
      let is : get_or s.words 1 0 ≡ r.served % 2 ^ 64 = ap (λ ws. get_or ws 1 0) r.words in
      let few = r.few in
      let all = r.out in
      let some_few = tickets_of-few s.views in
      let bounds = (r.each id me.0 at).waits n mine in
      let low = bounds.0 in
      let high = bounds.1 in
      dite (ℕ_discrete (get_or s.words 1 0) (n % 2 ^ 64))
      (λ hit. hits slots id me n live out mine empty s r at hit
      (one_turn r.served n (2 ^ 64) low (omega arith) (sym is ∙ hit)))
      (λ miss. misses slots id me n mine s r at miss)

  -- one look of a wait, from the remainder of the ticket, which is what the code has
  pub waits : (slots id : ℕ) (ticket : ℕ) (me : M) → WaitsFor maker history fixed_of ticket me
      → Allows Rule slots id me 1 (λ x. x) (Looks maker history fixed_of (step slots 1 0 0 none) me)
  waits slots id ticket me w = looks slots id me w.number w.live w.outside w.ticket_is w.empty

  passes : (slots id : ℕ) (me : M) (x : T) → me.1 ≡ (0, Some x) ∷ [] → me.0.inside ≡ true → fixed_of x ≡ fixed
      → history x ≡ me.0.seen
      → Allows Rule slots id me 1 (λ n. (n + 1) % 2 ^ 64) (Passes maker history fixed_of (step slots 1 1 0 none) me)
  passes slots id me x has here is wrote s r count at small =
      let v : W = me.0 in
      let w : W = record v { ticket = None; inside = false } in
      let k = r.each id v at in
      let turn = k.turn here in
      let mine : v.ticket ≡ Some r.served = turn.1 in
      let out = r.out in
      let sum = tickets_of-set s.views id v w at in
      let one : ticket_count v.ticket ≡ 1 = ap ticket_count mine in
      let steady = same_log maker s.views id r.log in (
        w,
        gives,
        tt,
        moved maker history fixed_of fixed s r id v w 1 ((get_or s.words 1 0 + 1) % 2 ^ 64) me.1 gives r.drawn
            (r.served + 1) r.log (some (Some x)) at steady
            (ap (λ ws. set ws 1 ((get_or ws 1 0 + 1) % 2 ^ 64)) r.words
            ∙ ap (λ (z : ℕ). r.drawn % 2 ^ 64 ∷ z ∷ length r.log ∷ []) (mod-add-mod r.served (2 ^ 64) 1))
            (λ i. homes_after (r.homes i) (has i) gives) (
              x,
              refl,
              is,
              wrote ∙ turn.2,
              all_set (λ j u. u.inside ≡ false) s.views id w refl (λ j u ne e.
                  untrue u.inside (λ z. lone_inside maker history fixed_of fixed s r id j v u at e ne mine z)),
            )
            (omega arith)
            (le_refl r.drawn)
            r.small
            (λ z. z)
            (renewed maker fixed r.drawn r.served r.drawn (r.served + 1) r.log r.log s.views id v None false v.seen
            v.mine v.counted steady at k (λ t e. absurd (none_some e)) (λ e. absurd (false≢true e)) k.begins k.own
            k.counted)
            (λ j u ne e. (
              (λ t et le. dite (ℕ_discrete t r.served)
                  (λ z. absurd (lone maker history fixed_of fixed s r id j v u r.served at e ne mine
                  (et ∙ ap (λ (y : ℕ). Some y) z)))
                  (λ z. omega arith)),
              (λ z. absurd (lone_inside maker history fixed_of fixed s r id j v u at e ne mine z)),
              (λ t et z. absurd (none_some z)),
            )),
        λ i. (w, carried_after (has i) gives),
      )

  -- the same, from what the seat was before it recorded its entry and put the value into the slot
  pub leaves : (slots id : ℕ) (me recording me' : M) (x : T) (news : List E) → me.1 ≡ (0, None) ∷ []
      → me.0.inside ≡ true
      → recording ≡ (recorded me.0 news, me.1)
      → me' ≡ (recording.0, (0, Some x) ∷ rest recording.1)
      → Some (fixed_of x) ≡ Some fixed
      → history x ≡ me.0.seen ++ news
      → Allows Rule slots id me' 1 (λ n. (n + 1) % 2 ^ 64) (Passes maker history fixed_of (step slots 1 1 0 none) me')
  leaves slots id me recording me' x news has here wrote is same log =
      let e = is ∙ ap (λ (m : M). let m' : M = (m.0, (0, Some x) ∷ rest m.1) in m') wrote in
      passes slots id me' x
      (ap (λ (m : M). m.1) e ∙ ap (λ l. (0, Some x) ∷ rest l) has)
      (ap (λ (m : M). m.0.inside) e ∙ here)
      (one_value same)
      (log ∙ sym (ap (λ (m : M). m.0.seen) e))
