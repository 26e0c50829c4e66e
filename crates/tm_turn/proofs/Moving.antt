-- A step of one seat keeps the rule, where it keeps what the rule says of the seat and of the slot.
use Rattle.std.proofs.Common.{◌≡◌, ◌≢◌, ℕ, ◌+◌, ◌%◌, ◌^◌, ◌<◌, ◌≤◌, true, false, List, [], ◌∷◌, ◌++◌, length}
use Rattle.std.proofs.Common.{set, refl, sym, ap, ◌∙◌, ⊎_elim, arith, length-set, Option, Some, None}
use Rattle.std.proofs.lemmas.Bool.{false≢true}
use mathlib.Core.Option.{some, none, some-injective}
use mathlib.Core.Option as maybe
use mathlib.Core.Logic.{dite}
use native.Mathlib.Decide.{ℕ_discrete}
use lib.ListN.{get_elem?}
use Rattle.atomic_table.specs.Table.{State, Act, stepped, homes_after}
use Rattle.atomic_table.proofs.Lists.{at_set, at_snoc, at_longer, set_here, set_else}
use Rattle.tm_turn.specs.declared.table.View.{View}
use Rattle.tm_turn.specs.Views.{tickets_of}
use Rattle.tm_turn.specs.Rule.{Knows, IsSlot, IsQueued}
use Rattle.tm_turn.proofs.Places.{none_some, untrue, within}
use Rattle.tm_turn.proofs.Views.{all_set, Fading-set, Grows, still}

module _ {T E F : Type 0} (maker : E → ℕ) (history : T → List E) (fixed_of : T → F) (fixed : F) where
  abbrev W : Type 0
  W = View E F

  abbrev St : Type 0
  St = State (Option T) W

  abbrev Rule : St → Type 0
  Rule = IsQueued maker history fixed_of fixed

  -- what has to hold of another seat's view u, where a step changes one seat's view to w
  abbrev pub Undisturbed : (served served' : ℕ) (log log' : List E) (w u : View E F) → Type 0
  Undisturbed served served' log log' w u =
      ((t : ℕ) → u.ticket ≡ Some t → served ≤ t → served' ≤ t)
      × (u.inside ≡ true → (served ≡ served') × (log ≡ log'))
      × ((t : ℕ) → u.ticket ≡ Some t → w.ticket ≢ Some t)

  -- a step of one seat, which changes its view from v to w
  pub moved : (s : St) (r : Rule s) (id : ℕ) (v w : W) (i n : ℕ) (cs : List (ℕ × Option T)) (a : Act (Option T))
      (d' s' : ℕ) (log' : List E) (h' : maybe.Option (Option T)) → get_elem? s.views id ≡ some v
      → Grows maker s.views id r.log log'
      → set s.words i n ≡ d' % 2 ^ 64 ∷ s' % 2 ^ 64 ∷ length log' ∷ []
      → homes_after s.homes cs a ≡ h' ∷ []
      → IsSlot maker history fixed_of fixed log' (set s.views id w) h'
      → s' + tickets_of (set s.views id w) ≡ d'
      → r.drawn ≤ d'
      → length log' < 2 ^ 64
      → (v.live ≡ false → w.live ≡ false)
      → Knows maker fixed d' s' log' (set s.views id w) id w
      → ((j : ℕ) (u : W) → j ≢ id → get_elem? s.views j ≡ some u → Undisturbed r.served s' r.log log' w u)
      → Rule (stepped s i n id cs w a)
  moved s r id v w i n cs a d' s' log' h' at grows ws hs slot out more small dies mine others =
      let same = length-set s.views id w in
      let inside_list = within s.views id v at in record {
        drawn = d';
        served = s';
        log = log';
        home = h';
        words = ws;
        homes = hs;
        slot = slot;
        few = let few = r.few in omega arith;
        out = out;
        small = small;
        strangers = λ k h. grows.others k (λ e. absurd (omega arith)) ∙ r.strangers k (omega arith);
        each = all_set (Knows maker fixed d' s' log' (set s.views id w)) s.views id w mine (λ j u ne e.
            let o = others j u ne e in
            still maker s.views id r.log log' grows fixed r.drawn r.served d' s' (set s.views id w) j u more
            (omega arith) (Fading-set s.views id v w at dies) ne o.0 o.1 (λ _. sym same) (r.each j u e));
        apart = λ x y p q t ex ey ep eq. ⊎_elim
            (λ (hx : (x ≡ id) × (w ≡ p)). ⊎_elim
            (λ (hy : (y ≡ id) × (w ≡ q)). hx.0 ∙ sym hy.0)
            (λ (hy : (y ≢ id) × (get_elem? s.views y ≡ some q)).
            absurd ((others y q hy.0 hy.1).2 t eq (ap (λ (z : W). z.ticket) hx.1 ∙ ep)))
            (at_set s.views id y w q ey))
            (λ (hx : (x ≢ id) × (get_elem? s.views x ≡ some p)). ⊎_elim
            (λ (hy : (y ≡ id) × (w ≡ q)).
            absurd ((others x p hx.0 hx.1).2 t ep (ap (λ (z : W). z.ticket) hy.1 ∙ eq)))
            (λ (hy : (y ≢ id) × (get_elem? s.views y ≡ some q)). r.apart x y p q t hx.1 hy.1 ep eq)
            (at_set s.views id y w q ey))
            (at_set s.views id x w p ex);
      }

  -- two seats don't have one ticket
  pub lone : (s : St) (r : Rule s) (id j : ℕ) (v u : W) (t : ℕ) → get_elem? s.views id ≡ some v
      → get_elem? s.views j ≡ some u → j ≢ id → v.ticket ≡ Some t → u.ticket ≢ Some t
  lone s r id j v u t at there ne e e' = ne (r.apart j id u v t there at e' e)

  -- while one seat is inside, no other is
  pub lone_inside : (s : St) (r : Rule s) (id j : ℕ) (v u : W) → get_elem? s.views id ≡ some v
      → get_elem? s.views j ≡ some u → j ≢ id → v.ticket ≡ Some r.served → u.inside ≡ true → ⊥
  lone_inside s r id j v u at there ne mine here =
      lone s r id j v u r.served at there ne mine ((r.each j u there).turn here).1

  -- a step that passes no turn on, gives no ticket and records nothing leaves the other seats as they are
  pub same_turn : (s : St) (r : Rule s) (id : ℕ) (v : W) → get_elem? s.views id ≡ some v
      → (j : ℕ) (u : W) → j ≢ id → get_elem? s.views j ≡ some u → Undisturbed r.served r.served r.log r.log v u
  same_turn s r id v at j u ne e =
      ((λ t et le. le), (λ z. (refl, refl)), (λ t et z. lone s r id j v u t at e ne z et))

  -- who has no ticket isn't inside
  pub outside : (s : St) (r : Rule s) (id : ℕ) (v : W) → get_elem? s.views id ≡ some v → v.ticket ≡ None
      → v.inside ≡ false
  outside s r id v at free = untrue v.inside (λ z. none_some (sym free ∙ ((r.each id v at).turn z).1))

  -- the slot, where a view has changed that is inside as before
  pub IsSlot-set : (log : List E) (vs : List W) (id : ℕ) (v w : W) (h : maybe.Option (Option T))
      → get_elem? vs id ≡ some v → w.inside ≡ v.inside
      → IsSlot maker history fixed_of fixed log vs h → IsSlot maker history fixed_of fixed log (set vs id w) h
  IsSlot-set log vs id v w none at same o = let j = o.0 in dite (ℕ_discrete j id)
      (λ (z : j ≡ id).
      let one : v ≡ o.1 = some-injective v o.1 (sym at ∙ (ap (get_elem? vs) (sym z) ∙ o.2)) in
      (id, w, set_here vs id w (within vs id v at), same ∙ (ap (λ (y : W). y.inside) one ∙ o.3)))
      (λ z. (j, o.1, set_else vs id j w z ∙ o.2, o.3))
  IsSlot-set log vs id v w (some y) at same o = (
    o.0,
    o.1,
    o.2,
    o.3,
    all_set (λ j u. u.inside ≡ false) vs id w (same ∙ o.4 id v at) (λ j u ne e. o.4 j u e),
  )

  pub IsSlot-snoc : (log : List E) (vs : List W) (w : W) (h : maybe.Option (Option T)) → w.inside ≡ false
      → IsSlot maker history fixed_of fixed log vs h → IsSlot maker history fixed_of fixed log (vs ++ w ∷ []) h
  IsSlot-snoc log vs w none out o = (o.0, o.1, at_longer vs (w ∷ []) o.0 o.1 o.2, o.3)
  IsSlot-snoc log vs w (some y) out o = (
    o.0,
    o.1,
    o.2,
    o.3,
    λ j u e. ⊎_elim (o.4 j u) (λ (t : w ≡ u). ap (λ (z : W). z.inside) (sym t) ∙ out) (at_snoc vs w u j e),
  )

  -- the slot is out where a seat is inside, whatever the history
  pub IsSlot-away : (log log' : List E) (vs : List W) (id : ℕ) (v : W) (h : maybe.Option (Option T))
      → get_elem? vs id ≡ some v → v.inside ≡ true
      → IsSlot maker history fixed_of fixed log vs h → IsSlot maker history fixed_of fixed log' vs h
  IsSlot-away log log' vs id v none at here o = o
  IsSlot-away log log' vs id v (some y) at here o = absurd (false≢true (sym (o.4 id v at) ∙ here))

  -- the value is at home where the seat whose turn it is isn't inside
  pub at_home : (s : St) (r : Rule s) (id : ℕ) (v : W) → get_elem? s.views id ≡ some v → v.inside ≡ false
      → v.ticket ≡ Some r.served → (h : maybe.Option (Option T))
      → IsSlot maker history fixed_of fixed r.log s.views h
      → (x : T) × (h ≡ some (Some x)) × (fixed_of x ≡ fixed) × (history x ≡ r.log)
  at_home s r id v at out mine none o =
      let same : o.0 ≡ id = r.apart o.0 id o.1 v r.served o.2 at ((r.each o.0 o.1 o.2).turn o.3).1 mine in
      let one : v ≡ o.1 = some-injective v o.1 (sym at ∙ (ap (get_elem? s.views) (sym same) ∙ o.2)) in
      absurd (false≢true (sym out ∙ (ap (λ (y : W). y.inside) one ∙ o.3)))
  at_home s r id v at out mine (some y) o = (o.0, ap some o.1, o.2, o.3)
