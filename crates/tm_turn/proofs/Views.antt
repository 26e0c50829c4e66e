-- What the seats know, when one of them has changed.
use Rattle.std.proofs.Common.{◌≡◌, ◌≢◌, ℕ, zero, suc, ◌+◌, ◌<◌, ◌≤◌, Bool, true, false, List, [], ◌∷◌, ◌++◌}
use Rattle.std.proofs.Common.{length, set, refl, sym, ap, ◌∙◌, subst, ⊎_elim, arith, length-set, length-append}
use Rattle.std.proofs.Common.{append-nil, append_assoc, Option, Some, None}
use mathlib.Core.Option.{some, some-injective, some-ne-none}
use mathlib.Core.Logic.{dite}
use native.Mathlib.Decide.{ℕ_discrete}
use lib.ListN.{get_elem?}
use Rattle.atomic_table.proofs.Lists.{at_set}
use Rattle.tm_turn.specs.declared.table.View.{View}
use Rattle.tm_turn.specs.declared.table.Facts.{Facts}
use Rattle.tm_turn.specs.History.{made_by, BeginsWith}
use Rattle.tm_turn.specs.Views.{ticket_count, tickets_of}
use Rattle.tm_turn.specs.Rule.{BearsOut, IsGone, Knows}
use Rattle.tm_turn.proofs.Places.{snoc_cases}

ticket_count-one : (o : Option ℕ) → ticket_count o ≤ 1
ticket_count-one None = omega arith
ticket_count-one (Some t) = omega arith

module _ {E F : Type 0} where
  pub tickets_of-few : (views : List (View E F)) → tickets_of views ≤ length views
  tickets_of-few [] = omega arith
  tickets_of-few (v ∷ vs) = omega (arith, ticket_count-one v.ticket, tickets_of-few vs)

  pub tickets_of-set : (views : List (View E F)) (i : ℕ) (v w : View E F) → get_elem? views i ≡ some v
      → tickets_of (set views i w) + ticket_count v.ticket ≡ tickets_of views + ticket_count w.ticket
  tickets_of-set [] i v w e = absurd (some-ne-none v (sym e))
  tickets_of-set (x ∷ xs) zero v w e =
      let same = ap (λ (z : View E F). ticket_count z.ticket) (some-injective x v e) in omega arith
  tickets_of-set (x ∷ xs) (suc i) v w e = let r = tickets_of-set xs i v w e in omega arith

  pub tickets_of-snoc : (views : List (View E F)) (w : View E F)
      → tickets_of (views ++ w ∷ []) ≡ tickets_of views + ticket_count w.ticket
  tickets_of-snoc [] w = omega arith
  tickets_of-snoc (x ∷ xs) w = let r = tickets_of-snoc xs w in omega arith

  -- what is said of every view, where one has changed
  pub all_set : (P : ℕ → View E F → Type 0) (vs : List (View E F)) (me : ℕ) (w : View E F) → P me w
      → ((j : ℕ) (u : View E F) → j ≢ me → get_elem? vs j ≡ some u → P j u)
      → (j : ℕ) (u : View E F) → get_elem? (set vs me w) j ≡ some u → P j u
  all_set P vs me w mine others j u e = ⊎_elim
      (λ (t : (j ≡ me) × (w ≡ u)). subst (λ (x : ℕ × View E F). P x.0 x.1) (λ i. (sym t.0 i, t.1 i)) mine)
      (λ (t : (j ≢ me) × (get_elem? vs j ≡ some u)). others j u t.0 t.1)
      (at_set vs me j w u e)

  -- what is said of every view, where there is one more at the end
  pub all_snoc : (P : ℕ → View E F → Type 0) (vs : List (View E F)) (w : View E F) → P (length vs) w
      → ((j : ℕ) (u : View E F) → get_elem? vs j ≡ some u → P j u)
      → (j : ℕ) (u : View E F) → get_elem? (vs ++ w ∷ []) j ≡ some u → P j u
  all_snoc P vs w last others j u e = ⊎_elim
      (others j u)
      (λ (t : (j ≡ length vs) × (w ≡ u)). subst (λ (x : ℕ × View E F). P x.0 x.1) (λ i. (sym t.0 i, t.1 i)) last)
      (snoc_cases vs w u j e)

  -- no seat that was joined into another comes back
  abbrev pub Fading : (before after : List (View E F)) → Type 0
  Fading vs ws = (n : ℕ) (u : View E F) → n < length vs → get_elem? ws n ≡ some u
      → (t : View E F) × (get_elem? vs n ≡ some t) × (t.live ≡ false → u.live ≡ false)

  pub Fading-set : (vs : List (View E F)) (i : ℕ) (v w : View E F) → get_elem? vs i ≡ some v
      → (v.live ≡ false → w.live ≡ false) → Fading vs (set vs i w)
  Fading-set vs i v w at dies n u h e = ⊎_elim
      (λ (t : (n ≡ i) × (w ≡ u)).
      (v, ap (get_elem? vs) t.0 ∙ at, λ z. ap (λ (y : View E F). y.live) (sym t.1) ∙ dies z))
      (λ (t : (n ≢ i) × (get_elem? vs n ≡ some u)). (u, t.1, λ z. z))
      (at_set vs i n w u e)

  IsGone-fading : (vs ws : List (View E F)) (n : ℕ) → n < length vs → Fading vs ws → IsGone vs n → IsGone ws n
  IsGone-fading vs ws n h fade gone u e = let f = fade n u h e in f.2 (gone f.0 f.1)

  -- the history after is the one before and more entries, all of them of the seat id, which wasn't joined into another
  pub record Grows (maker : E → ℕ) (vs : List (View E F)) (id : ℕ) (before after : List E) : Type 0 where
    pub more : List E
    pub is : after ≡ before ++ more
    pub others : (k : ℕ) → k ≢ id → made_by maker k after ≡ made_by maker k before
    pub asleep : IsGone vs id → after ≡ before

  pub same_log : (maker : E → ℕ) (vs : List (View E F)) (id : ℕ) (log : List E) → Grows maker vs id log log
  same_log maker vs id log =
      record { more = []; is = sym (append-nil log); others = λ k ne. refl; asleep = λ _. refl }

  module _
      (maker : E → ℕ) (vs : List (View E F)) (id : ℕ) (log log' : List E) (g : Grows maker vs id log log') where
    longer : length log ≤ length log'
    longer = let e = ap length g.is in omega (arith, length-append log g.more)

    BeginsWith-grows : (seen : List E) → BeginsWith log seen → BeginsWith log' seen
    BeginsWith-grows seen b = (b.0 ++ g.more, g.is ∙ (ap (λ l. l ++ g.more) b.1 ∙ append_assoc seen b.0 g.more))

    -- what was known of a seat that is gone still holds
    pub gone_still : (ws : List (View E F)) → length vs ≤ length ws → Fading vs ws → (f : Facts E)
        → (f.number < length vs) × IsGone vs f.number × BearsOut maker log f
        → (f.number < length ws) × IsGone ws f.number × BearsOut maker log' f
    gone_still ws long fade f h =
        let b = h.0 in
        let t = h.2 in
        let c = t.2 in
        let l = longer in (
          omega arith,
          IsGone-fading vs ws f.number b fade h.1,
          (
            BeginsWith-grows f.seen t.0,
            dite (ℕ_discrete f.number id)
                (λ z. ap (made_by maker f.number) (g.asleep (subst (IsGone vs) z h.1)) ∙ t.1)
                (λ ne. g.others f.number ne ∙ t.1),
            omega arith,
          ),
        )

    -- a view that doesn't change still fits
    pub still : (fixed : F) (d s d' s' : ℕ) (ws : List (View E F)) (j : ℕ) (u : View E F) → d ≤ d'
        → length vs ≤ length ws → Fading vs ws → j ≢ id
        → ((t : ℕ) → u.ticket ≡ Some t → s ≤ t → s' ≤ t)
        → (u.inside ≡ true → (s ≡ s') × (log ≡ log'))
        → (0 < u.given → length vs ≡ length ws)
        → Knows maker fixed d s log vs j u → Knows maker fixed d' s' log' ws j u
    still fixed d s d' s' ws j u more long fade ne later same as_many k =
        let l = longer in
        let counted = k.counted in record {
          place = k.place;
          waits = λ t e. let h = k.waits t e in let l = h.1 in (later t e h.0, omega arith);
          turn = λ e. let h = k.turn e in let q = same e in (h.0, h.1 ∙ ap (λ (z : ℕ). Some z) q.0, h.2 ∙ q.1);
          giver = λ e. let h = k.giver e in (h.0, h.1 ∙ as_many e);
          begins = BeginsWith-grows u.seen k.begins;
          own = λ e. g.others j ne ∙ k.own e;
          counted = omega arith;
          gone = λ i f e. gone_still ws long fade f (k.gone i f e);
        }

  -- a view with another ticket and other entries fits
  pub renewed : (maker : E → ℕ) (fixed : F) (d s d' s' : ℕ) (log log' : List E) (vs : List (View E F)) (id : ℕ)
      (v : View E F) (t : Option ℕ) (i : Bool) (seen mine : List E) (counted : ℕ)
      → Grows maker vs id log log' → get_elem? vs id ≡ some v → Knows maker fixed d s log vs id v
      → ((n : ℕ) → t ≡ Some n → (s' ≤ n) × (n < d'))
      → (i ≡ true → (v.live ≡ true) × (t ≡ Some s') × (seen ≡ log'))
      → BeginsWith log' seen
      → (v.live ≡ true → made_by maker id log' ≡ mine)
      → counted ≤ length log'
      → let w : View E F = record v { ticket = t; inside = i; seen = seen; mine = mine; counted = counted } in
      Knows maker fixed d' s' log' (set vs id w) id w
  renewed maker fixed d s d' s' log log' vs id v t i seen mine counted grows at k waits turn begins own read =
      let w : View E F = record v { ticket = t; inside = i; seen = seen; mine = mine; counted = counted } in
      let same = length-set vs id w in record {
        place = k.place;
        waits = waits;
        turn = turn;
        giver = λ e. let g = k.giver e in (g.0, g.1 ∙ sym same);
        begins = begins;
        own = own;
        counted = read;
        gone = λ i f e. gone_still maker vs id log log' grows (set vs id w) (omega arith)
            (Fading-set vs id v w at (λ z. z)) f (k.gone i f e);
      }
