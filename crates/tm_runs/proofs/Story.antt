-- How a log's story grows over a part of support code, over one step, and over a stream.
use Rattle.std.proofs.Common.{◌≡◌, ℕ, suc, ◌+◌, ◌<◌, ◌≤◌, List, [], ◌∷◌, ◌++◌, length, Some, ◌⊎◌}
use Rattle.std.proofs.Common.{inl, inr, sym, ap, ap₂, ◌∙◌, subst, arith, append-nil, length-append}
use Rattle.std.proofs.lemmas.Bool.{cases_lt}
use Rattle.tm_world.specs.Marks.{Mark, End}
use Rattle.tm_world.specs.Run.{Step, Always}
use Rattle.tm_runs.specs.Machine.{World, State, Entry, Strays}
use Rattle.tm_runs.specs.Runs.{Takes, KeepsUntil, Newest, Each, Since}
use Rattle.tm_runs.specs.Shadow.{entry_of, entries_of}
use Rattle.tm_runs.specs.Course.{Story, Sofar, Good, Calm}
use Rattle.tm_runs.proofs.Compose.{takes_map, keeps_map, keeps_stream}
use Rattle.tm_runs.proofs.Split.{takes_since, takes_count}

-- weaker facts of each entry
pub each-map : {E F : Entry → Type 0} → ((e : Entry) → E e → F e) → (es : List Entry) → Each E es → Each F es
each-map f [] h = tt
each-map f (e ∷ es) h = (f e h.0, each-map f es h.1)

-- and of each with what stands before it
pub story-map : (F G : List Entry → Entry → Type 0) → ((past : List Entry) (e : Entry) → F past e → G past e)
    → (log : List Entry) → Story F log → Story G log
story-map F G f [] h = tt
story-map F G f (e ∷ log) h = (f log e h.0, story-map F G f log h.1)

-- the story of a hart's own steps
pub story-own : (F : List Entry → Entry → Type 0) (P : List Step → Step → Type 0)
    → ((past : List Step) (s : Step) → F (entries_of past) (entry_of s) → P past s) → (own : List Step)
    → Story F (entries_of own) → Always P own
story-own F P f [] h = tt
story-own F P f (s ∷ past) h = (f past s h.0, story-own F P f past h.1)

-- a measure of logs that grows by one for each entry, at most
abbrev pub IsMeasure : (List Entry → ℕ) → Type 0
IsMeasure size = (e : Entry) (log : List Entry) → size (e ∷ log) ≤ suc (size log)

module _ (arrive : ℕ → ℕ → List Mark) (F : List Entry → Entry → Type 0) (size : List Entry → ℕ) where
  -- one entry more
  pub sofar-one : IsMeasure size → (ms more : List Mark) (k : ℕ) (e : Entry) (log : List Entry) → arrive e.pc e.next
      ≡ more → F log e → Sofar arrive F size ms k log → Sofar arrive F size (ms ++ more) (suc k) (e ∷ log)
  sofar-one grows ms more k e log a f s = record {
    way = ap₂ (λ (x y : List Mark). x ++ y) s.way a;
    story = (f, s.story);
    few = omega (arith, grows e log, s.few);
  }

  -- one entry more that does not count
  pub sofar-past : (ms more : List Mark) (k : ℕ) (e : Entry) (log : List Entry) → arrive e.pc e.next ≡ more → F log e
      → size (e ∷ log) ≤ size log → Sofar arrive F size ms k log → Sofar arrive F size (ms ++ more) k (e ∷ log)
  sofar-past ms more k e log a f out s =
      record { way = ap₂ (λ (x y : List Mark). x ++ y) s.way a; story = (f, s.story); few = omega (arith, out, s.few) }

  -- calm entries more
  calm-log : IsMeasure size → (E : Entry → Type 0) → ((e : Entry) → E e → Calm arrive F e)
      → (ms : List Mark) (k n : ℕ) (es log : List Entry) → length es ≤ n → Each E es → Sofar arrive F size ms k log
      → Sofar arrive F size ms (k + n) (es ++ log)
  calm-log grows E calm ms k n [] log l h s = record { way = s.way; story = s.story; few = omega (arith, s.few) }
  calm-log grows E calm ms k n (e ∷ es) log l h s =
      let before : Sofar arrive F size ms (k + length es) (es ++ log) =
      calm-log grows E calm ms k (length es) es log (omega arith) h.1 s in
      let c = calm e h.0 in
      let more = sofar-one grows ms [] (k + length es) e (es ++ log) c.mark (c.fact (es ++ log)) before in
      record { way = more.way ∙ append-nil ms; story = more.story; few = omega (arith, more.few) }

  pub since-sofar : IsMeasure size → (E : Entry → Type 0) → ((e : Entry) → E e → Calm arrive F e)
      → (ms : List Mark) (k n : ℕ) (s t : State) → length t.log ≤ length s.log + n → Since E s t
      → Sofar arrive F size ms k s.log → Sofar arrive F size ms (k + n) t.log
  since-sofar grows E calm ms k n s t l h so =
      let few : length h.entries ≤ n = omega (arith, ap length h.log, length-append h.entries s.log) in
      subst (λ (log : List Entry). Sofar arrive F size ms (k + n) log) (sym h.log)
      (calm-log grows E calm ms k n h.entries s.log few h.each so)

  -- more are allowed
  pub sofar-more : (ms : List Mark) (k n : ℕ) (log : List Entry) → k ≤ n → Sofar arrive F size ms k log
      → Sofar arrive F size ms n log
  sofar-more ms k n log l s = record { way = s.way; story = s.story; few = omega (arith, s.few) }

  pub good : (way ms rest : List Mark) (most k : ℕ) (log : List Entry) → way ≡ ms ++ rest → k ≤ most
      → Sofar arrive F size ms k log → Good arrive F size way most log
  good way ms rest most k log front l s = record {
    marks = ms;
    rest = rest;
    front = front;
    sofar = sofar-more ms k most log l s;
  }

  -- A part whose steps are calm.
  pub calmly : {w : World} {E : Entry → Type 0} {Q : State → Type 0} {n : ℕ} {s : State} → IsMeasure size
      → (way ms rest : List Mark) (most k : ℕ) → way ≡ ms ++ rest → k + n ≤ most → ((e : Entry) → E e → Calm arrive F e)
      → Sofar arrive F size ms k s.log → Takes w (λ t. Newest E t.log) Q n s
      → Takes w (λ t. Good arrive F size way most t.log) (λ t. Q t × Since E s t
      × Sofar arrive F size ms (k + n) t.log) n s
  calmly {E = E} {n = n} {s = s} grows way ms rest most k front l calm so h =
      takes_map (λ t g. good way ms rest most (k + n) t.log front l (since-sofar grows E calm ms k n s t g.1 g.0.1 so))
      (λ t q. (q.0.0, q.0.1, since-sofar grows E calm ms k n s t q.1 q.0.1 so))
      (takes_count (takes_since h))

  -- a stream, in which J is kept, and whose steps do not count
  module _ (w : World) (c lo hi : ℕ) (held : (p : ℕ) → lo ≤ p → p < hi
      → w.stream p ≡ Some (lo, hi)) (clear : (from to : ℕ) → lo ≤ from → from < hi → lo ≤ to → to < hi
      → arrive from to ≡ []) (ends : (from : ℕ) → lo ≤ from → from < hi
      → arrive from hi ≡ End c ∷ []) (within : (e : Entry) (log : List Entry) → lo ≤ e.pc → e.pc < hi
      → size (e ∷ log) ≤ size log) (J : State → Type 0) (kept : (t u : State) → J t → lo ≤ t.pc → t.pc < hi
      → Strays w lo hi t u → J u) (fact : (t u : State) → J t → lo ≤ t.pc → t.pc < hi → (r : Strays w lo hi t u)
      → F t.log r.entry) (way ms now rest : List Mark) (most k : ℕ) (front : way ≡ ms ++ now) (behind : way
      ≡ (ms ++ End c ∷ []) ++ rest) (few : k ≤ most) where
    record Inside (t : State) : Type 0 where
      stay : J t
      place : ((t.pc < hi) × Sofar arrive F size ms k t.log)
          ⊎ ((t.pc ≡ hi) × Sofar arrive F size (ms ++ End c ∷ []) k t.log)

    told : (t : State) → Inside t → Good arrive F size way most t.log
    told t i = by i.place
      where
        by : ((t.pc < hi) × Sofar arrive F size ms k t.log)
            ⊎ ((t.pc ≡ hi) × Sofar arrive F size (ms ++ End c ∷ []) k t.log) → Good arrive F size way most t.log
        by (inl p) = good way ms now most k t.log front few p.1
        by (inr p) = good way (ms ++ End c ∷ []) rest most k t.log behind few p.1

    step : (t u : State) → Inside t → lo ≤ t.pc → t.pc < hi → Strays w lo hi t u → Inside u
        × Good arrive F size way most u.log
    step t u i a b r = let j : Inside u = record {
      stay = kept t u i.stay a b r;
      place = place i.place (cases_lt u.pc hi);
    } in (j, told u j)
      where
        at-mark : (new : List Mark) → Sofar arrive F size ms k t.log → arrive t.pc u.pc ≡ new
            → Sofar arrive F size (ms ++ new) k u.log
        at-mark new so e =
            subst (λ (log : List Entry). Sofar arrive F size (ms ++ new) k log) (sym r.log)
            (sofar-past ms new k r.entry t.log (ap₂ arrive r.from r.next ∙ e) (fact t u i.stay a b r)
            (within r.entry t.log (omega (arith, r.from)) (omega (arith, r.from))) so)

        place : ((t.pc < hi) × Sofar arrive F size ms k t.log)
            ⊎ ((t.pc ≡ hi) × Sofar arrive F size (ms ++ End c ∷ []) k t.log) → (u.pc < hi) ⊎ (hi ≤ u.pc)
            → ((u.pc < hi) × Sofar arrive F size ms k u.log)
            ⊎ ((u.pc ≡ hi) × Sofar arrive F size (ms ++ End c ∷ []) k u.log)
        place (inr p) d = absurd (omega arith)
        place (inl p) (inl d) =
            inl (
              d,
              subst (λ (l : List Mark). Sofar arrive F size l k u.log) (append-nil ms)
                  (at-mark [] p.1 (clear t.pc u.pc a b r.least d)),
            )
        place (inl p) (inr d) =
            let e : u.pc ≡ hi = let q = r.most in omega arith in
            inr (e, at-mark (End c ∷ []) p.1 (ap (λ (x : ℕ). arrive t.pc x) e ∙ ends t.pc a b))

    pub stream-story : (s : State) → J s → s.pc ≡ lo → lo < hi → Sofar arrive F size ms k s.log
        → KeepsUntil w (λ t. Good arrive F size way most t.log) (λ t. J t × (t.pc ≡ hi)
        × Sofar arrive F size (ms ++ End c ∷ []) k t.log) s
    stream-story s j at some so =
        keeps_map (λ t g. g) at-end (keeps_stream w (λ t. Good arrive F size way most t.log) Inside lo hi held step s
        (record { stay = j; place = inl (omega arith, so) }) (omega arith) (omega arith))
      where
        at-end : (t : State) → Inside t × (t.pc ≡ hi) → J t × (t.pc ≡ hi)
            × Sofar arrive F size (ms ++ End c ∷ []) k t.log
        at-end t q = by q.0.place
          where
            by : ((t.pc < hi) × Sofar arrive F size ms k t.log)
                ⊎ ((t.pc ≡ hi) × Sofar arrive F size (ms ++ End c ∷ []) k t.log) → J t × (t.pc ≡ hi)
                × Sofar arrive F size (ms ++ End c ∷ []) k t.log
            by (inl p) = absurd (omega (arith, q.1, p.0))
            by (inr p) = (q.0.stay, q.1, p.1)
