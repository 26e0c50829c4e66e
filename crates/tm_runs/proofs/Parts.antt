-- Parts of a hart's way, how they join, and what they come to.
use Rattle.std.proofs.Common.{◌≡◌, ℕ, zero, suc, ◌+◌, ◌<◌, ◌≤◌, List, [], ◌∷◌, ◌++◌, Some, ◌⊎◌, inl, inr, refl, sym}
use Rattle.std.proofs.Common.{ap, ap₂, ◌∙◌, subst, arith, append_assoc, append-nil}
use Rattle.std.specs.Prelude.{flat_map}
use Rattle.std.proofs.lemmas.Bool.{cases_lt}
use Rattle.tm_table.specs.declared.state.Access.{Access}
use Rattle.tm_base.specs.Lists.{count_from}
use Rattle.tm_plan_cases.specs.declared.program.Program.{Program}
use Rattle.tm_world.specs.Place.{case_count, passes}
use Rattle.tm_world.specs.Marks.{Mark, End, Halt, pass_way, whole_way}
use Rattle.tm_runs.specs.Machine.{World, State, Entry, Strays}
use Rattle.tm_runs.specs.Runs.{Takes, KeepsUntil, Within, Does, Each, Since}
use Rattle.tm_runs.specs.Course.{trail, Grows, Part}
use Rattle.tm_runs.proofs.Compose.{keeps_after, keeps_then, keeps_now, keeps_map, keeps_stream, takes_map}
use Rattle.tm_runs.proofs.Split.{takes_since, keeps_since}

grows_front : (xs ms ns ys : List Mark) → Grows xs ms ys → Grows xs (ms ++ ns) ys
grows_front xs ms ns ys g = record {
  done = g.done;
  left = g.left ++ ns;
  sum = sym (append_assoc g.done g.left ns) ∙ ap (λ (l : List Mark). l ++ ns) g.sum;
  is = g.is;
}

grows_back : (xs ms ns ys zs : List Mark) → ys ≡ xs ++ ms → Grows ys ns zs → Grows xs (ms ++ ns) zs
grows_back xs ms ns ys zs e g =
    record {
      done = ms ++ g.done;
      left = g.left;
      sum = append_assoc ms g.done g.left ∙ ap (λ (l : List Mark). ms ++ l) g.sum;
      is = g.is ∙ (ap (λ (l : List Mark). l ++ g.done) e ∙ append_assoc xs ms g.done);
    }

module _ {w : World} {m : ℕ → ℕ → List Mark} where
  -- one part after another
  pub part_then : {P Q R : State → Type 0} {ms ns : List Mark} → Part w m P ms Q → Part w m Q ns R
      → Part w m P (ms ++ ns) R
  part_then {ms = ms} {ns = ns} a b = record {
    keeps = λ s p. keeps_then
        (keeps_map (λ t g. grows_front (trail m s.log) ms ns (trail m t.log) g) (λ t q. q) (a.keeps s p))
        (λ u q. keeps_map
        (λ t g. grows_back (trail m s.log) ms ns (trail m u.log) (trail m t.log) q.1 g)
        (λ t r. (r.0, r.1 ∙ (ap (λ (l : List Mark). l ++ ns) q.1 ∙ append_assoc (trail m s.log) ms ns)))
        (b.keeps u q.0));
  }

  pub part_weaker : {P Q R S : State → Type 0} {ms : List Mark} → ((t : State) → P t → Q t) → ((t : State) → R t → S t)
      → Part w m Q ms R → Part w m P ms S
  part_weaker f g a = record { keeps = λ s p. keeps_map (λ t h. h) (λ t h. (g t h.0, h.1)) (a.keeps s (f s p)) }

  pub part_none : {P : State → Type 0} → Part w m P [] P
  part_none = record { keeps = λ s p. keeps_now (p, sym (append-nil (trail m s.log))) }

  -- one part for each number, where J says what holds before it
  pub part_each : (f : ℕ → List Mark) (J : ℕ → State → Type 0) (n a : ℕ)
      → ((c : ℕ) → a ≤ c → c < a + n → Part w m (J c) (f c) (J (suc c)))
      → Part w m (J a) (flat_map f (count_from a n)) (J (a + n))
  part_each f J zero a h = let e : a ≡ a + 0 = omega arith in
      part_weaker (λ t j. j) (λ t j. subst (λ (c : ℕ). J c t) e j) part_none
  part_each f J (suc n) a h =
      let e : suc a + n ≡ a + suc n = omega arith in
      part_weaker (λ t j. j) (λ t j. subst (λ (c : ℕ). J c t) e j)
      (part_then (h a (omega arith) (omega arith)) (part_each f J n (suc a) (λ c p q. h c (omega arith) (omega arith))))

  -- The whole way of a program, where C c k holds before pass k of case c.
  pub part_whole : (p : Program) (C : ℕ → ℕ → State → Type 0) (Q : State → Type 0)
      → ((c k : ℕ) → c < case_count p → k < passes p → Part w m (C c k) (pass_way c) (C c (suc k)))
      → ((c : ℕ) (t : State) → C c (passes p) t → C (suc c) 0 t) → Part w m (C (case_count p) 0) (Halt ∷ []) Q
      → Part w m (C 0 0) (whole_way p) Q
  part_whole p C Q pass more halt = part_then (part_weaker (λ t h. h) (λ t h. subst (λ (n : ℕ). C n 0 t) all h) cases)
      halt
    where
      all : 0 + case_count p ≡ case_count p
      all = omega arith

      every : 0 + passes p ≡ passes p
      every = omega arith

      case : (c : ℕ) → c < case_count p → Part w m (C c 0) (flat_map (λ k. pass_way c) (count_from 0 (passes p)))
          (C (suc c) 0)
      case c l = part_weaker (λ t h. h) (λ t h. more c t (subst (λ (n : ℕ). C c n t) every h))
          (part_each (λ k. pass_way c) (C c) (passes p) 0 (λ k _ b. pass c k l (omega arith)))

      cases : Part w m (C 0 0) (flat_map (λ c. flat_map (λ k. pass_way c) (count_from 0 (passes p)))
          (count_from 0 (case_count p))) (C (0 + case_count p) 0)
      cases = part_each (λ c. flat_map (λ k. pass_way c) (count_from 0 (passes p))) (λ c. C c 0) (case_count p) 0
          (λ c _ b. case c (omega arith))

-- words in which there is no mark
module _ (w : World) (m : ℕ → ℕ → List Mark) (lo hi : ℕ) (A : Access → Type 0) (clear : (from to : ℕ) → lo ≤ from
    → from < hi → lo < to → to ≤ hi → m from to ≡ []) where
  trail_same : (es log : List Entry) → Each (Does lo hi A) es → trail m (es ++ log) ≡ trail m log
  trail_same [] log h = refl
  trail_same (e ∷ es) log h =
      ap₂ (λ (x y : List Mark). x ++ y) (trail_same es log h.1)
      (clear e.pc e.next h.0.from h.0.below h.0.least h.0.most) ∙ append-nil (trail m log)

  still : (s t : State) → Since (Does lo hi A) s t → trail m t.log ≡ trail m s.log ++ []
  still s t h = ap (trail m) h.log ∙ (trail_same h.entries s.log h.each ∙ sym (append-nil (trail m s.log)))

  pub part_words : (P Q : State → Type 0) (n : ℕ) → ((s : State) → P s → Takes w (Within lo hi A) Q n s)
      → Part w m P [] Q
  part_words P Q n h = record {
    keeps = λ s p. keeps_after
        (takes_map (λ t g. record { done = []; left = []; sum = refl; is = still s t g.1 })
        (λ t q. (q.0, still s t q.1)) (takes_since (h s p)))
        (λ t q. keeps_now q);
  }

  -- words that may wait
  pub part_waiting : (P Q : State → Type 0) → ((s : State) → P s → KeepsUntil w (Within lo hi A) Q s) → Part w m P [] Q
  part_waiting P Q h = record {
    keeps = λ s p. keeps_map (λ t g. record { done = []; left = []; sum = refl; is = still s t g.1 })
        (λ t q. (q.0, still s t q.1)) (keeps_since (h s p));
  }

-- a stream, in which F is kept
module _ (w : World) (m : ℕ → ℕ → List Mark) (c lo hi : ℕ) (held : (p : ℕ) → lo ≤ p → p < hi
    → w.stream p ≡ Some (lo, hi)) (clear : (from to : ℕ) → lo ≤ from → from < hi → lo ≤ to → to < hi
    → m from to ≡ []) (ends : (from : ℕ) → lo ≤ from → from < hi → m from hi ≡ End c ∷ []) (F : State
    → Type 0) (kept : (t u : State) → F t → Strays w lo hi t u → F u) where
  record Inside (s t : State) : Type 0 where
    fact : F t
    place : ((t.pc < hi) × (trail m t.log ≡ trail m s.log))
        ⊎ ((t.pc ≡ hi) × (trail m t.log ≡ trail m s.log ++ End c ∷ []))

  step_trail : (t u : State) → Strays w lo hi t u → trail m u.log ≡ trail m t.log ++ m t.pc u.pc
  step_trail t u r = ap (trail m) r.log ∙ ap₂ (λ (x y : ℕ). trail m t.log ++ m x y) r.from r.next

  grown : (s t : State) → Inside s t → Grows (trail m s.log) (End c ∷ []) (trail m t.log)
  grown s t j = by j.place
    where
      by : ((t.pc < hi) × (trail m t.log ≡ trail m s.log))
          ⊎ ((t.pc ≡ hi) × (trail m t.log ≡ trail m s.log ++ End c ∷ []))
          → Grows (trail m s.log) (End c ∷ []) (trail m t.log)
      by (inl p) = record { done = []; left = End c ∷ []; sum = refl; is = p.1 ∙ sym (append-nil (trail m s.log)) }
      by (inr p) = record { done = End c ∷ []; left = []; sum = refl; is = p.1 }

  next_inside : (s t u : State) → Inside s t → lo ≤ t.pc → t.pc < hi → Strays w lo hi t u → Inside s u
  next_inside s t u j a b r = record { fact = kept t u j.fact r; place = by j.place (cases_lt u.pc hi) }
    where
      by : ((t.pc < hi) × (trail m t.log ≡ trail m s.log))
          ⊎ ((t.pc ≡ hi) × (trail m t.log ≡ trail m s.log ++ End c ∷ [])) → (u.pc < hi) ⊎ (hi ≤ u.pc)
          → ((u.pc < hi) × (trail m u.log ≡ trail m s.log))
          ⊎ ((u.pc ≡ hi) × (trail m u.log ≡ trail m s.log ++ End c ∷ []))
      by (inr p) d = absurd (omega arith)
      by (inl p) (inl d) =
          inl (
            d,
            step_trail t u r ∙ (ap₂ (λ (x y : List Mark). x ++ y) p.1 (clear t.pc u.pc a b r.least d) ∙ append-nil
                (trail m s.log)),
          )
      by (inl p) (inr d) =
          let e : u.pc ≡ hi = let q = r.most in omega arith in
          inr (e, step_trail t u r ∙ ap₂ (λ (x y : List Mark). x ++ y) p.1 (ap (λ (x : ℕ). m t.pc x) e ∙ ends t.pc a b))

  pub part_stream : lo < hi → Part w m (λ s. F s × (s.pc ≡ lo)) (End c ∷ []) (λ t. F t × (t.pc ≡ hi))
  part_stream some = record {
    keeps = λ s p. keeps_map (λ t g. g) (λ t q. ((q.0.fact, q.1), at_end s t q))
        (keeps_stream w (λ t. Grows (trail m s.log) (End c ∷ []) (trail m t.log)) (Inside s) lo hi held
        (λ t u j a b r. let k = next_inside s t u j a b r in (k, grown s u k))
        s (record { fact = p.0; place = inl (omega (arith, p.1), refl) }) (omega (arith, p.1)) (omega (arith, p.1)));
  }
    where
      at_end : (s t : State) → Inside s t × (t.pc ≡ hi) → trail m t.log ≡ trail m s.log ++ End c ∷ []
      at_end s t q = by q.0.place
        where
          by : ((t.pc < hi) × (trail m t.log ≡ trail m s.log))
              ⊎ ((t.pc ≡ hi) × (trail m t.log ≡ trail m s.log ++ End c ∷ []))
              → trail m t.log ≡ trail m s.log ++ End c ∷ []
          by (inl p) = absurd (omega (arith, q.1, p.0))
          by (inr p) = p.1
