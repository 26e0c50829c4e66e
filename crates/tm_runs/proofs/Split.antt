-- What the laws say of a run, as a list of steps.
use Rattle.std.proofs.Common.{◌≡◌, ℕ, zero, suc, ◌+◌, ◌≤◌, List, [], ◌∷◌, ◌++◌, length, Option, None, Some, ◌⊎◌, inl}
use Rattle.std.proofs.Common.{inr, refl, sym, ap, ◌∙◌, subst, arith, append_assoc}
use Rattle.tm_table.specs.declared.instr.Instr.{Instr}
use Rattle.tm_table.specs.Row.{Effect, Gives, Loads, Stores, Branches, Jumps}
use Rattle.tm_runs.specs.Machine.{World, State, Entry, Strays, act, effect_in, after, May, MayAct, Reads, IsNarrow}
use Rattle.tm_runs.specs.Runs.{Takes, Now, Step, Upto, Unwatched, Came, Went, Strayed, KeepsUntil, Newest, Each, Since}
use Rattle.tm_runs.specs.Runs.{Next, ByTable, InStream, Narrow, Apart, Run, Goes, Runs, Strolls, Stopped, Passed}
use Rattle.tm_runs.proofs.Compose.{takes_map, upto_map}

-- each step makes one entry
pub record Logs (s t : State) : Type 0 where
  pub entry : Entry
  pub log : t.log ≡ entry ∷ s.log
  pub from : entry.pc ≡ s.pc
  pub next : entry.next ≡ t.pc

acts_log : (e : Effect) (w : World) (i : Instr) (v : ℕ) (s : State) → Logs s (act e w i v s)
acts_log (Gives value) w i v s = record { entry = _; log = refl; from = refl; next = refl }
acts_log (Loads addr width with_sign) w i v s = record { entry = _; log = refl; from = refl; next = refl }
acts_log (Stores addr width value) w i v s = record { entry = _; log = refl; from = refl; next = refl }
acts_log (Branches taken) w i v s = record { entry = _; log = refl; from = refl; next = refl }
acts_log (Jumps link goes) w i v s = record { entry = _; log = refl; from = refl; next = refl }

pub one_entry : (w : World) (i : Instr) (v : ℕ) (s : State) → Logs s (after w i v s)
one_entry w i v s = acts_log (effect_in i s) w i v s

each_last : (E : Entry → Type 0) (es : List Entry) (e : Entry) → Each E es → E e → Each E (es ++ e ∷ [])
each_last E [] e a b = (b, tt)
each_last E (x ∷ es) e a b = (a.0, each_last E es e a.1 b)

since_one : {E : Entry → Type 0} {s t : State} (e : Entry) → t.log ≡ e ∷ s.log → Newest E t.log → Since E s t
since_one {E = E} e is h = record { entries = e ∷ []; log = is; each = (subst (Newest E) is h, tt) }

since_more : {E : Entry → Type 0} {s t u : State} (e : Entry) → t.log ≡ e ∷ s.log → Newest E t.log → Since E t u
    → Since E s u
since_more {E = E} {s = s} e is new h =
    record {
      entries = h.entries ++ e ∷ [];
      log = h.log ∙ ap (λ x. h.entries ++ x) is ∙ sym (append_assoc h.entries (e ∷ []) s.log);
      each = each_last E h.entries e h.each (subst (Newest E) is new);
    }

-- What holds of the newest entry after each step holds of each entry since s, on the way and at the end.
pub takes_since : {w : World} {E : Entry → Type 0} {Q : State → Type 0} {n : ℕ} {s : State}
    → Takes w (λ t. Newest E t.log) Q n s → Takes w (λ t. Newest E t.log × Since E s t) (λ t. Q t × Since E s t) n s
takes_since (Now q) = Now (q, record { entries = []; log = refl; each = tt })
takes_since {w = w} {E = E} (Step {s = s} i e f g h) =
    Step i e f (λ v r. (g v r, since_one (one_entry w i v s).entry (one_entry w i v s).log (g v r)))
    (λ v r. takes_map (λ t k. (k.0, since_more (one_entry w i v s).entry (one_entry w i v s).log (g v r) k.1))
    (λ t k. (k.0, since_more (one_entry w i v s).entry (one_entry w i v s).log (g v r) k.1)) (takes_since (h v r)))

upto_since : {w : World} {E : Entry → Type 0} {Q : State → Type 0} {n : ℕ} {s : State}
    → Upto w (λ t. Newest E t.log) Q n s → Upto w (λ t. Newest E t.log × Since E s t) (λ t. Q t × Since E s t) n s
upto_since Unwatched = Unwatched
upto_since (Came q) = Came (q, record { entries = []; log = refl; each = tt })
upto_since {w = w} {E = E} (Went {s = s} i e f g h) =
    Went i e f (λ v r. (g v r, since_one (one_entry w i v s).entry (one_entry w i v s).log (g v r)))
    (λ v r. upto_map (λ t k. (k.0, since_more (one_entry w i v s).entry (one_entry w i v s).log (g v r) k.1))
    (λ t k. (k.0, since_more (one_entry w i v s).entry (one_entry w i v s).log (g v r) k.1)) (upto_since (h v r)))
upto_since {E = E} (Strayed {s = s} lo hi e g h) =
    Strayed lo hi e (λ t r. (g t r, since_one r.entry r.log (g t r)))
    (λ t r. upto_map (λ u k. (k.0, since_more r.entry r.log (g t r) k.1))
    (λ u k. (k.0, since_more r.entry r.log (g t r) k.1)) (upto_since (h t r)))

pub keeps_since : {w : World} {E : Entry → Type 0} {Q : State → Type 0} {s : State}
    → KeepsUntil w (λ t. Newest E t.log) Q s
    → KeepsUntil w (λ t. Newest E t.log × Since E s t) (λ t. Q t × Since E s t) s
keeps_since h = record { upto = λ n. upto_since (h.upto n) }

-- a bounded part makes at most n entries
pub takes_count : {w : World} {G Q : State → Type 0} {n : ℕ} {s : State} → Takes w G Q n s
    → Takes w (λ t. G t × (length t.log ≤ length s.log + n)) (λ t. Q t × (length t.log ≤ length s.log + n)) n s
takes_count (Now q) = Now (q, omega arith)
takes_count {w = w} (Step {n = n} {s = s} i e f g h) =
    let grows : (v : ℕ) → length (after w i v s).log ≡ suc (length s.log) = λ v. ap length (one_entry w i v s).log in
    Step i e f (λ v r. (g v r, omega (arith, grows v)))
    (λ v r. takes_map (λ t k. (k.0, omega (arith, grows v, k.1))) (λ t k. (k.0, omega (arith, grows v, k.1)))
    (takes_count (h v r)))

-- an effect that may be made is of no less than a dword
not_narrow : (e : Effect) (w : World) → MayAct e w → IsNarrow e → ⊥
not_narrow (Gives value) w m n = n
not_narrow (Loads addr width with_sign) w m n = omega (arith, m.0)
not_narrow (Stores addr width value) w m n = omega (arith, m.0)
not_narrow (Branches taken) w m n = n
not_narrow (Jumps link goes) w m n = n

same_instr : {o : Option Instr} {i j : Instr} → o ≡ Some i → o ≡ Some j → i ≡ j
same_instr p q = cc

same_stream : {o : Option (ℕ × ℕ)} {a b c d : ℕ} → o ≡ Some (a, b) → o ≡ Some (c, d) → (a ≡ c) × (b ≡ d)
same_stream {a = a} {b = b} {c = c} {d = d} p q = let e : ◌≡◌ {A = ℕ × ℕ} (a, b) (c, d) = cc in
    (ap (λ (x : ℕ × ℕ). x.0) e, ap (λ (x : ℕ × ℕ). x.1) e)

module _ (w : World) (apart : Apart w) where
  -- what holds after every step by the table holds after the step that was made
  pub by_table : (P : State → Type 0) {s : State} (i : Instr) → w.text s.pc ≡ Some i → May w i s
      → ((v : ℕ) → Reads w i s v → P (after w i v s)) → (u : State) → Next w s u → P u
  by_table P {s = s} i e may h u (ByTable j v e' f r) =
      let same : j ≡ i = same_instr e' e in
      subst (λ (x : Instr). P (after w x v s)) (sym same) (h v (subst (λ (x : Instr). Reads w x s v) same r))
  by_table P {s = s} i e may h u (InStream lo hi e' r) = absurd (apart s.pc lo hi i e e')
  by_table P {s = s} i e may h u (Narrow j e' n) =
      let same : j ≡ i = same_instr e' e in
      absurd (not_narrow (effect_in i s) w may (subst (λ (x : Instr). IsNarrow (effect_in x s)) same n))

  by_stream : (P : State → Type 0) {s : State} (lo hi : ℕ) → w.stream s.pc ≡ Some (lo, hi)
      → ((t : State) → Strays w lo hi s t → P t) → (u : State) → Next w s u → P u
  by_stream P {s = s} lo hi e h u (ByTable j v e' f r) = absurd (apart s.pc lo hi j e' e)
  by_stream P {s = s} lo hi e h u (Narrow j e' n) = absurd (apart s.pc lo hi j e' e)
  by_stream P {s = s} lo hi e h u (InStream lo' hi' e' r) =
      let same = same_stream e' e in
      h u (subst (λ (x : ℕ). Strays w lo x s u) same.1 (subst (λ (x : ℕ). Strays w x hi' s u) same.0 r))

  longer : {Q : State → Type 0} {k : ℕ} {s u t : State} → Next w s u → Passed w Q k u t → Passed w Q (suc k) s t
  longer {u = u} a p = record {
    first = suc p.first;
    second = p.second;
    mid = p.mid;
    before = (u, a, p.before);
    there = p.there;
    behind = p.behind;
    sum = omega (arith, p.sum);
  }

  good_at : (G : State → Type 0) (k : ℕ) {v t : State} → Run w k v t → G v → (k ≡ 0) ⊎ G t → G t
  good_at G zero r g o = subst G (sym r) g
  good_at G (suc k) r g (inl o) = absurd (omega arith)
  good_at G (suc k) r g (inr o) = o

  join : (G : State → Type 0) {Q : State → Type 0} (k : ℕ) {s u t : State} → Next w s u → Run w k u t → G u
      → ((k ≡ 0) ⊎ G t) ⊎ Passed w Q k u t → ((suc k ≡ 0) ⊎ G t) ⊎ Passed w Q (suc k) s t
  join G k a r g (inl o) = inl (inr (good_at G k r g o))
  join G k a r g (inr p) = inr (longer a p)

  -- what `Upto` says of a run
  pub upto_run : {G Q : State → Type 0} {k : ℕ} {s : State} → Upto w G Q k s → (t : State) → Run w k s t
      → ((k ≡ 0) ⊎ G t) ⊎ Passed w Q k s t
  upto_run Unwatched t r = inl (inl refl)
  upto_run (Came {n = n} {s = s} q) t r =
      inr (record { first = 0; second = n; mid = s; before = refl; there = q; behind = r; sum = omega arith })
  upto_run {G = G} {Q = Q} (Went {n = n} {s = s} i e f g h) t r =
      join G n r.1 r.2 (by_table G i e f g r.0 r.1) (by_table (λ u. Run w n u t → ((n ≡ 0) ⊎ G t)
      ⊎ Passed w Q n u t) i e f (λ v a. upto_run (h v a) t) r.0 r.1 r.2)
  upto_run {G = G} {Q = Q} (Strayed {n = n} {s = s} lo hi e g h) t r =
      join G n r.1 r.2 (by_stream G lo hi e g r.0 r.1) (by_stream (λ u. Run w n u t → ((n ≡ 0) ⊎ G t)
      ⊎ Passed w Q n u t) lo hi e (λ u a. upto_run (h u a) t) r.0 r.1 r.2)

  -- so every run of whatever length has G at its end, or has passed Q
  pub keeps_run : {G Q : State → Type 0} {s : State} → KeepsUntil w G Q s → (k : ℕ) (t : State) → Run w k s t
      → ((k ≡ 0) ⊎ G t) ⊎ Passed w Q k s t
  keeps_run h k t r = upto_run (h.upto k) t r

  onward : {Q : State → Type 0} (k : ℕ) {s u t : State} → Next w s u → Goes w t ⊎ Passed w Q k u t → Goes w t
      ⊎ Passed w Q (suc k) s t
  onward k a (inl g) = inl g
  onward k a (inr p) = inr (longer a p)

  upto_can : {G Q : State → Type 0} {n k : ℕ} {s : State} → Upto w G Q n s → n ≡ suc k → (t : State) → Run w k s t
      → Goes w t ⊎ Passed w Q k s t
  upto_can Unwatched e t r = absurd (omega arith)
  upto_can {k = k} (Came {s = s} q) e t r =
      inr (record { first = 0; second = k; mid = s; before = refl; there = q; behind = r; sum = omega arith })
  upto_can {k = zero} (Went {s = s} i e f g h) is t r =
      inl (subst (Goes w) (sym r) (Runs (record { instr = i; fetched = e; may = f })))
  upto_can {k = zero} (Strayed {s = s} lo hi e g h) is t r = inl (subst (Goes w) (sym r) (Strolls lo hi e))
  upto_can {G = G} {Q = Q} {k = suc k} (Went {n = n} {s = s} i e f g h) is t r =
      onward k r.1 (by_table (λ u. Run w k u t → Goes w t
      ⊎ Passed w Q k u t) i e f (λ v a. upto_can (h v a) (omega arith) t) r.0 r.1 r.2)
  upto_can {G = G} {Q = Q} {k = suc k} (Strayed {n = n} {s = s} lo hi e g h) is t r =
      onward k r.1 (by_stream (λ u. Run w k u t → Goes w t
      ⊎ Passed w Q k u t) lo hi e (λ u a. upto_can (h u a) (omega arith) t) r.0 r.1 r.2)

  -- a run that has not passed Q can go on
  pub keeps_can : {G Q : State → Type 0} {s : State} → KeepsUntil w G Q s → (k : ℕ) (t : State) → Run w k s t → Goes w t
      ⊎ Passed w Q k s t
  keeps_can h k t r = upto_can (h.upto (suc k)) refl t r

-- nothing is behind a state at which no step is made
no_step : (w : World) (s t : State) → Stopped w s → Next w s t → ⊥
no_step w s t h (ByTable i v e f r) = none (h.0) e
  where
    none : {o : Option Instr} → o ≡ None → o ≡ Some i → ⊥
    none p q = cc
no_step w s t h (Narrow i e n) = none (h.0) e
  where
    none : {o : Option Instr} → o ≡ None → o ≡ Some i → ⊥
    none p q = cc
no_step w s t h (InStream lo hi e r) = none (h.1) e
  where
    none : {o : Option (ℕ × ℕ)} → o ≡ None → o ≡ Some (lo, hi) → ⊥
    none p q = cc

pub end_of : (w : World) (k : ℕ) (s t : State) → Stopped w s → Run w k s t → t ≡ s
end_of w zero s t h r = r
end_of w (suc k) s t h r = absurd (no_step w s r.0 h r.1)

-- one more step at a run's end
pub run_more : (w : World) (k : ℕ) (s t u : State) → Run w k s t → Next w t u → Run w (suc k) s u
run_more w zero s t u r n = (u, subst (λ (x : State). Next w x u) r n, refl)
run_more w (suc k) s t u r n = (r.0, r.1, run_more w k r.0 t u r.2 n)
