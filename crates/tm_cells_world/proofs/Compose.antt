-- The laws by which runs of the machine with an add compose, and how the laws of support code become laws of it.
use Rattle.std.proofs.Common.{◌≡◌, ℕ, zero, suc, ◌+◌, ◌^◌, ◌<◌, ◌≤◌, List, [], ◌∷◌, ◌++◌, Option, None, Some}
use Rattle.std.proofs.Common.{refl, sym, ap, ◌∙◌, subst, arith, append_assoc}
use Rattle.tm_table.specs.declared.instr.Instr.{Instr}
use Rattle.tm_table.specs.Row.{Effect, Gives, Loads, Stores, Branches, Jumps}
use Rattle.tm_table.specs.declared.add.Add.{Add}
use Rattle.tm_runs.specs.Machine.{World, State, Entry, get, act, effect_in, after, MayAccess}
use Rattle.tm_runs.specs.Runs.{Takes, Now, Step, Newest, Upto, Unwatched, Came, Went, Strayed, KeepsUntil, Each}
use Rattle.tm_runs.proofs.Compose.{keeps_after, keeps_now}
use Rattle.tm_cells_world.specs.Machine.{During, Unseen, There, Rows, Adds, Holds, Fetched, ByRows, added}

module _ {w : World} {adds : ℕ → Option Add} where
  -- weaker facts
  during_map : {G H P Q : State → Type 0} {n : ℕ} {s : State} → ((t : State) → G t → H t) → ((t : State) → P t → Q t)
      → During w adds G P n s → During w adds H Q n s
  during_map g f Unseen = Unseen
  during_map g f (There p) = There (f _ p)
  during_map g f (Rows i e may now r) = Rows i e may (λ v a. g _ (now v a)) (λ v a. during_map g f (r v a))
  during_map g f (Adds a e may now r) = Adds a e may (λ v l. g _ (now v l)) (λ v l. during_map g f (r v l))

  pub holds_map : {G H P Q : State → Type 0} {s : State} → ((t : State) → G t → H t) → ((t : State) → P t → Q t)
      → Holds w adds G P s → Holds w adds H Q s
  holds_map g f h = record { during = λ n. during_map g f (h.during n) }

  -- the sequence
  during_then : {G P Q : State → Type 0} {k : ℕ} {s : State} → During w adds G P k s
      → ((j : ℕ) (t : State) → P t → During w adds G Q j t) → During w adds G Q k s
  during_then Unseen f = Unseen
  during_then (There {n = n} p) f = f n _ p
  during_then (Rows i e may g h) f = Rows i e may g (λ v r. during_then (h v r) f)
  during_then (Adds a e may g h) f = Adds a e may g (λ v l. during_then (h v l) f)

  pub holds_then : {G P Q : State → Type 0} {s : State} → Holds w adds G P s
      → ((t : State) → P t → Holds w adds G Q t) → Holds w adds G Q s
  holds_then h f = record { during = λ n. during_then (h.during n) (λ j t p. (f t p).during j) }

  pub holds_now : {G Q : State → Type 0} {s : State} → Q s → Holds w adds G Q s
  holds_now q = record { during = λ n. There q }

  -- a counted loop, upwards: from k to k + n
  pub holds_up : {G : State → Type 0} (J : ℕ → State → Type 0) (n a : ℕ)
      → ((k : ℕ) (t : State) → a ≤ k → k < a + n → J k t → Holds w adds G (J (suc k)) t) → (s : State) → J a s
      → Holds w adds G (J (a + n)) s
  holds_up J zero a turn s j = let e : a ≡ a + 0 = omega arith in holds_now (subst (λ (k : ℕ). J k s) e j)
  holds_up {G = G} J (suc n) a turn s j =
      let e : suc a + n ≡ a + suc n = omega arith in
      subst (λ (k : ℕ). Holds w adds G (J k) s) e
      (holds_then (turn a s (omega arith) (omega arith) j)
      (λ t i. holds_up J n (suc a) (λ k u l m. turn k u (omega arith) (omega arith)) t i))

  -- one add
  one_add : {G Q : State → Type 0} {s : State} (a : Add) → adds s.pc ≡ Some a → MayAccess w (get s.regs a.rs1)
      → ((v : ℕ) → v < 2 ^ 64 → G (added w a v s)) → ((v : ℕ) → v < 2 ^ 64 → Q (added w a v s)) → (n : ℕ)
      → During w adds G Q n s
  one_add a e may g q zero = Unseen
  one_add a e may g q (suc n) = Adds a e may g (λ v l. There (q v l))

  pub holds_add : {G Q : State → Type 0} {s : State} (a : Add) → adds s.pc ≡ Some a → MayAccess w (get s.regs a.rs1)
      → ((v : ℕ) → v < 2 ^ 64 → G (added w a v s)) → ((v : ℕ) → v < 2 ^ 64 → Q (added w a v s)) → Holds w adds G Q s
  holds_add a e may g q = record { during = one_add a e may g q }

-- ---- support code without adds

-- each step makes one entry, with its word
record Made (w : World) (s t : State) : Type 0 where
  entry : Entry
  log : t.log ≡ entry ∷ s.log
  fetched : Fetched w entry

acts : (w : World) (e : Effect) (i : Instr) (v : ℕ) (s : State) → w.text s.pc ≡ Some i → Made w s (act e w i v s)
acts w (Gives value) i v s at = record { entry = _; log = refl; fetched = record { instr = i; at = at; word = refl } }
acts w (Loads addr width with_sign) i v s at =
    record { entry = _; log = refl; fetched = record { instr = i; at = at; word = refl } }
acts w (Stores addr width value) i v s at =
    record { entry = _; log = refl; fetched = record { instr = i; at = at; word = refl } }
acts w (Branches taken) i v s at =
    record { entry = _; log = refl; fetched = record { instr = i; at = at; word = refl } }
acts w (Jumps link goes) i v s at =
    record { entry = _; log = refl; fetched = record { instr = i; at = at; word = refl } }

one : (w : World) (i : Instr) (v : ℕ) (s : State) → w.text s.pc ≡ Some i → Made w s (after w i v s)
one w i v s at = acts w (effect_in i s) i v s at

each_last : (E : Entry → Type 0) (es : List Entry) (e : Entry) → Each E es → E e → Each E (es ++ e ∷ [])
each_last E [] e a b = (b, tt)
each_last E (x ∷ es) e a b = (a.0, each_last E es e a.1 b)

none : (w : World) (s : State) → ByRows w s s
none w s = record { entries = []; log = refl; each = tt }

first : (w : World) (s t : State) → Made w s t → ByRows w s t
first w s t m = record { entries = m.entry ∷ []; log = m.log; each = (m.fetched, tt) }

more : (w : World) (s t u : State) → Made w s t → ByRows w t u → ByRows w s u
more w s t u m r = record {
  entries = r.entries ++ m.entry ∷ [];
  log = r.log ∙ ap (λ (x : List Entry). r.entries ++ x) m.log ∙ sym (append_assoc r.entries (m.entry ∷ []) s.log);
  each = each_last (Fetched w) r.entries m.entry r.each m.fetched;
}

-- what holds of the newest entry, and that it has its word
newest-more : (w : World) (E : Entry → Type 0) (s t : State) → Made w s t → Newest E t.log
    → Newest (λ e. E e × Fetched w e) t.log
newest-more w E s t m n = subst (Newest (λ e. E e × Fetched w e)) (sym m.log) (subst (Newest E) m.log n, m.fetched)

pub takes_words : {w : World} {E : Entry → Type 0} {Q : State → Type 0} {n : ℕ} {s : State}
    → Takes w (λ t. Newest E t.log) Q n s → Takes w (λ t. Newest (λ e. E e × Fetched w e) t.log) Q n s
takes_words (Now q) = Now q
takes_words {w = w} {E = E} (Step {s = s} i e may g h) =
    Step i e may (λ v r. newest-more w E s (after w i v s) (one w i v s e) (g v r)) (λ v r. takes_words (h v r))

module _ {w : World} {adds : ℕ → Option Add} (none-stray : (a : ℕ) → w.stream a ≡ None) where
  lift : {G Q : State → Type 0} {n : ℕ} {s : State} → Upto w G Q n s
      → During w adds (λ t. G t × ByRows w s t) (λ t. Q t × ByRows w s t) n s
  lift Unwatched = Unseen
  lift (Came q) = There (q, none w _)
  lift (Went {s = s} i e may g h) =
      Rows i e may (λ v r. (g v r, first w s (after w i v s) (one w i v s e)))
      (λ v r. during_map (λ t k. (k.0, more w s (after w i v s) t (one w i v s e) k.1)) (λ t k. (k.0, more w s (after w i v s) t (one w i v s e) k.1)) (lift (h v r)))
  lift (Strayed {s = s} lo hi e g h) = absurd (no (none-stray s.pc) e)
    where
      no : {o : Option (ℕ × ℕ)} → o ≡ None → o ≡ Some (lo, hi) → ⊥
      no p q = cc

  -- What every run of support code without streams does, it does here too.
  pub holds_keeps : {G Q : State → Type 0} {s : State} → KeepsUntil w G Q s
      → Holds w adds (λ t. G t × ByRows w s t) (λ t. Q t × ByRows w s t) s
  holds_keeps k = record { during = λ n. lift (k.upto n) }

  pub holds_takes : {G Q : State → Type 0} {n : ℕ} {s : State} → Takes w G Q n s
      → Holds w adds (λ t. G t × ByRows w s t) (λ t. Q t × ByRows w s t) s
  holds_takes h = holds_keeps (keeps_after h (λ t q. keeps_now q))
