-- What the laws say of a run, as a list of steps.
use Rattle.std.proofs.Common.{◌≡◌, ℕ, zero, suc, ◌+◌, ◌^◌, ◌<◌, Option, None, Some, ◌⊎◌, inl, inr, refl, sym}
use Rattle.std.proofs.Common.{subst, arith}
use Rattle.tm_table.specs.declared.instr.Instr.{Instr}
use Rattle.tm_table.specs.declared.add.Add.{Add}
use Rattle.tm_runs.specs.Machine.{World, State, get, after, May, MayAccess, Reads}
use Rattle.tm_runs.specs.Runs.{Next, ByTable, InStream, Narrow, Apart, CanStep}
use Rattle.tm_runs.proofs.Split.{by_table}
use Rattle.tm_cells_world.specs.Machine.{Moves, ByRow, ByAdd, Ran, During, Unseen, There, Rows, Adds, Holds, added}

-- no place has an add and another row
abbrev pub AddsApart : World → (ℕ → Option Add) → Type 0
AddsApart w adds = (pc : ℕ) (i : Instr) (a : Add) → w.text pc ≡ Some i → adds pc ≡ Some a → ⊥

-- an add can be made
pub record CanAdd (w : World) (adds : ℕ → Option Add) (s : State) : Type 0 where
  pub add : Add
  pub fetched : adds s.pc ≡ Some add
  pub may : MayAccess w (get s.regs add.rs1)

-- a run of k steps that has come to Q on its way
pub record Past (w : World) (adds : ℕ → Option Add) (Q : State → Type 0) (k : ℕ) (s t : State) : Type 0 where
  pub first : ℕ
  pub second : ℕ
  pub mid : State
  pub there : Q mid
  pub behind : Ran w adds second mid t
  pub sum : first + second ≡ k

module _ (w : World) (adds : ℕ → Option Add) (apart : Apart w) (alone : AddsApart w adds)
    (none-stray : (a : ℕ) → w.stream a ≡ None) where
  same-add : {o : Option Add} {a b : Add} → o ≡ Some a → o ≡ Some b → a ≡ b
  same-add p q = cc

  no-table : {s u : State} (a : Add) → adds s.pc ≡ Some a → Next w s u → ⊥
  no-table {s = s} a e n = no-next n
    where
      no-stream : {o : Option (ℕ × ℕ)} {x : ℕ × ℕ} → o ≡ None → o ≡ Some x → ⊥
      no-stream p q = cc

      no-next : {u : State} → Next w s u → ⊥
      no-next (ByTable i v at may r) = alone s.pc i a at e
      no-next (InStream lo hi at r) = no-stream (none-stray s.pc) at
      no-next (Narrow i at r) = alone s.pc i a at e

  -- what holds after every step by a row, or after every add, holds after the step that was made
  by-row : (P : State → Type 0) {s : State} (i : Instr) → w.text s.pc ≡ Some i → May w i s
      → ((v : ℕ) → Reads w i s v → P (after w i v s)) → (u : State) → Moves w adds s u → P u
  by-row P i e may h u (ByRow n) = by_table w apart P i e may h u n
  by-row P {s = s} i e may h u (ByAdd a v at m l) = absurd (alone s.pc i a e at)

  by-add : (P : State → Type 0) {s : State} (a : Add) → adds s.pc ≡ Some a
      → ((v : ℕ) → v < 2 ^ 64 → P (added w a v s)) → (u : State) → Moves w adds s u → P u
  by-add P a e h u (ByRow n) = absurd (no-table a e n)
  by-add P {s = s} a e h u (ByAdd b v at m l) = let same : b ≡ a = same-add at e in
      subst (λ (x : Add). P (added w x v s)) (sym same) (h v l)

  longer : {Q : State → Type 0} {k : ℕ} {s u t : State} → Past w adds Q k u t → Past w adds Q (suc k) s t
  longer p = record {
    first = suc p.first;
    second = p.second;
    mid = p.mid;
    there = p.there;
    behind = p.behind;
    sum = omega (arith, p.sum);
  }

  good-at : (G : State → Type 0) (k : ℕ) {v t : State} → Ran w adds k v t → G v → (k ≡ 0) ⊎ G t → G t
  good-at G zero r g o = subst G (sym r) g
  good-at G (suc k) r g (inl o) = absurd (omega arith)
  good-at G (suc k) r g (inr o) = o

  join : (G : State → Type 0) {Q : State → Type 0} (k : ℕ) {s u t : State} → Ran w adds k u t → G u
      → ((k ≡ 0) ⊎ G t) ⊎ Past w adds Q k u t → ((suc k ≡ 0) ⊎ G t) ⊎ Past w adds Q (suc k) s t
  join G k r g (inl o) = inl (inr (good-at G k r g o))
  join G k r g (inr p) = inr (longer p)

  during-ran : {G Q : State → Type 0} {k : ℕ} {s : State} → During w adds G Q k s → (t : State) → Ran w adds k s t
      → ((k ≡ 0) ⊎ G t) ⊎ Past w adds Q k s t
  during-ran Unseen t r = inl (inl refl)
  during-ran (There {n = n} {s = s} q) t r =
      inr (record { first = 0; second = n; mid = s; there = q; behind = r; sum = omega arith })
  during-ran {G = G} {Q = Q} (Rows {n = n} {s = s} i e may g h) t r =
      join G n r.2 (by-row G i e may g r.0 r.1) (by-row (λ u. Ran w adds n u t → ((n ≡ 0) ⊎ G t)
      ⊎ Past w adds Q n u t) i e may (λ v a. during-ran (h v a) t) r.0 r.1 r.2)
  during-ran {G = G} {Q = Q} (Adds {n = n} {s = s} a e may g h) t r =
      join G n r.2 (by-add G a e g r.0 r.1) (by-add (λ u. Ran w adds n u t → ((n ≡ 0) ⊎ G t)
      ⊎ Past w adds Q n u t) a e (λ v l. during-ran (h v l) t) r.0 r.1 r.2)

  -- every run of whatever length has G at its end, or has passed Q
  pub holds-ran : {G Q : State → Type 0} {s : State} → Holds w adds G Q s → (k : ℕ) (t : State) → Ran w adds k s t
      → ((k ≡ 0) ⊎ G t) ⊎ Past w adds Q k s t
  holds-ran h k t r = during-ran (h.during k) t r

  onward : (R : State → Type 0) {Q : State → Type 0} (k : ℕ) {s u t : State} → R t ⊎ Past w adds Q k u t
      → R t ⊎ Past w adds Q (suc k) s t
  onward R k (inl g) = inl g
  onward R k (inr p) = inr (longer p)

  during-can : {G Q : State → Type 0} {n k : ℕ} {s : State} → During w adds G Q n s → n ≡ suc k → (t : State)
      → Ran w adds k s t → (CanStep w t ⊎ CanAdd w adds t) ⊎ Past w adds Q k s t
  during-can Unseen e t r = absurd (omega arith)
  during-can {k = k} (There {s = s} q) e t r =
      inr (record { first = 0; second = k; mid = s; there = q; behind = r; sum = omega arith })
  during-can {k = zero} (Rows {s = s} i e may g h) is t r =
      inl (subst (λ (x : State). CanStep w x ⊎ CanAdd w adds x) (sym r)
      (inl (record { instr = i; fetched = e; may = may })))
  during-can {k = zero} (Adds {s = s} a e may g h) is t r =
      inl (subst (λ (x : State). CanStep w x ⊎ CanAdd w adds x) (sym r)
      (inr (record { add = a; fetched = e; may = may })))
  during-can {G = G} {Q = Q} {k = suc k} (Rows {n = n} {s = s} i e may g h) is t r =
      onward (λ x. CanStep w x ⊎ CanAdd w adds x) k (by-row (λ u. Ran w adds k u t → (CanStep w t ⊎ CanAdd w adds t)
      ⊎ Past w adds Q k u t) i e may (λ v a. during-can (h v a) (omega arith) t) r.0 r.1 r.2)
  during-can {G = G} {Q = Q} {k = suc k} (Adds {n = n} {s = s} a e may g h) is t r =
      onward (λ x. CanStep w x ⊎ CanAdd w adds x) k (by-add (λ u. Ran w adds k u t → (CanStep w t ⊎ CanAdd w adds t)
      ⊎ Past w adds Q k u t) a e (λ v l. during-can (h v l) (omega arith) t) r.0 r.1 r.2)

  -- a run that has not passed Q can go on
  pub holds-can : {G Q : State → Type 0} {s : State} → Holds w adds G Q s → (k : ℕ) (t : State) → Ran w adds k s t
      → (CanStep w t ⊎ CanAdd w adds t) ⊎ Past w adds Q k s t
  holds-can h k t r = during-can (h.during (suc k)) refl t r

  -- nothing is behind a state at which no step is made
  no-move : (s t : State) → w.text s.pc ≡ None → adds s.pc ≡ None → Moves w adds s t → ⊥
  no-move s t e f (ByAdd a v at m l) = no f at
    where
      no : {o : Option Add} → o ≡ None → o ≡ Some a → ⊥
      no p q = cc
  no-move s t e f (ByRow n) = no-next n
    where
      no-text : {o : Option Instr} {i : Instr} → o ≡ None → o ≡ Some i → ⊥
      no-text p q = cc

      no-stream : {o : Option (ℕ × ℕ)} {x : ℕ × ℕ} → o ≡ None → o ≡ Some x → ⊥
      no-stream p q = cc

      no-next : {u : State} → Next w s u → ⊥
      no-next (ByTable i v at may r) = no-text e at
      no-next (InStream lo hi at r) = no-stream (none-stray s.pc) at
      no-next (Narrow i at r) = no-text e at

  pub ends-there : (k : ℕ) (s t : State) → w.text s.pc ≡ None → adds s.pc ≡ None → Ran w adds k s t → t ≡ s
  ends-there zero s t e f r = r
  ends-there (suc k) s t e f r = absurd (no-move s r.0 e f r.1)

-- one more step at a run's end
pub ran-more : (w : World) (adds : ℕ → Option Add) (k : ℕ) (s t u : State) → Ran w adds k s t → Moves w adds t u
    → Ran w adds (suc k) s u
ran-more w adds zero s t u r n = (u, subst (λ (x : State). Moves w adds x u) r n, refl)
ran-more w adds (suc k) s t u r n = (r.0, r.1, ran-more w adds k r.0 t u r.2 n)
