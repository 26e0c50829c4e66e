-- What moves leave at each dword.
use Rattle.std.proofs.Common.{◌≡◌, ◌≢◌, ℕ, zero, suc, ◌+◌, ◌-◌, ◌*◌, ◌<◌, List, [], ◌∷◌, length, map, ◌⊎◌, inl, inr}
use Rattle.std.proofs.Common.{refl, sym, ap, ap₂, ◌∙◌, arith, true, false}
use Rattle.std.specs.Prelude.{IsTrue, slice_index, nat_eq}
use Rattle.std.proofs.lemmas.Bool.Decides.{eqb_tells}
use Rattle.tm_plan_map.specs.Map.{windows_base}
use Rattle.tm_runs.specs.Machine.{Table, World, put}
use Rattle.tm_runs.proofs.Tables.{put_same, put_other}
use Rattle.tm_blocks_move.specs.Laws.{Among, Move, Moves, moved_memory}
use Rattle.tm_blocks_move.specs.Lines.{set_moves, collect_moves}
use Rattle.tm_blocks_move.specs.Runs.{In}

module _ (w : World) where
  -- a dword that no move writes
  pub moved-other : (ms : List Move) (vs : List ℕ) (mem : Table) (x : ℕ) → Moves w mem ms vs
      → ((m : Move) → In m ms → x ≢ m.1) → moved_memory mem ms vs x ≡ mem x
  moved-other [] [] mem x h f = refl
  moved-other [] (v ∷ vs) mem x h f = absurd h
  moved-other (m ∷ ms) [] mem x h f = absurd h
  moved-other (m ∷ ms) (v ∷ vs) mem x h f = moved-other ms vs (put mem m.1 v) x h.2 (λ k i. f k (inr i)) ∙ put_other mem
      m.1 v x (f m (inl refl))

  map-same : (f g : Move → ℕ) (ms : List Move) → ((m : Move) → In m ms → f m ≡ g m) → map f ms ≡ map g ms
  map-same f g [] h = refl
  map-same f g (m ∷ ms) h = ap₂ (λ (x : ℕ) (l : List ℕ). x ∷ l) (h m (inl refl)) (map-same f g ms (λ k i. h k (inr i)))

  -- What is read of dwords that read back and that no move writes is what the memory has.
  pub moved-values : (ms : List Move) (vs : List ℕ) (mem : Table) → Moves w mem ms vs
      → ((m : Move) → In m ms → IsTrue (w.own m.0)) → ((m k : Move) → In m ms → In k ms → m.0 ≢ k.1)
      → vs ≡ map (λ m. mem m.0) ms
  moved-values [] [] mem h o f = refl
  moved-values [] (v ∷ vs) mem h o f = absurd h
  moved-values (m ∷ ms) [] mem h o f = absurd h
  moved-values (m ∷ ms) (v ∷ vs) mem h o f =
      ap₂ (λ (x : ℕ) (l : List ℕ). x ∷ l) (h.1 (o m (inl refl)))
      (moved-values ms vs (put mem m.1 v) h.2 (λ k i. o k (inr i)) (λ k l i j. f k l (inr i) (inr j))
      ∙ map-same (λ k. put mem m.1 v k.0) (λ k. mem k.0) ms (λ k i. put_other mem m.1 v k.0 (f k m (inr i) (inl refl))))

  -- the j-th dword that was collected
  collect-above : (xs : List ℕ) (q x : ℕ) → x < q → (m : Move) → In m (collect_moves xs q) → x ≢ m.1
  collect-above [] q x l m i = absurd i
  collect-above (y ∷ xs) q x l m (inl e) = λ z. omega (arith, z, ap (λ (k : Move). k.1) e)
  collect-above (y ∷ xs) q x l m (inr i) = collect-above xs (q + 8) x (omega arith) m i

  pub collected-at : (xs vs : List ℕ) (q : ℕ) (mem : Table) → Moves w mem (collect_moves xs q) vs → (j : ℕ)
      → j < length xs → moved_memory mem (collect_moves xs q) vs (q + 8 * j) ≡ slice_index vs j
  collected-at [] vs q mem h j l = absurd (omega arith)
  collected-at (x ∷ xs) [] q mem h j l = absurd h
  collected-at (x ∷ xs) (v ∷ vs) q mem h zero l =
      let e : q + 8 * 0 ≡ q = omega arith in
      ap (moved_memory (put mem q v) (collect_moves xs (q + 8)) vs) e
      ∙ (moved-other (collect_moves xs (q + 8)) vs (put mem q v) q h.2 (collect-above xs (q + 8) q (omega arith)) ∙
      put_same mem q v)
  collected-at (x ∷ xs) (v ∷ vs) q mem h (suc j) l =
      let e : q + 8 * suc j ≡ q + 8 + 8 * j = omega arith in
      ap (moved_memory (put mem q v) (collect_moves xs (q + 8)) vs) e ∙ collected-at xs vs (q + 8) (put mem q v) h.2 j
      (omega arith)

  set-source : (from : ℕ) (xs : List ℕ) (m : Move) → In m (set_moves from xs) → (Among m.1 xs)
      × (m.0 ≡ from + (m.1 - windows_base))
  set-source from [] m i = absurd i
  set-source from (x ∷ xs) m (inl e) = (
    inl (ap (λ (k : Move). k.1) e),
    ap (λ (k : Move). k.0) e ∙ ap (λ (y : ℕ). from + (y - windows_base)) (sym (ap (λ (k : Move). k.1) e)),
  )
  set-source from (x ∷ xs) m (inr i) = let h = set-source from xs m i in (inr h.0, h.1)

  -- a dword that was set, where the first values read back and none of them is set
  pub set-at : (from : ℕ) (xs vs : List ℕ) (mem first : Table) → Moves w mem (set_moves from xs) vs
      → ((x : ℕ) → Among x xs → IsTrue (w.own (from + (x - windows_base))))
      → ((x y : ℕ) → Among x xs → Among y xs → from + (x - windows_base) ≢ y)
      → ((x : ℕ) → Among x xs → mem (from + (x - windows_base)) ≡ first (from + (x - windows_base))) → (x : ℕ)
      → (Among x xs) ⊎ (mem x ≡ first (from + (x - windows_base))) → moved_memory mem (set_moves from xs) vs x
      ≡ first (from + (x - windows_base))
  set-at from [] [] mem first h o f s x (inl a) = absurd a
  set-at from [] [] mem first h o f s x (inr e) = e
  set-at from [] (v ∷ vs) mem first h o f s x a = absurd h
  set-at from (y ∷ ys) [] mem first h o f s x a = absurd h
  set-at from (y ∷ ys) (v ∷ vs) mem first h o f s x a =
      set-at from ys vs (put mem y v) first h.2 (λ z i. o z (inr i)) (λ z u i j. f z u (inr i) (inr j))
      (λ z i. put_other mem y v (from + (z - windows_base)) (f z y (inr i) (inl refl)) ∙ s z (inr i)) x
      (by a (eqb_tells x y))
    where
      value : v ≡ first (from + (y - windows_base))
      value = h.1 (o y (inl refl)) ∙ s y (inl refl)

      here : x ≡ y → put mem y v x ≡ first (from + (x - windows_base))
      here e = ap (put mem y v) e ∙ (put_same mem y v ∙
          (value ∙ ap (λ (z : ℕ). first (from + (z - windows_base))) (sym e)))

      by : (Among x (y ∷ ys)) ⊎ (mem x ≡ first (from + (x - windows_base))) → ((nat_eq x y ≡ true) × (x ≡ y))
          ⊎ ((nat_eq x y ≡ false) × (x ≢ y)) → (Among x ys) ⊎ (put mem y v x ≡ first (from + (x - windows_base)))
      by c (inl e) = inr (here e.1)
      by (inl (inl e)) (inr n) = inr (here e)
      by (inl (inr i)) (inr n) = inl i
      by (inr e) (inr n) = inr (put_other mem y v x n.1 ∙ e)
