-- Which bytes and registers one hart keeps from being checked.
use Rattle.std.proofs.Common.{◌≡◌, ℕ, ◌+◌, ◌<◌, ◌≤◌, ◌↔◌, List, length, replicate, Bool, true, false, ◌&&◌, ◌||◌, inl}
use Rattle.std.proofs.Common.{inr, Option, None, Some, refl, sym, ap, ap₂, ◌∙◌, subst, arith}
use Rattle.std.specs.Prelude.{slice_get}
use Rattle.std.proofs.lemmas.Bool.{cases_eq, false≢true, true≢false, false_from_ne_true}
use Rattle.tm_plan_cases.specs.declared.cases.Cases.{Cases}
use Rattle.tm_plan_cases.specs.declared.cases.Case.{Case}
use Rattle.tm_plan_cases.specs.declared.cases.Stream.{Stream}
use Rattle.tm_plan_cases.specs.Shaped.{AreShaped}
use Rattle.tm_plan_map.specs.Map.{windows_base}
use Rattle.tm_world.specs.Writers.{some_store_to, may_store}
use Rattle.tm_plan_cases.specs.Streams.{stream_in}
use Rattle.tm_world.specs.Slots.{slots_in, another_may_store}
use Rattle.tm_world.specs.Trails.{RaceDependent}
use Rattle.tm_world.proofs.Streams.{stream-case}
use Rattle.tm_plane.specs.declared.planes.TheConstants.{PLANE_WORDS}
use Rattle.tm_plane.specs.Plane.{Bit, in_plane}
use Rattle.tm_race_walk.specs.declared.walking.Taint.{Taint}
use Rattle.tm_race_walk.specs.Shapes.{another_in}
use Rattle.tm_race_walk.specs.Taints.{Holds, StandsAt}
use Rattle.tm_race_walk.proofs.Moving.{none-zero, in-far}
use Rattle.tm_race_walk.proofs.Telling.{another-told}
use Rattle.tm_race.specs.Masks.{IsRegisterWord, IsCalm, IsSpoil}

pub none-spoiled : (cases : Cases) (c : ℕ) → IsSpoil cases c 0 (replicate PLANE_WORDS 0)
none-spoiled cases c =
    record { exact = λ b low. ((λ e h l. absurd (omega arith)), (λ f. false_from_ne_true _ (none-zero PLANE_WORDS b))) }

-- a byte outside of a plane with more bytes
put-out : (o m t s : Bool) → (o || (m && (t || s))) ≡ false → (o ≡ false) × (m ≡ true → (t ≡ false) × (s ≡ false))
put-out true m t s e = absurd (true≢false e)
put-out false false t s e = (refl, λ x. absurd (false≢true x))
put-out false true true s e = absurd (true≢false e)
put-out false true false true e = absurd (true≢false e)
put-out false true false false e = (refl, λ x. (refl, refl))

put-in : (o m t s : Bool) → o ≡ false → (m ≡ true → (t ≡ false) × (s ≡ false)) → (o || (m && (t || s))) ≡ false
put-in true m t s e f = absurd (true≢false e)
put-in false false t s e f = refl
put-in false true t s e f = let p = f refl in ap₂ (λ (u v : Bool). u || v) p.0 p.1

module _ (cases : Cases) (c h : ℕ) (case : Case) (a : AreShaped cases) (at : slice_get cases.cases c
    ≡ Some case) (end : Taint)
    (stands : (s : Stream) → slice_get case.streams h ≡ Some s → StandsAt case h (length s.words) end) where
  held-at : (stream : Stream) → stream_in cases c h ≡ Some stream → (r : ℕ) → Holds end r
      ↔ RaceDependent (slots_in cases c h) r (length stream.words)
  held-at stream e r = ((stands stream (sym (stream-case cases c h case at) ∙ e)).stands cases c a at).held r

  -- a register is held as a bit, and a byte of the windows by the plane
  as-register : (r : ℕ) → r < 32 → Holds end r → Bit end.regs r
  as-register r few (inl p) = p.1
  as-register r few (inr t) = absurd (in-far end.bytes r (omega arith) t)

  as-byte : (b : ℕ) → windows_base ≤ b → Holds end b → in_plane end.bytes b ≡ true
  unfolding windows_base
  as-byte b low (inl p) = absurd (omega (arith, p.0))
  as-byte b low (inr t) = t

  pub word-checked : (word : ℕ) → ((r : ℕ) → Bit word r ↔ ((1 ≤ r) × (r ≤ 30) × (Bit end.regs r → ⊥)))
      → IsRegisterWord cases c h word
  word-checked word bits = record {
    exact = λ stream e r. (
      (λ w.
          let q = (bits r).0 w in
          let small : r < 32 = omega (arith, q.1) in
          record { range = (q.0, q.1); calm = λ dep. q.2 (as-register r small ((held-at stream e r).1 dep)) }),
      (λ k.
          let small : r < 64 = omega (arith, k.range.1) in
          (bits r).1 (k.range.0, k.range.1, (λ bit. k.calm ((held-at stream e r).0 (inl (small, bit)))))),
    );
  }

  module _ (mine others : List ℕ) (m : (b : ℕ) → in_plane mine b ≡ some_store_to b (slice_get case.streams h))
      (o : (b : ℕ) → in_plane others b ≡ another_in case h b) where
    may : (b : ℕ) → in_plane mine b ≡ may_store cases c h b
    may b = m b ∙ ap (some_store_to b) (sym (stream-case cases c h case at))

    another : (b : ℕ) → in_plane others b ≡ another_may_store cases c h b
    another b = o b ∙ another-told cases c h case a at b

    calm-of : (b : ℕ) → windows_base ≤ b → (in_plane mine b ≡ true → (in_plane others b ≡ false)
        × (in_plane end.bytes b ≡ false)) → IsCalm cases c b h
    calm-of b low f = λ stream e t.
        let q = f (may b ∙ t) in
        (sym (another b) ∙ q.0, λ dep. true≢false (sym (as-byte b low ((held-at stream e b).1 dep)) ∙ q.1))

    of-calm : (b : ℕ) → IsCalm cases c b h → in_plane mine b ≡ true → (in_plane others b ≡ false)
        × (in_plane end.bytes b ≡ false)
    of-calm b k t = by (stream_in cases c h) refl
      where
        by : (s : Option Stream) → stream_in cases c h ≡ s → (in_plane others b ≡ false)
            × (in_plane end.bytes b ≡ false)
        by None q = absurd (false≢true (sym (ap (some_store_to b) q) ∙ (sym (may b) ∙ t)))
        by (Some stream) q =
            let s = k stream q (sym (may b) ∙ t) in
            (another b ∙ s.0, false_from_ne_true _ (λ u. s.1 ((held-at stream q b).0 (inr u))))

    pub spoil-more : (old new : List ℕ) → IsSpoil cases c h old
        → ((b : ℕ) → in_plane new b
        ≡ (in_plane old b || (in_plane mine b && (in_plane others b || in_plane end.bytes b))))
        → IsSpoil cases c (h + 1) new
    spoil-more old new s e = record { exact = λ b low. (to b low, back b low) }
      where
        to : (b : ℕ) → windows_base ≤ b → in_plane new b ≡ false → (g : ℕ) → g < h + 1 → IsCalm cases c b g
        to b low f g l =
            let q = put-out (in_plane old b) (in_plane mine b) (in_plane others b) (in_plane end.bytes b)
            (sym (e b) ∙ f) in
            elim (cases_eq g h) [
              | inl i ↦ subst (λ (j : ℕ). IsCalm cases c b j) (sym i) (calm-of b low q.1)
              | inr n ↦ (s.exact b low).0 q.0 g (omega arith)
            ]

        back : (b : ℕ) → windows_base ≤ b → ((g : ℕ) → g < h + 1 → IsCalm cases c b g) → in_plane new b ≡ false
        back b low k =
            e b ∙ put-in (in_plane old b) (in_plane mine b) (in_plane others b) (in_plane end.bytes b)
            ((s.exact b low).1 (λ g l. k g (omega arith))) (of-calm b (k h (omega arith)))
