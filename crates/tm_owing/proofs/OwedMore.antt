-- What is owed, one step more.
use Rattle.std.proofs.Common.{◌≡◌, ◌≢◌, ℕ, suc, ◌+◌, ◌<◌, ◌≤◌, List, [], ◌∷◌, Bool, true, false, ◌&&◌, ◌||◌, ◌==◌, not}
use Rattle.std.proofs.Common.{Option, None, Some, ◌⊎◌, inl, inr, refl, sym, ap, ◌∙◌, subst, length, get_or, arith}
use Rattle.std.proofs.Common.{eq-eqb}
use Rattle.std.specs.Prelude.{IsTrue, IsFalse, if◌then◌else◌}
use Rattle.std.specs.BTreeMap.{BTreeMap, get}
use Rattle.std.specs.Ordering.{nat_cmp}
use Rattle.std.proofs.lemmas.Bool.{cases_eq, cases_Bool, and_parts, and_from}
use Rattle.tm_table.specs.declared.state.Access.{Access}
use Rattle.tm_plan_cases.specs.declared.program.Program.{Program}
use Rattle.tm_plan_map.specs.declared.addresses.TheConstants.{WINDOWS_BYTES}
use Rattle.tm_plan_map.specs.Map.{windows_base, windows_size}
use Rattle.tm_race.specs.Masks.{EachIs}
use Rattle.tm_plan_map.proofs.Within.{within-true}
use Rattle.tm_world.specs.Lists.{or_else}
use Rattle.tm_world.specs.Place.{harts, exit_of, is_window}
use Rattle.tm_world.specs.Run.{Step, own, hart_of, access_of, written}
use Rattle.tm_world.specs.Writers.{writers, wrote, may_write}
use Rattle.tm_world.specs.Kinds.{another, phase_of}
use Rattle.tm_owing.specs.declared.writes.Latest.{Latest}
use Rattle.tm_owing.specs.declared.writes.Writes.{Writes}
use Rattle.tm_owing.specs.Writes.{last_at}
use Rattle.tm_owing.specs.May.{alone}
use Rattle.tm_owing.specs.Owed.{newer, latest, IsLatest, sole, solo, IsMarked, Owes, Notes}
use Rattle.tm_owing.proofs.Lasts.{latest-here, latest-there, wrote-here, wrote-there, wrote-then}
use Rattle.tm_owing.proofs.Maying.{none-other, writers-one, writer-may}

not-true : (b : Bool) → not b ≡ true → b ≡ false
not-true false e = refl
not-true true e = sym e

-- who is alone is the only writer
alone-writers : (p : Program) (q h b : ℕ) → h < harts p → IsTrue (alone p q h b) → writers p q b ≡ h ∷ []
alone-writers p q h b l t =
    let parts = (and_parts (is_window b) (not (another h (writers p q b)) && may_write p q h b) t).1 in
    let (others, mine) = and_parts (not (another h (writers p q b))) (may_write p q h b) parts in
    writers-one p q h b l
    (λ g m n. none-other p q h b g (not-true (another h (writers p q b)) others) m n) mine

another-self : (h : ℕ) → another h (h ∷ []) ≡ false
another-self h = ap (λ (t : Bool). not t || false) (eq-eqb h h refl)

-- and the other way round
writers-alone : (p : Program) (q h b : ℕ) → is_window b ≡ true → writers p q b ≡ h ∷ [] → IsTrue (alone p q h b)
writers-alone p q h b w e =
    and_from (is_window b) (not (another h (writers p q b)) && may_write p q h b) w
    (and_from (not (another h (writers p q b))) (may_write p q h b)
    (ap (λ (ws : List ℕ). not (another h ws)) e ∙ ap not (another-self h)) (writer-may p q b h [] e))

window-byte : (k : ℕ) → k < WINDOWS_BYTES → is_window (windows_base + k) ≡ true
unfolding windows_size
window-byte k l = within-true windows_base windows_size (windows_base + k) (omega arith) (omega arith)

module _ (p : Program) (s : Step) (past : List Step) (b : ℕ) where
  -- what the only writer wrote just now
  solo-here : (v : ℕ) → hart_of s < harts p → written (access_of s) b ≡ Some v
      → IsTrue (alone p (phase_of p past (hart_of s)) (hart_of s) b)
      → solo p (s ∷ past) (phase_of p past (hart_of s)) b ≡ Some v
  solo-here v l w t =
      let h = hart_of s in
      let q = phase_of p past h in
      ap (sole (wrote p (s ∷ past) q b)) (alone-writers p q h b l t)
      ∙ (wrote-here p s past b ∙ ap (λ (o : Option ℕ). or_else o (wrote p past q b h)) w)

  -- and else what it wrote before
  solo-there : (r : ℕ) → is_window b ≡ true
      → (r ≡ phase_of p past (hart_of s) → IsTrue (alone p (phase_of p past (hart_of s)) (hart_of s) b)
      → written (access_of s) b ≡ None)
      → solo p (s ∷ past) r b ≡ solo p past r b
  solo-there r w none = by (writers p r b) refl
    where
      one : (g : ℕ) → writers p r b ≡ g ∷ [] → (hart_of s ≡ g) ⊎ (hart_of s ≡ g → ⊥)
          → (phase_of p past (hart_of s) ≡ r) ⊎ (phase_of p past (hart_of s) ≡ r → ⊥)
          → wrote p (s ∷ past) r b g ≡ wrote p past r b g
      one g e (inr n) d = wrote-there p s past b g r n
      one g e (inl m) (inr n) =
          subst (λ (k : ℕ). wrote p (s ∷ past) r b k ≡ wrote p past r b k) m (wrote-then p s past b r n)
      one g e (inl m) (inl q) =
          let only : writers p (phase_of p past (hart_of s)) b ≡ hart_of s ∷ [] =
          ap (λ (k : ℕ). writers p k b) q ∙ (e ∙ ap (λ (k : ℕ). k ∷ []) (sym m)) in
          let t = writers-alone p (phase_of p past (hart_of s)) (hart_of s) b w only in
          let nothing = none (sym q) t in
          let kept : wrote p (s ∷ past) (phase_of p past (hart_of s)) b (hart_of s)
          ≡ wrote p past (phase_of p past (hart_of s)) b (hart_of s) =
          wrote-here p s past b
          ∙ ap (λ (o : Option ℕ). or_else o (wrote p past (phase_of p past (hart_of s)) b (hart_of s))) nothing in
          subst (λ (k : ℕ). wrote p (s ∷ past) r b k ≡ wrote p past r b k) m
          (subst (λ (k : ℕ). wrote p (s ∷ past) k b (hart_of s) ≡ wrote p past k b (hart_of s)) q kept)

      by : (ws : List ℕ) → writers p r b ≡ ws → sole (wrote p (s ∷ past) r b) (writers p r b)
          ≡ sole (wrote p past r b) (writers p r b)
      by [] e = ap (sole (wrote p (s ∷ past) r b)) e ∙ sym (ap (sole (wrote p past r b)) e)
      by (g ∷ []) e =
          ap (sole (wrote p (s ∷ past) r b)) e
          ∙ (one g e (cases_eq (hart_of s) g) (cases_eq (phase_of p past (hart_of s)) r)
          ∙ sym (ap (sole (wrote p past r b)) e))
      by (g ∷ k ∷ more) e = ap (sole (wrote p (s ∷ past) r b)) e ∙ sym (ap (sole (wrote p past r b)) e)

-- ---- all of it

module _ (p : Program) (s : Step) (past : List Step) (last news : List Writes)
    (marks settles : List (BTreeMap ℕ ℕ)) (l : hart_of s < harts p)
    (n : Notes p (hart_of s) (phase_of p past (hart_of s)) (access_of s) last news marks settles)
    (o : Owes p past last marks) where
  last-more : (g : ℕ) (d : Writes) → g < harts p → IsLatest p (s ∷ past) g (get_or news g d)
  last-more g d m = record { each = λ b. by b (cases_eq g (hart_of s)) }
    where
      by : (b : ℕ) → (g ≡ hart_of s) ⊎ (g ≡ hart_of s → ⊥)
          → last_at (get_or news g d) b ≡ latest (exit_of p g) b (own g (s ∷ past))
      by b (inl e) =
          subst (λ (k : ℕ). last_at (get_or news k d) b ≡ latest (exit_of p k) b (own k (s ∷ past))) (sym e)
          (n.mine d b
          ∙ (ap (newer (written (access_of s) b) (phase_of p past (hart_of s))) ((o.last.each (hart_of s) d l).each b)
          ∙ sym (latest-here p s past b)))
      by b (inr z) =
          n.others g d b z ∙ ((o.last.each g d m).each b ∙ sym (latest-there p s past b g (λ e. z (sym e))))

  mark-more : (k : ℕ) (d : BTreeMap ℕ ℕ) → k < WINDOWS_BYTES → IsMarked p (s ∷ past) k (get_or settles k d)
  mark-more k d m = record {
    each = λ r. by r (written (access_of s) (windows_base + k)) refl
        (cases_Bool (alone p (phase_of p past (hart_of s)) (hart_of s) (windows_base + k)))
        (cases_eq r (phase_of p past (hart_of s)));
  }
    where
      old : (r : ℕ) → get nat_cmp (get_or marks k d) r ≡ solo p past r (windows_base + k)
      old r = (o.marks.each k d m).each r

      kept : (r : ℕ) → (r ≡ phase_of p past (hart_of s)
          → IsTrue (alone p (phase_of p past (hart_of s)) (hart_of s) (windows_base + k))
          → written (access_of s) (windows_base + k) ≡ None)
          → get nat_cmp (get_or settles k d) r ≡ solo p (s ∷ past) r (windows_base + k)
      kept r none =
          n.there k d r m none
          ∙ (old r ∙ sym (solo-there p s past (windows_base + k) r (window-byte k m) none))

      by : (r : ℕ) (w : Option ℕ) → written (access_of s) (windows_base + k) ≡ w
          → (alone p (phase_of p past (hart_of s)) (hart_of s) (windows_base + k) ≡ true)
          ⊎ (alone p (phase_of p past (hart_of s)) (hart_of s) (windows_base + k) ≡ false)
          → (r ≡ phase_of p past (hart_of s)) ⊎ (r ≡ phase_of p past (hart_of s) → ⊥)
          → get nat_cmp (get_or settles k d) r ≡ solo p (s ∷ past) r (windows_base + k)
      by r None e t z = kept r (λ x y. e)
      by r (Some v) e (inr f) z = kept r (λ x y. absurd (both-ways (alone p (phase_of p past (hart_of s)) (hart_of s)
          (windows_base + k)) y f))
        where
          both-ways : (t : Bool) → t ≡ true → t ≡ false → ⊥
          both-ways t x y = cc
      by r (Some v) e (inl t) (inr z) = kept r (λ x y. absurd (z x))
      by r (Some v) e (inl t) (inl z) =
          subst (λ (j : ℕ). get nat_cmp (get_or settles k d) j ≡ solo p (s ∷ past) j (windows_base + k)) (sym z)
          (n.here k d m v e t ∙ sym (solo-here p s past (windows_base + k) v l e t))

  pub owes-more : Owes p (s ∷ past) news settles
  owes-more = record {
    last = record { count = n.lasts ∙ o.last.count; each = last-more };
    marks = record { count = n.counts ∙ o.marks.count; each = mark-more };
  }
