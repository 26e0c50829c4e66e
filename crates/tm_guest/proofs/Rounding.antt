-- Runs in round order, one turn more and one round more.
use Rattle.std.proofs.Common.{◌≡◌, ℕ, suc, ◌+◌, ◌<◌, ◌≤◌, [], ◌∷◌, ◌⊎◌, inl, inr, refl, sym, subst, length, ◌∙◌}
use Rattle.std.proofs.Common.{arith, length-append, below_more}
use Rattle.tm_plan_cases.specs.declared.program.Program.{Program}
use Rattle.tm_plan_cases.specs.declared.event.Event.{Event}
use Rattle.tm_world.specs.Place.{harts}
use Rattle.tm_guest.specs.declared.turn.Turn.{Turn}
use Rattle.tm_guest.specs.declared.turn.Turn.TheVariants.{Stepped, Halted, Full}
use Rattle.tm_guest.specs.Guested.{Guested, IsHalted, with_event}
use Rattle.tm_guest.specs.Turns.{Answers, IsNextEvent, Makes}
use Rattle.tm_guest.specs.Rounds.{Goes, Begins, Steps, Skips, Wraps, AllHalted, IsSame, Grows}

-- Inside one round, before hart h's turn: a hart has stepped, or all harts below h are at halt and nothing has
-- changed.
pub record InRound (from : Guested) (h : ℕ) (g : Guested) : Type 0 where
  pub same : IsSame from g
  pub goes : Goes from h g
  pub grown : length from.journal ≤ length g.journal
  pub moved : Grows from g ⊎ ((g ≡ from) × ((k : ℕ) → k < h → IsHalted from k))

pub same-still : (g : Guested) → IsSame g g
same-still g = record { program = refl; faults = refl; limit = refl }

pub same-then : (f g t : Guested) → IsSame f g → IsSame g t → IsSame f t
same-then f g t a b = record {
  program = b.program ∙ a.program;
  faults = b.faults ∙ a.faults;
  limit = b.limit ∙ a.limit;
}

pub begins : (g : Guested) → InRound g 0 g
begins g = record {
  same = same-still g;
  goes = Begins;
  grown = omega arith;
  moved = inr (refl, λ k l. absurd (omega arith));
}

-- ---- one turn more

next-turn : (from : Guested) (h : ℕ) (g : Guested) → Goes from (suc h) g → Goes from (h + 1) g
next-turn from h g s = let e : suc h ≡ h + 1 = omega arith in subst (λ (n : ℕ). Goes from n g) e s

made-event : (from : Guested) (h : ℕ) (g : Guested) (e : Event) → InRound from h g → h < harts from.program
    → (¬ IsHalted g h) → length g.journal < g.limit → IsNextEvent g h e → InRound from (h + 1) (with_event g e)
made-event from h g e r l off few next =
    let more = length-append g.journal (e ∷ []) in
    let limit = r.same.limit in
    record {
      same = record { program = r.same.program; faults = r.same.faults; limit = r.same.limit };
      goes = next-turn from h (with_event g e) (Steps e r.goes l off next);
      grown = omega (arith, more, r.grown);
      moved = inl (omega (arith, more, r.grown), omega (arith, more, limit));
    }

made : (from : Guested) (h : ℕ) (g t : Guested) (place : ℕ) (e : Event) → InRound from h g
    → h < harts from.program → Makes g h place e t → InRound from (h + 1) t
made from h g t place e r l m =
    subst (InRound from (h + 1)) (sym m.longer) (made-event from h g e r l m.off_halt m.room m.next)

skipped : (from : Guested) (h : ℕ) (g t : Guested) → InRound from h g → h < harts from.program
    → Answers g h Halted t → InRound from (h + 1) t
skipped from h g t r l (halted, is) = subst (InRound from (h + 1)) (sym is) (record {
  same = r.same;
  goes = next-turn from h g (Skips r.goes l halted);
  grown = r.grown;
  moved = by r.moved;
})
  where
    by : Grows from g ⊎ ((g ≡ from) × ((k : ℕ) → k < h → IsHalted from k))
        → Grows from g ⊎ ((g ≡ from) × ((k : ℕ) → k < h + 1 → IsHalted from k))
    by (inl m) = inl m
    by (inr (e, all)) = inr (e, below_more _ _ all (subst (λ (x : Guested). IsHalted x h) e halted))

pub either : (from : Guested) (h : ℕ) (g t : Guested) (turn : Turn) → InRound from h g → h < harts from.program
    → Answers g h turn t → (turn ≡ Full → ⊥) → InRound from (h + 1) t
either from h g t (Stepped place e) r l a n = made from h g t place e r l a
either from h g t Halted r l a n = skipped from h g t r l a
either from h g t Full r l a n = absurd (n refl)

-- ---- a whole round, and a part of one

pub whole : (from : Guested) (h : ℕ) (g : Guested) → InRound from h g → h ≡ harts from.program
    → Goes from 0 g × (Grows from g ⊎ AllHalted from)
whole from h g r e = (Wraps (subst (λ (n : ℕ). Goes from n g) e r.goes), by r.moved)
  where
    by : Grows from g ⊎ ((g ≡ from) × ((k : ℕ) → k < h → IsHalted from k)) → Grows from g ⊎ AllHalted from
    by (inl m) = inl m
    by (inr (q, all)) = inr (λ k l. all k (subst (λ (n : ℕ). k < n) (sym e) l))

-- Turns after turns are turns.
pub goes-then : (from g : Guested) → g.program ≡ from.program → Goes from 0 g → (h : ℕ) (t : Guested) → Goes g h t
    → Goes from h t
goes-then from g e a h t Begins = a
goes-then from g e a h t (Steps {h = k} {g = x} event b l off next) =
    Steps event (goes-then from g e a k x b) (subst (λ (p : Program). k < harts p) e l) off next
goes-then from g e a h t (Skips {h = k} {g = x} b l n) =
    Skips (goes-then from g e a k x b) (subst (λ (p : Program). k < harts p) e l) n
goes-then from g e a h t (Wraps {g = x} b) =
    Wraps (subst (λ (p : Program). Goes from (harts p) x) e (goes-then from g e a (harts g.program) x b))
