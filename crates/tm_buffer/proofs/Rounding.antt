-- Drawn rounds, one turn more and one round more.
use Rattle.std.proofs.Common.{◌≡◌, ℕ, suc, ◌+◌, ◌<◌, ◌≤◌, [], ◌∷◌, ◌⊎◌, inl, inr, Option, None, Some, refl, sym, ap, subst}
use Rattle.std.proofs.Common.{length, ◌∙◌, arith, length-append, below_more}
use Rattle.tm_plan_cases.specs.declared.program.Program.{Program}
use Rattle.tm_plan_cases.specs.declared.event.Event.{Event}
use Rattle.tm_world.specs.Place.{harts}
use Rattle.tm_plan_map.specs.Slots.{instr_of}
use Rattle.tm_buffered.specs.Moments.{Entry, is_fence_instr}
use Rattle.tm_guest.specs.declared.turn.Turn.{Turn}
use Rattle.tm_guest.specs.declared.turn.Turn.TheVariants.{Stepped, Halted, Full}
use Rattle.tm_buffer.specs.declared.turn.Drained.{Drained as Answer}
use Rattle.tm_buffer.specs.declared.turn.Drained.TheVariants.{Went, Nothing}
use Rattle.tm_buffer.specs.Seen.{Seen, IsHalted, buffer, with_event, with_drain, draining}
use Rattle.tm_buffer.specs.Turns.{Answers, DrainAnswers, Makes, fenced, spared}
use Rattle.tm_buffer.specs.Rounds.{After, to_drain, Goes, Begins, Steps, Skips, Wraps, IsFull, AllHalted, IsSame, Grows}
use Rattle.tm_buffer.proofs.Draining.{Same, all-same, same-then, same-halted, both-same}

still : (g : Seen) → Same g g
still g = all-same g 0 []

-- a drain keeps program, limit, journal and steps
one-same : (g : Seen) (h : ℕ) (e : Entry) → Same g (with_drain g (draining g h e))
one-same g h e = all-same g h (e ∷ [])

answer-same : (g t : Seen) (h which : ℕ) (x : Answer) → DrainAnswers g h which x t → Same g t
answer-same g t h which Went a = let (e, at, is) = a.3 in subst (Same g) (sym is) (one-same g h e)
answer-same g t h which Nothing a = subst (Same g) (sym a.0) (still g)

pub drained-same : (g t : Seen) (h : ℕ) (o : Option ℕ) → After o g h t → Same g t
drained-same g t h None a = subst (Same g) (sym a) (still g)
drained-same g t h (Some which) a = answer-same g t h which a.0 a.1

-- Inside round t, before hart h's turn: a hart has stepped, or all harts below h are at halt and no step was made.
pub record InRound (seed t : ℕ) (from : Seen) (h : ℕ) (g : Seen) : Type 0 where
  pub same : IsSame from g
  pub goes : Goes seed t from t h g
  pub grown : length from.journal ≤ length g.journal
  pub moved : Grows from g ⊎ (Same from g × ((k : ℕ) → k < h → IsHalted from k))

pub same-still : (g : Seen) → IsSame g g
same-still g = record { program = refl; limit = refl }

pub same-both : (f g t : Seen) → IsSame f g → IsSame g t → IsSame f t
same-both f g t a b = record { program = b.program ∙ a.program; limit = b.limit ∙ a.limit }

pub begins : (seed t : ℕ) (g : Seen) → InRound seed t g 0 g
begins seed t g = record {
  same = same-still g;
  goes = Begins;
  grown = omega arith;
  moved = inr (still g, λ k l. absurd (omega arith));
}

-- ---- one turn more

next-turn : (seed t : ℕ) (from : Seen) (h : ℕ) (g : Seen) → Goes seed t from t (suc h) g → Goes seed t from t (h + 1) g
next-turn seed t from h g s = let e : suc h ≡ h + 1 = omega arith in subst (λ (n : ℕ). Goes seed t from t n g) e s

-- what a turn that makes an event leaves
made-same : (d a : Seen) (h place : ℕ) (e : Event) → Makes d h place e a
    → (u : Seen) × (Same d u) × (a ≡ with_event u e)
made-same d a h place e m = (
  spared (fenced d h e.word) h e.access,
  both-same d (fenced d h e.word) (spared (fenced d h e.word) h e.access) h (is_fence_instr (instr_of e.word)) e.access
      refl refl,
  m.longer,
)

made : (seed t : ℕ) (from : Seen) (h : ℕ) (g d a : Seen) (place : ℕ) (e : Event) → InRound seed t from h g
    → h < harts from.program → After (to_drain seed t h (length (buffer g h))) g h d → Makes d h place e a
    → InRound seed t from (h + 1) a
made seed t from h g d a place e r l after m =
    let s = drained-same g d h (to_drain seed t h (length (buffer g h))) after in
    let (u, k, is) = made-same d a h place e m in
    let long : length a.journal ≡ length d.journal + 1 =
    ap (λ (x : Seen). length x.journal) is ∙ (length-append u.journal (e ∷ [])
    ∙ ap (λ (n : ℕ). n + 1) (ap (λ js. length js) k.journal)) in
    let long-d : length d.journal ≡ length g.journal = ap (λ js. length js) s.journal in
    let limit : d.limit ≡ from.limit = s.limit ∙ r.same.limit in
    record {
      same = record {
        program = ap (λ (x : Seen). x.program) is ∙ (k.program ∙ (s.program ∙ r.same.program));
        limit = ap (λ (x : Seen). x.limit) is ∙ (k.limit ∙ (s.limit ∙ r.same.limit));
      };
      goes = next-turn seed t from h a (Steps d place e a r.goes l after m);
      grown = omega (arith, r.grown);
      moved = inl (omega (arith, r.grown), omega (arith, m.room));
    }

skipped : (seed t : ℕ) (from : Seen) (h : ℕ) (g d : Seen) → InRound seed t from h g → h < harts from.program
    → After (to_drain seed t h (length (buffer g h))) g h d → IsHalted d h → InRound seed t from (h + 1) d
skipped seed t from h g d r l after halted =
    let s = drained-same g d h (to_drain seed t h (length (buffer g h))) after in
    let long-d : length d.journal ≡ length g.journal = ap (λ js. length js) s.journal in
    record {
      same = record { program = s.program ∙ r.same.program; limit = s.limit ∙ r.same.limit };
      goes = next-turn seed t from h d (Skips d r.goes l after halted);
      grown = omega (arith, r.grown);
      moved = by s long-d r.moved;
    }
  where
    by : Same g d → length d.journal ≡ length g.journal
        → Grows from g ⊎ (Same from g × ((k : ℕ) → k < h → IsHalted from k))
        → Grows from d ⊎ (Same from d × ((k : ℕ) → k < h + 1 → IsHalted from k))
    by s n (inl m) = inl (omega (arith, m.0), omega (arith, m.1))
    by s n (inr (k, all)) =
        let whole = same-then from g d k s in
        inr (whole, below_more _ _ all (same-halted from d h whole halted))

pub either : (seed t : ℕ) (from : Seen) (h : ℕ) (g d a : Seen) (turn : Turn) → InRound seed t from h g
    → h < harts from.program → After (to_drain seed t h (length (buffer g h))) g h d → Answers d h turn a
    → (turn ≡ Full → ⊥) → InRound seed t from (h + 1) a
either seed t from h g d a (Stepped place e) r l after x n = made seed t from h g d a place e r l after x
either seed t from h g d a Halted r l after x n =
    subst (InRound seed t from (h + 1)) (sym x.1) (skipped seed t from h g d r l after x.0)
either seed t from h g d a Full r l after x n = absurd (n refl)

-- ---- a whole round, and a part of one

pub whole : (seed t : ℕ) (from : Seen) (h : ℕ) (g : Seen) → InRound seed t from h g → h ≡ harts from.program
    → (¬ AllHalted from) → Goes seed t from (t + 1) 0 g × Grows from g
whole seed t from h g r e some = (
  let one : suc t ≡ t + 1 = omega arith in
      subst (λ (n : ℕ). Goes seed t from n 0 g) one (Wraps (subst (λ (n : ℕ). Goes seed t from t n g) e r.goes)),
  elim r.moved [
    | inl m ↦ m
    | inr q ↦ absurd (some (λ k l. q.1 k (subst (λ (n : ℕ). k < n) (sym e) l)))
  ],
)

pub part : (seed t : ℕ) (from : Seen) (h : ℕ) (g d a : Seen) → InRound seed t from h g → h < harts d.program
    → After (to_drain seed t h (length (buffer g h))) g h d → Answers d h Full a → IsFull seed t from a × IsSame from a
part seed t from h g d a r l after x =
    let s = drained-same g d h (to_drain seed t h (length (buffer g h))) after in
    subst (λ (y : Seen). IsFull seed t from y × IsSame from y) (sym x.2) (
      record {
        round = t;
        hart = h;
        before = g;
        goes = r.goes;
        below = l;
        drained = after;
        full = x.1;
        off_halt = x.0;
      },
      record { program = s.program ∙ r.same.program; limit = s.limit ∙ r.same.limit },
    )

-- Rounds after rounds are rounds.
pub goes-then : (seed first m : ℕ) (from g : Seen) → g.program ≡ from.program → Goes seed first from m 0 g → (t h : ℕ)
    (x : Seen) → Goes seed m g t h x → Goes seed first from t h x
goes-then seed first m from g e a t h x Begins = a
goes-then seed first m from g e a t h x (Steps {h = k} {g = y} d place event after b l drains makes) =
    Steps d place event after (goes-then seed first m from g e a t k y b) (subst (λ (p : Program). k < harts p) e l) drains
    makes
goes-then seed first m from g e a t h x (Skips {h = k} {g = y} d b l drains halted) =
    Skips d (goes-then seed first m from g e a t k y b) (subst (λ (p : Program). k < harts p) e l) drains halted
goes-then seed first m from g e a t h x (Wraps {t = n} {g = y} b) =
    Wraps (subst (λ (p : Program). Goes seed first from n (harts p) y) e
    (goes-then seed first m from g e a n (harts g.program) y b))

pub full-then : (seed m : ℕ) (from g x : Seen) → g.program ≡ from.program → Goes seed 0 from m 0 g → IsFull seed m g x
    → IsFull seed 0 from x
full-then seed m from g x e a f = record {
  round = f.round;
  hart = f.hart;
  before = f.before;
  goes = goes-then seed 0 m from g e a f.round f.hart f.before f.goes;
  below = f.below;
  drained = f.drained;
  full = f.full;
  off_halt = f.off_halt;
}
