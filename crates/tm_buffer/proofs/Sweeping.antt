-- The oldest write drains: where a signal waits, it is that one.
use Rattle.std.proofs.Common.{◌≡◌, ℕ, zero, suc, ◌+◌, ◌%◌, ◌<◌, ◌≤◌, List, [], ◌∷◌, ◌++◌, Bool, true, false, ◌==◌, inl, inr}
use Rattle.std.proofs.Common.{Option, None, Some, refl, sym, ap, ◌∙◌, subst, arith, le_refl, length, eq-eqb, length-append}
use Rattle.std.specs.Prelude.{slice_get, if◌then◌else◌}
use Rattle.std.specs.List.{remove}
use Rattle.std.proofs.lemmas.Bool.{cond-true, cases_Bool}
use Rattle.tm_plan_cases.specs.declared.program.Program.{Program}
use Rattle.tm_place.specs.Numbers.{choice}
use Rattle.tm_world.specs.Place.{harts}
use Rattle.tm_world.specs.Run.{Step, own}
use Rattle.tm_world.specs.Kinds.{flag_writes}
use Rattle.tm_world.specs.Course.{signals}
use Rattle.tm_world.specs.Replay.{opening}
use Rattle.tm_memory.specs.Meet.{AllMeet}
use Rattle.tm_buffered.specs.Moments.{Moment, Drains, Entry, Buffered}
use Rattle.tm_buffered.specs.Signals.{made, landed, flags_in}
use Rattle.tm_buffered.proofs.Landed.{flags_in-more, flags_in-same, counts, landed-le}
use Rattle.tm_buffered.proofs.Told.{told}
use Rattle.tm_buffered_meet.specs.Laws.{SignalWaits}
use Rattle.tm_buffered_meet.proofs.Landing.{signals-land}
use Rattle.tm_buffered_rounds.specs.Turns.{IsSwept}
use Rattle.tm_buffer.specs.declared.turn.Drained.{Drained as Answer}
use Rattle.tm_buffer.specs.declared.turn.Drained.TheVariants.{Went, Nothing}
use Rattle.tm_buffer.specs.Seen.{Seen, buffer, moments, opened, with_drain, draining, steps}
use Rattle.tm_buffer.specs.Turns.{DrainAnswers}
use Rattle.tm_buffer.specs.Rounds.{After, drawn, to_drain}
use Rattle.tm_buffer.proofs.Buffers.{oldest-free}
use Rattle.tm_buffer.proofs.Draining.{drain-moments, drain-buffer, drain-steps}

-- ---- the last of a list

last-is : (newer : List Entry) (x e : Entry) (i : ℕ) → i + 1 ≡ length (newer ++ x ∷ [])
    → slice_get (newer ++ x ∷ []) i ≡ Some e → x ≡ e
last-is [] x e zero n q = cc
last-is [] x e (suc i) n q = absurd (omega arith)
last-is (y ∷ newer) x e zero n q = absurd (let long = length-append newer (x ∷ []) in omega arith)
last-is (y ∷ newer) x e (suc i) n q = last-is newer x e i (omega arith) q

-- a signal less, where one is taken out
flags-removed : (g : ℕ) (es : List Entry) (i : ℕ) (e : Entry) → slice_get es i ≡ Some e → signals g e.step ≡ true
    → flags_in g es ≡ suc (flags_in g (remove es i))
flags-removed g [] i e q y = cc
flags-removed g (x ∷ es) zero e q y =
    let same : x ≡ e = cc in
    flags_in-more g x es (ap (λ (z : Entry). signals g z.step) same ∙ y)
flags-removed g (x ∷ es) (suc i) e q y =
    let ih = flags-removed g es i e q y in
    elim (cases_Bool (signals g x.step)) [
      | inl t ↦ omega (arith, flags_in-more g x es t, flags_in-more g x (remove es i) t)
      | inr f ↦ omega (arith, flags_in-same g x es f, flags_in-same g x (remove es i) f)
    ]

-- ---- one drain

pub same-made : (g t : Seen) (h : ℕ) → steps t ≡ steps g → made h (moments t) ≡ made h (moments g)
same-made g t h e = ap (λ (l : List Step). flag_writes h (own h l)) e

-- what was in memory stays there
pub landed-more : (g t : Seen) (h k : ℕ) (e : Entry) → t ≡ with_drain g (draining g h e)
    → landed k (moments g) ≤ landed k (moments t)
landed-more g t h k e is =
    subst (λ (l : List Moment). landed k (moments g) ≤ landed k l)
    (sym (ap moments is ∙ drain-moments g h e)) (landed-le k (Drains h e.number) (moments g))

module _ (p : Program) (m : AllMeet p) (g d : Seen) (h : ℕ) (l : h < harts p)
    (run : Buffered p (opened (moments g))) (after : Buffered p (opened (moments d))) where
  -- all of its signals are in memory before the drain
  none-waits : made h (moments g) ≤ landed h (moments g) → (x : Answer) → DrainAnswers g h 0 x d
      → made h (moments d) ≤ landed h (moments d)
  none-waits few Went answer =
      let (e, at, is) = answer.3 in
      let a = same-made g d h (ap steps is ∙ drain-steps g h e) in
      let b = landed-more g d h h e is in
      omega arith
  none-waits few Nothing a = subst (λ (z : Seen). made h (moments z) ≤ landed h (moments z)) (sym a.0) few

  -- the last of them waits
  one-waits : SignalWaits h (moments g) → made h (moments g) ≡ landed h (moments g) + 1 → (x : Answer)
      → DrainAnswers g h 0 x d → made h (moments d) ≤ landed h (moments d)
  one-waits w more Went answer =
      let i = answer.0 in
      let (e, at, is) = answer.3 in
      let n : i + 1 + 0 ≡ length (buffer g h) = answer.1 in
      let long : i + 1 ≡ length (w.newer ++ w.entry ∷ []) =
      let z : i + 1 ≡ length (buffer g h) = omega arith in z ∙ ap (λ (es : List Entry). length es) w.is in
      let same : w.entry ≡ e = last-is w.newer w.entry e i long
      (subst (λ (es : List Entry). slice_get es i ≡ Some e) w.is at) in
      let signal : signals h e.step ≡ true = subst (λ (x : Entry). signals h x.step ≡ true) same w.signal in
      let left : buffer d h ≡ remove (buffer g h) i = ap (λ (z : Seen). buffer z h) is ∙ drain-buffer g h i e at in
      let one = flags-removed h (buffer g h) i e at signal in
      let fewer = ap (flags_in h) left in
      let a = same-made g d h (ap steps is ∙ drain-steps g h e) in
      let b = counts p m.formed h l (moments g) (told p m opening (moments g) run) in
      let c = counts p m.formed h l (moments d) (told p m opening (moments d) after) in
      omega arith
  one-waits w more Nothing answer =
      let long = length-append w.newer (w.entry ∷ []) in
      let all : length w.newer + 1 ≡ length (buffer g h) =
      let z : length w.newer + 1 ≡ length (w.newer ++ w.entry ∷ []) = omega arith in
      z ∙ ap (λ (es : List Entry). length es) (sym w.is) in
      absurd (answer.1 (length w.newer) (omega arith) (oldest-free (buffer g h) (length w.newer) all))

  -- Behind the draining of the oldest write all signals of its hart are in memory.
  oldest : (x : Answer) → DrainAnswers g h 0 x d → made h (moments d) ≤ landed h (moments d)
  oldest x a = elim (signals-land p m (opened (moments g)) run h l) [
    | inl same ↦ none-waits (omega arith) x a
    | inr w ↦ one-waits w.0 w.1 x a
  ]

  -- So they are behind the drain that is drawn in each eighth round.
  pub swept : (seed t : ℕ) → After (to_drain seed t h (length (buffer g h))) g h d → IsSwept t h (moments d)
  swept seed t a e =
      let n = length (buffer g h) in
      let first : to_drain seed t h n ≡ Some 0 = cond-true (t % 8 == 7) (Some 0) (if n == 0 then None
      else (if choice (drawn seed t h 0) 2 == 1 then Some (choice (drawn seed t h 1) n) else None))
      (eq-eqb (t % 8) 7 e) in
      let answer : After (Some 0) g h d = subst (λ (o : Option ℕ). After o g h d) first a in
      oldest answer.0 answer.1
