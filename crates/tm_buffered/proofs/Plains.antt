-- Each plain run is a buffered run, each of whose writes drains at once.
use Rattle.std.proofs.Common.{◌≡◌, ℕ, ◌<◌, List, [], ◌∷◌, true, false, ◌==◌, not, Option, Some, inl, inr}
use Rattle.std.proofs.Common.{refl, sym, ap, ◌∙◌, subst, arith, eq-eqb, length}
use Rattle.std.specs.Prelude.{Contains, IsFalse, if◌then◌else◌, unwrap_or}
use Rattle.std.proofs.lemmas.Bool.{cond-true, cond-false, cases_Bool, cases_eq}
use Rattle.std.proofs.lemmas.List.Elements.{All-from_recursion}
use Rattle.std.specs.List.{AllByRecursion as Each}
use Rattle.tm_plan_cases.specs.declared.program.Program.{Program}
use Rattle.tm_world.specs.Lists.{or_else, those}
use Rattle.tm_world.specs.Place.{image_byte}
use Rattle.tm_world.specs.Run.{Step, Always, hart_of, access_of, written, last_write, Reads}
use Rattle.tm_world.specs.Kinds.{Paths, plain_owed}
use Rattle.tm_world.specs.Course.{is_write}
use Rattle.tm_world.proofs.Prefix.{earlier}
use Rattle.tm_legal.proofs.Own.{reads-same}
use Rattle.tm_buffered.specs.Moments.{Moment, Makes, Drains, steps_of, Entry, waiting, memory, left_at, share, MayDrain}
use Rattle.tm_buffered.specs.Moments.{buffered_owed, IsMoment, AtEach}
use Rattle.tm_buffered.specs.Laws.{PlainIsBuffered}
use Rattle.tm_buffered.proofs.Entries.{those-drop}
use Rattle.tm_buffered.proofs.Drains.{entry, waiting-more, waiting-same, waiting-other, waiting-drain, memory-drain}
use Rattle.tm_buffered.proofs.Lookups.{quiet-none, is-by, not-writes}

-- the moments of these steps, where each write drains at once
at_once : List Step → List Moment
at_once [] = []
at_once (s ∷ past) =
    if is_write (access_of s) then Drains (hart_of s) (length past) ∷ (Makes s ∷ at_once past)
    else Makes s ∷ at_once past

once-write : (s : Step) (past : List Step) → is_write (access_of s) ≡ true
    → at_once (s ∷ past) ≡ Drains (hart_of s) (length past) ∷ (Makes s ∷ at_once past)
unfolding at_once
once-write s past e = cond-true (is_write (access_of s)) (Drains (hart_of s) (length past) ∷ (Makes s ∷ at_once past))
    (Makes s ∷ at_once past) e

once-other : (s : Step) (past : List Step) → is_write (access_of s) ≡ false → at_once (s ∷ past)
    ≡ Makes s ∷ at_once past
unfolding at_once
once-other s past e = cond-false (is_write (access_of s)) (Drains (hart_of s) (length past) ∷ (Makes s ∷ at_once past))
    (Makes s ∷ at_once past) e

once-steps : (steps : List Step) → steps_of (at_once steps) ≡ steps
unfolding at_once
once-steps [] = refl
once-steps (s ∷ past) = elim (cases_Bool (is_write (access_of s))) [
  | inl w ↦ ap steps_of (once-write s past w) ∙ ap (λ (l : List Step). s ∷ l) (once-steps past)
  | inr w ↦ ap steps_of (once-other s past w) ∙ ap (λ (l : List Step). s ∷ l) (once-steps past)
]

-- What is so of these moments.
record Once (p : Program) (steps : List Step) (list : List Moment) : Type 0 where
  moments : AtEach (IsMoment p) list
  empty : (h : ℕ) → waiting h list ≡ []
  left : (b : ℕ) → left_at b (memory list) ≡ last_write b steps

-- what a hart finds is what was written last
once-owed : (p : Program) (steps : List Step) (list : List Moment) → Once p steps list → (h b : ℕ)
    → plain_owed p steps b ≡ buffered_owed p h list b
once-owed p steps list k h b =
    ap (λ (o : Option ℕ). Some (unwrap_or o (image_byte p b)))
    (sym (ap (λ (es : List Entry). or_else (left_at b es) (left_at b (memory list))) (k.empty h) ∙ k.left b))

module _ (p : Program) (s : Step) (past : List Step) (list : List Moment) (k : Once p past list)
    (is : steps_of list ≡ past) (reads : Reads (plain_owed p past) (access_of s)) where
  made : AtEach (IsMoment p) (Makes s ∷ list)
  made = (
    (
      λ f. k.empty (hart_of s),
      reads-same (plain_owed p past) (buffered_owed p (hart_of s) list) (access_of s) (once-owed p past list k (hart_of s))
          reads,
    ),
    k.moments,
  )

  quiet : is_write (access_of s) ≡ false → Once p (s ∷ past) (Makes s ∷ list)
  quiet w = record {
    moments = made;
    empty = λ h. waiting-same h s list (not-writes h s (inr w)) ∙ k.empty h;
    left = λ b. k.left b ∙ ap (λ (o : Option ℕ). or_else o (last_write b past)) (sym (quiet-none (access_of s) b w));
  }

  one : is_write (access_of s) ≡ true → waiting (hart_of s) (Makes s ∷ list) ≡ entry s (steps_of list) ∷ []
  one w =
      waiting-more p (hart_of s) s list k.moments (is-by (hart_of s) s refl w)
      ∙ ap (λ (es : List Entry). entry s (steps_of list) ∷ es) (k.empty (hart_of s))

  may : is_write (access_of s) ≡ true → MayDrain (hart_of s) (length past) (Makes s ∷ list)
  may w =
      let h = hart_of s in
      let n : length (steps_of list) ≡ length past = ap (λ (l : List Step). length l) is in
      let Free : Entry → Type 0 = λ e. e.number < length past → IsFalse (share (access_of e.step) (access_of s)) in
      record {
        write = entry s (steps_of list);
        waits = subst (λ (es : List Entry). Contains es (entry s (steps_of list))) (sym (one w)) (0, omega arith, refl);
        number = n;
        first = All-from_recursion Free (waiting h (Makes s ∷ list))
            (subst (Each Free) (sym (one w)) (λ l. absurd (omega arith), tt));
      }

  drained : is_write (access_of s) ≡ true
      → Once p (s ∷ past) (Drains (hart_of s) (length past) ∷ (Makes s ∷ list))
  unfolding may
  drained w =
      let h = hart_of s in
      let n : length past ≡ length (steps_of list) = sym (ap (λ (l : List Step). length l) is) in
      record {
        moments = (may w, made);
        empty = λ g. elim (cases_eq h g) [
          | inl e ↦ subst (λ (i : ℕ). waiting i (Drains h (length past) ∷ (Makes s ∷ list)) ≡ []) e
              (waiting-drain h (length past) (Makes s ∷ list)
              ∙ (ap (those (λ x. not (length past == x.number))) (one w)
              ∙ those-drop (λ x. not (length past == x.number)) (entry s (steps_of list)) []
              (ap not (eq-eqb (length past) (length (steps_of list)) n))))
          | inr e ↦ waiting-other g h (length past) (Makes s ∷ list) e
              ∙ (waiting-same g s list (not-writes g s (inl e)) ∙ k.empty g)
        ];
        left = λ b. ap (left_at b) (memory-drain h (length past) (Makes s ∷ list) (may w))
            ∙ ap (or_else (written (access_of s) b)) (k.left b);
      }

once : (p : Program) (steps : List Step) → Always (λ past s. Reads (plain_owed p past) (access_of s)) steps
    → Once p steps (at_once steps)
unfolding at_once
once p [] r = record { moments = tt; empty = λ h. refl; left = λ b. refl }
once p (s ∷ past) r =
    let k = once p past r.1 in
    elim (cases_Bool (is_write (access_of s))) [
      | inl w ↦ subst (Once p (s ∷ past)) (sym (once-write s past w))
          (drained p s past (at_once past) k (once-steps past) r.0 w)
      | inr w ↦ subst (Once p (s ∷ past)) (sym (once-other s past w))
          (quiet p s past (at_once past) k (once-steps past) r.0 w)
    ]

pub plain-buffered : (p : Program) → PlainIsBuffered p
plain-buffered p r plain = (
  at_once r.steps,
  once-steps r.steps,
  record {
    paths = subst (λ (l : List Step). Paths p (earlier r.opening l)) (sym (once-steps r.steps)) plain.paths;
    moments = (once p r.steps plain.reads).moments;
  },
)
