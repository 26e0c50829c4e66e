-- A hart that signals has all its earlier writes in memory: a fence stands behind the last of them. So a signal that
-- waits is the oldest in its buffer, and nothing that waits beside it is of its phase.
use Rattle.std.proofs.Common.{◌≡◌, ℕ, ◌<◌, ◌≤◌, List, [], ◌∷◌, ◌++◌, Bool, true, false, ◌||◌}
use Rattle.std.proofs.Common.{inl, inr, refl, sym, ap, ◌∙◌, subst, arith, eqb-true, not, le_refl}
use Rattle.std.specs.Prelude.{if◌then◌else◌}
use Rattle.std.specs.List.{AllByRecursion as Each}
use Rattle.std.proofs.lemmas.Bool.{cases_Bool, cases_eq, true≢false, false≢true, or_cases}
use Rattle.std.proofs.lemmas.Bool.{or_left, or_right, or_parts}
use Rattle.tm_table.specs.declared.state.Access.{Access}
use Rattle.tm_table.specs.declared.state.Access.TheVariants.{Quiet, Read, Write}
use Rattle.tm_table.specs.Words.{decoded}
use Rattle.tm_plan_cases.specs.declared.program.Program.{Program}
use Rattle.tm_plan_map.specs.Slots.{instr_of}
use Rattle.tm_base.specs.Lists.{any}
use Rattle.tm_world.specs.Lists.{front_to, those}
use Rattle.tm_world.specs.Place.{harts, exit_of}
use Rattle.tm_world.specs.Run.{Step, own, hart_of, access_of, phase, in_phase}
use Rattle.tm_world.specs.Kinds.{phase_of}
use Rattle.tm_world.specs.Course.{IsStill, signals, is_write, is_fence}
use Rattle.tm_legal.proofs.Own.{own-here, own-there}
use Rattle.tm_legal.proofs.Phases.{in_phase-here, in_phase-there, phase-le}
use Rattle.tm_meet.proofs.Counts.{BarrierKept, signalled}
use Rattle.tm_buffered.specs.Moments.{Moment, Makes, Drains, steps_of, Entry, writes_by, writes_of, waiting, fences}
use Rattle.tm_buffered.specs.Moments.{is_fence_instr, has_drained, IsMoment, AtEach}
use Rattle.tm_buffered.proofs.Entries.{each-map, each-without, each-that, not-empty}
use Rattle.tm_buffered.proofs.Drains.{entry, writes-same, From, waiting-from, waiting-more, waiting-same, waiting-other}
use Rattle.tm_buffered.proofs.Drains.{gone, by-parts}
use Rattle.tm_buffered.proofs.Lookups.{not-writes}
use Rattle.tm_buffered.proofs.Told.{Told, made-told, drained-told, phase_at}

-- ---- fences

-- `fence rw, rw` is a FENCE
fence-word : is_fence_instr (instr_of 0x0330000F) ≡ true
unfolding instr_of decoded
fence-word = refl

is-fencing : (s : Step) → is_fence s ≡ true → fences s ≡ true
is-fencing s e = ap (λ (w : ℕ). is_fence_instr (instr_of w)) (eqb-true _ _ e) ∙ fence-word

-- some fence stands behind the last write
abbrev pub fenced : List Step → Bool
fenced own = any is_fence (front_to (λ t. is_write (access_of t)) own)

fenced-write : (s : Step) (past : List Step) → is_write (access_of s) ≡ true → fenced (s ∷ past) ≡ false
fenced-write s past w = ap (λ (b : Bool). any is_fence (if b then [] else s
    ∷ front_to (λ t. is_write (access_of t)) past)) w

fenced-other : (s : Step) (past : List Step) → is_write (access_of s) ≡ false
    → fenced (s ∷ past) ≡ (is_fence s || fenced past)
fenced-other s past w = ap (λ (b : Bool). any is_fence (if b then [] else s
    ∷ front_to (λ t. is_write (access_of t)) past)) w

-- behind it all writes of the hart are in memory
fence-drains : (p : Program) (g : ℕ) (before : List Moment) → AtEach (IsMoment p) before
    → fenced (own g (steps_of before)) ≡ true → waiting g before ≡ []
fence-drains p g [] a e = absurd (false≢true e)
fence-drains p g (Makes s ∷ before) a e =
    let past = steps_of before in
    elim (cases_eq (hart_of s) g) [
      | inr n ↦ waiting-same g s before (not-writes g s (inl n))
          ∙ fence-drains p g before a.1 (sym (ap fenced (own-there g s past n)) ∙ e)
      | inl q ↦
          let here : fenced (s ∷ own g past) ≡ true = sym (ap fenced (own-here g s past q)) ∙ e in
          elim (cases_Bool (is_write (access_of s))) [
            | inl w ↦ absurd (false≢true (sym (fenced-write s (own g past) w) ∙ here))
            | inr w ↦
                let same = waiting-same g s before (not-writes g s (inr w)) in
                elim (or_cases (is_fence s) (fenced (own g past)) (sym (fenced-other s (own g past) w) ∙ here)) [
                  | inl f ↦ same ∙ subst (λ (k : ℕ). waiting k before ≡ []) q (a.0.0 (is-fencing s f))
                  | inr f ↦ same ∙ fence-drains p g before a.1 f
                ]
          ]
    ]
fence-drains p g (Drains h w ∷ before) a e =
    let ih = fence-drains p g before a.1 e in
    elim (cases_eq h g) [
      | inr n ↦ waiting-other g h w before n ∙ ih
      | inl q ↦
          let d = gone g h w before q a.0 in
          absurd (not-empty d.newer d.entry d.older (sym d.was ∙ ih))
    ]

-- no writes, so none waits
none-made : (g : ℕ) (steps : List Step) → any (λ t. is_write (access_of t)) (own g steps) ≡ false → writes_of g steps ≡ []
none-made g [] e = refl
none-made g (s ∷ past) e = elim (cases_eq (hart_of s) g) [
  | inr n ↦ writes-same g s past (not-writes g s (inl n))
      ∙ none-made g past (sym (ap (any (λ t. is_write (access_of t))) (own-there g s past n)) ∙ e)
  | inl q ↦
      let here : (is_write (access_of s) || any (λ t. is_write (access_of t)) (own g past)) ≡ false =
      sym (ap (any (λ t. is_write (access_of t))) (own-here g s past q)) ∙ e in
      let parts = or_parts (is_write (access_of s)) (any (λ t. is_write (access_of t)) (own g past)) here in
      writes-same g s past (not-writes g s (inr parts.0)) ∙ none-made g past parts.1
]

-- what hart g keeps at its step
pub step-keeps : (p : Program) (g : ℕ) → g < harts p → (s : Step) (before : List Moment) → Told p (Makes s ∷ before)
    → hart_of s ≡ g → BarrierKept p g (s ∷ own g (steps_of before))
step-keeps p g l s before t e = subst (BarrierKept p g) (own-here g s (steps_of before) e) (t.keep g l)

-- Whoever signals has no write that waits.
signal-empty : (p : Program) (g : ℕ) → g < harts p → (s : Step) (before : List Moment) → Told p (Makes s ∷ before)
    → hart_of s ≡ g → signals g s ≡ true → waiting g before ≡ []
signal-empty p g l s before t e y =
    let k = step-keeps p g l s before t e in
    let steps = own g (steps_of before) in
    elim (cases_Bool (any (λ u. is_write (access_of u)) steps)) [
      | inl w ↦ fence-drains p g before t.moments.1 ((k.0.signal y).fence w)
      | inr w ↦ ap (those (λ x. not (has_drained g x.number before))) (none-made g (steps_of before) w)
    ]

-- ---- phases of writes

phase-later : (p : Program) (g : ℕ) (later past : List Step) → phase_of p past g ≤ phase_of p (later ++ past) g
phase-later p g [] past = le_refl _
phase-later p g (s ∷ later) past =
    let ih = phase-later p g later past in
    elim (cases_eq (hart_of s) g) [
      | inl e ↦ subst (λ (l : List Step). phase_of p past g ≤ phase (exit_of p g) l) (sym (own-here g s (later ++ past) e))
          (let z = phase-le (exit_of p g) s (own g (later ++ past)) in omega arith)
      | inr n ↦ subst (λ (l : List Step). phase_of p past g ≤ phase (exit_of p g) l)
          (sym (own-there g s (later ++ past) n)) ih
    ]

-- A write stands in a phase up to its hart's.
pub phase-from : (p : Program) (g : ℕ) (steps : List Step) (e : Entry) → From g steps e
    → phase_at p e ≤ phase_of p steps g
phase-from p g steps e f =
    let a : phase_of p (e.step ∷ e.past) g ≤ phase_of p (f.later ++ (e.step ∷ e.past)) g =
    phase-later p g f.later (e.step ∷ e.past) in
    let b : phase_of p (f.later ++ (e.step ∷ e.past)) g ≡ phase_of p steps g =
    ap (λ (l : List Step). phase_of p l g) (sym f.is) in
    let c : phase_of p e.past g ≤ phase_of p (e.step ∷ e.past) g = phase-later p g (e.step ∷ []) e.past in
    let d : phase_at p e ≡ phase_of p e.past g = ap (phase_of p e.past) f.hart in
    omega arith

any-in : (p : Program) (g q : ℕ) (later : List Step) (s : Step) (past : List Step) → hart_of s ≡ g
    → phase_of p past g ≡ q → signals g s ≡ true
    → any (signals g) (in_phase (exit_of p g) q (own g (later ++ (s ∷ past)))) ≡ true
any-in p g q [] s past e f y =
    ap (λ (l : List Step). any (signals g) (in_phase (exit_of p g) q l)) (own-here g s past e)
    ∙ (ap (any (signals g)) (in_phase-here (exit_of p g) q s (own g past) f)
    ∙ or_left (signals g s) (any (signals g) (in_phase (exit_of p g) q (own g past))) y)
any-in p g q (u ∷ later) s past e f y =
    let x = exit_of p g in
    let rest = later ++ (s ∷ past) in
    let ih = any-in p g q later s past e f y in
    elim (cases_eq (hart_of u) g) [
      | inr n ↦ ap (λ (l : List Step). any (signals g) (in_phase x q l)) (own-there g u rest n) ∙ ih
      | inl d ↦ ap (λ (l : List Step). any (signals g) (in_phase x q l)) (own-here g u rest d)
          ∙ elim (cases_eq (phase_of p rest g) q) [
            | inr n ↦ ap (any (signals g)) (in_phase-there x q u (own g rest) n) ∙ ih
            | inl c ↦ ap (any (signals g)) (in_phase-here x q u (own g rest) c)
                ∙ or_right (signals g u) (any (signals g) (in_phase x q (own g rest))) ih
          ]
    ]

-- A signal of the phase in which the hart is says that it has signalled.
signal-here : (p : Program) (g : ℕ) (steps : List Step) (e : Entry) → From g steps e → signals g e.step ≡ true
    → phase_at p e ≡ phase_of p steps g → signalled p g (own g steps) ≡ true
signal-here p g steps e f y same =
    let x = exit_of p g in
    let q = phase_of p steps g in
    let d : phase_of p e.past g ≡ q = sym (ap (phase_of p e.past) f.hart) ∙ same in
    ap (λ (l : List Step). any (signals g) (in_phase x q (own g l))) f.is
    ∙ any-in p g q f.later e.step e.past f.hart d y

still-quiet : (p : Program) (h : ℕ) (a : Access) → IsStill p h a → is_write a ≡ false
still-quiet p h Quiet s = refl
still-quiet p h (Read addr width value) s = refl
still-quiet p h (Write addr width value) s = absurd s

-- Who writes hasn't signalled in its phase yet.
pub write-quiet : (p : Program) (g : ℕ) → g < harts p → (s : Step) (before : List Moment) → Told p (Makes s ∷ before)
    → hart_of s ≡ g → is_write (access_of s) ≡ true → signalled p g (own g (steps_of before)) ≡ false
write-quiet p g l s before t e w =
    let k = step-keeps p g l s before t e in
    elim (cases_Bool (signalled p g (own g (steps_of before)))) [
      | inl y ↦ absurd (true≢false (sym w ∙ still-quiet p g (access_of s) (k.0.still y)))
      | inr n ↦ n
    ]

-- ---- signals that wait

-- a write that waits beside a signal: the signal is of an earlier phase
abbrev pub Behind : Program → ℕ → Entry → Entry → Type 0
Behind p g x y = signals g y.step ≡ true → phase_at p y < phase_at p x

-- A signal is the oldest of the list, and the writes newer than it are of later phases.
abbrev pub Alone : Program → ℕ → List Entry → Type 0
Alone p g [] = Unit {0}
Alone p g (x ∷ xs) = (signals g x.step ≡ true → xs ≡ []) × Each (Behind p g x) xs × Alone p g xs

alone-without : (p : Program) (g : ℕ) (xs : List Entry) (e : Entry) (ys : List Entry) → Alone p g (xs ++ (e ∷ ys))
    → Alone p g (xs ++ ys)
alone-without p g [] e ys a = a.2
alone-without p g (x ∷ xs) e ys a = (
  λ y. absurd (not-empty xs e ys (a.0 y)),
  each-without (Behind p g x) xs e ys a.1,
  alone-without p g xs e ys a.2,
)

alone-first : (p : Program) (g : ℕ) (xs : List Entry) (e : Entry) (ys : List Entry) → Alone p g (xs ++ (e ∷ ys))
    → signals g e.step ≡ true → ys ≡ []
alone-first p g [] e ys a y = a.0 y
alone-first p g (x ∷ xs) e ys a y = alone-first p g xs e ys a.2 y

alone-later : (p : Program) (g : ℕ) (xs : List Entry) (e : Entry) (ys : List Entry) → Alone p g (xs ++ (e ∷ ys))
    → signals g e.step ≡ true → Each (λ x. phase_at p e < phase_at p x) xs
alone-later p g [] e ys a y = tt
alone-later p g (x ∷ xs) e ys a y =
    (each-that (Behind p g x) xs e ys a.1 y, alone-later p g xs e ys a.2 y)

alone-quiet : (p : Program) (g : ℕ) (xs : List Entry) (e : Entry) (ys : List Entry) → Alone p g (xs ++ (e ∷ ys))
    → Each (λ x. signals g x.step ≡ false) xs
alone-quiet p g [] e ys a = tt
alone-quiet p g (x ∷ xs) e ys a = (
  elim (cases_Bool (signals g x.step)) [ inl y ↦ absurd (not-empty xs e ys (a.0 y)) | inr n ↦ n ],
  alone-quiet p g xs e ys a.2,
)

-- What is so of a signal among those that wait.
pub record First (p : Program) (g : ℕ) (newer : List Entry) (e : Entry) (older : List Entry) : Type 0 where
  pub oldest : older ≡ []
  pub later : Each (λ x. phase_at p e < phase_at p x) newer
  pub only : Each (λ x. signals g x.step ≡ false) newer

pub alone-at : (p : Program) (g : ℕ) (newer : List Entry) (e : Entry) (older : List Entry)
    → Alone p g (newer ++ (e ∷ older)) → signals g e.step ≡ true → First p g newer e older
alone-at p g newer e older a y = record {
  oldest = alone-first p g newer e older a y;
  later = alone-later p g newer e older a y;
  only = alone-quiet p g newer e older a;
}

-- a new write
alone-more : (p : Program) (g : ℕ) → g < harts p → (s : Step) (before : List Moment) → Told p (Makes s ∷ before)
    → writes_by g s ≡ true → Alone p g (waiting g before)
    → Alone p g (entry s (steps_of before) ∷ waiting g before)
alone-more p g l s before t y rest =
    let (e, w) = by-parts g s y in
    let steps = steps_of before in
    let quiet = write-quiet p g l s before t e w in
    let q : phase_of p steps (hart_of s) ≡ phase_of p steps g = ap (phase_of p steps) e in
    let below : (x : Entry) → From g steps x → Behind p g (entry s steps) x =
    λ x f z.
    let le = phase-from p g steps x f in
    let ne : phase_at p x ≡ phase_of p steps g → ⊥ =
    λ same. true≢false (sym (signal-here p g steps x f z same) ∙ quiet) in
    omega arith in (
      λ z. signal-empty p g l s before t e z,
      each-map (From g steps) (Behind p g (entry s steps)) (waiting g before) below (waiting-from g before),
      rest,
    )

pub alone : (p : Program) (g : ℕ) → g < harts p → (list : List Moment) → Told p list → Alone p g (waiting g list)
alone p g l [] t = tt
alone p g l (Makes s ∷ before) t =
    let ih = alone p g l before (made-told p s before t) in
    elim (cases_Bool (writes_by g s)) [
      | inl y ↦ subst (Alone p g) (sym (waiting-more p g s before t.moments.1 y)) (alone-more p g l s before t y ih)
      | inr n ↦ subst (Alone p g) (sym (waiting-same g s before n)) ih
    ]
alone p g l (Drains h w ∷ before) t =
    let ih = alone p g l before (drained-told p h w before t) in
    elim (cases_eq h g) [
      | inr n ↦ subst (Alone p g) (sym (waiting-other g h w before n)) ih
      | inl e ↦
          let d = gone g h w before e t.moments.0 in
          subst (Alone p g) (sym d.is) (alone-without p g d.newer d.entry d.older (subst (Alone p g) d.was ih))
    ]
