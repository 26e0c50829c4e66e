-- The headline: a round case is reported exactly where some checked part differs between two passes.
use Rattle.std.proofs.Common.{◌≡◌, ◌≢◌, ℕ, zero, suc, ◌+◌, ◌-◌, ◌*◌, ◌<◌, ◌≤◌, List, [], ◌∷◌, ◌++◌, map, length, Bool}
use Rattle.std.proofs.Common.{true, false, ◌||◌, nat_lt, Option, None, Some, inl, inr, refl, sym, ap, ap₂, ◌∙◌, subst}
use Rattle.std.proofs.Common.{arith, eqb-true, eq-eqb}
use Rattle.std.specs.Prelude.{◌⊎◌, IsTrue, All, slice_get, slice_index, if◌then◌else◌, option_map}
use Rattle.std.specs.List.{AllByRecursion as Each}
use Rattle.std.proofs.lemmas.Bool.{cases_Bool, cases_eq, false≢true, lt-ltb, le-ltb}
use Rattle.std.proofs.lemmas.List.Elements.{All-head, All-from_get_or, All-from_recursion, recursion_from_All}
use Rattle.tm_table.specs.declared.state.Access.TheVariants.{Write}
use Rattle.tm_table.specs.State.{Hart}
use Rattle.tm_plan_cases.specs.declared.program.Program.{Program}
use Rattle.tm_plan_cases.specs.declared.masks.CaseMask.{CaseMask}
use Rattle.tm_plan_cases.specs.Collected.{is_declared, collector, owned}
use Rattle.tm_plan_map.specs.Map.{verdict_at, windows_base, windows_size}
use Rattle.tm_base.specs.Lists.{any, count_from}
use Rattle.tm_world.specs.Lists.{or_else}
use Rattle.tm_world.specs.Place.{harts, passes, round_count}
use Rattle.tm_world.specs.Run.{Step, Run, Always, own, hart_of, access_of, earliest}
use Rattle.tm_world.specs.Kinds.{Half, first_of_hart}
use Rattle.tm_world.specs.Course.{KeepsVerdicts, writes_in}
use Rattle.tm_world.specs.Verdict.{Part, Register, Byte, end_value, left_with, parts, saved, is_checked}
use Rattle.tm_world.specs.Verdict.{Same, IsVerdict, agree, differ, WritesExactly, HasEnds}
use Rattle.tm_world.specs.Reported.{Sometimes, AllAtHalt, Reports, IsReported, IsChecked, end_in, Differs}
use Rattle.tm_world.specs.Sound.{Sound}
use Rattle.tm_plan_map.proofs.Within.{within-parts}
use Rattle.tm_legal.specs.Tame.{Formed}
use Rattle.tm_legal.proofs.Own.{own-here, own-there}
use Rattle.tm_base.proofs.ListLemmas.{none-past}
use Rattle.tm_world.proofs.Streams.{stream-of}
use Rattle.tm_legal.proofs.Sound.{sound-plain}
use Rattle.tm_stays.proofs.Dwords.{lies, dword_of, dword-place, of-owned}
use Rattle.tm_meet.proofs.Dwords.{dword-collector}
use Rattle.tm_quiet.specs.Laws.{IsCompared}
use Rattle.tm_quiet.proofs.Saved.{saved-compared}
use Rattle.tm_quiet.proofs.Windows.{in-window}
use Rattle.tm_quiet.proofs.Exists.{ends-there}
use Rattle.tm_sound.specs.Headline.{SoundHasHeadline}

-- ---- steps that stand somewhere

some-later : (P : Step → Type 0) (later past : List Step) → Sometimes (λ before s. P s) past
    → Sometimes (λ before s. P s) (later ++ past)
some-later P [] past h = h
some-later P (s ∷ later) past h = inr (some-later P later past h)

-- what a hart's own steps have, all have
some-own : (P : Step → Type 0) (h : ℕ) (steps : List Step) → Sometimes (λ before s. P s) (own h steps)
    → Sometimes (λ before s. P s) steps
some-own P h [] q = q
some-own P h (s ∷ past) q = elim (cases_eq (hart_of s) h) [
  | inl e ↦ by (some-own P h past) (subst (Sometimes (λ before s. P s)) (own-here h s past e) q)
  | inr n ↦ inr (some-own P h past (subst (Sometimes (λ before s. P s)) (own-there h s past n) q))
]
  where
    by : (Sometimes (λ before t. P t) (own h past) → Sometimes (λ before t. P t) past)
        → P s ⊎ Sometimes (λ before t. P t) (own h past) → P s ⊎ Sometimes (λ before t. P t) past
    by earlier (inl here) = inl here
    by earlier (inr rest) = inr (earlier rest)

-- and a step of all is some hart's own
own-some : (N : ℕ) (P : Step → Type 0) (steps : List Step) → Always (λ past s. hart_of s < N) steps
    → Sometimes (λ before s. P s) steps → (g : ℕ) × (g < N) × Sometimes (λ before s. P s) (own g steps)
own-some N P [] few q = absurd q
own-some N P (s ∷ past) few (inl here) = (
  hart_of s,
  few.0,
  subst (Sometimes (λ before s. P s)) (sym (own-here (hart_of s) s past refl)) (inl here),
)
own-some N P (s ∷ past) few (inr rest) =
    let (g, l, some) = own-some N P past few.1 rest in
    elim (cases_eq (hart_of s) g) [
      | inl e ↦ (g, l, subst (Sometimes (λ before s. P s)) (sym (own-here g s past e)) (inr some))
      | inr n ↦ (g, l, subst (Sometimes (λ before s. P s)) (sym (own-there g s past n)) some)
    ]

-- ---- end values stay

earliest-later : {A : Type 0} (f : List Step → Step → Option A) (later past : List Step) (u : A)
    → earliest f past ≡ Some u → earliest f (later ++ past) ≡ Some u
earliest-later f [] past u e = e
earliest-later f (s ∷ later) past u e =
    ap (λ z. or_else z (f (later ++ past) s)) (earliest-later f later past u e)

module _ (p : Program) (h e k : ℕ) (first : Hart) where
  end-later : (later past : List Step) (part : Part) (u : ℕ) → end_value p h e k first past part ≡ Some u
      → end_value p h e k first (later ++ past) part ≡ Some u
  end-later later past (Byte b) u q = earliest-later _ later past u q
  end-later later past (Register r) u q = by (left_with p h e (2 * (e * passes p + k) + 1) first past) refl q
    where
      by : (z : Option Hart) → left_with p h e (2 * (e * passes p + k) + 1) first past ≡ z
          → option_map (λ (s : Hart). slice_index s.x r) z ≡ Some u
          → end_value p h e k first (later ++ past) (Register r) ≡ Some u
      by None g f = cc
      by (Some s) g f = ap (option_map (λ (s : Hart). slice_index s.x r)) (earliest-later _ later past s g) ∙ f

-- ---- a verdict that was written

-- Hart h has written v as its verdict on round case e, and each part that it saves had its end values there.
record Written (p : Program) (m : CaseMask) (h e : ℕ) (first : Hart) (own : List Step) (v : ℕ) : Type 0 where
  later : List Step
  step : Step
  past : List Step
  is : own ≡ later ++ step ∷ past
  covers : IsTrue (writes_in (verdict_at e h) 8 (access_of step))
  writes : access_of step ≡ Write (verdict_at e h) 8 v
  verdict : IsVerdict p m h e first past v
  ends : (k i : ℕ) → k < passes p → i < saved p h → All (λ part. (u : ℕ)
      × (end_value p h e k first past part ≡ Some u)) (parts p h i)

module _ (p : Program) (m : CaseMask) (e : ℕ) (few : e < round_count p) (masked : slice_get p.masks.cases e
    ≡ Some m) (g : ℕ) (first : Hart) where
  at-step : (s : Step) (past : List Step) → WritesExactly p g first (s ∷ past) → HasEnds p g first (s ∷ past) → (v : ℕ)
      → IsTrue (writes_in (verdict_at e g) 8 (access_of s)) → access_of s ≡ Write (verdict_at e g) 8 v
      → Written p m g e first (s ∷ past) v
  at-step s past exact ends v covers writes = record {
    later = [];
    step = s;
    past = past;
    is = refl;
    covers = covers;
    writes = writes;
    verdict = exact.0 e m v masked writes;
    ends = ends.0 e v few writes;
  }

  more : (s : Step) (past : List Step) (v : ℕ) → Written p m g e first past v → Written p m g e first (s ∷ past) v
  more s past v w = record {
    later = s ∷ w.later;
    step = w.step;
    past = w.past;
    is = ap (λ (x : List Step). s ∷ x) w.is;
    covers = w.covers;
    writes = w.writes;
    verdict = w.verdict;
    ends = w.ends;
  }

  -- where some step covers a byte of its cell
  written-some : (own : List Step) → KeepsVerdicts p g first own → WritesExactly p g first own → HasEnds p g first own
      → g < harts p → IsTrue (any (λ s. writes_in (verdict_at e g) 8 (access_of s)) own)
      → (v : ℕ) × Written p m g e first own v
  written-some [] verdicts exact ends l t = absurd (false≢true t)
  written-some (s ∷ past) verdicts exact ends l t =
      by (writes_in (verdict_at e g) 8 (access_of s)) refl t (written-some past verdicts.1 exact.1 ends.1 l)
    where
      by : (b : Bool) → writes_in (verdict_at e g) 8 (access_of s) ≡ b
          → IsTrue (b || any (λ s. writes_in (verdict_at e g) 8 (access_of s)) past)
          → (IsTrue (any (λ s. writes_in (verdict_at e g) 8 (access_of s)) past)
          → (v : ℕ) × Written p m g e first past v) → (v : ℕ) × Written p m g e first (s ∷ past) v
      by true q f earlier = let (v, writes) = (verdicts.0 e g few l q).1.value in
          (v, at-step s past exact ends v q writes)
      by false q f earlier = let (v, w) = earlier f in (v, more s past v w)

  -- where a step reports the round case, it isn't 0
  written-report : (own : List Step) → KeepsVerdicts p g first own → WritesExactly p g first own
      → HasEnds p g first own → Sometimes (λ before s. Reports p e s) own
      → (v : ℕ) × Written p m g e first own v × (v ≢ 0)
  written-report [] verdicts exact ends q = absurd q
  written-report (s ∷ past) verdicts exact ends (inr rest) =
      let (v, w, n) = written-report past verdicts.1 exact.1 ends.1 rest in (v, more s past v w, n)
  written-report (s ∷ past) verdicts exact ends (inl (h, l, covers, other)) =
      let it = verdicts.0 e h few l covers in
      let (v, writes) = it.1.value in (
        v,
        at-step s past exact ends v (subst (λ (n : ℕ). IsTrue (writes_in (verdict_at e n) 8 (access_of s))) it.0 covers)
            writes,
        λ z. other (writes ∙ ap₂ (λ (n u : ℕ). Write (verdict_at e n) 8 u) (sym it.0) z),
      )

-- ---- checked parts

module _ (p : Program) (sound : Sound p) (m : CaseMask) (e : ℕ) (few : e < round_count p)
    (masked : slice_get p.masks.cases e ≡ Some m) (h : ℕ) (number : h < harts p) where
  formed : Formed p
  formed = record { program = sound.program; typed = sound.typed; laid = sound.course.laid }

  byte-range : (b : ℕ) → is_declared p.cases b ≡ true → (windows_base ≤ b) × (b < windows_base + windows_size)
  byte-range b shared = within-parts windows_base windows_size b (in-window p formed b shared)

  -- what the mask has as checked is checked,
  mask-checked : (part : Part) → IsCompared p h part → IsTrue (is_checked m h part) → IsChecked p.cases e h part
  mask-checked (Register r) compared t =
      let (stream, is) = stream-of p.cases e h sound.program.cases few number in
      (stream, is, (sound.masks.registers e h r m stream masked is compared).0 (eqb-true _ 1 t))
  mask-checked (Byte b) compared t =
      let range = byte-range b compared.0 in
      (compared.1, (sound.masks.bytes e b m masked range.0 range.1).0.0 (eqb-true _ 255 t))

  -- and the other way round
  checked-mask : (part : Part) → IsChecked p.cases e h part → IsTrue (is_checked m h part)
  checked-mask (Register r) (stream, is, checked) =
      let range = checked.range in
      eq-eqb _ 1 ((sound.masks.registers e h r m stream masked is (omega arith)).1 checked)
  checked-mask (Byte b) (mine, checked) =
      let range = byte-range b checked.declared in
      eq-eqb _ 255 ((sound.masks.bytes e b m masked range.0 range.1).0.1 checked)

  -- a checked part is one of those that the hart saves
  register-saved : (P : Part → Type 0) (r : ℕ) → (1 ≤ r) × (r ≤ 30)
      → ((i : ℕ) → i < saved p h → All P (parts p h i)) → P (Register r)
  register-saved P r range all =
      let i = r - 1 in
      let small : nat_lt i 30 ≡ true = lt-ltb i 30 (omega arith) in
      let same : parts p h i ≡ Register (i + 1) ∷ [] =
      ap (λ (b : Bool). if b then Register (i + 1) ∷ []
      else map (λ j. Byte (slice_index (owned p.cases h) (i - 30) + j)) (count_from 0 8)) small in
      let is : i + 1 ≡ r = omega arith in
      subst (λ (n : ℕ). P (Register n)) is
      (All-head P (Register (i + 1)) [] (subst (All P) same (all i (omega arith))))

  each-at : (P : Part → Type 0) (f : ℕ → Part) (n a j : ℕ) → a ≤ j → j < a + n → Each P (map f (count_from a n))
      → P (f j)
  each-at P f zero a j l u each = absurd (omega arith)
  each-at P f (suc n) a j l u each = elim (cases_eq a j) [
    | inl same ↦ subst (λ (k : ℕ). P (f k)) same each.0
    | inr other ↦ each-at P f n (suc a) j (omega arith) (omega arith) each.1
  ]

  byte-saved : (P : Part → Type 0) (b : ℕ) → is_declared p.cases b ≡ true → collector p.cases b ≡ h
      → ((i : ℕ) → i < saved p h → All P (parts p h i)) → P (Byte b)
  byte-saved P b shared mine all =
      let place = dword-place p.cases b (lies p.cases b sound.program.cases shared) in
      let (j, l, is) = of-owned (λ a. (n : ℕ) × (n < length (owned p.cases h)) × (slice_index (owned p.cases h) n ≡ a))
      p.cases h b place.2 place.3 (dword-collector p.cases b sound.program.cases ∙ mine)
      (All-from_get_or (λ a. (n : ℕ) × (n < length (owned p.cases h)) × (slice_index (owned p.cases h) n ≡ a))
      (owned p.cases h) 0 (λ k short. (k, short, refl))) in
      at j l is place.0 place.1
    where
      at : (j : ℕ) → j < length (owned p.cases h) → slice_index (owned p.cases h) j ≡ dword_of b → dword_of b ≤ b
          → b < dword_of b + 8 → P (Byte b)
      at j l is low high =
          let big : nat_lt (30 + j) 30 ≡ false = le-ltb (30 + j) 30 (omega arith) in
          let there : 30 + j - 30 ≡ j = omega arith in
          let dword : slice_index (owned p.cases h) (30 + j - 30) ≡ dword_of b =
          ap (slice_index (owned p.cases h)) there ∙ is in
          let f : ℕ → Part = λ o. Byte (slice_index (owned p.cases h) (30 + j - 30) + o) in
          let same : parts p h (30 + j) ≡ map f (count_from 0 8) =
          ap (λ (t : Bool). if t then Register (30 + j + 1) ∷ [] else map f (count_from 0 8)) big in
          let each = recursion_from_All P (map f (count_from 0 8)) (subst (All P) same (all (30 + j) (omega arith))) in
          let is-b : slice_index (owned p.cases h) (30 + j - 30) + (b - dword_of b) ≡ b = omega arith in
          subst (λ (n : ℕ). P (Byte n)) is-b (each-at P f 8 0 (b - dword_of b) (omega arith) (omega arith) each)

  checked-saved : (P : Part → Type 0) (part : Part) → IsChecked p.cases e h part
      → ((i : ℕ) → i < saved p h → All P (parts p h i)) → P part
  checked-saved P (Register r) (stream, is, checked) all = register-saved P r checked.range all
  checked-saved P (Byte b) (mine, checked) all = byte-saved P b checked.declared mine all

  -- ---- parts that differ

  module _ (first : Hart) (own : List Step) where
    abbrev Has : ℕ → Part → Type 0
    Has k part = (u : ℕ) × (end_value p h e k first own part ≡ Some u)

    abbrev Is : ℕ → Part → Type 0
    Is k part = IsTrue (is_checked m h part) → end_value p h e k first own part ≡ end_value p h e 0 first own part

    -- pass k has a checked part that differs from pass 0
    record Apart (k : ℕ) : Type 0 where
      part : Part
      checked : IsChecked p.cases e h part
      one : ℕ
      other : ℕ
      has_one : end_value p h e k first own part ≡ Some one
      has_other : end_value p h e 0 first own part ≡ Some other
      differ : one ≢ other

    -- where not all parts are the same, some checked part differs
    apart-in : (k : ℕ) (ps : List Part) → Each (IsCompared p h) ps → Each (Has k) ps → Each (Has 0) ps
        → (Each (Is k) ps → ⊥) → Apart k
    apart-in k [] compared x y n = absurd (n tt)
    apart-in k (part ∷ ps) compared x y n = elim (cases_Bool (is_checked m h part)) [
      | inr f ↦ apart-in k ps compared.1 x.1 y.1 (λ rest. n (λ t. absurd (false≢true (sym f ∙ t)), rest))
      | inl t ↦ elim (cases_eq x.0.0 y.0.0) [
        | inl same ↦ apart-in k ps compared.1 x.1 y.1 (λ rest. n (
          λ _. x.0.1 ∙ (ap Some same ∙ sym y.0.1),
          rest,
        ))
        | inr other ↦ record {
          part = part;
          checked = mask-checked part compared.0 t;
          one = x.0.0;
          other = y.0.0;
          has_one = x.0.1;
          has_other = y.0.1;
          differ = other;
        }
      ]
    ]

    abbrev AllEnds : Type 0
    AllEnds = (k i : ℕ) → k < passes p → i < saved p h → All (Has k) (parts p h i)

    some-passes : 0 < passes p
    some-passes = let two = sound.program.cases.passes in omega arith

    -- so it is where the verdict isn't 0
    verdict-apart : (v : ℕ) → IsVerdict p m h e first own v → v ≢ 0 → AllEnds → (k : ℕ) × (k < passes p) × Apart k
    verdict-apart v (agree f) n ends = absurd (n refl)
    verdict-apart v (differ k i l li d f g) n ends = (
      k,
      l,
      apart-in k (parts p h i) (saved-compared p h i sound.program.cases li)
          (recursion_from_All (Has k) (parts p h i) (ends k i l li))
          (recursion_from_All (Has 0) (parts p h i) (ends 0 i some-passes li))
          (λ each. d (All-from_recursion (Is k) (parts p h i) each)),
    )

    -- and where it is 0 all are the same
    verdict-same : (v : ℕ) → IsVerdict p m h e first own v → v ≡ 0 → (k i : ℕ) → k < passes p → i < saved p h
        → Same p m h e first own k i
    verdict-same v (agree f) z = f
    verdict-same v (differ k i l li d f g) z = absurd (omega arith)

-- ---- a run whose harts are all at halt

module _ (p : Program) (sound : Sound p) (r : Run) (half : Half p r) (e : ℕ) (few : e < round_count p) (m : CaseMask)
    (masked : slice_get p.masks.cases e ≡ Some m) where
  abbrev first : ℕ → Hart
  first h = first_of_hart r h

  abbrev mine : ℕ → List Step
  mine h = own h r.steps

  abbrev W : ℕ → ℕ → Type 0
  W h v = Written p m h e (first h) (mine h) v

  all-ends : (h : ℕ) → h < harts p → HasEnds p h (first h) (mine h)
  all-ends h l = ends-there p (formed p sound m e few masked h l) h l (sound.course.hart h l) r half

  -- each hart at halt has written its verdict
  written : AllAtHalt p r → (h : ℕ) → h < harts p → (v : ℕ) × W h v
  written halted h l =
      written-some p m e few masked h (first h) (mine h) ((sound.course.hart h l).verdicts r half)
      (sound.exact h l r half) (all-ends h l) l ((sound.course.hart h l).all_verdicts r half (halted h l) e few)

  -- what has an end value where the verdict is written has it at the end
  end-stays : (h v : ℕ) (w : W h v) (k : ℕ) (part : Part) (u : ℕ) → end_value p h e k (first h) w.past part ≡ Some u
      → end_in p r e h k part ≡ Some u
  end-stays h v w k part u q =
      subst (λ (x : List Step). end_value p h e k (first h) x part ≡ Some u) (sym w.is)
      (end-later p h e k (first h) w.later (w.step ∷ w.past) part u
      (end-later p h e k (first h) (w.step ∷ []) w.past part u q))

  -- each checked part has one
  ends-there-too : (h : ℕ) (l : h < harts p) (v : ℕ) (w : W h v) (k : ℕ) (part : Part) → k < passes p
      → IsChecked p.cases e h part → (u : ℕ) × (end_value p h e k (first h) w.past part ≡ Some u)
  ends-there-too h l v w k part short checked =
      checked-saved p sound m e few masked h l (λ q. (u : ℕ) × (end_value p h e k (first h) w.past q ≡ Some u)) part
      checked (λ i li. w.ends k i short li)

  -- a report is of passes that differ
  reported : IsReported p r e → Differs p r e
  reported q =
      let (g, l, some) = own-some (harts p) (Reports p e) r.steps half.only q in
      let (v, w, n) = written-report p m e few masked g (first g) (mine g) ((sound.course.hart g l).verdicts r half)
      (sound.exact g l r half) (all-ends g l) some in
      let (k, short, a) = verdict-apart p sound m e few masked g l (first g) w.past v w.verdict n w.ends in
      record {
        hart = g;
        part = a.part;
        first = k;
        second = 0;
        one = a.one;
        other = a.other;
        a_hart = l;
        checked = a.checked;
        two_passes = (short, some-passes p sound m e few masked g l (first g) w.past);
        has_one = end-stays g v w k a.part a.one a.has_one;
        has_other = end-stays g v w 0 a.part a.other a.has_other;
        differ = a.differ;
      }

  -- where a verdict is 0, an end value is that of pass 0
  same-end : (h : ℕ) (l : h < harts p) (v : ℕ) (w : W h v) → v ≡ 0 → (part : Part) → IsChecked p.cases e h part
      → (k u : ℕ) → k < passes p → end_in p r e h k part ≡ Some u
      → end_value p h e 0 (first h) w.past part ≡ Some u
  same-end h l v w z part checked k u short q =
      let (x, at) = ends-there-too h l v w k part short checked in
      let stays = end-stays h v w k part x at in
      let same : x ≡ u = cc in
      let all = checked-saved p sound m e few masked h l (λ y. IsTrue (is_checked m h y)
      → end_value p h e k (first h) w.past y ≡ end_value p h e 0 (first h) w.past y) part checked
      (λ i li. verdict-same p sound m e few masked h l (first h) w.past v w.verdict z k i short li) in
      sym (all (checked-mask p sound m e few masked h l part checked)) ∙ (at ∙ ap Some same)

  -- passes that differ are reported
  differing : AllAtHalt p r → Differs p r e → IsReported p r e
  differing halted d =
      let h = d.hart in
      let (v, w) = written halted h d.a_hart in
      elim (cases_eq v 0) [
        | inl z ↦
            let x = same-end h d.a_hart v w z d.part d.checked d.first d.one d.two_passes.0 d.has_one in
            let y = same-end h d.a_hart v w z d.part d.checked d.second d.other d.two_passes.1 d.has_other in
            let same : d.one ≡ d.other = cc in
            absurd (d.differ same)
        | inr n ↦
            let reports : Reports p e w.step =
            (h, d.a_hart, w.covers, λ zero'. n (same-value (verdict_at e h) v (sym w.writes ∙ zero'))) in
            some-own (Reports p e) h r.steps (subst (Sometimes (λ before s. Reports p e s)) (sym w.is)
            (some-later (Reports p e) w.later (w.step ∷ w.past) (inl reports)))
      ]
    where
      same-value : (a v : ℕ) → Write a 8 v ≡ Write a 8 0 → v ≡ 0
      same-value a v q = cc

masked-round : (p : Program) → Sound p → (e : ℕ) → e < round_count p
    → (m : CaseMask) × (slice_get p.masks.cases e ≡ Some m)
masked-round p sound e few = by (slice_get p.masks.cases e) refl
  where
    by : (z : Option CaseMask) → slice_get p.masks.cases e ≡ z
        → (m : CaseMask) × (slice_get p.masks.cases e ≡ Some m)
    by (Some m) at = (m, at)
    by None at = let same = sound.program.masks.count in absurd (none-past p.masks.cases e (omega arith) at)

-- ---- no reports

not-reported : (p : Program) (e : ℕ) → e < round_count p → (steps : List Step)
    → Always (λ past s. (c h : ℕ) → c < round_count p → h < harts p
    → IsTrue (writes_in (verdict_at c h) 8 (access_of s)) → access_of s ≡ Write (verdict_at c h) 8 0) steps
    → Sometimes (λ before s. Reports p e s) steps → ⊥
not-reported p e few [] quiet q = q
not-reported p e few (s ∷ past) quiet (inl (h, l, covers, other)) = other (quiet.0 e h few l covers)
not-reported p e few (s ∷ past) quiet (inr rest) = not-reported p e few past quiet.1 rest

pub headline : (p : Program) → SoundHasHeadline p
headline p sound = record {
  silent = λ r legal e few. not-reported p e few r.steps (sound.silent r legal);
  exact = λ r half halted e few.
      let (m, masked) = masked-round p sound e few in
      (reported p sound r half e few m masked, differing p sound r half e few m masked halted);
  ends = λ r half halted e h k part few l short checked.
      let (m, masked) = masked-round p sound e few in
      let (v, w) = written p sound r half e few m masked halted h l in
      let (u, at) = ends-there-too p sound r half e few m masked h l v w k part short checked in
      (u, end-stays p sound r half e few m masked h v w k part u at);
  plain = sound-plain p sound;
  faulted = sound.faulted;
}
