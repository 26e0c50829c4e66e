-- On a run that an accepted script has changed, each verdict names a pass and a dword.
use Rattle.std.proofs.Common.{◌≡◌, ℕ, zero, suc, ◌<◌, ◌≤◌, List, [], ◌∷◌, Bool, true, false, ◌⊎◌, inl, inr, refl, sym}
use Rattle.std.proofs.Common.{subst, arith, ◌==◌, eqb-true, Option, Some, None, ◌&&◌}
use Rattle.std.specs.Prelude.{IsTrue, All, unwrap_or, reverse, slice_get, slice_index, length, if◌then◌else◌}
use Rattle.std.proofs.lemmas.Bool.{cases_eq}
use Rattle.std.proofs.lemmas.List.Elements.{All-nil, All-cons}
use Rattle.tm_table.specs.declared.state.Access.{Access}
use Rattle.tm_table.specs.declared.state.Access.TheVariants.{Quiet, Read, Write}
use Rattle.tm_table.specs.State.{Hart}
use Rattle.tm_plan_map.specs.Map.{verdict_at}
use Rattle.tm_plan_cases.specs.declared.program.Program.{Program}
use Rattle.tm_plan_cases.specs.declared.masks.CaseMask.{CaseMask}
use Rattle.tm_plan_cases.specs.declared.cases.Cases.{Cases}
use Rattle.tm_plan_cases.specs.declared.event.Event.{Event}
use Rattle.tm_plan_script.specs.declared.faults.FaultLine.{FaultLine}
use Rattle.tm_base.proofs.ListLemmas.{none-past}
use Rattle.tm_world.specs.Lists.{or_else}
use Rattle.tm_world.specs.Place.{harts, round_count, passes}
use Rattle.tm_world.specs.Run.{Step, Always, own, hart_of, access_of, first_state}
use Rattle.tm_world.specs.Course.{writes_in, KeepsVerdicts}
use Rattle.tm_world.specs.Kinds.{Half, first_of_hart}
use Rattle.tm_world.specs.Verdict.{Part, IsVerdict, WritesExactly, Same, end_value, is_checked, parts, saved}
use Rattle.tm_world.specs.Verdict.IsVerdict.{agree, differ}
use Rattle.tm_world.specs.Sound.{Sound}
use Rattle.tm_world.specs.Replay.{replay, steps_of, run_of}
use Rattle.tm_legal.proofs.Own.{own-here, own-there}
use Rattle.tm_report_run.specs.Verdicts.{put_at, latest, verdict_in}
use Rattle.tm_report_run.specs.Report.{IsVerdictOf}
use Rattle.tm_top_run.proofs.Silent.{Each, each-turned, covers}

-- ---- what each hart keeps, on all steps

module _ (P : ℕ → List Step → Step → Type 0) where
  behind : (g : ℕ) (s : Step) (past : List Step) → Always (P g) (own g (s ∷ past)) → Always (P g) (own g past)
  behind g s past all = by (cases_eq (hart_of s) g)
    where
      by : (hart_of s ≡ g) ⊎ (hart_of s ≡ g → ⊥) → Always (P g) (own g past)
      by (inl e) = (subst (Always (P g)) (own-here g s past e) all).1
      by (inr n) = subst (Always (P g)) (own-there g s past n) all

  -- what holds of each hart's own steps holds of all steps
  pub of-each : (n : ℕ) (steps : List Step) → Always (λ past s. hart_of s < n) steps
      → ((g : ℕ) → g < n → Always (P g) (own g steps))
      → Always (λ past s. P (hart_of s) (own (hart_of s) past) s) steps
  of-each n [] only each = tt
  of-each n (s ∷ past) (mine, only) each = (
    (subst (Always (P (hart_of s))) (own-here (hart_of s) s past refl) (each (hart_of s) mine)).0,
    of-each n past only (λ g l. behind g s past (each g l)),
  )

-- ---- what a verdict says

everywhere : {A : Type 0} (P : A → Type 0) → ((x : A) → P x) → (xs : List A) → All P xs
everywhere P f [] = All-nil P
everywhere P f (x ∷ xs) = All-cons P x xs (f x) (everywhere P f xs)

same-first : (p : Program) (m : CaseMask) (h e : ℕ) (first : Hart) (own : List Step) (i : ℕ)
    → Same p m h e first own 0 i
same-first p m h e first own i = everywhere (λ (part : Part). IsTrue (is_checked m h part)
    → end_value p h e 0 first own part ≡ end_value p h e 0 first own part) (λ part checked. refl) (parts p h i)

verdict-of : (p : Program) (m : CaseMask) (h e : ℕ) (first : Hart) (own : List Step) (v : ℕ)
    → IsVerdict p m h e first own v → IsVerdictOf p.cases h v
verdict-of p m h e first own v (agree all) = inl refl
verdict-of p m h e first own v (differ zero i l few differs before lower) =
    absurd (differs (same-first p m h e first own i))
verdict-of p m h e first own v (differ (suc k) i l few differs before lower) =
    inr (suc k, i, omega arith, l, few, refl)

-- ---- the writes of verdicts

-- of a number, if there is one
abbrev pub OfSome : (ℕ → Type 0) → Option ℕ → Type 0
OfSome Q None = Unit {0}
OfSome Q (Some v) = Q v

same-value : (Q : ℕ → Type 0) (a addr width value v : ℕ) → Write addr width value ≡ Write a 8 v → Q v → Q value
same-value Q a addr width value v is q = let same : v ≡ value = cc in subst Q same q

-- what an access puts at a cell, where each write of it is whole
put-verdict : (Q : ℕ → Type 0) (a : ℕ) (access : Access)
    → (IsTrue (writes_in a 8 access) → (v : ℕ) × (access ≡ Write a 8 v) × Q v) → OfSome Q (put_at a access)
put-verdict Q a Quiet whole = tt
put-verdict Q a (Read addr width value) whole = tt
put-verdict Q a (Write addr width value) whole = by (addr == a) (width == 8) refl refl
  where
    by : (b d : Bool) → (addr == a) ≡ b → (width == 8) ≡ d → OfSome Q (if b && d then Some value else None)
    by true true q r = let (v, is, its) = whole (covers a addr width (eqb-true addr a q) (eqb-true width 8 r)) in
        same-value Q a addr width value v is its
    by true false q r = tt
    by false d q r = tt

masked-round : (p : Program) → Sound p → (e : ℕ) → e < round_count p
    → (m : CaseMask) × (slice_get p.masks.cases e ≡ Some m)
masked-round p sound e few = by (slice_get p.masks.cases e) refl
  where
    by : (z : Option CaseMask) → slice_get p.masks.cases e ≡ z
        → (m : CaseMask) × (slice_get p.masks.cases e ≡ Some m)
    by (Some m) at = (m, at)
    by None at = let same = sound.program.masks.count in absurd (none-past p.masks.cases e (omega arith) at)

-- hart h's verdict on case c, by an event
abbrev PutsVerdict : Program → ℕ → ℕ → Event → Type 0
PutsVerdict p c h e = OfSome (IsVerdictOf p.cases h) (put_at (verdict_at c h) e.access)

-- what one hart keeps of its writes of verdicts
abbrev KeptBy : Program → (ℕ → Hart) → ℕ → List Step → Step → Type 0
KeptBy p first g past s = (c h : ℕ) → c < round_count p → h < harts p → PutsVerdict p c h s.event

keeps : (p : Program) → Sound p → (first : ℕ → Hart) (g : ℕ) (steps : List Step)
    → KeepsVerdicts p g (first g) steps → WritesExactly p g (first g) steps → Always (KeptBy p first g) steps
keeps p sound first g [] none exact = tt
keeps p sound first g (s ∷ past) (here, rest) (exact, behind) = (
  λ c h few l. put-verdict (IsVerdictOf p.cases h) (verdict_at c h) s.event.access (λ covers.
      let (is_g, writes) = here c h few l covers in
      let (v, at_g) = writes.value in
      let (m, masked) = masked-round p sound c few in
      let its = verdict-of p m g c (first g) past v (exact c m v masked at_g) in
      subst (λ (k : ℕ). (u : ℕ) × (s.event.access ≡ Write (verdict_at c k) 8 u) × IsVerdictOf p.cases k u) (sym is_g)
      (v, at_g, its)),
  keeps p sound first g past rest behind,
)

-- ---- the events of a journal

always-each : (P : Event → Type 0) (p : Program) (lines : List FaultLine) (xs : List Event)
    → Always (λ past s. P s.event) (replay p lines xs) → Each P xs
always-each P p lines [] none = tt
always-each P p lines (e ∷ past) (this, rest) = (this, always-each P p lines past rest)

-- what holds of the event of each step of a journal's run holds of each event
pub of-events : (P : Event → Type 0) (p : Program) (lines : List FaultLine) (events : List Event)
    → Always (λ past s. P s.event) (steps_of p lines events) → Each P events
unfolding steps_of
of-events P p lines events all = each-turned P events (always-each P p lines (reverse events) all)

latest-some : (Q : ℕ → Type 0) (f : Event → Option ℕ) (events : List Event)
    → Each (λ e. OfSome Q (f e)) events → OfSome Q (latest f events)
latest-some Q f [] none = tt
latest-some Q f (e ∷ more) (this, rest) = by (latest f more) (f e) (latest-some Q f more rest) this
  where
    by : (a b : Option ℕ) → OfSome Q a → OfSome Q b → OfSome Q (or_else a b)
    by None b p q = q
    by (Some x) b p q = p

at-most : (cases : Cases) (h : ℕ) (o : Option ℕ) → OfSome (IsVerdictOf cases h) o
    → IsVerdictOf cases h (unwrap_or o 0)
at-most cases h None none = inl refl
at-most cases h (Some v) is = is

weaker : (p : Program) (first : ℕ → Hart) (c h : ℕ) → c < round_count p → h < harts p → (steps : List Step)
    → Always (λ past s. KeptBy p first (hart_of s) (own (hart_of s) past) s) steps
    → Always (λ past s. PutsVerdict p c h s.event) steps
weaker p first c h few l [] none = tt
weaker p first c h few l (s ∷ past) (this, rest) = (this c h few l, weaker p first c h few l past rest)

-- the verdict on a case of a hart
pub exact-verdict : (p : Program) (lines : List FaultLine) (events : List Event) → Sound p
    → Half p (run_of p lines events) → (c h : ℕ) → c < round_count p → h < harts p
    → IsVerdictOf p.cases h (verdict_in events c h)
unfolding verdict_in
exact-verdict p lines events sound half c h few l =
    let r = run_of p lines events in
    let first = λ (g : ℕ). first_of_hart r g in
    let all = of-each (KeptBy p first) (harts p) r.steps half.only
    (λ g m. keeps p sound first g (own g r.steps) ((sound.course.hart g m).verdicts r half) (sound.exact g m r half)) in
    at-most p.cases h _ (latest-some (IsVerdictOf p.cases h) (λ (e : Event). put_at (verdict_at c h) e.access) events
    (of-events (PutsVerdict p c h) p lines events (weaker p first c h few l r.steps all)))
