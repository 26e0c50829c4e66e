-- The parts joined: for all passes of all cases, from the first word to halt.
use Rattle.std.proofs.Common.{◌≡◌, ◌≢◌, ℕ, zero, suc, ◌+◌, ◌-◌, ◌<◌, ◌≤◌, Bool, true, false, true≢false, ◌==◌}
use Rattle.std.proofs.Common.{eqb-true, eq-eqb, ne_eqb, List, [], ◌∷◌, ◌++◌, None, Some, ◌⊎◌, inl, inr, refl, sym, ap}
use Rattle.std.proofs.Common.{◌∙◌, subst, arith, append_assoc, append-nil}
use Rattle.std.proofs.lemmas.Bool.{cases_lt}
use Rattle.std.specs.Prelude.{slice_get, flat_map, if◌then◌else◌}
use Rattle.tm_plan_cases.specs.declared.masks.CaseMask.{CaseMask}
use Rattle.tm_plan_cases.specs.declared.program.Program.{Program}
use Rattle.tm_plan_map.specs.Map.{private_at}
use Rattle.tm_base.specs.Lists.{count_from}
use Rattle.tm_world.specs.Place.{case_count, passes, exit_of}
use Rattle.tm_world.specs.Marks.{Mark, Halt, pass_way}
use Rattle.tm_world.specs.Writers.{run_phase}
use Rattle.tm_runs.specs.Machine.{State}
use Rattle.tm_runs.proofs.Compose.{keeps_then, keeps_now, keeps_map}
use Rattle.tm_pass_way.specs.Logs.{left_in}
use Rattle.tm_runs.specs.Phases.{steps_in}
use Rattle.tm_pass_way.specs.Parts.{Places, Costs, Hold, Ready, CollectsTo, PassTold, RegistersTold, Leads, Opens}
use Rattle.tm_pass_way.specs.Parts.{Turns, Rooms, AtHead, AtSet, AtTurn, AtCompare, phase_at, few_passes, way_to}
use Rattle.tm_pass_way.proofs.Notes.{left-none, told-same, told-counts, told-saves, told-stay, told-collect}
use Rattle.tm_pass_way.proofs.Notes.{registers-told, pass-told}

-- ---- ways

pub flat-last : (f : ℕ → List Mark) (a n : ℕ) → flat_map f (count_from a (suc n)) ≡ flat_map f (count_from a n)
    ++ f (a + n)
flat-last f a zero = append-nil (f a) ∙ (let e : a ≡ a + 0 = omega arith in ap f e)
flat-last f a (suc n) =
    let e : suc a + n ≡ a + suc n = omega arith in
    ap (λ (l : List Mark). f a ++ l) (flat-last f (suc a) n) ∙
    (sym (append_assoc (f a) (flat_map f (count_from (suc a) n)) (f (suc a + n))) ∙ ap
    (λ (m : ℕ). (f a ++ flat_map f (count_from (suc a) n)) ++ f m) e)

pub way-pass : (p : Program) (c k : ℕ) → way_to p c k ++ pass_way c ≡ way_to p c (suc k)
way-pass p c k =
    let before = flat_map (λ d. few_passes d (passes p)) (count_from 0 c) in
    append_assoc before (few_passes c k) (pass_way c) ∙ ap (λ (l : List Mark). before ++ l)
    (sym (flat-last (λ j. pass_way c) 0 k))

pub way-case : (p : Program) (c : ℕ) → way_to p c (passes p) ≡ way_to p (suc c) 0
way-case p c =
    let f = λ (d : ℕ). few_passes d (passes p) in
    let e : c ≡ 0 + c = omega arith in
    ap (λ (d : ℕ). flat_map f (count_from 0 c) ++ f d) e ∙
    (sym (flat-last f 0 c) ∙ sym (append-nil (flat_map f (count_from 0 (suc c)))))

-- ---- phases

phase-case : (p : Program) (c : ℕ) → phase_at p c (passes p) ≡ phase_at p (suc c) 0
phase-case p c = omega arith

ready-as : {p : Program} {h place q r c work : ℕ} {ms ns : List Mark} {t : State} → q ≡ r → ms ≡ ns
    → Ready p h place q c work ms t → Ready p h place r c work ns t
ready-as {p = p} {h = h} {place = place} {q = q} {c = c} {work = work} {ns = ns} {t = t} e f g =
    subst (λ (x : ℕ). Ready p h place x c work ns t) e (subst (λ (l : List Mark). Ready p h place q c work l t) f g)

-- ---- the parts joined

module _ (p : Program) (h : ℕ) (at : Places) (cost : Costs) (limit : ℕ
    → ℕ) (parts : Turns p h at cost limit) (rooms : Rooms p cost limit) (some : 1 ≤ passes p) (masks : (c : ℕ)
    → c < case_count p → (m : CaseMask) × (slice_get p.masks.cases c ≡ Some m)) where
  abbrev To : State → (State → Type 0) → Type 0
  To s Q = Leads p h limit s Q

  -- then
  on : {P Q : State → Type 0} {s : State} → To s P → ((t : State) → P t → To t Q) → To s Q
  on a f = keeps_then a f

  stop : {Q : State → Type 0} {s : State} → Q s → To s Q
  stop q = keeps_now q

  -- the phase behind a pass has room to collect
  room-turn : (c k : ℕ) → c < case_count p → k < passes p → cost.collect + cost.turn ≤ limit (phase_at p c (suc k))
  room-turn c k l m = by (cases_lt (suc k) (passes p)) (cases_lt (suc c) (case_count p))
    where
      by : (suc k < passes p) ⊎ (passes p ≤ suc k) → (suc c < case_count p) ⊎ (case_count p ≤ suc c)
          → cost.collect + cost.turn ≤ limit (phase_at p c (suc k))
      by (inl x) y = omega (arith, rooms.between c k l x)
      by (inr x) (inl y) = let e : phase_at p (suc c) 0 ≡ phase_at p c (suc k) =
          sym (phase-case p c) ∙ (let z : passes p ≡ suc k = omega arith in ap (phase_at p c) z) in
          omega (arith, rooms.next c y, ap limit e)
      by (inr x) (inr y) = let e : phase_at p (suc c) 0 ≡ phase_at p c (suc k) =
          sym (phase-case p c) ∙ (let z : passes p ≡ suc k = omega arith in ap (phase_at p c) z) in
          omega (arith, rooms.last c (omega arith), ap limit e)

  -- one pass, up to its counter
  one-pass : (c k : ℕ) (s : State) → c < case_count p → k < passes p → AtSet p h at cost limit c k s
      → To s (AtTurn p h at cost limit c k)
  one-pass c k s l m a =
      let run = rooms.run c k l m in
      let q = phase_at p c k + 1 in
      let next : run_phase p c k ≡ q = refl in
      on (parts.first c k a.work s l m a.room a.ready a.told) (λ t b.
      on (parts.load c k t l m (omega arith) b.0 b.3) (λ u d.
      on (parts.stay c k cost.load u l m (omega arith) d.0 d.2) (λ v e.
      on (parts.save c k cost.load v l m (omega arith) e.0 e.1.ended e.2) (λ x f.
      let hold = subst (λ (ms : List Mark). Hold p h (at.collect c) (phase_at p c (suc k)) c 0 ms x) (way-pass p c k)
      f.0 in
      let count : x.mem (private_at h + 264) ≡ k =
      f.1.counter ∙ (e.1.memos.counter ∙ (d.1.memos.counter ∙ (b.1.memos.counter ∙ a.passes.counter))) in
      let none : left_in p h c q u.log ≡ None =
      d.1.left c q l ∙ left-none p h c q t.log (subst (λ (n : ℕ). steps_in (exit_of p h) n t.log
      ≡ []) b.0.phase b.2) in
      let here = registers-told p h l next none e.1 f.1 in
      let later : (j : ℕ) → j < k → PassTold p h c j x.log x.mem = λ j n.
      told-saves p h l (omega arith) f.1 (told-stay p h l (omega arith) (λ z. omega arith) (λ z. omega arith) e.1
      (told-same p h l (omega arith) d.1 (told-same p h l (omega arith) b.1 (a.passes.each j n)))) in
      keeps_map (λ y g. g) (λ y g. record {
        ready = g.0;
        counter = g.1.counter ∙ count;
        each = each-of c k x y l m (subst (λ (n : ℕ). steps_in (exit_of p h) n x.log ≡ []) f.0.phase f.2) here later
            g.1;
        told = g.2;
      }) (parts.collect c k x l m (omega (arith, room-turn c k l m)) hold count f.2 f.3)))))
    where
      each-of : (c k : ℕ) (x y : State) → c < case_count p → k < passes p
          → steps_in (exit_of p h) (phase_at p c (suc k)) x.log ≡ [] → RegistersTold p h c k x.log x.mem
          → ((j : ℕ) → j < k → PassTold p h c j x.log x.mem) → CollectsTo p h k (phase_at p c (suc k)) x y → (j : ℕ)
          → j < suc k → PassTold p h c j y.log y.mem
      each-of c k x y l m none here later g j n = by (j == k) refl
        where
          by : (b : Bool) → (j == k) ≡ b → PassTold p h c j y.log y.mem
          by true e = let same : j ≡ k = eqb-true j k e in
              subst (λ (i : ℕ). PassTold p h c i y.log y.mem) (sym same) (pass-told p h l (omega arith) none here g)
          by false e = let less : j < k = let ne : j ≢ k = λ z. true≢false (sym (eq-eqb j k z) ∙ e) in omega arith in
              told-collect p h l less (λ z. omega arith) g (later j less)

  -- to the next pass
  next-pass : (c k : ℕ) (s : State) → c < case_count p → suc k < passes p → AtTurn p h at cost limit c k s
      → To s (AtSet p h at cost limit c (suc k))
  next-pass c k s l m a =
      let room = rooms.between c k l m in
      keeps_map (λ t g. g) (λ t b. record {
        work = cost.collect + cost.turn;
        ready = subst (λ (x : Bool). Ready p h (if x then at.compare c else at.set c) (phase_at p c (suc k)) c
            (cost.collect + cost.turn) (way_to p c (suc k)) t) (ne_eqb (suc k) (passes p) (λ z. omega arith)) b.0;
        passes = record { counter = b.1.counter; each = λ j n. told-counts p h l (omega arith) b.1 (a.each j n) };
        told = b.2;
        room = room;
      }) (parts.turn c k cost.collect s l (omega arith) (omega arith) a.ready a.counter a.told)

  -- behind the last one
  last-pass : (c k : ℕ) (s : State) → c < case_count p → suc k ≡ passes p → AtTurn p h at cost limit c k s
      → To s (AtCompare p h at cost limit c)
  last-pass c k s l m a =
      let e : phase_at p c (suc k) ≡ phase_at p (suc c) 0 = ap (phase_at p c) m ∙ phase-case p c in
      let f : way_to p c (suc k) ≡ way_to p (suc c) 0 = ap (way_to p c) m ∙ way-case p c in
      keeps_map (λ t g. g) (λ t b. record {
        ready = ready-as e f
            (subst (λ (x : Bool). Ready p h (if x then at.compare c else at.set c) (phase_at p c (suc k)) c
            (cost.collect + cost.turn) (way_to p c (suc k)) t) (eq-eqb (suc k) (passes p) m) b.0);
        passes = record { counter = b.1.counter ∙ m; each = λ j n. told-counts p h l n b.1 (a.each j (omega arith)) };
        told = b.2;
      }) (parts.turn c k cost.collect s l (omega arith) (room-turn c k l (omega arith)) a.ready a.counter a.told)

  -- all passes of a case from pass k on
  all-passes : (n c k : ℕ) (s : State) → c < case_count p → k + suc n ≡ passes p → AtSet p h at cost limit c k s
      → To s (AtCompare p h at cost limit c)
  all-passes zero c k s l e a = on (one-pass c k s l (omega arith) a) (λ t b. last-pass c k t l (omega arith) b)
  all-passes (suc n) c k s l e a =
      on (one-pass c k s l (omega arith) a) (λ t b.
      on (next-pass c k t l (omega arith) b) (λ u d. all-passes n c (suc k) u l (omega arith) d))

  -- one case
  one-case : (c : ℕ) (s : State) → c < case_count p → AtHead p h at cost limit c s
      → To s (AtHead p h at cost limit (suc c))
  one-case c s l a =
      let m = masks c l in
      let open' : way_to p c 0 ++ (if c == case_count p then Halt ∷ [] else []) ≡ way_to p c 0 =
      ap (λ (b : Bool). way_to p c 0 ++ (if b then Halt ∷ [] else [])) (ne_eqb c (case_count p) (λ z. omega arith))
      ∙ append-nil (way_to p c 0) in
      let room = a.room l in
      on (parts.reset c a.work s l (omega arith) (ready-as refl open' a.ready) a.told) (λ t b.
      on (all-passes (passes p - 1) c 0 t l (omega arith) (record {
        work = a.work + cost.reset;
        ready = b.0;
        passes = record { counter = b.1.counter; each = λ j n. absurd (omega arith) };
        told = b.2;
        room = room;
      })) (λ u d.
      keeps_map (λ v g. g) (λ v e. record {
        work = cost.collect + cost.turn + cost.compare;
        ready = e.0;
        told = e.1;
        room = λ n. rooms.next c n;
      }) (parts.compare c (cost.collect + cost.turn) m.0 u l m.1 (room-compare c l) d.ready d.passes d.told)))
    where
      room-compare : (c : ℕ) → c < case_count p → cost.collect + cost.turn + cost.compare ≤ limit (phase_at p (suc c) 0)
      room-compare c l = by (cases_lt (suc c) (case_count p))
        where
          by : (suc c < case_count p) ⊎ (case_count p ≤ suc c)
              → cost.collect + cost.turn + cost.compare ≤ limit (phase_at p (suc c) 0)
          by (inl x) = omega (arith, rooms.next c x)
          by (inr x) = rooms.last c (omega arith)

  -- all cases from case c on
  all-cases : (n c : ℕ) (s : State) → c + n ≡ case_count p → AtHead p h at cost limit c s
      → To s (AtHead p h at cost limit (case_count p))
  all-cases zero c s e a = let same : c ≡ case_count p = omega arith in
      stop (subst (λ (d : ℕ). AtHead p h at cost limit d s) same a)
  all-cases (suc n) c s e a = on (one-case c s (omega arith) a) (λ t b. all-cases n (suc c) t (omega arith) b)

  -- from the first word to halt
  pub whole : 1 ≤ case_count p → (s : State) → Opens p h s → To s (AtHead p h at cost limit (case_count p))
  whole more s o =
      let room = rooms.opening in
      let begins : 0 ≡ phase_at p 0 0 = omega arith in
      on (parts.begin s o (omega arith)) (λ t a.
      all-cases (case_count p) 0 t (omega arith) (record {
        work = cost.begin;
        ready = ready-as begins (sym (ap (λ (b : Bool). way_to p 0 0 ++ (if b then Halt ∷ [] else []))
            (ne_eqb 0 (case_count p) (λ z. omega arith)))) a.0;
        told = a.1;
        room = λ _. subst (λ (q : ℕ). cost.begin + cost.reset + cost.first + cost.meet ≤ limit q) begins room;
      }))
