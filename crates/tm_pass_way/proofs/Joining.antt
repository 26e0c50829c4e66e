-- The steps make up the parts.
use Rattle.std.proofs.Common.{◌≡◌, ℕ, suc, ◌+◌, ◌*◌, ◌/◌, ◌%◌, ◌<◌, ◌≤◌, Bool, true, ◌&&◌, nat_lt, ◌==◌, ne_eqb}
use Rattle.std.proofs.Common.{List, [], ◌∷◌, ◌++◌, Option, None, Some, sym, ap, ◌∙◌, subst, arith, append_assoc}
use Rattle.std.specs.Prelude.{IfSome, if◌then◌else◌}
use Rattle.tm_plan_cases.specs.declared.program.Program.{Program}
use Rattle.tm_base.specs.Lists.{any}
use Rattle.tm_plan_cases.specs.Shaped.{MasksFit}
use Rattle.tm_world.specs.Lists.{IsFront}
use Rattle.tm_world.specs.Place.{harts, case_count, passes, end_of, exit_of}
use Rattle.tm_world.specs.Writers.{case_of_phase}
use Rattle.tm_world.specs.Marks.{Mark, Exit, Enter, End, pass_way, whole_way}
use Rattle.tm_world.specs.Course.{round_before, last_phase}
use Rattle.tm_runs.specs.Machine.{State, Entry}
use Rattle.tm_runs.proofs.Compose.{keeps_then, keeps_map}
use Rattle.tm_legal.specs.Tame.{Formed}
use Rattle.tm_runs.specs.Phases.{now_in}
use Rattle.tm_pass_way.specs.Facts.{Told, Gathered, AreSet}
use Rattle.tm_pass_way.specs.Parts.{Places, Costs, Hold, Ready, Same, Saves, Leads, Turns, phase_at, turns, way_to}
use Rattle.tm_pass_way.specs.Calm.{StreamClear}
use Rattle.tm_pass_way.specs.Steps.{Steps, Before, Behind, StepsMakeTurns}
use Rattle.tm_pass_way.proofs.Fronts.{front-then, pass-front, none-before-run, turn-stay}
use Rattle.tm_pass_way.proofs.Phases.{run-case, fewer}

-- an even phase runs no pass
even-none : (p : Program) (n : ℕ) → case_of_phase p (2 * n) ≡ None
even-none p n = ap (λ (b : Bool). if b && nat_lt (2 * n / 2) (case_count p * passes p) then Some (2 * n / 2 / passes p)
    else None) (ne_eqb (2 * n % 2) 1 (λ z. omega arith))

pub some-is : (P : ℕ → Type 0) (x : Option ℕ) (c : ℕ) → x ≡ Some c → P c → IfSome x P
some-is P x c e g = subst (λ (y : Option ℕ). IfSome y P) (sym e) g

pub none-is : (P : ℕ → Type 0) (x : Option ℕ) → x ≡ None → IfSome x P
none-is P x e = subst (λ (y : Option ℕ). IfSome y P) (sym e) tt

pub same-then : {p : Program} {h : ℕ} {s t u : State} → Same p h s t → Same p h t u → Same p h s u
same-then a b = record {
  left = λ c q l. b.left c q l ∙ a.left c q l;
  read = λ q j i l m. b.read q j i l m ∙ a.read q j i l m;
  memos = record {
    registers = λ i l. b.memos.registers i l ∙ a.memos.registers i l;
    counter = b.memos.counter ∙ a.memos.counter;
    area = λ k i l m. b.memos.area k i l m ∙ a.memos.area k i l m;
  };
}

pub saves-same : {p : Program} {h : ℕ} {s t u : State} → Saves p h s t → Same p h t u → Saves p h s u
saves-same a b = record {
  left = λ c q l. b.left c q l ∙ a.left c q l;
  read = λ q j i l m. b.read q j i l m ∙ a.read q j i l m;
  area = λ j i l m. b.memos.area j i l m ∙ a.area j i l m;
  counter = b.memos.counter ∙ a.counter;
  saved = λ i l. b.memos.registers i l ∙ a.saved i l;
}

module _ (p : Program) (formed : Formed p) (fit : MasksFit p.cases p.masks) (h : ℕ) (number : h < harts p) (at : Places)
    (cost : Costs) (limit : ℕ → ℕ) (clear : (c : ℕ) → c < case_count p
    → StreamClear p h c) (steps : Steps p h at cost limit) where
  -- the marks of a pass, one by one
  first-front : (c k : ℕ) → c < case_count p → k < passes p → IsFront (way_to p c k ++ Exit ∷ []) (whole_way p)
  first-front c k l m = front-then (way_to p c k ++ Exit ∷ []) (Enter c ∷ End c ∷ Exit ∷ []) (whole_way p)
      (subst (λ (ls : List Mark). IsFront ls (whole_way p))
      (sym (append_assoc (way_to p c k) (Exit ∷ []) (Enter c ∷ End c ∷ Exit ∷ []))) (pass-front p c k l m))

  three-whole : (c k : ℕ) → (way_to p c k ++ Exit ∷ Enter c ∷ End c ∷ []) ++ Exit ∷ [] ≡ way_to p c k ++ pass_way c
  three-whole c k = append_assoc (way_to p c k) (Exit ∷ Enter c ∷ End c ∷ []) (Exit ∷ [])

  not-last : (c k : ℕ) → c < case_count p → k < passes p → phase_at p c k + 1 < last_phase p
  not-last c k l m = let f = fewer c k (passes p) (case_count p) l m in omega arith

  first : (c k o : ℕ) (s : State) → c < case_count p → k < passes p
      → o + cost.first + cost.meet ≤ limit (phase_at p c k) → Ready p h (at.set c) (phase_at p c k) c o (way_to p c k) s
      → Told p h limit s.log
      → Leads p h limit s (λ t. Hold p h (at.load c) (phase_at p c k + 1) c 0 (way_to p c k ++ Exit ∷ []) t
      × Same p h s t × (now_in (exit_of p h) t.log ≡ []) × Told p h limit t.log)
  first c k o s l m room ready told =
      let next : suc (phase_at p c k) ≡ phase_at p c k + 1 = omega arith in
      keeps_then (steps.set c k o s l m (omega arith) ready told) (λ t a.
      keeps_map (λ u g. g) (λ u b. (
        subst (λ (q : ℕ). Hold p h (at.load c) q c 0 (way_to p c k ++ Exit ∷ []) u) next
            b.0,
        same-then a.1 b.1,
        b.2,
        b.3,
      ))
      (steps.meet (at.call c) (at.load c) (phase_at p c k) c (o + cost.first) (way_to p c k) t (Before c l)
      (omega arith) (let f = not-last c k l m in omega arith) room (first-front c k l m) a.0
      (none-is (λ d. any (λ (e : Entry). e.next == end_of p h d) (now_in (exit_of p h) t.log)
      ≡ true) (case_of_phase p (phase_at p c k)) (even-none p (turns p c k)))
      (some-is (λ d. AreSet p h d (now_in (exit_of p h) t.log)) (case_of_phase p (suc (phase_at p c k))) c
      (ap (case_of_phase p) next ∙ run-case p c k l m) a.2) a.3))

  save : (c k o : ℕ) (s : State) → c < case_count p → k < passes p
      → o + cost.save + cost.meet ≤ limit (phase_at p c k + 1)
      → Hold p h (end_of p h c) (phase_at p c k + 1) c o (way_to p c k ++ Exit ∷ Enter c ∷ End c ∷ []) s
      → any (λ (e : Entry). e.next == end_of p h c) (now_in (exit_of p h) s.log) ≡ true → Told p h limit s.log
      → Leads p h limit s (λ t. Hold p h (at.collect c) (phase_at p c (suc k)) c 0 (way_to p c k ++ pass_way c) t
      × Saves p h s t × (now_in (exit_of p h) t.log ≡ []) × Told p h limit t.log)
  save c k o s l m room hold ended told =
      let q = phase_at p c k + 1 in
      let ms = way_to p c k ++ Exit ∷ Enter c ∷ End c ∷ [] in
      let next : suc q ≡ phase_at p c (suc k) = omega arith in
      let behind : suc q ≡ 2 * (turns p c k + 1) = omega arith in
      keeps_then (steps.save c k o s l m (omega arith) hold ended told) (λ t a.
      keeps_map (λ u g. g) (λ u b. (
        subst (λ (r : ℕ). Hold p h (at.collect c) r c 0 (way_to p c k ++ pass_way c) u) next
            (subst (λ (ls : List Mark). Hold p h (at.collect c) (suc q) c 0 ls u) (three-whole c k) b.0),
        saves-same a.1 b.1,
        b.2,
        b.3,
      ))
      (steps.meet (at.recall c) (at.collect c) q c (o + cost.save) ms t (Behind c l) (omega arith) (not-last c k l m)
      room (subst (λ (ls : List Mark). IsFront ls (whole_way p)) (sym (three-whole c k)) (pass-front p c k l m))
      (record {
        hold = a.0;
        gathered = none-is (λ d. Gathered p h (now_in (exit_of p h) t.log)) (round_before p q)
            (none-before-run p (turns p c k));
      })
      (some-is (λ d. any (λ (e : Entry). e.next == end_of p h d) (now_in (exit_of p h) t.log)
      ≡ true) (case_of_phase p q) c (run-case p c k l m) a.2)
      (none-is (λ d. AreSet p h d (now_in (exit_of p h) t.log)) (case_of_phase p (suc q))
      (ap (case_of_phase p) behind ∙ even-none p (turns p c k + 1))) a.3))

  pub turns-of : Turns p h at cost limit
  turns-of = record {
    begin = steps.begin;
    reset = steps.reset;
    first = first;
    load = steps.load;
    stay = turn-stay p formed fit h number limit clear;
    save = save;
    collect = steps.collect;
    turn = steps.turn;
    compare = steps.compare;
  }

pub steps-turn : (p : Program) → StepsMakeTurns p
steps-turn p formed fit h number at cost limit clear steps = turns-of p formed fit h number at cost limit clear steps
