-- A barrier adds no more work to its phase than it has by itself. (`lately` and `worked` stand in tm_barrier's specs.)
use Rattle.std.proofs.Common.{◌≡◌, ◌≢◌, ℕ, zero, suc, ◌+◌, ◌<◌, ◌≤◌, Bool, true, false, true≢false, ◌&&◌, ◌||◌, not}
use Rattle.std.proofs.Common.{◌==◌, List, [], ◌∷◌, ◌++◌, refl, sym, ap, ap₂, ◌∙◌, arith}
use Rattle.std.specs.Prelude.{if◌then◌else◌}
use Rattle.std.proofs.lemmas.Bool.{or_right}
use Rattle.tm_plan_cases.specs.declared.program.Program.{Program}
use Rattle.tm_plan_map.specs.Map.{flag_at}
use Rattle.tm_base.specs.Lists.{any, count_from}
use Rattle.tm_plan_cases.specs.Shaped.{MasksFit}
use Rattle.tm_world.specs.Place.{harts, exit_of}
use Rattle.tm_world.specs.Work.{gets_less}
use Rattle.tm_runs.specs.Machine.{Entry}
use Rattle.tm_runs.specs.Runs.{Each}
use Rattle.tm_runs.specs.Course.{Story}
use Rattle.tm_legal.specs.Tame.{Formed}
use Rattle.tm_stays.specs.Stays.{one_outside}
use Rattle.tm_world.specs.Kinds.{stream_at}
use Rattle.tm_pass_way.specs.Logs.{work_in}
use Rattle.tm_runs.specs.Phases.{phase_in, now_in, signals_in, idles_at, lately_at}
use Rattle.tm_pass_way.proofs.Calm.{phase-stays, now-stays, work-more}

-- it reads another hart's flag, and gets less than m
abbrev pub idles_in : (h n m : ℕ) → Entry → Bool
idles_in h n m e = any (λ g. not (g == h) && gets_less (flag_at g) m e.access) (count_from 0 n)

abbrev pub lately : (Entry → Bool) → ℕ → List Entry → Bool
lately test zero es = false
lately test (suc k) [] = false
lately test (suc k) (e ∷ es) = test e || lately test k es

abbrev pub worked : (Entry → Bool) → List Entry → ℕ
worked test [] = 0
worked test (e ∷ es) = if lately test 4 (e ∷ es) then worked test es else suc (worked test es)

any-front : (f : Entry → Bool) (es log : List Entry) → any f es ≡ true → any f (es ++ log) ≡ true
any-front f [] log e = absurd (true≢false (sym e))
any-front f (x ∷ es) log e = by (f x) e (any-front f es log)
  where
    by : (b : Bool) → (b || any f es) ≡ true → (any f es ≡ true → any f (es ++ log) ≡ true) → (b || any f (es ++ log))
        ≡ true
    by true z g = refl
    by false z g = g z

module _ (p : Program) (formed : Formed p) (fit : MasksFit p.cases p.masks) (h : ℕ) (number : h < harts p) (q : ℕ)
    (base : List Entry) (here : phase_in (exit_of p h) base ≡ q) where
  abbrev exit : ℕ
  exit = exit_of p h

  abbrev test : Entry → Bool
  test = idles_in h (harts p) (q + 1)

  pub phase-all : (es : List Entry) → Each (λ (e : Entry). e.pc ≢ exit) es → phase_in exit (es ++ base) ≡ q
  phase-all [] each = here
  phase-all (e ∷ es) each = phase-stays p formed fit h number (es ++ base) e each.0 ∙ phase-all es each.1

  pub now-all : (es : List Entry) → Each (λ (e : Entry). e.pc ≢ exit) es → now_in exit (es ++ base)
      ≡ es ++ now_in exit base
  now-all [] each = refl
  now-all (e ∷ es) each = now-stays p formed fit h number (es ++ base) e each.0 ∙ ap (λ (l : List Entry). e ∷ l)
      (now-all es each.1)

  -- An entry that waits once the hart has signalled in the barrier reads idly.
  idles-here : (es : List Entry) (e : Entry) → Each (λ (e : Entry). e.pc ≢ exit) es → any (signals_in h) es ≡ true
      → test e ≡ true → idles_at p h (es ++ base) e ≡ true
  idles-here es e each s t =
      ap₂ (λ (a b : Bool). a && b) (ap (any (signals_in h)) (now-all es each) ∙ any-front (signals_in h) es
      (now_in exit base) s)
      (ap (λ (m : ℕ). any (λ g. not (g == h) && gets_less (flag_at g) (m + 1) e.access) (count_from 0 (harts p)))
      (phase-all es each) ∙ t)

  -- what each entry of a barrier keeps of waiting (KeepsInStep.waits)
  abbrev Waits : List Entry → Entry → Type 0
  Waits before e = test e ≡ true → any (signals_in h) before ≡ true

  lately-more : (k : ℕ) (es : List Entry) → Each (λ (e : Entry). e.pc ≢ exit) es → Story Waits es
      → lately test k es ≡ true → lately_at p h k (es ++ base) ≡ true
  lately-more zero es each story e = absurd (true≢false (sym e))
  lately-more (suc k) [] each story e = absurd (true≢false (sym e))
  lately-more (suc k) (x ∷ es) each story e = by (test x) refl e (lately-more k es each.1 story.1)
    where
      by : (b : Bool) → test x ≡ b → (b || lately test k es) ≡ true
          → (lately test k es ≡ true → lately_at p h k (es ++ base) ≡ true) → lately_at p h (suc k) (x ∷ es ++ base)
          ≡ true
      by true t z g = ap (λ (a : Bool). a || lately_at p h k (es ++ base)) (idles-here es x each.1 (story.0 t) t)
      by false t z g = or_right (idles_at p h (es ++ base) x) (lately_at p h k (es ++ base)) (g z)

  -- at most one step more
  one-more : (e : Entry) (log : List Entry) → work_in p h q (e ∷ log) ≤ suc (work_in p h q log)
  one-more e log = by (phase_in exit log == q) (work-more p formed fit h number q log e)
    where
      by : (b : Bool) → work_in p h q (e ∷ log) ≤ (if b then suc (work_in p h q log) else work_in p h q log)
          → work_in p h q (e ∷ log) ≤ suc (work_in p h q log)
      by true l = l
      by false l = omega arith

  -- none where one of the four newest reads idly
  idle : (e : Entry) (log : List Entry) → lately_at p h 4 (e ∷ log) ≡ true → work_in p h q (e ∷ log) ≡ work_in p h q log
  idle e log z = ap (λ (b : Bool). if b then work_in p h q log
      else (if phase_in exit log == q then one_outside (stream_at p h e.pc) (work_in p h q log) else work_in p h q log))
      z

  pub barrier-work : (es : List Entry) → Each (λ (e : Entry). e.pc ≢ exit) es → Story Waits es
      → work_in p h q (es ++ base) ≤ work_in p h q base + worked test es
  barrier-work [] each story = omega arith
  barrier-work (e ∷ es) each story = by (lately test 4 (e ∷ es)) refl (barrier-work es each.1 story.1)
    where
      by : (b : Bool) → lately test 4 (e ∷ es) ≡ b → work_in p h q (es ++ base) ≤ work_in p h q base + worked test es
          → work_in p h q (e ∷ es ++ base) ≤ work_in p h q base + (if b then worked test es else suc (worked test es))
      by true z l = let i = idle e (es ++ base) (lately-more 4 (e ∷ es) each story z) in omega arith
      by false z l = let i = one-more e (es ++ base) in omega arith
