-- Support code without accesses keeps the stage.
use Rattle.std.proofs.Common.{◌≡◌, ◌≢◌, ℕ, suc, ◌+◌, ◌<◌, ◌≤◌, List, [], ◌∷◌, ◌++◌, length, ◌⊎◌, inl, inr}
use Rattle.std.proofs.Common.{Bool, true, false, ◌==◌, Option, None, Some, refl, sym, ap, ◌∙◌, subst, arith, length-append}
use Rattle.std.specs.Prelude.{if◌then◌else◌}
use Rattle.tm_table.specs.Adds.{add_of}
use Rattle.tm_plan_cases.specs.declared.program.Program.{Program}
use Rattle.tm_plan_map.specs.Slots.{instr_of}
use Rattle.tm_world.specs.Place.{exit_of, word_at, halt_of}
use Rattle.tm_world.specs.Kinds.{stream_at}
use Rattle.tm_runs.specs.Machine.{Entry, State}
use Rattle.tm_runs.specs.Runs.{Takes, Each, Does, Within, IsQuiet, Since}
use Rattle.tm_runs.specs.World.{world_of, support_at, support, bounds_at, bounds}
use Rattle.tm_runs.proofs.Split.{takes_since, takes_count}
use Rattle.tm_table.specs.declared.instr.Instr.{Instr}
use Rattle.tm_runs.proofs.Rows.{word-reach}
use Rattle.tm_runs.proofs.Places.{word-place}
use Rattle.tm_runs.specs.World.{Sizes}
use Rattle.tm_barrier.specs.Course.{work_at}
use Rattle.tm_cells_plan.specs.declared.plan.CellPlan.{CellPlan}
use Rattle.tm_cells_world.specs.Machine.{Holds, Fetched, adds_at}
use Rattle.tm_cells_world.specs.Shadow.{NoStreams}
use Rattle.tm_cells_world.proofs.Adding.{row-alone}
use Rattle.tm_cells_world.proofs.Compose.{takes_words, holds_takes, holds_map}
use Rattle.tm_cells_code.specs.Told.{Stage, Plain, Quietly, Told, More, Sofar, Good}
use Rattle.tm_cells_code.proofs.Tells.{quiet-keeping}

-- ---- work

pub work-step : (p : Program) (h : ℕ) (e : Entry) (log : List Entry) → work_at p h (e ∷ log) ≤ suc (work_at p h log)
work-step p h e log = by _
  where
    by : (b : Bool) → (if b then work_at p h log else suc (work_at p h log)) ≤ suc (work_at p h log)
    by true = omega arith
    by false = omega arith

pub work-length : (p : Program) (h : ℕ) (es base : List Entry) → work_at p h (es ++ base) ≤ work_at p h base + length es
work-length p h [] base = omega arith
work-length p h (e ∷ es) base =
    let one = work-step p h e (es ++ base) in let rest = work-length p h es base in omega arith

-- ---- words

support-word : (o : Option ℕ) (b : Bool) (w : Option ℕ) (i : Instr) → support o b w ≡ Some i → (n : ℕ) × (w ≡ Some n)
    × (instr_of n ≡ Some i)
support-word (Some c) b w i e = cc
support-word None true w i e = cc
support-word None false None i e = cc
support-word None false (Some n) i e = (n, refl, e)

pub text-word : (p : Program) (h pc : ℕ) (i : Instr) → support_at p h pc ≡ Some i → (n : ℕ) × (word_at p pc ≡ Some n)
    × (instr_of n ≡ Some i)
unfolding support_at
text-word p h pc i e = support-word (stream_at p h pc) (pc == halt_of p h) (word_at p pc) i e

-- the word of support code is no add's
pub fetched-plain : (p : Program) (h : ℕ) → Sizes p → (e : Entry) → Fetched (world_of p h) e → add_of e.word ≡ None
fetched-plain p h sizes e f =
    let (n, at, is) = text-word p h e.pc f.instr f.at in
    let place = word-place p e.pc n sizes at in
    let same : e.word ≡ n = f.word ∙ (word-reach n f.instr place.2 is).1 in
    ap add_of same ∙ row-alone n f.instr is

pub no-bounds : (p : Program) (h : ℕ) → NoStreams p h → (a : ℕ) → (world_of p h).stream a ≡ None
unfolding bounds_at
no-bounds p h none a = ap (bounds p h) (none a)

-- ---- blocks

module _ (plan : CellPlan) (p : Program) (h : ℕ) (sizes : Sizes p) (none : NoStreams p h) where
  -- an entry of support code in words from lo to hi, without an access
  abbrev pub Calm : (lo hi : ℕ) → Entry → Type 0
  Calm lo hi e = Does lo hi IsQuiet e × Fetched (world_of p h) e

  calm-plain : (lo hi : ℕ) → (exit_of p h < lo) ⊎ (hi ≤ exit_of p h) → (e : Entry) → Calm lo hi e → Plain p h e
  calm-plain lo hi apart e c = record { add = fetched-plain p h sizes e c.1; off = by apart }
    where
      by : (exit_of p h < lo) ⊎ (hi ≤ exit_of p h) → e.pc ≢ exit_of p h
      by (inl l) z = omega (arith, z, l, c.0.from)
      by (inr l) z = omega (arith, z, l, c.0.below)

  pub told-quiet : (lo hi : ℕ) → (exit_of p h < lo) ⊎ (hi ≤ exit_of p h) → (st : Stage) (es base : List Entry)
      → Each (Calm lo hi) es → Told plan p h base st → Told plan p h (es ++ base) st
  told-quiet lo hi apart st [] base each t = t
  told-quiet lo hi apart st (e ∷ es) base each t =
      let plain = calm-plain lo hi apart e each.0 in
      More (told-quiet lo hi apart st es base each.1 t)
      (quiet-keeping p h (es ++ base) e each.0.0.access plain.off) (Quietly each.0.0.access plain)

  since-sofar : (lo hi : ℕ) → (exit_of p h < lo) ⊎ (hi ≤ exit_of p h) → (st : Stage) (n m : ℕ) (s t : State)
      → Since (Calm lo hi) s t → length t.log ≤ length s.log + m → Sofar plan p h st n s.log
      → Sofar plan p h st (n + m) t.log
  since-sofar lo hi apart st n m s t since long so =
      subst (λ (log : List Entry). Sofar plan p h st (n + m) log) (sym since.log) (record {
        told = told-quiet lo hi apart st since.entries s.log since.each so.told;
        few = omega (
          arith,
          work-length p h since.entries s.log,
          so.few,
          long,
          ap length since.log,
          length-append since.entries s.log,
        );
      })

  pub good-at : (most n : ℕ) (st : Stage) (log : List Entry) → n ≤ most → Sofar plan p h st n log → Good plan p h most log
  good-at most n st log l so = record { at = st; sofar = record { told = so.told; few = omega (arith, so.few) } }

  -- a block without accesses, in which there is no exit mark
  pub quiet-block : (most lo hi n m : ℕ) (st : Stage) {Q : State → Type 0} {s : State}
      → (exit_of p h < lo) ⊎ (hi ≤ exit_of p h) → n + m ≤ most → Takes (world_of p h) (Within lo hi IsQuiet) Q m s
      → Sofar plan p h st n s.log
      → Holds (world_of p h) (adds_at p) (λ t. Good plan p h most t.log) (λ t. Q t × Sofar plan p h st (n + m) t.log) s
  quiet-block most lo hi n m st {s = s} apart l law so =
      holds_map
      (λ t g. good-at most (n + m) st t.log l (since-sofar lo hi apart st n m s t g.0.0.1 g.0.1 so))
      (λ t q. (q.0.0.0, since-sofar lo hi apart st n m s t q.0.0.1 q.0.1 so))
      (holds_takes (no-bounds p h none) (takes_count (takes_since (takes_words law))))
