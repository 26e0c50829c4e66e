-- What the machine's runs say of a half run's steps.
use Rattle.std.proofs.Common.{◌≡◌, ℕ, suc, ◌%◌, ◌<◌, List, [], ◌∷◌, ◌++◌, length, Bool, true, false, Option, None}
use Rattle.std.proofs.Common.{Some, ◌⊎◌, inl, inr, refl, sym, ap, ap₂, ◌∙◌, subst, ◌==◌, ◌||◌}
use Rattle.std.specs.Prelude.{IsTrue, slice_index, if◌then◌else◌}
use Rattle.tm_table.specs.declared.instr.Instr.{Instr}
use Rattle.tm_table.specs.State.{Hart}
use Rattle.tm_table.specs.Words.{low}
use Rattle.tm_table.specs.Row.{Effect, Gives, Loads, Stores, Branches, Jumps, effect, row, after as row_after}
use Rattle.tm_plan_cases.specs.declared.program.Program.{Program}
use Rattle.tm_plan_map.specs.Slots.{instr_of}
use Rattle.tm_base.specs.Lists.{any}
use Rattle.tm_world.specs.Lists.{count}
use Rattle.tm_world.specs.Place.{harts, halt_of, word_at}
use Rattle.tm_world.specs.Run.{Step, Always, now, first_state, own as own_steps, pc_of, phase}
use Rattle.tm_world.specs.Kinds.{IsOpening, IsReachable, IsPossible, HalfPath, HalfStep, stream_at}
use Rattle.tm_world.specs.Marks.{Mark, arrivals, visited}
use Rattle.tm_world.specs.Course.{OnHalf}
use Rattle.tm_world.specs.Work.{HasNext, GoesOn}
use Rattle.tm_runs.specs.Machine.{State, Entry, get, effect_in, MayAct}
use Rattle.tm_runs.specs.Runs.{KeepsUntil, Run, Apart, Goes, Runs, Strolls, Stopped, Passed, CanStep}
use Rattle.tm_runs.specs.World.{Sizes, world_of, start, support, support_at, bounds, bounds_at}
use Rattle.tm_runs.specs.Shadow.{entry_of, entries_of, Shadow, Shadowed}
use Rattle.tm_runs.specs.Course.{trail}
use Rattle.tm_runs.proofs.Split.{keeps_run, keeps_can, end_of}
use Rattle.tm_runs.proofs.Rows.{decoded-row}
use Rattle.tm_runs.proofs.Places.{guest-parts}
use Rattle.tm_runs.proofs.Half.{half-runs}

-- ---- places

-- no address is in a stream and in support code
pub apart : (p : Program) (h : ℕ) → Apart (world_of p h)
unfolding support_at bounds_at
apart p h a lo hi i e f = by (stream_at p h a) e f
  where
    by : (o : Option ℕ) → support o (a == halt_of p h) (word_at p a) ≡ Some i → bounds p h o ≡ Some (lo, hi) → ⊥
    by None x y = cc
    by (Some c) x y = cc

-- in a stream stands what is in it
in-stream : (p : Program) (h pc lo hi : ℕ) → bounds_at p h pc ≡ Some (lo, hi) → stream_at p h pc ≡ None → ⊥
unfolding bounds_at
in-stream p h pc lo hi e n = let f : bounds p h None ≡ Some (lo, hi) = ap (bounds p h) (sym n) ∙ e in cc

-- the word of an instruction of support code
support-word : (o : Option ℕ) (b : Bool) (w : Option ℕ) (i : Instr) → support o b w ≡ Some i → (n : ℕ) × (w ≡ Some n)
    × (instr_of n ≡ Some i)
support-word (Some c) b w i e = cc
support-word None true w i e = cc
support-word None false None i e = cc
support-word None false (Some n) i e = (n, refl, e)

text-word : (p : Program) (h pc : ℕ) (i : Instr) → support_at p h pc ≡ Some i → (n : ℕ) × (word_at p pc ≡ Some n)
    × (instr_of n ≡ Some i)
unfolding support_at
text-word p h pc i e = support-word (stream_at p h pc) (pc == halt_of p h) (word_at p pc) i e

-- an access that may be made is possible
reachable : (p : Program) (h a n : ℕ) → n ≡ 8 → a % 8 ≡ 0 → IsTrue ((world_of p h).guest a) → IsReachable a n
reachable p h a n e al g = let b = guest-parts a g in subst (IsReachable a) (sym e) (al, b.0, b.1)

may-possible : (p : Program) (h : ℕ) (e : Effect) (hart : Hart) (rd n read : ℕ) → MayAct e (world_of p h)
    → IsPossible (row_after e hart rd n read).1
unfolding row_after
may-possible p h (Gives value) hart rd n read m = tt
may-possible p h (Loads addr width with_sign) hart rd n read m = reachable p h addr width m.0 m.2.0 m.2.1
may-possible p h (Stores addr width value) hart rd n read m = reachable p h addr width m.0 m.1.0 m.1.1
may-possible p h (Branches taken) hart rd n read m = tt
may-possible p h (Jumps link goes) hart rd n read m = tt

-- a machine's next step is one of the hart
has-next : (p : Program) (h : ℕ) (hart : Hart) (t : State) → t.pc ≡ hart.pc
    → ((r : ℕ) → get t.regs r ≡ slice_index hart.x r) → CanStep (world_of p h) t → HasNext p hart
unfolding row
has-next p h hart t pc regs c =
    let (word, at, is) = text-word p h t.pc c.instr c.fetched in
    let i = c.instr in
    let n = low 64 i.imm in
    let same : effect_in i t ≡ effect i.op hart.pc (slice_index hart.x i.rs1) (slice_index hart.x i.rs2) n =
    ap (λ (x : ℕ). effect i.op x (get t.regs i.rs1) (get t.regs i.rs2) n) pc ∙ ap₂
    (λ (a b : ℕ). effect i.op hart.pc a b n) (regs i.rs1) (regs i.rs2) in
    let may : MayAct (effect i.op hart.pc (slice_index hart.x i.rs1) (slice_index hart.x i.rs2) n) (world_of p h) =
    subst (λ (x : Effect). MayAct x (world_of p h)) same c.may in (
      word,
      subst (λ (x : ℕ). word_at p x ≡ Some word) pc at,
      λ read. (
        (row hart i read).0,
        (row hart i read).1,
        decoded-row hart word read i is,
        may-possible p h (effect i.op hart.pc (slice_index hart.x i.rs1) (slice_index hart.x i.rs2) n) hart i.rd n
            read may,
      ),
    )

-- ---- facts of steps

-- What holds of each half run's newest step holds of each step.
pub always : (p : Program) (h : ℕ) (first : Hart) (P : List Step → Step → Type 0)
    → ((past : List Step) (s : Step) → HalfPath p h first (s ∷ past) → P past s) → (own : List Step)
    → HalfPath p h first own → Always P own
always p h first P f [] path = tt
always p h first P f (s ∷ past) path = (f past s path, always p h first P f past path.1)

-- ---- facts of states

-- a shadow of which P holds
pub record Told (p : Program) (h : ℕ) (x : List ℕ) (own : List Step) (P : State → Type 0) : Type 0 where
  pub state : State
  pub shadow : Shadow p h (first_state x) own state
  pub holds : P state

module _ (p : Program) (h : ℕ) (sizes : Sizes p) (number : h < harts p) (x : List ℕ) (opening : IsOpening h x)
    (G Q : State → Type 0) (keeps : KeepsUntil (world_of p h) G Q (start p x)) (stops : (t : State) → Q t
    → Stopped (world_of p h) t) where
  -- A fact that the start has, and each state with G or Q, holds of each state of a half run.
  pub told : (P : State → Type 0) → P (start p x) → ((t : State) → G t → P t) → ((t : State) → Q t → P t)
      → (own : List Step) → HalfPath p h (first_state x) own → Told p h x own P
  told P at-start g q own path = record {
    state = s.state;
    shadow = s.shadow;
    holds = by (keeps_run (world_of p h) (apart p h) keeps (length own) s.state s.run);
  }
    where
      s : Shadowed p h x own
      s = half-runs p sizes h number x opening own path

      by : ((length own ≡ 0) ⊎ G s.state) ⊎ Passed (world_of p h) Q (length own) (start p x) s.state → P s.state
      by (inl (inl e)) = subst P (sym (subst (λ (n : ℕ). Run (world_of p h) n (start p x) s.state) e s.run)) at-start
      by (inl (inr y)) = g s.state y
      by (inr y) = subst P (sym (end_of (world_of p h) y.second y.mid s.state (stops y.mid y.there) y.behind))
          (q y.mid y.there)

  -- the same of what stands in the log
  pub told-log : (H : List Entry → Type 0) → H [] → ((t : State) → G t → H t.log) → ((t : State) → Q t → H t.log)
      → (own : List Step) → HalfPath p h (first_state x) own → H (entries_of own)
  told-log H none g q own path = let r = told (λ t. H t.log) none g q own path in subst H r.shadow.log r.holds

  -- and so of each step and what was before it
  pub told-steps : (H : List Entry → Type 0) → H [] → ((t : State) → G t → H t.log) → ((t : State) → Q t → H t.log)
      → (own : List Step) → HalfPath p h (first_state x) own → Always (λ past s. H (entry_of s ∷ entries_of past)) own
  told-steps H none g q own path = always p h (first_state x) (λ past s. H (entry_of s ∷ entries_of past))
      (λ past s before. told-log H none g q (s ∷ past) before) own path

  -- outside streams and before halt there is a next step
  pub goes-on : ((t : State) → Q t → t.pc ≡ halt_of p h) → (own : List Step) → HalfPath p h (first_state x) own
      → GoesOn p h (first_state x) own
  goes-on halts own path out before = by (keeps_can (world_of p h) (apart p h) keeps (length own) s.state s.run)
    where
      s : Shadowed p h x own
      s = half-runs p sizes h number x opening own path

      by : Goes (world_of p h) s.state ⊎ Passed (world_of p h) Q (length own) (start p x) s.state
          → HasNext p (now (first_state x) own)
      by (inl (Runs c)) = has-next p h (now (first_state x) own) s.state s.shadow.pc s.shadow.regs c
      by (inl (Strolls lo hi e)) = absurd (in-stream p h s.state.pc lo hi e (ap (stream_at p h) s.shadow.pc ∙ out))
      by (inr y) =
          let same : s.state ≡ y.mid = end_of (world_of p h) y.second y.mid s.state (stops y.mid y.there) y.behind in
          absurd (before (sym s.shadow.pc ∙ (ap (λ (t : State). t.pc) same ∙ halts y.mid y.there)))

-- what holds on each hart's half paths holds on half runs
pub on-half : (p : Program) (h : ℕ) (P : Hart → List Step → Type 0) → h < harts p
    → ((x : List ℕ) → IsOpening h x → (own : List Step) → HalfPath p h (first_state x) own → P (first_state x) own)
    → OnHalf p h P
on-half p h P l f r half = f (r.opening h) (half.opening h l) (own_steps h r.steps) (half.each h l)

-- ---- steps and entries

count-more : (a b : Bool) (m n : ℕ) → a ≡ b → m ≡ n → (if a then suc m else m) ≡ (if b then suc n else n)
count-more a b m n p q = ap₂ (λ (c : Bool) (k : ℕ). if c then suc k else k) p q

-- a test of steps that is one of their entries
pub count-entries : (f : Step → Bool) (g : Entry → Bool) → ((s : Step) → f s ≡ g (entry_of s)) → (own : List Step)
    → count f own ≡ count g (entries_of own)
count-entries f g h [] = refl
count-entries f g h (s ∷ past) = count-more (f s) (g (entry_of s)) (count f past) (count g (entries_of past)) (h s)
    (count-entries f g h past)

pub any-entries : (f : Step → Bool) (g : Entry → Bool) → ((s : Step) → f s ≡ g (entry_of s)) → (own : List Step)
    → any f own ≡ any g (entries_of own)
any-entries f g h [] = refl
any-entries f g h (s ∷ past) = ap₂ (λ (a b : Bool). a || b) (h s) (any-entries f g h past)

-- the phase that a hart is in, by its log
pub phase-entries : (exit : ℕ) (own : List Step) → phase exit own ≡ count (λ (e : Entry). e.pc == exit) (entries_of own)
phase-entries exit own = count-entries (λ s. pc_of s == exit) (λ (e : Entry). e.pc == exit) (λ s. refl) own

-- ---- marks

-- a step of a half run stands at the hart's program counter
pub stands : (p : Program) (h : ℕ) (o : Option ℕ) (before : Hart) (past : List Step) (s : Step)
    → HalfStep p h o before past s → pc_of s ≡ before.pc
stands p h None before past s f = f.0.place
stands p h (Some c) before past s f = f.place

-- the marks that a hart has come to are the trail of its log
pub visited-trail : (p : Program) (h : ℕ) (first : Hart) (own : List Step) → HalfPath p h first own
    → visited p h first own ≡ trail (arrivals p h) (entries_of own)
visited-trail p h first [] path = refl
visited-trail p h first (s ∷ past) path =
    ap₂ (λ (ms : List Mark) (from : ℕ). ms ++ arrivals p h from s.after.pc) (visited-trail p h first past path.1)
    (sym (stands p h (stream_at p h (now first past).pc) (now first past) past s path.0))
