-- What the whole way tells is the hart's course, on each half run.
use Rattle.std.proofs.Common.{◌≡◌, ◌≢◌, ℕ, zero, suc, ◌+◌, ◌-◌, ◌/◌, ◌^◌, ◌<◌, ◌≤◌, List, [], ◌∷◌, length}
use Rattle.std.proofs.Common.{Option, None, Some, refl, sym, ap, ◌∙◌, subst, arith}
use Rattle.std.specs.Prelude.{slice_get, slice_index, slice_index_or, IsTrue, IfSome, All}
use Rattle.std.proofs.lemmas.Option.{IfSome_then}
use Rattle.tm_table.specs.State.{Hart}
use Rattle.tm_table.specs.declared.state.Access.TheVariants.{Write}
use Rattle.tm_plan_cases.specs.declared.cases.Case.{Case}
use Rattle.tm_plan_cases.specs.declared.cases.Stream.{Stream}
use Rattle.tm_plan_cases.specs.declared.masks.CaseMask.{CaseMask}
use Rattle.tm_plan_cases.specs.declared.program.Program.{Program}
use Rattle.tm_plan_map.specs.Map.{verdict_at, private_at, private_size, windows_base}
use Rattle.tm_plan_cases.specs.Collected.{owned}
use Rattle.tm_base.specs.Lists.{any}
use Rattle.tm_plan_cases.specs.Shaped.{MasksFit}
use Rattle.tm_world.specs.Lists.{IsFront}
use Rattle.tm_world.specs.Place.{harts, case_count, passes, exit_of, halt_of, byte_of}
use Rattle.tm_world.specs.Run.{Step, Always, now, first_state, pc_of, access_of, phase, in_phase, last_write}
use Rattle.tm_world.specs.Writers.{case_of_phase}
use Rattle.tm_plan_cases.specs.Streams.{stream_in}
use Rattle.tm_world.specs.Kinds.{IsOpening, HalfPath, stream_at}
use Rattle.tm_world.specs.Marks.{Mark, Enter, comes_to, arrivals, whole_way}
use Rattle.tm_world.specs.Course.{OnHalf, KeepsOrder, EntersFresh, KeepsVerdicts, HasAllVerdicts, KeepsWrites}
use Rattle.tm_world.specs.Course.{KeepsBarrier, KeepsCollecting, CollectsBeforeHalt, IsFresh, WritesVerdict}
use Rattle.tm_world.specs.Course.{OutsideWrites, Barrier, Collects, HasCollected, writes_in, reads_in}
use Rattle.tm_world.specs.Course.{signals, this_phase, round_before}
use Rattle.tm_world.specs.Verdict.{WritesExactly, IsVerdict}
use Rattle.tm_world.specs.Writers.{run_phase}
use Rattle.tm_world.specs.Work.{GoesOn}
use Rattle.tm_world.proofs.Accesses.{writes-itself}
use Rattle.tm_runs.specs.Machine.{State, Entry, get}
use Rattle.tm_runs.specs.Runs.{Stopped}
use Rattle.tm_runs.specs.Runs.{KeepsUntil}
use Rattle.tm_runs.specs.World.{world_of, start, image_dword}
use Rattle.tm_runs.specs.Shadow.{entry_of, entries_of}
use Rattle.tm_runs.specs.Course.{trail, Story}
use Rattle.tm_runs.proofs.Arrivals.{stream-none}
use Rattle.tm_runs.proofs.Worlds.{stopped, image-private, private-dword}
use Rattle.tm_runs.proofs.Paths.{always, told-log, goes-on, on-half, any-entries, phase-entries, stands, visited-trail}
use Rattle.tm_legal.proofs.Formed.{formed-sizes}
use Rattle.tm_legal.specs.Tame.{Formed}
use Rattle.tm_pass_way.specs.Logs.{reports, work_in}
use Rattle.tm_runs.specs.Phases.{phase_in, steps_in, now_in}
use Rattle.tm_pass_way.specs.Facts.{Fact, Told, Gathered, Gathering, AreSet, last_in}
use Rattle.tm_pass_way.specs.Parts.{Places, Costs, Turns, Rooms, Opens, AtHead}
use Rattle.tm_pass_way.specs.Meets.{WritesLate, KeepsOwed, Halts, PartsKeep}
use Rattle.tm_stays.specs.First.{SetsDwords, EntersBehindExit}
use Rattle.tm_stays.specs.Pace.{phase_work}
use Rattle.tm_pass_way.proofs.Entries.{last-entries, verdict-entries}
use Rattle.tm_runs.proofs.Entries.{phase-steps, phase-now, now-any, keeping-tells}
use Rattle.tm_pass_way.proofs.Entries.{work-entries}
use Rattle.tm_pass_way.proofs.Way.{whole}

some-at : {A : Type 0} (P : A → Type 0) (o : Option A) (x : A) → o ≡ Some x → IfSome o P → P x
some-at {A = A} P o x e s = subst (λ (t : Option A). IfSome t P) e s

module _ (p : Program) (formed : Formed p) (fit : MasksFit p.cases p.masks) (h : ℕ) (number : h < harts p) (at : Places)
    (cost : Costs) (limit : ℕ → ℕ) (halts : Halts p h at) (rooms : Rooms p cost limit) (parts : Turns p h at cost limit)
  where
    abbrev Tells : State → Type 0
    Tells t = Told p h limit t.log

    abbrev Ends : State → Type 0
    Ends = AtHead p h at cost limit (case_count p)

    get-some : {A : Type 0} (xs : List A) (k : ℕ) → k < length xs → (x : A) × (slice_get xs k ≡ Some x)
    get-some [] k l = absurd (omega arith)
    get-some (x ∷ xs) zero l = (x, refl)
    get-some (x ∷ xs) (suc k) l = get-some xs k (omega arith)

    masks : (c : ℕ) → c < case_count p → (m : CaseMask) × (slice_get p.masks.cases c ≡ Some m)
    masks c l = get-some p.masks.cases c (omega (arith, fit.count))

    count-zero : image_dword p (private_at h + 256) ≡ 0
    unfolding private_size
    count-zero = image-private p h (private_at h + 256) (formed-sizes formed)
        (omega (arith, number, (formed-sizes formed).harts))
        (private-dword h (private_at h + 256) (omega arith) (omega arith))

    opens : (x : List ℕ) → IsOpening h x → Opens p h (start p x)
    opens x o = record {
      pc = refl;
      number = o.number;
      regs = fits;
      mem = λ a. refl;
      log = refl;
      told = count-zero;
    }
      where
        fits : (r : ℕ) → get (λ r. slice_index x r) r < 2 ^ 64
        fits zero = omega arith
        fits (suc r) = o.fits (suc r)

    way : (x : List ℕ) → IsOpening h x → KeepsUntil (world_of p h) Tells Ends (start p x)
    way x o = whole p h at cost limit parts rooms (let s = formed.program.cases.passes.0 in
        omega arith) masks formed.program.cases.count.0 (start p x) (opens x o)

    stops : (t : State) → Ends t → Stopped (world_of p h) t
    stops t d = stopped p h t (stream-none p h (halt_of p h) halts.outside) (d.ready.hold.pc ∙ halts.place)

    -- ---- what the log of each half run tells

    tells : (H : List Entry → Type 0) → H [] → ((log : List Entry) → Told p h limit log → H log) → (x : List ℕ)
        → IsOpening h x → (own : List Step) → HalfPath p h (first_state x) own → H (entries_of own)
    tells H none f x o own path = told-log p h (formed-sizes formed) number x o Tells Ends (way x o) stops H none
        (λ t g. f t.log g) (λ t d. f t.log d.told) own path

    fact : (x : List ℕ) → IsOpening h x → (past : List Step) (s : Step) → HalfPath p h (first_state x) (s ∷ past)
        → Fact p h (entries_of past) (entry_of s)
    fact x o past s path = (tells (Story (Fact p h)) tt (λ log g. g.story) x o (s ∷ past) path).0

    place : (x : List ℕ) (past : List Step) (s : Step) → HalfPath p h (first_state x) (s ∷ past)
        → pc_of s ≡ (now (first_state x) past).pc
    place x past s path = stands p h (stream_at p h (now (first_state x) past).pc) (now (first_state x) past) past s
        path.0

    -- from a fact of each step
    stepwise : (P : Hart → List Step → Step → Type 0)
        → ((x : List ℕ) → IsOpening h x → (past : List Step) (s : Step) → HalfPath p h (first_state x) (s ∷ past)
        → P (first_state x) past s) → OnHalf p h (λ first own. Always (P first) own)
    stepwise P f = on-half p h (λ first own. Always (P first) own) number
        (λ x o own path. always p h (first_state x) (P (first_state x)) (f x o) own path)

    abbrev exit : ℕ
    exit = exit_of p h

    -- ---- order

    order : OnHalf p h (KeepsOrder p h)
    order = on-half p h (KeepsOrder p h) number (λ x o own path.
        subst (λ (ms : List Mark). IsFront ms (whole_way p)) (sym (visited-trail p h (first_state x) own path))
        (tells (λ log. IsFront (trail (arrivals p h) log) (whole_way p)) (whole_way p, refl) (λ log g. g.order) x o own
        path))

    -- ---- entering

    comes-from : (x : List ℕ) (past : List Step) (s : Step) (c : ℕ) → HalfPath p h (first_state x) (s ∷ past)
        → IsTrue (comes_to p h (Enter c) (now (first_state x) past).pc s.after.pc)
        → IsTrue (comes_to p h (Enter c) (pc_of s) s.after.pc)
    comes-from x past s c path e = subst (λ (a : ℕ). IsTrue (comes_to p h (Enter c) a s.after.pc))
        (sym (place x past s path)) e

    fresh : OnHalf p h (EntersFresh p h)
    fresh = stepwise (λ first past s. (c : ℕ) (stream : Stream) → stream_in p.cases c h ≡ Some stream
        → IsTrue (comes_to p h (Enter c) (now first past).pc s.after.pc) → IsFresh stream.regs s.after)
        (λ x o past s path c stream e comes. (fact x o past s path).fresh c stream e (comes-from x past s c path comes))

    behind : OnHalf p h (EntersBehindExit p h)
    behind = stepwise (λ first past s. (c : ℕ) → c < case_count p
        → IsTrue (comes_to p h (Enter c) (now first past).pc s.after.pc) → pc_of s ≢ exit)
        (λ x o past s path c l comes. (fact x o past s path).behind c l (comes-from x past s c path comes))

    -- ---- what was collected

    has-collected : (q : ℕ) (own : List Step) → Gathered p h (steps_in exit q (entries_of own)) → HasCollected p h q own
    has-collected q own g k d l =
        any-entries (λ t. reads_in (slice_index_or (owned p.cases h) k d) 8 (access_of t))
        (λ (t : Entry). reads_in (slice_index_or (owned p.cases h) k d) 8 t.access) (λ t. refl) (in_phase exit q own)
        ∙ (ap (any (λ (t : Entry). reads_in (slice_index_or (owned p.cases h) k d) 8 t.access))
        (phase-steps exit q own) ∙ g
        k d l)

    -- ---- verdicts

    late : OnHalf p h (WritesLate p h)
    late = stepwise (λ first past s. (c v : ℕ) → c < case_count p → access_of s ≡ Write (verdict_at c h) 8 v
        → run_phase p c (passes p - 1) < phase exit past)
        (λ x o past s path c v l e.
        let some = formed.program.cases.passes.0 in
        let r = (fact x o past s path).verdict c h l number
        (ap (writes_in (verdict_at c h) 8) e ∙ writes-itself (verdict_at c h) v) in
        let m = r.1.ended (passes p - 1) (omega arith) in
        subst (λ (q : ℕ). run_phase p c (passes p - 1) < q) (sym (phase-entries exit past)) m)

    exact : OnHalf p h (WritesExactly p h)
    exact = stepwise (λ first past s. (c : ℕ) (m : CaseMask) (v : ℕ) → slice_get p.masks.cases c ≡ Some m
        → access_of s ≡ Write (verdict_at c h) 8 v → IsVerdict p m h c first past v)
        (λ x o past s path c m v e w. verdict-entries p h x m c v past path.1 ((fact x o past s path).exact c m v e w))

    verdicts : OnHalf p h (KeepsVerdicts p h)
    verdicts = stepwise (λ first past s. (c g : ℕ) → c < case_count p → g < harts p
        → IsTrue (writes_in (verdict_at c g) 8 (access_of s)) → (g ≡ h) × WritesVerdict p h c past s)
        (λ x o past s path c g l m e.
        let f = (fact x o past s path).verdict c g l m e in (
          f.0,
          record {
            value = f.1.value;
            once = any-entries (λ t. writes_in (verdict_at c h) 8 (access_of t)) (reports c h) (λ t. refl) past ∙
                f.1.once;
            late = subst (λ (q : ℕ). run_phase p c (passes p - 1) < q) (sym (phase-entries exit past))
                (f.1.ended (passes p - 1) (let some = formed.program.cases.passes.0 in omega arith));
            collected = λ k few. has-collected (run_phase p c k + 1) past (f.1.collected k few);
          },
        ))

    all-of : (x : List ℕ) → IsOpening h x → (own : List Step) → HalfPath p h (first_state x) own
        → HasAllVerdicts p h (first_state x) own
    all-of x o [] path e c l = absurd (halts.entry e)
    all-of x o (s ∷ past) path e c l = any-entries (λ t. writes_in (verdict_at c h) 8 (access_of t)) (reports c h)
        (λ t. refl) (s ∷ past) ∙ (fact x o past s path).halt e c l

    all-verdicts : OnHalf p h (HasAllVerdicts p h)
    all-verdicts = on-half p h (HasAllVerdicts p h) number all-of

    -- ---- writes

    writes : OnHalf p h (KeepsWrites p h)
    writes = stepwise (λ first past s. OutsideWrites p h (stream_at p h (now first past).pc) (phase exit past) s)
        (λ x o past s path. by x past s (fact x o past s path) (place x past s path)
        (stream_at p h (now (first_state x) past).pc) refl)
      where
        by : (x : List ℕ) (past : List Step) (s : Step) → Fact p h (entries_of past) (entry_of s)
            → pc_of s ≡ (now (first_state x) past).pc → (c : Option ℕ) → stream_at p h (now (first_state x) past).pc ≡ c
            → OutsideWrites p h c (phase exit past) s
        by x past s f at' (Some c) e = tt
        by x past s f at' None e = subst (λ (q : ℕ). OutsideWrites p h None q s) (sym (phase-entries exit past))
            (f.writes (ap (stream_at p h) at' ∙ e))

    -- ---- the barrier

    barrier : OnHalf p h (KeepsBarrier p h)
    barrier = stepwise (λ first past s. Barrier p h (phase exit past) past s)
        (λ x o past s path. keeping-tells p h past s (fact x o past s path).barrier)

    -- ---- collecting

    collecting : OnHalf p h (KeepsCollecting p h)
    collecting = stepwise (λ first past s. IfSome (round_before p (phase exit past))
        (λ e. Collects p h (phase exit past) past s)) (λ x o past s path. by past s (fact x o past s path).collects)
      where
        read-now : (a : ℕ) (past : List Step) → any (λ t. reads_in a 8 (access_of t)) (this_phase p h past)
            ≡ any (λ (t : Entry). reads_in a 8 t.access) (now_in exit (entries_of past))
        read-now a past = now-any (λ t. reads_in a 8 (access_of t)) (λ (t : Entry). reads_in a 8 t.access)
            (λ t. refl) exit past

        gathered : (past : List Step) → Gathered p h (now_in exit (entries_of past))
            → HasCollected p h (phase exit past) past
        gathered past g k d l = read-now _ past ∙ g k d l

        of-case : (past : List Step) (s : Step) → Gathering p h (entries_of past) (entry_of s)
            → Collects p h (phase exit past) past s
        of-case past s g = record {
          once = λ k d l e. let r = g.once k d l e in (r.0, read-now _ past ∙ r.1);
          before_writes = λ e. gathered past (g.before_writes e);
          before_exit = λ e. gathered past (g.before_exit e);
        }

        by : (past : List Step) (s : Step) → IfSome (round_before p (phase_in exit (entries_of past)))
            (λ c. Gathering p h (entries_of past) (entry_of s))
            → IfSome (round_before p (phase exit past)) (λ e. Collects p h (phase exit past) past s)
        by past s g = IfSome_then (round_before p (phase exit past))
            (subst (λ (q : ℕ). IfSome (round_before p q) (λ c. Gathering p h (entries_of past) (entry_of s)))
            (sym (phase-entries exit past)) g) (λ c. of-case past s)

    collected : OnHalf p h (CollectsBeforeHalt p h)
    collected = stepwise (λ first past s. s.after.pc ≡ halt_of p h
        → IfSome (round_before p (phase exit (s ∷ past))) (λ e. HasCollected p h (phase exit (s ∷ past)) (s ∷ past)))
        (λ x o past s path z. of-now (s ∷ past) ((fact x o past s path).halted z))
      where
        of-now : (own : List Step) → IfSome (round_before p (phase_in exit (entries_of own)))
            (λ c. Gathered p h (now_in exit (entries_of own)))
            → IfSome (round_before p (phase exit own)) (λ e. HasCollected p h (phase exit own) own)
        of-now own g = subst (λ (q : ℕ). IfSome (round_before p q) (λ e. HasCollected p h q own))
            (sym (phase-entries exit own))
            (IfSome_then (round_before p (phase_in exit (entries_of own))) g
            (λ c. has-collected (phase_in exit (entries_of own)) own))

    -- ---- first bytes

    dwords : OnHalf p h (SetsDwords p h)
    dwords = stepwise (λ first past s. IsTrue (signals h s) → (c : ℕ) (case : Case)
        → case_of_phase p (suc (phase exit past)) ≡ Some c → slice_get p.cases.cases c ≡ Some case
        → All (λ a. (i : ℕ) → i < 8 → last_write (a + i) (this_phase p h past)
        ≡ Some (byte_of (slice_index case.first ((a - windows_base) / 8)) i)) (owned p.cases h))
        (λ x o past s path sig c case e f k d l i m.
        let set : AreSet p h c (now_in exit (entries_of past)) =
        some-at (λ (d : ℕ). AreSet p h d (now_in exit (entries_of past)))
        (case_of_phase p (suc (phase_in exit (entries_of past)))) c
        (ap (λ (q : ℕ). case_of_phase p (suc q)) (sym (phase-entries exit past)) ∙ e)
        ((fact x o past s path).sets sig) in
        last-entries _ (this_phase p h past) ∙ (ap (last_in _) (phase-now exit past) ∙ set case f k d l i m))

    -- ---- work, and next steps

    work : OnHalf p h (λ first own. (q : ℕ) → phase_work p h first q own ≤ limit q)
    work = on-half p h (λ first own. (q : ℕ) → phase_work p h first q own ≤ limit q) number (λ x o own path q.
        subst (λ (n : ℕ). n ≤ limit q) (sym (work-entries p h x q own path)) (tells (λ log. (r : ℕ)
        → work_in p h r log ≤ limit r) (λ r. omega arith) (λ log g. g.pace) x o own path q))

    next : OnHalf p h (GoesOn p h)
    next = on-half p h (GoesOn p h) number (λ x o own path. goes-on p h (formed-sizes formed) number x o Tells Ends
        (way x o) stops (λ t d. d.ready.hold.pc ∙ halts.place) own path)

    -- ---- all of it

    pub keeps : KeepsOwed p h limit
    keeps = record {
      course = record {
        order = order;
        fresh = fresh;
        verdicts = verdicts;
        all_verdicts = all-verdicts;
        writes = writes;
        barrier = barrier;
        collecting = collecting;
        collected = collected;
      };
      dwords = dwords;
      behind = behind;
      late = late;
      exact = exact;
      work = work;
      next = next;
    }

pub parts-keep : (p : Program) → PartsKeep p
parts-keep p formed fit h number at cost limit halts rooms parts =
    keeps p formed fit h number at cost limit halts rooms parts
