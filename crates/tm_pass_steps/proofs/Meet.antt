-- A call of the barrier leads a hart into its next phase.
use Rattle.std.proofs.Common.{◌≡◌, ◌≢◌, ◌⊎◌, inl, inr, ℕ, suc, ◌+◌, ◌*◌, ◌^◌, ◌<◌, ◌≤◌, Bool, true, false}
use Rattle.std.proofs.Common.{◌&&◌, ◌||◌, not, ◌==◌, List, [], ◌∷◌, ◌++◌, length, Option}
use Rattle.std.proofs.Common.{None, Some, refl, sym, ap, ap₂, ◌∙◌, subst, arith, length-append}
use Rattle.std.specs.Prelude.{slice_index, slice_index_or, IfSome, if◌then◌else◌}
use Rattle.std.proofs.lemmas.Bool.{or_right}
use Rattle.std.proofs.lemmas.Option.{IfSome_then}
use Rattle.tm_table.specs.declared.state.Access.{Access}
use Rattle.tm_table.specs.declared.state.Access.TheVariants.{Quiet}
use Rattle.tm_table.specs.Words.{word_of}
use Rattle.tm_plan_cases.specs.declared.program.Program.{Program}
use Rattle.tm_plan_map.specs.Map.{flag_at, private_at, save_at, windows_base, verdict_at}
use Rattle.tm_plan_cases.specs.Collected.{owned}
use Rattle.tm_base.specs.Lists.{any}
use Rattle.tm_base.proofs.ListLemmas.{no}
use Rattle.tm_plan_cases.specs.Shaped.{MasksFit}
use Rattle.tm_world.specs.Lists.{or_else, IsFront}
use Rattle.tm_world.specs.Place.{harts, case_count, start_of, end_of, exit_of, inside}
use Rattle.tm_world.specs.Writers.{case_of_phase}
use Rattle.tm_world.specs.Marks.{Mark, Exit, arrivals, whole_way}
use Rattle.tm_world.specs.Course.{last_phase, round_before, reads_in}
use Rattle.tm_world.proofs.Options.{or_else-none}
use Rattle.tm_runs.specs.Machine.{State, Entry, Table, get}
use Rattle.tm_runs.specs.Runs.{KeepsUntil, Takes, Now, At, Each, Does}
use Rattle.tm_runs.specs.World.{world_of, is_fixed_dword, support_at}
use Rattle.tm_runs.specs.Course.{trail}
use Rattle.tm_runs.proofs.Arrivals.{quiet-off, arrivals-none, arrivals-exit, inside-false}
use Rattle.tm_runs.proofs.Compose.{keeps_after, keeps_then, keeps_map, keeps_now, takes_map}
use Rattle.tm_runs.proofs.Steps.{step_jal, jumped}
use Rattle.tm_runs.proofs.Tables.{get_put_zero, at_front, at_next}
use Rattle.tm_legal.proofs.Formed.{formed-sizes}
use Rattle.tm_legal.specs.Tame.{Formed}
use Rattle.tm_blocks_base.specs.Instrs.{fence, go_to}
use Rattle.tm_blocks_base.specs.Laws.{Uses}
use Rattle.tm_barrier.specs.Words.{meet, barrier}
use Rattle.tm_barrier.specs.Laws.{MeetUses, Meeting, Barred, HasMet, after_fence, after_return}
use Rattle.tm_barrier.specs.Course.{PassesBarrier}
use Rattle.tm_barrier.proofs.Meet.{meet_runs, fence_runs, return_runs}
use Rattle.tm_barrier.proofs.Worlds.{meeting_of}
use Rattle.tm_pass_text.specs.Words.{call}
use Rattle.tm_pass_way.specs.Logs.{left_in, read_in, reports, work_in}
use Rattle.tm_runs.specs.Phases.{phase_in, now_in, signals_in}
use Rattle.tm_pass_way.specs.Facts.{Fact, Told, Gathered, AreSet}
use Rattle.tm_pass_way.specs.Parts.{Hold, Ready, Same, Leads}
use Rattle.tm_pass_way.specs.Calm.{Clear, Steady, HopsTo, IsBelow, Recalls}
use Rattle.tm_pass_way.proofs.Calm.{phase-stays, now-stays, verdict-low, flag-low}
use Rattle.tm_plan_owned.proofs.Collected.{owned-above}
use Rattle.tm_runs.proofs.Ahead.{world-low}
use Rattle.tm_pass_way.proofs.Lift.{none-either, none-and}
use Rattle.tm_pass_way.proofs.Barrier.{Signals, barrier-fact, writes-none, flags-below}
use Rattle.tm_pass_way.proofs.Steady.{paces, steady-exit}
use Rattle.tm_pass_way.proofs.Hopping.{hop-part}
use Rattle.tm_pass_way.proofs.Joining.{same-then}
use Rattle.tm_pass_steps.specs.Sites.{BarrierSite, CallSite}
use Rattle.tm_pass_steps.specs.Meeting.{CallMeets, meet_cost}
use Rattle.tm_pass_steps.proofs.Barring.{passes as passes-of, phase-there, now-there, trail-same}
use Rattle.tm_pass_steps.proofs.Barring.{few-there, told-there, uses, low, set-one}
use Rattle.tm_pass_steps.proofs.Cells.{two-other, two-first, two-small, got-none, cells-apart}
use Rattle.tm_pass_steps.proofs.Cells.{memo-apart, area-high, few-phases}

module _ (p : Program) (formed : Formed p) (fit : MasksFit p.cases p.masks) (h : ℕ) (number : h < harts p) (limit : ℕ
    → ℕ) (entry : ℕ) (site : BarrierSite p h entry) (place link : ℕ) (from : CallSite p h entry place link) (q c o : ℕ)
    (ms : List Mark) (few : c ≤ case_count p) (before : q < last_phase p) (room : o + meet_cost (harts p) ≤ limit q)
    (front : IsFront (ms ++ Exit ∷ []) (whole_way p)) where
  abbrev exit : ℕ
  exit = exit_of p h

  abbrev n : ℕ
  n = harts p

  abbrev hi : ℕ
  hi = entry + 4 * length (meet h n)

  abbrev cell : ℕ
  cell = private_at h + 256

  few-hart : h < 16
  few-hart = low p formed fit h number limit entry site

  meeting : Meeting (world_of p h) h n cell
  meeting = meeting_of p h (formed-sizes formed) number

  place-low : place + 4 < 2 ^ 64
  place-low = world-low p h (formed-sizes formed) place (call from.far) from.code

  -- ---- entries outside streams that read below the windows

  left-one : (d r : ℕ) (e : Entry) (past : List Entry) → inside p h d e.pc ≡ false → left_in p h d r (e ∷ past)
      ≡ left_in p h d r past
  left-one d r e past i =
      ap (λ (b : Bool). or_else (left_in p h d r past) (if (phase_in exit past == r) && (b && not (inside p h d e.next))
      then Some e.regs else None)) i
      ∙ (ap (λ (x : Option Table). or_else (left_in p h d r past) x) (none-and (phase_in exit past == r) e.regs) ∙
      or_else-none
      (left_in p h d r past))

  read-one : (r b : ℕ) (e : Entry) (past : List Entry) → windows_base ≤ b → Uses IsBelow (Signals h) e.access
      → read_in p h r b (e ∷ past) ≡ read_in p h r b past
  read-one r b e past l u =
      ap (λ (x : Option ℕ). or_else (read_in p h r b past) (if phase_in exit past == r then x else None))
      (got-none (Signals h) e.access b l u)
      ∙ (ap (λ (x : Option ℕ). or_else (read_in p h r b past) x) (none-either (phase_in exit past == r)) ∙ or_else-none
      (read_in p h r b past))

  abbrev Bars : Entry → Type 0
  Bars = Does entry hi (MeetUses h n cell)

  uses-here : (x : Access) → MeetUses h n cell x → Uses IsBelow (Signals h) x
  uses-here = uses p formed fit h number limit entry site

  beyond : (d a : ℕ) → d < case_count p → entry ≤ a → inside p h d a ≡ false
  beyond d a l m = inside-false p h d a (inr (omega (arith, site.streams d l)))

  left-all : (d r : ℕ) → d < case_count p → (es base : List Entry) → Each Bars es → left_in p h d r (es ++ base)
      ≡ left_in p h d r base
  left-all d r l [] base each = refl
  left-all d r l (e ∷ es) base each = left-one d r e (es ++ base) (beyond d e.pc l each.0.from) ∙ left-all d r l es base
      each.1

  read-all : (r b : ℕ) → windows_base ≤ b → (es base : List Entry) → Each Bars es → read_in p h r b (es ++ base)
      ≡ read_in p h r b base
  read-all r b l [] base each = refl
  read-all r b l (e ∷ es) base each = read-one r b e (es ++ base) l (uses-here e.access each.0.access) ∙ read-all r b l
      es base each.1

  -- none of these reports
  mute : (d : ℕ) (e : Entry) → d < case_count p → Bars e → reports d h e ≡ false
  mute d e l b = let a = formed.program.cases.count in
      writes-none h (verdict_at d h) 8 e.access (flags-below h d h few-hart)
      (inl (verdict-low d h h (omega arith) few-hart)) (uses-here e.access b.access)

  judged-all : (d : ℕ) → (es base : List Entry) → any (reports d h) base ≡ true → any (reports d h) (es ++ base) ≡ true
  judged-all d [] base e = e
  judged-all d (x ∷ es) base e = or_right (reports d h x) (any (reports d h) (es ++ base)) (judged-all d es base e)

  unjudged-all : (d : ℕ) → d < case_count p → (es base : List Entry) → Each Bars es → any (reports d h) base ≡ false
      → any (reports d h) (es ++ base) ≡ false
  unjudged-all d l [] base each e = e
  unjudged-all d l (x ∷ es) base each e =
      ap₂ (λ (a b : Bool). a || b) (mute d x l each.0) (unjudged-all d l es base each.1 e)

  gathered-all : (es xs : List Entry) → Gathered p h xs → Gathered p h (es ++ xs)
  gathered-all [] xs g = g
  gathered-all (e ∷ es) xs g = λ k x l. or_right (reads_in (slice_index_or (owned p.cases h) k x) 8 e.access)
      (any (λ (t : Entry). reads_in (slice_index_or (owned p.cases h) k x) 8 t.access) (es ++ xs))
      (gathered-all es xs g k x l)

  -- ---- where the hart comes back

  link-off : link < exit
  link-off = omega (arith, from.before, site.halt, site.exit)

  link-start : (d : ℕ) → d < case_count p → (link < start_of p h d) ⊎ (end_of p h d < link)
  link-start d l = by (from.streams d l)
    where
      by : (link < start_of p h d) ⊎ (end_of p h d ≤ place) → (link < start_of p h d) ⊎ (end_of p h d < link)
      by (inl x) = inl x
      by (inr x) = inr (omega (arith, from.next))

  -- ---- from the barrier's first word on

  module _ (s : State) (back : get s.regs 1 ≡ link) (ready : Ready p h entry q c (o + 1) ms s)
      (told : Told p h limit s.log)
      (ended : IfSome (case_of_phase p q) (λ d. any (λ (e : Entry). e.next == end_of p h d) (now_in exit s.log) ≡ true))
      (set : IfSome (case_of_phase p (suc q)) (λ d. AreSet p h d (now_in exit s.log))) where
    abbrev hold : Hold p h entry q c (o + 1) ms s
    hold = ready.hold

    abbrev base : List Entry
    base = s.log

    abbrev End : State → Type 0
    End t = Hold p h link (suc q) c 0 (ms ++ Exit ∷ []) t × Same p h s t × (now_in exit t.log ≡ [])
        × Told p h limit t.log

    abbrev Tells : State → Type 0
    Tells t = Told p h limit t.log

    small : q + 1 < 2 ^ 64
    small = let k = few-phases p formed in omega arith

    runs : KeepsUntil (world_of p h) (Barred entry hi h n cell (q + 1) s) (HasMet entry hi h n cell (q + 1) s) s
    unfolding barrier
    runs =
        let code = at_front (support_at p h) entry (meet h n) (fence ∷ [])
        (at_front (support_at p h) entry (meet h n ++ (fence ∷ [])) (go_to 1 ∷ []) site.code) in
        let m : s.mem cell + 1 ≡ q + 1 = omega (arith, hold.exits) in
        let law = meet_runs h n (world_of p h) s cell meeting (omega (arith, hold.base))
        (omega (arith, small, hold.exits)) (subst (λ (a : ℕ). At (support_at p h) a (meet h n)) (sym hold.pc) code)
        in
        subst (λ (x : ℕ). KeepsUntil (world_of p h) (Barred entry hi h n cell x s) (HasMet entry hi h n cell x s) s) m
        (subst (λ (a : ℕ). KeepsUntil (world_of p h) (Barred a (a + 4 * length (meet h n)) h n cell (s.mem cell + 1) s)
        (HasMet a (a + 4 * length (meet h n)) h n cell (s.mem cell + 1) s) s) hold.pc law)

    so-far : (t : State) → Barred entry hi h n cell (q + 1) s t → Told p h limit t.log
    so-far t g = subst (Told p h limit) (sym g.log) (told-there p formed fit h number limit entry site q base hold.phase
        hold.silent before ended set g.entries (o + 1) g.each g.story g.work hold.few (omega arith) told)

    -- ---- from the last fence on

    module _ (u : State) (m : HasMet entry hi h n cell (q + 1) s u) where
      abbrev es : List Entry
      es = m.barred.entries

      abbrev last : Entry
      last = record { pc = u.pc; next = u.pc + 4; word = word_of fence; access = Quiet; regs = get u.regs }

      abbrev f : State
      f = after_fence u

      abbrev r : State
      r = after_return link f

      abbrev way-back : Entry
      way-back = record { pc = u.pc + 4; next = link; word = word_of (go_to 1); access = Quiet; regs = get r.regs }

      abbrev log0 : List Entry
      log0 = es ++ base

      here : u.pc + 4 ≡ exit
      here = omega (arith, m.pc, site.exit)

      off-exit : u.pc ≢ exit
      off-exit z = omega (arith, here)

      pass : PassesBarrier p h q base es
      pass = passes-of p formed fit h number limit entry site q base hold.phase hold.silent before ended set es
          told.story m.barred.each m.barred.story

      phase0 : phase_in exit log0 ≡ q
      phase0 = phase-there p formed fit h number limit entry site q base hold.phase hold.silent before ended set es
          m.barred.each

      now0 : now_in exit log0 ≡ es ++ now_in exit base
      now0 = now-there p formed fit h number limit entry site q base hold.phase hold.silent before ended set es
          m.barred.each

      told0 : Told p h limit log0
      told0 = subst (Told p h limit) m.barred.log (so-far u m.barred)

      few0 : work_in p h q log0 ≤ o + 1 + 7 + 2 * n
      few0 = few-there p formed fit h number limit entry site q base hold.phase hold.silent before ended set es (o + 1)
          m.barred.each m.barred.story m.barred.work hold.few

      fact1 : Fact p h log0 last
      fact1 = barrier-fact p formed fit h number log0 last (pass.fence last refl off-exit)
          tt (λ d l z. omega (arith, z, here, link-off, site.streams d l, site.some d l, m.pc))
          (λ z. omega (arith, z, here, m.pc, site.halt)) (λ z. absurd (off-exit z)) (λ z. no refl z)

      marks1 : arrivals p h u.pc (u.pc + 4) ≡ Exit ∷ []
      marks1 = arrivals-exit p h u.pc (u.pc + 4) (λ d l. quiet-off p h u.pc (u.pc + 4) d (site.some d l)
          (inr (omega (arith, site.streams d l, m.pc)))) here (λ z. omega (arith, z, m.pc, site.halt))

      way1 : trail (arrivals p h) (last ∷ log0) ≡ ms ++ Exit ∷ []
      way1 = ap₂ (λ (x y : List Mark). x ++ y) (trail-same p formed fit h number limit entry site q base hold.phase
          hold.silent before ended set es m.barred.each ∙ hold.way) marks1

      abbrev work1 : ℕ
      work1 = o + 1 + 7 + 2 * n

      paced1 : (work_in p h q (last ∷ log0) ≤ suc work1) × ((k : ℕ) → work_in p h k (last ∷ log0) ≤ limit k)
      paced1 = paces p formed fit h number limit q work1 log0 last phase0 few0 (omega arith) told0.pace

      told1 : Told p h limit (last ∷ log0)
      told1 = record {
        order = subst (λ (l : List Mark). IsFront l (whole_way p)) (sym way1) front;
        story = (fact1, told0.story);
        pace = paced1.1;
      }

      phase1 : phase_in exit (last ∷ log0) ≡ q
      phase1 = phase-stays p formed fit h number log0 last off-exit ∙ phase0

      now1 : now_in exit (last ∷ log0) ≡ last ∷ (es ++ now_in exit base)
      now1 = now-stays p formed fit h number log0 last off-exit ∙ ap (λ (l : List Entry). last ∷ l) now0

      gathered1 : IfSome (round_before p (phase_in exit (last ∷ log0))) (λ d. Gathered p h (now_in exit (last ∷ log0)))
      gathered1 =
          subst (λ (k : ℕ). IfSome (round_before p k) (λ d. Gathered p h (now_in exit (last ∷ log0)))) (sym phase1)
          (IfSome_then (round_before p q) ready.gathered (λ d g. subst (Gathered p h) (sym now1)
          (gathered-all (last ∷ es) (now_in exit base) g)))

      fact2 : Fact p h (last ∷ log0) way-back
      fact2 =
          barrier-fact p formed fit h number (last ∷ log0) way-back
          (pass.back way-back last refl refl off-exit m.signalled m.met)
          tt
          (λ d l z. by d l z (link-start d l)) (λ z. omega (arith, z, from.before)) (λ z. gathered1) (λ z. no refl z)
        where
          by : (d : ℕ) → d < case_count p → link ≡ start_of p h d → (link < start_of p h d) ⊎ (end_of p h d < link) → ⊥
          by d l z (inl x) = omega arith
          by d l z (inr x) = let k = site.some d l in omega arith

      marks2 : arrivals p h (u.pc + 4) link ≡ []
      marks2 = arrivals-none p h (u.pc + 4) link (λ d l. quiet-off p h (u.pc + 4) link d (site.some d l)
          (link-start d l)) (λ z. omega (arith, z, link-off)) (λ z. omega (arith, z, from.before))

      steady2 : Steady p h limit (suc q) c 0 (ms ++ Exit ∷ []) (way-back ∷ last ∷ log0)
          × (now_in exit (way-back ∷ last ∷ log0) ≡ [])
      steady2 =
          steady-exit p formed fit h number limit q c (suc work1) (ms ++ Exit ∷ []) (last ∷ log0) way-back here fact2
          marks2 (λ d l. refl) (omega arith) phase1 way1
          (λ d l. judged-all d (last ∷ es) base (hold.judged d l))
          (λ d l k. unjudged-all d k es base m.barred.each (hold.unjudged d l k)) paced1.0 told1

      log-is : r.log ≡ way-back ∷ last ∷ log0
      log-is = ap (λ (l : List Entry). way-back ∷ last ∷ l) m.barred.log

      not-fixed : (a b : ℕ) → is_fixed_dword p a ≡ true → is_fixed_dword p b ≡ false → a ≢ b
      not-fixed a b e g z = no g (ap (is_fixed_dword p) (sym z) ∙ e)

      mem-other : (a : ℕ) → a ≢ cell → a ≢ flag_at h → r.mem a ≡ s.mem a
      mem-other a x y = ap (λ (t : Table). t a) m.mem ∙ two-other s.mem cell (flag_at h) (q + 1) a x y

      high-other : (a : ℕ) → private_at h ≤ a → a ≢ cell → r.mem a ≡ s.mem a
      high-other a l x = mem-other a x (λ z. let g = flag-low h h few-hart in omega arith)

      held : Hold p h link (suc q) c 0 (ms ++ Exit ∷ []) r
      held =
          let b = steady2.0 in
          record {
            pc = refl;
            base = get_put_zero u.regs (f.pc + 4) 31 ∙
                (m.regs 31 (λ z. omega arith) (λ z. omega arith) (λ z. omega arith) ∙ hold.base);
            exits = ap (λ (t : Table). t cell) m.mem ∙
                (two-first s.mem cell (flag_at h) (q + 1) (cells-apart h few-hart) ∙ omega arith);
            fixed = λ a e. mem-other a (not-fixed a cell e meeting.free) (not-fixed a (flag_at h) e meeting.writable) ∙
                hold.fixed a e;
            regs = λ x. let e = get_put_zero u.regs (f.pc + 4) x in let k = m.fits hold.regs x in omega arith;
            mem = λ a e. subst (λ (v : ℕ). v < 2 ^ 64) (sym (ap (λ (t : Table). t a) m.mem))
                (two-small s.mem cell (flag_at h) (q + 1) a (hold.mem a e) small);
            phase = ap (phase_in exit) log-is ∙ b.phase;
            way = ap (trail (arrivals p h)) log-is ∙ b.way;
            silent = ap (λ (l : List Entry). any (signals_in h) (now_in exit l)) log-is ∙ b.silent;
            judged = λ d l. ap (any (reports d h)) log-is ∙ b.judged d l;
            unjudged = λ d l k. ap (any (reports d h)) log-is ∙ b.unjudged d l k;
            few = let e = ap (work_in p h (suc q)) log-is in let k = b.few in omega arith;
          }

      same : Same p h s r
      same = record {
        left = λ d k l. ap (left_in p h d k) log-is ∙
            (left-one d k way-back (last ∷ log0) (beyond d (u.pc + 4) l (omega (arith, m.pc))) ∙
            (left-one d k last log0 (beyond d u.pc l (omega (arith, m.pc))) ∙ left-all d k l es base m.barred.each));
        read = λ k j i l x.
            let b = slice_index (owned p.cases h) j + i in
            let high : windows_base ≤ b = let z = owned-above p h j 0 l in omega arith in
            ap (read_in p h k b) log-is ∙ (read-one k b way-back (last ∷ log0) high tt ∙
            (read-one k b last log0 high tt ∙ read-all k b high es base m.barred.each));
        memos = record {
          registers = λ i l. high-other (private_at h + 8 * i) (omega arith) (memo-apart h i l);
          counter = high-other (private_at h + 264) (omega arith) (λ z. omega arith);
          area = λ k i l x. let a = area-high h k i in
              high-other (save_at h k + 8 * i) (omega arith) (λ z. omega arith);
        };
      }

      end : End r
      end = (held, same, ap (now_in exit) log-is ∙ steady2.1, subst (Told p h limit) (sym log-is) steady2.0.told)

      returns : At (support_at p h) f.pc (go_to 1 ∷ []) → KeepsUntil (world_of p h) Tells End f
      returns code =
          keeps_after (takes_map (λ x e. subst Tells (sym e) end.3) (λ x e. e)
          (return_runs (world_of p h) f link code
          (m.regs 1 (λ z. omega arith) (λ z. omega arith) (λ z. omega arith) ∙ back) from.even
          (omega (arith, from.next, place-low))))
          (λ x e. keeps_now (subst End (sym e) end))

      pub from-fence : At (support_at p h) u.pc (fence ∷ []) → At (support_at p h) f.pc (go_to 1 ∷ [])
          → KeepsUntil (world_of p h) Tells End u
      from-fence code next =
          keeps_after (takes_map (λ x e. subst Tells (sym e)
          (subst (Told p h limit) (ap (λ (l : List Entry). last ∷ l) (sym m.barred.log)) told1)) (λ x e. e)
          (fence_runs (world_of p h) u code))
          (λ x e. subst (KeepsUntil (world_of p h) Tells End) (sym e) (returns next))

    pub barrier-part : KeepsUntil (world_of p h) Tells End s
    unfolding barrier
    barrier-part =
        let body = meet h n in
        let code = at_front (support_at p h) entry (body ++ (fence ∷ [])) (go_to 1 ∷ []) site.code in
        let long : length (body ++ (fence ∷ [])) ≡ length body + 1 = length-append body (fence ∷ []) in
        keeps_then (keeps_map (λ t g. so-far t g) (λ t g. g) runs) (λ u m.
        from-fence u m (at_next (support_at p h) entry u.pc body (fence ∷ []) (length body) refl m.pc code)
        (at_next (support_at p h) entry (u.pc + 4) (body ++ (fence ∷ [])) (go_to 1 ∷ []) (length body + 1) long
        (omega (arith, m.pc)) site.code))

  -- ---- the call

  clear : Clear p h place place
  clear = record {
    streams = λ d l. by d (from.streams d l);
    some = site.some;
    exit = inl (omega (arith, link-off, from.next));
    halt = inl (omega (arith, from.next, from.before));
  }
    where
      by : (d : ℕ) → (link < start_of p h d) ⊎ (end_of p h d ≤ place) → (place < start_of p h d)
          ⊎ (end_of p h d ≤ place)
      by d (inl x) = inl (omega (arith, from.next))
      by d (inr x) = inr x

  place-off : place ≢ exit
  place-off z = omega (arith, link-off, from.next)

  pub call-part : (s : State) → Ready p h place q c o ms s
      → IfSome (case_of_phase p q) (λ d. any (λ (e : Entry). e.next == end_of p h d) (now_in exit s.log) ≡ true)
      → IfSome (case_of_phase p (suc q)) (λ d. AreSet p h d (now_in exit s.log)) → Told p h limit s.log
      → Leads p h limit s (λ t. Hold p h link (suc q) c 0 (ms ++ Exit ∷ []) t × Same p h s t × (now_in exit t.log ≡ [])
      × Told p h limit t.log)
  call-part s ready ended set told =
      keeps_then (hop-part p formed fit h number limit place place entry clear place-off (omega arith) clear.streams
      (λ d l z. omega (arith, z, site.streams d l, site.some d l)) (λ z. omega (arith, z, site.halt)) marks q c o 1
      ms few (omega arith) {Q = λ t. t ≡ there} s ready told takes) (λ t g.
      subst (KeepsUntil (world_of p h) (λ x. Told p h limit x.log) (λ x. Hold p h link (suc q) c 0 (ms ++ Exit ∷ []) x
      × Same p h s x × (now_in exit x.log ≡ []) × Told p h limit x.log)) (sym g.0)
      (keeps_map (λ x y. y) (λ x y. (
        y.0,
        same-then (same (subst (λ (x : State). Recalls p h s x) g.0 g.2)) y.1,
        y.2,
        y.3,
      ))
      (barrier-part there link-there (subst (λ (x : State). Ready p h entry q c (o + 1) ms x) g.0 g.1)
      (subst (λ (x : State). Told p h limit x.log) g.0 g.3) ended-there set-there)))
    where
      there : State
      there = jumped (call from.far) entry s

      jal : Entry
      jal = record { pc = s.pc; next = entry; word = word_of (call from.far); access = Quiet; regs = get there.regs }

      marks : arrivals p h place entry ≡ []
      marks = arrivals-none p h place entry (λ d l. quiet-off p h place entry d (site.some d l)
          (inr (site.streams d l))) (λ z. omega (arith, z, site.exit)) (λ z. omega (arith, z, site.halt))

      hops : HopsTo p h place place entry s there
      hops = record {
        entries = [];
        last = jal;
        log = refl;
        each = tt;
        from = ready.hold.pc;
        to = refl;
        access = tt;
        leaves = record { pc = refl; base = refl; exits = refl; fixed = λ a e. refl };
      }

      takes : Takes (world_of p h) (λ t. Unit {0}) (λ t. HopsTo p h place place entry s t × (t ≡ there)) 1 s
      takes = step_jal {w = world_of p h} entry refl (ap (support_at p h) ready.hold.pc ∙ from.code)
          (omega (arith, ready.hold.pc, from.reach)) tt (Now (hops, refl))

      link-there : get there.regs 1 ≡ link
      link-there = omega (arith, ready.hold.pc, from.next)

      now : now_in exit (jal ∷ s.log) ≡ jal ∷ now_in exit s.log
      now = now-stays p formed fit h number s.log jal (λ z. place-off (sym ready.hold.pc ∙ z))

      ended-there : IfSome (case_of_phase p q) (λ d.
          any (λ (e : Entry). e.next == end_of p h d) (now_in exit (jal ∷ s.log)) ≡ true)
      ended-there =
          IfSome_then (case_of_phase p q) ended (λ d g. ap (any (λ (e : Entry). e.next == end_of p h d)) now
          ∙ or_right (jal.next
          == end_of p h d) (any (λ (e : Entry). e.next == end_of p h d) (now_in exit s.log)) g)

      set-there : IfSome (case_of_phase p (suc q)) (λ d. AreSet p h d (now_in exit (jal ∷ s.log)))
      set-there = IfSome_then (case_of_phase p (suc q)) set (λ d g. subst (AreSet p h d) (sym now)
          (set-one p h d jal (now_in exit s.log) few-hart tt g))

      same : Recalls p h s there → Same p h s there
      same a = record {
        left = a.left;
        read = a.read;
        memos = record { registers = λ i l. refl; counter = refl; area = λ k i l m. refl };
      }

pub call-meets : (p : Program) → CallMeets p
call-meets p formed fit h number entry place link site from limit q c o ms s few before room front ready ended set
    told =
    call-part p formed fit h number limit entry site place link from q c o ms few before room front s ready ended set
    told
