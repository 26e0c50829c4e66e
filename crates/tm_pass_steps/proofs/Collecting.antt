-- The words that collect do so as the hart's way asks for it.
use Rattle.std.proofs.Common.{◌≡◌, ◌≢◌, ◌⊎◌, inl, inr, ℕ, ◌+◌, ◌*◌, ◌%◌, ◌^◌, ◌<◌, ◌≤◌, Bool, true, false}
use Rattle.std.proofs.Common.{◌&&◌, ◌||◌, eq-eqb, ne_eqb, nat_lt, List, [], ◌∷◌, ◌++◌, length, Option, None}
use Rattle.std.proofs.Common.{Some, refl, sym, ap, ◌∙◌, subst, arith, append-nil, append_assoc}
use Rattle.std.specs.Prelude.{slice_index, slice_index_or, IsTrue, IfSome, if◌then◌else◌}
use Rattle.std.proofs.lemmas.Bool.Decides.{nat_tests}
use Rattle.std.proofs.lemmas.Grind.{get_or_default_zero}
use Rattle.std.proofs.lemmas.List.{append_cancel_right}
use Rattle.tm_table.specs.declared.state.Access.{Access}
use Rattle.tm_table.specs.declared.state.Access.TheVariants.{Quiet, Read, Write}
use Rattle.tm_plan_cases.specs.declared.program.Program.{Program}
use Rattle.tm_plan_map.specs.Map.{private_at, private_size, save_at, guest_base, guest_end, verdict_at, windows_base}
use Rattle.tm_plan_cases.specs.Collected.{owned}
use Rattle.tm_base.specs.Lists.{any}
use Rattle.tm_plan_cases.specs.Shaped.{MasksFit}
use Rattle.tm_world.specs.Lists.{or_else}
use Rattle.tm_world.specs.Place.{harts, case_count, passes, exit_of, byte_of}
use Rattle.tm_world.specs.Run.{got}
use Rattle.tm_world.specs.Kinds.{writes_flag}
use Rattle.tm_world.specs.Marks.{Mark}
use Rattle.tm_world.specs.Course.{round_before, reads_in, writes_in}
use Rattle.tm_world.specs.Verdict.{saved}
use Rattle.tm_runs.specs.Machine.{State, Entry, Table, MayAccess}
use Rattle.tm_runs.specs.Runs.{Takes, Within, Does, Each, Since, At}
use Rattle.tm_runs.specs.World.{world_of, support_at, is_fixed_dword}
use Rattle.tm_runs.proofs.Compose.{keeps_map, takes_map, takes_then, takes_more, newest_map}
use Rattle.tm_runs.proofs.Places.{fixed-place, guest-true}
use Rattle.tm_runs.proofs.Worlds.{private-dword, own-private}
use Rattle.tm_legal.proofs.Formed.{formed-sizes}
use Rattle.tm_legal.proofs.Phases.{or-assoc}
use Rattle.tm_legal.specs.Tame.{Formed}
use Rattle.tm_blocks_base.specs.Laws.{Uses, with_access, accesses}
use Rattle.tm_blocks_base.proofs.Lists.{accesses-append}
use Rattle.tm_blocks_move.specs.Laws.{Move, Moves, Among, moved_accesses}
use Rattle.tm_blocks_move.specs.Lines.{collect_all, collect_moves}
use Rattle.tm_plan_owned.specs.Lines.{line_dwords}
use Rattle.tm_blocks_move.specs.Runs.{UsesMoves, HasDone, all_collected}
use Rattle.tm_blocks_move.proofs.Collecting.{collect_all_runs}
use Rattle.tm_blocks_move.proofs.Once.{owned-rises}
use Rattle.tm_blocks_move.proofs.Places.{fits_in}
use Rattle.tm_blocks_move.proofs.Pointwise.{moved-other, collected-at}
use Rattle.tm_pass_text.specs.Words.{aim}
use Rattle.tm_pass_way.specs.Logs.{left_in, read_in, reports}
use Rattle.tm_runs.specs.Phases.{phase_in, steps_in, now_in, signals_in}
use Rattle.tm_pass_way.specs.Facts.{Fact, Told, Gathered}
use Rattle.tm_pass_way.specs.Parts.{Hold, Ready, CollectsTo, Leads}
use Rattle.tm_pass_way.specs.Calm.{Clear, Steady, LeavesTo, IsBelow, IsOwn}
use Rattle.tm_pass_way.proofs.Calm.{IsCalm, calm-fact, not-reports, not-signals}
use Rattle.tm_pass_way.proofs.Fronts.{saves-few}
use Rattle.tm_pass_way.proofs.Gathered.{read-any}
use Rattle.tm_pass_way.proofs.Notes.{read-none}
use Rattle.tm_pass_way.proofs.Shared.{collect-fact}
use Rattle.tm_pass_way.proofs.Waiting.{phase-all, now-all}
use Rattle.tm_pass_steps.specs.Gathering.{PassIsCollected, collect_cost}
use Rattle.tm_pass_steps.proofs.Aim.{Aimed, aim-runs}
use Rattle.tm_pass_steps.proofs.Mine.{Mine, mine}
use Rattle.tm_pass_steps.proofs.Mixed.{off, halts, starts, one-more, left-through, far, start-steady, mixed-part}
use Rattle.tm_pass_steps.proofs.Mixed.{roomier}
use Rattle.tm_pass_steps.proofs.Setting.{all-among}
use Rattle.tm_pass_steps.proofs.Sources.{Rises, rises-row, first_access, first-append}
use Rattle.tm_pass_steps.proofs.Sources.{got-off, first-is, value-is, AreFirst, first-both, collect-first}
use Rattle.tm_pass_steps.proofs.Gathered.{placed, among-row, index-row, index-behind}
use Rattle.tm_pass_steps.proofs.Gathered.{length-row, all-moves, any-access, first-tail, reads-self, widen}

module _ (p : Program) (formed : Formed p) (fit : MasksFit p.cases p.masks) (h : ℕ) (number : h < harts p) (lo : ℕ)
    (code-aim : At (support_at p h) lo aim) (code : At (support_at p h) (lo + 24) (collect_all p.cases h))
    (clear : Clear p h lo (lo + 24 + 4 * length (collect_all p.cases h)))
    (limit : ℕ → ℕ) (q d k : ℕ) (ms : List Mark) (pass : k < passes p) (room : collect_cost (length (owned p.cases h))
    ≤ limit q) where
  abbrev exit : ℕ
  exit = exit_of p h

  abbrev hi : ℕ
  hi = lo + 24 + 4 * length (collect_all p.cases h)

  abbrev n : ℕ
  n = collect_cost (length (owned p.cases h))

  abbrev dwords : List ℕ
  dwords = owned p.cases h

  abbrev b : ℕ
  b = private_at h

  few : h < 16
  few = let s = (formed-sizes formed).harts in omega arith

  few-pass : k < 8
  few-pass = let s = formed.program.cases.passes in omega arith

  pub save : ℕ
  save = save_at h k

  save-is : save ≡ 8192 * k + b + 4096
  unfolding save save_at
  save-is = omega arith

  pub sources : List ℕ
  sources = line_dwords b 30 ++ dwords

  sources-long : length sources ≡ 30 + length dwords
  unfolding sources
  sources-long = length-row 30 b 0 dwords

  source-low : (i : ℕ) → i < 30 → slice_index sources i ≡ b + 8 * i
  unfolding sources
  source-low i l = index-row 30 b 0 i dwords l ∙ omega arith

  source-high : (j : ℕ) → slice_index sources (30 + j) ≡ slice_index dwords j
  unfolding sources
  source-high j = index-behind 30 b 0 j dwords

  moves-are : all_collected p.cases h b (save_at h k) ≡ collect_moves sources save
  unfolding sources save
  moves-are = all-moves 30 b (save_at h k) dwords

  b-even : b % 8 ≡ 0
  unfolding private_at
  b-even = omega arith

  b-few : b < 2 ^ 62
  unfolding private_at
  b-few = omega arith

  b-guest : (i : ℕ) → i + 8 ≤ 0x20000 → (b + i + 8 ≤ windows_base) × (0x80C00000 ≤ b + i) × (b + i + 8 ≤ 0x81000000)
  unfolding private_at windows_base
  b-guest i l = (omega arith, omega arith, omega arith)

  sources-rise : Rises b sources
  unfolding sources
  sources-rise = rises-row 30 b 0 b windows_base dwords b-even (omega arith) (let z = (b-guest 240 (omega arith)).0 in
      omega arith) (owned-rises p.cases h)

  source-of : (a : ℕ) → Among a sources → IsBelow a ⊎ Among a dwords
  unfolding sources
  source-of a i = by (among-row 30 b 0 a dwords i)
    where
      by : (a + 8 ≤ b + 8 * (0 + 30)) ⊎ Among a dwords → IsBelow a ⊎ Among a dwords
      by (inl l) = inl (let z = (b-guest 240 (omega arith)).0 in omega arith)
      by (inr x) = inr x

  mine-of : (a : ℕ) → Among a dwords → Mine p.cases h a
  mine-of = all-among (Mine p.cases h) dwords (mine p.cases h)

  short : length dwords ≤ 768
  short = let s = saves-few p h in omega arith

  in-area : (a : ℕ) → save ≤ a → a + 8 ≤ save + 8 * length sources → IsOwn h a
  unfolding private_size
  in-area a l m = let s = save-is in let c = sources-long in let e = short in (omega arith, omega arith)

  abbrev Takes-in : Access → Type 0
  Takes-in = Uses (λ a. IsBelow a ⊎ Among a dwords) (IsOwn h)

  abbrev Acts : Entry → Type 0
  Acts = Does lo hi Takes-in

  uses-of : (x : Access) → UsesMoves (collect_moves sources save) x → Takes-in x
  uses-of Quiet u = tt
  uses-of (Read a width v) u = let r = placed sources save u.1.0 u.1.1 in
      (u.0, subst (λ (y : ℕ). IsBelow y ⊎ Among y dwords) u.1.2 (source-of u.1.0.0 r.0))
  uses-of (Write a width v) u = let r = placed sources save u.1.0 u.1.1 in
      (u.0, subst (IsOwn h) u.1.2 (in-area u.1.0.1 r.1 r.2))

  own-cell : IsTrue ((world_of p h).own (b + 264))
  unfolding private_size
  own-cell = own-private p h (b + 264) (private-dword h (b + 264) (omega arith) (omega arith))

  may-cell : MayAccess (world_of p h) (b + 264)
  unfolding guest_base guest_end
  may-cell = (
    let e = b-even in omega arith,
    let g = b-guest 264 (omega arith) in
        guest-true (b + 264) (omega (arith, g.1)) (omega (arith, g.2)),
  )

  save-same : save ≡ save_at h k
  unfolding save
  save-same = refl

  save-few : save_at h k < 2 ^ 63
  save-few = let e = save-is in let s = save-same in let z = b-few in let f = few-pass in omega arith

  -- ---- each entry

  still : (e : Entry) → Takes-in e.access → signals_in h e ≡ false
  still e u = by e.access refl u
    where
      by : (x : Access) → e.access ≡ x → Takes-in x → signals_in h e ≡ false
      by Quiet f v = ap (writes_flag h) f
      by (Read a w v) f u = ap (writes_flag h) f
      by (Write a w v) f u = not-signals p formed fit h number e (subst (IsCalm h) (sym f) u)

  mute : (x : ℕ) (e : Entry) → x < case_count p → Takes-in e.access → reports x h e ≡ false
  mute x e l u = by e.access refl u
    where
      by : (y : Access) → e.access ≡ y → Takes-in y → reports x h e ≡ false
      by Quiet f v = not-reports p formed fit h number x h e l number (subst (IsCalm h) (sym f) tt)
      by (Write a w v) f u = not-reports p formed fit h number x h e l number (subst (IsCalm h) (sym f) u)
      by (Read a w v) f u = ap (writes_in (verdict_at x h) 8) f

  fact : (es base : List Entry) (e : Entry) → Acts e → now_in exit (es ++ base) ≡ es
      → any (signals_in h) (now_in exit (es ++ base)) ≡ false → AreFirst dwords [] (accesses (e ∷ es))
      → Fact p h (es ++ base) e
  fact es base e a now silent first = by e.access refl a.access first
    where
      calm : IsCalm h e.access → Fact p h (es ++ base) e
      calm u =
          calm-fact p formed fit h number (es ++ base) e
          (record {
            from = off p formed fit h number limit lo hi clear Takes-in e a;
            start = starts p formed fit h number limit lo hi clear Takes-in e a;
            halt =
                halts p formed fit h number limit lo hi clear Takes-in e a;
            access = u;
          }) silent

      collects : (x v : ℕ) → e.access ≡ Read x 8 v → Among x dwords → AreFirst dwords [] (Read x 8 v ∷ accesses es)
          → Fact p h (es ++ base) e
      collects x v f i first =
          collect-fact p formed fit h number (es ++ base) e x v
          (record {
            from = off p formed fit h number limit lo hi clear Takes-in e a;
            start = starts p formed fit h number limit lo hi clear Takes-in e a;
            halt =
                halts p formed fit h number limit lo hi clear Takes-in e a;
          })
          f (mine-of x i).even (ap (any (λ (t : Entry). reads_in x 8 t.access)) now ∙
          (any-access x es ∙ (ap (any (reads_in x 8)) (sym (append-nil (accesses es))) ∙ first.0 x i
          (reads-self x v)))) silent

      by : (y : Access) → e.access ≡ y → Takes-in y → AreFirst dwords [] (with_access y (accesses es))
          → Fact p h (es ++ base) e
      by Quiet f u g = calm (subst (IsCalm h) (sym f) tt)
      by (Write x w v) f u g = calm (subst (IsCalm h) (sym f) u)
      by (Read x w v) f u g = by-read u.1
        where
          by-read : IsBelow x ⊎ Among x dwords → Fact p h (es ++ base) e
          by-read (inl l) = calm (subst (IsCalm h) (sym f) (u.0, l))
          by-read (inr i) = collects x v (f ∙ ap (λ (z : ℕ). Read x z v) u.0) i
              (subst (λ (z : ℕ). AreFirst dwords [] (Read x z v ∷ accesses es)) u.0 g)

  -- all entries so far
  steady-all : (es base : List Entry) → Each Acts es → length es ≤ n → phase_in exit base ≡ q → now_in exit base ≡ []
      → AreFirst dwords [] (accesses es) → Steady p h limit q d 0 ms base
      → Steady p h limit q d (length es) ms (es ++ base)
  steady-all [] base each l phase now first s = s
  steady-all (e ∷ es) base each l phase now first s =
      let r = steady-all es base each.1 (omega arith) phase now (first-tail dwords e es first) s in
      let here : now_in exit (es ++ base) ≡ es =
      now-all p formed fit h number q base phase es (far p formed fit h number limit lo hi clear Takes-in es each.1)
      ∙ (ap (λ (l : List Entry). es ++ l) now ∙ append-nil es) in
      one-more p formed fit h number limit lo hi clear Takes-in q d (length es) ms (es ++ base) e each.0
      (fact es base e each.0 here r.silent first) (still e each.0.access) (λ x m. mute x e m each.0.access)
      (omega arith) r

  -- ---- what is read

  abbrev Read-off : ℕ → List Entry → Type 0
  Read-off r base = (es : List Entry) → Each Acts es → (phase_in exit base ≡ q) → (x : ℕ) → r ≢ q
      → read_in p h r x (es ++ base) ≡ read_in p h r x base

  or-none : (o : Option ℕ) → or_else o None ≡ o
  or-none None = refl
  or-none (Some x) = refl

  other-phase : (r : ℕ) (base : List Entry) → Read-off r base
  other-phase r base [] each phase x ne = refl
  other-phase r base (e ∷ es) each phase x ne =
      ap (λ (t : Bool). or_else (read_in p h r x (es ++ base)) (if t then got e.access x else None))
      (ne_eqb (phase_in exit (es ++ base)) r (λ z.
      ne (sym z ∙ phase-all p formed fit h number q base phase es
      (far p formed fit h number limit lo hi clear Takes-in es each.1))))
      ∙ (or-none (read_in p h r x (es ++ base)) ∙ other-phase r base es each.1 phase x ne)

  first-with : (x : ℕ) (a : Access) (xs : List Access) → first_access x (with_access a xs)
      ≡ or_else (first_access x xs) (got a x)
  first-with x Quiet xs = sym (or-none (first_access x xs))
  first-with x (Read y w v) xs = refl
  first-with x (Write y w v) xs = refl

  this-phase : (base es : List Entry) → Each Acts es → phase_in exit base ≡ q → (x : ℕ) → read_in p h q x (es ++ base)
      ≡ or_else (read_in p h q x base) (first_access x (accesses es))
  this-phase base [] each phase x = sym (or-none (read_in p h q x base))
  this-phase base (e ∷ es) each phase x =
      ap (λ (t : Bool). or_else (read_in p h q x (es ++ base)) (if t then got e.access x else None))
      (eq-eqb (phase_in exit (es ++ base)) q (phase-all p formed fit h number q base phase es
      (far p formed fit h number limit lo hi clear Takes-in es each.1)))
      ∙ (ap (λ (o : Option ℕ). or_else o (got e.access x)) (this-phase base es each.1 phase x)
      ∙ (or-assoc (read_in p h q x base) (first_access x (accesses es)) (got e.access x) ∙ ap
      (or_else (read_in p h q x base)) (sym (first-with x e.access (accesses es)))))

  -- ---- what is left

  module _ (s u t : State) (hold : Hold p h lo q d 0 ms s) (counter : s.mem (private_at h + 264)
      ≡ k) (now : now_in exit s.log ≡ []) (told : Told p h limit s.log)
      (aimed : Aimed b k s u) (done : HasDone (world_of p h) (collect_all p.cases h) (collect_moves sources save) u t)
    where
      abbrev vs : List ℕ
      vs = done.moved.values

      abbrev made : List Access
      made = moved_accesses (collect_moves sources save) vs

      moves-of : Moves (world_of p h) u.mem (collect_moves sources save) vs
      moves-of = done.moved.moves

      mem-other : (a : ℕ) → (a < save) ⊎ (save + 8 * length sources ≤ a) → t.mem a ≡ s.mem a
      mem-other a l =
          ap (λ (f : Table). f a) done.moved.mem
          ∙ (moved-other (world_of p h) (collect_moves sources save) vs u.mem a moves-of
          (λ m i z. by m l (placed sources save m i) z) ∙ ap (λ (f : Table). f a) aimed.mem)
        where
          by : (m : Move) → (a < save) ⊎ (save + 8 * length sources ≤ a) → Among m.0 sources × (save ≤ m.1)
              × (m.1 + 8 ≤ save + 8 * length sources) → a ≡ m.1 → ⊥
          by m (inl l) r z = let x = r.1 in omega arith
          by m (inr l) r z = let x = r.2 in omega arith

      low-other : (i : ℕ) → i < 0x1000 → t.mem (b + i) ≡ s.mem (b + i)
      low-other i l = mem-other (b + i) (inl (let e = save-is in omega arith))

      fixed-other : (a : ℕ) → is_fixed_dword p a ≡ true → t.mem a ≡ s.mem a
      fixed-other a e = mem-other a (inl (let f = fixed-place p a (formed-sizes formed) e in
          let z = (b-guest 0 (omega arith)).1 in let g = save-is in omega arith))

      leaves : LeavesTo p h hi s t
      leaves = record {
        pc = done.pc ∙ omega (arith, aimed.pc, hold.pc);
        base = done.moved.regs 31 (λ z. omega arith) (λ z. omega arith) (λ z. omega arith) (λ z. omega arith)
            ∙ aimed.regs
            31 (λ z. omega arith) (λ z. omega arith);
        exits = low-other 256 (omega arith);
        fixed = fixed-other;
      }

      saved-at : (j : ℕ) → j < 30 + length dwords → t.mem (save + 8 * j) ≡ slice_index vs j
      saved-at j l = ap (λ (f : Table). f (save + 8 * j)) done.moved.mem ∙ collected-at (world_of p h) sources vs save
          u.mem moves-of j (let e = sources-long in omega arith)

      own-dword : (i : ℕ) → i < 30 → IsTrue ((world_of p h).own (b + 8 * i))
      unfolding private_size
      own-dword i l = own-private p h (b + 8 * i) (private-dword h (b + 8 * i) (omega arith) (omega arith))

      dword-is : (i : ℕ) → i < 30 → t.mem (save + 8 * i) ≡ s.mem (b + 8 * i)
      dword-is i l =
          let e = source-low i l in
          saved-at i (omega arith)
          ∙ (value-is (world_of p h) sources vs save u.mem moves-of i (let z = sources-long in
          omega arith) (subst (λ (a : ℕ). IsTrue ((world_of p h).own a)) (sym e) (own-dword i l)) (let z = save-is in
          omega arith)
          ∙ (ap u.mem e ∙ ap (λ (f : Table). f (b + 8 * i)) aimed.mem))

      area-is : (j i : ℕ) → j < k → i < saved p h → t.mem (save_at h j + 8 * i) ≡ s.mem (save_at h j + 8 * i)
      unfolding save_at
      area-is j i l m = mem-other (b + 0x1000 + 0x2000 * j + 8 * i) (inl (let z = saves-few p h in let e = save-is in
          omega arith))

      module _ (since : Since Acts s t) where
        abbrev es : List Entry
        es = since.entries

        own-accesses : accesses es ≡ made ++ (Read (b + 264) 8 aimed.value ∷ [])
        own-accesses =
            append_cancel_right (accesses es) (made ++ (Read (b + 264) 8 aimed.value ∷ [])) (accesses s.log)
            (sym (accesses-append es s.log) ∙ (ap accesses (sym since.log) ∙
            (done.moved.accesses ∙ (ap (λ (l : List Access). made ++ l) aimed.accesses ∙ sym
            (append_assoc made (Read (b + 264) 8 aimed.value ∷ []) (accesses s.log))))))

        off-cell : (a : ℕ) → Among a dwords → any (reads_in a 8) (Read (b + 264) 8 aimed.value ∷ []) ≡ false
        off-cell a i = let m = (mine-of a i).low in let z = (b-guest 264 (omega arith)).0 in
            let e : (nat_lt (b + 264) (a + 8) && nat_lt a (b + 264 + 8)) ≡ false = grind (arith, nat_tests) in
            ap (λ (x : Bool). x || false) e

        firsts : AreFirst dwords [] (accesses es)
        firsts =
            subst (AreFirst dwords []) (sym own-accesses)
            (first-both dwords [] made (Read (b + 264) 8 aimed.value ∷ [])
            (collect-first (world_of p h) dwords (λ a i. (mine-of a i).even) sources vs b save u.mem
            (Read (b + 264) 8 aimed.value ∷ []) moves-of sources-rise (λ a i l. off-cell a i)) ((λ a i e. refl), tt))

        steady : length es ≤ n → Steady p h limit q d n ms t.log
        steady short =
            subst (Steady p h limit q d n ms) (sym since.log)
            (roomier p formed fit h number limit lo hi clear Takes-in q d (length es) n ms (es ++ s.log) short
            (steady-all es s.log since.each short hold.phase now firsts
            (start-steady p formed fit h number limit lo hi clear Takes-in hold told)))

        first-of : (j i : ℕ) → j < length dwords → i < 8 → first_access (slice_index dwords j + i) (accesses es)
            ≡ Some (byte_of (slice_index vs (30 + j)) i)
        first-of j i l m =
            let x = slice_index dwords j + i in
            let low : windows_base ≤ x = let z = (mine p.cases h j 0 l).low in omega arith in
            ap (first_access x) own-accesses
            ∙ (first-append x made (Read (b + 264) 8 aimed.value ∷ [])
            ∙ (ap (λ (o : Option ℕ). or_else (or_else None o) (first_access x made))
            (got-off (b + 264) aimed.value x (inr (let z = (b-guest 264 (omega arith)).0 in omega arith)))
            ∙ (ap (λ (y : ℕ). first_access (y + i) made) (sym (source-high j))
            ∙ first-is (world_of p h) sources vs b save u.mem moves-of sources-rise (30 + j) i (let e = sources-long in
            omega arith) m)))

        collects : CollectsTo p h k q s t
        unfolding save
        collects = record {
          left = λ x r l. ap (left_in p h x r) since.log
              ∙ left-through p formed fit h number limit lo hi clear Takes-in x
              r l es s.log since.each;
          others = λ r x ne. ap (read_in p h r x) since.log ∙ other-phase r s.log es since.each hold.phase x ne;
          read = λ j i l m.
              let x = slice_index dwords j + i in
              ap (read_in p h q x) since.log
              ∙ (this-phase s.log es since.each hold.phase x
              ∙ ap (or_else (read_in p h q x s.log))
              (first-of j i l m ∙ ap (λ (v : ℕ). Some (byte_of v i)) (sym (saved-at (30 + j) (omega arith)))));
          dwords = dword-is;
          area = area-is;
          counter = low-other 264 (omega arith);
        }

        gathered : Gathered p h (now_in exit t.log)
        gathered j x l =
            let e : slice_index_or dwords j x ≡ slice_index dwords j = get_or_default_zero dwords j x l in
            let a = slice_index dwords j in
            let none : read_in p h q (a + 0) s.log ≡ None =
            read-none p h q (a + 0) s.log (sym (ap (λ (r : ℕ). steps_in exit r s.log) hold.phase) ∙ now) in
            let value = byte_of (t.mem (save_at h k + 8 * (30 + j))) 0 in
            let plain : a ≡ a + 0 = omega arith in
            let has : read_in p h q a t.log ≡ Some value =
            ap (λ (y : ℕ). read_in p h q y t.log) plain ∙
            (collects.read j 0 l (omega arith) ∙ ap (λ (o : Option ℕ). or_else o (Some value)) none) in
            let phase : phase_in exit t.log ≡ q = ap (phase_in exit) since.log ∙ phase-all p formed fit h number q s.log
            hold.phase es (far p formed fit h number limit lo hi clear Takes-in es since.each) in
            subst (λ (y : ℕ). any (λ (f : Entry). reads_in y 8 f.access) (now_in exit t.log) ≡ true) (sym e)
            (subst (λ (r : ℕ). any (λ (f : Entry). reads_in a 8 f.access) (steps_in exit r t.log)
            ≡ true) (sym phase) (read-any p h q a value t.log has))

  some-all : {P : Type 0} (o : Option ℕ) → P → IfSome o (λ x. P)
  some-all None g = tt
  some-all (Some x) g = g

  -- the aim, and collecting
  pub record Behind (s t : State) : Type 0 where
    pub mid : State
    pub aimed : Aimed b k s mid
    pub done : HasDone (world_of p h) (collect_all p.cases h) (collect_moves sources save) mid t

  pub collect-part : (s : State) → Hold p h lo q d 0 ms s → s.mem (private_at h + 264) ≡ k → now_in exit s.log ≡ []
      → Told p h limit s.log
      → Leads p h limit s (λ t. Ready p h hi q d n ms t × CollectsTo p h k q s t × Told p h limit t.log)
  collect-part s hold counter now told =
      keeps_map (λ t g. g) (λ t g. (
        subst (λ (x : ℕ). Ready p h hi q d x ms t) plain g.2,
        collects s g.0.mid t hold counter now told g.0.aimed g.0.done g.1,
        g.3,
      ))
      (mixed-part p formed fit h number limit lo hi clear Takes-in {Q = Behind s} {n = n} q d 0 hi ms s hold runs
      (λ t g since short. (
        subst (λ (x : ℕ). Steady p h limit q d x ms t.log) (sym plain)
            (steady s g.mid t hold counter now told g.aimed g.done since short),
        some-all (round_before p q) (gathered s g.mid t hold counter now told g.aimed g.done since),
      ))
      (λ t g. leaves s g.mid t hold counter now told g.aimed g.done))
    where
      plain : 0 + n ≡ n
      plain = omega arith

      aims : Takes (world_of p h) (Within lo hi Takes-in) (Aimed b k s) 6 s
      aims =
          aim-runs (world_of p h) s b k lo hi (λ a. IsBelow a ⊎ Among a dwords) (IsOwn h) hold.base (let z = b-few in
          omega arith) counter few-pass own-cell may-cell (inl ((b-guest 264 (omega arith)).0)) (sym hold.pc)
          (omega (arith, hold.pc))
          (subst (λ (a : ℕ). At (support_at p h) a aim) (sym hold.pc) code-aim)

      collecting : (u : State) → Aimed b k s u → Takes (world_of p h) (Within lo hi Takes-in) (Behind s)
          (97 + 4 * length dwords) u
      collecting u a =
          let pc : u.pc ≡ lo + 24 = omega (arith, a.pc, hold.pc) in
          let law = collect_all_runs p.cases h (world_of p h) u b (save_at h k) formed.program.cases number
          (a.regs 31 (λ z. omega arith) (λ z. omega arith) ∙ hold.base) (a.save ∙ (sym save-is ∙ save-same))
          save-few ((fits_in p h (formed-sizes formed) formed.program.cases number).collect k few-pass)
          (subst (λ (x : ℕ). At (support_at p h) x (collect_all p.cases h)) (sym pc) code) in
          let moved = subst (λ (m : List Move). Takes (world_of p h)
          (Within u.pc (u.pc + 4 * length (collect_all p.cases h)) (UsesMoves m))
          (HasDone (world_of p h) (collect_all p.cases h) m u) (97 + 4 * length dwords) u) moves-are law in
          takes_map (λ t g. newest_map lo hi lo hi {A = UsesMoves (collect_moves sources save)} {B = Takes-in}
          (omega arith) (omega arith) uses-of t.log
          (widen lo (lo + 24) hi (UsesMoves (collect_moves sources save)) (omega arith) t.log g))
          (λ t g. record { mid = u; aimed = a; done = g })
          (subst (λ (x : ℕ). Takes (world_of p h) (Within x (x + 4 * length (collect_all p.cases h))
          (UsesMoves (collect_moves sources save)))
          (HasDone (world_of p h) (collect_all p.cases h) (collect_moves sources save) u) (97 + 4 * length dwords)
          u) pc moved)

      runs : Takes (world_of p h) (Within lo hi Takes-in) (Behind s) n s
      runs = takes_more n (omega arith) (takes_then aims collecting)

pub pass-collected : (p : Program) → PassIsCollected p
pass-collected p formed fit h number lo code-aim code clear limit q d k ms s pass room hold counter now told =
    collect-part p formed fit h number lo code-aim code clear limit q d k ms pass room s hold counter now told
