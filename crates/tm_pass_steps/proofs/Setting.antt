-- The words that set the first dwords of a case do so as the hart's way asks for it.
use Rattle.std.proofs.Common.{◌≡◌, ◌≢◌, ◌⊎◌, inl, inr, ℕ, zero, suc, ◌+◌, ◌-◌, ◌*◌, ◌/◌, ◌%◌, ◌^◌, ◌<◌, ◌≤◌, true}
use Rattle.std.proofs.Common.{false, List, [], ◌∷◌, ◌++◌, length, Option, None, Some, refl, sym, ap, ap₂, ◌∙◌, subst}
use Rattle.std.proofs.Common.{arith}
use Rattle.std.specs.Prelude.{slice_get, slice_index, slice_index_or, IsTrue, IfSome, All}
use Rattle.std.proofs.lemmas.Bool.{cases_eq}
use Rattle.std.proofs.lemmas.Bool.Decides.{nat_tests}
use Rattle.std.proofs.lemmas.List.{append_cancel_right}
use Rattle.tm_table.specs.declared.state.Access.{Access}
use Rattle.tm_table.specs.declared.state.Access.TheVariants.{Quiet, Read, Write}
use Rattle.tm_plan_cases.specs.declared.cases.Case.{Case}
use Rattle.tm_plan_cases.specs.declared.program.Program.{Program}
use Rattle.tm_plan_map.specs.Map.{flag_at, verdict_at, private_at, private_size, save_at, tables_base, guest_base}
use Rattle.tm_plan_map.specs.Map.{guest_end, windows_base, windows_size}
use Rattle.tm_plan_cases.specs.Collected.{owned}
use Rattle.tm_base.specs.Lists.{any}
use Rattle.tm_plan_cases.specs.Shaped.{MasksFit}
use Rattle.tm_world.specs.Lists.{or_else}
use Rattle.tm_world.specs.Place.{harts, case_count, passes, exit_of, byte_of}
use Rattle.tm_world.specs.Kinds.{writes_flag}
use Rattle.tm_world.specs.Marks.{Mark}
use Rattle.tm_world.specs.Course.{round_before, writes_in}
use Rattle.tm_world.specs.Verdict.{saved}
use Rattle.tm_runs.specs.Machine.{State, Entry, Table, World, put}
use Rattle.tm_runs.specs.Runs.{Takes, Within, Does, Each, Since, At}
use Rattle.tm_runs.specs.World.{world_of, support_at, image_dword, is_fixed_dword}
use Rattle.tm_runs.proofs.Compose.{keeps_map, takes_map, newest_map}
use Rattle.tm_runs.proofs.Places.{fixed-place}
use Rattle.tm_runs.proofs.Tables.{put_other}
use Rattle.tm_runs.proofs.Worlds.{table-dword, own-fixed}
use Rattle.tm_legal.proofs.Formed.{formed-sizes}
use Rattle.tm_legal.specs.Tame.{Formed}
use Rattle.tm_blocks_base.specs.Laws.{Uses, accesses}
use Rattle.tm_blocks_base.proofs.Lists.{accesses-append}
use Rattle.tm_blocks_move.specs.Laws.{Move, Moves, Among, moved_accesses}
use Rattle.tm_blocks_move.specs.Lines.{first_bytes, set_moves}
use Rattle.tm_blocks_move.specs.Runs.{In, UsesMoves, HasDone}
use Rattle.tm_blocks_move.proofs.Blocks.{first_bytes_runs}
use Rattle.tm_blocks_move.proofs.Places.{fits_in}
use Rattle.tm_blocks_move.proofs.Pointwise.{moved-other}
use Rattle.tm_pass_way.specs.Logs.{left_in, read_in}
use Rattle.tm_runs.specs.Phases.{phase_in, now_in, signals_in}
use Rattle.tm_pass_way.specs.Facts.{Fact, Told, Gathered, AreSet, last_in}
use Rattle.tm_pass_way.specs.Parts.{Hold, Ready, Same, Leads}
use Rattle.tm_pass_way.specs.Calm.{Clear, Steady, LeavesTo, IsBelow}
use Rattle.tm_pass_way.proofs.Calm.{calm-fact, now-stays, verdict-low, flag-low}
use Rattle.tm_plan_owned.proofs.Collected.{owned-above}
use Rattle.tm_pass_way.proofs.Fronts.{saves-few}
use Rattle.tm_pass_way.proofs.Shared.{set-fact}
use Rattle.tm_pass_way.proofs.Calm.{private-below}
use Rattle.tm_pass_way.proofs.Waiting.{now-all}
use Rattle.tm_pass_way.proofs.Gathered.{gathered-one}
use Rattle.tm_pass_steps.specs.Setting.{FirstTable, FirstIsSet, set_cost}
use Rattle.tm_pass_steps.proofs.Mine.{Mine, mine, mine-window, mine-bytes, last_access, last-by-access, last-append}
use Rattle.tm_pass_steps.proofs.Mine.{written-here, written-off}
use Rattle.tm_pass_steps.proofs.Mixed.{off, halts, starts, one-more, left-through}
use Rattle.tm_pass_steps.proofs.Mixed.{read-through, far, start-steady, mixed-part, roomier}

-- ---- lists

pub all-among : (P : ℕ → Type 0) (xs : List ℕ) → All P xs → (a : ℕ) → Among a xs → P a
all-among P [] h a i = absurd i
all-among P (x ∷ xs) h a (inl e) = subst P (sym e) (h 0 x (omega arith))
all-among P (x ∷ xs) h a (inr i) = all-among P xs (λ k d l. h (suc k) d (omega arith)) a i

pub among-at : (xs : List ℕ) (k d : ℕ) → k < length xs → Among (slice_index_or xs k d) xs
among-at [] k d l = absurd (omega arith)
among-at (x ∷ xs) zero d l = inl refl
among-at (x ∷ xs) (suc k) d l = inr (among-at xs k d (omega arith))

source : (from : ℕ) (xs : List ℕ) (m : Move) → In m (set_moves from xs) → Among m.1 xs
    × (m.0 ≡ from + (m.1 - windows_base))
source from [] m i = absurd i
source from (x ∷ xs) m (inl e) = (
  inl (ap (λ (k : Move). k.1) e),
  ap (λ (k : Move). k.0) e ∙ ap (λ (y : ℕ). from + (y - windows_base)) (sym (ap (λ (k : Move). k.1) e)),
)
source from (x ∷ xs) m (inr i) = let h = source from xs m i in (inr h.0, h.1)

-- ---- what each dword was set to

-- Behind moves that set aligned dwords to what stands at sources that read back, a dword's last bytes are those of
-- its source.
set-last : (w : World) (from : ℕ) (mem : Table) (xs vs : List ℕ) (now : Table) → Moves w now (set_moves from xs) vs
    → ((x : ℕ) → Among x xs → x % 8 ≡ 0) → ((x : ℕ) → Among x xs → IsTrue (w.own (from + (x - windows_base))))
    → ((x y : ℕ) → Among x xs → Among y xs → from + (x - windows_base) ≢ y)
    → ((x : ℕ) → Among x xs → now (from + (x - windows_base)) ≡ mem (from + (x - windows_base)))
    → (a i : ℕ) → a % 8 ≡ 0 → i < 8
    → (last_access (a + i) (moved_accesses (set_moves from xs) vs) ≡ Some (byte_of (mem (from + (a - windows_base))) i))
    ⊎ ((last_access (a + i) (moved_accesses (set_moves from xs) vs) ≡ None) × (Among a xs → ⊥))
set-last w from mem [] [] now h even own apart same a i e l = inr (refl, λ z. z)
set-last w from mem [] (v ∷ vs) now h even own apart same a i e l = absurd h
set-last w from mem (y ∷ ys) [] now h even own apart same a i e l = absurd h
set-last w from mem (y ∷ ys) (v ∷ vs) now h even own apart same a i e l =
    by (cases_eq a y) (set-last w from mem ys vs (put now y v) h.2 (λ x z. even x (inr z)) (λ x z. own x (inr z))
    (λ x z s t. apart x z (inr s) (inr t)) (λ x z. put_other now y v (from + (x - windows_base))
    (apart x y (inr z) (inl refl)) ∙ same x (inr z)) a i e l)
  where
    older : List Access
    older = Write y 8 v ∷ Read (from + (y - windows_base)) 8 v ∷ []

    newer : List Access
    newer = moved_accesses (set_moves from ys) vs

    whole : last_access (a + i) (newer ++ older) ≡ or_else (last_access (a + i) newer) (last_access (a + i) older)
    whole = last-append (a + i) newer older

    value : v ≡ mem (from + (y - windows_base))
    value = h.1 (own y (inl refl)) ∙ same y (inl refl)

    by : (a ≡ y) ⊎ (a ≡ y → ⊥) → (last_access (a + i) newer ≡ Some (byte_of (mem (from + (a - windows_base))) i))
        ⊎ ((last_access (a + i) newer ≡ None) × (Among a ys → ⊥))
        → (last_access (a + i) (newer ++ older) ≡ Some (byte_of (mem (from + (a - windows_base))) i))
        ⊎ ((last_access (a + i) (newer ++ older) ≡ None) × (Among a (y ∷ ys) → ⊥))
    by c (inl f) = inl (whole ∙ ap (λ (o : Option ℕ). or_else o (last_access (a + i) older)) f)
    by (inl c) (inr f) =
        inl (whole ∙ (ap (λ (o : Option ℕ). or_else o (last_access (a + i) older)) f.0
        ∙ (ap (λ (x : ℕ). last_access (x + i) older) c ∙
        (ap (λ (o : Option ℕ). or_else o (last_access (y + i) (Read (from + (y - windows_base)) 8 v ∷ [])))
        (written-here y v i l)
        ∙ (ap (λ (x : ℕ). Some (byte_of x i)) value ∙ ap (λ (x : ℕ). Some (byte_of (mem (from + (x - windows_base))) i))
        (sym c))))))
    by (inr c) (inr f) =
        inr (
          whole ∙ (ap (λ (o : Option ℕ). or_else o (last_access (a + i) older)) f.0 ∙ ap
              (λ (o : Option ℕ). or_else o (last_access (a + i) (Read (from + (y - windows_base)) 8 v ∷ [])))
              (written-off a y v i e (even y (inl refl)) l c)),
          miss c f.1,
        )
      where
        miss : (a ≡ y → ⊥) → (Among a ys → ⊥) → Among a (y ∷ ys) → ⊥
        miss c g (inl z) = c z
        miss c g (inr z) = g z

last-all : (b : ℕ) (es base : List Entry) → last_in b (es ++ base) ≡ or_else (last_in b es) (last_in b base)
last-all b es base =
    last-by-access b (es ++ base) ∙ (ap (last_access b) (accesses-append es base) ∙
    (last-append b (accesses es) (accesses base) ∙ ap₂ or_else (sym (last-by-access b es))
    (sym (last-by-access b base))))

module _ (p : Program) (formed : Formed p) (fit : MasksFit p.cases p.masks) (h : ℕ) (number : h < harts p)
    (c from lo : ℕ) (table : FirstTable p c from) (code : At (support_at p h) lo (first_bytes p.cases h from))
    (clear : Clear p h lo (lo + 4 * length (first_bytes p.cases h from)))
    (limit : ℕ → ℕ) (q d o : ℕ) (ms : List Mark) (even : q % 2 ≡ 0) (room : o + set_cost (length (owned p.cases h))
    ≤ limit q) where
  abbrev exit : ℕ
  exit = exit_of p h

  abbrev hi : ℕ
  hi = lo + 4 * length (first_bytes p.cases h from)

  abbrev n : ℕ
  n = set_cost (length (owned p.cases h))

  abbrev dwords : List ℕ
  dwords = owned p.cases h

  abbrev moves : List Move
  moves = set_moves from dwords

  few : h < 16
  few = let b = (formed-sizes formed).harts in omega arith

  -- what its words do: they read below the windows, and write dwords that the hart collects
  abbrev Sets : Access → Type 0
  Sets = Uses IsBelow (Mine p.cases h)

  abbrev Acts : Entry → Type 0
  Acts = Does lo hi Sets

  mine-of : (a : ℕ) → Among a dwords → Mine p.cases h a
  mine-of = all-among (Mine p.cases h) dwords (mine p.cases h)

  below-all : from + 6144 ≤ windows_base
  unfolding tables_base windows_base windows_size
  below-all = let t = table.high in let s = (formed-sizes formed).tables in omega arith

  sets-of : (x : Access) → UsesMoves moves x → Sets x
  sets-of Quiet u = tt
  sets-of (Read a width v) u = (
    u.0,
    let s = source from dwords u.1.0 u.1.1 in let m = mine-of u.1.0.1 s.0 in
        let b = below-all in omega (arith, u.1.2, s.1, m.low, m.high),
  )
  sets-of (Write a width v) u = (u.0, subst (Mine p.cases h) u.1.2 (mine-of u.1.0.1 (source from dwords u.1.0 u.1.1).0))

  from-low : guest_base ≤ from
  unfolding guest_base tables_base
  from-low = let t = table.low in omega arith

  from-high : from + windows_size ≤ guest_end
  unfolding guest_end tables_base
  from-high = let t = table.high in let s = (formed-sizes formed).tables in omega arith

  from-few : from < 2 ^ 63
  unfolding tables_base
  from-few = let t = table.high in let s = (formed-sizes formed).tables in omega arith

  -- ---- each entry

  off-cell : (a e g v : ℕ) → Mine p.cases h a → e < case_count p → g < 16 → writes_in (verdict_at e g) 8 (Write a 8 v)
      ≡ false
  off-cell a e g v m l k = let c = formed.program.cases.count in let x = verdict-low e g h (omega arith) k in let y =
      private-below h few in let z : verdict_at e g + 8 ≤ a = omega (arith, m.low) in grind (arith, nat_tests)

  off-flag : (a v : ℕ) → Mine p.cases h a → writes_flag h (Write a 8 v) ≡ false
  off-flag a v m = let x = flag-low h h few in let y = private-below h few in let z : flag_at h + 8 ≤ a =
      omega (arith, m.low) in grind (arith, nat_tests)

  still : (x : Access) → Sets x → writes_flag h x ≡ false
  still Quiet u = refl
  still (Read a width v) u = refl
  still (Write a width v) u = ap (λ (k : ℕ). writes_flag h (Write a k v)) u.0 ∙ off-flag a v u.1

  mute : (e : ℕ) → e < case_count p → (x : Access) → Sets x → writes_in (verdict_at e h) 8 x ≡ false
  mute e l Quiet u = refl
  mute e l (Read a width v) u = refl
  mute e l (Write a width v) u = ap (λ (k : ℕ). writes_in (verdict_at e h) 8 (Write a k v)) u.0 ∙ off-cell a e h v u.1 l
      few

  fact : (past : List Entry) (e : Entry) → Acts e → phase_in exit past ≡ q → any (signals_in h) (now_in exit past)
      ≡ false → IfSome (round_before p q) (λ x. Gathered p h (now_in exit past)) → Fact p h past e
  fact past e a phase silent gathered = by e.access refl a.access
    where
      quiet : Uses IsBelow (λ b. ⊥) e.access → Uses IsBelow (λ b. (private_at h ≤ b)
          × (b + 8 ≤ private_at h + private_size)) e.access
      quiet u = by-quiet e.access u
        where
          by-quiet : (x : Access) → Uses IsBelow (λ b. ⊥) x
              → Uses IsBelow (λ b. (private_at h ≤ b) × (b + 8 ≤ private_at h + private_size)) x
          by-quiet Quiet u = tt
          by-quiet (Read b width v) u = u
          by-quiet (Write b width v) u = absurd u.1

      calm : Uses IsBelow (λ b. ⊥) e.access → Fact p h past e
      calm u =
          calm-fact p formed fit h number past e (record {
            from = off p formed fit h number limit lo hi clear Sets e a;
            start = starts p formed fit h number limit lo hi clear Sets e a;
            halt =
                halts p formed fit h number limit lo hi clear Sets e a;
            access = quiet u;
          }) silent

      by : (x : Access) → e.access ≡ x → Sets x → Fact p h past e
      by Quiet f u = calm (subst (Uses IsBelow (λ b. ⊥)) (sym f) tt)
      by (Read b width v) f u = calm (subst (Uses IsBelow (λ b. ⊥)) (sym f) u)
      by (Write b width v) f u =
          set-fact p formed fit h number past e b v
          (record {
            from = off p formed fit h number limit lo hi clear Sets e a;
            start = starts p formed fit h number limit lo hi clear Sets e a;
            halt =
                halts p formed fit h number limit lo hi clear Sets e a;
          })
          (f ∙ ap (λ (k : ℕ). Write b k v) u.0) u.1.low (λ i l. (
            mine-window p.cases h b i u.1 l,
            mine-bytes p.cases h b i formed.program.cases u.1 l,
          )) (ap (λ (k : ℕ). k % 2) phase ∙ even) silent
          (subst (λ (k : ℕ). IfSome (round_before p k) (λ x. Gathered p h (now_in exit past))) (sym phase) gathered)

  steady-all : (es past : List Entry) → Each Acts es → length es ≤ n → Steady p h limit q d o ms past
      → IfSome (round_before p q) (λ x. Gathered p h (now_in exit past))
      → Steady p h limit q d (o + length es) ms (es ++ past)
      × IfSome (round_before p q) (λ x. Gathered p h (now_in exit (es ++ past)))
  steady-all [] past each short s g = (
    let e : o ≡ o + 0 = omega arith in
        subst (λ (k : ℕ). Steady p h limit q d k ms past) e s,
    g,
  )
  steady-all (e ∷ es) past each short s g =
      let r = steady-all es past each.1 (omega arith) s g in
      let k : suc (o + length es) ≡ o + suc (length es) = omega arith in
      let f = fact (es ++ past) e each.0 r.0.phase r.0.silent r.1 in (
        subst (λ (k : ℕ). Steady p h limit q d k ms (e ∷ es ++ past)) k
            (one-more p formed fit h number limit lo hi clear Sets q d (o + length es) ms (es ++ past) e each.0 f
            (still e.access each.0.access) (λ x l. mute x l e.access each.0.access) (omega arith) r.0),
        subst (λ (ls : List Entry). IfSome (round_before p q) (λ x. Gathered p h ls))
            (sym (now-stays p formed fit h number (es ++ past) e
            (off p formed fit h number limit lo hi clear Sets e each.0)))
            (gathered-one p h (round_before p q) e (now_in exit (es ++ past)) r.1),
      )

  -- ---- what they leave

  module _ (s t : State) (hold : Hold p h lo q d o ms s)
      (done : HasDone (world_of p h) (first_bytes p.cases h from) moves s t) where
    low-other : (a : ℕ) → a + 8 ≤ windows_base → t.mem a ≡ s.mem a
    low-other a l = ap (λ (f : Table). f a) done.moved.mem ∙ moved-other (world_of p h) moves done.moved.values s.mem a
        done.moved.moves (λ m i z. let x = mine-of m.1 (source from dwords m i).0 in omega (arith, z, x.low))

    private-low : (k : ℕ) → k + 8 ≤ 0x20000 → private_at h + k + 8 ≤ windows_base
    unfolding private_size
    private-low k l = let x = private-below h few in omega arith

    area-low : (k i : ℕ) → k < passes p → i < saved p h → save_at h k + 8 * i + 8 ≤ windows_base
    unfolding save_at
    area-low k i l m =
        let a = formed.program.cases.passes in
        let b = saves-few p h in
        let x = private-low (0x1000 + 0x2000 * k + 8 * i) (omega arith) in
        omega arith

    fixed-low : (a : ℕ) → is_fixed_dword p a ≡ true → a + 8 ≤ windows_base
    unfolding windows_base
    fixed-low a e = let f = fixed-place p a (formed-sizes formed) e in omega arith

    leaves : LeavesTo p h hi s t
    leaves = record {
      pc = done.pc ∙ ap (λ (a : ℕ). a + 4 * length (first_bytes p.cases h from)) hold.pc;
      base = done.moved.regs 31 (λ z. omega arith) (λ z. omega arith) (λ z. omega arith) (λ z. omega arith);
      exits = low-other (private_at h + 256) (private-low 256 (omega arith));
      fixed = λ a e. low-other a (fixed-low a e);
    }

    module _ (since : Since Acts s t) where
      same : Same p h s t
      same = record {
        left = λ x r l. ap (left_in p h x r) since.log ∙ left-through p formed fit h number limit lo hi clear Sets x r l
            since.entries s.log since.each;
        read = λ r j i l m.
            let b = slice_index dwords j + i in
            ap (read_in p h r b) since.log ∙ read-through p formed fit h number limit lo hi clear Sets (Mine p.cases h)
            (λ x u. u) r b (let z = owned-above p h j 0 l in omega arith) since.entries s.log since.each;
        memos = record {
          registers = λ i l. low-other (private_at h + 8 * i) (private-low (8 * i) (omega arith));
          counter = low-other (private_at h + 264) (private-low 264 (omega arith));
          area = λ k i l m. low-other (save_at h k + 8 * i) (area-low k i l m);
        };
      }

      own-accesses : accesses since.entries ≡ moved_accesses moves done.moved.values
      own-accesses = append_cancel_right (accesses since.entries) (moved_accesses moves done.moved.values)
          (accesses s.log) (sym (accesses-append since.entries s.log) ∙
          (ap accesses (sym since.log) ∙ done.moved.accesses))

      source-high : (a : ℕ) → Mine p.cases h a → tables_base ≤ from + (a - windows_base)
      source-high a m = let t = table.low in omega arith

      source-end : (a : ℕ) → Mine p.cases h a → from + (a - windows_base) + 8 ≤ tables_base + length p.tables
      unfolding windows_size
      source-end a m = let t = table.high in omega (arith, m.low, m.high)

      source-fixed : (a : ℕ) → Mine p.cases h a → is_fixed_dword p (from + (a - windows_base)) ≡ true
      source-fixed a m = table-dword p (from + (a - windows_base)) (source-high a m) (source-end a m)

      last-is : (a i : ℕ) → Among a dwords → i < 8 → last_in (a + i) since.entries
          ≡ Some (byte_of (s.mem (from + (a - windows_base))) i)
      last-is a i among l =
          last-by-access (a + i) since.entries
          ∙ (ap (last_access (a + i)) own-accesses
          ∙ by (set-last (world_of p h) from s.mem dwords done.moved.values s.mem done.moved.moves
          (λ x z. (mine-of x z).even) (λ x z. own-fixed p h (from + (x - windows_base))
          (source-fixed x (mine-of x z)))
          (λ x y z u e. let b = below-all in let m = mine-of x z in let k = mine-of y u in
          omega (arith, e, m.low, m.high, k.low)) (λ x z. refl) a i (mine-of a among).even l))
        where
          by : (last_access (a + i) (moved_accesses moves done.moved.values)
              ≡ Some (byte_of (s.mem (from + (a - windows_base))) i))
              ⊎ ((last_access (a + i) (moved_accesses moves done.moved.values) ≡ None) × (Among a dwords → ⊥))
              → last_access (a + i) (moved_accesses moves done.moved.values)
              ≡ Some (byte_of (s.mem (from + (a - windows_base))) i)
          by (inl e) = e
          by (inr e) = absurd (e.1 among)

      aligned : (a : ℕ) → Mine p.cases h a → from + (a - windows_base) ≡ from + 8 * ((a - windows_base) / 8)
      unfolding windows_base
      aligned a m = omega (arith, m.even, m.low)

      value : (case : Case) (a : ℕ) → slice_get p.cases.cases c ≡ Some case → Mine p.cases h a
          → s.mem (from + (a - windows_base)) ≡ slice_index case.first ((a - windows_base) / 8)
      value case a at m =
          let e : from + (a - windows_base) ≡ from + 8 * ((a - windows_base) / 8) = aligned a m in
          hold.fixed (from + (a - windows_base)) (source-fixed a m) ∙
          (ap (image_dword p) e ∙ table.dwords case at ((a - windows_base) / 8) (omega (arith, m.low, m.high)))

      are-set : AreSet p h c (now_in exit t.log)
      are-set =
          subst (AreSet p h c) (sym (ap (now_in exit) since.log ∙ now-all p formed fit h number q s.log hold.phase
          since.entries (far p formed fit h number limit lo hi clear Sets since.entries since.each)))
          (λ case at k x l i m.
          let a = slice_index_or dwords k x in
          let among = among-at dwords k x l in
          last-all (a + i) since.entries (now_in exit s.log)
          ∙ (ap (λ (o : Option ℕ). or_else o (last_in (a + i) (now_in exit s.log))) (last-is a i among m)
          ∙ ap (λ (v : ℕ). Some (byte_of v i)) (value case a at (mine-of a among))))

  pub set-part : (s : State) → Ready p h lo q d o ms s → Told p h limit s.log
      → Leads p h limit s (λ t. Ready p h hi q d (o + n) ms t × Same p h s t × AreSet p h c (now_in exit t.log)
      × Told p h limit t.log)
  set-part s ready told =
      keeps_map (λ t g. g) (λ t g. (g.2, same s t ready.hold g.0 g.1, are-set s t ready.hold g.0 g.1, g.3))
      (mixed-part p formed fit h number limit lo hi clear Sets {n = n} q d o hi ms s ready.hold
      (takes_map (λ t g. newest_map lo hi lo hi {A = UsesMoves moves} {B = Sets} (omega arith)
      (omega arith) sets-of t.log g) (λ t g. g) runs) ends
      (λ t g. leaves s t ready.hold g))
    where
      runs : Takes (world_of p h) (Within lo hi (UsesMoves moves))
          (HasDone (world_of p h) (first_bytes p.cases h from) moves s) n s
      runs =
          let law = first_bytes_runs p.cases h from (world_of p h) s formed.program.cases number from-few
          ((fits_in p h (formed-sizes formed) formed.program.cases number).first from table.even from-low from-high)
          (subst (λ (a : ℕ). At (support_at p h) a (first_bytes p.cases h from)) (sym ready.hold.pc) code) in
          subst (λ (a : ℕ). Takes (world_of p h) (Within a (a + 4 * length (first_bytes p.cases h from))
          (UsesMoves moves)) (HasDone (world_of p h) (first_bytes p.cases h from) moves s) n s) ready.hold.pc law

      ends : (t : State) → HasDone (world_of p h) (first_bytes p.cases h from) moves s t → (since : Since Acts s t)
          → length since.entries ≤ n → Steady p h limit q d (o + n) ms t.log
          × IfSome (round_before p q) (λ x. Gathered p h (now_in exit t.log))
      ends t g since short =
          let r = steady-all since.entries s.log since.each short
          (start-steady p formed fit h number limit lo hi clear Sets ready.hold told) ready.gathered in (
            subst (Steady p h limit q d (o + n) ms) (sym since.log)
                (roomier p formed fit h number limit lo hi clear Sets q d (o + length since.entries) (o + n) ms
                (since.entries ++ s.log) (omega arith) r.0),
            subst (λ (ls : List Entry). IfSome (round_before p q) (λ x. Gathered p h (now_in exit ls))) (sym since.log)
                r.1,
          )

pub first-set : (p : Program) → FirstIsSet p
first-set p formed fit h number c from lo table code clear limit q d o ms s even room ready told =
    set-part p formed fit h number c from lo table code clear limit q d o ms even room s ready told
