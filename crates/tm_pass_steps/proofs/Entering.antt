-- The words that load the first registers lead into the stream, as the hart's way asks for it.
use Rattle.std.proofs.Common.{◌≡◌, ◌≢◌, ◌⊎◌, inl, inr, ℕ, zero, suc, ◌+◌, ◌-◌, ◌*◌, ◌<◌, ◌≤◌, true, List, [], ◌∷◌}
use Rattle.std.proofs.Common.{◌++◌, length, Some, refl, sym, ap, ◌∙◌, subst, arith}
use Rattle.std.specs.Prelude.{slice_index}
use Rattle.std.proofs.lemmas.Bool.{cases_lt}
use Rattle.tm_table.specs.declared.state.Access.{Access}
use Rattle.tm_table.specs.declared.state.Access.TheVariants.{Quiet, Read, Write}
use Rattle.tm_table.specs.Words.{word_of}
use Rattle.tm_plan_cases.specs.declared.cases.Stream.{Stream}
use Rattle.tm_plan_cases.specs.declared.program.Program.{Program}
use Rattle.tm_plan_map.specs.Map.{guest_base, guest_end, tables_base, private_at, save_at, windows_base}
use Rattle.tm_plan_cases.specs.Shaped.{MasksFit}
use Rattle.tm_world.specs.Place.{harts, start_of, exit_of}
use Rattle.tm_plan_cases.specs.Streams.{stream_in}
use Rattle.tm_world.specs.Marks.{Mark, Exit}
use Rattle.tm_runs.specs.Machine.{State, Entry, Table, get, put}
use Rattle.tm_runs.specs.Runs.{Takes, Does, Each, Since, At}
use Rattle.tm_runs.specs.World.{world_of, support_at, image_dword, is_fixed_dword}
use Rattle.tm_runs.proofs.Compose.{takes_map, takes_then}
use Rattle.tm_runs.proofs.Places.{guest-true}
use Rattle.tm_runs.proofs.Split.{takes_since}
use Rattle.tm_runs.proofs.Tables.{at_front, at_next, get_put_other}
use Rattle.tm_runs.proofs.Worlds.{table-dword, own-fixed}
use Rattle.tm_legal.proofs.Formed.{formed-sizes}
use Rattle.tm_legal.specs.Tame.{Formed}
use Rattle.tm_blocks_base.specs.Instrs.{ld}
use Rattle.tm_blocks_base.specs.Blocks.{load_registers, load_registers_but_last}
use Rattle.tm_blocks_base.specs.Laws.{Among, Nowhere, Uses, Usable, ReadsBack, HasAllButLast, HasLast, after_last_load}
use Rattle.tm_blocks_base.proofs.Lengths.{load_registers_parts, length-load_registers_but_last}
use Rattle.tm_blocks_base.proofs.Registers.{load_all_but_last_runs, last_load_runs}
use Rattle.tm_pass_way.specs.Parts.{Hold, phase_at, way_to}
use Rattle.tm_pass_way.specs.Calm.{LoadsInto}
use Rattle.tm_pass_way.proofs.Calm.{IsCalm}
use Rattle.tm_pass_way.proofs.Loading.{load-part}
use Rattle.tm_pass_steps.specs.Entering.{RegisterTable, RegistersAreLoaded}

pub each-to : (lo hi a b : ℕ) (A B : Access → Type 0) → a ≤ lo → hi ≤ b → ((x : Access) → A x → B x) → (es : List Entry)
    → Each (Does lo hi A) es → Each (Does a b B) es
each-to lo hi a b A B l m f [] h = tt
each-to lo hi a b A B l m f (e ∷ es) h = (
  record {
    from = (let x = h.0.from in omega arith);
    below = (let x = h.0.below in omega arith);
    least = (let x = h.0.least in omega arith);
    most = (let x = h.0.most in omega arith);
    access =
        f e.access h.0.access;
  },
  each-to lo hi a b A B l m f es h.1,
)

module _ (p : Program) (formed : Formed p) (fit : MasksFit p.cases p.masks) (h : ℕ) (number : h < harts p)
    (c k lo table : ℕ) (site : RegisterTable p h c table) (code : At (support_at p h) lo (load_registers table))
    (long : lo + 168 ≡ start_of p h c) where
  places : (i : ℕ) → i < 31 → (tables_base ≤ table + 8 * i) × (table + 8 * i + 8 ≤ tables_base + length p.tables)
  places i l = let a = site.low in let b = site.high in (omega arith, omega arith)

  fixed : (i : ℕ) → i < 31 → is_fixed_dword p (table + 8 * i) ≡ true
  fixed i l = let a = places i l in table-dword p (table + 8 * i) a.0 a.1

  small : (i : ℕ) → i < 31 → table + 8 * i + 8 ≤ windows_base
  unfolding tables_base windows_base
  small i l = let a = places i l in let s = (formed-sizes formed).tables in omega (arith, a.1)

  usable : Usable (world_of p h) table 31
  unfolding guest_base guest_end tables_base windows_base
  usable = record {
    aligned = site.even;
    low = (let b = site.high in let s = (formed-sizes formed).tables in omega arith);
    guest = λ j l. let a = places j l in let s = (formed-sizes formed).tables in
        guest-true (table + 8 * j) (omega (arith, a.0)) (omega (arith, a.1));
  }

  back : ReadsBack (world_of p h) table 31
  back i l = own-fixed p h (table + 8 * i) (fixed i l)

  calm : (x : Access) → Uses (Among table 30) Nowhere x → IsCalm h x
  calm Quiet u = tt
  calm (Read a width v) u = (
    u.0,
    let i = u.1.is in let l = u.1.below in let m = small u.1.index (omega arith) in
        omega arith,
  )
  calm (Write a width v) u = absurd u.1

  module _ (q o : ℕ) (ms : List Mark) (s : State) (hold : Hold p h lo q c o ms s) where
    value : (i : ℕ) → i < 31 → s.mem (table + 8 * i) ≡ image_dword p (table + 8 * i)
    value i l = hold.fixed (table + 8 * i) (fixed i l)

    loads : (u t : State) → HasAllButLast table s u → Since (Does s.pc (s.pc + 164) (Uses (Among table 30) Nowhere)) s u
        → HasLast table u t → LoadsInto p h c lo s t
    loads u t a since b = record {
      entries = since.entries;
      last = record {
        pc = u.pc;
        next = u.pc + 4;
        word = word_of (ld 31 240 31);
        access = Read (table + 240) 8 (u.mem (table + 240));
        regs = get (after_last_load table u).regs;
      };
      log = ap (λ (x : State). x.log) b.is ∙ ap (λ (l : List Entry). record {
        pc = u.pc;
        next = u.pc + 4;
        word = word_of (ld 31 240 31);
        access = Read (table + 240) 8 (u.mem (table + 240));
        regs =
            get (after_last_load table u).regs;
      } ∷ l) since.log;
      each = each-to s.pc (s.pc + 164) lo (start_of p h c - 4) (Uses (Among table 30) Nowhere) (IsCalm h)
          (omega (arith, hold.pc)) (omega (arith, hold.pc)) calm since.entries since.each;
      from = omega (arith, a.pc, hold.pc);
      to = omega (arith, a.pc, hold.pc);
      access = (refl, small 30 (omega arith));
      fresh = λ stream e r l m. by stream e r l m (cases_lt r 31);
      leaves = record {
        pc = ap (λ (x : State). x.pc) b.is ∙ omega (arith, a.pc, hold.pc);
        base = ap (λ (x : State). get x.regs 31) b.is ∙ (last-value ∙ (site.area ∙ sym hold.base));
        exits = same (private_at h + 256);
        fixed = λ x e. same x;
      };
      memos = record {
        registers = λ i l. same (private_at h + 8 * i);
        counter = same (private_at h + 264);
        area = λ j i l m. same (save_at h j + 8 * i);
      };
    }
      where
        same : (x : ℕ) → t.mem x ≡ s.mem x
        same x = ap (λ (y : State). y.mem x) b.is ∙ ap (λ (f : Table). f x) a.mem

        last-value : u.mem (table + 240) ≡ image_dword p (table + 240)
        last-value = ap (λ (f : Table). f (table + 240)) a.mem ∙ value 30 (omega arith)

        by : (stream : Stream) → stream_in p.cases c h ≡ Some stream → (r : ℕ) → 1 ≤ r → r < 32 → (r < 31) ⊎ (31 ≤ r)
            → get (put u.regs 31 (u.mem (table + 240))) r ≡ slice_index stream.regs r
        by stream e zero l m o = absurd (omega arith)
        by stream e (suc i) l m (inl x) =
            let one : i + 1 ≡ suc i = omega arith in
            get_put_other u.regs 31 (u.mem (table + 240)) (suc i) (λ z. omega arith)
            ∙ (ap (get u.regs) (sym one) ∙ (a.loaded i (omega arith) ∙
            (value i (omega arith) ∙ (site.dwords stream e i (omega arith) ∙ ap (slice_index stream.regs) one))))
        by stream e (suc i) l m (inr x) =
            let is : suc i ≡ 31 = omega arith in
            ap (get (put u.regs 31 (u.mem (table + 240)))) is ∙
            (last-value ∙ (site.dwords stream e 30 (omega arith) ∙ ap (slice_index stream.regs) (sym is)))

    pub runs : Takes (world_of p h) (λ t. Unit {0}) (LoadsInto p h c lo s) 42 s
    runs =
        let whole = subst (At (support_at p h) lo) (load_registers_parts table) code in
        let first = at_front (support_at p h) lo (load_registers_but_last table) (ld 31 240 31 ∷ []) whole in
        let law = load_all_but_last_runs table (world_of p h) s usable back
        (subst (λ (a : ℕ). At (support_at p h) a (load_registers_but_last table)) (sym hold.pc) first) in
        takes_then {n = 41} {k = 1} (takes_map (λ t g. tt) (λ t g. g) (takes_since law)) (λ u g.
        takes_map (λ t x. tt) (λ t x. loads u t g.0 g.1 x)
        (last_load_runs table (world_of p h) u usable back
        (at_next (support_at p h) lo u.pc (load_registers_but_last table) (ld 31 240 31 ∷ []) 41
        (length-load_registers_but_last table) (omega (arith, g.0.pc, hold.pc)) whole) g.0.base))

pub registers-loaded : (p : Program) → RegistersAreLoaded p
registers-loaded p formed fit h number c k lo table here few site code long clear stream limit s room hold told =
    load-part p formed fit h number limit c k lo 42 here few clear stream room (omega arith) (off clear.exit)
    (omega arith) s hold told
    (runs p formed fit h number c k lo table site code long (phase_at p c k + 1) 0 (way_to p c k ++ Exit ∷ []) s hold)
  where
    off : (start_of p h c - 4 < exit_of p h) ⊎ (exit_of p h < lo) → start_of p h c - 4 ≢ exit_of p h
    off (inl x) z = omega arith
    off (inr x) z = omega arith
