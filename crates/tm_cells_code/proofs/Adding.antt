-- The adds of a hart, one after another.
use Rattle.std.proofs.Common.{◌≡◌, ◌≢◌, ℕ, suc, ◌+◌, ◌*◌, ◌^◌, ◌<◌, ◌≤◌, ◌⊎◌, inr}
use Rattle.std.proofs.Common.{Bool, true, false, Some, refl, sym, ap, ◌∙◌, subst, arith}
use Rattle.std.specs.Prelude.{if◌then◌else◌}
use Rattle.tm_table.specs.declared.state.Access.TheVariants.{Write}
use Rattle.tm_table.specs.Row.{word64}
use Rattle.tm_table.specs.Adds.{add_word}
use Rattle.tm_plan_cases.specs.declared.program.Program.{Program}
use Rattle.tm_plan_map.specs.Map.{private_at}
use Rattle.tm_world.specs.Place.{exit_of}
use Rattle.tm_world.specs.Kinds.{writes_flag}
use Rattle.tm_runs.specs.Machine.{Entry, State, World, Table, get, put, stored, MayAccess}
use Rattle.tm_runs.specs.Runs.{At}
use Rattle.tm_runs.specs.World.{Sizes, world_of}
use Rattle.tm_runs.proofs.Tables.{get_put, get_put_other, put_other, at_front, at_next}
use Rattle.tm_blocks_base.specs.Blocks.{constant}
use Rattle.tm_blocks_base.specs.Laws.{accesses}
use Rattle.tm_blocks_base.proofs.Constant.{constant_runs}
use Rattle.tm_blocks_base.proofs.Lengths.{length-constant}
use Rattle.tm_cells_plan.specs.declared.plan.CellPlan.{CellPlan}
use Rattle.tm_cells_plan.specs.Sums.{addend, cell_of}
use Rattle.tm_cells_plan.proofs.Draws.{addend-lt, cell-lt}
use Rattle.tm_cells_world.specs.Machine.{Holds, adds_at, added}
use Rattle.tm_cells_world.specs.Kinds.{cell_at}
use Rattle.tm_cells_world.specs.Shadow.{NoStreams}
use Rattle.tm_cells_world.proofs.Compose.{holds_map, holds_then, holds_add, holds_up}
use Rattle.tm_cells_code.specs.Words.{the_add, add_registers}
use Rattle.tm_cells_code.specs.Told.{Stage, stage, Adds, More, Sofar, Good}
use Rattle.tm_cells_code.proofs.Addresses.{cell-place, cell-may, cell-no_flag, private-place}
use Rattle.tm_cells_code.proofs.Tells.{silent-keeping, silent-now}
use Rattle.tm_cells_code.proofs.Quiet.{quiet-block, good-at, work-step}

-- a store elsewhere leaves a dword
pub stored-apart : (w : World) (mem : Table) (a v c : ℕ) → c ≢ a → stored w mem a v c ≡ mem c
stored-apart w mem a v c n = by (w.fixed a)
  where
    by : (b : Bool) → (if b then mem else put mem a v) c ≡ mem c
    by true = refl
    by false = put_other mem a v c n

-- k adds were made
abbrev pub adding : ℕ → Stage
adding k = stage k 0 0 0 0

-- A hart at a place, with its private area's address in x31, and its count of exits still 0.
pub record Stands (plan : CellPlan) (p : Program) (h place : ℕ) (st : Stage) (n : ℕ) (t : State) : Type 0 where
  pub pc : t.pc ≡ place
  pub area : get t.regs 31 ≡ private_at h
  pub count : t.mem (private_at h + 256) ≡ 0
  pub sofar : Sofar plan p h st n t.log

module _ (plan : CellPlan) (p : Program) (h : ℕ) (sizes : Sizes p) (none : NoStreams p h) (low : h < 16) (most : ℕ)
  where
    abbrev w : World
    w = world_of p h

    abbrev G : State → Type 0
    G t = Good plan p h most t.log

    -- a constant into a register
    pub constant-block : (rd value n : ℕ) (st : Stage) (s : State) → 1 ≤ rd → rd < 32 → value < 2 ^ 64
        → (exit_of p h < s.pc) ⊎ (s.pc + 44 ≤ exit_of p h) → n + 11 ≤ most → At w.text s.pc (constant rd value)
        → Sofar plan p h st n s.log
        → Holds w (adds_at p) G (λ t. (t.pc ≡ s.pc + 44) × (t.regs ≡ put s.regs rd value) × (t.mem ≡ s.mem)
        × Sofar plan p h st (n + 11) t.log × (accesses t.log ≡ accesses s.log)) s
    constant-block rd value n st s some less small apart l code so =
        holds_map (λ t g. g) (λ t q. (q.0.pc, q.0.regs, q.0.mem, q.1, q.0.accesses))
        (quiet-block plan p h sizes none most s.pc (s.pc + 44) n 11 st apart l
        (constant_runs rd value some small w s code) so)

    module _ (base : ℕ) (after : base + 92 * plan.adds ≤ exit_of p h) (k n : ℕ) (less : k < plan.adds)
        (room : n + 23 ≤ most) (code : At w.text (base + 92 * k) (add_registers plan.seed h k))
        (at : adds_at p (base + 92 * k + 88) ≡ Some the_add) where
      abbrev place : ℕ
      place = base + 92 * k

      abbrev amount : ℕ
      amount = addend plan.seed h k

      abbrev q : ℕ
      q = cell_of plan.seed h k

      -- the registers of the add
      pub record Ready (t : State) : Type 0 where
        pub pc : t.pc ≡ place + 88
        pub area : get t.regs 31 ≡ private_at h
        pub count : t.mem (private_at h + 256) ≡ 0
        pub cell : get t.regs 28 ≡ cell_at q
        pub much : get t.regs 6 ≡ amount
        pub sofar : Sofar plan p h (adding k) (n + 22) t.log

      before : k * 92 + 92 ≤ 92 * plan.adds
      before = omega (arith, less)

      to-registers : (s : State) → Stands plan p h place (adding k) n s → Holds w (adds_at p) G Ready s
      unfolding add_registers
      to-registers s r =
          let one : At w.text s.pc (constant 6 amount) =
          subst (λ (a : ℕ). At w.text a (constant 6 amount)) (sym r.pc)
          (at_front w.text place (constant 6 amount) (constant 28 (cell_at q)) code) in
          holds_then (constant-block 6 amount n (adding k) s (omega arith) (omega arith) (addend-lt plan.seed h k)
          (inr (omega (arith, r.pc, after, before))) (omega (arith, room)) one r.sofar)
          (λ t a.
          let there : t.pc ≡ place + 44 = omega (arith, a.0, r.pc) in
          let two : At w.text t.pc (constant 28 (cell_at q)) =
          at_next w.text place t.pc (constant 6 amount) (constant 28 (cell_at q)) 11 (length-constant 6 amount)
          there code in
          holds_map (λ u g. g) (λ u b. record {
            pc = omega (arith, b.0, there);
            area = ap (λ (f : Table). get f 31) b.1 ∙ (get_put_other t.regs 28 (cell_at q) 31 (omega arith)
                ∙ (ap (λ (f : Table). get f 31) a.1 ∙ (get_put_other s.regs 6 amount 31 (omega arith) ∙ r.area)));
            count = ap (λ (f : Table). f (private_at h + 256)) b.2 ∙
                (ap (λ (f : Table). f (private_at h + 256)) a.2 ∙ r.count);
            cell = ap (λ (f : Table). get f 28) b.1 ∙ get_put t.regs 28 (cell_at q) (omega arith);
            much = ap (λ (f : Table). get f 6) b.1 ∙ (get_put_other t.regs 28 (cell_at q) 6 (omega arith)
                ∙ (ap (λ (f : Table). get f 6) a.1 ∙ get_put s.regs 6 amount (omega arith)));
            sofar = subst (λ (m : ℕ). Sofar plan p h (adding k) m u.log) (let e : n + 11 + 11 ≡ n + 22 = omega arith in e)
                b.3;
          }) (constant-block 28 (cell_at q) (n + 11) (adding k) t (omega arith) (omega arith)
          (let e = cell-place q in let l = cell-lt plan.seed h k in omega arith)
          (inr (omega (arith, there, after, before))) (omega (arith, room)) two a.3))

      -- the add itself
      pub add-made : (t : State) → Ready t → (v : ℕ)
          → Stands plan p h (base + 92 * suc k) (adding (suc k)) (n + 23) (added w the_add v t)
      add-made t r v =
          let sum = word64 (get t.regs 6 + v) in
          let e : Entry = record {
            pc = t.pc;
            next = t.pc + 4;
            word = add_word the_add;
            access = Write (get t.regs 28) 8 sum;
            regs = get (put t.regs 5 v);
          } in
          let access : e.access ≡ Write (cell_at q) 8 sum = ap (λ (a : ℕ). Write a 8 sum) r.cell in
          let off : e.pc ≢ exit_of p h = λ z. omega (arith, z, r.pc, after, before) in
          let silent : writes_flag h e.access ≡ false =
          ap (writes_flag h) access ∙ cell-no_flag h q sum low in
          let far : private_at h + 256 ≢ get t.regs 28 =
          λ z. (let a = cell-place q in let b = private-place h in let l = cell-lt plan.seed h k in
          omega (arith, z, r.cell)) in
          record {
            pc = omega (arith, r.pc);
            area = get_put_other t.regs 5 v 31 (omega arith) ∙ r.area;
            count = stored-apart w t.mem (get t.regs 28) sum (private_at h + 256) far ∙ r.count;
            sofar = record {
              told = More r.sofar.told (silent-keeping plan p h low t.log e silent (silent-now plan p h low r.sofar.told refl)
                  off) (Adds refl refl less refl sum access
                  (get_put_other t.regs 5 v 28 (omega arith) ∙ r.cell) (get_put_other t.regs 5 v 6 (omega arith) ∙ r.much)
                  off);
              few = omega (arith, work-step p h e t.log, r.sofar.few);
            };
          }

      pub one-add : (s : State) → Stands plan p h place (adding k) n s
          → Holds w (adds_at p) G (Stands plan p h (base + 92 * suc k) (adding (suc k)) (n + 23)) s
      one-add s r =
          holds_then (to-registers s r) (λ t a.
          let here : adds_at p t.pc ≡ Some the_add = ap (adds_at p) a.pc ∙ at in
          let may : MayAccess w (get t.regs 28) =
          subst (MayAccess w) (sym a.cell) (cell-may p h q (cell-lt plan.seed h k)) in
          holds_add the_add here may
          (λ v l. let m = add-made t a v in good-at plan p h sizes none most (n + 23) (adding (suc k)) _ room m.sofar)
          (λ v l. add-made t a v))

    -- all adds
    pub all-adds : (base n : ℕ) → base + 92 * plan.adds ≤ exit_of p h → n + 23 * plan.adds ≤ most
        → ((j : ℕ) → j < plan.adds → At w.text (base + 92 * j) (add_registers plan.seed h j))
        → ((j : ℕ) → j < plan.adds → adds_at p (base + 92 * j + 88) ≡ Some the_add) → (s : State)
        → Stands plan p h base (adding 0) n s
        → Holds w (adds_at p) G (Stands plan p h (base + 92 * plan.adds) (adding plan.adds) (n + 23 * plan.adds)) s
    all-adds base n after room code at s r =
        let all : 0 + plan.adds ≡ plan.adds = omega arith in
        subst (λ (k : ℕ). Holds w (adds_at p) G (Stands plan p h (base + 92 * k) (adding k) (n + 23 * k)) s) all
        (holds_up (λ k t. Stands plan p h (base + 92 * k) (adding k) (n + 23 * k) t) plan.adds 0
        (λ k t a b j.
        let e : n + 23 * k + 23 ≡ n + 23 * suc k = omega arith in
        holds_map (λ u g. g) (λ u q. subst (λ (m : ℕ). Stands plan p h (base + 92 * suc k) (adding (suc k)) m u) e q)
        (one-add base after k (n + 23 * k) (omega arith) (omega arith) (code k (omega arith)) (at k (omega arith)) t j))
        s (first s r))
      where
        first : (s : State) → Stands plan p h base (adding 0) n s
            → Stands plan p h (base + 92 * 0) (adding 0) (n + 23 * 0) s
        first s r = record {
          pc = omega (arith, r.pc);
          area = r.area;
          count = r.count;
          sofar = subst (λ (m : ℕ). Sofar plan p h (adding 0) m s.log) (let e : n ≡ n + 23 * 0 = omega arith in e) r.sofar;
        }
