-- The whole way of a hart of a test of cells.
use Rattle.std.proofs.Common.{◌≡◌, ◌≢◌, ℕ, suc, ◌+◌, ◌*◌, ◌<◌, ◌≤◌, List, [], ◌∷◌, ◌++◌, length}
use Rattle.std.proofs.Common.{Bool, ◌==◌, None, inl, inr, refl, sym, ap, ◌∙◌, subst, arith, eq-eqb}
use Rattle.std.proofs.Common.{ne_eqb, length-append}
use Rattle.std.specs.Prelude.{if◌then◌else◌}
use Rattle.std.proofs.lemmas.Bool.{cases_eq}
use Rattle.tm_plan_cases.specs.declared.program.Program.{Program}
use Rattle.tm_plan_map.specs.Map.{private_at, private_size}
use Rattle.tm_world.specs.Place.{harts, exit_of, halt_of}
use Rattle.tm_world.specs.Kinds.{IsOpening}
use Rattle.tm_world.specs.Course.{last_phase}
use Rattle.tm_world.specs.Writers.{case_of_phase}
use Rattle.tm_runs.specs.Machine.{State, World, Table, get}
use Rattle.tm_runs.specs.Runs.{At}
use Rattle.tm_runs.specs.World.{Sizes, world_of, start}
use Rattle.tm_runs.proofs.Tables.{get_put, get_put_other}
use Rattle.tm_runs.proofs.Worlds.{private-dword, image-private}
use Rattle.tm_blocks_base.specs.Instrs.{fence, go_to}
use Rattle.tm_barrier.specs.Words.{meet, barrier}
use Rattle.tm_barrier.proofs.Worlds.{meeting_of}
use Rattle.tm_blocks_base.specs.Blocks.{constant}
use Rattle.tm_pass_text.specs.Words.{gate}
use Rattle.tm_cells_code.specs.Words.{checks}
use Rattle.tm_pass_text.proofs.Gate.{gate-shut, gate-open}
use Rattle.tm_cells_plan.specs.declared.plan.CellPlan.{CellPlan}
use Rattle.tm_cells_world.specs.Machine.{Holds, adds_at}
use Rattle.tm_cells_world.specs.Shadow.{NoStreams}
use Rattle.tm_cells_world.proofs.Compose.{holds_map, holds_then, holds_now, holds_up}
use Rattle.tm_cells_code.specs.Told.{Stage, stage, Start, Sofar, Good}
use Rattle.tm_cells_code.specs.Placed.{CellPlaced}
use Rattle.tm_cells_code.proofs.Addresses.{private-place}
use Rattle.tm_cells_code.proofs.Quiet.{quiet-block}
use Rattle.tm_cells_code.proofs.Adding.{adding, Stands, constant-block, all-adds}
use Rattle.tm_cells_code.proofs.Meet.{loading, met}
use Rattle.tm_cells_code.proofs.Checking.{checked}

-- where a hart comes to in the end
abbrev pub final : CellPlan → ℕ → Stage
final plan h = if h == 0 then stage plan.adds 1 1 8 1 else stage plan.adds 1 1 0 0

pub length-behind-meet : (h n : ℕ) → length (barrier h n) ≡ length (meet h n) + 2
unfolding barrier
length-behind-meet h n = length-append (meet h n ++ (fence ∷ [])) (go_to 1 ∷ []) ∙ omega (
  arith,
  length-append (meet h n) (fence ∷ []),
)

inside-private : (h : ℕ) → private_at h + 256 + 8 ≤ private_at h + private_size
unfolding private_size
inside-private h = omega arith

-- the most work
abbrev pub most_work : CellPlan → ℕ
most_work plan = 32 * plan.adds + 1024

module _ (plan : CellPlan) (p : Program) (h : ℕ) (sizes : Sizes p) (none : NoStreams p h) (mine : h < harts p)
    (first-phase : case_of_phase p 0 ≡ None) (more : 0 ≢ last_phase p) (placed : CellPlaced plan p h) where
  abbrev w : World
  w = world_of p h

  abbrev most : ℕ
  most = most_work plan

  abbrev c : ℕ
  c = private_at h + 256

  abbrev G : State → Type 0
  G t = Good plan p h most t.log

  low : h < 16
  low = omega (arith, mine, sizes.harts)

  -- the exit mark stands behind all but the checks
  exit-behind : placed.base h + 56 + 92 * plan.adds + 44 + 4 ≤ exit_of p h
  exit-behind = omega (arith, placed.exit, placed.link_is, placed.entry_is, length-behind-meet h (harts p))

  -- ---- gates

  record Gated (g : ℕ) (t : State) : Type 0 where
    pc : t.pc ≡ placed.base g
    number : get t.regs 10 ≡ h
    count : t.mem c ≡ 0
    sofar : Sofar plan p h (stage 0 0 0 0 0) (3 * g) t.log

  one-gate : (g : ℕ) → g < h → (s : State) → Gated g s → Holds w (adds_at p) G (Gated (suc g)) s
  one-gate g less s r =
      let big = placed.big g less in
      let rise = placed.rising (suc g) (omega (arith, less)) in
      let code = subst (λ (a : ℕ). At w.text a (gate g (placed.far g))) (sym r.pc)
      (placed.gates g (omega (arith, less))) in
      holds_map (λ t x. x) (λ t q. record {
        pc = q.0.pc ∙ omega (arith, r.pc, big.0);
        number = q.0.regs 10 (omega arith) ∙ r.number;
        count = ap (λ (f : Table). f c) q.0.mem ∙ r.count;
        sofar = subst (λ (n : ℕ). Sofar plan p h (stage 0 0 0 0 0) n t.log)
            (let e : 3 * g + 3 ≡ 3 * suc g = omega arith in e) q.1;
      })
      (quiet-block plan p h sizes none most s.pc (s.pc + 8 + placed.far g) (3 * g) 3 (stage 0 0 0 0 0)
      (inr (omega (arith, r.pc, big.0, rise, exit-behind))) (omega (arith, less, low))
      (gate-shut w g (placed.far g) (omega (arith, less, low)) s code (omega (arith, big.1))
      (λ e. omega (arith, e, r.number, less))) r.sofar)

  opens : (x : List ℕ) → IsOpening h x → Gated 0 (start p x)
  opens x o = record {
    pc = sym placed.first;
    number = o.number;
    count = image-private p h c sizes low (private-dword h c (omega arith) inside);
    sofar = record { told = Start; few = omega arith };
  }
    where
      inside : private_at h + 256 + 8 ≤ private_at h + private_size
      inside = inside-private h

  -- ---- up to the adds

  abbrev Ready : State → Type 0
  Ready t = Stands plan p h (placed.base h + 56) (adding 0) (3 * h + 13) t

  opened : (s : State) → Gated h s → Holds w (adds_at p) G Ready s
  opened s r =
      let code = subst (λ (a : ℕ). At w.text a (gate h (placed.far h))) (sym r.pc)
      (placed.gates h (omega arith)) in
      holds_then (quiet-block plan p h sizes none most s.pc (s.pc + 12) (3 * h) 2 (stage 0 0 0 0 0)
      (inr (omega (arith, r.pc, exit-behind))) (omega (arith, low))
      (gate-open w h (placed.far h) (omega (arith, low)) s code r.number) r.sofar)
      (λ t a.
      let there : t.pc ≡ placed.base h + 12 = omega (arith, a.0.pc, r.pc) in
      let code2 = subst (λ (b : ℕ). At w.text b (constant 31 (private_at h)))
      (sym there) placed.opening in
      holds_map (λ u g. g) (λ u b. record {
        pc = omega (arith, b.0, there);
        area = ap (λ (f : Table). get f 31) b.1 ∙ get_put t.regs 31 (private_at h) (omega arith);
        count = ap (λ (f : Table). f c) b.2 ∙ (ap (λ (f : Table). f c) a.0.mem ∙ r.count);
        sofar = record { told = b.3.told; few = omega (arith, b.3.few) };
      }) (constant-block plan p h sizes none low most 31 (private_at h) (3 * h + 2) (stage 0 0 0 0 0) t (omega arith)
      (omega arith) (let e = private-place h in omega (arith, low)) (inr (omega (arith, there, exit-behind)))
      (omega (arith, low)) code2 a.1))

  -- ---- from the adds to the barrier

  record Linked (t : State) : Type 0 where
    stands : Stands plan p h placed.entry (adding plan.adds) (3 * h + 13 + 23 * plan.adds + 11) t
    link : get t.regs 1 ≡ placed.link

  linked : (s : State) → Ready s → Holds w (adds_at p) G Linked s
  linked s r =
      holds_then (all-adds plan p h sizes none low most (placed.base h + 56) (3 * h + 13)
      (omega (arith, exit-behind)) (omega (arith, low)) placed.registers placed.adds s r)
      (λ t a.
      let code = subst (λ (b : ℕ). At w.text b (constant 1 placed.link)) (sym a.pc)
      placed.to_link in
      holds_map (λ u g. g) (λ u b. record {
        stands = record {
          pc = omega (arith, b.0, a.pc, placed.entry_is);
          area = ap (λ (f : Table). get f 31) b.1 ∙ (get_put_other t.regs 1 placed.link 31 (omega arith) ∙ a.area);
          count = ap (λ (f : Table). f c) b.2 ∙ a.count;
          sofar = b.3;
        };
        link = ap (λ (f : Table). get f 1) b.1 ∙ get_put t.regs 1 placed.link (omega arith);
      }) (constant-block plan p h sizes none low most 1 placed.link (3 * h + 13 + 23 * plan.adds) (adding plan.adds) t
      (omega arith) (omega arith) placed.low (inr (omega (arith, a.pc, exit-behind))) (omega (arith, low)) code
      a.sofar))

  -- ---- behind the barrier

  abbrev Behind : State → Type 0
  Behind t = (t.pc ≡ placed.link) × Sofar plan p h (loading plan 0) (3 * h + 13 + 23 * plan.adds + 11 + 9 + 2 * harts p)
      t.log

  left : (s : State) → Linked s → Holds w (adds_at p) G Behind s
  left s r =
      let here = r.stands.pc in
      let stands : Stands plan p h s.pc (adding plan.adds) (3 * h + 13 + 23 * plan.adds + 11) s = record {
        pc = refl;
        area = r.stands.area;
        count = r.stands.count;
        sofar = r.stands.sofar;
      } in
      holds_map (λ t g. g) (λ t q. (q.pc, q.sofar))
      (met plan p h sizes none mine first-phase more most (3 * h + 13 + 23 * plan.adds + 11) s stands placed.link r.link
      placed.even placed.low (meeting_of p h sizes mine)
      (omega (arith, here, placed.exit, placed.link_is, length-behind-meet h (harts p)))
      (subst (λ (a : ℕ). At w.text a (barrier h (harts p))) (sym here) placed.meeting)
      (omega (arith, mine, sizes.harts)))

  -- ---- to halt

  abbrev pub Final : State → Type 0
  Final t = (t.pc ≡ halt_of p h) × Sofar plan p h (final plan h) most t.log

  finished : (s : State) → Behind s → Holds w (adds_at p) G Final s
  finished s r = elim (cases_eq h 0) [
    | inl e ↦
        let code = subst (λ (a : ℕ). At w.text a (checks plan)) (sym r.0)
        (placed.checking e) in
        holds_map (λ t g. g) (λ t q. (
          omega (arith, q.0, r.0, placed.halts e),
          subst (λ (st : Stage). Sofar plan p h st most t.log)
              (sym (ap (λ (b : Bool). if b then stage plan.adds 1 1 8 1 else stage plan.adds 1 1 0 0) (eq-eqb h 0 e)))
              (record { told = q.1.told; few = omega (arith, q.1.few, mine, sizes.harts) }),
        )) (checked plan p h sizes none low most e (3 * h + 13 + 23 * plan.adds + 11 + 9 + 2 * harts p)
        (omega (arith, mine, sizes.harts)) s (omega (arith, r.0, placed.exit)) code r.1)
    | inr d ↦ holds_now (
      r.0 ∙ sym (placed.others (omega (arith, d))),
      subst (λ (st : Stage). Sofar plan p h st most s.log)
          (sym (ap (λ (b : Bool). if b then stage plan.adds 1 1 8 1 else stage plan.adds 1 1 0 0) (ne_eqb h 0 d)))
          (record { told = r.1.told; few = omega (arith, r.1.few, mine, sizes.harts) }),
    )
  ]

  pub whole : (x : List ℕ) → IsOpening h x → Holds w (adds_at p) G Final (start p x)
  whole x o =
      holds_then (holds_up (λ g t. Gated g t) h 0 (λ g t a b j. one-gate g (omega (arith, b)) t j) (start p x)
      (opens x o)) (λ s r.
      holds_then (opened s (subst (λ (g : ℕ). Gated g s) (let e : 0 + h ≡ h = omega arith in e) r)) (λ t a.
      holds_then (linked t a) (λ u b. holds_then (left u b) (λ v e. finished v e))))
