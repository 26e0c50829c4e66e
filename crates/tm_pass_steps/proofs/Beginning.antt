-- A hart comes through the gates of those before it to its first case.
use Rattle.std.proofs.Common.{◌≡◌, ℕ, zero, suc, ◌+◌, ◌*◌, ◌^◌, ◌<◌, ◌≤◌, List, [], ◌++◌, length, refl, sym, ap}
use Rattle.std.proofs.Common.{◌∙◌, subst, arith, length-append}
use Rattle.std.specs.Prelude.{IsTrue}
use Rattle.tm_table.specs.declared.state.Access.{Access}
use Rattle.tm_plan_cases.specs.declared.program.Program.{Program}
use Rattle.tm_plan_map.specs.Map.{text_base, private_at}
use Rattle.tm_plan_cases.specs.Shaped.{MasksFit}
use Rattle.tm_world.specs.Place.{harts, exit_of, image_byte}
use Rattle.tm_world.specs.Marks.{whole_way}
use Rattle.tm_runs.specs.Machine.{State, Entry, Table, get}
use Rattle.tm_runs.specs.Runs.{Takes, Within, Does, Since, At, IsQuiet}
use Rattle.tm_runs.specs.World.{world_of, support_at, image_dword}
use Rattle.tm_runs.proofs.Ahead.{Small, takes_told, world-low}
use Rattle.tm_runs.proofs.Compose.{keeps_after, keeps_now, takes_map, takes_then, takes_more, newest_map}
use Rattle.tm_runs.proofs.Bytes.{joined-lt}
use Rattle.tm_runs.proofs.Places.{image-lt}
use Rattle.tm_runs.proofs.Split.{takes_since, takes_count}
use Rattle.tm_legal.proofs.Formed.{formed-sizes}
use Rattle.tm_legal.specs.Tame.{Formed}
use Rattle.tm_blocks_base.specs.Blocks.{constant}
use Rattle.tm_blocks_base.proofs.Constant.{constant_runs}
use Rattle.tm_pass_text.specs.Words.{gate}
use Rattle.tm_pass_text.proofs.Gate.{Passed, gate-shut, gate-open}
use Rattle.tm_pass_way.specs.Facts.{Told}
use Rattle.tm_pass_way.specs.Parts.{Opens, Ready, Leads}
use Rattle.tm_pass_way.specs.Calm.{Clear, Steady}
use Rattle.tm_pass_way.proofs.Calm.{IsCalm, steady-part}
use Rattle.tm_pass_way.proofs.Lift.{told-drop}
use Rattle.tm_pass_steps.specs.Beginning.{GateSite, GatesLead, begin_cost}

area-few : (h : ℕ) → h < 16 → private_at h < 2 ^ 64
unfolding private_at
area-few h l = omega arith

image-few : (p : Program) → Formed p → (a : ℕ) → image_dword p a < 2 ^ 64
unfolding image_dword
image-few p formed a = joined-lt (λ i. image_byte p (a + i)) 8 (λ i. image-lt p (a + i) (formed-sizes formed))

module _ (p : Program) (formed : Formed p) (fit : MasksFit p.cases p.masks) (h : ℕ) (number : h < harts p) (base far : ℕ
    → ℕ) (site : GateSite p h base far) (clear : Clear p h text_base (base h + 56)) (limit : ℕ → ℕ) where
  abbrev exit : ℕ
  exit = exit_of p h

  abbrev hi : ℕ
  hi = base h + 56

  few : h < 16
  few = let b = (formed-sizes formed).harts in omega arith

  calm : (x : Access) → IsQuiet x → IsCalm h x
  calm x q = subst (IsCalm h) (sym q) tt

  -- the gates rise
  rise : (g : ℕ) → g ≤ h → text_base ≤ base g
  rise zero l = omega (arith, site.first)
  rise (suc g) l = let r = rise g (omega arith) in let n = site.next g (omega arith) in omega arith

  below : (k g : ℕ) → g + k ≡ h → base g ≤ base h
  below zero g e = let f : g ≡ h = omega arith in omega (arith, ap base f)
  below (suc k) g e = let r = below k (suc g) (omega arith) in let n = site.next g (omega arith) in omega arith

  -- at a gate, with all but x1 as they were
  abbrev At-gate : ℕ → State → State → Type 0
  At-gate g = Passed (base g)

  pub record Begun (s t : State) : Type 0 where
    pub pc : t.pc ≡ hi
    pub area : get t.regs 31 ≡ private_at h
    pub mem : t.mem ≡ s.mem

  module _ (s : State) (own : get s.regs 10 ≡ h) where
    enter : (t : State) → At-gate h s t → Takes (world_of p h) (Within text_base hi (IsCalm h)) (Begun s) 13 t
    enter t a =
        let law = gate-open (world_of p h) h (far h) (omega arith) t
        (subst (λ (x : ℕ). At (support_at p h) x (gate h (far h))) (sym a.pc) (site.gates h (omega arith)))
        (a.regs 10 (λ z. omega arith) ∙ own) in
        takes_then
        (takes_map (λ u g. newest_map t.pc (t.pc + 12) text_base hi {A = IsQuiet} {B = IsCalm h}
        (let r = rise h (omega arith) in
        omega (arith, a.pc)) (omega (arith, a.pc)) calm u.log g) (λ u g. g) law)
        (λ u b.
        let pc : u.pc ≡ base h + 12 = omega (arith, b.pc, a.pc) in
        takes_map (λ v g. newest_map u.pc (u.pc + 44) text_base hi {A = IsQuiet} {B = IsCalm h}
        (let r = rise h (omega arith) in
        omega arith) (omega arith) calm v.log g)
        (λ v g. record {
          pc = omega (arith, g.pc, pc);
          area = ap (λ (f : Table). get f 31) g.regs;
          mem = g.mem ∙ (b.mem ∙ a.mem);
        })
        (constant_runs 31 (private_at h) (omega arith) private-few (world_of p h) u
        (subst (λ (x : ℕ). At (support_at p h) x (constant 31 (private_at h))) (sym pc) site.opening)))
      where
        private-few : private_at h < 2 ^ 64
        private-few = area-few h few

    pass : (k g : ℕ) → g + k ≡ h → (t : State) → At-gate g s t
        → Takes (world_of p h) (Within text_base hi (IsCalm h)) (Begun s) (k * 3 + 13) t
    pass zero g e t a = let same : g ≡ h = omega arith in
        takes_more _ (omega arith) (enter t (subst (λ (x : ℕ). At-gate x s t) same a))
    pass (suc k) g e t a =
        let next = site.next g (omega arith) in
        let law = gate-shut (world_of p h) g (far g) (omega arith) t
        (subst (λ (x : ℕ). At (support_at p h) x (gate g (far g))) (sym a.pc) (site.gates g (omega arith)))
        (let f = site.some g (omega arith) in omega arith) (λ z. let o = a.regs 10 (λ y. omega arith) in
        omega arith) in
        takes_more _ (omega arith)
        (takes_then
        (takes_map (λ u y. newest_map t.pc (t.pc + 8 + far g) text_base hi {A = IsQuiet} {B = IsCalm h}
        (let r = rise g (omega arith) in omega (arith, a.pc)) (let b = below k (suc g) (omega arith) in
        omega (arith, a.pc)) calm u.log y) (λ u y. y) law)
        (λ u b. pass k (suc g) (omega arith) u (record {
          pc = omega (arith, b.pc, a.pc);
          regs = λ r n. b.regs r n ∙ a.regs r n;
          mem = b.mem ∙ a.mem;
        })))

  pub begins : (s : State) → Opens p h s → begin_cost (harts p) ≤ limit 0
      → Leads p h limit s (λ t. Ready p h hi 0 0 (begin_cost (harts p)) [] t × Told p h limit t.log)
  begins s opens room =
      keeps_after
      (takes_map (λ t g. g) (λ t g. (ready t g.0.0.0 g.0.0.1 g.0.1 g.2, g.1))
      (takes_told (world_of p h) (world-low p h (formed-sizes formed)) (Told p h limit) (told-drop p h limit)
      (λ t g. (steady t g.0.1 g.1).told) (record { regs = opens.regs; mem = small })
      (takes_count (takes_since runs))))
      (λ t g. keeps_now g)
    where
      runs : Takes (world_of p h) (Within text_base hi (IsCalm h)) (Begun s) (begin_cost (harts p)) s
      runs = takes_more _ (omega arith) (pass s opens.number h 0 (omega arith) s
          (record { pc = opens.pc ∙ sym site.first; regs = λ r n. refl; mem = refl }))

      small : (a : ℕ) → IsTrue ((world_of p h).own a) → s.mem a < 2 ^ 64
      small a o = subst (λ (v : ℕ). v < 2 ^ 64) (sym (opens.mem a)) (image-few p formed a)

      start : Steady p h limit 0 0 0 [] []
      start = record {
        phase = refl;
        way = refl;
        silent = refl;
        judged = λ d l. absurd (omega arith);
        unjudged = λ d l m. refl;
        few = omega arith;
        told = record { order = (whole_way p, refl); story = tt; pace = λ q. omega arith };
      }

      steady : (t : State) → (since : Since (Does text_base hi (IsCalm h)) s t)
          → length t.log ≤ length s.log + begin_cost (harts p) → Steady p h limit 0 0 (begin_cost (harts p)) [] t.log
      steady t since few' =
          let short : length since.entries ≤ begin_cost (harts p) =
          omega (arith, ap length since.log, length-append since.entries s.log) in
          let r = steady-part p formed fit h number limit text_base hi clear 0 0 0 (begin_cost (harts p)) []
          since.entries [] (omega arith) short (omega arith) since.each start in
          let log : t.log ≡ since.entries ++ [] = since.log ∙ ap (λ (l : List Entry). since.entries ++ l) opens.log in
          subst (Steady p h limit 0 0 (begin_cost (harts p)) []) (sym log)
          (record {
            phase = r.phase;
            way = r.way;
            silent = r.silent;
            judged = r.judged;
            unjudged = r.unjudged;
            few = omega (arith, r.few);
            told = r.told;
          })

      ready : (t : State) → Begun s t → (since : Since (Does text_base hi (IsCalm h)) s t)
          → length t.log ≤ length s.log + begin_cost (harts p) → Small (world_of p h) t
          → Ready p h hi 0 0 (begin_cost (harts p)) [] t
      ready t b since few' m =
          let a = steady t since few' in
          record {
            hold = record {
              pc = b.pc;
              base = b.area;
              exits = ap (λ (f : Table). f (private_at h + 256)) b.mem ∙ opens.told;
              fixed = λ x e. ap (λ (f : Table). f x) b.mem ∙ opens.mem x;
              regs = m.regs;
              mem = m.mem;
              phase = a.phase;
              way = a.way;
              silent = a.silent;
              judged = a.judged;
              unjudged = a.unjudged;
              few = a.few;
            };
            gathered = tt;
          }

pub gates-lead : (p : Program) → GatesLead p
gates-lead p formed fit h number base far site clear limit s opens room =
    begins p formed fit h number base far site clear limit s opens room
