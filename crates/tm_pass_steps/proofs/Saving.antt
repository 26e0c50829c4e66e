-- The words that save the registers do so as the hart's way asks for it.
use Rattle.std.proofs.Common.{◌≡◌, ◌≢◌, ℕ, ◌+◌, ◌*◌, ◌%◌, ◌^◌, ◌<◌, ◌≤◌, Bool, true, List, ◌++◌, length}
use Rattle.std.proofs.Common.{Option, None, refl, sym, ap, ◌∙◌, subst, arith}
use Rattle.std.specs.Prelude.{IfSome}
use Rattle.tm_table.specs.declared.state.Access.{Access}
use Rattle.tm_table.specs.declared.state.Access.TheVariants.{Quiet, Read, Write}
use Rattle.tm_plan_cases.specs.declared.program.Program.{Program}
use Rattle.tm_plan_map.specs.Map.{guest_base, guest_end, private_at, private_size, save_at}
use Rattle.tm_base.specs.Lists.{any}
use Rattle.tm_base.proofs.ListLemmas.{index-counted}
use Rattle.tm_plan_cases.specs.Shaped.{MasksFit}
use Rattle.tm_world.specs.Place.{harts, case_count, exit_of}
use Rattle.tm_world.specs.Marks.{Mark}
use Rattle.tm_world.specs.Course.{round_before}
use Rattle.tm_runs.specs.Machine.{State, Entry, Table, get}
use Rattle.tm_runs.specs.Runs.{Takes, Within, Does, Since, At}
use Rattle.tm_runs.specs.World.{world_of, support_at}
use Rattle.tm_runs.proofs.Compose.{keeps_map, takes_map, newest_map}
use Rattle.tm_runs.proofs.Places.{fixed-place, guest-true}
use Rattle.tm_runs.proofs.Worlds.{not-fixed}
use Rattle.tm_legal.proofs.Formed.{formed-sizes}
use Rattle.tm_legal.specs.Tame.{Formed}
use Rattle.tm_blocks_base.specs.Blocks.{save_registers}
use Rattle.tm_blocks_base.specs.Laws.{Among, Nowhere, Uses, Usable, Changeable, HasSaved, first_registers}
use Rattle.tm_blocks_base.proofs.Dwords.{stored-other}
use Rattle.tm_blocks_base.proofs.Pointwise.{stored-at}
use Rattle.tm_blocks_base.proofs.Registers.{save_registers_runs}
use Rattle.tm_runs.specs.Phases.{now_in}
use Rattle.tm_pass_way.specs.Facts.{Told, Gathered}
use Rattle.tm_pass_way.specs.Parts.{Hold, Saves, Leads}
use Rattle.tm_pass_way.specs.Calm.{Clear, Steady, LeavesTo}
use Rattle.tm_pass_way.proofs.Calm.{IsCalm, steady-part}
use Rattle.tm_pass_way.proofs.Lift.{recalls, now-more, any-more}
use Rattle.tm_pass_steps.specs.Saving.{RegistersAreSaved}
use Rattle.tm_pass_steps.proofs.Mixed.{start-steady, mixed-part, roomier}
use Rattle.tm_pass_steps.proofs.Cells.{area-high}

private-places : (h i : ℕ) → h < 16 → i < 30 → (private_at h % 8 ≡ 0) × (0x80C00000 ≤ private_at h + 8 * i)
    × (private_at h + 8 * i + 8 ≤ 0x81000000)
unfolding private_at
private-places h i l m = (omega arith, omega arith, omega arith)

private-few : (h : ℕ) → h < 16 → private_at h + 8 * 30 < 2 ^ 64
unfolding private_at
private-few h l = omega arith

plain : (i : ℕ) → 0 + i ≡ i
plain i = omega arith

length-first : (s : State) → length (first_registers s) ≡ 30
length-first s = refl

module _ (p : Program) (formed : Formed p) (fit : MasksFit p.cases p.masks) (h : ℕ) (number : h < harts p) (lo : ℕ)
    (code : At (support_at p h) lo save_registers) (clear : Clear p h lo (lo + 120)) (limit : ℕ → ℕ) where
  abbrev exit : ℕ
  exit = exit_of p h

  abbrev b : ℕ
  b = private_at h

  few : h < 16
  few = let s = (formed-sizes formed).harts in omega arith

  calm : (x : Access) → Uses Nowhere (Among b 30) x → IsCalm h x
  unfolding private_size
  calm Quiet u = tt
  calm (Read a width v) u = absurd u.1
  calm (Write a width v) u =
      (u.0, ((let i = u.1.is in omega arith), (let i = u.1.is in let l = u.1.below in omega arith)))

  usable : Usable (world_of p h) b 30
  unfolding guest_base guest_end
  usable = record {
    aligned = (private-places h 0 few (omega arith)).0;
    low = private-few h few;
    guest = λ j l. let c = private-places h j few l in guest-true (b + 8 * j) (omega (arith, c.1)) (omega (arith, c.2));
  }

  changeable : Changeable (world_of p h) b 30
  changeable j l = not-fixed p (b + 8 * j) (formed-sizes formed) (private-places h j few l).1

  module _ (q c o : ℕ) (ms : List Mark) (s : State) (hold : Hold p h lo q c o ms s) where
    mem-other : (t : State) → HasSaved b s t → (a : ℕ) → ((i : ℕ) → i < 30 → a ≢ b + 8 * i) → t.mem a ≡ s.mem a
    mem-other t g a n = ap (λ (f : Table). f a) g.mem ∙ stored-other (first_registers s) s.mem b 0 a
        (λ i l m. n i (omega (arith, length-first s)))

    leaves : (t : State) → HasSaved b s t → LeavesTo p h (lo + 120) s t
    leaves t g = record {
      pc = omega (arith, g.pc, hold.pc);
      base = ap (λ (f : Table). get f 31) g.regs;
      exits = mem-other t g (b + 256) (λ i l z. omega arith);
      fixed = λ a e. mem-other t g a (λ i l z. let f = fixed-place p a (formed-sizes formed) e in
          let k = (private-places h i few l).1 in omega arith);
    }

    saves : (t : State) → HasSaved b s t → Since (Does lo (lo + 120) (IsCalm h)) s t → Saves p h s t
    saves t g since =
        let r = recalls p formed fit h number limit lo (lo + 120) clear s t since in
        record {
          left = r.left;
          read = r.read;
          area = λ j i l m. mem-other t g (save_at h j + 8 * i) (λ k x z. let a = area-high h j i in omega arith);
          counter = mem-other t g (b + 264) (λ i l z. omega arith);
          saved = λ i l. ap (λ (f : Table). f (b + 8 * i)) g.mem ∙
              (stored-at (first_registers s) s.mem b 0 i i (omega arith) (omega (arith, length-first s)) ∙
              (index-counted (λ k. get s.regs (k + 1)) 30 0 i l ∙ ap (λ (k : ℕ). get s.regs (k + 1)) (plain i)));
        }

    pub saved-part : (test : Entry → Bool) → c ≤ case_count p → round_before p q ≡ None → o + 30 ≤ limit q
        → any test (now_in exit s.log) ≡ true → Told p h limit s.log
        → Leads p h limit s (λ t. Hold p h (lo + 120) q c (o + 30) ms t × Saves p h s t
        × (any test (now_in exit t.log) ≡ true) × Told p h limit t.log)
    saved-part test l odd room ended told =
        keeps_map (λ t g. g) (λ t g. (g.2.hold, saves t g.0 g.1, stays t g.1, g.3))
        (mixed-part p formed fit h number limit lo (lo + 120) clear (IsCalm h) {n = 30} q c o (lo + 120) ms s hold runs
        tells leaves)
      where
        stays : (t : State) → Since (Does lo (lo + 120) (IsCalm h)) s t → any test (now_in exit t.log) ≡ true
        stays t since =
            subst (λ (ls : List Entry). any test (now_in exit ls) ≡ true) (sym since.log)
            (subst (λ (ls : List Entry). any test ls
            ≡ true) (sym (now-more p formed fit h number limit lo (lo + 120) clear since.entries s.log since.each))
            (any-more p formed fit h number limit lo (lo + 120) clear test since.entries (now_in exit s.log) ended))

        runs : Takes (world_of p h) (Within lo (lo + 120) (IsCalm h)) (HasSaved b s) 30 s
        runs =
            let law = save_registers_runs (world_of p h) s b hold.base usable changeable
            (subst (λ (a : ℕ). At (support_at p h) a save_registers) (sym hold.pc) code) in
            takes_map (λ t g. newest_map lo (lo + 120) lo (lo + 120) {A = Uses Nowhere (Among b 30)} {B = IsCalm h}
            (omega arith) (omega arith) calm t.log g) (λ t g. g)
            (subst (λ (a : ℕ). Takes (world_of p h) (Within a (a + 120) (Uses Nowhere (Among b 30))) (HasSaved b s) 30
            s) hold.pc law)

        tells : (t : State) → HasSaved b s t → (since : Since (Does lo (lo + 120) (IsCalm h)) s t)
            → length since.entries ≤ 30 → Steady p h limit q c (o + 30) ms t.log
            × IfSome (round_before p q) (λ d. Gathered p h (now_in exit t.log))
        tells t g since short = (
          subst (Steady p h limit q c (o + 30) ms) (sym since.log)
              (roomier p formed fit h number limit lo (lo + 120) clear (IsCalm h) q c (o + length since.entries)
              (o + 30) ms (since.entries ++ s.log) (omega arith)
              (steady-part p formed fit h number limit lo (lo + 120) clear q c o 30 ms since.entries s.log l short room
              since.each (start-steady p formed fit h number limit lo (lo + 120) clear (IsCalm h) hold told))),
          subst (λ (x : Option ℕ). IfSome x (λ d. Gathered p h (now_in exit t.log))) (sym odd) tt,
        )

pub registers-saved : (p : Program) → RegistersAreSaved p
registers-saved p formed fit h number lo code clear limit q c o ms s test l odd room hold ended told =
    saved-part p formed fit h number lo code clear limit q c o ms s hold test l odd room ended told
