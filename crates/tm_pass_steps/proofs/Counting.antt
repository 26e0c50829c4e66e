-- The word that sets the pass counter to 0 does so as the hart's way asks for it.
use Rattle.std.proofs.Common.{◌≡◌, ◌≢◌, ℕ, ◌+◌, ◌*◌, ◌%◌, ◌<◌, ◌≤◌, true, false, List, [], ◌∷◌, refl, sym, ap, ◌∙◌}
use Rattle.std.proofs.Common.{subst, arith}
use Rattle.tm_plan_cases.specs.declared.program.Program.{Program}
use Rattle.tm_plan_map.specs.Map.{guest_base, guest_end, private_at, private_size, save_at}
use Rattle.tm_plan_cases.specs.Shaped.{MasksFit}
use Rattle.tm_world.specs.Place.{harts, case_count}
use Rattle.tm_world.specs.Marks.{Mark}
use Rattle.tm_runs.specs.Machine.{State, MayAccess}
use Rattle.tm_runs.specs.Runs.{Takes, Now, At, Within}
use Rattle.tm_runs.specs.World.{world_of, support_at, is_fixed_dword}
use Rattle.tm_runs.proofs.Compose.{keeps_map}
use Rattle.tm_runs.proofs.Places.{fixed-place, guest-true}
use Rattle.tm_runs.proofs.Steps.{step_sd, written}
use Rattle.tm_runs.proofs.Tables.{put_same, put_other}
use Rattle.tm_runs.proofs.Worlds.{not-fixed}
use Rattle.tm_legal.proofs.Formed.{formed-sizes}
use Rattle.tm_legal.specs.Tame.{Formed}
use Rattle.tm_pass_text.specs.Words.{reset}
use Rattle.tm_pass_way.specs.Facts.{Told}
use Rattle.tm_pass_way.specs.Parts.{Ready, Counts, Leads}
use Rattle.tm_pass_way.specs.Calm.{Clear, LeavesTo, IsOwn}
use Rattle.tm_pass_way.proofs.Calm.{IsCalm}
use Rattle.tm_pass_way.proofs.Lift.{calm-part}
use Rattle.tm_pass_steps.specs.Counting.{CounterIsReset}

-- ---- the counter's dword

pub counter-places : (h : ℕ) → h < 16 → ((private_at h + 264) % 8 ≡ 0) × (0x80C00000 ≤ private_at h + 264)
    × (private_at h + 272 ≤ 0x81000000)
unfolding private_at
counter-places h l = (omega arith, omega arith, omega arith)

pub counter-own : (h : ℕ) → IsOwn h (private_at h + 264)
unfolding private_size
counter-own h = (omega arith, omega arith)

pub counter-may : (p : Program) (h : ℕ) → h < 16 → MayAccess (world_of p h) (private_at h + 264)
unfolding guest_base guest_end
counter-may p h l = let c = counter-places h l in
    (c.0, guest-true (private_at h + 264) (omega (arith, c.1)) (omega (arith, c.2)))

pub counter-free : (p : Program) (h : ℕ) → Formed p → h < 16 → is_fixed_dword p (private_at h + 264) ≡ false
counter-free p h formed l = not-fixed p (private_at h + 264) (formed-sizes formed) (let c = counter-places h l in
    omega (arith, c.1))

pub area-above : (h k i : ℕ) → save_at h k + 8 * i ≢ private_at h + 264
unfolding save_at
area-above h k i z = omega arith

pub fixed-below : (p : Program) (h a : ℕ) → Formed p → h < 16 → is_fixed_dword p a ≡ true → a ≢ private_at h + 264
fixed-below p h a formed l e z = let f = fixed-place p a (formed-sizes formed) e in let c = counter-places h l in
    omega (arith, c.1)

module _ (p : Program) (formed : Formed p) (fit : MasksFit p.cases p.masks) (h : ℕ) (number : h < harts p) (lo : ℕ)
    (code : At (support_at p h) lo (reset ∷ [])) (clear : Clear p h lo (lo + 4)) (limit : ℕ → ℕ) where
  few : h < 16
  few = let b = (formed-sizes formed).harts in omega arith

  abbrev cell : ℕ
  cell = private_at h + 264

  pub resets : (q c o : ℕ) (ms : List Mark) (s : State) → c ≤ case_count p → o + 1 ≤ limit q → Ready p h lo q c o ms s
      → Told p h limit s.log
      → Leads p h limit s (λ t. Ready p h (lo + 4) q c (o + 1) ms t × Counts p h 0 s t × Told p h limit t.log)
  resets q c o ms s l room ready told =
      keeps_map (λ t g. g)
      (λ t g. (
        g.1,
        record {
          left = g.2.left;
          read = g.2.read;
          area = λ j i a b. ap (λ (x : State). x.mem (save_at h j + 8 * i)) g.0 ∙ put_other s.mem cell 0
              (save_at h j + 8 * i) (area-above h j i);
          counter =
              ap (λ (x : State). x.mem cell) g.0 ∙ put_same s.mem cell 0;
        },
        g.3,
      ))
      (calm-part p formed fit h number limit lo (lo + 4) clear {Q = λ t. t ≡ there} {n = 1} q c o (lo + 4) ms s l room
      ready told takes (λ t e. subst (LeavesTo p h (lo + 4) s) (sym e) leaves))
    where
      there : State
      there = written reset cell s

      takes : Takes (world_of p h) (Within lo (lo + 4) (IsCalm h)) (λ t. t ≡ there) 1 s
      takes =
          step_sd cell refl (ap (support_at p h) ready.hold.pc ∙ code.0) (let z = counter-places h few in
          omega (arith, ready.hold.base, z.2)) (counter-may p h few) (counter-free p h formed few)
          (record {
            from = omega (arith, ready.hold.pc);
            below = omega (arith, ready.hold.pc);
            least = omega (arith, ready.hold.pc);
            most = omega (arith, ready.hold.pc);
            access =
                (refl, counter-own h);
          }) (Now refl)

      leaves : LeavesTo p h (lo + 4) s there
      leaves = record {
        pc = omega (arith, ready.hold.pc);
        base = refl;
        exits = put_other s.mem cell 0 (private_at h + 256) (λ z. omega arith);
        fixed = λ a e. put_other s.mem cell 0 a (fixed-below p h a formed few e);
      }

pub counter-reset : (p : Program) → CounterIsReset p
counter-reset p formed fit h number lo code clear limit q c o ms s l room ready told =
    resets p formed fit h number lo code clear limit q c o ms s l room ready told
