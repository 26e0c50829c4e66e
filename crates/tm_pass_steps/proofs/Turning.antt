-- The words behind a pass count it, and lead to the next pass or on.
use Rattle.std.proofs.Common.{◌≡◌, ◌≢◌, ◌⊎◌, inl, inr, ℕ, suc, ◌+◌, ◌*◌, ◌<◌, ◌≤◌, Bool, true, false, true≢false}
use Rattle.std.proofs.Common.{◌==◌, eq-eqb, eqb-true, List, [], ◌∷◌, refl, sym, ap, ◌∙◌, subst, arith}
use Rattle.std.specs.Prelude.{if◌then◌else◌}
use Rattle.tm_table.specs.declared.state.Access.TheVariants.{Quiet, Read, Write}
use Rattle.tm_table.specs.Words.{word_of}
use Rattle.tm_plan_cases.specs.declared.program.Program.{Program}
use Rattle.tm_plan_map.specs.Map.{private_at, private_size, save_at}
use Rattle.tm_plan_cases.specs.Shaped.{MasksFit}
use Rattle.tm_world.specs.Place.{harts, case_count, passes, start_of, end_of, exit_of, halt_of}
use Rattle.tm_world.specs.Marks.{Mark, arrivals}
use Rattle.tm_runs.specs.Machine.{State, Entry, Table, get, put, computes, loaded}
use Rattle.tm_runs.specs.Runs.{Takes, Now, At, Does}
use Rattle.tm_runs.specs.World.{world_of, support_at}
use Rattle.tm_runs.proofs.Arrivals.{quiet-off, arrivals-none}
use Rattle.tm_runs.proofs.Compose.{keeps_map}
use Rattle.tm_runs.proofs.Steps.{step_ld, step_sd, step_addi, step_beq_taken, step_beq_on, step_jal, written}
use Rattle.tm_runs.proofs.Steps.{branched, jumped}
use Rattle.tm_runs.proofs.Tables.{put_same, put_other}
use Rattle.tm_runs.proofs.Worlds.{private-dword, own-private}
use Rattle.tm_legal.proofs.Formed.{formed-sizes}
use Rattle.tm_legal.specs.Tame.{Formed}
use Rattle.tm_blocks_base.specs.Instrs.{addi, ld, sd, beq, jump_back}
use Rattle.tm_pass_text.specs.Words.{turn}
use Rattle.tm_pass_way.specs.Facts.{Told}
use Rattle.tm_pass_way.specs.Parts.{Ready, Counts, Leads}
use Rattle.tm_pass_way.specs.Calm.{Clear, HopsTo, LeavesTo, Recalls, IsBelow}
use Rattle.tm_pass_way.proofs.Calm.{IsCalm}
use Rattle.tm_pass_way.proofs.Hopping.{hop-part}
use Rattle.tm_pass_way.proofs.Calm.{private-below}
use Rattle.tm_pass_steps.specs.Turning.{Plain, TurnSite, PassTurns}
use Rattle.tm_pass_steps.proofs.Counting.{counter-places, counter-own, counter-may, counter-free, area-above}
use Rattle.tm_pass_steps.proofs.Counting.{fixed-below}

module _ (p : Program) (formed : Formed p) (fit : MasksFit p.cases p.masks) (h : ℕ) (number : h < harts p)
    (lo set back : ℕ) (site : TurnSite p h lo set back) (limit : ℕ → ℕ) (q c k o : ℕ) (ms : List Mark) (s : State)
    (l : c ≤ case_count p) (pass : k < passes p) (room : o + 6 ≤ limit q)
    (ready : Ready p h lo q c o ms s) (count : s.mem (private_at h + 264) ≡ k) (told : Told p h limit s.log) where
  few : h < 16
  few = let b = (formed-sizes formed).harts in omega arith

  abbrev cell : ℕ
  cell = private_at h + 264

  abbrev K : ℕ
  K = passes p

  few-passes : K ≤ 8
  few-passes = let b = formed.program.cases.passes in omega arith

  here : s.pc ≡ lo
  here = ready.hold.pc

  -- what the words leave, but for where they lead
  abbrev Counted : State → Type 0
  Counted t = t.mem ≡ put s.mem cell (suc k)

  cell-below : IsBelow cell
  unfolding private_size
  cell-below = let b = private-below h few in omega arith

  own : (world_of p h).own cell ≡ true
  unfolding private_size
  own = own-private p h cell (private-dword h cell (omega arith) (omega arith))

  shrink : Clear p h lo (lo + 16)
  shrink = record {
    streams = λ d m. by d (site.clear.streams d m);
    some = site.clear.some;
    exit = by-mark (exit_of p h) site.clear.exit;
    halt = by-mark (halt_of p h) site.clear.halt;
  }
    where
      by : (d : ℕ) → (lo + 20 < start_of p h d) ⊎ (end_of p h d ≤ lo) → (lo + 16 < start_of p h d) ⊎ (end_of p h d ≤ lo)
      by d (inl x) = inl (omega arith)
      by d (inr x) = inr x

      by-mark : (a : ℕ) → (lo + 20 < a) ⊎ (a < lo) → (lo + 16 < a) ⊎ (a < lo)
      by-mark a (inl x) = inl (omega arith)
      by-mark a (inr x) = inr x

  marks : (from place : ℕ) → Plain p h place → arrivals p h from place ≡ []
  marks from place plain =
      arrivals-none p h from place (λ d m. quiet-off p h from place d (site.clear.some d m) (plain.streams d m))
      plain.exit plain.halt

  not-start : (place : ℕ) → Plain p h place → (d : ℕ) → d < case_count p → place ≢ start_of p h d
  not-start place plain d m z = by (plain.streams d m)
    where
      by : (place < start_of p h d) ⊎ (end_of p h d < place) → ⊥
      by (inl x) = omega arith
      by (inr x) = let y = site.clear.some d m in omega arith

  beyond : (hi : ℕ) → lo ≤ hi → hi ≤ lo + 20 → (d : ℕ) → d < case_count p → (hi < start_of p h d) ⊎ (end_of p h d ≤ hi)
  beyond hi a b d m = by (site.clear.streams d m)
    where
      by : (lo + 20 < start_of p h d) ⊎ (end_of p h d ≤ lo) → (hi < start_of p h d) ⊎ (end_of p h d ≤ hi)
      by (inl x) = inl (omega arith)
      by (inr x) = inr (omega arith)

  off : (hi : ℕ) → lo ≤ hi → hi ≤ lo + 20 → hi ≢ exit_of p h
  off hi a b z = by site.clear.exit
    where
      by : (lo + 20 < exit_of p h) ⊎ (exit_of p h < lo) → ⊥
      by (inl x) = omega arith
      by (inr x) = omega arith

  -- the first four words
  module _ (v : ℕ) (is : v ≡ k) where
    abbrev s1 : State
    s1 = loaded (ld 1 264 31) cell v s

    abbrev s2 : State
    s2 = computes (addi 1 1 1) s1 (suc k)

    abbrev s3 : State
    s3 = written (sd 1 264 31) cell s2

    abbrev s4 : State
    s4 = computes (addi 2 0 K) s3 K

    abbrev e1 : Entry
    e1 = record { pc = s.pc; next = s.pc + 4; word = word_of (ld 1 264 31); access = Read cell 8 v; regs = get s1.regs }

    abbrev e2 : Entry
    e2 = record { pc = s.pc + 4; next = s.pc + 4 + 4; word = word_of (addi 1 1 1); access = Quiet; regs = get s2.regs }

    abbrev e3 : Entry
    e3 = record {
      pc = s.pc + 4 + 4;
      next = s.pc + 4 + 4 + 4;
      word = word_of (sd 1 264 31);
      access = Write cell 8 (suc k);
      regs = get s2.regs;
    }

    abbrev e4 : Entry
    e4 = record {
      pc = s.pc + 4 + 4 + 4;
      next = s.pc + 4 + 4 + 4 + 4;
      word = word_of (addi 2 0 K);
      access = Quiet;
      regs = get s4.regs;
    }

    leaves : (place : ℕ) (t : State) → t.pc ≡ place → t.regs ≡ s4.regs → t.mem ≡ s4.mem → LeavesTo p h place s t
    leaves place t a b m = record {
      pc = a;
      base = ap (λ (f : Table). get f 31) b;
      exits = ap (λ (f : Table). f (private_at h + 256)) m ∙ put_other s.mem cell (suc k) (private_at h + 256)
          (λ z. omega arith);
      fixed = λ x e. ap (λ (f : Table). f x) m ∙ put_other s.mem cell (suc k) x (fixed-below p h x formed few e);
    }

    does : (hi : ℕ) → lo + 16 ≤ hi → (e : Entry) → lo ≤ e.pc → e.pc < hi → lo < e.next → e.next ≤ hi → IsCalm h e.access
        → Does lo hi (IsCalm h) e
    does hi m e a b x d f = record { from = a; below = b; least = x; most = d; access = f }

    abbrev last-on : Entry
    last-on = record { pc = s4.pc; next = lo + 24; word = word_of (beq 1 2 8); access = Quiet; regs = get s4.regs }

    hops-on : HopsTo p h lo (lo + 16) (lo + 24) s (branched (beq 1 2 8) (lo + 24) s4)
    hops-on = record {
      entries = e4 ∷ e3 ∷ e2 ∷ e1 ∷ [];
      last = last-on;
      log = refl;
      each = (
        does (lo + 16) (omega arith) e4 (omega (arith, here)) (omega (arith, here)) (omega (arith, here))
            (omega (arith, here)) tt,
        (
          does (lo + 16) (omega arith) e3 (omega (arith, here)) (omega (arith, here)) (omega (arith, here))
              (omega (arith, here)) (refl, counter-own h),
          (
            does (lo + 16) (omega arith) e2 (omega (arith, here)) (omega (arith, here)) (omega (arith, here))
                (omega (arith, here)) tt,
            (
              does (lo + 16) (omega arith) e1 (omega (arith, here)) (omega (arith, here)) (omega (arith, here))
                  (omega (arith, here)) (refl, cell-below),
              tt,
            ),
          ),
        ),
      );
      from = omega (arith, here);
      to = refl;
      access = tt;
      leaves = leaves (lo + 24) (branched (beq 1 2 8) (lo + 24) s4) refl refl refl;
    }

    abbrev s5 : State
    s5 = branched (beq 1 2 8) (s4.pc + 4) s4

    abbrev e5 : Entry
    e5 = record { pc = s4.pc; next = s4.pc + 4; word = word_of (beq 1 2 8); access = Quiet; regs = get s4.regs }

    abbrev back-to : State
    back-to = jumped (jump_back back) set s5

    hops-back : HopsTo p h lo (lo + 20) set s back-to
    hops-back = record {
      entries = e5 ∷ e4 ∷ e3 ∷ e2 ∷ e1 ∷ [];
      last = record {
        pc = s5.pc;
        next = set;
        word = word_of (jump_back back);
        access = Quiet;
        regs = get back-to.regs;
      };
      log = refl;
      each = (
        does (lo + 20) (omega arith) e5 (omega (arith, here)) (omega (arith, here)) (omega (arith, here))
            (omega (arith, here)) tt,
        (
          does (lo + 20) (omega arith) e4 (omega (arith, here)) (omega (arith, here)) (omega (arith, here))
              (omega (arith, here)) tt,
          (
            does (lo + 20) (omega arith) e3 (omega (arith, here)) (omega (arith, here)) (omega (arith, here))
                (omega (arith, here)) (refl, counter-own h),
            (
              does (lo + 20) (omega arith) e2 (omega (arith, here)) (omega (arith, here)) (omega (arith, here))
                  (omega (arith, here)) tt,
              (
                does (lo + 20) (omega arith) e1 (omega (arith, here)) (omega (arith, here)) (omega (arith, here))
                    (omega (arith, here)) (refl, cell-below),
                tt,
              ),
            ),
          ),
        ),
      );
      from = omega (arith, here);
      to = refl;
      access = tt;
      leaves = record {
        pc = refl;
        base = refl;
        exits = put_other s.mem cell (suc k) (private_at h + 256) (λ z. omega arith);
        fixed = λ x e. put_other s.mem cell (suc k) x (fixed-below p h x formed few e);
      };
    }

  at : At (support_at p h) s.pc (turn K back)
  at = subst (λ (a : ℕ). At (support_at p h) a (turn K back)) (sym here) site.code

  runs-on : suc k ≡ K → Takes (world_of p h) (λ t. Unit {0}) (λ t. HopsTo p h lo (lo + 16) (lo + 24) s t
      × Counted t) 6 s
  runs-on last =
      step_ld {w = world_of p h} cell refl at.0 (let z = counter-places h few in
      omega (arith, ready.hold.base, z.2)) (counter-may p h few) (λ v m o'. tt) (λ v m o'.
      let is : v ≡ k = o' own ∙ count in
      let f = few-passes in
      step_addi (suc k) refl at.1.0 (omega (arith, is)) tt
      (step_sd cell refl at.1.1.0 (let z = counter-places h few in
      omega (arith, ready.hold.base, z.2)) (counter-may p h few) (counter-free p h formed few) tt
      (step_addi K refl at.1.1.1.0 (omega arith) tt
      (step_beq_taken (lo + 24) refl at.1.1.1.1.0 last (omega (arith, here)) tt
      (Now (hops-on v is, refl))))))

  runs-back : suc k ≢ K → Takes (world_of p h) (λ t. Unit {0}) (λ t. HopsTo p h lo (lo + 20) set s t × Counted t) 6 s
  runs-back more =
      step_ld {w = world_of p h} cell refl at.0 (let z = counter-places h few in
      omega (arith, ready.hold.base, z.2)) (counter-may p h few) (λ v m o'. tt) (λ v m o'.
      let is : v ≡ k = o' own ∙ count in
      let f = few-passes in
      step_addi (suc k) refl at.1.0 (omega (arith, is)) tt
      (step_sd cell refl at.1.1.0 (let z = counter-places h few in
      omega (arith, ready.hold.base, z.2)) (counter-may p h few) (counter-free p h formed few) tt
      (step_addi K refl at.1.1.1.0 (omega arith) tt
      (step_beq_on refl at.1.1.1.1.0 more tt
      (step_jal set refl at.1.1.1.1.1.0 (let r = site.reach in let b = site.some in omega (arith, here)) tt
      (Now (hops-back v is, refl)))))))

  counts : (t : State) → Counted t → Recalls p h s t → Counts p h (suc k) s t
  counts t m r = record {
    left = r.left;
    read = r.read;
    area = λ j i a b. ap (λ (f : Table). f (save_at h j + 8 * i)) m ∙ put_other s.mem cell (suc k) (save_at h j + 8 * i)
        (area-above h j i);
    counter = ap (λ (f : Table). f cell) m ∙ put_same s.mem cell (suc k);
  }

  pub turns : Leads p h limit s (λ t. Ready p h (if suc k == K then lo + 24 else set) q c (o + 6) ms t
      × Counts p h (suc k) s t × Told p h limit t.log)
  turns = by (suc k == K) refl
    where
      by : (b : Bool) → (suc k == K) ≡ b
          → Leads p h limit s (λ t. Ready p h (if b then lo + 24 else set) q c (o + 6) ms t × Counts p h (suc k) s t
          × Told p h limit t.log)
      by true e =
          keeps_map (λ t g. g) (λ t g. (g.1, counts t g.0 g.2, g.3))
          (hop-part p formed fit h number limit lo (lo + 16) (lo + 24) shrink
          (off (lo + 16) (omega arith) (omega arith)) (omega arith) (beyond (lo + 16) (omega arith) (omega arith))
          (not-start (lo + 24) site.behind) site.behind.halt (marks (lo + 16) (lo + 24) site.behind) q c o 6 ms l
          room {Q = Counted} s ready told (runs-on (eqb-true (suc k) K e)))
      by false e =
          keeps_map (λ t g. g) (λ t g. (g.1, counts t g.0 g.2, g.3))
          (hop-part p formed fit h number limit lo (lo + 20) set site.clear (off (lo + 20) (omega arith) (omega arith))
          (omega arith) (beyond (lo + 20) (omega arith) (omega arith)) (not-start set site.first) site.first.halt
          (marks (lo + 20) set site.first) q c o 6 ms l room {Q = Counted} s ready told
          (runs-back (λ z. absurd (true≢false (sym (eq-eqb (suc k) K z) ∙ e)))))

pub pass-turns : (p : Program) → PassTurns p
pass-turns p formed fit h number lo set back site limit q c k o ms s l pass room ready count told =
    turns p formed fit h number lo set back site limit q c k o ms s l pass room ready count told
