-- The harts of a recorded run, one event more.
use Rattle.std.proofs.Common.{◌≡◌, ℕ, suc, ◌+◌, ◌^◌, ◌<◌, ◌≤◌, List, [], ◌∷◌, Bool, true, false, ◌==◌, ◌⊎◌, inl, inr}
use Rattle.std.proofs.Common.{refl, sym, ap, ◌∙◌, subst, length, get_or, set, arith, get_or-set_same, get_or-set_other}
use Rattle.std.specs.Prelude.{if◌then◌else◌}
use Rattle.std.proofs.lemmas.Bool.{cases_eq}
use Rattle.std.proofs.Math.ListN.{length-set}
use Rattle.tm_table.specs.State.{Hart}
use Rattle.tm_plan_cases.specs.declared.program.Program.{Program}
use Rattle.tm_plan_cases.specs.declared.event.Event.{Event}
use Rattle.tm_world.specs.Place.{harts, exit_of}
use Rattle.tm_world.specs.Run.{Step, own, hart_of, pc_of, access_of, now, phase, first_state}
use Rattle.tm_world.specs.Kinds.{writes_flag, flag_writes, phase_of}
use Rattle.tm_legal.proofs.Own.{own-here, own-there}
use Rattle.tm_world.specs.Replay.{opening, state_after}
use Rattle.tm_guest.specs.Waiting.{phase_after}
use Rattle.tm_guest.proofs.Harts.{phase-few}
use Rattle.tm_judge.specs.declared.bench.Seat.{Seat}
use Rattle.tm_judge.specs.Bench.{IsSeat, AreSeats, AreOpened, IsNoted, AreNoted, signals_after}

seat-here : (p : Program) (s : Step) (past : List Step) (old new : Seat)
    → IsNoted (exit_of p (hart_of s)) s.event s.after old new → IsSeat p past (hart_of s) old
    → IsSeat p (s ∷ past) (hart_of s) new
seat-here p s past old new a is =
    let h = hart_of s in
    let x = exit_of p h in
    let grown = own-here h s past refl in
    record {
      state = a.state ∙ sym (ap (now (first_state (opening h))) grown);
      exits = a.exits ∙ (ap (phase_after x (pc_of s)) is.exits ∙ sym (ap (phase x) grown));
      flags = a.flags ∙ (ap (signals_after h (access_of s)) is.flags ∙ sym (ap (flag_writes h) grown));
    }

seat-there : (p : Program) (h : ℕ) (s : Step) (past : List Step) (old : Seat) → (hart_of s ≡ h → ⊥)
    → IsSeat p past h old → IsSeat p (s ∷ past) h old
seat-there p h s past old n is =
    let same = sym (own-there h s past n) in
    record {
      state = is.state ∙ ap (now (first_state (opening h))) same;
      exits = is.exits ∙ ap (phase (exit_of p h)) same;
      flags = is.flags ∙ ap (flag_writes h) same;
    }

pub seats-more : (p : Program) (s : Step) (past : List Step) (olds news : List Seat) → hart_of s < harts p
    → AreNoted (exit_of p (hart_of s)) s.event s.after olds news → AreSeats p past olds → AreSeats p (s ∷ past) news
seats-more p s past olds news l k a = subst (AreSeats p (s ∷ past)) (sym k.set) (record {
  count = length-set olds (hart_of s) k.new ∙ a.count;
  each = λ g d m. by g d m (cases_eq g (hart_of s));
})
  where
    by : (g : ℕ) (d : Seat) → g < harts p → (g ≡ hart_of s) ⊎ (g ≡ hart_of s → ⊥)
        → IsSeat p (s ∷ past) g (get_or (set olds (hart_of s) k.new) g d)
    by g d m (inl q) =
        let h = hart_of s in
        let room : h < length olds = subst (λ (n : ℕ). h < n) (sym a.count) l in
        let is : IsSeat p past h k.old = subst (IsSeat p past h) (sym k.was) (a.each h k.old l) in
        subst (λ (j : ℕ). IsSeat p (s ∷ past) j (get_or (set olds h k.new) j d)) (sym q)
        (subst (IsSeat p (s ∷ past) h) (sym (get_or-set_same olds h k.new d room))
        (seat-here p s past k.old k.new k.noted is))
    by g d m (inr n) =
        subst (IsSeat p (s ∷ past) g) (sym (get_or-set_other olds (hart_of s) g k.new d n))
        (seat-there p g s past (get_or olds g d) (λ q. n (sym q)) (a.each g d m))

-- before the first step
pub seats-open : (p : Program) (seats : List Seat) → AreOpened (harts p) seats → AreSeats p [] seats
seats-open p seats o = record {
  count = o.count;
  each = λ h d l. let k = o.each h d l in record { state = k.state; exits = k.exits; flags = k.flags };
}

-- ---- counts are few

pub flags-few : (h : ℕ) (steps : List Step) → flag_writes h (own h steps) ≤ length steps
flags-few h [] = omega arith
flags-few h (s ∷ past) = by (cases_eq (hart_of s) h) (flags-few h past)
  where
    at : (b : Bool) → flag_writes h (own h past) ≤ length past
        → (if b then suc (flag_writes h (own h past)) else flag_writes h (own h past)) ≤ length (s ∷ past)
    at true l = omega arith
    at false l = omega arith

    by : (hart_of s ≡ h) ⊎ (hart_of s ≡ h → ⊥) → flag_writes h (own h past) ≤ length past
        → flag_writes h (own h (s ∷ past)) ≤ length (s ∷ past)
    by (inl e) l =
        subst (λ (steps : List Step). flag_writes h steps ≤ length (s ∷ past)) (sym (own-here h s past e))
        (at (writes_flag h (access_of s)) l)
    by (inr n) l =
        subst (λ (steps : List Step). flag_writes h steps ≤ length (s ∷ past)) (sym (own-there h s past n))
        (omega arith)

-- so each has room for one more
pub seat-room : (p : Program) (past : List Step) (seats : List Seat) (h : ℕ) (d : Seat) → AreSeats p past seats
    → h < harts p → length past ≤ 100000000
    → ((get_or seats h d).phase + 1 < 2 ^ 64) × ((get_or seats h d).signals + 1 < 2 ^ 64)
seat-room p past seats h d a l few =
    let is = a.each h d l in
    let x = phase-few (exit_of p h) h past in
    let y = flags-few h past in
    (omega (arith, is.exits, x, few), omega (arith, is.flags, y, few))

-- the hart that stands at a place
pub seat-at : (p : Program) (past : List Step) (seats : List Seat) (h : ℕ) (s : Seat) → AreSeats p past seats
    → h < harts p → s ≡ get_or seats h s → IsSeat p past h s
seat-at p past seats h s a l at = subst (IsSeat p past h) (sym at) (a.each h s l)
