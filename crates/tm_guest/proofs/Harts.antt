-- One step more of each hart's state, its phase, and whether it has signalled in it.
use Rattle.std.proofs.Common.{◌≡◌, ℕ, suc, ◌≤◌, ◌<◌, List, [], ◌∷◌, Bool, true, false, ◌||◌, ◌==◌, ◌⊎◌, inl, inr}
use Rattle.std.proofs.Common.{refl, sym, ap, ◌∙◌, subst, length, get_or, set, arith, get_or-set_same}
use Rattle.std.proofs.Common.{get_or-set_other}
use Rattle.std.specs.Prelude.{if◌then◌else◌}
use Rattle.std.proofs.lemmas.Bool.{cases_eq}
use Rattle.std.proofs.Math.ListN.{length-set}
use Rattle.tm_table.specs.State.{hart_of as hart_in}
use Rattle.tm_plan_cases.specs.declared.program.Program.{Program}
use Rattle.tm_base.specs.Lists.{any}
use Rattle.tm_world.specs.Place.{harts, exit_of}
use Rattle.tm_world.specs.Run.{Step, own, hart_of, pc_of, access_of, now, phase, in_phase, first_state}
use Rattle.tm_world.specs.Kinds.{writes_flag}
use Rattle.tm_world.specs.Course.{signals, this_phase}
use Rattle.tm_legal.proofs.Own.{own-here, own-there}
use Rattle.tm_legal.proofs.Phases.{in_phase-here, in_phase-there, in_phase-above}
use Rattle.tm_guest.specs.declared.hart.HartState.{HartState}
use Rattle.tm_world.specs.Replay.{opening, state_after}
use Rattle.tm_guest.specs.Fields.{IsState, AreStates}
use Rattle.tm_guest.specs.Waiting.{phase_after, signalled_after}

-- ---- states

pub state-here : (h : ℕ) (s : Step) (past : List Step) → hart_of s ≡ h → state_after (s ∷ past) h ≡ s.after
state-here h s past e = ap (now (first_state (opening h))) (own-here h s past e)

pub state-there : (h : ℕ) (s : Step) (past : List Step) → (hart_of s ≡ h → ⊥)
    → state_after (s ∷ past) h ≡ state_after past h
state-there h s past e = ap (now (first_state (opening h))) (own-there h s past e)

-- ---- harts

-- What a step of hart h leaves of it: its state, its phase, and whether it has signalled in it.
pub record IsAfter (p : Program) (h : ℕ) (s : Step) (old new : HartState) : Type 0 where
  pub state : hart_in new.cpu ≡ s.after
  pub exits : new.phase ≡ phase_after (exit_of p h) (pc_of s) old.phase
  pub flag : new.signalled ≡ signalled_after (exit_of p h) h s.event old.signalled

-- a step more in the phase
signals-more : (x h : ℕ) (s : Step) (past : List Step)
    → any (signals h) (in_phase x (phase x (s ∷ past)) (s ∷ past))
    ≡ signalled_after x h s.event (any (signals h) (in_phase x (phase x past) past))
signals-more x h s past = by (pc_of s == x)
  where
    at : (b : Bool) → ℕ
    at b = if b then suc (phase x past) else phase x past

    by : (b : Bool) → any (signals h) (in_phase x (at b) (s ∷ past))
        ≡ (if b then false else (writes_flag h (access_of s) || any (signals h) (in_phase x (phase x past) past)))
    by true =
        let q = suc (phase x past) in
        ap (any (signals h)) (in_phase-there x q s past (λ e. omega arith) ∙ in_phase-above x q past (omega arith))
    by false = ap (any (signals h)) (in_phase-here x (phase x past) s past refl)

state-more : (p : Program) (h : ℕ) (s : Step) (past : List Step) (old new : HartState) → hart_of s ≡ h
    → IsAfter p h s old new → IsState p past h old → IsState p (s ∷ past) h new
state-more p h s past old new e a is =
    let x = exit_of p h in
    let grown = own-here h s past e in
    record {
      state = a.state ∙ sym (state-here h s past e);
      exits = a.exits ∙ (ap (phase_after x (pc_of s)) is.exits ∙ sym (ap (phase x) grown));
      flag = a.flag ∙ (ap (signalled_after x h s.event) is.flag ∙ (sym (signals-more x h s (own h past))
          ∙ sym (ap (λ (steps : List Step). any (signals h) (this_phase p h steps)) grown)));
    }

state-other : (p : Program) (h : ℕ) (s : Step) (past : List Step) (old : HartState) → (hart_of s ≡ h → ⊥)
    → IsState p past h old → IsState p (s ∷ past) h old
state-other p h s past old n is =
    let same = sym (own-there h s past n) in
    record {
      state = is.state ∙ sym (state-there h s past n);
      exits = is.exits ∙ ap (phase (exit_of p h)) same;
      flag = is.flag ∙ ap (λ (steps : List Step). any (signals h) (this_phase p h steps)) same;
    }

pub states-more : (p : Program) (h : ℕ) (s : Step) (past : List Step) (states : List HartState) (old new : HartState)
    → h < harts p → hart_of s ≡ h → old ≡ get_or states h old → IsAfter p h s old new
    → AreStates p past states → AreStates p (s ∷ past) (set states h new)
states-more p h s past states old new l e was after a = record {
  count = length-set states h new ∙ a.count;
  each = λ g d m. by g d m (cases_eq g h);
}
  where
    by : (g : ℕ) (d : HartState) → g < harts p → (g ≡ h) ⊎ (g ≡ h → ⊥)
        → IsState p (s ∷ past) g (get_or (set states h new) g d)
    by g d m (inl q) =
        let room : h < length states = subst (λ (n : ℕ). h < n) (sym a.count) l in
        let is : IsState p past h old = subst (IsState p past h) (sym was) (a.each h old l) in
        subst (λ (k : ℕ). IsState p (s ∷ past) k (get_or (set states h new) k d)) (sym q)
        (subst (IsState p (s ∷ past) h) (sym (get_or-set_same states h new d room))
        (state-more p h s past old new e after is))
    by g d m (inr n) =
        subst (IsState p (s ∷ past) g) (sym (get_or-set_other states h g new d n))
        (state-other p g s past (get_or states g d) (λ q. n (sym q ∙ e)) (a.each g d m))

-- ---- phases are few

pub phase-few : (x h : ℕ) (steps : List Step) → phase x (own h steps) ≤ length steps
phase-few x h [] = omega arith
phase-few x h (s ∷ past) = by (cases_eq (hart_of s) h) (phase-few x h past)
  where
    at : (b : Bool) → phase x (own h past) ≤ length past
        → (if b then suc (phase x (own h past)) else phase x (own h past)) ≤ length (s ∷ past)
    at true l = omega arith
    at false l = omega arith

    by : (hart_of s ≡ h) ⊎ (hart_of s ≡ h → ⊥) → phase x (own h past) ≤ length past
        → phase x (own h (s ∷ past)) ≤ length (s ∷ past)
    by (inl e) l =
        subst (λ (steps : List Step). phase x steps ≤ length (s ∷ past)) (sym (own-here h s past e))
        (at (pc_of s == x) l)
    by (inr n) l =
        subst (λ (steps : List Step). phase x steps ≤ length (s ∷ past)) (sym (own-there h s past n)) (omega arith)
