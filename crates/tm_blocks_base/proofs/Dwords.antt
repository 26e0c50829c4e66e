-- Registers and dwords of a state, the accesses of a log, and steps inside a range of words.
use Rattle.std.proofs.Common.{◌≡◌, ◌≢◌, ℕ, suc, ◌+◌, ◌*◌, ◌^◌, ◌<◌, ◌≤◌, Bool, true, false, List, [], ◌∷◌, length}
use Rattle.std.proofs.Common.{refl, sym, ◌∙◌, arith, subst}
use Rattle.std.specs.Prelude.{nat_eq}
use Rattle.std.proofs.lemmas.Bool.{eqb-true, eqb-false}
use Rattle.tm_table.specs.declared.instr.Instr.{Instr}
use Rattle.tm_table.specs.declared.state.Access.{Access}
use Rattle.tm_table.specs.declared.state.Access.TheVariants.{Quiet, Read, Write}
use Rattle.tm_runs.specs.Machine.{World, State, Table, put, get, computes, loaded, MayAccess}
use Rattle.tm_runs.specs.Runs.{Within, IsQuiet}
use Rattle.tm_runs.proofs.Compose.{within_map}
use Rattle.tm_runs.proofs.Steps.{branched}
use Rattle.tm_runs.proofs.Tables.{put_other, get_put_fits}
use Rattle.tm_blocks_base.specs.Laws.{Uses, Usable, stored_all}

-- every register has 64 bits
abbrev pub Fit : Table → Type 0
Fit f = (r : ℕ) → get f r < 2 ^ 64

pub fit_put : (f : Table) (r v : ℕ) → v < 2 ^ 64 → Fit f → Fit (put f r v)
fit_put f r v small h = get_put_fits f r v h small

-- where three registers alone change
pub fit_three : (f g : Table) → get g 6 < 2 ^ 64 → get g 7 < 2 ^ 64 → get g 8 < 2 ^ 64
    → ((r : ℕ) → r ≢ 6 → r ≢ 7 → r ≢ 8 → get g r ≡ get f r) → Fit f → Fit g
fit_three f g six seven eight same h r = by6 (nat_eq r 6) refl
  where
    by8 : (b : Bool) → nat_eq r 8 ≡ b → r ≢ 6 → r ≢ 7 → get g r < 2 ^ 64
    by8 true e n6 n7 = subst (λ (x : ℕ). get g x < 2 ^ 64) (sym (eqb-true r 8 e)) eight
    by8 false e n6 n7 = subst (λ (x : ℕ). x < 2 ^ 64) (sym (same r n6 n7 (eqb-false r 8 e))) (h r)

    by7 : (b : Bool) → nat_eq r 7 ≡ b → r ≢ 6 → get g r < 2 ^ 64
    by7 true e n6 = subst (λ (x : ℕ). get g x < 2 ^ 64) (sym (eqb-true r 7 e)) seven
    by7 false e n6 = by8 (nat_eq r 8) refl n6 (eqb-false r 7 e)

    by6 : (b : Bool) → nat_eq r 6 ≡ b → get g r < 2 ^ 64
    by6 true e = subst (λ (x : ℕ). get g x < 2 ^ 64) (sym (eqb-true r 6 e)) six
    by6 false e = by7 (nat_eq r 7) refl (eqb-false r 6 e)

-- dword j of those that may be accessed
pub may_at : {w : World} {a n : ℕ} (j x : ℕ) → Usable w a n → j < n → x ≡ a + 8 * j → MayAccess w x
may_at {w = w} j x u l e = rw e ((let al = u.aligned in omega arith), u.guest j l)

-- a step that makes no access, to the next word
pub on_quiet : {lo hi : ℕ} {A : Access → Type 0} (i : Instr) (s : State) (x : ℕ) → A Quiet → lo ≤ s.pc → s.pc + 4 ≤ hi
    → Within lo hi A (computes i s x)
on_quiet i s x q a b = record { from = a; below = omega arith; least = omega arith; most = b; access = q }

pub on_branch : {lo hi : ℕ} {A : Access → Type 0} (i : Instr) (pc : ℕ) (s : State) → A Quiet → lo ≤ s.pc → s.pc + 4 ≤ hi
    → lo < pc → pc ≤ hi → Within lo hi A (branched i pc s)
on_branch i pc s q a b c d = record { from = a; below = omega arith; least = c; most = d; access = q }

-- a load, to the next word
pub on_read : {lo hi : ℕ} {A : Access → Type 0} (i : Instr) (a v : ℕ) (s : State) → A (Read a 8 v) → lo ≤ s.pc
    → s.pc + 4 ≤ hi → Within lo hi A (loaded i a v s)
on_read i a v s r x y = record { from = x; below = omega arith; least = omega arith; most = y; access = r }

-- what a row of stores leaves at the other dwords
pub stored-other : (vs : List ℕ) (mem : Table) (b j x : ℕ) → ((i : ℕ) → j ≤ i → i < j + length vs → x ≢ b + 8 * i)
    → stored_all mem b j vs x ≡ mem x
stored-other [] mem b j x h = refl
stored-other (v ∷ vs) mem b j x h =
    stored-other vs (put mem (b + 8 * j) v) b (suc j) x (λ i p q. h i (omega arith) (omega arith)) ∙ put_other mem
    (b + 8 * j) v x (h j (omega arith) (omega arith))

-- nothing is read or written where no access is made
pub quiet_uses : (lo hi : ℕ) (R W : ℕ → Type 0) (t : State) → Within lo hi IsQuiet t → Within lo hi (Uses R W) t
quiet_uses lo hi R W t h = within_map lo hi lo hi (omega arith) (omega arith) (λ a e. subst (Uses R W) (sym e) tt) t h

-- more reads and writes
pub uses_map : {R W R' W' : ℕ → Type 0} → ((a : ℕ) → R a → R' a) → ((a : ℕ) → W a → W' a) → (x : Access) → Uses R W x
    → Uses R' W' x
uses_map f g Quiet h = tt
uses_map f g (Read a width v) h = (h.0, f a h.1)
uses_map f g (Write a width v) h = (h.0, g a h.1)
