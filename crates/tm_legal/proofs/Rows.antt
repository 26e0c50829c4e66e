-- A row of the table leaves a machine state, and the effects of ops are those that their kinds say.
use Rattle.std.proofs.Common.{◌≡◌, ◌≢◌, ℕ, zero, suc, ◌+◌, ◌^◌, ◌<◌, ◌≤◌, List, length, Bool, true, false, true≢false}
use Rattle.std.proofs.Common.{◌⊎◌, inl, inr, refl, sym, ap, ◌∙◌, subst, arith}
use Rattle.std.specs.Prelude.{slice_index, if◌then◌else◌}
use Rattle.std.proofs.Math.ListN.{set}
use Rattle.std.proofs.lemmas.Bool.{cases_eq, cases_lt}
use Rattle.std.proofs.lemmas.List.{get_or-set_same, get_or-set_other, length-set, set_past}
use Rattle.tm_runs.proofs.Registers.{width-fits}
use Rattle.tm_table.specs.declared.instr.Op.{Op}
use Rattle.tm_table.specs.declared.instr.Op.TheVariants.{Jal, Jalr, Beq, Bne, Blt, Bge, Bltu, Bgeu, Lb, Lh, Lw, Ld}
use Rattle.tm_table.specs.declared.instr.Op.TheVariants.{Lbu, Lhu, Lwu, Sb, Sh, Sw, Sd, Fence, Ecall, Ebreak}
use Rattle.tm_table.specs.State.{Hart}
use Rattle.tm_table.specs.Row.{Effect, Gives, Loads, Stores, Branches, Jumps, effect, word64, loaded, put, after}
use Rattle.tm_table.proofs.Bounds.{effect-bounded}
use Rattle.tm_table.proofs.Signs.{low-lt}
use Rattle.tm_plan_map.specs.Slots.{load_width, store_width, is_access, is_barred, is_jump}
use Rattle.tm_world.specs.Run.{HasShape, IsFitting}

-- ---- registers

pub put-zero : (x : List ℕ) (rd v : ℕ) → slice_index (put x rd v) 0 ≡ slice_index x 0
unfolding put
put-zero x zero v = refl
put-zero x (suc r) v = get_or-set_other x (suc r) 0 v 0 (λ e. omega arith)

pub put-other : (x : List ℕ) (rd v r : ℕ) → r ≢ rd → slice_index (put x rd v) r ≡ slice_index x r
unfolding put
put-other x zero v r n = refl
put-other x (suc q) v r n = get_or-set_other x (suc q) r v 0 n

pub put-length : (x : List ℕ) (rd v : ℕ) → length (put x rd v) ≡ length x
unfolding put
put-length x zero v = refl
put-length x (suc q) v = length-set x (suc q) v

pub put-fits : (x : List ℕ) (rd v : ℕ) → ((r : ℕ) → slice_index x r < 2 ^ 64) → v < 2 ^ 64 → (r : ℕ)
    → slice_index (put x rd v) r < 2 ^ 64
unfolding put
put-fits x zero v h small r = h r
put-fits x (suc q) v h small r = by (cases_eq r (suc q)) (cases_lt (suc q) (length x))
  where
    by : (r ≡ suc q) ⊎ (r ≡ suc q → ⊥) → (suc q < length x) ⊎ (length x ≤ suc q)
        → slice_index (set x (suc q) v) r < 2 ^ 64
    by (inr n) o = subst (λ (n : ℕ). n < 2 ^ 64) (sym (get_or-set_other x (suc q) r v 0 n)) (h r)
    by (inl e) (inl l) =
        subst (λ (n : ℕ). n < 2 ^ 64)
        (sym (ap (λ (k : ℕ). slice_index (set x (suc q) v) k) e ∙ get_or-set_same x (suc q) v 0 l)) small
    by (inl e) (inr l) =
        subst (λ (n : ℕ). n < 2 ^ 64) (sym (ap (λ (y : List ℕ). slice_index y r) (set_past x (suc q) v l))) (h r)

-- ---- effects

word64-lt : (n : ℕ) → word64 n < 2 ^ 64
word64-lt n = omega arith

-- what an op's effect is, by the op's kind: at pc, with first source a and immediate n
abbrev pub IsOfKind : Op → ℕ → ℕ → ℕ → Effect → Type 0
IsOfKind op pc a n (Gives value) = value < 2 ^ 64
IsOfKind op pc a n (Loads addr width with_sign) = (addr ≡ word64 (a + n)) × (width ≡ load_width op)
    × (store_width op ≡ 0) × (is_access op ≡ true)
IsOfKind op pc a n (Stores addr width value) = (addr ≡ word64 (a + n)) × (width ≡ store_width op) × (load_width op ≡ 0)
    × (is_access op ≡ true)
IsOfKind op pc a n (Branches taken) = taken ≡ true → is_jump op ≡ true
IsOfKind op pc a n (Jumps link goes) = (link < 2 ^ 64) × (goes < 2 ^ 64)
    × (is_barred op ≡ false → (is_jump op ≡ true) × (goes ≡ word64 (pc + n)))

pub of-kind : (op : Op) (pc a b n : ℕ) → a < 2 ^ 64 → b < 2 ^ 64 → n < 2 ^ 64 → IsOfKind op pc a n (effect op pc a b n)
unfolding effect
of-kind Lb pc a b n p q r = (refl, refl, refl, refl)
of-kind Lh pc a b n p q r = (refl, refl, refl, refl)
of-kind Lw pc a b n p q r = (refl, refl, refl, refl)
of-kind Ld pc a b n p q r = (refl, refl, refl, refl)
of-kind Lbu pc a b n p q r = (refl, refl, refl, refl)
of-kind Lhu pc a b n p q r = (refl, refl, refl, refl)
of-kind Lwu pc a b n p q r = (refl, refl, refl, refl)
of-kind Sb pc a b n p q r = (refl, refl, refl, refl)
of-kind Sh pc a b n p q r = (refl, refl, refl, refl)
of-kind Sw pc a b n p q r = (refl, refl, refl, refl)
of-kind Sd pc a b n p q r = (refl, refl, refl, refl)
of-kind Beq pc a b n p q r = λ _. refl
of-kind Bne pc a b n p q r = λ _. refl
of-kind Blt pc a b n p q r = λ _. refl
of-kind Bge pc a b n p q r = λ _. refl
of-kind Bltu pc a b n p q r = λ _. refl
of-kind Bgeu pc a b n p q r = λ _. refl
of-kind Fence pc a b n p q r = λ e. absurd (true≢false (sym e))
of-kind Ecall pc a b n p q r = λ e. absurd (true≢false (sym e))
of-kind Ebreak pc a b n p q r = λ e. absurd (true≢false (sym e))
of-kind Jal pc a b n p q r = (word64-lt _, word64-lt _, λ _. (refl, refl))
of-kind Jalr pc a b n p q r = (word64-lt _, omega arith, λ e. absurd (true≢false e))
of-kind op pc a b n p q r = effect-bounded op pc a b n p q r

-- ---- machine states

-- 32 registers of 64 bits, of which x0 is 0, and a program counter of 64 bits
pub record IsMachine (hart : Hart) : Type 0 where
  pub count : length hart.x ≡ 32
  pub fits : (r : ℕ) → slice_index hart.x r < 2 ^ 64
  pub zero : slice_index hart.x 0 ≡ 0
  pub counter : hart.pc < 2 ^ 64

loaded-fits : (with_sign : Bool) (width value : ℕ) → IsFitting width value → loaded with_sign width value < 2 ^ 64
loaded-fits false width value f = width-fits width value f
loaded-fits true width value f = low-lt 64 _

put-machine : (hart : Hart) (pc rd v : ℕ) → IsMachine hart → v < 2 ^ 64 → pc < 2 ^ 64
    → IsMachine (record { pc = pc; x = put hart.x rd v })
put-machine hart pc rd v m small l = record {
  count = put-length hart.x rd v ∙ m.count;
  fits = put-fits hart.x rd v m.fits small;
  zero = put-zero hart.x rd v ∙ m.zero;
  counter = l;
}

moved-machine : (hart : Hart) (pc : ℕ) → IsMachine hart → pc < 2 ^ 64 → IsMachine (record { pc = pc; x = hart.x })
moved-machine hart pc m l = record { count = m.count; fits = m.fits; zero = m.zero; counter = l }

-- An effect of an op's kind leaves a machine state.
pub after-machine : (op : Op) (pc a : ℕ) (e : Effect) (hart : Hart) (rd n read : ℕ) → IsOfKind op pc a n e
    → IsMachine hart → HasShape (after e hart rd n read).1 → IsMachine (after e hart rd n read).0
unfolding after
after-machine op pc a (Gives value) hart rd n read k m s =
    put-machine hart (word64 (hart.pc + 4)) rd value m k (word64-lt _)
after-machine op pc a (Loads addr width with_sign) hart rd n read k m s =
    put-machine hart (word64 (hart.pc + 4)) rd (loaded with_sign width read) m (loaded-fits with_sign width read s)
    (word64-lt _)
after-machine op pc a (Stores addr width value) hart rd n read k m s =
    moved-machine hart (word64 (hart.pc + 4)) m (word64-lt _)
after-machine op pc a (Branches taken) hart rd n read k m s = moved-machine hart _ m (by taken)
  where
    by : (b : Bool) → (if b then word64 (hart.pc + n) else word64 (hart.pc + 4)) < 2 ^ 64
    by true = word64-lt _
    by false = word64-lt _
after-machine op pc a (Jumps link goes) hart rd n read k m s = put-machine hart goes rd link m k.0 k.1

-- and the registers other than rd as they were
pub after-others : (e : Effect) (hart : Hart) (rd n read r : ℕ) → r ≢ rd → slice_index (after e hart rd n read).0.x r
    ≡ slice_index hart.x r
unfolding after
after-others (Gives value) hart rd n read r d = put-other hart.x rd value r d
after-others (Loads addr width with_sign) hart rd n read r d = put-other hart.x rd (loaded with_sign width read) r d
after-others (Stores addr width value) hart rd n read r d = refl
after-others (Branches taken) hart rd n read r d = refl
after-others (Jumps link goes) hart rd n read r d = put-other hart.x rd link r d
