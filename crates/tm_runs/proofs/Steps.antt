-- One step of each kind of instruction. Each rule takes the address or value in plain form, with the equation that
-- says so.
use Rattle.std.proofs.Common.{◌≡◌, ◌≢◌, ℕ, suc, ◌+◌, ◌*◌, ◌/◌, ◌%◌, ◌^◌, ◌<◌, ◌≤◌, Some, Bool, true, false}
use Rattle.std.proofs.Common.{true≢false, not, ◌==◌, nat_lt, refl, sym, ap, ◌∙◌, subst, eqb-true, eq-eqb, ne_eqb}
use Rattle.std.proofs.lemmas.Bool.{ltb-true, ltb-false, lt-ltb, le-ltb}
use Rattle.std.specs.Prelude.{IsTrue, if◌then◌else◌, bit_and, bit_xor}
use Rattle.tm_table.specs.declared.instr.Op.{Op}
use Rattle.tm_table.specs.declared.instr.Op.TheVariants.{Lui, Addi, Slli, Add, Xor, And, Ld, Sd, Beq, Bne, Bltu, Jal}
use Rattle.tm_table.specs.declared.instr.Op.TheVariants.{Jalr, Fence}
use Rattle.tm_table.specs.declared.instr.Instr.{Instr}
use Rattle.tm_table.specs.declared.state.Access.TheVariants.{Quiet, Write}
use Rattle.tm_table.specs.Words.{low}
use Rattle.tm_table.specs.Row.{Effect, Gives, Loads, Stores, Branches, Jumps, effect, word64, sign_extended}
use Rattle.tm_runs.specs.Machine.{World, State, Table, put, get, target, lands, moved, computes, loaded, stored, act}
use Rattle.tm_runs.specs.Machine.{effect_in, MayAccess, MayAct, ReadsAs}
use Rattle.tm_runs.specs.Runs.{Takes, Step}

-- a store at an address that isn't fixed
abbrev pub written : Instr → ℕ → State → State
written i a s = moved i s (Write a 8 (get s.regs i.rs2)) (s.pc + 4) s.regs (put s.mem a (get s.regs i.rs2))

-- a step to an address that changes nothing else
abbrev pub branched : Instr → ℕ → State → State
branched i pc s = moved i s Quiet pc s.regs s.mem

-- a jump with its link
abbrev pub jumped : Instr → ℕ → State → State
jumped i pc s = moved i s Quiet pc (put s.regs i.rd (s.pc + 4)) s.mem

-- the effect of a branch
branches : (i : Instr) (s : State) (op : Op) (b : Bool) → i.op ≡ op
    → effect op s.pc (get s.regs i.rs1) (get s.regs i.rs2) (low 64 i.imm) ≡ Branches b → effect_in i s ≡ Branches b
branches i s op b o is = ap (λ (p : Op). effect p s.pc (get s.regs i.rs1) (get s.regs i.rs2) (low 64 i.imm)) o ∙ is

-- whether two numbers are equal
either : {R : Type 0} (x y : ℕ) (b : Bool) → (x == y) ≡ b → (x ≡ y → R) → (x ≢ y → R) → R
either x y true e f g = f (eqb-true x y e)
either x y false e f g = g (λ q. true≢false (sym (eq-eqb x y q) ∙ e))

-- whether one number is less than another
less : {R : Type 0} (x y : ℕ) (b : Bool) → nat_lt x y ≡ b → (x < y → R) → (y ≤ x → R) → R
less x y true e f g = f (ltb-true x y e)
less x y false e f g = g (ltb-false x y e)

module _ {w : World} {G Q : State → Type 0} {n : ℕ} {s : State} where
  -- a step of a known effect
  step_of : {i : Instr} (e : Effect) → w.text s.pc ≡ Some i → effect_in i s ≡ e → MayAct e w
      → ((v : ℕ) → ReadsAs e w s v → G (act e w i v s)) → ((v : ℕ) → ReadsAs e w s v → Takes w G Q n (act e w i v s))
      → Takes w G Q (suc n) s
  step_of {i = i} e at is =
      subst (λ (x : Effect). MayAct x w → ((v : ℕ) → ReadsAs x w s v → G (act x w i v s))
      → ((v : ℕ) → ReadsAs x w s v → Takes w G Q n (act x w i v s))
      → Takes w G Q (suc n) s) is (λ may g h. Step {n = n} {s = s} i at may g h)

  -- a value into rd
  gives : {i : Instr} (op : Op) (x : ℕ) → i.op ≡ op → w.text s.pc ≡ Some i
      → effect op s.pc (get s.regs i.rs1) (get s.regs i.rs2) (low 64 i.imm) ≡ Gives x → G (computes i s x)
      → Takes w G Q n (computes i s x) → Takes w G Q (suc n) s
  gives {i = i} op x o at is g h =
      step_of (Gives x) at (ap (λ (p : Op). effect p s.pc (get s.regs i.rs1) (get s.regs i.rs2) (low 64 i.imm)) o ∙ is)
      tt (λ _ _. g) (λ _ _. h)

  pub step_lui : {i : Instr} (x : ℕ) → i.op ≡ Lui → w.text s.pc ≡ Some i → sign_extended 31 (low 64 i.imm * 2 ^ 12) ≡ x
      → G (computes i s x) → Takes w G Q n (computes i s x) → Takes w G Q (suc n) s
  unfolding effect
  step_lui x o at is = gives Lui x o at (ap Gives is)

  pub step_addi : {i : Instr} (x : ℕ) → i.op ≡ Addi → w.text s.pc ≡ Some i → word64 (get s.regs i.rs1 + low 64 i.imm)
      ≡ x → G (computes i s x) → Takes w G Q n (computes i s x) → Takes w G Q (suc n) s
  unfolding effect
  step_addi x o at is = gives Addi x o at (ap Gives is)

  pub step_slli : {i : Instr} (x : ℕ) → i.op ≡ Slli → w.text s.pc ≡ Some i
      → word64 (get s.regs i.rs1 * 2 ^ (low 64 i.imm % 64)) ≡ x → G (computes i s x) → Takes w G Q n (computes i s x)
      → Takes w G Q (suc n) s
  unfolding effect
  step_slli x o at is = gives Slli x o at (ap Gives is)

  pub step_add : {i : Instr} (x : ℕ) → i.op ≡ Add → w.text s.pc ≡ Some i → word64 (get s.regs i.rs1 + get s.regs i.rs2)
      ≡ x → G (computes i s x) → Takes w G Q n (computes i s x) → Takes w G Q (suc n) s
  unfolding effect
  step_add x o at is = gives Add x o at (ap Gives is)

  pub step_xor : {i : Instr} (x : ℕ) → i.op ≡ Xor → w.text s.pc ≡ Some i → bit_xor (get s.regs i.rs1) (get s.regs i.rs2)
      ≡ x → G (computes i s x) → Takes w G Q n (computes i s x) → Takes w G Q (suc n) s
  unfolding effect
  step_xor x o at is = gives Xor x o at (ap Gives is)

  pub step_and : {i : Instr} (x : ℕ) → i.op ≡ And → w.text s.pc ≡ Some i → bit_and (get s.regs i.rs1) (get s.regs i.rs2)
      ≡ x → G (computes i s x) → Takes w G Q n (computes i s x) → Takes w G Q (suc n) s
  unfolding effect
  step_and x o at is = gives And x o at (ap Gives is)

  -- a load of the dword at a
  pub step_ld : {i : Instr} (a : ℕ) → i.op ≡ Ld → w.text s.pc ≡ Some i → word64 (get s.regs i.rs1 + low 64 i.imm) ≡ a
      → MayAccess w a → ((v : ℕ) → v < 2 ^ 64 → (IsTrue (w.own a) → v ≡ s.mem a) → G (loaded i a v s))
      → ((v : ℕ) → v < 2 ^ 64 → (IsTrue (w.own a) → v ≡ s.mem a) → Takes w G Q n (loaded i a v s))
      → Takes w G Q (suc n) s
  unfolding effect
  step_ld {i = i} a o at is may g h =
      step_of (Loads a 8 false) at (ap (λ (p : Op). effect p s.pc (get s.regs i.rs1) (get s.regs i.rs2) (low 64 i.imm))
      o ∙ ap (λ (x : ℕ). Loads x 8 false) is) (refl, refl, may) (λ v r. g v r.0 r.1) (λ v r. h v r.0 r.1)

  -- a store of a dword at a
  pub step_sd : {i : Instr} (a : ℕ) → i.op ≡ Sd → w.text s.pc ≡ Some i → word64 (get s.regs i.rs1 + low 64 i.imm) ≡ a
      → MayAccess w a → w.fixed a ≡ false → G (written i a s) → Takes w G Q n (written i a s) → Takes w G Q (suc n) s
  unfolding effect
  step_sd {i = i} a o at is may free g h =
      let same : stored w s.mem a (get s.regs i.rs2) ≡ put s.mem a (get s.regs i.rs2) =
      ap (λ (b : Bool). if b then s.mem else put s.mem a (get s.regs i.rs2)) free in
      let place = λ (m : Table). moved i s (Write a 8 (get s.regs i.rs2)) (s.pc + 4) s.regs m in
      step_of (Stores a 8 (get s.regs i.rs2)) at (ap (λ (p : Op). effect p s.pc (get s.regs i.rs1) (get s.regs i.rs2)
      (low 64 i.imm)) o ∙ ap (λ (x : ℕ). Stores x 8 (get s.regs i.rs2)) is) (refl, may)
      (λ _ _. subst (λ (m : Table). G (place m)) (sym same) g)
      (λ _ _. subst (λ (m : Table). Takes w G Q n (place m)) (sym same) h)

  -- a branch that is taken, and one that is not
  taken : {i : Instr} (pc : ℕ) → w.text s.pc ≡ Some i → effect_in i s ≡ Branches true → target s.pc i.imm ≡ pc
      → G (branched i pc s) → Takes w G Q n (branched i pc s) → Takes w G Q (suc n) s
  taken {i = i} pc at e is g h =
      step_of (Branches true) at e tt (λ _ _. subst (λ (x : ℕ). G (branched i x s)) (sym is) g)
      (λ _ _. subst (λ (x : ℕ). Takes w G Q n (branched i x s)) (sym is) h)

  goes_on : {i : Instr} → w.text s.pc ≡ Some i → effect_in i s ≡ Branches false → G (branched i (s.pc + 4) s)
      → Takes w G Q n (branched i (s.pc + 4) s) → Takes w G Q (suc n) s
  goes_on at e g h = step_of (Branches false) at e tt (λ _ _. g) (λ _ _. h)

  pub step_beq_taken : {i : Instr} (pc : ℕ) → i.op ≡ Beq → w.text s.pc ≡ Some i → get s.regs i.rs1 ≡ get s.regs i.rs2
      → target s.pc i.imm ≡ pc → G (branched i pc s) → Takes w G Q n (branched i pc s) → Takes w G Q (suc n) s
  unfolding effect
  step_beq_taken {i = i} pc o at eq = taken pc at (branches i s Beq true o (ap Branches (eq-eqb _ _ eq)))

  pub step_beq_on : {i : Instr} → i.op ≡ Beq → w.text s.pc ≡ Some i → get s.regs i.rs1 ≢ get s.regs i.rs2
      → G (branched i (s.pc + 4) s) → Takes w G Q n (branched i (s.pc + 4) s) → Takes w G Q (suc n) s
  unfolding effect
  step_beq_on {i = i} o at ne = goes_on at (branches i s Beq false o (ap Branches (ne_eqb _ _ ne)))

  pub step_bne_taken : {i : Instr} (pc : ℕ) → i.op ≡ Bne → w.text s.pc ≡ Some i → get s.regs i.rs1 ≢ get s.regs i.rs2
      → target s.pc i.imm ≡ pc → G (branched i pc s) → Takes w G Q n (branched i pc s) → Takes w G Q (suc n) s
  unfolding effect
  step_bne_taken {i = i} pc o at ne =
      taken pc at (branches i s Bne true o (ap (λ (b : Bool). Branches (not b)) (ne_eqb _ _ ne)))

  pub step_bne_on : {i : Instr} → i.op ≡ Bne → w.text s.pc ≡ Some i → get s.regs i.rs1 ≡ get s.regs i.rs2
      → G (branched i (s.pc + 4) s) → Takes w G Q n (branched i (s.pc + 4) s) → Takes w G Q (suc n) s
  unfolding effect
  step_bne_on {i = i} o at eq =
      goes_on at (branches i s Bne false o (ap (λ (b : Bool). Branches (not b)) (eq-eqb _ _ eq)))

  -- a branch, both ways
  pub step_beq : {i : Instr} (pc : ℕ) → i.op ≡ Beq → w.text s.pc ≡ Some i → target s.pc i.imm ≡ pc
      → (get s.regs i.rs1 ≡ get s.regs i.rs2 → G (branched i pc s) × Takes w G Q n (branched i pc s))
      → (get s.regs i.rs1 ≢ get s.regs i.rs2 → G (branched i (s.pc + 4) s) × Takes w G Q n (branched i (s.pc + 4) s))
      → Takes w G Q (suc n) s
  step_beq {i = i} pc o at is f g =
      either (get s.regs i.rs1) (get s.regs i.rs2) (get s.regs i.rs1 == get s.regs i.rs2) refl
      (λ eq. step_beq_taken pc o at eq is (f eq).0 (f eq).1) (λ ne. step_beq_on o at ne (g ne).0 (g ne).1)

  pub step_bne : {i : Instr} (pc : ℕ) → i.op ≡ Bne → w.text s.pc ≡ Some i → target s.pc i.imm ≡ pc
      → (get s.regs i.rs1 ≢ get s.regs i.rs2 → G (branched i pc s) × Takes w G Q n (branched i pc s))
      → (get s.regs i.rs1 ≡ get s.regs i.rs2 → G (branched i (s.pc + 4) s) × Takes w G Q n (branched i (s.pc + 4) s))
      → Takes w G Q (suc n) s
  step_bne {i = i} pc o at is f g =
      either (get s.regs i.rs1) (get s.regs i.rs2) (get s.regs i.rs1 == get s.regs i.rs2) refl
      (λ eq. step_bne_on o at eq (g eq).0 (g eq).1) (λ ne. step_bne_taken pc o at ne is (f ne).0 (f ne).1)

  -- a jump, forward where the immediate is `pos`, backward where it is `negsuc`
  pub step_jal : {i : Instr} (pc : ℕ) → i.op ≡ Jal → w.text s.pc ≡ Some i → target s.pc i.imm ≡ pc → G (jumped i pc s)
      → Takes w G Q n (jumped i pc s) → Takes w G Q (suc n) s
  unfolding effect
  step_jal {i = i} pc o at is g h =
      let there : lands i.op (word64 (s.pc + low 64 i.imm)) (target s.pc i.imm) ≡ pc =
      ap (λ (p : Op). lands p (word64 (s.pc + low 64 i.imm)) (target s.pc i.imm)) o ∙ is in
      step_of (Jumps (word64 (s.pc + 4)) (word64 (s.pc + low 64 i.imm))) at
      (ap (λ (p : Op). effect p s.pc (get s.regs i.rs1) (get s.regs i.rs2) (low 64 i.imm)) o) tt
      (λ _ _. subst (λ (x : ℕ). G (jumped i x s)) (sym there) g)
      (λ _ _. subst (λ (x : ℕ). Takes w G Q n (jumped i x s)) (sym there) h)

  -- a fence only goes on
  pub step_fence : {i : Instr} → i.op ≡ Fence → w.text s.pc ≡ Some i → G (branched i (s.pc + 4) s)
      → Takes w G Q n (branched i (s.pc + 4) s) → Takes w G Q (suc n) s
  unfolding effect
  step_fence {i = i} o at = goes_on at (branches i s Fence false o refl)

  -- a branch where the first is less, both ways
  pub step_bltu : {i : Instr} (pc : ℕ) → i.op ≡ Bltu → w.text s.pc ≡ Some i → target s.pc i.imm ≡ pc
      → (get s.regs i.rs1 < get s.regs i.rs2 → G (branched i pc s) × Takes w G Q n (branched i pc s))
      → (get s.regs i.rs2 ≤ get s.regs i.rs1 → G (branched i (s.pc + 4) s) × Takes w G Q n (branched i (s.pc + 4) s))
      → Takes w G Q (suc n) s
  unfolding effect
  step_bltu {i = i} pc o at is f g =
      less (get s.regs i.rs1) (get s.regs i.rs2) (nat_lt (get s.regs i.rs1) (get s.regs i.rs2)) refl
      (λ lt. taken pc at (branches i s Bltu true o (ap Branches (lt-ltb _ _ lt))) is (f lt).0 (f lt).1)
      (λ le. goes_on at (branches i s Bltu false o (ap Branches (le-ltb _ _ le))) (g le).0 (g le).1)

  -- a jump to the address in a register
  pub step_jalr : {i : Instr} (pc : ℕ) → i.op ≡ Jalr → w.text s.pc ≡ Some i
      → word64 (get s.regs i.rs1 + low 64 i.imm) / 2 * 2 ≡ pc → G (jumped i pc s) → Takes w G Q n (jumped i pc s)
      → Takes w G Q (suc n) s
  unfolding effect
  step_jalr {i = i} pc o at is g h =
      let there : lands i.op (word64 (get s.regs i.rs1 + low 64 i.imm) / 2 * 2) (target s.pc i.imm) ≡ pc =
      ap (λ (p : Op). lands p (word64 (get s.regs i.rs1 + low 64 i.imm) / 2 * 2) (target s.pc i.imm)) o ∙ is in
      step_of (Jumps (word64 (s.pc + 4)) (word64 (get s.regs i.rs1 + low 64 i.imm) / 2 * 2)) at
      (ap (λ (p : Op). effect p s.pc (get s.regs i.rs1) (get s.regs i.rs2) (low 64 i.imm)) o) tt
      (λ _ _. subst (λ (x : ℕ). G (jumped i x s)) (sym there) g)
      (λ _ _. subst (λ (x : ℕ). Takes w G Q n (jumped i x s)) (sym there) h)
