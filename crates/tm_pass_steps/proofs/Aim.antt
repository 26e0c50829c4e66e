-- The words that point x9 to the save area of the pass that the counter says.
use Rattle.std.proofs.Common.{◌≡◌, ◌≢◌, ℕ, ◌+◌, ◌*◌, ◌^◌, ◌<◌, ◌≤◌, ◌∷◌, refl, ◌∙◌, arith}
use Rattle.std.specs.Prelude.{IsTrue}
use Rattle.tm_table.specs.declared.state.Access.TheVariants.{Read}
use Rattle.tm_runs.specs.Machine.{World, State, Entry, get, computes, loaded, MayAccess}
use Rattle.tm_runs.specs.Runs.{Takes, Now, At, Within, Does}
use Rattle.tm_runs.proofs.Steps.{step_ld, step_addi, step_slli, step_add}
use Rattle.tm_runs.proofs.Tables.{get_put_other}
use Rattle.tm_blocks_base.specs.Instrs.{addi, slli, add, ld}
use Rattle.tm_blocks_base.specs.Laws.{Uses, accesses}
use Rattle.tm_pass_text.specs.Words.{aim}

-- x9 is the save area of pass k, where x31 is b
pub record Aimed (b k : ℕ) (s t : State) : Type 0 where
  pub pc : t.pc ≡ s.pc + 24
  pub save : get t.regs 9 ≡ 8192 * k + b + 4096
  pub regs : (r : ℕ) → r ≢ 1 → r ≢ 9 → get t.regs r ≡ get s.regs r
  pub mem : t.mem ≡ s.mem
  pub value : ℕ
  pub accesses : accesses t.log ≡ Read (b + 264) 8 value ∷ accesses s.log

pub aim-runs : (w : World) (s : State) (b k lo hi : ℕ) (R W : ℕ → Type 0) → get s.regs 31 ≡ b → b < 2 ^ 63
    → s.mem (b + 264) ≡ k → k < 8 → IsTrue (w.own (b + 264)) → MayAccess w (b + 264) → R (b + 264) → lo ≡ s.pc
    → s.pc + 24 ≤ hi → At w.text s.pc aim
    → Takes w (Within lo hi (Uses R W)) (Aimed b k s) 6 s
aim-runs w s b k lo hi R W base low count few own may reads start end at =
    step_ld (b + 264) refl at.0 (omega (arith, base)) may
    (λ v l o. does _ (omega arith) (omega arith) (omega arith) (omega arith) (refl, reads)) (λ v l o.
    let v-is : v ≡ k = o own ∙ count in
    let s1 = loaded (ld 9 264 31) (b + 264) v s in
    let s2 = computes (slli 9 9 13) s1 (8192 * k) in
    let s3 = computes (add 9 9 31) s2 (8192 * k + b) in
    let s4 = computes (addi 1 0 1) s3 1 in
    let s5 = computes (slli 1 1 12) s4 4096 in
    step_slli (8192 * k) refl at.1.0 (omega (arith, v-is))
    (does _ (omega arith) (omega arith) (omega arith) (omega arith) tt)
    (step_add (8192 * k + b) refl at.1.1.0 (omega (arith, base))
    (does _ (omega arith) (omega arith) (omega arith) (omega arith) tt)
    (step_addi 1 refl at.1.1.1.0 refl (does _ (omega arith) (omega arith) (omega arith) (omega arith) tt)
    (step_slli 4096 refl at.1.1.1.1.0 refl (does _ (omega arith) (omega arith) (omega arith) (omega arith) tt)
    (step_add (8192 * k + b + 4096) refl at.1.1.1.1.1.0 (omega (arith, base))
    (does _ (omega arith) (omega arith) (omega arith) (omega arith) tt)
    (Now (record {
      pc = omega arith;
      save = refl;
      regs = λ r n m. get_put_other s5.regs 9 (8192 * k + b + 4096) r m ∙
          (get_put_other s4.regs 1 4096 r n ∙ (get_put_other s3.regs 1 1 r n ∙
          (get_put_other s2.regs 9 (8192 * k + b) r m ∙
          (get_put_other s1.regs 9 (8192 * k) r m ∙ get_put_other s.regs 9 v r m))));
      mem = refl;
      value = v;
      accesses = refl;
    })))))))
  where
    does : (e : Entry) → lo ≤ e.pc → e.pc < hi → lo < e.next → e.next ≤ hi → Uses R W e.access → Does lo hi (Uses R W) e
    does e a b c d f = record { from = a; below = b; least = c; most = d; access = f }
