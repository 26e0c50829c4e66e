-- What a hart does at a gate.
use Rattle.std.proofs.Common.{◌≡◌, ◌≢◌, ℕ, ◌+◌, ◌^◌, ◌<◌, ◌≤◌, refl, sym, ◌∙◌, arith}
use Rattle.tm_runs.specs.Machine.{World, State, get, put}
use Rattle.tm_runs.specs.Runs.{Takes, Now, At, Within, IsQuiet}
use Rattle.tm_runs.proofs.Tables.{get_put_other, get_put_zero}
use Rattle.tm_runs.proofs.Steps.{step_addi, step_beq_taken, step_beq_on, step_jal}
use Rattle.tm_blocks_base.specs.Instrs.{jump}
use Rattle.tm_pass_text.specs.Words.{gate}

-- The hart has come to a place, by x1 alone.
pub record Passed (place : ℕ) (s t : State) : Type 0 where
  pub pc : t.pc ≡ place
  pub regs : (r : ℕ) → r ≢ 1 → get t.regs r ≡ get s.regs r
  pub mem : t.mem ≡ s.mem

-- What a gate keeps and lets through, in words from lo to hi.
module _ (w : World) (g n : ℕ) (small : g < 2 ^ 11) (s : State) (at : At w.text s.pc (gate g n)) where
  after-one : (r : ℕ) → r ≢ 1 → get (put s.regs 1 g) r ≡ get s.regs r
  after-one r m = get_put_other s.regs 1 g r m

  -- another hart goes on behind the last word
  pub gate-shut : 12 ≤ 8 + n → get s.regs 10 ≢ g
      → Takes w (Within s.pc (s.pc + 8 + n) IsQuiet) (Passed (s.pc + 8 + n) s) 3 s
  gate-shut far other =
      step_addi g refl at.0 (omega arith) (record {
        from = omega arith;
        below = omega arith;
        least = omega arith;
        most = omega arith;
        access = refl;
      })
      (step_beq_on refl at.1.0 (λ e. other (sym e)) (record {
        from = omega arith;
        below = omega arith;
        least = omega arith;
        most = omega arith;
        access = refl;
      })
      (step_jal {i = jump n} (s.pc + 8 + n) refl at.1.1.0 (omega arith)
      (record { from = omega arith; below = omega arith; least = omega arith; most = omega arith; access = refl })
      (Now (record {
        pc = refl;
        regs = λ r m. get_put_zero (put s.regs 1 g) (s.pc + 4 + 4 + 4) r ∙ after-one r m;
        mem = refl;
      }))))

  -- its own hart goes in
  pub gate-open : get s.regs 10 ≡ g → Takes w (Within s.pc (s.pc + 12) IsQuiet) (Passed (s.pc + 12) s) 2 s
  gate-open own =
      step_addi g refl at.0 (omega arith) (record {
        from = omega arith;
        below = omega arith;
        least = omega arith;
        most = omega arith;
        access = refl;
      })
      (step_beq_taken (s.pc + 12) refl at.1.0 (sym own) (omega arith) (record {
        from = omega arith;
        below = omega arith;
        least = omega arith;
        most = omega arith;
        access = refl;
      })
      (Now (record { pc = refl; regs = λ r m. after-one r m; mem = refl })))
