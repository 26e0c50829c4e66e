-- What every run of a constant's words does.
use Rattle.std.proofs.Common.{◌≡◌, ℕ, ◌+◌, ◌*◌, ◌/◌, ◌%◌, ◌^◌, ◌<◌, ◌≤◌, refl, sym, ap, ◌∙◌, arith, subst}
use Rattle.tm_runs.specs.Machine.{World, State, Table, put, get, computes}
use Rattle.tm_runs.specs.Runs.{Takes, Now, At, Within, IsQuiet}
use Rattle.tm_runs.proofs.Compose.{takes_then, takes_map}
use Rattle.tm_runs.proofs.Steps.{step_addi, step_slli}
use Rattle.tm_runs.proofs.Tables.{put_put, get_put}
use Rattle.tm_blocks_base.specs.Instrs.{slli}
use Rattle.tm_blocks_base.specs.Blocks.{shift_in, constant}
use Rattle.tm_blocks_base.specs.Laws.{accesses, HasConstant, ConstantRuns}
use Rattle.tm_blocks_base.proofs.Dwords.{on_quiet, fit_put}

-- so many bytes on, with x in rd
record Holds (rd x bytes : ℕ) (s t : State) : Type 0 where
  pc : t.pc ≡ s.pc + bytes
  regs : t.regs ≡ put s.regs rd x
  mem : t.mem ≡ s.mem
  log : accesses t.log ≡ accesses s.log

module _ (w : World) (lo hi rd value : ℕ) (named : 1 ≤ rd) where
  shift_takes : (k x y : ℕ) (s : State) → lo ≤ s.pc → s.pc + 8 ≤ hi → get s.regs rd ≡ x → x < 2 ^ 53
      → x * 2048 + value / 2 ^ (11 * k) % 2 ^ 11 ≡ y → At w.text s.pc (shift_in rd value k)
      → Takes w (Within lo hi IsQuiet) (Holds rd y 8 s) 2 s
  shift_takes k x y s a b has small is at =
      let digit : ℕ = value / 2 ^ (11 * k) % 2 ^ 11 in
      let bound : digit < 2 ^ 11 = omega arith in
      step_slli (x * 2048) refl at.0 (rw has (omega arith)) (on_quiet _ s _ refl a (omega arith))
      (step_addi y refl at.1.0 (rw (get_put s.regs rd (x * 2048) named) (omega arith))
      (on_quiet _ (computes (slli rd rd 11) s (x * 2048)) _ refl (omega arith) (omega arith))
      (Now (record { pc = omega arith; regs = put_put s.regs rd (x * 2048) y; mem = refl; log = refl })))

  -- 11 bits more
  then_shift : (k x y bytes n : ℕ) (s : State) (a : ℕ) → a ≡ s.pc + bytes → lo ≤ s.pc → s.pc + bytes + 8 ≤ hi
      → x < 2 ^ 53 → x * 2048 + value / 2 ^ (11 * k) % 2 ^ 11 ≡ y → At w.text a (shift_in rd value k)
      → Takes w (Within lo hi IsQuiet) (Holds rd x bytes s) n s
      → Takes w (Within lo hi IsQuiet) (Holds rd y (bytes + 8) s) (n + 2) s
  then_shift k x y bytes n s a e p q small is at h =
      takes_then h (λ t r.
      let place : a ≡ t.pc = let f = r.pc in omega arith in
      let has : get t.regs rd ≡ x = ap (λ (f : Table). get f rd) r.regs ∙ get_put s.regs rd x named in
      takes_map (λ u g. g) (λ u g. record {
        pc = omega (arith, g.pc, r.pc);
        regs = g.regs ∙ ap (λ (f : Table). put f rd y) r.regs ∙ put_put s.regs rd x y;
        mem = g.mem ∙ r.mem;
        log = g.log ∙ r.log;
      }) (shift_takes k x y t (omega (arith, r.pc)) (omega (arith, r.pc)) has small is
      (subst (λ (b : ℕ). At w.text b (shift_in rd value k)) place at)))

  pub constant_takes : (s : State) → lo ≤ s.pc → s.pc + 44 ≤ hi → value < 2 ^ 64 → At w.text s.pc (constant rd value)
      → Takes w (Within lo hi IsQuiet) (HasConstant rd value s) 11 s
  unfolding constant
  constant_takes s a b small at =
      let first : Takes w (Within lo hi IsQuiet) (Holds rd (value / 2 ^ 55) 4 s) 1 s =
      step_addi (value / 2 ^ 55) refl at.0 (omega arith) (on_quiet _ s _ refl a (omega arith))
      (Now (record { pc = refl; regs = refl; mem = refl; log = refl })) in
      let second = then_shift 4 (value / 2 ^ 55) (value / 2 ^ 44) 4 1 s (s.pc + 4) refl a (omega arith) (omega arith)
      (omega arith) (at.1.0, (at.1.1.0, tt)) first in
      let third = then_shift 3 (value / 2 ^ 44) (value / 2 ^ 33) 12 3 s (s.pc + 4 + 4 + 4) (omega arith) a (omega arith)
      (omega arith) (omega arith) (at.1.1.1.0, (at.1.1.1.1.0, tt)) second in
      let fourth = then_shift 2 (value / 2 ^ 33) (value / 2 ^ 22) 20 5 s (s.pc + 4 + 4 + 4 + 4 + 4) (omega arith) a
      (omega arith) (omega arith) (omega arith) (at.1.1.1.1.1.0, (at.1.1.1.1.1.1.0, tt)) third in
      let fifth = then_shift 1 (value / 2 ^ 22) (value / 2 ^ 11) 28 7 s (s.pc + 4 + 4 + 4 + 4 + 4 + 4 + 4) (omega arith)
      a (omega arith) (omega arith) (omega arith) (at.1.1.1.1.1.1.1.0, (at.1.1.1.1.1.1.1.1.0, tt)) fourth in
      takes_map (λ t g. g) (λ t g. record {
        pc = g.pc;
        regs = g.regs;
        mem = g.mem;
        accesses = g.log;
        fits = λ h r. subst (λ (f : Table). get f r < 2 ^ 64) (sym g.regs) (fit_put s.regs rd value small h r);
      })
      (then_shift 0 (value / 2 ^ 11) value 36 9 s (s.pc + 4 + 4 + 4 + 4 + 4 + 4 + 4 + 4 + 4) (omega arith) a
      (omega arith) (omega arith) (omega arith) (at.1.1.1.1.1.1.1.1.1.0, (at.1.1.1.1.1.1.1.1.1.1.0, tt)) fifth)

pub constant_runs : (rd value : ℕ) → 1 ≤ rd → value < 2 ^ 64 → ConstantRuns rd value
constant_runs rd value named small w s at = constant_takes w s.pc (s.pc + 44) rd value named s (omega arith)
    (omega arith) small at
