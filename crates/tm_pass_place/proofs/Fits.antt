-- The instructions of support code fit into their words.
use Rattle.std.proofs.Common.{◌≡◌, ℕ, zero, suc, ◌+◌, ◌-◌, ◌*◌, ◌/◌, ◌%◌, ◌^◌, ◌<◌, ◌≤◌, Bool, true, false, ◌==◌}
use Rattle.std.proofs.Common.{List, [], ◌∷◌, ◌++◌, map, flat_map, arith}
use Rattle.std.specs.Prelude.{if◌then◌else◌}
use Rattle.tm_table.specs.declared.instr.Instr.{Instr}
use Rattle.tm_table.specs.Words.{Fits}
use Rattle.tm_base.specs.Lists.{count_from}
use Rattle.tm_plan_map.specs.Map.{windows_base}
use Rattle.tm_plan_cases.specs.declared.cases.Cases.{Cases}
use Rattle.tm_plan_cases.specs.Shaped.{AreShaped}
use Rattle.tm_asm.specs.Sheet.{AllFit}
use Rattle.tm_blocks_base.specs.Instrs.{addi, ld, sd}
use Rattle.tm_blocks_base.specs.Blocks.{shift_in, constant, load_registers, save_registers, copy_dword, copy_dwords}
use Rattle.tm_blocks_base.proofs.Fitting.{addi_fits, slli_fits, add_fits, ld_fits, sd_fits, beq_fits, jump_fits}
use Rattle.tm_blocks_base.proofs.Fitting.{jump_back_fits, subi_fits, bne_back_fits, bltu_back_fits, go_to_fits}
use Rattle.tm_blocks_base.proofs.Fitting.{fence_fits}
use Rattle.tm_plan_owned.specs.Lines.{line_count, line_place}
use Rattle.tm_plan_owned.proofs.Reach.{reach, line_most, stride_most}
use Rattle.tm_blocks_move.specs.Words.{line_turn, lines_loop, move_lines}
use Rattle.tm_blocks_move.specs.Lines.{half_stride, first_window, first_bytes, collect_window, collect_windows}
use Rattle.tm_blocks_move.specs.Lines.{collect_all}
use Rattle.tm_barrier.specs.Words.{prepare, signal, wait, turn, waits, meet, barrier}
use Rattle.tm_pass_text.specs.Words.{call, gate, reset, aim, turn as pass_turn}
use Rattle.tm_pass_text.proofs.Fitting.{call_fits}

-- each instruction fits
pub data Fitting : List Instr → Type 0 where
  Nil : Fitting []
  Fit : {i : Instr} {is : List Instr} → Fits i → Fitting is → Fitting (i ∷ is)

pub all-fit : (is : List Instr) → Fitting is → AllFit is
all-fit [] f = tt
all-fit (i ∷ is) (Fit x f) = (x, all-fit is f)

pub fit-append : {a b : List Instr} → Fitting a → Fitting b → Fitting (a ++ b)
fit-append Nil g = g
fit-append (Fit x f) g = Fit x (fit-append f g)

fit-blocks : (block : ℕ → List Instr) (a n : ℕ) → ((j : ℕ) → a ≤ j → j < a + n → Fitting (block j))
    → Fitting (flat_map block (count_from a n))
fit-blocks block a zero h = Nil
fit-blocks block a (suc n) h =
    fit-append (h a (omega arith) (omega arith)) (fit-blocks block (suc a) n (λ j p q. h j (omega arith) (omega arith)))

fit-map : (one : ℕ → Instr) (a n : ℕ) → ((j : ℕ) → a ≤ j → j < a + n → Fits (one j))
    → Fitting (map one (count_from a n))
fit-map one a zero h = Nil
fit-map one a (suc n) h =
    Fit (h a (omega arith) (omega arith)) (fit-map one (suc a) n (λ j p q. h j (omega arith) (omega arith)))

-- ---- the common parts

fit-shift : (rd value k : ℕ) → rd < 32 → Fitting (shift_in rd value k)
fit-shift rd value k l =
    (Fit (slli_fits rd rd 11 l l (omega arith)) (Fit (addi_fits rd rd (value / 2 ^ (11 * k) % 2 ^ 11) l l (omega arith))
    Nil))

pub fit-constant : (rd value : ℕ) → rd < 32 → value < 2 ^ 64 → Fitting (constant rd value)
unfolding constant
fit-constant rd value l m =
    let s = λ (k : ℕ). fit-shift rd value k l in
    Fit (addi_fits rd 0 (value / 2 ^ 55) l (omega arith) (omega arith))
    (fit-append (s 4) (fit-append (s 3) (fit-append (s 2) (fit-append (s 1) (fit-append (s 0) Nil)))))

pub fit-loads : (table : ℕ) → table < 2 ^ 64 → Fitting (load_registers table)
unfolding load_registers
fit-loads table l =
    fit-append (fit-constant 31 table (omega arith) l)
    (fit-map (λ r. ld r (8 * (r - 1)) 31) 1 31 (λ j p q. ld_fits j (8 * (j - 1)) 31 (omega arith) (omega arith)
    (omega arith)))

pub fit-saves : Fitting save_registers
unfolding save_registers
fit-saves = fit-map (λ r. sd r (8 * (r - 1)) 31) 1 30
    (λ j p q. sd_fits j (8 * (j - 1)) 31 (omega arith) (omega arith) (omega arith))

fit-copies : (from a to b n : ℕ) → from < 32 → to < 32 → a + n ≤ 256 → b + n ≤ 256 → Fitting (copy_dwords from a to b n)
unfolding copy_dwords
fit-copies from a to b n f t l m =
    fit-blocks (copy_dword from a to b) 0 n (λ j p q.
    (Fit (ld_fits 3 (8 * (a + j)) from (omega arith) f (omega arith))
    (Fit (sd_fits 3 (8 * (b + j)) to (omega arith) t (omega arith)) Nil)))

-- ---- moving lines

fit-turn : (n a b : ℕ) → n ≤ 16 → a < 2048 → b < 2048 → Fitting (line_turn n a b)
fit-turn n a b l k m =
    Fit (addi_fits 1 1 a (omega arith) (omega arith) k)
    (Fit (addi_fits 1 1 a (omega arith) (omega arith) k)
    (Fit (addi_fits 2 2 b (omega arith) (omega arith) m)
    (Fit (addi_fits 2 2 b (omega arith) (omega arith) m)
    (Fit (subi_fits 4 4 1 (omega arith) (omega arith) (omega arith) (omega arith))
    (Fit (bne_back_fits 4 0 (8 * n + 20) (omega arith) (omega arith) (omega arith) (omega arith) (omega arith)) Nil)))))

fit-loop : (n a b : ℕ) → n ≤ 16 → a < 2048 → b < 2048 → Fitting (lines_loop n a b)
unfolding lines_loop
fit-loop n a b l k m = fit-append (fit-copies 1 0 2 0 n (omega arith) (omega arith) (omega arith) (omega arith))
    (fit-turn n a b l k m)

fit-lines : (from lines n a b : ℕ) → from < 2 ^ 64 → lines < 2048 → n ≤ 16 → a < 2048 → b < 2048
    → Fitting (move_lines from lines n a b)
unfolding move_lines
fit-lines from lines n a b f c l k m = by (lines == 0)
  where
    by : (t : Bool) → Fitting (if t then [] else constant 1 from ++ (addi 4 0 lines ∷ []) ++ lines_loop n a b)
    by true = Nil
    by false = fit-append (fit-append (fit-constant 1 from (omega arith) f)
        (Fit (addi_fits 4 0 lines (omega arith) (omega arith) c) Nil)) (fit-loop n a b l k m)

module _ (cases : Cases) (h : ℕ) (s : AreShaped cases) where
  thin : cases.line / 8 ≤ 16
  thin = omega (arith, line_most cases s)

  half : half_stride cases < 2048
  half = omega (arith, stride_most cases s)

  fit-window : (from v : ℕ) → from < 2 ^ 63 → v < 3 → Fitting (first_window cases h from v)
  unfolding windows_base
  fit-window from v f l =
      let far = reach cases h v s l in
      fit-append (fit-constant 2 (windows_base + line_place cases h v) (omega arith) (omega (arith, far.place)))
      (fit-lines (from + line_place cases h v) (line_count cases h v) (cases.line / 8) (half_stride cases)
      (half_stride cases) (omega (arith, far.place)) far.count thin half half)

  pub fit-first : (from : ℕ) → from < 2 ^ 63 → Fitting (first_bytes cases h from)
  unfolding first_bytes
  fit-first from f = fit-append (fit-window from 0 f (omega arith))
      (fit-append (fit-window from 1 f (omega arith)) (fit-append (fit-window from 2 f (omega arith)) Nil))

  fit-collected : (v : ℕ) → v < 3 → Fitting (collect_window cases h v)
  unfolding windows_base
  fit-collected v l =
      let far = reach cases h v s l in
      fit-lines (windows_base + line_place cases h v) (line_count cases h v) (cases.line / 8) (half_stride cases)
      (cases.line / 2) (omega (arith, far.place)) far.count thin half (omega (arith, line_most cases s))

  pub fit-collect : Fitting (collect_all cases h)
  unfolding collect_all collect_windows
  fit-collect =
      fit-append
      (fit-append (fit-copies 31 0 9 0 30 (omega arith) (omega arith) (omega arith) (omega arith))
      (Fit (addi_fits 2 9 240 (omega arith) (omega arith) (omega arith)) Nil))
      (fit-append (fit-collected 0 (omega arith)) (fit-append (fit-collected 1 (omega arith))
      (fit-append (fit-collected 2 (omega arith)) Nil)))

-- ---- the barrier

fit-meets : (h g : ℕ) → g < 16 → Fitting (turn h g)
fit-meets h g l = by (g == h)
  where
    by : (t : Bool) → Fitting (if t then [] else wait g)
    by true = Nil
    by false = Fit (ld_fits 4 (128 * g) 3 (omega arith) (omega arith) (omega arith))
        (Fit (bltu_back_fits 4 2 4 (omega arith) (omega arith) (omega arith) (omega arith) (omega arith)) Nil)

pub fit-barrier : (h n : ℕ) → h < n → n ≤ 16 → Fitting (barrier h n)
unfolding barrier meet prepare waits
fit-barrier h n l m =
    let front : Fitting (prepare) = Fit (ld_fits 2 256 31 (omega arith) (omega arith) (omega arith))
    (Fit (addi_fits 2 2 1 (omega arith) (omega arith) (omega arith))
    (Fit (sd_fits 2 256 31 (omega arith) (omega arith) (omega arith))
    (Fit (addi_fits 3 0 515 (omega arith) (omega arith) (omega arith))
    (Fit (slli_fits 3 3 22 (omega arith) (omega arith) (omega arith)) (Fit fence_fits Nil))))) in
    let one : Fitting (signal h) = Fit (sd_fits 2 (128 * h) 3 (omega arith) (omega arith) (omega arith)) Nil in
    fit-append (fit-append (fit-append (fit-append front one)
    (fit-blocks (turn h) 0 n (λ j a b. fit-meets h j (omega arith)))) (Fit fence_fits Nil))
    (Fit (go_to_fits 1 (omega arith)) Nil)

-- ---- the words between blocks

pub fit-call : (n : ℕ) → n % 2 ≡ 0 → n ≤ 1048574 → Fitting (call n ∷ [])
fit-call n e h = Fit (call_fits n e h) Nil

pub fit-reset : Fitting (reset ∷ [])
fit-reset = Fit (sd_fits 0 264 31 (omega arith) (omega arith) (omega arith)) Nil

pub fit-aim : Fitting aim
fit-aim = Fit (ld_fits 9 264 31 (omega arith) (omega arith) (omega arith))
    (Fit (slli_fits 9 9 13 (omega arith) (omega arith) (omega arith))
    (Fit (add_fits 9 9 31 (omega arith) (omega arith) (omega arith))
    (Fit (addi_fits 1 0 1 (omega arith) (omega arith) (omega arith))
    (Fit (slli_fits 1 1 12 (omega arith) (omega arith) (omega arith))
    (Fit (add_fits 9 9 1 (omega arith) (omega arith) (omega arith)) Nil)))))

pub fit-pass : (passes n : ℕ) → passes < 2048 → n % 2 ≡ 0 → 2 ≤ n → n ≤ 1048576 → Fitting (pass_turn passes n)
fit-pass passes n l e k m = Fit (ld_fits 1 264 31 (omega arith) (omega arith) (omega arith))
    (Fit (addi_fits 1 1 1 (omega arith) (omega arith) (omega arith))
    (Fit (sd_fits 1 264 31 (omega arith) (omega arith) (omega arith))
    (Fit (addi_fits 2 0 passes (omega arith) (omega arith) l)
    (Fit (beq_fits 1 2 8 (omega arith) (omega arith) (omega arith) (omega arith)) (Fit (jump_back_fits n e k m) Nil)))))

pub fit-gate : (h n : ℕ) → h < 2048 → n % 2 ≡ 0 → n ≤ 1048574 → Fitting (gate h n)
fit-gate h n l e m = Fit (addi_fits 1 0 h (omega arith) (omega arith) l)
    (Fit (beq_fits 1 10 8 (omega arith) (omega arith) (omega arith) (omega arith)) (Fit (jump_fits n e m) Nil))
