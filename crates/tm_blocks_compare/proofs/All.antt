-- What every run of the words does that compare all passes.
use Rattle.std.proofs.Common.{◌≡◌, ◌≢◌, ℕ, zero, suc, ◌+◌, ◌*◌, ◌/◌, ◌^◌, ◌<◌, ◌≤◌, ◌⊎◌, inl, inr, Bool, true, false}
use Rattle.std.proofs.Common.{List, [], ◌∷◌, length, refl, sym, ap, ◌∙◌, arith, subst, eq-eqb, ne_eqb}
use Rattle.std.specs.Prelude.{if◌then◌else◌}
use Rattle.tm_table.specs.declared.instr.Instr.{Instr}
use Rattle.tm_plan_cases.specs.declared.cases.Cases.{Cases}
use Rattle.tm_plan_cases.specs.Shaped.{AreShaped}
use Rattle.tm_runs.specs.Machine.{World, State, Table, get, computes}
use Rattle.tm_runs.specs.Runs.{Takes, Now, At, Within}
use Rattle.tm_runs.proofs.Compose.{takes_then, takes_more, takes_map}
use Rattle.tm_runs.proofs.Steps.{step_addi, step_bne_taken, step_bne_on, branched}
use Rattle.tm_runs.proofs.Tables.{get_put_other, at_front, at_next}
use Rattle.tm_blocks_base.specs.Instrs.{addi}
use Rattle.tm_blocks_base.specs.Laws.{RegistersFit}
use Rattle.tm_blocks_base.proofs.Dwords.{fit_put, on_quiet, on_branch}
use Rattle.tm_plan_owned.specs.Lines.{line_count}
use Rattle.tm_blocks_base.specs.Instrs.{bne_back}
use Rattle.tm_blocks_compare.specs.Words.{pass_tail, one_pass, all_passes}
use Rattle.tm_blocks_compare.specs.Numbers.{either, first_register, first_dword, first_of_pass, verdict_from}
use Rattle.tm_blocks_compare.proofs.Looks.{Found, Passed, either-some}
use Rattle.tm_blocks_compare.proofs.Dwords.{Comparable}
use Rattle.tm_blocks_compare.proofs.Registers.{Pairs}
use Rattle.tm_blocks_compare.proofs.Passes.{Peeks, masks, pass_take}

-- ---- numbers

either-small : (x y n : ℕ) → x ≤ n → y ≤ n → either x y ≤ n
either-small zero y n a b = b
either-small (suc x) y n a b = a

pick-small : (c : Bool) (x n : ℕ) → x ≤ n → (if c then x else 0) ≤ n
pick-small true x n a = a
pick-small false x n a = omega arith

register-small : (mem : Table) (M n p q i : ℕ) → first_register mem M p q i n ≤ i + n
register-small mem M zero p q i = omega arith
register-small mem M (suc n) p q i =
    let rest = first_register mem M (p + 8) (q + 8) (suc i) n in
    let later = register-small mem M n (p + 8) (q + 8) (suc i) in
    let small : rest ≤ i + suc n = omega arith in
    either-small _ rest (i + suc n) (pick-small _ (suc i) (i + suc n) (omega arith)) small

dword-small : (mem : Table) (rs : List ℕ) (p q i : ℕ) → first_dword mem p q i rs ≤ i + length rs
dword-small mem [] p q i = omega arith
dword-small mem (r ∷ rs) p q i =
    let rest = first_dword mem (p + 8) (q + 8) (suc i) rs in
    let later = dword-small mem rs (p + 8) (q + 8) (suc i) in
    let small : rest ≤ i + suc (length rs) = omega arith in
    either-small _ rest (i + suc (length rs)) (pick-small _ (suc i) (i + suc (length rs)) (omega arith)) small

pub pass-small : (mem : Table) (M p q : ℕ) (rs : List ℕ) → first_of_pass mem M p q rs ≤ 30 + length rs
pass-small mem M p q rs = either-small (first_register mem M p q 0 30) (first_dword mem (p + 240) (q + 240) 30 rs)
    (30 + length rs) (omega (arith, register-small mem M 30 p q 0)) (dword-small mem rs (p + 240) (q + 240) 30)

verdict-found : (mem : Table) (M first step : ℕ) (rs : List ℕ) (k m : ℕ)
    → first_of_pass mem M first (first + step * k) rs ≢ 0 → verdict_from mem M first step rs k (suc m)
    ≡ k * 2 ^ 32 + first_of_pass mem M first (first + step * k) rs
verdict-found mem M first step rs k m h =
    let f = first_of_pass mem M first (first + step * k) rs in
    let rest = verdict_from mem M first step rs (suc k) m in
    ap (λ (b : Bool). either (if b then 0 else k * 2 ^ 32 + f) rest) (ne_eqb f 0 h) ∙ either-some (k * 2 ^ 32 + f) rest
    (λ e. h (omega arith))

verdict-none : (mem : Table) (M first step : ℕ) (rs : List ℕ) (k m : ℕ)
    → first_of_pass mem M first (first + step * k) rs ≡ 0 → verdict_from mem M first step rs k (suc m)
    ≡ verdict_from mem M first step rs (suc k) m
verdict-none mem M first step rs k m h =
    let f = first_of_pass mem M first (first + step * k) rs in
    ap (λ (b : Bool). either (if b then 0 else k * 2 ^ 32 + f) (verdict_from mem M first step rs (suc k) m))
    (eq-eqb f 0 h)

-- ---- the passes

-- a difference was found, or all passes are the same
pub data Ends (stop none V : ℕ) (t : State) : Type 0 where
  Differs : (k v : ℕ) → t.pc ≡ stop → get t.regs 9 ≡ k → get t.regs 8 ≡ v → V ≡ k * 2 ^ 32 + v → k < 2 ^ 8 → v < 2 ^ 32
      → Ends stop none V t
  Agrees : t.pc ≡ none → V ≡ 0 → Ends stop none V t

pub record Judged (stop none V : ℕ) (s t : State) : Type 0 where
  pub ends : Ends stop none V t
  pub regs : (r : ℕ) → 11 ≤ r → get t.regs r ≡ get s.regs r
  pub mem : t.mem ≡ s.mem
  pub fits : RegistersFit s → RegistersFit t

module _ (w : World) (lo hi : ℕ) (table : Table) (stop M p : ℕ) (cases : Cases) (h bytes : ℕ) (s : AreShaped cases)
    (pl : p < 2 ^ 58) (bl : bytes < 2 ^ 62) (ml : M < 2 ^ 64) (few : cases.passes < 2 ^ 8) where
  abbrev rs : List ℕ
  rs = masks w lo hi table stop M cases h bytes s

  abbrev one : List Instr
  one = one_pass cases h p bytes

  abbrev n : ℕ
  n = cases.line / 8

  abbrev steps : ℕ → ℕ
  steps v = 12 + line_count cases h v * (12 * n + 4)

  abbrev pub pass_steps : ℕ
  pass_steps = 14 + (332 + (steps 0 + (steps 1 + steps 2))) + 3

  -- what pass k needs
  abbrev pub Needs : ℕ → Type 0
  Needs k = Pairs w lo hi (Peeks w) tt table stop M p (p + 8192 * k) 30
      × Comparable w lo hi (Peeks w) tt table stop (p + 240) (p + 8192 * k + 240) rs

  -- what the passes from k on do, m of which are behind it
  abbrev Go : (k m : ℕ) → Type 0
  Go k m = (t : State) → get t.regs 5 ≡ M → get t.regs 9 ≡ k → t.mem ≡ table → stop ≡ t.pc + 4 * length one + 20
      → lo < t.pc → stop ≤ hi → At w.text t.pc (all_passes cases h p bytes)
      → Takes w (Within lo hi (Peeks w)) (Judged stop (t.pc + 4 * length one + 12)
      (verdict_from table M p 8192 rs k (suc m)) t) (suc m * pass_steps) t

  -- behind a pass without a difference
  tail_take : (m k base : ℕ) (u : State) → u.pc ≡ base + 4 * length one → get u.regs 9 ≡ k → get u.regs 5 ≡ M
      → u.mem ≡ table → stop ≡ base + 4 * length one + 20 → lo < base → stop ≤ hi → k + suc m ≡ cases.passes
      → At w.text u.pc (pass_tail cases.passes (length one)) → At w.text base (all_passes cases h p bytes)
      → ((j : ℕ) → m ≡ suc j → Go (suc k) j)
      → Takes w (Within lo hi (Peeks w)) (Judged stop (base + 4 * length one + 12)
      (verdict_from table M p 8192 rs (suc k) m) u) (3 + m * pass_steps) u
  tail_take m k base u pc nine five same stops x z sum at all later =
      let u1 = computes (addi 9 9 1) u (suc k) in
      takes_more {n = suc (suc (suc (m * pass_steps)))} (3 + m * pass_steps) (omega arith)
      (step_addi {n = suc (suc (m * pass_steps))} (suc k) refl at.0 (rw nine (omega arith))
      (on_quiet _ u _ tt (omega arith) (omega arith))
      (step_addi {n = suc (m * pass_steps)} cases.passes refl at.1.0 (omega arith)
      (on_quiet _ u1 _ tt (omega arith) (omega arith))
      (turn m refl later)))
    where
      L : ℕ
      L = length one

      u2 : State
      u2 = computes (addi 10 0 cases.passes) (computes (addi 9 9 1) u (suc k)) cases.passes

      kept : (r : ℕ) → r ≢ 9 → r ≢ 10 → get u2.regs r ≡ get u.regs r
      kept r n9 n10 = get_put_other (computes (addi 9 9 1) u (suc k)).regs 10 cases.passes r n10 ∙ get_put_other u.regs
          9 (suc k) r n9

      fit : RegistersFit u → RegistersFit u2
      fit f = fit_put (computes (addi 9 9 1) u (suc k)).regs 10 cases.passes (omega arith)
          (fit_put u.regs 9 (suc k) (omega arith) f)

      turn : (i : ℕ) → i ≡ m → ((j : ℕ) → i ≡ suc j → Go (suc k) j)
          → Takes w (Within lo hi (Peeks w)) (Judged stop (base + 4 * length one + 12)
          (verdict_from table M p 8192 rs (suc k) i) u) (suc (i * pass_steps)) u2
      turn zero e f =
          let last : suc k ≡ cases.passes = omega arith in
          step_bne_on refl at.1.1.0 last (on_branch _ _ u2 tt (omega arith) (omega arith) (omega arith) (omega arith))
          (Now (record {
            ends = Agrees (omega arith) refl;
            regs = λ r l. kept r (omega arith) (omega arith);
            mem = refl;
            fits = fit;
          }))
      turn (suc j) e f =
          let more : suc k ≢ cases.passes = omega arith in
          let v = branched (bne_back 9 10 (4 * (L + 2))) base u2 in
          step_bne_taken base refl at.1.1.0 more (omega arith)
          (on_branch _ _ u2 tt (omega arith) (omega arith) x (omega arith))
          (takes_map (λ a g. g) (λ a g. record {
            ends = g.ends;
            regs = λ r l. g.regs r l ∙ kept r (omega arith) (omega arith);
            mem = g.mem;
            fits = λ y. g.fits (fit y);
          })
          (f j refl v (kept 5 (omega arith) (omega arith) ∙ five) refl same stops x z all))

  -- a pass, and what is behind it
  pass_then : (m k : ℕ) → k + suc m ≡ cases.passes → Needs k → length rs < 2 ^ 31 → ((j : ℕ) → m ≡ suc j → Go (suc k) j)
      → Go k m
  unfolding all_passes
  pass_then m k sum ready short later t five nine same stops x z at =
      let tail = pass_tail cases.passes (length one) in
      let F = first_of_pass table M p (p + 8192 * k) rs in
      let l = 30 + (line_count cases h 0 * n + (line_count cases h 1 * n + line_count cases h 2 * n)) in
      takes_more {n = 14 + (332 + (steps 0 + (steps 1 + steps 2))) + (3 + m * pass_steps)} (suc m * pass_steps)
      (omega arith)
      (takes_then (pass_take w lo hi table stop M cases h bytes s p k t ready.0 ready.1 five nine pl (omega arith) bl ml
      same stops (omega arith) (omega arith) z (at_front w.text t.pc one tail at))
      (λ u g. ends m k sum short later t nine five same stops x z at u g.place g.regs g.mem g.fits))
    where
      l : ℕ
      l = 30 + (line_count cases h 0 * n + (line_count cases h 1 * n + line_count cases h 2 * n))

      ends : (m k : ℕ) → k + suc m ≡ cases.passes → length rs < 2 ^ 31 → ((j : ℕ) → m ≡ suc j → Go (suc k) j)
          → (t : State) → get t.regs 9 ≡ k → get t.regs 5 ≡ M → t.mem ≡ table → stop ≡ t.pc + 4 * length one + 20
          → lo < t.pc → stop ≤ hi → At w.text t.pc (all_passes cases h p bytes)
          → (u : State) → Found stop (first_of_pass table M p (p + 8192 * k) rs) u
          ⊎ Passed (t.pc + 4 * length one) (p + 8 * l) (p + 8192 * k + 8 * l) (0 + l)
          (first_of_pass table M p (p + 8192 * k) rs) (λ x. Unit {0}) u
          → ((r : ℕ) → (r ≡ 5) ⊎ ((r ≡ 9) ⊎ (11 ≤ r)) → get u.regs r ≡ get t.regs r) → u.mem ≡ t.mem
          → (RegistersFit t → RegistersFit u)
          → Takes w (Within lo hi (Peeks w)) (Judged stop (t.pc + 4 * length one + 12)
          (verdict_from table M p 8192 rs k (suc m)) t) (3 + m * pass_steps) u
      ends m k sum short later t nine five same stops x z at u (inl f) regs mem fits = Now (record {
        ends = Differs k (first_of_pass table M p (p + 8192 * k) rs) f.pc (regs 9 (inr (inl refl)) ∙ nine) f.eight
            (verdict-found table M p 8192 rs k m f.some) (omega arith)
            (omega (arith, pass-small table M p (p + 8192 * k) rs));
        regs = λ r l. regs r (inr (inr l));
        mem = mem;
        fits = fits;
      })
      ends m k sum short later t nine five same stops x z at u (inr f) regs mem fits =
          let is = verdict-none table M p 8192 rs k m f.none in
          takes_map (λ a g. g) (λ a g. record {
            ends = subst (λ (v : ℕ). Ends stop (t.pc + 4 * length one + 12) v a)
                (sym is) g.ends;
            regs = λ r l. g.regs r l ∙ regs r (inr (inr l));
            mem = g.mem ∙ mem;
            fits =
                λ y. g.fits (fits y);
          })
          (tail_take m k t.pc u f.pc (regs 9 (inr (inl refl)) ∙ nine) (regs 5 (inl refl) ∙ five) (mem ∙ same) stops x z
          sum (at_next w.text t.pc u.pc one (pass_tail cases.passes (length one)) (length one) refl f.pc at) at
          later)

  pub passes_take : (m k : ℕ) → k + suc m ≡ cases.passes → ((j : ℕ) → j < cases.passes → Needs j) → length rs < 2 ^ 31
      → Go k m
  passes_take zero k sum needs short = pass_then 0 k sum (needs k (omega arith)) short (λ j e. absurd (omega arith))
  passes_take (suc m) k sum needs short =
      pass_then (suc m) k sum (needs k (omega arith)) short
      (λ j e. subst (Go (suc k)) (omega arith) (passes_take m (suc k) (omega arith) needs short))
