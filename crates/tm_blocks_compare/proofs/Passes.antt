-- What every run of the words does that compare one pass.
use Rattle.std.proofs.Common.{◌≡◌, ◌≢◌, ℕ, suc, ◌+◌, ◌-◌, ◌*◌, ◌/◌, ◌^◌, ◌<◌, ◌≤◌, ◌⊎◌, inl, List, [], ◌∷◌, ◌++◌}
use Rattle.std.proofs.Common.{length, refl, sym, ap, ◌∙◌, arith, subst, length-append}
use Rattle.std.specs.Prelude.{IsTrue}
use Rattle.std.proofs.Math.Nat.{mul-le-mul_left}
use Rattle.tm_table.specs.declared.instr.Instr.{Instr}
use Rattle.tm_table.specs.declared.state.Access.{Access}
use Rattle.tm_plan_cases.specs.declared.cases.Cases.{Cases}
use Rattle.tm_plan_cases.specs.Shaped.{AreShaped}
use Rattle.tm_runs.specs.Machine.{World, State, Table, get, computes}
use Rattle.tm_runs.specs.Runs.{Takes, Now, At, Within, IsQuiet}
use Rattle.tm_runs.proofs.Compose.{takes_then, takes_map, within_map, quiet_within}
use Rattle.tm_runs.proofs.Steps.{step_addi, step_add, step_slli}
use Rattle.tm_runs.proofs.Tables.{get_put_other, at_front, at_next}
use Rattle.tm_blocks_base.specs.Instrs.{addi, add, slli}
use Rattle.tm_blocks_base.specs.Blocks.{constant}
use Rattle.tm_blocks_base.specs.Laws.{Uses, Nowhere, RegistersFit}
use Rattle.tm_blocks_base.proofs.Lengths.{length-constant}
use Rattle.tm_blocks_base.proofs.Dwords.{fit_put, on_quiet}
use Rattle.tm_blocks_base.proofs.Constant.{constant_takes}
use Rattle.tm_plan_owned.specs.Lines.{line_count, line_place}
use Rattle.tm_plan_owned.proofs.Windows.{line-of}
use Rattle.tm_plan_owned.proofs.Reach.{reach, harts_most}
use Rattle.tm_blocks_compare.specs.Words.{register_loop, window_check, own_check, last_check, next_check, first_check}
use Rattle.tm_blocks_compare.specs.Words.{pass_head, pass_body, one_pass}
use Rattle.tm_blocks_compare.specs.Numbers.{either, first_register, first_dword, first_of_pass}
use Rattle.tm_blocks_compare.proofs.Looks.{Looked, looked_then, looked_as, looked_before, first-append, first-at}
use Rattle.tm_blocks_compare.proofs.Dwords.{apart-from, rows, Comparable, comparable-left, comparable-right}
use Rattle.tm_blocks_compare.proofs.Dwords.{length-rows, window_take}
use Rattle.tm_blocks_compare.proofs.Registers.{Pairs, registers_take}
use Rattle.tm_blocks_compare.proofs.Lengths.{length-registers, body-is, length-body, length-head}

-- reads of what reads back alone
abbrev pub Peeks : World → Access → Type 0
Peeks w = Uses (λ a. IsTrue (w.own a)) Nowhere

module _ (w : World) (lo hi : ℕ) (table : Table) (stop M : ℕ) (cases : Cases) (h bytes : ℕ) (s : AreShaped cases) where
  abbrev pub n : ℕ
  n = cases.line / 8

  abbrev pub b : ℕ
  b = cases.line * cases.harts - cases.line

  -- the masks of a window
  abbrev pub part : ℕ → List ℕ
  part v = rows (bytes + line_place cases h v) n b (line_count cases h v)

  abbrev pub masks : List ℕ
  masks = part 0 ++ (part 1 ++ part 2)

  abbrev Any : State → Type 0
  Any t = Unit {0}

  abbrev Ready : (p q : ℕ) → List ℕ → Type 0
  Ready p q rs = Comparable w lo hi (Peeks w) tt table stop p q rs

  abbrev steps : ℕ → ℕ
  steps v = 12 + line_count cases h v * (12 * n + 4)

  -- the sizes of lines
  pub record Sizes (v : ℕ) : Type 0 where
    pub some : n ≡ suc (n - 1)
    pub short : n ≤ 16
    pub turn : 8 * n + b ≡ cases.line * cases.harts
    pub gap : b < 2 ^ 11
    pub few : line_count cases h v < 2048
    pub dwords : line_count cases h v * n ≤ 512
    pub reach : (8 * n + b) * line_count cases h v ≤ 4096
    pub place : line_place cases h v ≤ 8192

  pub sizes : (v : ℕ) → v < 3 → Sizes v
  sizes v low =
      let far = reach cases h v s low in
      let size = line-of cases.line s.line in
      let c = line_count cases h v in
      let eight : 8 * n ≡ cases.line = omega (arith, size.2.eight, size.2.dwords) in
      let one : cases.line * 1 ≤ cases.line * cases.harts = mul-le-mul_left cases.line s.harts.0 in
      let all : cases.line * cases.harts ≤ cases.line * 16 = mul-le-mul_left cases.line (harts_most cases s) in
      let turn : 8 * n + b ≡ cases.line * cases.harts = omega arith in
      let lines : 8 * n * c ≡ cases.line * c = ap (λ (l : ℕ). l * c) eight in
      let whole : (8 * n + b) * c ≡ cases.line * cases.harts * c = ap (λ (l : ℕ). l * c) turn in
      record {
        some = omega (arith, size.2.some, size.2.dwords);
        short = omega (arith, size.2.short, size.2.dwords);
        turn = turn;
        gap = omega (arith, size.2.most);
        few = far.count;
        dwords = omega (arith, far.line);
        reach = omega (arith, far.all);
        place = far.place;
      }

  -- a window
  own_take : (v : ℕ) → v < 3 → (p q i far : ℕ) (t : State) → Ready p q (part v) → get t.regs 1 ≡ p → get t.regs 2 ≡ q
      → get t.regs 8 ≡ i → p < 2 ^ 62 → q < 2 ^ 62 → bytes < 2 ^ 62 → i < 2 ^ 31 → t.mem ≡ table
      → stop ≡ t.pc + 4 * length (own_check cases h bytes v far) + 4 * far → lo ≤ t.pc
      → t.pc + 4 * length (own_check cases h bytes v far) ≤ hi → stop ≤ hi
      → At w.text t.pc (own_check cases h bytes v far)
      → Takes w (Within lo hi (Peeks w)) (Looked stop (t.pc + 4 * length (own_check cases h bytes v far)) p q i
      (first_dword table p q i (part v)) (line_count cases h v * n) Any t) (steps v) t
  own_take v low p q i far t ready one two eight pl ql bl il same stops x y z at =
      let size = sizes v low in
      let c = line_count cases h v in
      let r = bytes + line_place cases h v in
      let F : ℕ → Type 0 = λ D. Ready p q (rows r D b c) → p + 8 * (c * D) < 2 ^ 63 → q + 8 * (c * D) < 2 ^ 63
      → r + (8 * D + b) * c < 2 ^ 63 → i + c * D < 2 ^ 32
      → stop ≡ t.pc + 4 * length (window_check r c D b far) + 4 * far → t.pc + 4 * length (window_check r c D b far)
      ≤ hi → At w.text t.pc (window_check r c D b far)
      → Takes w (Within lo hi (Peeks w)) (Looked stop (t.pc + 4 * length (window_check r c D b far)) p q i
      (first_dword table p q i (rows r D b c)) (c * D) Any t) (12 + c * (12 * D + 4)) t in
      let few : n - 1 < 2 ^ 10 = omega (arith, size.short) in
      let G : F (suc (n - 1)) = λ a d e f g k m o. window_take w lo hi (Peeks w) tt table stop (n - 1) b few size.gap c
      r p q i far t a one two eight d e f g size.few same k x m z o in
      subst F (sym size.some) G ready (omega (arith, size.dwords)) (omega (arith, size.dwords))
      (omega (arith, size.reach, size.place)) (omega (arith, size.dwords)) stops y at

  length-masks : (v : ℕ) → v < 3 → length (part v) ≡ line_count cases h v * n
  length-masks v low =
      let size = sizes v low in
      let F : ℕ → Type 0 = λ D. length (rows (bytes + line_place cases h v) D b (line_count cases h v))
      ≡ line_count cases h v * D in
      subst F (sym size.some) (length-rows w lo hi (Peeks w) tt table stop (n - 1) b (omega (arith, size.short))
      size.gap (line_count cases h v) (bytes + line_place cases h v))

  abbrev l : ℕ → ℕ
  l v = line_count cases h v * n

  -- what a search in one list and then in another finds
  search-append : (xs ys : List ℕ) (k p q i : ℕ) → length xs ≡ k
      → either (first_dword table p q i xs) (first_dword table (p + 8 * k) (q + 8 * k) (i + k) ys)
      ≡ first_dword table p q i (xs ++ ys)
  search-append xs ys k p q i e =
      ap (either (first_dword table p q i xs)) (first-at table ys _ _ _ _ _ _ (ap (λ (m : ℕ). p + 8 * m) (sym e))
      (ap (λ (m : ℕ). q + 8 * m) (sym e)) (ap (λ (m : ℕ). i + m) (sym e)))
      ∙ sym (first-append table xs ys p q i)

  ready-later : (xs ys : List ℕ) (k p q : ℕ) → length xs ≡ k → Ready p q (xs ++ ys) → Ready (p + 8 * k) (q + 8 * k) ys
  ready-later xs ys k p q e r = subst (λ (m : ℕ). Ready (p + 8 * m) (q + 8 * m) ys) e
      (comparable-right w lo hi (Peeks w) tt table stop xs ys p q r)

  abbrev first : List Instr
  first = first_check cases h bytes

  abbrev next : List Instr
  next = next_check cases h bytes

  abbrev last : List Instr
  last = last_check cases h bytes

  -- the last window, the last two, and all three
  two_take : (p q i : ℕ) (t : State) → Ready p q (part 1 ++ part 2) → get t.regs 1 ≡ p → get t.regs 2 ≡ q
      → get t.regs 8 ≡ i → p < 2 ^ 61 → q < 2 ^ 61 → bytes < 2 ^ 62 → i < 2 ^ 30 → t.mem ≡ table
      → stop ≡ t.pc + 4 * (length next + length last) + 20 → lo ≤ t.pc → t.pc + 4 * (length next + length last) ≤ hi
      → stop ≤ hi → At w.text t.pc (next ++ last)
      → Takes w (Within lo hi (Peeks w)) (Looked stop (t.pc + 4 * (length next + length last)) p q i
      (first_dword table p q i (part 1 ++ part 2)) (l 1 + l 2) Any t) (steps 1 + steps 2) t
  two_take p q i t ready one two eight pl ql bl il same stops x y z at =
      let small = (sizes 1 (omega arith)).dwords in
      let len = length-masks 1 (omega arith) in
      let end = t.pc + 4 * (length next + length last) in
      let mid = t.pc + 4 * length next in
      takes_then (own_take 1 (omega arith) p q i (5 + length last) t
      (comparable-left w lo hi (Peeks w) tt table stop (part 1) (part 2) p q ready) one two eight (omega arith)
      (omega arith) bl (omega arith) same (omega arith) x (omega arith) z (at_front w.text t.pc next last at))
      (λ u f.
      takes_map (λ a g. g) (λ a g. looked_as stop end end p q i _ _ (l 1 + l 2) (l 1 + l 2) Any Any t a refl
      (search-append (part 1) (part 2) (l 1) p q i len) refl (λ m. tt) g)
      (looked_then stop mid end p q i _ (l 1) Any Any (first_dword table (p + 8 * l 1) (q + 8 * l 1) (i + l 1) (part 2))
      (l 2) (l 1 + l 2) refl t u (steps 2) f (λ e.
      let pc = e.pc in
      takes_map (λ a g. g) (λ a g. looked_as stop (u.pc + 4 * length last) end (p + 8 * l 1) (q + 8 * l 1) (i + l 1) _ _
      (l 2) (l 2) Any Any u a (omega arith) refl refl (λ m. tt) g)
      (own_take 2 (omega arith) (p + 8 * l 1) (q + 8 * l 1) (i + l 1) 5 u
      (ready-later (part 1) (part 2) (l 1) p q len ready) e.one e.two e.eight (omega arith) (omega arith) bl
      (omega arith) (f.mem ∙ same) (omega arith) (omega arith) (omega arith) z
      (at_next w.text t.pc u.pc next last (length next) refl (omega arith) at)))))

  three_take : (p q i : ℕ) (t : State) → Ready p q masks → get t.regs 1 ≡ p → get t.regs 2 ≡ q → get t.regs 8 ≡ i
      → p < 2 ^ 60 → q < 2 ^ 60 → bytes < 2 ^ 62 → i < 2 ^ 20 → t.mem ≡ table
      → stop ≡ t.pc + 4 * (length first + (length next + length last)) + 20 → lo ≤ t.pc
      → t.pc + 4 * (length first + (length next + length last)) ≤ hi → stop ≤ hi
      → At w.text t.pc (first ++ (next ++ last))
      → Takes w (Within lo hi (Peeks w)) (Looked stop (t.pc + 4 * (length first + (length next + length last))) p q i
      (first_dword table p q i masks) (l 0 + (l 1 + l 2)) Any t) (steps 0 + (steps 1 + steps 2)) t
  three_take p q i t ready one two eight pl ql bl il same stops x y z at =
      let small = (sizes 0 (omega arith)).dwords in
      let len = length-masks 0 (omega arith) in
      let end = t.pc + 4 * (length first + (length next + length last)) in
      let mid = t.pc + 4 * length first in
      takes_then (own_take 0 (omega arith) p q i (5 + length last + length next) t
      (comparable-left w lo hi (Peeks w) tt table stop (part 0) (part 1 ++ part 2) p q ready) one two eight
      (omega arith) (omega arith) bl (omega arith) same (omega arith) x (omega arith) z
      (at_front w.text t.pc first (next ++ last) at)) (λ u f.
      takes_map (λ a g. g) (λ a g. looked_as stop end end p q i _ _ (l 0 + (l 1 + l 2)) (l 0 + (l 1 + l 2)) Any Any t a
      refl (search-append (part 0) (part 1 ++ part 2) (l 0) p q i len) refl (λ m. tt) g)
      (looked_then stop mid end p q i _ (l 0) Any Any (first_dword table (p + 8 * l 0) (q + 8 * l 0) (i + l 0) (part 1
      ++ part 2)) (l 1 + l 2) (l 0 + (l 1 + l 2)) refl t u (steps 1 + steps 2) f (λ e.
      let pc = e.pc in
      takes_map (λ a g. g) (λ a g. looked_as stop (u.pc + 4 * (length next + length last)) end (p + 8 * l 0)
      (q + 8 * l 0) (i + l 0) _ _ (l 1 + l 2) (l 1 + l 2) Any Any u a (omega arith) refl refl (λ m. tt) g)
      (two_take (p + 8 * l 0) (q + 8 * l 0) (i + l 0) u (ready-later (part 0) (part 1 ++ part 2) (l 0) p q len ready)
      e.one e.two e.eight (omega arith) (omega arith) bl (omega arith) (f.mem ∙ same) (omega arith) (omega arith)
      (omega arith) z
      (at_next w.text t.pc u.pc first (next ++ last) (length first) refl (omega arith) at)))))

  -- ---- a pass

  -- 30 registers, and then the dwords
  pub body_take : (p q : ℕ) (t : State) → Pairs w lo hi (Peeks w) tt table stop M p q 30
      → Ready (p + 240) (q + 240) masks → get t.regs 1 ≡ p → get t.regs 2 ≡ q → get t.regs 5 ≡ M → get t.regs 8 ≡ 0
      → p < 2 ^ 59 → q < 2 ^ 59 → bytes < 2 ^ 62 → M < 2 ^ 64 → t.mem ≡ table
      → stop ≡ t.pc + 4 * length (pass_body cases h bytes) + 20 → lo ≤ t.pc
      → t.pc + 4 * length (pass_body cases h bytes) ≤ hi → stop ≤ hi → At w.text t.pc (pass_body cases h bytes)
      → Takes w (Within lo hi (Peeks w)) (Looked stop (t.pc + 4 * length (pass_body cases h bytes)) p q 0
      (first_of_pass table M p q masks) (30 + (l 0 + (l 1 + l 2))) Any t) (332 + (steps 0 + (steps 1 + steps 2))) t
  body_take p q t pairs ready one two five eight pl ql bl ml same stops x y z at =
      let far = 5 + length last + length next + length first in
      let regs = register_loop far in
      let rest = first ++ (next ++ last) in
      let code = subst (At w.text t.pc) (body-is cases h bytes) at in
      let len = length-body cases h bytes in
      let end = t.pc + 4 * length (pass_body cases h bytes) in
      let v = first_register table M p q 0 30 in
      let u = first_dword table (p + 240) (q + 240) 30 masks in
      takes_then (registers_take w lo hi (Peeks w) tt table stop M p q far t pairs one two five eight (omega arith)
      (omega arith) ml same (omega (arith, len)) x (omega (arith, len)) z (at_front w.text t.pc regs rest code))
      (λ a f.
      looked_then stop (t.pc + 52) end p q 0 v 30 Any Any u (l 0 + (l 1 + l 2)) (30 + (l 0 + (l 1 + l 2))) refl t a
      (steps 0 + (steps 1 + steps 2)) f (λ e.
      let pc = e.pc in
      takes_map (λ c g. g) (λ c g. looked_as stop (a.pc + 4 * (length first + (length next + length last))) end
      (p + 8 * 30) (q + 8 * 30) (0 + 30) u u (l 0 + (l 1 + l 2)) (l 0 + (l 1 + l 2)) Any Any a c
      (omega (arith, len)) refl refl (λ m. tt) g)
      (three_take (p + 240) (q + 240) 30 a ready e.one e.two e.eight (omega arith) (omega arith) bl (omega arith)
      (f.mem ∙ same) (omega (arith, len)) (omega arith) (omega (arith, len)) z
      (at_next w.text t.pc a.pc regs rest 13 (length-registers far) (omega arith) code))))

  -- the pointers, and the count at 0
  record Begun (p k : ℕ) (t u : State) : Type 0 where
    pc : u.pc ≡ t.pc + 56
    one : get u.regs 1 ≡ p
    two : get u.regs 2 ≡ p + 8192 * k
    eight : get u.regs 8 ≡ 0
    regs : (r : ℕ) → (r ≡ 5) ⊎ ((r ≡ 9) ⊎ (11 ≤ r)) → get u.regs r ≡ get t.regs r
    mem : u.mem ≡ t.mem
    fits : RegistersFit t → RegistersFit u

  head_take : (p k : ℕ) (t : State) → p < 2 ^ 58 → k < 2 ^ 8 → get t.regs 9 ≡ k → lo ≤ t.pc → t.pc + 56 ≤ hi
      → At w.text t.pc (pass_head p) → Takes w (Within lo hi (Peeks w)) (Begun p k t) 14 t
  unfolding pass_head
  head_take p k t pl kl nine x y at =
      let tail : List Instr = slli 2 9 13 ∷ add 2 2 1 ∷ addi 8 0 0 ∷ [] in
      takes_then {n = 11} {k = 3} (takes_map (quiet_within lo hi (Peeks w) tt) (λ u g. g)
      (constant_takes w lo hi 1 p (omega arith) t x (omega arith) (omega arith)
      (at_front w.text t.pc (constant 1 p) tail at))) (λ u c.
      let pc : u.pc ≡ t.pc + 44 = c.pc in
      let code = at_next w.text t.pc u.pc (constant 1 p) tail 11 (length-constant 1 p) pc at in
      let e1 : get u.regs 1 ≡ p = ap (λ (f : Table). get f 1) c.regs in
      let keep : (r : ℕ) → r ≢ 1 → get u.regs r ≡ get t.regs r =
      λ r n1. ap (λ (f : Table). get f r) c.regs ∙ get_put_other t.regs 1 p r n1 in
      let e9 : get u.regs 9 ≡ k = keep 9 (omega arith) ∙ nine in
      let u1 = computes (slli 2 9 13) u (k * 8192) in
      let u2 = computes (add 2 2 1) u1 (p + 8192 * k) in
      let u3 = computes (addi 8 0 0) u2 0 in
      let kept : (r : ℕ) → r ≢ 2 → r ≢ 8 → get u3.regs r ≡ get u.regs r =
      λ r n2 n8. get_put_other u2.regs 8 0 r n8 ∙
      (get_put_other u1.regs 2 (p + 8192 * k) r n2 ∙ get_put_other u.regs 2 (k * 8192) r n2) in
      step_slli (k * 8192) refl code.0 (rw e9 (omega arith)) (on_quiet _ u _ tt (omega arith) (omega arith))
      (step_add (p + 8192 * k) refl code.1.0 (rw e1 (omega arith)) (on_quiet _ u1 _ tt (omega arith) (omega arith))
      (step_addi 0 refl code.1.1.0 refl (on_quiet _ u2 _ tt (omega arith) (omega arith))
      (Now (record {
        pc = omega arith;
        one = kept 1 (omega arith) (omega arith) ∙ e1;
        two = refl;
        eight = refl;
        regs = λ r a. kept r (apart-from r a 2 (omega arith) (omega arith) (omega arith))
            (apart-from r a 8 (omega arith) (omega arith) (omega arith)) ∙ keep r
            (apart-from r a 1 (omega arith) (omega arith) (omega arith));
        mem = c.mem;
        fits = λ f. fit_put u2.regs 8 0 (omega arith)
            (fit_put u1.regs 2 (p + 8192 * k) (omega arith) (fit_put u.regs 2 (k * 8192) (omega arith) (c.fits f)));
      })))))

  -- pass k, from its first word
  pub pass_take : (p k : ℕ) (t : State) → Pairs w lo hi (Peeks w) tt table stop M p (p + 8192 * k) 30
      → Ready (p + 240) (p + 8192 * k + 240) masks → get t.regs 5 ≡ M → get t.regs 9 ≡ k → p < 2 ^ 58 → k < 2 ^ 8
      → bytes < 2 ^ 62 → M < 2 ^ 64 → t.mem ≡ table
      → stop ≡ t.pc + 4 * length (one_pass cases h p bytes) + 20 → lo ≤ t.pc
      → t.pc + 4 * length (one_pass cases h p bytes) ≤ hi → stop ≤ hi → At w.text t.pc (one_pass cases h p bytes)
      → Takes w (Within lo hi (Peeks w)) (Looked stop (t.pc + 4 * length (one_pass cases h p bytes)) p (p + 8192 * k) 0
      (first_of_pass table M p (p + 8192 * k) masks) (30 + (l 0 + (l 1 + l 2))) Any t)
      (14 + (332 + (steps 0 + (steps 1 + steps 2)))) t
  pass_take p k t pairs ready five nine pl kl bl ml same stops x y z at =
      let front = pass_head p in
      let back = pass_body cases h bytes in
      let len : length (one_pass cases h p bytes) ≡ 14 + length back =
      length-append front back ∙ ap (λ (m : ℕ). m + length back) (length-head p) in
      let end = t.pc + 4 * length (one_pass cases h p bytes) in
      takes_then (head_take p k t pl kl nine x (omega (arith, len)) (at_front w.text t.pc front back at)) (λ u b.
      let pc = b.pc in
      takes_map (λ c g. g) (λ c g. looked_before stop end p (p + 8192 * k) 0 _ (30 + (l 0 + (l 1 + l 2))) Any t u c
      b.regs b.mem b.fits
      (looked_as stop (u.pc + 4 * length back) end p (p + 8192 * k) 0 _ _ (30 + (l 0 + (l 1 + l 2)))
      (30 + (l 0 + (l 1 + l 2))) Any Any u c (omega (arith, len)) refl refl (λ m. tt) g))
      (body_take p (p + 8192 * k) u pairs ready b.one b.two (b.regs 5 (inl refl) ∙ five) b.eight (omega arith)
      (omega arith) bl ml (b.mem ∙ same) (omega (arith, len)) (omega arith) (omega (arith, len)) z
      (at_next w.text t.pc u.pc front back 14 (length-head p) (omega arith) at)))
