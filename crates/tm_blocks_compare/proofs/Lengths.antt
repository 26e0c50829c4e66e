-- How many instructions the words have that compare passes.
use Rattle.std.proofs.Common.{◌≡◌, ◌≢◌, ℕ, ◌+◌, ◌-◌, ◌*◌, ◌/◌, ◌≤◌, sym, ne_eqb, eq-eqb, List, [], ◌∷◌, ◌++◌, length}
use Rattle.std.proofs.Common.{Bool, true, false, ◌==◌, refl, ap, ◌∙◌, arith, length-append, append_assoc}
use Rattle.std.specs.Prelude.{if◌then◌else◌}
use Rattle.tm_table.specs.declared.instr.Instr.{Instr}
use Rattle.tm_plan_cases.specs.declared.cases.Cases.{Cases}
use Rattle.tm_asm.specs.Sheet.{Sheet, puts}
use Rattle.tm_asm.proofs.Append.{puts-none}
use Rattle.tm_blocks_base.specs.Instrs.{addi, slli, add}
use Rattle.tm_blocks_base.specs.Blocks.{constant}
use Rattle.tm_blocks_base.proofs.Lengths.{length-constant}
use Rattle.tm_plan_owned.specs.Lines.{line_count, line_place}
use Rattle.tm_blocks_compare.specs.Words.{register_loop, line_turn, window_check, own_check, last_check, next_check}
use Rattle.tm_blocks_compare.specs.Words.{first_check, pass_head, pass_body, one_pass}

pub length-registers : (far : ℕ) → length (register_loop far) ≡ 13
unfolding register_loop
length-registers far = refl

pub length-window : (masks lines n b far : ℕ) → length (window_check masks lines n b far) ≤ 28
unfolding window_check
length-window masks lines n b far = by (lines == 0)
  where
    by : (c : Bool) → length (if c then [] else constant 3 masks ++ (addi 4 0 lines ∷ []) ++ line_turn n b far) ≤ 28
    by true = omega arith
    by false = omega (
      arith,
      length-append (constant 3 masks ++ (addi 4 0 lines ∷ [])) (line_turn n b far),
      length-append (constant 3 masks) (addi 4 0 lines ∷ []),
      length-constant 3 masks,
    )

pub no-check : (masks lines n b far : ℕ) (code : Sheet) → lines ≡ 0
    → code ≡ puts code (window_check masks lines n b far)
unfolding window_check
no-check masks lines n b far code e = sym (puts-none code) ∙ ap (λ (k : ℕ). puts code (window_check masks k n b far))
    (sym e)

some-check : (masks lines n b far : ℕ) → lines ≢ 0 → length (window_check masks lines n b far) ≡ 28
unfolding window_check
some-check masks lines n b far e =
    ap (λ (c : Bool). length (if c then [] else constant 3 masks ++ (addi 4 0 lines ∷ []) ++ line_turn n b far))
    (ne_eqb lines 0 e)
    ∙ (length-append (constant 3 masks ++ (addi 4 0 lines ∷ [])) (line_turn n b far) ∙ omega (
      arith,
      length-append (constant 3 masks) (addi 4 0 lines ∷ []),
      length-constant 3 masks,
    ))

none-check : (masks lines n b far : ℕ) → lines ≡ 0 → length (window_check masks lines n b far) ≡ 0
unfolding window_check
none-check masks lines n b far e =
    ap (λ (c : Bool). length (if c then [] else constant 3 masks ++ (addi 4 0 lines ∷ []) ++ line_turn n b far))
    (eq-eqb lines 0 e)

pub check-none : (cases : Cases) (h v bytes far : ℕ) → line_count cases h v ≡ 0 → length (own_check cases h bytes v far)
    ≡ 0
check-none cases h v bytes far e = none-check (bytes + line_place cases h v) (line_count cases h v) (cases.line / 8)
    (cases.line * cases.harts - cases.line) far e

pub check-some : (cases : Cases) (h v bytes far : ℕ) → line_count cases h v ≢ 0 → length (own_check cases h bytes v far)
    ≡ 28
check-some cases h v bytes far e = some-check (bytes + line_place cases h v) (line_count cases h v) (cases.line / 8)
    (cases.line * cases.harts - cases.line) far e

pub length-head : (first : ℕ) → length (pass_head first) ≡ 14
unfolding pass_head
length-head first = length-append (constant 1 first) (slli 2 9 13 ∷ add 2 2 1 ∷ addi 8 0 0 ∷ []) ∙ ap (λ (k : ℕ). k + 3)
    (length-constant 1 first)

module _ (cases : Cases) (h bytes : ℕ) where
  abbrev first : List Instr
  first = first_check cases h bytes

  abbrev next : List Instr
  next = next_check cases h bytes

  abbrev last : List Instr
  last = last_check cases h bytes

  pub body-is : pass_body cases h bytes ≡ register_loop (5 + length last + length next + length first)
      ++ (first ++ (next ++ last))
  unfolding pass_body
  body-is =
      let r = register_loop (5 + length last + length next + length first) in
      append_assoc (r ++ first) next last ∙ append_assoc r first (next ++ last)

  pub length-body : length (pass_body cases h bytes) ≡ 13 + (length first + (length next + length last))
  length-body =
      let r = register_loop (5 + length last + length next + length first) in
      ap length body-is ∙ (length-append r (first ++ (next ++ last)) ∙ omega (
        arith,
        length-registers (5 + length last + length next + length first),
        length-append first (next ++ last),
        length-append next last,
      ))

  pub own-short : (v far : ℕ) → length (own_check cases h bytes v far) ≤ 28
  own-short v far = length-window (bytes + line_place cases h v) (line_count cases h v) (cases.line / 8)
      (cases.line * cases.harts - cases.line) far

  pub pass-short : (p : ℕ) → length (one_pass cases h p bytes) ≤ 111
  pass-short p = omega (
    arith,
    length-append (pass_head p) (pass_body cases h bytes),
    length-head p,
    length-body,
    own-short 0 (5 + length last + length next),
    own-short 1 (5 + length last),
    own-short 2 5,
  )

  pub length-one : (p : ℕ) → length (one_pass cases h p bytes) ≡ 27 + (length first + (length next + length last))
  length-one p = length-append (pass_head p) (pass_body cases h bytes) ∙ omega (arith, length-head p, length-body)
