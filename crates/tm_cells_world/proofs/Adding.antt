-- A word is not both an add's and another row's.
use Rattle.std.proofs.Common.{◌≡◌, ℕ, ◌/◌, ◌%◌, ◌^◌, Bool, true, false, Option, None, Some, ◌⊎◌, inl, inr}
use Rattle.std.proofs.Common.{refl, sym, ap, ◌∙◌, eqb-true}
use Rattle.std.specs.Prelude.{if◌then◌else◌}
use Rattle.std.proofs.lemmas.Bool.{and_parts, cases_Bool}
use Rattle.tm_table.specs.declared.instr.Instr.{Instr}
use Rattle.tm_table.specs.Words.{decoded}
use Rattle.tm_plan_map.specs.Slots.{instr_of}
use Rattle.tm_table.specs.declared.add.Add.{Add}
use Rattle.tm_table.specs.Adds.{is_add, add_of}

-- no row of the table has this opcode
no-row : (rd funct3 rs1 rs2 bit25 funct6 : ℕ) → decoded (record {
  opcode = 0x2F;
  rd = rd;
  funct3 = funct3;
  rs1 = rs1;
  rs2 = rs2;
  bit25 = bit25;
  funct6 = funct6;
}) ≡ None
unfolding decoded
no-row rd funct3 rs1 rs2 bit25 funct6 = refl

add-test : (w : ℕ) (a : Add) → add_of w ≡ Some a → is_add w ≡ true
unfolding add_of
add-test w a e = by (cases_Bool (is_add w))
  where
    by : (is_add w ≡ true) ⊎ (is_add w ≡ false) → is_add w ≡ true
    by (inl t) = t
    by (inr f) = let q : None ≡ Some a = sym (ap (λ (b : Bool). if b then Some (record {
      rd = w / 2 ^ 7 % 2 ^ 5;
      rs1 = w
          / 2 ^ 15 % 2 ^ 5;
      rs2 = w / 2 ^ 20 % 2 ^ 5;
    }) else None) f) ∙ e in cc

pub add-alone : (w : ℕ) (a : Add) → add_of w ≡ Some a → instr_of w ≡ None
unfolding instr_of
add-alone w a e =
    let opcode : w % 2 ^ 7 ≡ 0x2F = eqb-true _ _ (and_parts _ _ (add-test w a e)).0 in
    ap (λ (n : ℕ). decoded (record {
      opcode = n;
      rd = w / 2 ^ 7 % 2 ^ 5;
      funct3 = w / 2 ^ 12 % 2 ^ 3;
      rs1 = w / 2 ^ 15 % 2 ^ 5;
      rs2 = w / 2 ^ 20 % 2 ^ 5;
      bit25 = w / 2 ^ 25 % 2;
      funct6 = w / 2 ^ 26;
    })) opcode ∙ no-row _ _ _ _ _ _

pub row-alone : (w : ℕ) (i : Instr) → instr_of w ≡ Some i → add_of w ≡ None
row-alone w i e = by (add_of w) refl
  where
    by : (o : Option Add) → add_of w ≡ o → o ≡ None
    by None q = refl
    by (Some a) q = let r : None ≡ Some i = sym (add-alone w a q) ∙ e in cc
