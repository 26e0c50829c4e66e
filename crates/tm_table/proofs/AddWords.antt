-- Words and adds stand for each other.
use Rattle.std.proofs.Common.{◌≡◌, ℕ, ◌+◌, ◌*◌, ◌/◌, ◌%◌, ◌^◌, Bool, true, false, None, Some, ◌⊎◌, inl, inr}
use Rattle.std.proofs.Common.{sym, ap, ◌∙◌, subst, arith, eq-eqb, eqb-true}
use Rattle.std.specs.Prelude.{if◌then◌else◌}
use Rattle.std.proofs.lemmas.Bool.{and_parts, and_from, cases_Bool}
use Rattle.tm_table.specs.declared.add.Add.{Add}
use Rattle.tm_table.specs.Adds.{is_add, add_of, add_word, FitsAdd}

same-add : (a b : Add) → a.rd ≡ b.rd → a.rs1 ≡ b.rs1 → a.rs2 ≡ b.rs2 → a ≡ b
same-add a b p q r = λ i. record { rd = p i; rs1 = q i; rs2 = r i }

-- the add of an add's word
pub add-back : (a : Add) → FitsAdd a → add_of (add_word a) ≡ Some a
unfolding add_of add_word
add-back a f =
    let w : ℕ = 0x302F + a.rd * 2 ^ 7 + a.rs1 * 2 ^ 15 + a.rs2 * 2 ^ 20 in
    let rd = f.rd in let rs1 = f.rs1 in let rs2 = f.rs2 in
    let test : is_add w ≡ true =
    and_from _ _ (eq-eqb (w % 2 ^ 7) 0x2F (omega arith))
    (and_from _ _ (eq-eqb (w / 2 ^ 12 % 2 ^ 3) 3 (omega arith)) (eq-eqb (w / 2 ^ 25) 0 (omega arith))) in
    ap (λ (b : Bool). if b then Some (record {
      rd = w / 2 ^ 7 % 2 ^ 5;
      rs1 = w / 2 ^ 15 % 2 ^ 5;
      rs2 = w / 2 ^ 20
          % 2 ^ 5;
    }) else None) test
    ∙ ap (λ (x : Add). Some x) (same-add (record {
      rd = w / 2 ^ 7 % 2 ^ 5;
      rs1 = w / 2 ^ 15 % 2 ^ 5;
      rs2 = w / 2 ^ 20
          % 2 ^ 5;
    }) a (omega arith) (omega arith) (omega arith))

-- what is known of a word that is an add's
pub record IsAddWord (w : ℕ) (a : Add) : Type 0 where
  pub fits : FitsAdd a
  pub word : add_word a ≡ w

pub add-known : (w : ℕ) (a : Add) → add_of w ≡ Some a → IsAddWord w a
unfolding add_of add_word
add-known w a e = by (cases_Bool (is_add w))
  where
    made : Add
    made = record { rd = w / 2 ^ 7 % 2 ^ 5; rs1 = w / 2 ^ 15 % 2 ^ 5; rs2 = w / 2 ^ 20 % 2 ^ 5 }

    is-made : is_add w ≡ true → made ≡ a
    is-made t = let q : Some made ≡ Some a = sym (ap (λ (b : Bool). if b then Some made else None) t) ∙ e in cc

    by : (is_add w ≡ true) ⊎ (is_add w ≡ false) → IsAddWord w a
    by (inr f) = let q : None ≡ Some a = sym (ap (λ (b : Bool). if b then Some made else None) f) ∙ e in cc
    by (inl t) =
        let p = and_parts _ _ t in
        let q = and_parts _ _ p.1 in
        let opcode : w % 2 ^ 7 ≡ 0x2F = eqb-true _ _ p.0 in
        let funct : w / 2 ^ 12 % 2 ^ 3 ≡ 3 = eqb-true _ _ q.0 in
        let high : w / 2 ^ 25 ≡ 0 = eqb-true _ _ q.1 in
        subst (IsAddWord w) (is-made t) (record {
          fits = record { rd = omega arith; rs1 = omega arith; rs2 = omega arith };
          word = omega arith;
        })
