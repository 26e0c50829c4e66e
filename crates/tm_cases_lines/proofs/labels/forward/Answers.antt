use Rattle.std.proofs.Common.{◌≡◌, ℕ, List, [], ◌∷◌, ◌++◌, length, Some, None, refl, ap, ap₂, ◌∙◌}
use Rattle.tm_table.specs.declared.instr.Op.TheVariants.{Beq}
use Rattle.tm_asm.specs.declared.code.Item.{Item}
use Rattle.tm_asm.specs.declared.code.Item.TheVariants.{Plain, Branch}
use Rattle.tm_asm.specs.Sheet.{Sheet}
use Rattle.tm_asm.proofs.Words.{placed_more}
use Rattle.tm_cases_lines.proofs.labels.forward.Goals as goal

start_items : (s t u : Sheet) (n : ℕ) → s ≡ record { items = []; places = [] } → n ≡ length s.places →
    t ≡ record { items = s.items; places = s.places ++ None ∷ [] } →
    u ≡ record { items = t.items ++ Branch Beq 0 0 n ∷ []; places = t.places } → u.items ≡ Branch Beq 0 0 0 ∷ []
start_items s t u n a b c d =
    let zero : n ≡ 0 = b ∙ ap (λ (x : Sheet). length x.places) a in
    let none : t.items ≡ [] = ap (λ (x : Sheet). x.items) c ∙ ap (λ (x : Sheet). x.items) a in
    ap (λ (x : Sheet). x.items) d
    ∙ ap₂ (λ (xs : List Item) (m : ℕ). xs ++ Branch Beq 0 0 m ∷ []) none zero

pub here-requires : goal.here-requires
here-requires c = rw (c.loop.invariant.places, c.loop.invariant.label) refl

pub loop-init : goal.loop-init
loop-init c =
    let a = c.new-code.ensures in
    let b = c.in_ok-label.ensures.ok in
    let d = c.in_ok-branch.ensures.ok in
    let items =
    start_items c.new-code.result c.fresh.new.self c.branch-code.new.self c.in_ok-label.label.number a b.0 b.1 d in
    record {
      places =
          ap (λ (x : Sheet). x.places) d
          ∙ (ap (λ (x : Sheet). x.places) b.1 ∙ ap (λ (x : Sheet). x.places ++ None ∷ []) a);
      label = b.0 ∙ ap (λ (x : Sheet). length x.places) a;
      placed = λ p. rw items ((p, refl), tt);
    }

pub loop-preserved : goal.loop-preserved
loop-preserved c =
    let i = c.loop.invariant in
    record {
      places = ap (λ (x : Sheet). x.places) c.in_ok-put.ensures.ok ∙ i.places;
      label = i.label;
      placed = λ p.
          rw c.in_ok-put.ensures.ok
          (placed_more (Some p ∷ []) c.loop.code.items (Plain _) (i.placed p) tt);
    }

pub finish-requires : goal.finish-requires
finish-requires c =
    let i = c.loop.invariant in
    rw (c.here.ensures, i.places, i.label) (i.placed (length c.loop.code.items))
