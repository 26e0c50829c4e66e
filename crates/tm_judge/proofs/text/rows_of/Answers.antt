use Rattle.std.proofs.Common.{◌≡◌, ℕ, ◌+◌, ◌<◌, List, [], ◌∷◌, length, get_or, sym, subst, arith, length-append}
use Rattle.tm_guest.proofs.Starting.{one-more}
use Rattle.tm_judge.specs.declared.text.Row.{Row}
use Rattle.tm_judge.specs.Text.{IsRow}
use Rattle.tm_judge.proofs.text.rows_of.Goals as goal

pub loop-word-preserved : goal.loop-word-preserved
loop-word-preserved c =
    let xs = c.loop-word.rows.items in
    let x = c.row_of.result in
    let i = c.loop-word.word-index in
    let (count, each) = c.loop-word.invariant in
    let P : ℕ → Row → Type 0 = λ k d. IsRow (get_or c.args.text.now k 0) d in
    subst (λ (ys : List Row). (length ys ≡ i + 1) × ((k : ℕ) (d : Row) → k < i + 1 → P k (get_or ys k d)))
    (sym c.in-Ok-push.ensures.items)
    (omega (arith, length-append xs (x ∷ []), count), one-more P xs x i count each c.row_of.ensures)

pub returns : goal.returns
returns c =
    let (count, each) = c.loop-word.invariant in
    let end = c.loop-word-test.false in
    record {
      count = omega (arith, count, end, c.loop-word.auto.word-index-end);
      each = λ k d l. each k d (omega (arith, l, end));
    }
