use Rattle.std.proofs.Common.{◌≡◌, ◌+◌, ◌*◌, length, ap, ◌∙◌, arith}
use Rattle.tm_plan_map.specs.Map.{tables_base}
use Rattle.tm_pass_place.specs.Built.{exit_at}
use Rattle.tm_pass.specs.declared.hart.HartCode.{HartCode}
use Rattle.tm_pass_place.proofs.Heads.{heads-low}
use Rattle.tm_pass.proofs.Gates.{behind-all, shuts-out, words-many}
use Rattle.tm_pass.proofs.hart.hart_code.Goals as goal

pub case_marks-requires-clause-low : goal.case_marks-requires-clause-low
unfolding tables_base
case_marks-requires-clause-low c = omega (arith, c.requires.room)

pub hart_words-requires-clause-low : goal.hart_words-requires-clause-low
unfolding tables_base
hart_words-requires-clause-low c = omega (arith, c.requires.room)

pub overflow_add-result : goal.overflow_add-result
unfolding tables_base
overflow_add-result c =
    let low = heads-low c.args.cases.now c.requires.shaped c.args.h c.requires.mine c.args.base
    (length c.args.cases.now.cases) (omega arith) in
    omega (arith, low, c.requires.room, c.in_ok-marks.ensures.behind, c.in_ok-barrier.ensures.few)

pub returns-clause-few : goal.returns-clause-few
returns-clause-few c =
    let cases = c.args.cases.now in
    let low = heads-low cases c.requires.shaped c.args.h c.requires.mine c.args.base (length cases.cases) (omega arith)
    in
    let long = ap length c.in_ok-words.ensures ∙ words-many cases c.requires.shaped c.args.h c.requires.mine c.args.base
    in
    omega (
      arith,
      low,
      long,
      behind-all cases c.requires.shaped c.args.h c.requires.mine c.args.base,
      c.in_ok-barrier.ensures.is,
      c.in_ok-barrier.ensures.few,
    )

pub returns-clause-gate : goal.returns-clause-gate
returns-clause-gate c =
    let marks = c.in_ok-marks.marks in
    let code : HartCode = record {
      words = c.in_ok-words.words;
      starts = marks.starts;
      ends = marks.ends;
      exit = marks.behind + 4 * c.in_ok-barrier.barrier;
      halt = marks.behind;
    } in
    let exit : marks.behind + 4 * c.in_ok-barrier.barrier ≡ exit_at c.args.cases.now c.args.h c.args.base =
    omega (arith, c.in_ok-marks.ensures.behind, c.in_ok-barrier.ensures.is) in
    shuts-out c.args.cases.now c.requires.shaped c.args.h c.requires.mine c.args.base code c.in_ok-words.ensures
    c.in_ok-marks.ensures.starts c.in_ok-marks.ensures.ends exit c.in_ok-marks.ensures.behind
