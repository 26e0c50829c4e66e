use Rattle.std.proofs.Common.{length, arith}
use Rattle.tm_pass_place.proofs.Heads.{heads-low}
use Rattle.tm_pass.proofs.Gates.{whole-words}
use Rattle.tm_pass.proofs.hart.hart_words.Goals as goal

pub overflow_add-halt : goal.overflow_add-halt
overflow_add-halt c =
    let count = c.requires.shaped.count in
    let low = heads-low c.args.cases.now c.requires.shaped c.args.h c.requires.mine c.args.base
    (length c.args.cases.now.cases) (omega arith) in
    omega (arith, low, c.requires.halt)

pub overflow_cast-halt : goal.overflow_cast-halt
overflow_cast-halt c =
    let count = c.requires.shaped.count in
    let low = heads-low c.args.cases.now c.requires.shaped c.args.h c.requires.mine c.args.base
    (length c.args.cases.now.cases) (omega arith) in
    omega (arith, low, c.requires.halt)

pub append_opening-requires-clause-near : goal.append_opening-requires-clause-near
append_opening-requires-clause-near c =
    let count = c.requires.shaped.count in
    let low = heads-low c.args.cases.now c.requires.shaped c.args.h c.requires.mine c.args.base
    (length c.args.cases.now.cases) (omega arith) in
    omega (arith, low, c.requires.halt)

pub overflow_add-halt-2 : goal.overflow_add-halt-2
overflow_add-halt-2 c =
    let count = c.requires.shaped.count in
    let low = heads-low c.args.cases.now c.requires.shaped c.args.h c.requires.mine c.args.base
    (length c.args.cases.now.cases) (omega arith) in
    omega (arith, low, c.requires.halt)

pub append_cases-requires-clause-near : goal.append_cases-requires-clause-near
append_cases-requires-clause-near c =
    let count = c.requires.shaped.count in
    let low = heads-low c.args.cases.now c.requires.shaped c.args.h c.requires.mine c.args.base
    (length c.args.cases.now.cases) (omega arith) in
    omega (arith, low, c.requires.halt)

pub returns : goal.returns
returns c =
    whole-words c.args.cases.now c.requires.shaped c.args.h c.requires.mine c.args.base c.args.halt c.args.size
    c.requires.halt c.requires.barrier _ _ _ _
    c.new-words.ensures c.in_ok-append_opening.ensures c.in_ok-append_cases.ensures c.in_ok-append_ending.ensures
