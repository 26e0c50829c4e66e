use Rattle.tm_race.proofs.Calm.{word-checked, spoil-more}
use Rattle.tm_race.proofs.harts.over_hart.Goals as goal

pub returns-clause-word : goal.returns-clause-word
returns-clause-word c =
    word-checked c.args.cases.now c.args.c c.args.h c.case_of-case.result.now c.requires.shaped c.case_of-case.ensures
    c.end_of-end.result c.end_of-end.ensures
    c.register_word.result c.register_word.ensures

pub returns-clause-spoil : goal.returns-clause-spoil
returns-clause-spoil c =
    spoil-more c.args.cases.now c.args.c c.args.h c.case_of-case.result.now c.requires.shaped c.case_of-case.ensures
    c.end_of-end.result c.end_of-end.ensures
    c.plane_of-mine.result.now c.others_of-others.result c.plane_of-mine.ensures c.others_of-others.ensures
    c.args.spoil.now c.spoiled.result c.requires.spoil c.spoiled.ensures
