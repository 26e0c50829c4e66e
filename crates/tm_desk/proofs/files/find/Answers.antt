use Rattle.tm_desk.proofs.HeldLemmas.{file_of-at_place}
use Rattle.tm_desk.proofs.files.find.Goals as goal

pub returns-then-place-files : goal.returns-then-place-files
returns-then-place-files c =
    file_of-at_place c.args.files.now c.args.name.now c.place_of-place.result c.index-files-place.result
    c.place_of-place.ensures c.if-place-files.true
