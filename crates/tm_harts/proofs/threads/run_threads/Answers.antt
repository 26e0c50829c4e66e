use denote.Exit as exits
use denote.Param.Send.{param_sync, arg_sync}
use Rattle.tm_harts.proofs.Crossing.{driver_sync}
use Rattle.tm_harts.proofs.Seats.{all_driven}
use Rattle.tm_harts.proofs.threads.run_threads.Goals as goal

pub work_on_each-requires-sync-W : goal.work_on_each-requires-sync-W
work_on_each-requires-sync-W g c κs within =
    param_sync 1 _ (arg_sync _ exits.no _ (driver_sync _ _ _ _ c.type_bounds.sync-R c.type_bounds.sync-G))

pub returns-clause-all : goal.returns-clause-all
returns-clause-all g c =
    all_driven c.args.mill.now c.args.seats.now c.work_on_each.new.values c.work_on_each.ensures.same
    c.work_on_each.ensures.each
