-- What the store of a number does.
use Rattle.std.proofs.Common.{◌≡◌, ℕ, ◌+◌, ◌*◌, refl, sym, ap, ◌∙◌, arith}
use Rattle.tm_runs.specs.Runs.{Now}
use Rattle.tm_runs.proofs.Steps.{step_sd}
use Rattle.tm_blocks_base.specs.Laws.{LastStoreRuns}
use Rattle.tm_blocks_base.proofs.Dwords.{may_at}

pub last_store_runs : (cell : ℕ) → LastStoreRuns cell
last_store_runs cell w s usable free at place =
    let low = usable.low in
    let here : cell + 8 * 0 ≡ cell = omega arith in
    step_sd cell refl at.0 (rw place (omega arith)) (may_at 0 _ usable (omega arith) (sym here))
    (ap w.fixed (sym here) ∙ free 0 (omega arith)) refl (Now refl)
