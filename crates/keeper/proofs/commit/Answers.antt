-- `keeper::commit` meets its contract.
-- Assumes nothing.
use Prim.Native.Nat.{◌+◌, ◌≤◌, ◌<◌}
use native.Mathlib.Omega.{arith}
use mathlib.Core.Path.{refl}
use Rattle.disc.specs.Disc.{most_sectors}
use Rattle.keeper.proofs.Kept.{done-by, turned-away, refused}
use Rattle.keeper.proofs.Calls.{commit-ends, commit-marks, commit-kept}
use Rattle.keeper.proofs.commit.Goals as goal
use Rattle.keeper.proofs.commit.Goals.{In_ok-table}

pub returns-in_err-lengths : goal.returns-in_err-lengths
returns-in_err-lengths c = turned-away _ _ _ _ refl _ _ c.in_err-lengths.ensures c.from_residual.ensures.1

pub returns-in_err-table : goal.returns-in_err-table
returns-in_err-table c = refused _ _ _ _ refl c.in_ok-lengths.ensures _ _ c.in_err-table.ensures c.from_residual-in_err-table.ensures.1

-- what was counted before the call lies below the table
ends : (c : In_ok-table) → (c.recorded_ahead-at.result + c.links_ahead-links.result ≤ c.in_ok-table.table + 1) × (c.in_ok-table.table < most_sectors)
ends c =
    commit-ends (done-by _ c.args.roles.now _ _ c.in_ok-lengths.ensures c.in_ok-table.ensures c.commit.auto.ledger (omega arith))
    c.recorded_ahead-at.ensures c.links_ahead-links.ensures

pub overflow_add-before : goal.overflow_add-before
overflow_add-before c = omega (arith, ends c)

pub overflow_add-table : goal.overflow_add-table
overflow_add-table c = omega (arith, ends (goal.at.overflow_add-table c).In_ok-table)

pub overflow_sub-table : goal.overflow_sub-table
overflow_sub-table c = (ends (goal.at.overflow_sub-table c).In_ok-table).0

pub mark-requires : goal.mark-requires
mark-requires c =
    commit-marks (done-by _ c.args.roles.now _ _ c.in_ok-lengths.ensures c.in_ok-table.ensures c.commit.auto.ledger (omega arith))
    c.recorded_ahead-at.ensures c.links_ahead-links.ensures

pub returns : goal.returns
returns c =
    commit-kept (done-by _ c.args.roles.now _ _ c.in_ok-lengths.ensures c.in_ok-table.ensures c.commit.auto.ledger (omega arith))
    c.recorded_ahead-at.ensures c.links_ahead-links.ensures c.mark.ensures
