-- `keeper::close_session` meets its contract.
-- Assumes nothing.
use native.Mathlib.Omega.{arith}
use mathlib.Core.Path.{refl, sym}
use Rattle.keeper.proofs.Kept.{done-by, turned-away, refused, lengths-told}
use Rattle.keeper.proofs.Calls.{closing-marks, closing-kept}
use Rattle.keeper.proofs.close_session.Goals as goal

pub returns-in_err-lengths : goal.returns-in_err-lengths
returns-in_err-lengths c = turned-away _ _ _ _ refl _ _ c.in_err-lengths.ensures c.from_residual.ensures.1

pub own_ahead-own-requires : goal.own_ahead-own-requires
own_ahead-own-requires c = (lengths-told _ c.args.roles.now (sym c.in_ok-lengths.ensures)).0

pub returns-in_err-table : goal.returns-in_err-table
returns-in_err-table c = refused _ _ _ _ refl c.in_ok-lengths.ensures _ _ c.in_err-table.ensures c.from_residual-in_err-table.ensures.1

pub mark-requires : goal.mark-requires
mark-requires c =
    closing-marks (done-by _ c.args.roles.now _ _ c.in_ok-lengths.ensures c.in_ok-table.ensures c.close_session.auto.ledger (omega arith))
    c.recorded_ahead-at.ensures c.links_ahead-links.ensures c.own_ahead-own.ensures.1

pub returns : goal.returns
returns c =
    closing-kept (done-by _ c.args.roles.now _ _ c.in_ok-lengths.ensures c.in_ok-table.ensures c.close_session.auto.ledger (omega arith))
    c.recorded_ahead-at.ensures c.links_ahead-links.ensures c.own_ahead-own.ensures.1 c.mark.ensures
