-- `keeper::look_back` meets its contract.
-- Assumes nothing.
use native.Mathlib.Omega.{arith}
use mathlib.Core.Path.{refl}
use Rattle.keeper.proofs.Kept.{done-by, turned-away, refused}
use Rattle.keeper.proofs.Calls.{look-back-scans, look-back-kept}
use Rattle.keeper.proofs.look_back.Goals as goal

pub returns-in_err-lengths : goal.returns-in_err-lengths
returns-in_err-lengths c = turned-away _ _ _ _ refl _ _ c.in_err-lengths.ensures c.from_residual.ensures.1

pub returns-in_err-table : goal.returns-in_err-table
returns-in_err-table c = refused _ _ _ _ refl c.in_ok-lengths.ensures _ _ c.in_err-table.ensures c.from_residual-in_err-table.ensures.1

pub recorded-requires : goal.recorded-requires
recorded-requires c = (done-by _ c.args.roles.now _ _ c.in_ok-lengths.ensures c.in_ok-table.ensures c.look_back.auto.ledger (omega arith)).long

pub scan-requires : goal.scan-requires
scan-requires c = look-back-scans (done-by _ c.args.roles.now _ _ c.in_ok-lengths.ensures c.in_ok-table.ensures c.look_back.auto.ledger (omega arith)) c.recorded.ensures

pub returns : goal.returns
returns c = look-back-kept (done-by _ c.args.roles.now _ _ c.in_ok-lengths.ensures c.in_ok-table.ensures c.look_back.auto.ledger (omega arith)) c.scan.ensures
