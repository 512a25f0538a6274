-- `keeper::mount` meets its contract.
-- Assumes nothing.
use native.Mathlib.Omega.{arith}
use mathlib.Core.Path.{refl}
use Rattle.keeper.proofs.Kept.{done-by, turned-away, refused}
use Rattle.keeper.proofs.Calls.{mount-scans, mount-kept}
use Rattle.keeper.proofs.mount.Goals as goal

pub returns-in_err-lengths : goal.returns-in_err-lengths
returns-in_err-lengths c = turned-away _ _ _ _ refl _ _ c.in_err-lengths.ensures c.from_residual.ensures.1

pub returns-in_err-clean : goal.returns-in_err-clean
returns-in_err-clean c = refused _ _ _ _ refl c.in_ok-lengths.ensures _ _ c.in_err-clean.ensures c.from_residual-in_err-clean.ensures.1

pub last-requires : goal.last-requires
last-requires c = (done-by _ c.args.roles.now _ _ c.in_ok-lengths.ensures c.in_ok-clean.ensures c.mount.auto.ledger (omega arith)).long

pub scan-requires : goal.scan-requires
scan-requires c = mount-scans (done-by _ c.args.roles.now _ _ c.in_ok-lengths.ensures c.in_ok-clean.ensures c.mount.auto.ledger (omega arith)) c.last.ensures

pub returns : goal.returns
returns c = mount-kept (done-by _ c.args.roles.now _ _ c.in_ok-lengths.ensures c.in_ok-clean.ensures c.mount.auto.ledger (omega arith)) c.scan.ensures
