-- `keeper::begin` meets its contract.
-- Assumes nothing.
use native.Mathlib.Omega.{arith}
use mathlib.Core.Path.{refl}
use Rattle.keeper.proofs.Kept.{done-by, turned-away, refused}
use Rattle.keeper.proofs.Calls.{begin-scans, begin-kept}
use Rattle.keeper.proofs.begin.Goals as goal

pub returns-in_err-lengths : goal.returns-in_err-lengths
returns-in_err-lengths c = turned-away _ _ _ _ refl _ _ c.in_err-lengths.ensures c.from_residual.ensures.1

pub returns-in_err-answer : goal.returns-in_err-answer
returns-in_err-answer c = refused _ _ _ _ refl c.in_ok-lengths.ensures _ _ c.in_err-answer.ensures c.from_residual-in_err-answer.ensures.1

pub scan-requires : goal.scan-requires
scan-requires c = begin-scans (done-by _ c.args.roles.now _ _ c.in_ok-lengths.ensures c.in_ok-answer.ensures c.begin.auto.ledger (omega arith))

pub returns : goal.returns
returns c = begin-kept (done-by _ c.args.roles.now _ _ c.in_ok-lengths.ensures c.in_ok-answer.ensures c.begin.auto.ledger (omega arith)) c.scan.ensures
