-- `keeper::write` meets its contract.
-- Assumes nothing.
use native.Mathlib.Omega.{arith}
use mathlib.Core.Path.{refl}
use Rattle.keeper.proofs.Kept.{done-by, turned-away, refused}
use Rattle.keeper.proofs.Calls.{write-lets-go, write-marks, write-kept}
use Rattle.keeper.proofs.write.Goals as goal

pub returns-in_err-lengths : goal.returns-in_err-lengths
returns-in_err-lengths c = turned-away _ _ _ _ refl _ _ c.in_err-lengths.ensures c.from_residual.ensures.1

pub returns-in_err-b : goal.returns-in_err-b
returns-in_err-b c = refused _ _ _ _ refl c.in_ok-lengths.ensures _ _ c.in_err-b.ensures c.from_residual-in_err-b.ensures.1

pub mark-requires : goal.mark-requires
mark-requires c = write-marks (done-by _ c.args.roles.now _ _ c.in_ok-lengths.ensures c.in_ok-b.ensures c.write.auto.ledger (omega arith)) c.recorded_ahead-at.ensures c.links_ahead-links.ensures

pub let_go-requires : goal.let_go-requires
let_go-requires c = write-lets-go (done-by _ c.args.roles.now _ _ c.in_ok-lengths.ensures c.in_ok-b.ensures c.write.auto.ledger (omega arith))

pub returns : goal.returns
returns c =
    write-kept (done-by _ c.args.roles.now _ _ c.in_ok-lengths.ensures c.in_ok-b.ensures c.write.auto.ledger (omega arith))
    c.recorded_ahead-at.ensures c.links_ahead-links.ensures c.named_ahead-replaced.ensures c.written_role.ensures c.mark.ensures c.let_go.ensures
