-- `keeper::release` meets its contract.
-- Assumes nothing.
use native.Mathlib.Omega.{arith}
use mathlib.Core.Path.{refl}
use Rattle.keeper.proofs.Kept.{done-by, turned-away, refused}
use Rattle.keeper.proofs.Calls.{release-lets-go, release-kept}
use Rattle.keeper.proofs.release.Goals as goal

pub returns-in_err-lengths : goal.returns-in_err-lengths
returns-in_err-lengths c = turned-away _ _ _ _ refl _ _ c.in_err-lengths.ensures c.from_residual.ensures.1

pub returns-in_err-answer : goal.returns-in_err-answer
returns-in_err-answer c = refused _ _ _ _ refl c.in_ok-lengths.ensures _ _ c.in_err-answer.ensures c.from_residual-in_err-answer.ensures.1

pub let_go-requires : goal.let_go-requires
let_go-requires c = release-lets-go (done-by _ c.args.roles.now _ _ c.in_ok-lengths.ensures c.in_ok-answer.ensures c.release.auto.ledger (omega arith))

pub returns : goal.returns
returns c = release-kept (done-by _ c.args.roles.now _ _ c.in_ok-lengths.ensures c.in_ok-answer.ensures c.release.auto.ledger (omega arith)) c.named_ahead-released.ensures c.let_go.ensures
