-- `sector_log::look_back` meets its contract.
-- Assumes nothing.
use mathlib.Core.Path.{sym}
use Rattle.disc.proofs.Recording.{sound-sized}
use Rattle.recorder.proofs.Done.{ledger-accepted, look-back-done}
use Rattle.calls.proofs.Left.{look-back-left}
use Rattle.sector_log.proofs.Refused.{refused}
use Rattle.sector_log.proofs.look_back.Goals as goal

pub returns-in_err-plan : goal.returns-in_err-plan
returns-in_err-plan c = refused _ _ _ _ _ c.in_err-plan.ensures.outcome c.from_residual.ensures.1

pub show-requires : goal.show-requires
show-requires c =
    let done = sym c.in_ok-plan.ensures.outcome in
    (ledger-accepted _ _ _ done, sound-sized _ (look-back-done _ _ _ done).0, c.in_ok-plan.ensures.found.2)

pub returns : goal.returns
returns c =
    let found = c.in_ok-plan.ensures.found in
    cc (look-back-left _ c.args.ledger.now _ _ (sym c.in_ok-plan.ensures.outcome) found.1, found.0)
