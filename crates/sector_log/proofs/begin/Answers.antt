-- `sector_log::begin` meets its contract.
-- Assumes nothing.
use mathlib.Core.Path.{sym}
use Rattle.disc.specs.Disc.{lent}
use Rattle.recorder.proofs.Done.{ledger-accepted}
use Rattle.calls.proofs.Left.{begin-left}
use Rattle.sector_log.proofs.Refused.{refused}
use Rattle.sector_log.proofs.begin.Goals as goal

pub returns-in_err-recorded : goal.returns-in_err-recorded
returns-in_err-recorded c = refused _ _ _ _ _ c.in_err-recorded.ensures.outcome c.from_residual.ensures.1

pub store-requires : goal.store-requires
store-requires c = ledger-accepted _ _ _ (sym c.in_ok-recorded.ensures.outcome)

pub returns : goal.returns
returns c = cc (begin-left (lent c.args.image.now c.args.kinds.now) c.args.ledger.now (sym c.in_ok-recorded.ensures.outcome), c.in_ok-recorded.ensures.found)
