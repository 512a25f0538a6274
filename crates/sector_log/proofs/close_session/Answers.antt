-- `sector_log::close_session` meets its contract.
-- Assumes nothing.
use mathlib.Core.Path.{sym}
use Rattle.calls.proofs.Left.{closing-saves, closing-left}
use Rattle.sector_log.proofs.Refused.{refused}
use Rattle.sector_log.proofs.close_session.Goals as goal

pub returns-in_err-close_session : goal.returns-in_err-close_session
returns-in_err-close_session c = refused _ _ _ _ _ c.in_err-close_session.ensures c.from_residual.ensures.1

pub close-requires : goal.close-requires
close-requires c =
    let t = closing-saves _ _ _ _ _ (sym c.in_ok-close_session.ensures) in
    let v = t.0 in
    (v.0, v.1, v.2, v.3, v.4, v.5, t.1, t.2)

pub returns : goal.returns
returns c = closing-left _ _ _ _ _ (sym c.in_ok-close_session.ensures) c.close.ensures
