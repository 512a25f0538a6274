-- `client::earlier::after_events` meets its contract: what was saved is shown.
-- Assumes nothing.
use native.Mathlib.Omega.{arith}
use Rattle.client.proofs.Shown.{given}
use Rattle.client.proofs.Whatever.{whatever-reads}
use Rattle.client.proofs.earlier.after_events.Goals as goal

pub returns : goal.returns
returns c =
    λ x fresh stamp block since ok done allowed no-save alike fit long whole.
    given (whatever-reads x fresh ok _ stamp _ since done allowed no-save _ _ (omega arith) fit alike long whole) c.show.ensures.ledger_after c.show.ensures.out_after
