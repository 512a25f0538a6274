-- `client::earlier::after_closing` meets its contract: the closing's save is shown.
-- Assumes nothing.
use native.Mathlib.Omega.{arith}
use Rattle.client.proofs.Shown.{given}
use Rattle.client.proofs.Closings.{closing-reads}
use Rattle.client.proofs.earlier.after_closing.Goals as goal

pub returns : goal.returns
returns c =
    λ x fresh block main reserve n held tried ok all there fit long whole.
    given (closing-reads x fresh ok _ _ _ _ _ all _ _ _ _ (omega arith) fit there long whole) c.show.ensures.ledger_after c.show.ensures.out_after
