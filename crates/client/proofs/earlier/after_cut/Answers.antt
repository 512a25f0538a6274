-- `client::earlier::after_cut` meets its contract: the newest save is shown.
-- Assumes nothing.
use native.Mathlib.Omega.{arith}
use Rattle.client.proofs.Shown.{given}
use Rattle.client.proofs.Saves.{cut-reads}
use Rattle.client.proofs.earlier.after_cut.Goals as goal

pub returns : goal.returns
returns c =
    λ x fresh stamp old new call j tear left ok cut alike fit long whole.
    given (cut-reads x fresh ok _ stamp _ _ call j tear _ _ _ (omega arith) fit cut alike long whole) c.show.ensures.ledger_after c.show.ensures.out_after
