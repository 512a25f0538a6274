-- `client::earlier::after_crash` meets its contract: the newest save is shown.
-- Assumes nothing.
use native.Mathlib.Omega.{arith}
use Rattle.client.proofs.Shown.{given}
use Rattle.client.proofs.Saves.{storing-reads, marking-reads}
use Rattle.client.proofs.earlier.after_crash.Goals as goal

pub returns : goal.returns
returns c =
    record {
      value = λ x fresh stamp old new ok stopped fit long whole.
          given (storing-reads x fresh ok _ stamp _ _ _ _ (omega arith) fit long whole stopped) c.show.ensures.ledger_after c.show.ensures.out_after;
      value_2 = λ x fresh stamp old new call j ok stopped fit long whole.
          given (marking-reads x fresh ok _ stamp _ _ _ _ (omega arith) fit long whole call j stopped) c.show.ensures.ledger_after c.show.ensures.out_after;
    }
