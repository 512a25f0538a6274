-- `client::forget_and_read` meets its contract: a release that is saved, then the newest save is shown.
-- Assumes nothing.
use native.Mathlib.Omega.{arith}
use mathlib.Core.Path.{refl, ◌∙◌}
use mathlib.Core.Bool.{false}
use Rattle.std.proofs.Common.{rules}
use Rattle.client.proofs.Days.{goes_on, stops, not_done}
use Rattle.client.proofs.Shown.{given}
use Rattle.client.proofs.Saves.{left-later, released-reads}
use Rattle.client.proofs.forget_and_read.Goals as goal

pub returns-in_err-forget : goal.returns-in_err-forget
returns-in_err-forget c =
    record {
      ledger_after = stops _ _ _ _ c.in_err-forget.ensures c.from_residual.result (search rules);
      value = λ a whole. not_done _ _ _ _ c.in_err-forget.ensures a;
    }

pub returns : goal.returns
returns c =
    let forgotten = c.in_ok-forget.ensures in record {
      ledger_after = c.show.ensures.ledger_after ∙ goes_on _ _ forgotten (omega arith) _ _;
      value = λ a whole.
          given (released-reads _ (omega arith) _ a _ _ (left-later _ false (omega arith) _ a forgotten _ _ _ refl c.forget.auto.ledger whole)) c.show.ensures.ledger_after c.show.ensures.out_after;
    }
