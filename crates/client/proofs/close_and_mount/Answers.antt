-- `client::close_and_mount` meets its contract: a closing, then a mount.
-- Assumes nothing.
use native.Mathlib.Omega.{arith}
use mathlib.Core.Path.{refl}
use Rattle.std.proofs.Common.{rules}
use Rattle.client.proofs.Days.{then-called, stops, not_done}
use Rattle.client.proofs.Saves.{mounted-shows}
use Rattle.client.proofs.close_and_mount.Goals as goal

pub returns-in_err-close : goal.returns-in_err-close
returns-in_err-close c =
    record {
      ledger_after = stops _ _ _ _ c.in_err-close.ensures c.from_residual.result (search rules);
      shows_save = λ a. not_done _ _ _ _ c.in_err-close.ensures a;
    }

pub returns : goal.returns
returns c =
    let mounted = then-called _ _ c.in_ok-close.ensures (omega arith) _ c.mount.ensures in record {
      ledger_after = mounted;
      shows_save = λ a. mounted-shows _ c.args.fresh (omega arith) _ _ _ refl a mounted;
    }
