-- `client::save_and_look_back` meets its contract: a save, then a look back.
-- Assumes nothing.
use native.Mathlib.Omega.{arith}
use mathlib.Core.Path.{refl}
use Rattle.std.proofs.Common.{rules}
use Rattle.client.proofs.Days.{then-called, stops, not_done}
use Rattle.client.proofs.Saves.{saved-back}
use Rattle.client.proofs.save_and_look_back.Goals as goal

pub returns-in_err-save : goal.returns-in_err-save
returns-in_err-save c =
    record {
      ledger_after = stops _ _ _ _ c.in_err-save.ensures c.from_residual.result (search rules);
      value = λ a. not_done _ _ _ _ c.in_err-save.ensures a;
    }

pub returns : goal.returns
returns c =
    let looked = then-called _ _ c.in_ok-save.ensures (omega arith) _ c.look_back.ensures in record {
      ledger_after = looked;
      value = λ a. saved-back _ c.args.fresh (omega arith) _ _ _ refl a looked;
    }
